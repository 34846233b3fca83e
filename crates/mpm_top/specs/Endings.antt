-- How a command ends, and why.
use Rattle.std.specs.Prelude.{◌≡◌, ℕ, ◌<◌, ◌⊎◌, List, [], ◌∷◌, ◌++◌, Option, Some, None, Result, Ok, Err, length, MatchOption, ⊤, option_and_then, nat_lt, if◌then◌else◌}
use Rattle.mpm_port.specs.Causes.{Rose}
use Rattle.mpm_port.specs.Disks.{Disks, ToldImage, Untold, Missing, Bytes}
use Rattle.mpm_script.specs.declared.event.Timed.{Timed}
use Rattle.mpm_script.specs.Scripts.{script_of}
use Rattle.mpm_machine_file.specs.declared.lists.DriveSpec.{DriveSpec}
use Rattle.mpm_mount.specs.declared.errors.ImageFault.{ImageFault as FaultOfImage}
use Rattle.mpm_mount.specs.Drives.{Drive}
use Rattle.mpm_mount.specs.Images.{files_of}
use Rattle.mpm_drives.specs.declared.error.BootError.{BootError}
use Rattle.mpm_drives.specs.declared.error.BootError.TheVariants.{Image, DiskFault as FailedToMount, OutOfMemory as NoMemory}
use Rattle.mpm_drives.specs.Images.{Images}
use Rattle.mpm_drives.specs.Mounted.{number_of}
use Rattle.mpm_drives.specs.Stopping.{Stops}
use Rattle.mpm_system.specs.declared.system.System.{System}
use Rattle.mpm_machine.specs.State.{State}
use Rattle.mpm_machine.specs.declared.machine.StepFault.{StepFault}
use Rattle.mpm_machine.specs.declared.machine.StepFault.TheVariants.{WriteFault as SinkFailed, DiskFault as DriveFailed}
use Rattle.mpm_machine.specs.declared.machine.RunFault.{RunFault}
use Rattle.mpm_top.specs.declared.words.Form.{Form}
use Rattle.mpm_top.specs.declared.status.Input.{Input}
use Rattle.mpm_top.specs.declared.status.Input.TheVariants.{ScriptText}
use Rattle.mpm_top.specs.declared.status.Status.{Status}
use Rattle.mpm_top.specs.declared.status.Status.TheVariants.{Ran, Usage, MachineFault, ScriptFault, ImageFault, TooLong, ReadFault, DiskFault, WriteFault, OutOfMemory}
use Rattle.mpm_top.specs.Beginnings.{Contents, Host, FailedSoFar, input_of, room_for, system_of, script_name, drives_listed, Holds, Scripted, BeginsOf}

-- why a file wasn't fetched as an input: it is longer than it may be, its name joined the failed names, or there was no
-- memory. A file that isn't known may have been longer
abbrev pub Unfetched : Contents → Input → List ℕ → List (List ℕ) → List (List ℕ) → Status → Type 0
Unfetched contents input name old new Ran = ⊥
Unfetched contents input name old new Usage = ⊥
Unfetched contents input name old new MachineFault = ⊥
Unfetched contents input name old new (ScriptFault line) = ⊥
Unfetched contents input name old new (ImageFault drive cause place) = ⊥
Unfetched contents input name old new (DiskFault step) = ⊥
Unfetched contents input name old new (TooLong what) = (what ≡ input) × MatchOption (contents name) ⊤ (λ file. room_for input < length file)
Unfetched contents input name old new ReadFault = new ≡ old ++ (name ∷ [])
Unfetched contents input name old new (WriteFault step) = ⊥
Unfetched contents input name old new OutOfMemory = Unit {0}

-- that line is the first of a script's file that is none of a script
pub record HasBadLine (contents : Contents) (script : List ℕ) (line : ℕ) : Type 0 where
  pub text : List ℕ
  pub contents_are : Holds contents ScriptText script text
  pub bad : script_of text ≡ Err line

-- why a script wasn't read: its file wasn't fetched, or has a bad line
abbrev pub Unread : Contents → List ℕ → List (List ℕ) → List (List ℕ) → Status → Type 0
Unread contents script old new Ran = ⊥
Unread contents script old new Usage = ⊥
Unread contents script old new MachineFault = ⊥
Unread contents script old new (ScriptFault line) = HasBadLine contents script line
Unread contents script old new (ImageFault drive cause place) = ⊥
Unread contents script old new (DiskFault step) = ⊥
Unread contents script old new (TooLong what) = Unfetched contents ScriptText script old new (TooLong what)
Unread contents script old new ReadFault = Unfetched contents ScriptText script old new ReadFault
Unread contents script old new (WriteFault step) = ⊥
Unread contents script old new OutOfMemory = Unit {0}

-- a command of a form whose file holds bytes of which `Of` holds, and that are no machine file
pub record IsNoMachine (form : Form) (Of : List ℕ → Type 0) : Type 0 where
  pub bytes : List ℕ
  pub contents_are : Of bytes
  pub none : system_of form bytes [] ≡ None

-- they are a machine file, and the script that it names wasn't read
pub record LacksScript (contents : Contents) (form : Form) (Of : List ℕ → Type 0) (old new : List (List ℕ)) (status : Status) : Type 0 where
  pub bytes : List ℕ
  pub contents_are : Of bytes
  pub script : List ℕ
  pub named : script_name form bytes ≡ Some script
  pub unread : Unread contents script old new status

-- they are a machine file, and its script, if it names one, was read; but its drives weren't mounted, which left these images
pub record LacksDrive (disks : Disks) (host : Host) (form : Form) (Of : List ℕ → Type 0) (old new : FailedSoFar) (error : BootError) : Type 0 where
  pub bytes : List ℕ
  pub events : List Timed
  pub system : System
  pub contents_are : Of bytes
  pub scripted : Scripted host.contents (script_name form bytes) events
  pub is : system_of form bytes events ≡ Some system
  pub stops : Stops disks host.images (drives_listed form bytes) old.drives new.drives error

-- it began, and one of its drives failed later, which adds no failed name
pub record LosesDrive (host : Host) (form : Form) (Of : List ℕ → Type 0) (old new : FailedSoFar) : Type 0 where
  pub start : State
  pub begins : BeginsOf host form Of start
  pub some : 0 < length begins.on
  pub rose : Rose old.drives.faults new.drives.faults
  pub names : new.drives.names ≡ old.drives.names

-- how such a command ends, by the images that its drives have then
abbrev pub EndsAfter : Disks → Host → Form → (List ℕ → Type 0) → FailedSoFar → FailedSoFar → Status → Type 0
EndsAfter disks host form Of old new Ran = (s : State) × BeginsOf host form Of s
EndsAfter disks host form Of old new Usage = ⊥
EndsAfter disks host form Of old new MachineFault = IsNoMachine form Of
EndsAfter disks host form Of old new (ScriptFault line) = LacksScript host.contents form Of old.files new.files (ScriptFault line)
EndsAfter disks host form Of old new (ImageFault drive cause place) = LacksDrive disks host form Of old new (Image drive cause place)
EndsAfter disks host form Of old new (TooLong what) = LacksScript host.contents form Of old.files new.files (TooLong what)
EndsAfter disks host form Of old new ReadFault = LacksScript host.contents form Of old.files new.files ReadFault
EndsAfter disks host form Of old new (DiskFault step) = ((step ≡ 0) × LacksDrive disks host form Of old new FailedToMount) ⊎ LosesDrive host form Of old new
EndsAfter disks host form Of old new (WriteFault step) = (s : State) × BeginsOf host form Of s
EndsAfter disks host form Of old new OutOfMemory = Unit {0}

-- how a command of a form and a file ends: the file wasn't fetched, or it was, and then by its bytes
abbrev pub Ends : Disks → Host → Form → List ℕ → FailedSoFar → FailedSoFar → Status → Type 0
Ends disks host form name old new status =
    Unfetched host.contents (input_of form) name old.files new.files status
    ⊎ EndsAfter disks host form (Holds host.contents (input_of form) name) old new status

-- how a command ends whose files and images are known, if nothing fails and there is memory. The order is that of the refusals

-- by what an image stands for, and how it ends if that is no fault
abbrev pub ending_mounted : DriveSpec → Result Drive FaultOfImage → Option Status → Option Status
ending_mounted spec (Ok files) rest = rest
ending_mounted spec (Err fault) rest = Some (ImageFault (number_of spec) fault.cause fault.place)

abbrev pub ending_attached : DriveSpec → ToldImage → Option Status → Option Status
ending_attached spec Untold rest = None
ending_attached spec Missing rest = Some (DiskFault 0)
ending_attached spec (Bytes image) rest = ending_mounted spec (files_of image spec.kind) rest

-- by its drives, in order of their letters
unfoldable pub ending_drives : Images → List DriveSpec → Option Status
ending_drives images [] = Some Ran
ending_drives images (spec ∷ specs) = ending_attached spec (images spec.image) (ending_drives images specs)

-- by what its script holds
abbrev pub ending_read : Option Status → Result (List Timed) ℕ → Option Status
ending_read drives (Ok events) = drives
ending_read drives (Err line) = Some (ScriptFault line)

abbrev pub ending_told : Option Status → List ℕ → Option Status
ending_told drives text = if nat_lt (room_for ScriptText) (length text) then Some (TooLong ScriptText) else ending_read drives (script_of text)

-- by the script that is named
abbrev pub ending_scripted : Contents → Option Status → Option (List ℕ) → Option Status
ending_scripted contents drives None = drives
ending_scripted contents drives (Some script) = option_and_then (ending_told drives) (contents script)

-- by what its file stands for
abbrev pub ending_stood : Contents → Option Status → Option (List ℕ) → Option System → Option Status
ending_stood contents drives script None = Some MachineFault
ending_stood contents drives script (Some system) = ending_scripted contents drives script

-- by what its file holds
abbrev pub ending_by_contents : Host → Form → List ℕ → Option Status
ending_by_contents host form bytes =
    if nat_lt (room_for (input_of form)) (length bytes) then Some (TooLong (input_of form))
    else ending_stood host.contents (ending_drives host.images (drives_listed form bytes)) (script_name form bytes) (system_of form bytes [])

unfoldable pub ending : Host → Form → List ℕ → Option Status
ending host form name = option_and_then (ending_by_contents host form) (host.contents name)

-- the program ended before the first step, and no drive failed: nothing is written then
abbrev pub IsRefusal : Status → Type 0
IsRefusal Ran = ⊥
IsRefusal Usage = Unit {0}
IsRefusal MachineFault = Unit {0}
IsRefusal (ScriptFault line) = Unit {0}
IsRefusal (ImageFault drive cause place) = Unit {0}
IsRefusal (TooLong what) = Unit {0}
IsRefusal ReadFault = Unit {0}
IsRefusal (DiskFault step) = ⊥
IsRefusal (WriteFault step) = ⊥
IsRefusal OutOfMemory = Unit {0}

-- the program ended before the first step
abbrev pub IsEarly : Status → Type 0
IsEarly Ran = ⊥
IsEarly Usage = Unit {0}
IsEarly MachineFault = Unit {0}
IsEarly (ScriptFault line) = Unit {0}
IsEarly (ImageFault drive cause place) = Unit {0}
IsEarly (TooLong what) = Unit {0}
IsEarly ReadFault = Unit {0}
IsEarly (DiskFault step) = step ≡ 0
IsEarly (WriteFault step) = ⊥
IsEarly OutOfMemory = Unit {0}

-- how a command ends whose machine isn't booted
abbrev pub status_of : BootError → Status
status_of (Image drive cause place) = ImageFault drive cause place
status_of FailedToMount = DiskFault 0
status_of NoMemory = OutOfMemory

-- how a command ends whose run stopped
abbrev pub ended_by : StepFault → ℕ → Status
ended_by SinkFailed step = WriteFault step
ended_by DriveFailed step = DiskFault step

abbrev pub stopped_by : RunFault → Status
stopped_by error = ended_by error.fault error.step

-- one of four, by the device whose fault ended the program: none, a file, a drive, or the output
abbrev pub by_fault : Type 0 → Type 0 → Type 0 → Type 0 → Status → Type 0
by_fault none file drive output Ran = none
by_fault none file drive output Usage = none
by_fault none file drive output MachineFault = none
by_fault none file drive output (ScriptFault line) = none
by_fault none file drive output (ImageFault letter cause place) = none
by_fault none file drive output (TooLong what) = none
by_fault none file drive output ReadFault = file
by_fault none file drive output (DiskFault step) = drive
by_fault none file drive output (WriteFault step) = output
by_fault none file drive output OutOfMemory = none

-- what holds of every ending but a fault of a file
abbrev pub UnlessReadFault : Status → Type 0 → Type 0
UnlessReadFault status P = by_fault P ⊤ P P status

-- what holds of every ending but a fault of a drive
abbrev pub UnlessDiskFault : Status → Type 0 → Type 0
UnlessDiskFault status P = by_fault P P ⊤ P status

-- what holds of every ending at which the output can't have failed: where a drive did, the unfinished lines are closed
abbrev pub UnlessWriteFault : Status → Type 0 → Type 0
UnlessWriteFault status P = by_fault P P ⊤ ⊤ status

-- an ending of one kind, unless memory was wanted
abbrev pub EndsAs : Status → Status → Type 0
EndsAs wanted status = (status ≡ wanted) ⊎ (status ≡ OutOfMemory)
