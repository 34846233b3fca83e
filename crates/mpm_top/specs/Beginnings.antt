-- With what a command begins, by the machine's model.
use Rattle.std.specs.Prelude.{◌≡◌, ℕ, ◌≤◌, List, [], Option, Some, None, Ok, length, MatchOption, ⊤, option_map, option_and_then}
use Rattle.std.specs.Option.{option_map_or}
use Rattle.mpm_port.specs.Disks.{Disks}
use Rattle.mpm_script.specs.declared.event.Timed.{Timed}
use Rattle.mpm_script.specs.Scripts.{script_of}
use Rattle.mpm_machine_file.specs.declared.lists.DriveSpec.{DriveSpec}
use Rattle.mpm_machine_file.specs.MachineFiles.{machine_of_text}
use Rattle.mpm_drives.specs.Images.{Images}
use Rattle.mpm_drives.specs.Mounted.{NumberedDrive, AreDrivesOf, placed}
use Rattle.mpm_drives.specs.Stopping.{Failures}
use Rattle.mpm_system.specs.declared.system.System.{System}
use Rattle.mpm_system.specs.Opening.{opening_system, opened}
use Rattle.mpm_bdos.specs.Serving.{Kept as Filed}
use Rattle.mpm_machine.specs.State.{State}
use Rattle.mpm_machine.specs.Files.{Between, StandsForFiles}
use Rattle.mpm_machine.specs.Mounting.{HasDrives, HasNoDrive, untouched}
use Rattle.mpm_machine.specs.Parts.{IsBetweenSteps}
use Rattle.mpm_machine.specs.declared.machine.Machine.{Machine}
use Rattle.mpm_top.specs.declared.words.Form.{Form}
use Rattle.mpm_top.specs.declared.words.Form.TheVariants.{Program, Run}
use Rattle.mpm_top.specs.declared.words.Asked.{Asked}
use Rattle.mpm_top.specs.declared.status.Input.{Input}
use Rattle.mpm_top.specs.declared.status.Input.TheVariants.{ProgramBytes, MachineText, ScriptText}
use Rattle.mpm_top.specs.Words.{Command}

-- what files hold, by their names, where that is known
abbrev pub Contents : Type 0
Contents = List ℕ → Option (List ℕ)

-- what a command finds: what files hold, and what is known of images by their names
pub record Host : Type 0 where
  pub contents : Contents
  pub images : Images

-- what failed so far: the names of files that couldn't be fetched, oldest first, and the drives' failures
pub record FailedSoFar : Type 0 where
  pub files : List (List ℕ)
  pub drives : Failures

-- the input that the file of a command is
abbrev pub input_of : Form → Input
input_of Program = ProgramBytes
input_of Run = MachineText

-- how long an input may be
abbrev pub room_for : Input → ℕ
room_for ProgramBytes = 48512
room_for MachineText = 65536
room_for ScriptText = 1048576

abbrev pub host : {F D : Type 0} → (F → Contents) → (D → Images) → F → D → Host
host contents told files drives = record { contents = contents files; images = told drives }

abbrev pub failed : {F D : Type 0} → (F → List (List ℕ)) → (D → ℕ) → (D → List (List ℕ)) → F → D → FailedSoFar
failed of_files faults names files drives = record { files = of_files files; drives = record { faults = faults drives; names = names drives } }

-- what is asked of a file of a name
abbrev pub command_on : List ℕ → Asked → Command
command_on name asked = record { form = asked.form; name = name; steps = asked.steps; trace = asked.trace }

-- the system that a command begins with, by the bytes of its file and the events of its script; None where the bytes are no
-- machine file
unfoldable pub system_of : Form → List ℕ → List Timed → Option System
system_of Program bytes events = Some (opening_system bytes)
system_of Run bytes events = option_map (λ file. opened file events) (machine_of_text bytes)

-- the name of the script that a machine file names
unfoldable pub script_name : Form → List ℕ → Option (List ℕ)
script_name Program bytes = None
script_name Run bytes = option_and_then (λ file. file.script) (machine_of_text bytes)

-- the drives that a machine file lists
unfoldable pub drives_listed : Form → List ℕ → List DriveSpec
drives_listed Program bytes = []
drives_listed Run bytes = option_map_or (λ file. file.drives) (machine_of_text bytes) []

-- the state of a system that begins with drives: nothing is said yet, and nothing open
abbrev pub begun : System → List NumberedDrive → State
begun system drives = record { system = system; outputs = []; files = Between (untouched (placed drives)) }

-- a file holds these bytes, or, where it isn't known, it may have held them, and it isn't too long as that input
pub record Holds (contents : Contents) (input : Input) (name bytes : List ℕ) : Type 0 where
  pub told : MatchOption (contents name) ⊤ (λ file. bytes ≡ file)
  pub fits : length bytes ≤ room_for input

-- the file of a script holds these events
pub record HoldsEvents (contents : Contents) (script : List ℕ) (events : List Timed) : Type 0 where
  pub text : List ℕ
  pub contents_are : Holds contents ScriptText script text
  pub read : script_of text ≡ Ok events

-- the events of a script; without one there are none
abbrev pub Scripted : Contents → Option (List ℕ) → List Timed → Type 0
Scripted contents None events = events ≡ []
Scripted contents (Some script) events = HoldsEvents contents script events

-- a command of a form begins with that state, where its file holds bytes of which `Of` holds. Nothing is said yet, and on the drives is
-- what some images stand for. They are those that are known of their names, where such are
pub record BeginsOf (host : Host) (form : Form) (Of : List ℕ → Type 0) (s : State) : Type 0 where
  pub bytes : List ℕ
  pub events : List Timed
  pub contents_are : Of bytes
  pub scripted : Scripted host.contents (script_name form bytes) events
  pub is : system_of form bytes events ≡ Some s.system
  pub on : List NumberedDrive
  pub drives : AreDrivesOf host.images (drives_listed form bytes) on
  pub files : s.files ≡ Between (untouched (placed on))
  pub outputs : s.outputs ≡ []

-- a command of a form and a file begins with that state
abbrev pub BeginsCommand : Host → Form → List ℕ → State → Type 0
BeginsCommand host form name s = BeginsOf host form (Holds host.contents (input_of form) name) s

-- with that a machine begins: what is kept of files, and the images, stand for what is on the drives; and no call is in service
pub record StartsOf (host : Host) (form : Form) (Of : List ℕ → Type 0) (system : System) (kept : Filed) (disks : Disks) : Type 0 where
  pub drives : List NumberedDrive
  pub begins : BeginsOf host form Of (begun system drives)
  pub same : begins.on ≡ drives
  pub files : StandsForFiles system.kernel.disk kept disks (Between (untouched (placed drives)))
  pub listed : HasDrives disks (drives_listed form begins.bytes) kept.mounted
  pub bare : drives ≡ [] → HasNoDrive kept.mounted
  pub idle : system.kernel.disk.served ≡ None

abbrev pub Starts : Host → Form → List ℕ → System → Filed → Disks → Type 0
Starts host form name system kept disks = StartsOf host form (Holds host.contents (input_of form) name) system kept disks

-- a machine at its start: it is between steps, none was done, and no call is in service
pub record IsAtStart {D : Type 0} (disks : D → Disks) (machine : Machine) (drives : D) : Type 0 where
  pub between : IsBetweenSteps disks machine drives
  pub start : machine.system.steps ≡ 0
  pub idle : machine.system.kernel.disk.served ≡ None
