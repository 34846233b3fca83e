-- What a run leaves of drives and output: where it ends, and where it stopped.
use Rattle.std.specs.Prelude.{◌≡◌, ◌≢◌, ℕ, ◌+◌, ◌-◌, ◌<◌, ◌≤◌, ◌⊎◌, Bool, false, List, ◌++◌, Option, Some, None, Ok, ⊤, slice_index_or}
use Rattle.std.specs.List.{AllByRecursion}
use Rattle.mpm_port.specs.Causes.{Rose}
use Rattle.mpm_port.specs.Disks.{Disks, Untold, Brings, size_of}
use Rattle.mpm_render.specs.Outputs.{rendered, closed}
use Rattle.mpm_render.specs.Shown.{EndsBetween}
use Rattle.mpm_machine_file.specs.declared.lists.DriveSpec.{DriveSpec}
use Rattle.mpm_mount.specs.Directories.{Directory}
use Rattle.mpm_mount.specs.Drives.{Drive}
use Rattle.mpm_mount.specs.Images.{files_of}
use Rattle.mpm_drives.specs.Images.{Images}
use Rattle.mpm_drives.specs.Mounted.{number_of}
use Rattle.mpm_directories.specs.Places.{directory_at}
use Rattle.mpm_machine.specs.State.{State}
use Rattle.mpm_machine.specs.Files.{drives_in, filing_in}
use Rattle.mpm_machine.specs.After.{after, EndsInStep}
use Rattle.mpm_machine.specs.Failing.{FailsWithin, StopsOn}
use Rattle.mpm_machine.specs.Settling.{carried, left_of}
use Rattle.mpm_machine.specs.Faults.{FailureCounts}
use Rattle.mpm_machine.specs.Mounting.{HasDrives, HasNoDrive}
use Rattle.mpm_machine.specs.declared.machine.RunFault.{RunFault}
use Rattle.mpm_machine.specs.declared.machine.StepFault.{StepFault}
use Rattle.mpm_machine.specs.declared.machine.StepFault.TheVariants.{WriteFault as SinkFailed, DiskFault as DriveFailed}

-- what the output has: its text, and the count of its faults
pub record Printed : Type 0 where
  pub text : List ℕ
  pub faults : ℕ

abbrev pub printed : {S : Type 0} → (S → List ℕ) → (S → ℕ) → S → Printed
printed written faults sink = record { text = written sink; faults = faults sink }

-- a drive that a machine file lists is attached by the name of its image. That image is the one that is known of the name, where one is; and
-- it stands for what is on the drive in the place of its number
pub record IsLeft (disks : Disks) (told : Images) (drives : List (Option Drive)) (spec : DriveSpec) : Type 0 where
  pub name : disks.name_of (number_of spec) ≡ Some spec.image
  pub image : List ℕ
  pub attached : disks.image (number_of spec) ≡ Some image
  pub agrees : Brings (told spec.image) image
  pub files : Drive
  pub stands : files_of image spec.kind ≡ Ok files
  pub is : slice_index_or drives (number_of spec) None ≡ Some files

-- the images of the drives that a machine file lists stand for what is on the drives, and no other place has a drive
pub record StandFor (disks : Disks) (told : Images) (specs : List DriveSpec) (drives : List (Option Drive)) : Type 0 where
  pub each : AllByRecursion (IsLeft disks told drives) specs
  pub others : (number : ℕ) → AllByRecursion (λ spec. number_of spec ≢ number) specs → slice_index_or drives number None ≡ None

-- what is on the drives of a state: where a call is in service, what its first turns have made of them; and after the end of a run, where
-- none is any more
abbrev pub drives_of : State → List (Option Drive)
drives_of s = drives_in s.system.kernel.disk.served s.files

abbrev pub drives_left : State → List (Option Drive)
drives_left s = (filing_in (carried s).files).drives

-- a drive that isn't mounted has its image and its name, if it has any
pub record KeepsUnmounted (disks now : Disks) (mounted : List (Option Directory)) : Type 0 where
  pub images : (number : ℕ) → directory_at mounted number ≡ None → now.image number ≡ disks.image number
  pub names : (number : ℕ) → directory_at mounted number ≡ None → now.name_of number ≡ disks.name_of number

-- a drive has the name that it had, and an image of the same size, if it had one
abbrev pub IsAttachedAs : Disks → Disks → ℕ → Type 0
IsAttachedAs disks now number = (now.name_of number ≡ disks.name_of number) × (size_of now number ≡ size_of disks number)

-- each drive of a machine file is synced: no write to it was asked for since
abbrev pub AreSyncedOf : (ℕ → Bool) → List DriveSpec → Type 0
AreSyncedOf unsynced specs = AllByRecursion (λ spec. unsynced (number_of spec) ≡ false) specs

-- each drive is synced, or attached as it was
abbrev pub SyncsAttached : Disks → Disks → (ℕ → Bool) → Type 0
SyncsAttached disks now unsynced = (number : ℕ) → IsAttachedAs disks now number ⊎ (unsynced number ≡ false)

-- a drive that a machine file doesn't list has its name, and its image too where no listed drive has that name. What is known of the image
-- of a name that it doesn't list is as it was, and of which image something was known, it still is
pub record KeepsOthers (told told' : Images) (disks now : Disks) (specs : List DriveSpec) : Type 0 where
  pub names : (number : ℕ) → AllByRecursion (λ spec. number_of spec ≢ number) specs → now.name_of number ≡ disks.name_of number
  pub images : (number : ℕ) → AllByRecursion (λ spec. number_of spec ≢ number) specs → AllByRecursion (λ spec. Some spec.image ≢ disks.name_of number) specs
      → now.image number ≡ disks.image number
  pub others : (image : List ℕ) → AllByRecursion (λ spec. spec.image ≢ image) specs → told' image ≡ told image
  pub still : (image : List ℕ) → told' image ≡ Untold → told image ≡ Untold

-- So many steps were done after a state, and the end: the text of all of that was written, with unfinished lines closed, and what is then
-- on the drives stands
pub record RunsOut (Stand : List (Option Drive) → Type 0) (trace : Bool) (s : State) (steps : ℕ) (old new : Printed) : Type 0 where
  pub text : new.text ≡ old.text ++ closed trace (carried (after steps s)).outputs
  pub stand : Stand (drives_left (after steps s))

-- Writing stopped in one of them, in the text of that step, and what is on the drives after it stands
abbrev pub StopsInText : (List (Option Drive) → Type 0) → Bool → State → ℕ → Printed → Printed → ℕ → Type 0
StopsInText Stand trace s steps old new step =
    EndsInStep SinkFailed trace new.text old.text s steps step × Stand (drives_of (after (step - s.system.steps) s))

-- or after them, in the text of the end
pub record StopsInEnd (Stand : List (Option Drive) → Type 0) (trace : Bool) (s : State) (steps : ℕ) (old new : Printed) (step : ℕ) : Type 0 where
  pub is : step ≡ steps
  pub text : EndsBetween new.text old.text (rendered trace (after steps s).outputs) (closed trace (carried (after steps s)).outputs)
  pub stand : Stand (drives_left (after steps s))

abbrev pub StopsAt : (List (Option Drive) → Type 0) → Bool → State → ℕ → Printed → Printed → ℕ → Type 0
StopsAt Stand trace s steps old new step = StopsInText Stand trace s steps old new step ⊎ StopsInEnd Stand trace s steps old new step

-- the unfinished lines of the outputs of a state were closed; or the output failed besides, and a first part of that was written
abbrev pub ClosesText : Bool → State → Printed → Printed → Type 0
ClosesText trace s old new =
    (new.text ≡ old.text ++ closed trace s.outputs)
    ⊎ (Rose old.faults new.faults × EndsBetween new.text old.text (rendered trace s.outputs) (closed trace s.outputs))

-- where a drive failed, that is so after a state
abbrev pub ClosesAfter : StepFault → Bool → State → Printed → Printed → Type 0
ClosesAfter SinkFailed trace s old new = ⊤
ClosesAfter DriveFailed trace s old new = ClosesText trace s old new

-- a drive failed in the step after a state, and what that left on the drives stands
pub record LeftBefore (Stand : List (Option Drive) → Type 0) (s : State) : Type 0 where
  pub drives : List (Option Drive)
  pub fails : StopsOn DriveFailed s.system s.files drives
  pub stand : Stand drives

-- A drive failed in one of the steps, and the unfinished lines of those before it were closed
pub record ClosesBefore (Stand : List (Option Drive) → Type 0) (trace : Bool) (s : State) (steps : ℕ) (old new : Printed) (step : ℕ) : Type 0 where
  pub later : s.system.steps < step
  pub within : step ≤ s.system.steps + steps
  pub text : ClosesText trace (after (step - 1 - s.system.steps) s) old new
  pub left : LeftBefore Stand (after (step - 1 - s.system.steps) s)

-- or after all of them, in a turn of the call in service: the unfinished lines of the steps were closed
pub record LeftInTurn (Stand : List (Option Drive) → Type 0) (s : State) : Type 0 where
  pub drives : List (Option Drive)
  pub fails : FailsWithin (left_of s.files s.system.kernel.disk.served) drives
  pub stand : Stand drives

pub record ClosesInTurn (Stand : List (Option Drive) → Type 0) (trace : Bool) (s : State) (steps : ℕ) (old new : Printed) (step : ℕ) : Type 0 where
  pub is : step ≡ steps
  pub text : ClosesText trace (after steps s) old new
  pub left : LeftInTurn Stand (after steps s)

-- or as it was synced: those of the end were too
pub record ClosesInSync (Stand : List (Option Drive) → Type 0) (trace : Bool) (s : State) (steps : ℕ) (old new : Printed) (step : ℕ) : Type 0 where
  pub is : step ≡ steps
  pub text : ClosesText trace (carried (after steps s)) old new
  pub stand : Stand (drives_left (after steps s))

abbrev pub ClosesAt : (List (Option Drive) → Type 0) → Bool → State → ℕ → Printed → Printed → ℕ → Type 0
ClosesAt Stand trace s steps old new step =
    ClosesBefore Stand trace s steps old new step ⊎ (ClosesInTurn Stand trace s steps old new step ⊎ ClosesInSync Stand trace s steps old new step)

-- by the fault
abbrev pub StopsRunBy : (List (Option Drive) → Type 0) → StepFault → Bool → State → ℕ → Printed → Printed → ℕ → Type 0
StopsRunBy Stand SinkFailed trace s steps old new step = StopsAt Stand trace s steps old new step
StopsRunBy Stand DriveFailed trace s steps old new step = ClosesAt Stand trace s steps old new step

-- which count rose where a run stopped
abbrev pub Causes : StepFault → FailureCounts → FailureCounts → Type 0
Causes SinkFailed old new = Rose old.sink new.sink × (new.drives ≡ old.drives)
Causes DriveFailed old new = Rose old.drives new.drives

-- a run leaves the names and the sizes of all drives. An image that is no listed drive's is as it was, no name joined the failed ones, and
-- where no drive is mounted none was called
pub record RunLeaves {D : Type 0} (disks : D → Disks) (told : D → Images) (failed : D → List (List ℕ)) (mounted : List (Option Directory)) (old new : D) : Type 0 where
  pub others : (specs : List DriveSpec) → HasDrives (disks old) specs mounted → KeepsOthers (told old) (told new) (disks old) (disks new) specs
  pub attached : (number : ℕ) → IsAttachedAs (disks old) (disks new) number
  pub names : failed new ≡ failed old
  pub none : HasNoDrive mounted → new ≡ old

-- it stopped in one of its steps, or in its end without one, with the images as they were known before; and where no drive is mounted
-- the sink failed
pub record StopsInRun {D : Type 0} (told : D → Images) (mounted : List (Option Directory)) (steps : ℕ) (old new : D) (error : RunFault) : Type 0 where
  pub within : error.step ≤ steps
  pub early : error.step ≡ 0 → told new ≡ told old
  pub sink : HasNoDrive mounted → error.fault ≡ SinkFailed
