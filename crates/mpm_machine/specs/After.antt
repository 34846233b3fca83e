-- One step, and n steps, of system, files and drives, and what is so of each step.
use Rattle.std.specs.Prelude.{◌≡◌, ℕ, zero, suc, ◌+◌, ◌-◌, ◌<◌, ◌≤◌, Bool, List, ◌++◌, Option, Some, None, ⊤}
use Rattle.mpm_port.specs.Disks.{Disks}
use Rattle.mpm_render.specs.Outputs.{Output, rendered}
use Rattle.mpm_render.specs.Shown.{KeptLines, Shows}
use Rattle.mpm_output.specs.Outside.{Outside}
use Rattle.mpm_output.specs.Writing.{CameOut, Stopped}
use Rattle.mpm_directories.specs.Direct.{Directly}
use Rattle.mpm_bdos.specs.Serving.{Kept}
use Rattle.mpm_residents.specs.declared.native.Native.{Native}
use Rattle.mpm_file_functions.specs.declared.functions.FileFunction.{FileFunction}
use Rattle.mpm_refusals.specs.Filing.{Filing, Situation}
use Rattle.mpm_system.specs.declared.system.System.{System}
use Rattle.mpm_system.specs.Whole.{SystemChange, silent}
use Rattle.mpm_system.specs.FileCalling.{call_made}
use Rattle.mpm_machine.specs.declared.machine.StepFault.{StepFault}
use Rattle.mpm_machine.specs.declared.machine.StepFault.TheVariants.{DiskFault, WriteFault}
use Rattle.mpm_machine.specs.Files.{FilesInService, StandsWorked, StandsForFiles}
use Rattle.mpm_machine.specs.State.{State}
use Rattle.mpm_machine.specs.Faults.{EndsBy}
use Rattle.mpm_machine.specs.FileCalls.{file_caller, situation_of, outcome_in}
use Rattle.mpm_machine.specs.DiskStep.{process_over, file_called, call_entered, disk_served, told_of_call, turns_within}
use Rattle.mpm_machine.specs.Stepping.{rest_of, nothing_told, before_disk, files_begun, told_within, paid_after, files_then, telling_then, telling_of, files_rest, StepMade, stepped}
use Rattle.mpm_machine.specs.Printing.{IsPrinting, DeletesPrinted}
use Rattle.mpm_machine.specs.Spooling.{IsSpooling}
use Rattle.mpm_machine.specs.Contained.{IsContainedBy, IsHanded, Instructs, OnlyInstructed, CallsAtGate, DiffersInBytes, ServedByValue, Resides, ResidedByValue}
use Rattle.mpm_base.specs.Calls.{Answer}
use Rattle.mpm_machine.specs.Interpreting.{Interprets, IsOwnOfNobody}
use Rattle.mpm_machine.specs.Scheduling.{IsScheduling, GoesOnScheduling}

-- what a step that was made of a state leaves
abbrev pub having : StepMade → List Output → State
having step outputs = record { system = step.change.system; outputs = step.change.emitted ++ outputs; files = step.files }

-- one step
unfoldable pub next : State → State
next s = having (stepped s.system s.files) s.outputs

-- n steps
unfoldable pub after : ℕ → State → State
after zero s = s
after (suc n) s = next (after n s)

-- a change, and another after it
abbrev pub followed : SystemChange → SystemChange → SystemChange
followed first last = record { system = last.system; emitted = last.emitted ++ first.emitted }

-- one of those that a definition makes
abbrev pub IsOfSome : {A B : Type 0} → (A → B) → B → Type 0
IsOfSome {A} make made = (a : A) × (made ≡ make a)

-- the system in which the process has made its file call, if one makes such
abbrev pub made_in : Option ℕ → System → System
made_in None old = old
made_in (Some p) old = call_made p old

-- a file call is served by what it took: whatever bytes had stood in memory as it was made, it would come to the same
abbrev pub IsFiledByValue : Option ℕ → System → Type 0
IsFiledByValue None made = ⊤
IsFiledByValue (Some p) made = (filing : Filing) (other : System) → DiffersInBytes made other → outcome_in filing p other ≡ outcome_in filing p made

-- so is one that the disk served: what it comes to goes by what it took, and so does the situation in which a call enters service
abbrev pub IsOverByValue : Option ℕ → System → Type 0
IsOverByValue None begun = ⊤
IsOverByValue (Some p) begun = (s : Situation) (other : System) → DiffersInBytes begun other → told_of_call s p other ≡ told_of_call s p begun

abbrev pub EntersByValue : System → Type 0
EntersByValue system =
    (filing : Filing) (function : FileFunction) (p : ℕ) (other : System) → DiffersInBytes system other
    → situation_of filing function p other ≡ situation_of filing function p system

-- what is so of the step of a state, by what its files show. Each byte that it changes is one that it writes or answers (`contained`). What
-- a resident hands over comes into a segment that it has reserved and in which nobody lives (`hands`). An instruction leaves all but what is
-- its own (`instruction`). A call is served by what it took, and so are a resident's, a file call that is done at once, one that the disk
-- served, and one that enters service (`calls`, `resides`, `filed`, `over`, `enters`). A spooler goes on, what it prints comes to its printer
-- and stands last there while that is its own (`spools`), and it is a first part of its file's text (`prints`). It asks for the file's deletion
-- only after it closed it, and all of its text had come to the printer (`deletes`). A scheduler sends what it accepted, in order, and keeps
-- the rest (`schedules`)
pub record IsStepOf (s : State) : Type 0 where
  pub contained : IsContainedBy (telling_of s.system s.files) s.system (next s).system
  pub hands : Interprets s.system → (seg at : ℕ) → IsHanded s.system seg at → IsOwnOfNobody s.system seg at
  pub instruction : (p seg : ℕ) → Instructs s.system p seg → OnlyInstructed (telling_of s.system s.files) p s.system (next s).system
  pub calls : (p seg : ℕ) → CallsAtGate s.system p seg → file_caller s.system ≡ None → ServedByValue (telling_of s.system s.files) p seg s.system (next s).system
  pub resides : (p : ℕ) (native : Native) → Resides s.system p native → file_caller s.system ≡ None
      → ResidedByValue (telling_of s.system s.files) p native s.system (next s).system
  pub filed : IsFiledByValue (file_caller s.system) (made_in (file_caller s.system) s.system)
  pub over : IsOverByValue (process_over (before_disk s.system s.files).system) (before_disk s.system s.files).system
  pub enters : EntersByValue (paid_after (telling_of s.system s.files).at_disk (before_disk s.system s.files).system)
  pub spools : (q : ℕ) → IsSpooling q s.system s.outputs → IsSpooling q (next s).system (next s).outputs
  pub prints : (q : ℕ) → IsPrinting q s → IsPrinting q (next s)
  pub deletes : (q : ℕ) (p : IsPrinting q s) → DeletesPrinted q s p (next s).system.residents
  pub schedules : (q : ℕ) (answers : List Answer) → IsScheduling q answers s.system.residents → GoesOnScheduling q answers (next s).system.residents

-- what a step begins with was done, by what is on the drives
pub record HasBegunTo (files : FilesInService) (old_outside new_outside : Outside) (old new : System) (kept : Kept) (disks : Disks) : Type 0 where
  pub system : new ≡ (before_disk old files).system
  pub wrote : CameOut old_outside new_outside (before_disk old files).emitted
  pub stands : StandsWorked new.kernel.disk kept disks (files_begun old files)

-- the rest of a step was done
pub record HasEndedTo (instruction : Bool) (files : FilesInService) (old_outside new_outside : Outside) (old new : System) (kept : Kept) (disks : Disks) : Type 0 where
  pub system : new ≡ (rest_of instruction (telling_then nothing_told old files) (silent old)).system
  pub wrote : CameOut old_outside new_outside (rest_of instruction (telling_then nothing_told old files) (silent old)).emitted
  pub stands : StandsForFiles new.kernel.disk kept disks (files_rest old files)

-- a whole step was done
pub record HasSteppedTo (files : FilesInService) (old_outside new_outside : Outside) (old new : System) (kept : Kept) (disks : Disks) : Type 0 where
  pub system : new ≡ (stepped old files).change.system
  pub wrote : CameOut old_outside new_outside (stepped old files).change.emitted
  pub stands : StandsForFiles new.kernel.disk kept disks (stepped old files).files

-- a step stopped: where a drive failed nothing of it was written
abbrev pub StopsBy : StepFault → Outside → Outside → List Output → Type 0
StopsBy WriteFault old new emitted = Stopped old new emitted
StopsBy DiskFault old new emitted = new ≡ old

-- a file call that a process made was done at once, or waits, by what it came to
pub record HasCalled (told : Directly) (p : ℕ) (old_outside new_outside : Outside) (old new : System) : Type 0 where
  pub system : new ≡ (file_called told p old).system
  pub wrote : CameOut old_outside new_outside (file_called told p old).emitted

-- the disk made its step
pub record HasServedTo (files : FilesInService) (old_outside new_outside : Outside) (old new : System) (kept : Kept) (disks : Disks) : Type 0 where
  pub system : new ≡ call_entered (turns_within (files_then old files)) (paid_after (told_within files old) old)
  pub wrote : CameOut old_outside new_outside (disk_served (told_within files old) old).emitted
  pub stands : StandsForFiles new.kernel.disk kept disks (files_then old files)

-- of what is kept of file calls, the rest of a step leaves the directories and what is cached
abbrev pub EndKeeps : Kept → Kept → Type 0
EndKeeps old new = new ≡ record new { mounted = old.mounted; cached = old.cached }

-- where a drive failed in the step after a state, what is kept to be written is that of the state
abbrev pub ShowsBefore : StepFault → KeptLines → List ℕ → State → List ℕ → Type 0
ShowsBefore WriteFault kept written s first = ⊤
ShowsBefore DiskFault kept written s first = Shows kept written s.outputs first

-- it stopped in that step, one of the n steps after a state: all of the steps before it was written, and then, where the sink
-- failed, a first part of what it writes, which isn't empty
pub record EndsInStep (fault : StepFault) (trace : Bool) (written first : List ℕ) (s : State) (n step : ℕ) : Type 0 where
  pub later : s.system.steps < step
  pub within : step ≤ s.system.steps + n
  pub text : EndsBy fault written first (rendered trace (after (step - 1 - s.system.steps) s).outputs)
      (rendered trace (after (step - s.system.steps) s).outputs)
