-- What a step of a machine leaves, or n steps, and where they stop.
use Rattle.std.specs.Prelude.{◌≡◌, ℕ, ◌+◌, ◌-◌, ◌<◌, Bool, true, List, Option, zero, suc}
use Rattle.mpm_port.specs.declared.drives.Drives.{Ghosts}
use Rattle.mpm_mount.specs.Directories.{Directory}
use Rattle.mpm_render.specs.Outputs.{rendered}
use Rattle.mpm_opens.specs.Opens.{AreOpen}
use Rattle.mpm_system.specs.Whole.{IsWhole, NoCompletions}
use Rattle.mpm_machine.specs.declared.machine.Machine.{Machine}
use Rattle.mpm_machine.specs.declared.machine.StepFault.{StepFault}
use Rattle.mpm_machine.specs.declared.machine.RunFault.{RunFault}
use Rattle.mpm_machine.specs.State.{State}
use Rattle.mpm_machine.specs.Faults.{EndsBy}
use Rattle.mpm_machine.specs.Due.{NobodyDue}
use Rattle.mpm_machine.specs.Interpreting.{Interprets}
use Rattle.mpm_machine.specs.Mounting.{KeepsMounted}
use Rattle.mpm_machine.specs.Failing.{Left, StopsWithImages, turns_done, working_in}
use Rattle.mpm_machine.specs.After.{next, after, ShowsBefore, EndsInStep}

-- so many were done: they are counted, the machine is whole, nobody is left to be answered, nobody's end is due, and no two locks are of
-- one record. An interpreter that could act can do so still, and the disk's turns have as many steps as before
pub record StepsLeave (steps : ℕ) (old new : Machine) : Type 0 where
  pub count : new.system.steps ≡ old.system.steps + steps
  pub whole : IsWhole new.system
  pub no_completions : NoCompletions new.system
  pub due : 0 < steps → NobodyDue new.system.kernel
  pub locks : AreOpen new.bdos.opens
  pub interprets : Interprets old.system → Interprets new.system
  pub turn_steps : new.system.kernel.disk.turn_steps ≡ old.system.kernel.disk.turn_steps

-- it stopped, as the step of a state. Where the sink failed, all of the steps before it was written, and then a first part of what it
-- writes, which isn't empty; each image stands for what is on its drive after it. Where a drive failed nothing of it was written, and what
-- is kept to be written is that of the state. The image of the call's drive stands for what it is within the turn, and each other one for
-- what the call found
pub record StopsStep (fault : StepFault) (trace : Bool) (left : Left) (s : State) (first : List ℕ) : Type 0 where
  pub text : EndsBy fault left.written first (rendered trace s.outputs) (rendered trace (next s).outputs)
  pub shown : ShowsBefore fault left.kept left.written s first
  pub images : StopsWithImages fault left.disks left.mounted s

-- one of n steps stopped so, as that of the state after those before it
pub record StopsRun (error : RunFault) (trace : Bool) (left : Left) (n : ℕ) (s : State) (first : List ℕ) : Type 0 where
  pub text : EndsInStep error.fault trace left.written first s n error.step
  pub shown : ShowsBefore error.fault left.kept left.written (after (error.step - 1 - s.system.steps) s) first
  pub images : StopsWithImages error.fault left.disks left.mounted (after (error.step - 1 - s.system.steps) s)

-- how many turns n steps do
unfoldable pub turns_in : ℕ → State → ℕ
turns_in zero s = 0
turns_in (suc n) s = turns_in n s + turns_done (working_in (after n s).system (after n s).files)

-- whether they were done or not, each drive is that of the same name, of the same kind and size. An image that is no mounted drive's is as
-- it was, no name joined the failed ones, and a drive that isn't synced isn't so still
pub record LeavesDrives {D : Type 0} (of : Ghosts D) (old_mounted new_mounted : List (Option Directory)) (old new : D) : Type 0 where
  pub keeps : KeepsMounted (of.told old) (of.told new) (of.disks old) (of.disks new) old_mounted new_mounted
  pub names : of.failed_names new ≡ of.failed_names old
  pub unsynced : (number : ℕ) → of.unsynced old number ≡ true → of.unsynced new number ≡ true
