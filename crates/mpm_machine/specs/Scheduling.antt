-- The scheduler of a machine in every step: it keeps those of the entries that it accepted which aren't sent, and sends each once, when its
-- time has come. (MP/M II User's Guide, "SCHED".)
use Rattle.std.specs.Prelude.{◌≡◌, ℕ, List, ◌++◌, Some}
use Rattle.mpm_base.specs.Calls.{Answer}
use Rattle.mpm_residents.specs.Natives.{native_in}
use Rattle.mpm_residents.specs.declared.native.Native.{Native}
use Rattle.mpm_residents.specs.declared.native.Native.TheVariants.{Sched}
use Rattle.mpm_sched.specs.Schedulers.{Scheduler}
use Rattle.mpm_sched.specs.Schedules.{after, SendsInOrder}
use Rattle.mpm_sched.specs.Keeping.{KeepsSchedule}

-- the resident of a slot is a scheduler, as it is after these answers: it keeps what waits of all that it accepted, and each command that it
-- sends is the first, by time and arrival, of those that then wait
pub record IsScheduling (q : ℕ) (answers : List Answer) (natives : List Native) : Type 0 where
  pub scheduler : Scheduler
  pub acts : native_in natives q ≡ Some (Sched scheduler)
  pub keeps : KeepsSchedule scheduler (after answers)
  pub sends : SendsInOrder answers

-- so it is after these answers and some more
pub record GoesOnScheduling (q : ℕ) (answers : List Answer) (natives : List Native) : Type 0 where
  pub more : List Answer
  pub is : IsScheduling q (more ++ answers) natives
