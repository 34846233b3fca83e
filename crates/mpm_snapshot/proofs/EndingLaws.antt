-- The endings of the program that are those of a run of a machine that ended early.
use Rattle.std.proofs.Common.{◌≢◌, ℕ, refl}
use Rattle.mpm_top.specs.declared.status.Status.TheVariants as run
use Rattle.mpm_snapshot.specs.declared.status.SnapStatus.{SnapStatus}
use Rattle.mpm_snapshot.specs.declared.status.SnapStatus.TheVariants.{Done, Usage, MachineFault, ScriptFault, ImageFault, TooLong, ReadFault, DiskFault, WriteFault, OutOfMemory, NoProcess, CoreFault}
use Rattle.mpm_snapshot.specs.Endings.{run_of}

-- those that don't come after the run
pub ended_early : (status : SnapStatus) → status ≢ Done → status ≢ WriteFault → status ≢ NoProcess → ((place : ℕ) → status ≢ CoreFault place) → run_of status ≢ run.Ran
ended_early Done done write process core = absurd (done refl)
ended_early Usage done write process core = λ is. absurd (cc)
ended_early MachineFault done write process core = λ is. absurd (cc)
ended_early (ScriptFault line) done write process core = λ is. absurd (cc)
ended_early (ImageFault drive cause place) done write process core = λ is. absurd (cc)
ended_early (TooLong what) done write process core = λ is. absurd (cc)
ended_early ReadFault done write process core = λ is. absurd (cc)
ended_early (DiskFault step) done write process core = λ is. absurd (cc)
ended_early WriteFault done write process core = absurd (write refl)
ended_early OutOfMemory done write process core = λ is. absurd (cc)
ended_early NoProcess done write process core = absurd (process refl)
ended_early (CoreFault place) done write process core = absurd (core place refl)
