-- What a call on the disk of a mounted drive leaves, whatever it does there; what a turn and a unit of a job ask, and what a unit leaves
-- of its job's counts.
use Rattle.std.specs.Prelude.{◌≡◌, ℕ, suc, ◌+◌, ◌<◌, ◌≤◌, nat_lt, if◌then◌else◌, List, Result, IfOk, OnOk, OnErr}
use Rattle.mpm_port.specs.Causes.{HasCause}
use Rattle.mpm_port.specs.Disks.{Disks}
use Rattle.mpm_port.specs.declared.drives.Drives.{Ghosts}
use Rattle.mpm_cache.specs.declared.cache.SectorPlace.{SectorPlace}
use Rattle.mpm_sectors.specs.Disks.{IsReadyDisk, LeavesDisks}
use Rattle.mpm_mount.specs.Directories.{Directory}
use Rattle.mpm_mount.specs.Drives.{Drive}
use Rattle.mpm_jobs.specs.declared.jobs.Job.{Job}
use Rattle.mpm_jobs.specs.declared.jobs.JobKind.{JobKind}
use Rattle.mpm_jobs.specs.declared.jobs.JobKind.TheVariants.{Read}
use Rattle.mpm_files.specs.declared.work.Work.{Work}
use Rattle.mpm_files.specs.declared.turning.Progress.{Progress}
use Rattle.mpm_files.specs.declared.turning.Progress.TheVariants.{Again, Done}
use Rattle.mpm_files.specs.Plans.{turns_of}
use Rattle.mpm_files.specs.Serving.{turns_in}
use Rattle.mpm_files.specs.Standing.{SameDisk}
use Rattle.mpm_files.specs.Turning.{Suits, JobInService, HasUnitLeft, HasTurnLeft, Contained, OnlyReads, DoesNext}

-- the directory is that of the same drive and kind, the drives were called so many times at most, cache and drives are as any call on that
-- disk leaves them, and an error has its cause in the count of faults
pub record UsesDisk {D A E : Type 0} (of : Ghosts D) (most : ℕ) (old_directory new_directory : Directory) (old_cached new_cached : List (SectorPlace × List ℕ)) (old new : D) (old_calls new_calls : ℕ) (result : Result A E) : Type 0 where
  pub disk : SameDisk old_directory new_directory
  pub calls : new_calls ≤ old_calls + most
  pub leaves : LeavesDisks of.disks of.told of.failed_names of.unsynced old_directory.drive old_cached new_cached old new
  pub cause : HasCause (of.faults old) (of.faults new) result

-- the disk is ready, and a job in service has a turn left
pub record MayTurn (disks : Disks) (d : Directory) (cached : List (SectorPlace × List ℕ)) (work : Work) : Type 0 where
  pub ready : IsReadyDisk disks d.drive d.kind cached
  pub left : HasTurnLeft disks d work

-- the same of a unit; and of a unit of a job of this sort
pub record MayDoUnit (disks : Disks) (d : Directory) (cached : List (SectorPlace × List ℕ)) (work : Work) : Type 0 where
  pub ready : IsReadyDisk disks d.drive d.kind cached
  pub left : HasUnitLeft disks d work

pub record MayDoUnitOf (kind : JobKind) (disks : Disks) (d : Directory) (cached : List (SectorPlace × List ℕ)) (work : Work) : Type 0 where
  pub ready : IsReadyDisk disks d.drive d.kind cached
  pub left : HasUnitLeft disks d work
  pub sort : work.job.kind ≡ kind

-- how many units a job has, and how many of them have ended, is as before
pub record KeepsCounts (old new : Work) : Type 0 where
  pub units : new.units ≡ old.units
  pub ended : new.ended ≡ old.ended

-- the next unit of a job is done by so many calls at most; its counts stay, and the disk is used
pub record DoesNextWithin {D A E : Type 0} (of : Ghosts D) (most : ℕ) (old_directory new_directory : Directory) (old_work new_work : Work) (old_cached new_cached : List (SectorPlace × List ℕ)) (old new : D) (old_calls new_calls : ℕ) (result : Result A E) : Type 0 where
  pub does : DoesNext (of.disks old) (of.disks new) old_directory new_directory old_work new_work result
  pub counts : KeepsCounts old_work new_work
  pub works : UsesDisk of most old_directory new_directory old_cached new_cached old new old_calls new_calls result

-- a turn of a job that is in service: after a success one turn more has ended, after a failure the image stands within its unit. One that
-- reads does no more, and one without a unit does nothing
pub record TakesTurn {D E : Type 0} (of : Ghosts D) (old_directory new_directory : Directory) (old_work new_work : Work) (old_cached new_cached : List (SectorPlace × List ℕ)) (old new : D) (old_calls new_calls : ℕ) (result : Result Progress E) : Type 0 where
  pub ok : (before : Drive) (job : Job) (j : ℕ) → Suits before job → JobInService (of.disks old) old_directory before job j old_work → j < turns_of before job
      → OnOk result (JobInService (of.disks new) new_directory before job (suc j) new_work)
  pub err : (before : Drive) (job : Job) (j : ℕ) → Suits before job → JobInService (of.disks old) old_directory before job j old_work → j < turns_of before job
      → OnErr result (Contained (of.disks new) old_directory.drive before job j)
  pub progress : IfOk result (λ told. told ≡ (if nat_lt (old_work.ended + 1) (turns_in old_work) then Again else Done))
  pub counted : OnOk result (new_work.ended ≡ old_work.ended + 1)
  pub units : new_work.units ≡ old_work.units
  pub reads : old_work.job.kind ≡ Read → OnlyReads old_cached old_directory old_work old_calls new_calls (of.unsynced old) (of.unsynced new)
  pub idle : old_work.units ≤ old_work.ended → (new_calls ≡ old_calls) × (new ≡ old)
  pub works : UsesDisk of 20 old_directory new_directory old_cached new_cached old new old_calls new_calls result
