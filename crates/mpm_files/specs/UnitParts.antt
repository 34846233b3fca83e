-- What the parts of a turn ask, and what they leave of a job in service, of its drive and of the disk.
use Rattle.std.specs.Prelude.{◌≡◌, ℕ, suc, ◌+◌, ◌<◌, ◌≤◌, nat_lt, if◌then◌else◌, List, Result, OnOk, OnErr}
use Rattle.mpm_port.specs.Disks.{Disks}
use Rattle.mpm_port.specs.declared.drives.Drives.{Ghosts}
use Rattle.mpm_cache.specs.declared.cache.SectorPlace.{SectorPlace}
use Rattle.mpm_sectors.specs.Disks.{IsReadyDisk}
use Rattle.mpm_mount.specs.Directories.{Directory}
use Rattle.mpm_mount.specs.Drives.{Drive}
use Rattle.mpm_jobs.specs.declared.jobs.Job.{Job}
use Rattle.mpm_jobs.specs.declared.jobs.JobKind.TheVariants as kinds
use Rattle.mpm_files.specs.declared.moving.Step.TheVariants.{Record}
use Rattle.mpm_files.specs.declared.work.Work.{Work}
use Rattle.mpm_files.specs.declared.turning.Progress.{Progress}
use Rattle.mpm_files.specs.declared.turning.Progress.TheVariants.{Again, Done}
use Rattle.mpm_files.specs.Plans.{turns_of}
use Rattle.mpm_files.specs.Serving.{turns_in}
use Rattle.mpm_files.specs.Stepping.{step_of, record_next}
use Rattle.mpm_files.specs.Turning.{Suits, JobInService, HasUnitLeft, Contained, OnlyReads, DoesNext, one_ended}
use Rattle.mpm_files.specs.Working.{UsesDisk, KeepsCounts}

-- the disk is ready, a job in service that writes has a unit left, and a record is what comes next
pub record MayWriteNext (disks : Disks) (d : Directory) (cached : List (SectorPlace × List ℕ)) (work : Work) : Type 0 where
  pub ready : IsReadyDisk disks d.drive d.kind cached
  pub left : HasUnitLeft disks d work
  pub sort : work.job.kind ≡ kinds.Write
  pub step : step_of d work (record_next work) ≡ Record

-- the next unit of a job that reads is done, and it only reads
pub record ReadsNext {D A E : Type 0} (of : Ghosts D) (old_directory new_directory : Directory) (old_work new_work : Work) (old_cached new_cached : List (SectorPlace × List ℕ)) (old new : D) (old_calls new_calls : ℕ) (result : Result A E) : Type 0 where
  pub does : DoesNext (of.disks old) (of.disks new) old_directory new_directory old_work new_work result
  pub counts : KeepsCounts old_work new_work
  pub reads : OnlyReads old_cached old_directory old_work old_calls new_calls (of.unsynced old) (of.unsynced new)
  pub works : UsesDisk of 1 old_directory new_directory old_cached new_cached old new old_calls new_calls result

-- the next unit of a job is done, whatever its sort; one that reads does no more
pub record DoesNextUnit {D A E : Type 0} (of : Ghosts D) (old_directory new_directory : Directory) (old_work new_work : Work) (old_cached new_cached : List (SectorPlace × List ℕ)) (old new : D) (old_calls new_calls : ℕ) (result : Result A E) : Type 0 where
  pub does : DoesNext (of.disks old) (of.disks new) old_directory new_directory old_work new_work result
  pub counts : KeepsCounts old_work new_work
  pub reads : old_work.job.kind ≡ kinds.Read → OnlyReads old_cached old_directory old_work old_calls new_calls (of.unsynced old) (of.unsynced new)
  pub works : UsesDisk of 20 old_directory new_directory old_cached new_cached old new old_calls new_calls result

-- the unit of a turn is done, where it has one, and the turn hasn't been counted yet
pub record DoesTurnUnit {D A E : Type 0} (of : Ghosts D) (old_directory new_directory : Directory) (old_work new_work : Work) (old_cached new_cached : List (SectorPlace × List ℕ)) (old new : D) (old_calls new_calls : ℕ) (result : Result A E) : Type 0 where
  pub ok : (before : Drive) (job : Job) (j : ℕ) → Suits before job → JobInService (of.disks old) old_directory before job j old_work → j < turns_of before job
      → OnOk result (JobInService (of.disks new) new_directory before job (suc j) (one_ended new_work))
  pub err : (before : Drive) (job : Job) (j : ℕ) → Suits before job → JobInService (of.disks old) old_directory before job j old_work → j < turns_of before job
      → OnErr result (Contained (of.disks new) old_directory.drive before job j)
  pub counts : KeepsCounts old_work new_work
  pub reads : old_work.job.kind ≡ kinds.Read → OnlyReads old_cached old_directory old_work old_calls new_calls (of.unsynced old) (of.unsynced new)
  pub idle : old_work.units ≤ old_work.ended → (new_calls ≡ old_calls) × (new ≡ old)
  pub works : UsesDisk of 20 old_directory new_directory old_cached new_cached old new old_calls new_calls result

-- a turn that has ended is counted, and the result says whether turns are left
pub record EndsTurn (old new : Work) (result : Progress) : Type 0 where
  pub counted : new ≡ one_ended old
  pub progress : result ≡ (if nat_lt (old.ended + 1) (turns_in old) then Again else Done)
