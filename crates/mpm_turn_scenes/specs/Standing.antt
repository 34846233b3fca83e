-- A disk on which jobs are done one after the other, and a job in the midst of its turns there.
use Rattle.std.specs.Prelude.{◌≡◌, ℕ, List, Some}
use Rattle.mpm_port.specs.Disks.{Disks}
use Rattle.mpm_cache.specs.declared.cache.SectorPlace.{SectorPlace}
use Rattle.mpm_sectors.specs.Disks.{IsReadyDisk}
use Rattle.mpm_mount.specs.Drives.{Drive}
use Rattle.mpm_mount.specs.Directories.{Directory, Stands}
use Rattle.mpm_jobs.specs.declared.jobs.Job.{Job}
use Rattle.mpm_files.specs.declared.work.Work.{Work}
use Rattle.mpm_files.specs.Plans.{turns_of}
use Rattle.mpm_files.specs.Turning.{Suits, JobInService}

-- the disk is ready, and its image and the directory stand for some files
pub record IsDiskOfFiles (disks : Disks) (d : Directory) (cached : List (SectorPlace × List ℕ)) : Type 0 where
  pub ready : IsReadyDisk disks d.drive d.kind cached
  pub image : List ℕ
  pub told : disks.image d.drive ≡ Some image
  pub files : Drive
  pub stands : Stands image d files

-- the disk is ready, and a job that suited it is in service with so many of its turns ended
pub record IsInTurns (disks : Disks) (d : Directory) (cached : List (SectorPlace × List ℕ)) (work : Work) (ended turns : ℕ) : Type 0 where
  pub ready : IsReadyDisk disks d.drive d.kind cached
  pub before : Drive
  pub job : Job
  pub suits : Suits before job
  pub service : JobInService disks d before job ended work
  pub all : turns_of before job ≡ turns
