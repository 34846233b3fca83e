-- A turn of the call in service: what it asks of the drives, what it leaves of them and of what is kept, and how many turns are left.
use Rattle.std.specs.Prelude.{◌≡◌, ◌≢◌, ◌≤◌, ℕ, ◌+◌, Bool, true, false, List, [], Option, Some, None, Result, IfOk, IfSome, OnOk, OnErr, is_some, suc, option_map, unwrap_or, nat_lt, if◌then◌else◌}
use Rattle.mpm_port.specs.declared.drives.Drives.{Ghosts}
use Rattle.mpm_port.specs.Causes.{HasCause}
use Rattle.mpm_port.specs.Disks.{Disks, ToldImage, Untold, size_of}
use Rattle.mpm_base.specs.declared.kind.Kind.{Kind}
use Rattle.mpm_blocks.specs.Geometries.{geometry_of}
use Rattle.mpm_cache.specs.declared.cache.SectorPlace.{SectorPlace}
use Rattle.mpm_cache.specs.Coherent.{IsCoherent, AreApart}
use Rattle.mpm_sectors.specs.Disks.{LeavesDisks}
use Rattle.mpm_mount.specs.Drives.{Drive}
use Rattle.mpm_mount.specs.Directories.{Directory, IsDirectory}
use Rattle.mpm_jobs.specs.declared.jobs.Job.{Job}
use Rattle.mpm_jobs.specs.declared.jobs.JobKind.TheVariants as kinds
use Rattle.mpm_files.specs.declared.turning.Progress.{Progress}
use Rattle.mpm_files.specs.declared.turning.Progress.TheVariants.{Again, Done}
use Rattle.mpm_files.specs.declared.work.Work.{Work}
use Rattle.mpm_files.specs.Plans.{turns_of}
use Rattle.mpm_files.specs.Turning.{JobInService, Contained, IsNextCached}
use Rattle.mpm_refusals.specs.Filing.{Situation}
use Rattle.mpm_refusals.specs.Subjects.{drive_number, drive_at}
use Rattle.mpm_bdos.specs.Jobs.{job_of}
use Rattle.mpm_bdos.specs.Serving.{InService, Kept}
use Rattle.mpm_bdos.specs.Standing.{WhileWorking}
use Rattle.mpm_directories.specs.Places.{directory_at}

abbrev pub has_directory : List (Option Directory) → ℕ → Bool
has_directory mounted number = is_some (directory_at mounted number)

-- each mounted drive is attached to an image of its kind's size; what is cached is what the images have; no two have one image
pub record FitsDrives {D : Type 0} (disks : D → Disks) (mounted : List (Option Directory)) (cached : List (SectorPlace × List ℕ)) (drives : D) : Type 0 where
  pub sizes : (number : ℕ) → IfSome (directory_at mounted number) (λ directory. size_of (disks drives) number ≡ Some (geometry_of directory.kind).bytes)
  pub coherent : IsCoherent cached (disks drives)
  pub apart : AreApart (has_directory mounted) cached (disks drives)

-- the image of each drive; of one that isn't attached, an empty one, which no directory stands upon
unfoldable pub images_of : Disks → ℕ → List ℕ
images_of disks number = unwrap_or (disks.image number) []

-- whether turns are left with so many ended
abbrev pub progress_after : ℕ → ℕ → Progress
progress_after ended turns = if nat_lt ended turns then Again else Done

-- a turn of a job in service tells so
abbrev pub TellsProgress : {E : Type 0} → (Drive → Job → ℕ → Type 0) → Result Progress E → Type 0
TellsProgress works result =
    (before : Drive) (job : Job) (j : ℕ) → works before job j → IfOk result (λ told. told ≡ progress_after (suc j) (turns_of before job))

-- a job is in service on the image of a drive that is mounted; and as the work of the call in service
abbrev pub IsWorking : Disks → Option Directory → Drive → Job → ℕ → Work → Type 0
IsWorking disks None before job j work = ⊥
IsWorking disks (Some directory) before job j work = JobInService disks directory before job j work

abbrev pub IsWorkingOn : Disks → Option Directory → Drive → Job → ℕ → Option Work → Type 0
IsWorkingOn disks directory before job j None = ⊥
IsWorkingOn disks directory before job j (Some work) = IsWorking disks directory before job j work

abbrev pub IsServing : Disks → List (Option Directory) → Drive → Job → ℕ → Option InService → Type 0
IsServing disks mounted before job j None = ⊥
IsServing disks mounted before job j (Some service) = IsWorkingOn disks (directory_at mounted service.drive) before job j service.work

-- where a device failed in its next turn, the image stands within that one
abbrev pub IsContainedAt : Disks → Option Directory → Drive → Job → ℕ → Type 0
IsContainedAt disks None before job j = ⊥
IsContainedAt disks (Some directory) before job j = Contained disks directory.drive before job j

abbrev pub IsServiceContained : Disks → List (Option Directory) → Drive → Job → ℕ → Option InService → Type 0
IsServiceContained disks mounted before job j None = ⊥
IsServiceContained disks mounted before job j (Some service) = IsContainedAt disks (directory_at mounted service.drive) before job j

-- which drive a directory is of, and of which kind
abbrev pub drive_and_kind : Directory → ℕ × Kind
drive_and_kind directory = (directory.drive, directory.kind)

-- what a turn leaves of the drives and the cache, on a drive that is mounted
abbrev pub HasLeftDisk : {D : Type 0} → (D → Disks) → (D → List ℕ → ToldImage) → (D → List (List ℕ)) → (D → ℕ → Bool) → Option Directory → List (SectorPlace × List ℕ) → List (SectorPlace × List ℕ) → D → D → Type 0
HasLeftDisk disks told failed unsynced None old_cached new_cached old new = ⊥
HasLeftDisk disks told failed unsynced (Some directory) old_cached new_cached old new = LeavesDisks disks told failed unsynced directory.drive old_cached new_cached old new

-- a turn leaves no drive synced that wasn't, and each other drive than that of its call as it was
pub record KeepsUnsynced (drive : Option ℕ) (old new : ℕ → Bool) : Type 0 where
  pub beside : (other : ℕ) → drive ≢ Some other → new other ≡ old other
  pub owed : (number : ℕ) → old number ≡ true → new number ≡ true

-- the drive of the call in service
abbrev pub drive_served : Option InService → Option ℕ
drive_served service = option_map (λ call. call.drive) service

-- the next unit reads a record
abbrev pub IsReadingRecord : Option Work → Type 0
IsReadingRecord None = ⊥
IsReadingRecord (Some work) = work.job.kind ≡ kinds.Read

-- and that one's sector is cached
abbrev pub IsReadingCached : List (SectorPlace × List ℕ) → Option Directory → Option Work → Type 0
IsReadingCached cached directory None = ⊥
IsReadingCached cached directory (Some work) = (work.job.kind ≡ kinds.Read) × IfSome directory (λ d. IsNextCached cached d work)

abbrev pub ServesReading : Option InService → Type 0
ServesReading None = ⊥
ServesReading (Some service) = IsReadingRecord service.work

abbrev pub ServesCached : List (SectorPlace × List ℕ) → List (Option Directory) → Option InService → Type 0
ServesCached cached mounted None = ⊥
ServesCached cached mounted (Some service) = IsReadingCached cached (directory_at mounted service.drive) service.work

-- the call in service has no work: then nothing is done
pub record IsDiskIdle {S M D : Type 0} (old_service new_service : S) (old_mounted new_mounted : M) (old_cached new_cached : List (SectorPlace × List ℕ)) (old new : D) (old_calls new_calls : ℕ) : Type 0 where
  pub call : new_service ≡ old_service
  pub directories : new_mounted ≡ old_mounted
  pub cache : new_cached ≡ old_cached
  pub drives : new ≡ old
  pub calls : new_calls ≡ old_calls

abbrev pub has_work : Option InService → Bool
has_work None = false
has_work (Some service) = is_some service.work

-- where no drive is mounted, no call in service has work
abbrev pub IsIdleWithoutDrives : Kept → Type 0
IsIdleWithoutDrives kept = ((number : ℕ) → directory_at kept.mounted number ≡ None) → has_work kept.service ≡ false

abbrev pub without_work : InService → InService
without_work service = record service { work = None }

-- a turn changes nothing that is kept but the directory of the drive, what is cached, and how far the work is; and each directory
-- is of the drive and the kind that it was of
pub record TurnKeeps (old new : Kept) : Type 0 where
  pub rest : new ≡ record old { mounted = new.mounted; cached = new.cached; service = new.service }
  pub service : option_map without_work new.service ≡ option_map without_work old.service
  pub places : (number : ℕ) → drive_served old.service ≢ Some number → directory_at new.mounted number ≡ directory_at old.mounted number
  pub labels : (number : ℕ) → option_map drive_and_kind (directory_at new.mounted number) ≡ option_map drive_and_kind (directory_at old.mounted number)

-- each drive is attached by its name and has its size, and a drive by whose name no mounted drive is attached has its image as it was
pub record StaysBeside (mounted : List (Option Directory)) (old new : Disks) : Type 0 where
  pub names : (number : ℕ) → new.name_of number ≡ old.name_of number
  pub others : (number : ℕ) → ((one : ℕ) → has_directory mounted one ≡ true → old.name_of one ≢ old.name_of number) → new.image number ≡ old.image number
  pub sizes : (number : ℕ) → size_of new number ≡ size_of old number

-- what is known of an image by whose name no mounted drive is attached is as it was, and what was known stays known
pub record KeepsToldOf (mounted : List (Option Directory)) (disks : Disks) (old new : List ℕ → ToldImage) : Type 0 where
  pub others : (name : List ℕ) → ((one : ℕ) → has_directory mounted one ≡ true → disks.name_of one ≢ Some name) → new name ≡ old name
  pub still : (name : List ℕ) → new name ≡ Untold → old name ≡ Untold

-- it changes no image of a mounted drive but that one's
abbrev pub KeepsImages : Option ℕ → List (Option Directory) → Disks → Disks → Type 0
KeepsImages drive mounted old new =
    (number : ℕ) → drive ≢ Some number → has_directory mounted number ≡ true → new.image number ≡ old.image number

-- what a turn on a drive leaves of all drives: the directory of no other one changes, each is of the drive and the kind that it was
-- of, all fit the drives still, and of what is known of the drives nothing changes but for that one
pub record TurnLeaves {D : Type 0} (of : Ghosts D) (drive : Option ℕ) (old_mounted new_mounted : List (Option Directory)) (cached : List (SectorPlace × List ℕ)) (old new : D) : Type 0 where
  pub places : (number : ℕ) → drive ≢ Some number → directory_at new_mounted number ≡ directory_at old_mounted number
  pub labels : (number : ℕ) → option_map drive_and_kind (directory_at new_mounted number) ≡ option_map drive_and_kind (directory_at old_mounted number)
  pub fits : FitsDrives of.disks new_mounted cached new
  pub images : KeepsImages drive old_mounted (of.disks old) (of.disks new)
  pub beside : StaysBeside old_mounted (of.disks old) (of.disks new)
  pub told_are : KeepsToldOf old_mounted (of.disks old) (of.told old) (of.told new)
  pub names : of.failed_names new ≡ of.failed_names old
  pub kept_unsynced : KeepsUnsynced drive (of.unsynced old) (of.unsynced new)

-- how many calls of the drives a turn takes: 20 at most, one where it reads a record, and none where that one's sector is cached. A
-- turn that reads leaves no drive unsynced that was synced.
pub record CountsTurnCalls (reads cached : Type 0) (old_calls new_calls : ℕ) (old new : ℕ → Bool) : Type 0 where
  pub calls : new_calls ≤ old_calls + 20
  pub one_call : reads → new_calls ≤ old_calls + 1
  pub unsynced : reads → (number : ℕ) → new number ≡ old number
  pub no_call : cached → new_calls ≡ old_calls

-- where a device failed in it, the image of the job's drive stands within that turn
pub record StopsWithin (disks : Disks) (s : Situation) (turns : ℕ) : Type 0 where
  pub job : Job
  pub its : job_of s ≡ Some job
  pub contained : Contained disks (drive_number s) (drive_at s) job turns

-- a turn on the place of a drive
pub record TurnsPlace {D E : Type 0} (of : Ghosts D) (old_place new_place : Option Directory) (old_work new_work : Work) (old_cached new_cached : List (SectorPlace × List ℕ)) (old new : D) (old_calls new_calls : ℕ) (result : Result Progress E) : Type 0 where
  pub ok : WhileWorking (λ before job j. IsWorking (of.disks old) old_place before job j old_work) (λ before job j. OnOk result (IsWorking (of.disks new) new_place before job (suc j) new_work))
  pub err : WhileWorking (λ before job j. IsWorking (of.disks old) old_place before job j old_work) (λ before job j. OnErr result (IsContainedAt (of.disks new) old_place before job j))
  pub progress : TellsProgress (λ before job j. IsWorking (of.disks old) old_place before job j old_work) result
  pub same : option_map drive_and_kind new_place ≡ option_map drive_and_kind old_place
  pub takes : CountsTurnCalls (IsReadingRecord (Some old_work)) (IsReadingCached old_cached old_place (Some old_work)) old_calls new_calls (of.unsynced old) (of.unsynced new)
  pub directory : IfSome new_place (λ d. IsDirectory d.kind d.entries)
  pub leaves : HasLeftDisk of.disks of.told of.failed_names of.unsynced old_place old_cached new_cached old new
  pub cause : HasCause (of.faults old) (of.faults new) result

-- a turn on the drive of a number
pub record TurnsDrive {D E : Type 0} (of : Ghosts D) (number : ℕ) (old_mounted new_mounted : List (Option Directory)) (old_work new_work : Work) (old_cached new_cached : List (SectorPlace × List ℕ)) (old new : D) (old_calls new_calls : ℕ) (result : Result Progress E) : Type 0 where
  pub ok : WhileWorking (λ before job j. IsWorking (of.disks old) (directory_at old_mounted number) before job j old_work) (λ before job j. OnOk result (IsWorking (of.disks new) (directory_at new_mounted number) before job (suc j) new_work))
  pub err : WhileWorking (λ before job j. IsWorking (of.disks old) (directory_at old_mounted number) before job j old_work) (λ before job j. OnErr result (IsContainedAt (of.disks new) (directory_at old_mounted number) before job j))
  pub progress : TellsProgress (λ before job j. IsWorking (of.disks old) (directory_at old_mounted number) before job j old_work) result
  pub left : TurnLeaves of (Some number) old_mounted new_mounted new_cached old new
  pub takes : CountsTurnCalls (IsReadingRecord (Some old_work)) (IsReadingCached old_cached (directory_at old_mounted number) (Some old_work)) old_calls new_calls (of.unsynced old) (of.unsynced new)
  pub cause : HasCause (of.faults old) (of.faults new) result
