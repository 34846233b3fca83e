-- A turn of the work of a call, of the call in service, and of all that is kept.
use Rattle.std.specs.Prelude.{◌≡◌, ℕ, ◌<◌, suc, false, List, Option, Some, Result, Ok, IfOk, OnOk, OnErr, is_some, option_map}
use Rattle.mpm_port.specs.Causes.{HasCause}
use Rattle.mpm_port.specs.declared.drives.Drives.{Ghosts}
use Rattle.mpm_cache.specs.declared.cache.SectorPlace.{SectorPlace}
use Rattle.mpm_mount.specs.Directories.{Directory}
use Rattle.mpm_files.specs.declared.turning.Progress.{Progress}
use Rattle.mpm_files.specs.declared.turning.Progress.TheVariants.{Done}
use Rattle.mpm_directories.specs.Places.{directory_at}
use Rattle.mpm_bdos.specs.Jobs.{call_turns}
use Rattle.mpm_bdos.specs.Serving.{InService, Kept, Serves}
use Rattle.mpm_bdos.specs.Standing.{WhileServing, WhileWorking}
use Rattle.mpm_bdos.specs.Turns.{TurnLeaves, CountsTurnCalls, StopsWithin, TellsProgress, IsWorkingOn, IsContainedAt, IsServing, IsServiceContained, IsReadingRecord, IsReadingCached, ServesReading, ServesCached, IsDiskIdle, images_of, progress_after, has_work, drive_served, without_work}
use Rattle.mpm_bdos.specs.AtOnce.{TurnsLeave}

-- the next unit of a call's job is done, where it has one, and nothing but its work changes of the call. Where it has none nothing is done
pub record TurnsWork {D E : Type 0} (of : Ghosts D) (old_service new_service : InService) (old_mounted new_mounted : List (Option Directory)) (old_cached new_cached : List (SectorPlace × List ℕ)) (old new : D) (old_calls new_calls : ℕ) (result : Result Progress E) : Type 0 where
  pub ok : WhileWorking (λ before job j. IsWorkingOn (of.disks old) (directory_at old_mounted old_service.drive) before job j old_service.work) (λ before job j. OnOk result (IsWorkingOn (of.disks new) (directory_at new_mounted new_service.drive) before job (suc j) new_service.work))
  pub err : WhileWorking (λ before job j. IsWorkingOn (of.disks old) (directory_at old_mounted old_service.drive) before job j old_service.work) (λ before job j. OnErr result (IsContainedAt (of.disks new) (directory_at old_mounted old_service.drive) before job j))
  pub progress : TellsProgress (λ before job j. IsWorkingOn (of.disks old) (directory_at old_mounted old_service.drive) before job j old_service.work) result
  pub idle : is_some old_service.work ≡ false → IsDiskIdle old_service new_service old_mounted new_mounted old_cached new_cached old new old_calls new_calls
  pub done : is_some old_service.work ≡ false → result ≡ Ok Done
  pub still : is_some new_service.work ≡ is_some old_service.work
  pub kept : without_work new_service ≡ without_work old_service
  pub left : TurnLeaves of (Some old_service.drive) old_mounted new_mounted new_cached old new
  pub takes : CountsTurnCalls (IsReadingRecord old_service.work) (IsReadingCached old_cached (directory_at old_mounted old_service.drive) old_service.work) old_calls new_calls (of.unsynced old) (of.unsynced new)
  pub cause : HasCause (of.faults old) (of.faults new) result

-- the same of the call in service
pub record TurnsHeldCall {D E : Type 0} (of : Ghosts D) (old_service new_service : Option InService) (old_mounted new_mounted : List (Option Directory)) (old_cached new_cached : List (SectorPlace × List ℕ)) (old new : D) (old_calls new_calls : ℕ) (result : Result Progress E) : Type 0 where
  pub ok : WhileWorking (λ before job j. IsServing (of.disks old) old_mounted before job j old_service) (λ before job j. OnOk result (IsServing (of.disks new) new_mounted before job (suc j) new_service))
  pub err : WhileWorking (λ before job j. IsServing (of.disks old) old_mounted before job j old_service) (λ before job j. OnErr result (IsServiceContained (of.disks new) old_mounted before job j old_service))
  pub progress : TellsProgress (λ before job j. IsServing (of.disks old) old_mounted before job j old_service) result
  pub idle : has_work old_service ≡ false → IsDiskIdle old_service new_service old_mounted new_mounted old_cached new_cached old new old_calls new_calls
  pub done : has_work old_service ≡ false → result ≡ Ok Done
  pub still : has_work new_service ≡ has_work old_service
  pub kept : option_map without_work new_service ≡ option_map without_work old_service
  pub left : TurnLeaves of (drive_served old_service) old_mounted new_mounted new_cached old new
  pub takes : CountsTurnCalls (ServesReading old_service) (ServesCached old_cached old_mounted old_service) old_calls new_calls (of.unsynced old) (of.unsynced new)
  pub cause : HasCause (of.faults old) (of.faults new) result

-- the next turn of the call in service is done: it is served with one turn more, or its drive failed within that turn. The result tells
-- whether turns are left. Where the call has no work nothing is done
pub record TurnsServedCall {D E : Type 0} (of : Ghosts D) (old new : Kept) (old_drives new_drives : D) (old_calls new_calls : ℕ) (result : Result Progress E) : Type 0 where
  pub ok : WhileServing (images_of (of.disks old_drives)) old (λ s j. j < call_turns s → OnOk result (Serves (images_of (of.disks new_drives)) new s (suc j)))
  pub err : WhileServing (images_of (of.disks old_drives)) old (λ s j. j < call_turns s → OnErr result (StopsWithin (of.disks new_drives) s j))
  pub progress : WhileServing (images_of (of.disks old_drives)) old (λ s j. IfOk result (λ told. told ≡ progress_after (suc j) (call_turns s)))
  pub idle : has_work old.service ≡ false → IsDiskIdle old.service new.service old.mounted new.mounted old.cached new.cached old_drives new_drives old_calls new_calls
  pub done : has_work old.service ≡ false → result ≡ Ok Done
  pub still : has_work new.service ≡ has_work old.service
  pub left : TurnsLeave of.disks of.told of.failed_names of.unsynced old new old_drives new_drives
  pub takes : CountsTurnCalls (ServesReading old.service) (ServesCached old.cached old.mounted old.service) old_calls new_calls (of.unsynced old_drives) (of.unsynced new_drives)
  pub cause : HasCause (of.faults old_drives) (of.faults new_drives) result
