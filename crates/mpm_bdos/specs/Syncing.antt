-- What was written to the mounted drives is brought to where it stays, on one after another.
use Rattle.std.specs.Prelude.{◌≡◌, ◌≢◌, ℕ, ◌+◌, ◌<◌, ◌≤◌, Bool, true, false, List, Option, None, Result, IsSome, IfSome, OnOk, OnErr, is_some, count_by, take, if◌then◌else◌}
use Rattle.mpm_port.specs.Disks.{Disks, size_of}
use Rattle.mpm_port.specs.declared.drives.Drives.{Ghosts}
use Rattle.mpm_port.specs.Causes.{HasCause}
use Rattle.mpm_port.specs.Frames.{SameDrives}
use Rattle.mpm_mount.specs.Directories.{Directory}
use Rattle.mpm_directories.specs.Places.{directory_at}

-- each of them is attached
abbrev pub AreAttached : Disks → List (Option Directory) → Type 0
AreAttached disks mounted = (number : ℕ) → IfSome (directory_at mounted number) (λ directory. IsSome (size_of disks number))

-- each of them is synced: no write to it was asked for since
abbrev pub AreMountedSynced : (ℕ → Bool) → List (Option Directory) → Type 0
AreMountedSynced unsynced mounted = (number : ℕ) → IfSome (directory_at mounted number) (λ directory. unsynced number ≡ false)

-- how many there are
abbrev pub mounted_count : List (Option Directory) → ℕ
mounted_count mounted = count_by (λ directory. is_some directory) mounted

-- where a drive failed, those before it are synced, and it and those after it are synced or not as before; so many calls were
-- made as drives are mounted up to that one
pub record StopsAtDrive (mounted : List (Option Directory)) (old new : ℕ → Bool) (old_calls new_calls : ℕ) : Type 0 where
  pub drive : ℕ
  pub there : is_some (directory_at mounted drive) ≡ true
  pub front : (number : ℕ) → number < drive → IfSome (directory_at mounted number) (λ directory. new number ≡ false)
  pub rest : (number : ℕ) → drive ≤ number → new number ≡ old number
  pub calls : new_calls ≡ old_calls + mounted_count (take (drive + 1) mounted)

-- what was written to the drive of a place is brought to where it stays, where one is mounted: one call, which failed, or the drive is
-- synced; nothing is known otherwise of any drive
pub record SyncsPlace {D A E : Type 0} (of : Ghosts D) (place : Option Directory) (old new : D) (old_calls new_calls : ℕ) (result : Result A E) : Type 0 where
  pub cause : HasCause (of.faults old) (of.faults new) result
  pub same : SameDrives of old new
  pub calls : new_calls ≡ old_calls + (if is_some place then 1 else 0)
  pub some : OnErr result (is_some place ≡ true)
  pub none : place ≡ None → new ≡ old
  pub synced : IfSome place (λ directory. OnOk result (of.unsynced new directory.drive ≡ false))
  pub stay : (number : ℕ) → of.unsynced old number ≡ false → of.unsynced new number ≡ false
  pub failed : IfSome place (λ directory. OnErr result (of.unsynced new directory.drive ≡ of.unsynced old directory.drive))
  pub beside : (number : ℕ) → IfSome place (λ directory. number ≢ directory.drive) → of.unsynced new number ≡ of.unsynced old number

-- likewise of all that are mounted, in order, up to the first that failed; so many calls were made as there are, or as there are up to
-- that one
pub record SyncsMounted {D A E : Type 0} (of : Ghosts D) (mounted : List (Option Directory)) (old new : D) (old_calls new_calls : ℕ) (result : Result A E) : Type 0 where
  pub cause : HasCause (of.faults old) (of.faults new) result
  pub same : SameDrives of old new
  pub calls : new_calls ≤ old_calls + mounted_count mounted
  pub all : OnOk result (new_calls ≡ old_calls + mounted_count mounted)
  pub some : OnErr result (0 < mounted_count mounted)
  pub none : mounted_count mounted ≡ 0 → new ≡ old
  pub synced : OnOk result (AreMountedSynced (of.unsynced new) mounted)
  pub stay : (number : ℕ) → of.unsynced old number ≡ false → of.unsynced new number ≡ false
  pub stops : OnErr result (StopsAtDrive mounted (of.unsynced old) (of.unsynced new) old_calls new_calls)
  pub beside : (number : ℕ) → directory_at mounted number ≡ None → of.unsynced new number ≡ of.unsynced old number
