-- What a call on a disk asks of the cache and of the drives, how many calls of the drives it takes, and what it leaves.
use Rattle.std.specs.Prelude.{◌≡◌, ◌≢◌, ◌≤◌, ℕ, ◌+◌, Bool, true, List, Some, is_some, if◌then◌else◌, Result, OnOk}
use Rattle.mpm_base.specs.declared.kind.Kind.{Kind}
use Rattle.mpm_blocks.specs.Geometries.{geometry_of, place_of}
use Rattle.mpm_port.specs.Disks.{Disks, ToldImage, KeepsTold, size_of}
use Rattle.mpm_cache.specs.declared.cache.SectorPlace.{SectorPlace}
use Rattle.mpm_cache.specs.Cached.{cached_at}
use Rattle.mpm_cache.specs.Coherent.{IsCoherent, HasNoAlias, StayApart}
use Rattle.mpm_sectors.specs.Writes.{Elsewhere}

-- a drive is attached to an image of its kind's size, what is cached is what the images have, and no other drive of which a sector is
-- cached has this one's image
pub record IsReadyDisk (disks : Disks) (drive : ℕ) (kind : Kind) (cached : List (SectorPlace × List ℕ)) : Type 0 where
  pub size : size_of disks drive ≡ Some (geometry_of kind).bytes
  pub coherent : IsCoherent cached disks
  pub apart : HasNoAlias cached disks drive

-- so many calls of the drives after a success, and no more after a failure
pub record TakesCalls {A E : Type 0} (before now calls : ℕ) (result : Result A E) : Type 0 where
  pub all : OnOk result (now ≡ before + calls)
  pub most : now ≤ before + calls

-- how many calls the writing of a directory entry takes: its sector is read where it isn't cached, and then written
abbrev pub slot_calls : List (SectorPlace × List ℕ) → ℕ → Kind → ℕ → ℕ
slot_calls cached drive kind sector = if is_some (cached_at cached drive (place_of kind sector)) then 1 else 2

-- what is cached is what the images have, and drives stay apart, this one too. All is as before but the images of one drive's name, what is
-- known of that name, whether this drive is synced, and the count of faults. It stays unsynced where it was
pub record LeavesDisks {D : Type 0} (disks : D → Disks) (told : D → List ℕ → ToldImage) (failed : D → List (List ℕ)) (unsynced : D → ℕ → Bool) (drive : ℕ) (cached new : List (SectorPlace × List ℕ)) (old now : D) : Type 0 where
  pub coherent : IsCoherent new (disks now)
  pub apart : StayApart drive cached new (disks old) (disks now)
  pub alone : HasNoAlias cached (disks old) drive → HasNoAlias new (disks now) drive
  pub others : Elsewhere drive (disks old) (disks now)
  pub told_are : KeepsTold ((disks old).name_of drive) (told old) (told now)
  pub names : failed now ≡ failed old
  pub beside : (other : ℕ) → other ≢ drive → unsynced now other ≡ unsynced old other
  pub owed : unsynced old drive ≡ true → unsynced now drive ≡ true
