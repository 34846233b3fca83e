-- What a call on a drive through the cache asks, and what it leaves of the cache and of the drives.
use Rattle.std.specs.Prelude.{◌≡◌, ◌≢◌, ◌⊎◌, ℕ, ◌+◌, true, List, IfNone, IsOk, IsSome, IfSome, is_some, if◌then◌else◌, Result, OnOk, OnErr}
use Rattle.mpm_port.specs.declared.drives.Drives.{Ghosts}
use Rattle.mpm_port.specs.Causes.{HasCause}
use Rattle.mpm_port.specs.Disks.{Disks, KeepsTold, IsInsideDrive, WritesSector, size_of, sector_of}
use Rattle.mpm_port.specs.Frames.{OnlyCountsFaults}
use Rattle.mpm_cache.specs.declared.cache.SectorPlace.{SectorPlace}
use Rattle.mpm_cache.specs.Cached.{cached_at, used, taken_out, IsPut, SameCached, CachesSector, Forgets}
use Rattle.mpm_cache.specs.Coherent.{IsCoherent, HasNoAlias, StayApart}

-- a sector may be read: it lies inside an attached drive, and what is cached is what the attached images have
pub record MayRead (cached : List (SectorPlace × List ℕ)) (disks : Disks) (drive sector : ℕ) : Type 0 where
  pub inside : IsInsideDrive (size_of disks drive) sector
  pub coherent : IsCoherent cached disks

-- a sector may be written: it may be read, and no other drive of which a sector is cached has its drive's image
pub record MayWrite (cached : List (SectorPlace × List ℕ)) (disks : Disks) (drive sector : ℕ) : Type 0 where
  pub inside : IsInsideDrive (size_of disks drive) sector
  pub coherent : IsCoherent cached disks
  pub apart : HasNoAlias cached disks drive

-- a sector that is cached is read: it comes from the cache, where it is used last now, and the drives aren't called
pub record IsHit {D A E : Type 0} (drive sector : ℕ) (bytes : List ℕ) (old new : List (SectorPlace × List ℕ)) (before after : D) (result : Result A E) : Type 0 where
  pub found : IfSome (cached_at old drive sector) (λ kept. bytes ≡ kept)
  pub succeeds : IsOk result
  pub uncalled : after ≡ before
  pub first : new ≡ used drive sector old
  pub same : SameCached old new

-- a sector was read: it is cached now, where there is memory for it; after a failure all is cached as it was
pub record CachesRead {A E : Type 0} (drive sector : ℕ) (bytes : List ℕ) (old new : List (SectorPlace × List ℕ)) (result : Result A E) : Type 0 where
  pub put : IfNone (cached_at old drive sector) (OnOk result (IsPut drive sector bytes old new))
  pub kept : OnOk result (CachesSector drive sector bytes old new)
  pub err : OnErr result (new ≡ old)

-- a sector was written: it is cached now, where there is memory for it; after a failure it isn't
pub record CachesWritten {A E : Type 0} (drive sector : ℕ) (bytes : List ℕ) (old new : List (SectorPlace × List ℕ)) (result : Result A E) : Type 0 where
  pub put : OnOk result (IsPut drive sector bytes old new)
  pub kept : OnOk result (CachesSector drive sector bytes old new)
  pub out : OnErr result (new ≡ taken_out drive sector old)
  pub forgotten : OnErr result (Forgets drive sector old new)

-- one drive was asked to write: it is owed a sync, and of no other drive anything changes that is known by its name or owed
pub record IsAskedToWrite {D : Type 0} (of : Ghosts D) (drive : ℕ) (old new : D) : Type 0 where
  pub told_are : KeepsTold ((of.disks old).name_of drive) (of.told old) (of.told new)
  pub names : of.failed_names new ≡ of.failed_names old
  pub owed : of.unsynced new drive ≡ true
  pub beside : (other : ℕ) → other ≢ drive → of.unsynced new other ≡ of.unsynced old other

-- a sector was read, without a call of the drives where it is cached, and by one where it isn't; what is cached stays what the images have
pub record ReadsThrough {D A E : Type 0} (of : Ghosts D) (drive sector : ℕ) (out : List ℕ) (old new : List (SectorPlace × List ℕ)) (before after : D) (steps now : ℕ) (result : Result A E) : Type 0 where
  pub bytes : OnOk result (IfSome ((of.disks before).image drive) (λ image. out ≡ sector_of image sector))
  pub coherent : IsCoherent new (of.disks after)
  pub apart : StayApart drive old new (of.disks before) (of.disks after)
  pub calls : now ≡ (if is_some (cached_at old drive sector) then steps else steps + 1)
  pub hit : IsSome (cached_at old drive sector) → IsHit drive sector out old new before after result
  pub cached : CachesRead drive sector out old new result
  pub same : OnlyCountsFaults of before after
  pub cause : HasCause (of.faults before) (of.faults after) result

-- a sector was written by one call of its drive, or after an error perhaps not; what is cached stays what the images have
pub record WritesThrough {D A E : Type 0} (of : Ghosts D) (drive sector : ℕ) (bytes : List ℕ) (old new : List (SectorPlace × List ℕ)) (before after : D) (steps now : ℕ) (result : Result A E) : Type 0 where
  pub ok : OnOk result (WritesSector drive sector bytes (of.disks before) (of.disks after))
  pub err : OnErr result ((of.disks after ≡ of.disks before) ⊎ WritesSector drive sector bytes (of.disks before) (of.disks after))
  pub coherent : IsCoherent new (of.disks after)
  pub apart : StayApart drive old new (of.disks before) (of.disks after)
  pub calls : now ≡ steps + 1
  pub cached : CachesWritten drive sector bytes old new result
  pub asked : IsAskedToWrite of drive before after
  pub cause : HasCause (of.faults before) (of.faults after) result
