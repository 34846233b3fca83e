-- When the cached sectors are those of the attached images, and stay so where one is written.
use Rattle.std.specs.Prelude.{◌≡◌, ◌≢◌, ℕ, Bool, true, List, IsSome, IfSome}
use Rattle.mpm_port.specs.Disks.{Disks, sector_of}
use Rattle.mpm_cache.specs.declared.cache.SectorPlace.{SectorPlace}
use Rattle.mpm_cache.specs.Cached.{cached_at}

-- what is cached of an attached drive is what its image has
unfoldable pub IsCoherent : List (SectorPlace × List ℕ) → Disks → Type 0
IsCoherent cached disks =
    (drive sector : ℕ) → IfSome (cached_at cached drive sector) (λ kept. IfSome (disks.image drive) (λ image. sector_of image sector ≡ kept))

-- two drives haven't one image
abbrev pub HaveOwnImages : Disks → ℕ → ℕ → Type 0
HaveOwnImages disks drive other = drive ≢ other → disks.name_of drive ≢ disks.name_of other

-- no other drive of which a sector is cached has this drive's image, so that a write to this drive leaves what is cached of the others as
-- their images have it
unfoldable pub HasNoAlias : List (SectorPlace × List ℕ) → Disks → ℕ → Type 0
HasNoAlias cached disks drive = (other sector : ℕ) → IsSome (cached_at cached other sector) → HaveOwnImages disks drive other

-- after a call on a drive: drives with images of their own keep them, and another drive that has, or this one, has no alias still
pub record StayApart (drive : ℕ) (cached new : List (SectorPlace × List ℕ)) (disks now : Disks) : Type 0 where
  pub own : (one other : ℕ) → HaveOwnImages disks one other → HaveOwnImages now one other
  pub alone : (other : ℕ) → HaveOwnImages disks other drive → HasNoAlias cached disks other → HasNoAlias new now other

-- of some drives, as of those that are mounted, each has an image of its own and no alias
pub record AreApart (among : ℕ → Bool) (cached : List (SectorPlace × List ℕ)) (disks : Disks) : Type 0 where
  pub own : (drive other : ℕ) → among drive ≡ true → among other ≡ true → HaveOwnImages disks drive other
  pub alone : (drive : ℕ) → among drive ≡ true → HasNoAlias cached disks drive
