-- The cached sectors: of some sectors of some drives the bytes, at most 256 of them, the one that was used last first.
use Rattle.std.specs.Prelude.{◌≡◌, ◌⊎◌, ℕ, ◌==◌, ◌&&◌, Bool, false, List, ◌∷◌, take, Option, Some, None, IfSome, IsSome, is_some, if◌then◌else◌}
use Rattle.std.specs.Option.{option_map_or}
use Rattle.std.specs.List.{IsDistinct}
use Rattle.std.specs.Map.{keys_of, lookup, lookup_entry, remove_entry}
use Rattle.mpm_cache.specs.declared.cache.SectorPlace.{SectorPlace}

-- whether a place is a sector of a drive
abbrev pub is_at : ℕ → ℕ → SectorPlace → Bool
is_at drive sector place = (drive == place.drive) && (sector == place.sector)

-- no sector is cached twice
abbrev pub IsCachedOnce : List (SectorPlace × List ℕ) → Type 0
IsCachedOnce cached = IsDistinct (λ place other. is_at place.drive place.sector other) (keys_of cached)

-- what is cached of a sector
unfoldable pub cached_at : List (SectorPlace × List ℕ) → ℕ → ℕ → Option (List ℕ)
cached_at cached drive sector = lookup (is_at drive sector) cached

-- a sector is used: it goes first, where it is cached
unfoldable pub used : ℕ → ℕ → List (SectorPlace × List ℕ) → List (SectorPlace × List ℕ)
used drive sector cached = option_map_or (λ entry. entry ∷ remove_entry (is_at drive sector) cached) (lookup_entry (is_at drive sector) cached) cached

-- a sector is cached with these bytes: it goes first, in place of what was cached of it or, where that was nothing, of the last of 256
unfoldable pub put_first : ℕ → ℕ → List ℕ → List (SectorPlace × List ℕ) → List (SectorPlace × List ℕ)
put_first drive sector bytes cached =
    (record { drive = drive; sector = sector }, bytes) ∷ (if is_some (cached_at cached drive sector) then (remove_entry (is_at drive sector) cached) else (take 255 cached))

-- that was done, or the sector is a new one, for which there was no memory, and nothing has changed
abbrev pub IsPut : ℕ → ℕ → List ℕ → List (SectorPlace × List ℕ) → List (SectorPlace × List ℕ) → Type 0
IsPut drive sector bytes old new = (new ≡ put_first drive sector bytes old) ⊎ ((cached_at old drive sector ≡ None) × (new ≡ old))

-- a sector is taken out
unfoldable pub taken_out : ℕ → ℕ → List (SectorPlace × List ℕ) → List (SectorPlace × List ℕ)
taken_out drive sector cached = remove_entry (is_at drive sector) cached

-- the same of all sectors
abbrev pub SameCached : List (SectorPlace × List ℕ) → List (SectorPlace × List ℕ) → Type 0
SameCached old new = (drive sector : ℕ) → cached_at new drive sector ≡ cached_at old drive sector

-- a sector stays where another one is cached: that one was cached already, or the sector isn't the last of 256
unfoldable pub StaysCached : List (SectorPlace × List ℕ) → ℕ → ℕ → SectorPlace → Type 0
StaysCached cached drive sector other = IsSome (cached_at cached drive sector) ⊎ IsSome (cached_at (take 255 cached) other.drive other.sector)

-- a sector may be cached now, with these bytes; each other one is so as it was, but one of 256 may be so no more
pub record CachesSector (drive sector : ℕ) (bytes : List ℕ) (old new : List (SectorPlace × List ℕ)) : Type 0 where
  pub here : IfSome (cached_at new drive sector) (λ kept. kept ≡ bytes)
  pub others : (other : SectorPlace) → is_at drive sector other ≡ false
      → IfSome (cached_at new other.drive other.sector) (λ kept. cached_at old other.drive other.sector ≡ Some kept)
  pub stays : (other : SectorPlace) → is_at drive sector other ≡ false → StaysCached old drive sector other
      → cached_at new other.drive other.sector ≡ cached_at old other.drive other.sector

-- a sector is cached no more; each other one is so as it was
pub record Forgets (drive sector : ℕ) (old new : List (SectorPlace × List ℕ)) : Type 0 where
  pub here : cached_at new drive sector ≡ None
  pub others : (other : SectorPlace) → is_at drive sector other ≡ false
      → cached_at new other.drive other.sector ≡ cached_at old other.drive other.sector
