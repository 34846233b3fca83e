-- Sectors of a drive that are written in order, and what a drive that fails has written of them.
use Rattle.std.specs.Prelude.{◌≡◌, ◌≢◌, ℕ, ◌+◌, ◌-◌, ◌*◌, max, List, [], ◌∷◌, ◌++◌, Some, Result, OnOk, OnErr, map, replicate}
use Rattle.std.specs.List.{range_with_len}
use Rattle.mpm_base.specs.declared.kind.Kind.{Kind}
use Rattle.mpm_blocks.specs.Geometries.{block_records, place_of}
use Rattle.mpm_port.specs.Disks.{Disks, size_of, with_sector}

-- a sector, counted after the system's tracks, and its bytes
pub record Write : Type 0 where
  pub sector : ℕ
  pub bytes : List ℕ

-- an image with these sectors written, in order
unfoldable pub written : Kind → List Write → List ℕ → List ℕ
written kind [] image = image
written kind (write ∷ writes) image = written kind writes (with_sector image (place_of kind write.sector) write.bytes)

-- these sectors of a drive's image were written, in order
unfoldable pub AreWritten : ℕ → Kind → List Write → Disks → Disks → Type 0
AreWritten drive kind writes old new = (image : List ℕ) → old.image drive ≡ Some image → new.image drive ≡ Some (written kind writes image)

-- the first ones of these sectors were written, in order
pub record FirstAreWritten (drive : ℕ) (kind : Kind) (writes : List Write) (old new : Disks) : Type 0 where
  pub first : List Write
  pub rest : List Write
  pub all : first ++ rest ≡ writes
  pub are : AreWritten drive kind first old new

-- after a success all of these sectors were written, and after an error the first ones of them
pub record Puts {A E : Type 0} (drive : ℕ) (kind : Kind) (writes : List Write) (old new : Disks) (result : Result A E) : Type 0 where
  pub ok : OnOk result (AreWritten drive kind writes old new)
  pub err : OnErr result (FirstAreWritten drive kind writes old new)

-- the names by which drives are attached are as before, and so are the images of drives that were attached by another name than
-- that of one drive, and the size of each
pub record Elsewhere (drive : ℕ) (old new : Disks) : Type 0 where
  pub names : (other : ℕ) → new.name_of other ≡ old.name_of other
  pub others : (other : ℕ) → old.name_of other ≢ old.name_of drive → new.image other ≡ old.image other
  pub sizes : (other : ℕ) → size_of new other ≡ size_of old other

-- a record that was never written, in a block that is: what a cleared sector holds
abbrev pub zero_record : List ℕ
zero_record = replicate 128 0

abbrev pub cleared : ℕ → Write
cleared sector = record { sector = sector; bytes = zero_record }

-- zeros in some sectors in a row
unfoldable pub zeros_from : ℕ → ℕ → List Write
zeros_from first count = map cleared (range_with_len first count)

-- the first sector of an allocation block
abbrev pub block_sector : Kind → ℕ → ℕ
block_sector kind block = block * block_records kind

-- a record that comes into a fresh allocation block, of which so many sectors are zeros already: zeros in its other sectors, and
-- then the record
unfoldable pub block_writes : Kind → ℕ → ℕ → ℕ → List ℕ → List Write
block_writes kind block clear index bytes =
    let first = block_sector kind block in
    let behind = max clear (index + 1) in
    zeros_from (first + clear) (index - clear)
    ++ (zeros_from (first + behind) (block_records kind - behind) ++ (record { sector = first + index; bytes = bytes } ∷ []))

-- how many sectors that are
abbrev pub block_calls : Kind → ℕ → ℕ → ℕ
block_calls kind clear index = (index - clear) + (block_records kind - max clear (index + 1)) + 1
