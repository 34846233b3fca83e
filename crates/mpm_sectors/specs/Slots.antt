-- Directory entries in the sectors of the directory, four in each. (MP/M II Programmer's Guide, "Directory Entries" and
-- "Extended File Control Blocks".)
use Rattle.std.specs.Prelude.{◌≡◌, ℕ, ◌*◌, ◌/◌, ◌%◌, ◌&&◌, Bool, List, ◌∷◌, ◌++◌, length, nat_le, take, drop, slice_index, if◌then◌else◌}
use Rattle.mpm_base.specs.declared.kind.Kind.{Kind}
use Rattle.mpm_blocks.specs.Geometries.{geometry_of}
use Rattle.mpm_dirent.specs.declared.kinds.Entry.{Entry}
use Rattle.mpm_dirent.specs.declared.kinds.Entry.TheVariants.{Free, File, Xfcb, Label, Kept}
use Rattle.mpm_dirent.specs.Entries.{part, bytes_of, entry_of}
use Rattle.mpm_blocks.specs.Sectors.{sectors_of, with_slot}
use Rattle.mpm_sectors.specs.Writes.{Write}

-- the bytes of an entry of a sector
abbrev pub slot_bytes : List ℕ → ℕ → List ℕ
slot_bytes sector place = part (32 * place) 32 sector

-- the first byte of an XFCB or a label
abbrev pub is_extended : ℕ → Bool
is_extended sort = nat_le 16 sort && nat_le sort 32

-- the bytes of an XFCB or a label, of which 14 and 15, that no field says, stay where they were those of one
abbrev pub with_reserved : List ℕ → List ℕ → List ℕ
with_reserved old bytes = if is_extended (slice_index old 0) then take 14 bytes ++ (part 14 2 old ++ drop 16 bytes) else bytes

-- an entry, by its bytes, in the place of others: a free entry changes the first byte alone
abbrev pub laid_over : List ℕ → Entry → List ℕ → List ℕ
laid_over old Free bytes = 229 ∷ drop 1 old
laid_over old (File f) bytes = bytes
laid_over old (Xfcb x) bytes = with_reserved old bytes
laid_over old (Label l) bytes = with_reserved old bytes
laid_over old (Kept kept) bytes = bytes

-- the same by the width of its map
unfoldable pub bytes_over : Bool → List ℕ → Entry → List ℕ
bytes_over wide old entry = laid_over old entry (bytes_of entry wide)

-- an entry that is written over the bytes of another is read back as it was
pub record IsReadBack (wide : Bool) (entry : Entry) : Type 0 where
  pub back : (old : List ℕ) → length old ≡ 32 → entry_of (bytes_over wide old entry) wide ≡ entry
  pub long : (old : List ℕ) → length old ≡ 32 → length (bytes_over wide old entry) ≡ 32

-- a sector with an entry in the place of another
unfoldable pub with_entry : Bool → List ℕ → ℕ → Entry → List ℕ
with_entry wide sector place entry = with_slot sector place (bytes_over wide (slot_bytes sector place) entry)

-- the sector of a slot of the directory, with an entry in that slot
abbrev pub slot_write : Kind → List ℕ → ℕ → Entry → Write
slot_write kind image slot entry = record {
  sector = slot / 4;
  bytes = with_entry (geometry_of kind).wide (sectors_of image kind (slot / 4)) (slot % 4) entry;
}

-- the sector of two slots of the directory, with an entry in each
abbrev pub slots_write : Kind → List ℕ → ℕ → Entry → ℕ → Entry → Write
slots_write kind image slot entry other_slot other = record {
  sector = slot / 4;
  bytes =
      with_entry (geometry_of kind).wide (with_entry (geometry_of kind).wide (sectors_of image kind (slot / 4)) (slot % 4) entry) (other_slot % 4) other;
}
