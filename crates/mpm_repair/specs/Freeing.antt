-- Directory entries that are freed: the first byte of each becomes E5h. (MP/M II Programmer's Guide, "Directory Entries".)
use Rattle.std.specs.Prelude.{◌≡◌, ℕ, ◌+◌, ◌*◌, ◌/◌, ◌%◌, ◌<◌, ◌≤◌, ◌≢◌, ◌⊎◌, Bool, false, List, [], ◌∷◌, Some, Result, OnOk, OnErr, length, slice_set, slice_index_or}
use Rattle.std.specs.List.{filter, range_with_len}
use Rattle.mpm_base.specs.declared.kind.Kind.{Kind}
use Rattle.mpm_blocks.specs.Geometries.{geometry_of, place_of}
use Rattle.mpm_port.specs.Causes.{HasCause}
use Rattle.mpm_port.specs.Disks.{Disks, KeepsTold}
use Rattle.mpm_port.specs.declared.drives.Drives.{Ghosts}
use Rattle.mpm_sectors.specs.Writes.{Elsewhere}
use Rattle.mpm_fault_lines.specs.Lists.{listed}
use Rattle.mpm_dirent.specs.declared.kinds.Entry.{Entry}
use Rattle.mpm_dirent.specs.declared.kinds.Entry.TheVariants.{Free}

-- all are slots of a directory of a kind
abbrev pub AllSlots : Kind → List ℕ → Type 0
AllSlots kind [] = Unit {0}
AllSlots kind (slot ∷ slots) = (slot < (geometry_of kind).drm + 1) × AllSlots kind slots

-- the entries with some slots free
unfoldable pub freed : List ℕ → List Entry → List Entry
freed [] entries = entries
freed (slot ∷ slots) entries = freed slots (slice_set entries slot Free)

-- they are freed so, and that is how many they are
pub record FreesEntries (slots : List ℕ) (old new : List Entry) (number : ℕ) : Type 0 where
  pub freed : new ≡ freed slots old
  pub count : number ≡ length slots

-- where in an image the first byte of a slot is
abbrev pub byte_of : Kind → ℕ → ℕ
byte_of kind slot = 128 * place_of kind (slot / 4) + 32 * (slot % 4)

-- the image with some slots free: no other byte has changed
unfoldable pub freed_image : Kind → List ℕ → List ℕ → List ℕ
freed_image kind [] image = image
freed_image kind (slot ∷ slots) image = freed_image kind slots (slice_set image (byte_of kind slot) 229)

-- a sector of the directory with the first bytes of some of its slots E5h
unfoldable pub freed_within : List ℕ → List ℕ → List ℕ
freed_within [] bytes = bytes
freed_within (slot ∷ slots) bytes = freed_within slots (slice_set bytes (32 * (slot % 4)) 229)

-- the marked ones of some slots from one on
unfoldable pub listed_from : List Bool → ℕ → ℕ → List ℕ
listed_from marks first count = filter (λ slot. slice_index_or marks slot false) (range_with_len first count)

-- some slots of a drive are free: no other byte of its image has changed, and no image of another name
pub record FreesOn (drive : ℕ) (kind : Kind) (slots : List ℕ) (old new : Disks) : Type 0 where
  pub here : (image : List ℕ) → old.image drive ≡ Some image → new.image drive ≡ Some (freed_image kind slots image)
  pub beside : Elsewhere drive old new

-- they are, or nothing has changed
abbrev pub FreesPerhaps : ℕ → Kind → List ℕ → Disks → Disks → Type 0
FreesPerhaps drive kind slots old new = (new ≡ old) ⊎ FreesOn drive kind slots old new

-- those of the first sectors of the directory are free, perhaps of none or all
pub record FreesFirst (drive : ℕ) (kind : Kind) (marks : List Bool) (old new : Disks) : Type 0 where
  pub sectors : ℕ
  pub within : 4 * sectors ≤ (geometry_of kind).drm + 1
  pub frees : FreesOn drive kind (listed marks (4 * sectors)) old new

-- slots of a drive were freed, or some of them where it failed. No image of another name has changed
pub record FreesSlots {D A E : Type 0} (of : Ghosts D) (drive : ℕ) (Whole Part : Disks → Disks → Type 0) (old new : D) (result : Result A E) : Type 0 where
  pub ok : OnOk result (Whole (of.disks old) (of.disks new))
  pub err : OnErr result (Part (of.disks old) (of.disks new))
  pub told : KeepsTold ((of.disks old).name_of drive) (of.told old) (of.told new)
  pub cause : HasCause (of.faults old) (of.faults new) result
  pub names : of.failed_names new ≡ of.failed_names old
  pub beside : (other : ℕ) → other ≢ drive → of.unsynced new other ≡ of.unsynced old other
