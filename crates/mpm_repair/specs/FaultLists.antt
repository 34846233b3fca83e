-- Which entries of a directory are at fault beside those that stay: slot by slot, each judged after the earlier ones that stay. What
-- doesn't stay leaves its slot free, so that nothing clashes with it any more.
use Rattle.std.specs.Prelude.{◌≡◌, ◌<◌, ◌≤◌, ℕ, zero, suc, ◌==◌, ◌&&◌, not, Bool, true, false, List, [], ◌∷◌, ◌++◌, Option, Some, None, option_map, length, position, take, slice_index_or, slice_set, if◌then◌else◌}
use Rattle.std.specs.List.{range_with_len, filter_map, cons_option}
use Rattle.mpm_base.specs.declared.kind.Kind.{Kind}
use Rattle.mpm_blocks.specs.Sectors.{sectors_of}
use Rattle.mpm_dirent.specs.declared.kinds.Entry.{Entry}
use Rattle.mpm_dirent.specs.declared.kinds.Entry.TheVariants.{Free, File, Xfcb, Label, Kept}
use Rattle.mpm_dirent.specs.declared.kinds.FileEntry.{FileEntry}
use Rattle.mpm_dirent.specs.Names.{plain}
use Rattle.mpm_mount.specs.declared.errors.ImageFault.{ImageFault}
use Rattle.mpm_mount.specs.Faults.{block_at, has_at, holds, some_place, name_of, is_named, is_label, is_xfcb, cause_of}
use Rattle.mpm_mount.specs.Images.{entries_of}
use Rattle.mpm_fault_lines.specs.declared.fault.SlotFault.{SlotFault}

-- an entry stays unless it has a cause
abbrev pub unless_at_fault : Option ℕ → Entry → Entry
unless_at_fault None entry = entry
unless_at_fault (Some cause) entry = Free

-- of the first entries, each in its slot, those that stay
unfoldable pub staying : Kind → List Entry → ℕ → List Entry
staying kind entries zero = []
staying kind entries (suc slot) =
    let earlier = staying kind entries slot in
    let entry = slice_index_or entries slot Free in
    earlier ++ (unless_at_fault (cause_of kind earlier entry) entry ∷ [])

-- the least cause by which the entry in a slot doesn't stay
abbrev pub cause_in : Kind → List Entry → ℕ → Option ℕ
cause_in kind entries slot = cause_of kind (staying kind entries slot) (slice_index_or entries slot Free)

-- an entry has a block that the entry of a file names
unfoldable pub shares_block : Kind → FileEntry → Entry → Bool
shares_block kind f entry = some_place kind (λ i. not (block_at f i == 0) && holds kind (block_at f i) entry)

-- a block stands twice in a file's entry
abbrev pub has_double : Kind → FileEntry → Bool
has_double kind f = some_place kind (λ i. not (block_at f i == 0) && has_at f i (block_at f i))

-- the lowest slot that shares a block: an earlier one, or its own
abbrev pub shared_at : Option ℕ → Bool → ℕ → Option ℕ
shared_at (Some other) double slot = Some other
shared_at None true slot = Some slot
shared_at None false slot = None

abbrev pub shared_in : Kind → List Entry → ℕ → FileEntry → Option ℕ
shared_in kind earlier slot f = shared_at (position (shares_block kind f) earlier) (has_double kind f) slot

-- the lowest slot with which a file's entry clashes by a cause: by a block that is used already, which may be its own, or by its name
abbrev pub file_clash : Kind → List Entry → ℕ → FileEntry → ℕ → Option ℕ
file_clash kind earlier slot f cause =
    if cause == 4 then shared_in kind earlier slot f
    else (if cause == 5 then position (is_named kind (name_of kind f)) earlier else None)

-- the lowest slot with which the entry in a slot clashes, after those that stay
unfoldable pub clash_of : Kind → List Entry → ℕ → Entry → ℕ → Option ℕ
clash_of kind earlier slot (File f) cause = file_clash kind earlier slot f cause
clash_of kind earlier slot (Label l) cause = position is_label earlier
clash_of kind earlier slot (Xfcb x) cause = position (is_xfcb x.user (plain x.name)) earlier
clash_of kind earlier slot Free cause = None
clash_of kind earlier slot (Kept bytes) cause = None

-- what is reported of an entry that doesn't stay
abbrev pub told_of : Kind → List Entry → ℕ → Entry → ℕ → SlotFault
told_of kind earlier slot entry cause = record { slot = slot; cause = cause; other = clash_of kind earlier slot entry cause }

-- where all before its slot stay, and what is left of it
abbrev pub fault_at : Kind → List Entry → ℕ → Option SlotFault
fault_at kind entries slot = option_map (told_of kind (take slot entries) slot (slice_index_or entries slot Free)) (cause_of kind (take slot entries) (slice_index_or entries slot Free))

abbrev pub left_at : Kind → List Entry → ℕ → Entry
left_at kind entries slot = unless_at_fault (cause_of kind (take slot entries) (slice_index_or entries slot Free)) (slice_index_or entries slot Free)

-- an entry of a directory of at most 65,535
pub record IsEntry (slot : ℕ) (entries : List Entry) : Type 0 where
  pub within : slot < length entries
  pub few : length entries ≤ 65535

-- it is listed where it is at fault, and is free then
pub record JudgesSlot (kind : Kind) (slot : ℕ) (old new : List Entry) (before after : List SlotFault) : Type 0 where
  pub faults : after ≡ before ++ cons_option (fault_at kind old slot) []
  pub entries : new ≡ slice_set old slot (left_at kind old slot)

abbrev pub fault_in : Kind → List Entry → ℕ → Option SlotFault
fault_in kind entries slot =
    option_map (told_of kind (staying kind entries slot) slot (slice_index_or entries slot Free)) (cause_in kind entries slot)

-- the entries that don't stay, in order of their slots
unfoldable pub fault_list : Kind → List Entry → List SlotFault
fault_list kind entries = filter_map (fault_in kind entries) (range_with_len 0 (length entries))

-- those of an image of its kind's size
abbrev pub faults_of : List ℕ → Kind → List SlotFault
faults_of image kind = fault_list kind (entries_of (sectors_of image kind) kind)

abbrev pub slot_of : SlotFault → ℕ
slot_of fault = fault.slot

-- the first of a list, as the fault of an image
abbrev pub first_of : List SlotFault → Option ImageFault
first_of [] = None
first_of (fault ∷ faults) = Some (record { cause = fault.cause; place = fault.slot })

-- the entries of a directory at fault are listed, and those that stay are left
pub record ListsFaults (kind : Kind) (old new : List Entry) (faults : List SlotFault) : Type 0 where
  pub list : faults ≡ fault_list kind old
  pub stay : new ≡ staying kind old (length old)
