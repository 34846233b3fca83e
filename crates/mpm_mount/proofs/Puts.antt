-- Entries that may be put into a slot, sort by sort of change: they are not at fault beside all others.
use Rattle.std.proofs.Common.{◌≡◌, ◌≢◌, ℕ, ◌<◌, ◌==◌, Bool, true, false, ◌&&◌, ◌||◌, not, inl, inr, List, Option, None, length, get_or, map, take, refl, sym, ap, ◌∙◌, arith, eq-eqb}
use Rattle.std.specs.Prelude.{nat_lt, nat_le, replicate, bytes_eq}
use Rattle.std.specs.List.{list_any}
use Rattle.std.specs.Cmp.Lexicographic.{bytes_decides}
use Rattle.std.proofs.lemmas.Bool.{cases_eq, le-ltb, ltb-false, or_parts, or_from, and_from}
use Rattle.mpm_base.specs.declared.kind.Kind.{Kind}
use Rattle.mpm_blocks.specs.Geometries.{geometry_of, last_block}
use Rattle.mpm_blocks.specs.Sectors.{Sectors}
use Rattle.mpm_dirent.specs.declared.kinds.Entry.{Entry}
use Rattle.mpm_dirent.specs.declared.kinds.Entry.TheVariants.{Free, File, Xfcb, Label}
use Rattle.mpm_dirent.specs.declared.kinds.FileEntry.{FileEntry}
use Rattle.mpm_dirent.specs.declared.kinds.XfcbEntry.{XfcbEntry}
use Rattle.mpm_dirent.specs.declared.kinds.LabelEntry.{LabelEntry}
use Rattle.mpm_dirent.specs.Names.{plain}
use Rattle.mpm_mount.specs.declared.slots.EntryName.{EntryName}
use Rattle.mpm_mount.specs.Drives.{places}
use Rattle.mpm_mount.specs.Faults.{extent_of, name_of, block_at, has_at, holds, is_outside, is_taken, some_place, is_named, is_label, is_xfcb, cause_of, first_fault}
use Rattle.mpm_mount.specs.Images.{contents_of, extent_in}
use Rattle.mpm_mount.specs.Directories.{others, Directory, entry_in}
use Rattle.mpm_mount.specs.Changes.{HasRanges, SameBlocks, HasNoBlock}
use Rattle.mpm_mount.proofs.Ranges.{map_same}
use Rattle.mpm_mount.proofs.Others.{any_split}
use Rattle.mpm_mount.proofs.UsedBlocks.{some_none, nowhere_at}
use Rattle.mpm_mount.proofs.Sound.{sound_at, file_clean, held_once}
use Rattle.mpm_mount.proofs.Distinct.{own_name, named_alone, xfcb_alone, label_alone}
use Rattle.mpm_mount.proofs.Still.{if_none, has_own}
use Rattle.mpm_mount.proofs.Recorded.{before_in}
use Rattle.mpm_mount.proofs.Taking.{all_alike, none_before, off, off_zero}

-- what no entry passes, none of the others passes
none_other : (p : Entry → Bool) (entries : List Entry) (slot : ℕ) → slot < length entries → list_any p entries ≡ false → list_any p (others entries slot) ≡ false
none_other p entries slot h none =
    (or_parts (p (get_or entries slot Free)) (list_any p (others entries slot)) (sym (any_split p entries slot Free h) ∙ none)).1

-- an entry with the blocks of the one before it
same_inside : (kind : Kind) (f g : FileEntry) → some_place kind (is_outside kind f) ≡ false → SameBlocks kind f g → some_place kind (is_outside kind g) ≡ false
same_inside kind f g inside same =
    some_none kind (is_outside kind g) (λ i h.
    ap (λ (b : ℕ). not (b == 0) && (nat_lt b (geometry_of kind).directory_blocks || nat_lt (last_block kind) b)) (same i h)
    ∙ nowhere_at kind (is_outside kind f) i inside h)

untaken_at : (kind : Kind) (entries : List Entry) (slot : ℕ) (f g : FileEntry) (i : ℕ) → first_fault kind entries ≡ None → slot < length entries
    → get_or entries slot Free ≡ File f → SameBlocks kind f g → i < places kind → block_at f i ≢ 0 → is_taken kind (others entries slot) g i ≡ false
untaken_at kind entries slot f g i faultless h is same less some =
    let sound = sound_at kind entries slot f faultless h is in
    let here : holds kind (block_at f i) (get_or entries slot Free) ≡ true = ap (holds kind (block_at f i)) is ∙ has_own f (places kind) i less in
    ap (λ (b : ℕ). not (b == 0) && (list_any (holds kind b) (others entries slot) || has_at g i b)) (same i less)
    ∙ off (not (block_at f i == 0)) (list_any (holds kind (block_at f i)) (others entries slot)) (has_at g i (block_at f i))
    (held_once kind entries slot (block_at f i) faultless h some here)
    (none_before f g i (block_at f i) (λ k below equal.
    before_in kind (take slot entries) f k i sound.free below less some (sym (same k (omega arith)) ∙ equal)))

same_untaken : (kind : Kind) (entries : List Entry) (slot : ℕ) (f g : FileEntry) → first_fault kind entries ≡ None → slot < length entries
    → get_or entries slot Free ≡ File f → SameBlocks kind f g → some_place kind (is_taken kind (others entries slot) g) ≡ false
same_untaken kind entries slot f g faultless h is same =
    some_none kind (is_taken kind (others entries slot) g) (λ i less. elim (cases_eq (block_at f i) 0) [
      | inl none ↦ off_zero (block_at g i) (list_any (holds kind (block_at g i)) (others entries slot) || has_at g i (block_at g i)) (same i less ∙ none)
      | inr some ↦ untaken_at kind entries slot f g i faultless h is same less some
    ])

-- of the fields
in_range : (f : FileEntry) → HasRanges f → (nat_lt 63 f.s2 || nat_lt 31 f.ex) ≡ false
in_range f ranges = or_from (nat_lt 63 f.s2) (nat_lt 31 f.ex) (le-ltb 63 f.s2 ranges.high) (le-ltb 31 f.ex ranges.low)

pub ranges_at : (d : Directory) (slot : ℕ) (f : FileEntry) → first_fault d.kind d.entries ≡ None → slot < length d.entries → entry_in d slot ≡ File f → HasRanges f
ranges_at d slot f faultless h is =
    let sound = sound_at d.kind d.entries slot f faultless h is in
    let parts = or_parts (nat_lt 63 f.s2) (nat_lt 31 f.ex) sound.extent in
    record { few = ltb-false 128 f.rc sound.few; low = ltb-false 31 f.ex parts.1; high = ltb-false 63 f.s2 parts.0 }

still_same : (d : Directory) (slot : ℕ) (f g : FileEntry) → first_fault d.kind d.entries ≡ None → slot < length d.entries → entry_in d slot ≡ File f → HasRanges g
    → SameBlocks d.kind f g → list_any (is_named d.kind (name_of d.kind g)) (others d.entries slot) ≡ false → cause_of d.kind (others d.entries slot) (File g) ≡ None
still_same d slot f g faultless h is ranges same unnamed =
    file_clean d.kind (others d.entries slot) g (record {
      few = le-ltb 128 g.rc ranges.few;
      inside = same_inside d.kind f g (sound_at d.kind d.entries slot f faultless h is).inside same;
      free = same_untaken d.kind d.entries slot f g faultless h is same;
      unnamed = unnamed;
      extent = in_range g ranges;
    })

-- a file's entry changes in its place, goes to another name, or comes without a block
pub still_changed : (d : Directory) (slot : ℕ) (f g : FileEntry) → first_fault d.kind d.entries ≡ None → slot < length d.entries → entry_in d slot ≡ File f → HasRanges g
    → SameBlocks d.kind f g → name_of d.kind g ≡ name_of d.kind f → cause_of d.kind (others d.entries slot) (File g) ≡ None
still_changed d slot f g faultless h is ranges same name =
    still_same d slot f g faultless h is ranges same
    (ap (λ (n : EntryName). list_any (is_named d.kind n) (others d.entries slot)) name
    ∙ named_alone d.kind d.entries slot (name_of d.kind f) faultless h (ap (is_named d.kind (name_of d.kind f)) is ∙ own_name d.kind f))

pub still_renamed : (d : Directory) (slot : ℕ) (f g : FileEntry) → first_fault d.kind d.entries ≡ None → slot < length d.entries → entry_in d slot ≡ File f → HasRanges g
    → SameBlocks d.kind f g → list_any (is_named d.kind (name_of d.kind g)) d.entries ≡ false → cause_of d.kind (others d.entries slot) (File g) ≡ None
still_renamed d slot f g faultless h is ranges same none =
    still_same d slot f g faultless h is ranges same (none_other (is_named d.kind (name_of d.kind g)) d.entries slot h none)

pub still_added : (d : Directory) (slot : ℕ) (g : FileEntry) → slot < length d.entries → HasRanges g → HasNoBlock d.kind g
    → list_any (is_named d.kind (name_of d.kind g)) d.entries ≡ false → cause_of d.kind (others d.entries slot) (File g) ≡ None
still_added d slot g h ranges empty none =
    file_clean d.kind (others d.entries slot) g (record {
      few = le-ltb 128 g.rc ranges.few;
      inside = some_none d.kind (is_outside d.kind g) (λ i less.
          off_zero (block_at g i) (nat_lt (block_at g i) (geometry_of d.kind).directory_blocks || nat_lt (last_block d.kind) (block_at g i)) (empty i less));
      free = some_none d.kind (is_taken d.kind (others d.entries slot) g) (λ i less.
          off_zero (block_at g i) (list_any (holds d.kind (block_at g i)) (others d.entries slot) || has_at g i (block_at g i)) (empty i less));
      unnamed = none_other (is_named d.kind (name_of d.kind g)) d.entries slot h none;
      extent = in_range g ranges;
    })

-- an XFCB comes, or goes to another name; it changes in its place
pub still_xfcb_added : (d : Directory) (slot : ℕ) (x : XfcbEntry) → slot < length d.entries → list_any (is_xfcb x.user (plain x.name)) d.entries ≡ false
    → cause_of d.kind (others d.entries slot) (Xfcb x) ≡ None
still_xfcb_added d slot x h none =
    if_none (list_any (is_xfcb x.user (plain x.name)) (others d.entries slot)) 8 (none_other (is_xfcb x.user (plain x.name)) d.entries slot h none)

pub still_xfcb_changed : (d : Directory) (slot : ℕ) (x y : XfcbEntry) → first_fault d.kind d.entries ≡ None → slot < length d.entries → entry_in d slot ≡ Xfcb x
    → y.user ≡ x.user → plain y.name ≡ plain x.name → cause_of d.kind (others d.entries slot) (Xfcb y) ≡ None
still_xfcb_changed d slot x y faultless h is user name =
    if_none (list_any (is_xfcb y.user (plain y.name)) (others d.entries slot)) 8
    (xfcb_alone d.kind d.entries slot y.user (plain y.name) faultless h
    (ap (is_xfcb y.user (plain y.name)) is
    ∙ and_from (x.user == y.user) (bytes_eq (plain x.name) (plain y.name)) (eq-eqb x.user y.user (sym user)) ((bytes_decides (plain x.name) (plain y.name)).1 (sym name))))

-- the label comes; it changes in its place
pub still_label_added : (d : Directory) (slot : ℕ) (l : LabelEntry) → slot < length d.entries → list_any is_label d.entries ≡ false → cause_of d.kind (others d.entries slot) (Label l) ≡ None
still_label_added d slot l h none = if_none (list_any is_label (others d.entries slot)) 7 (none_other is_label d.entries slot h none)

pub still_label_changed : (d : Directory) (slot : ℕ) (old l : LabelEntry) → first_fault d.kind d.entries ≡ None → slot < length d.entries → entry_in d slot ≡ Label old
    → cause_of d.kind (others d.entries slot) (Label l) ≡ None
still_label_changed d slot old l faultless h is =
    if_none (list_any is_label (others d.entries slot)) 7 (label_alone d.kind d.entries slot faultless h (ap is_label is))

-- what an entry has that has no block, or the blocks of the one before it
no_contents : (sectors : Sectors) (kind : Kind) → contents_of sectors kind 0 ≡ None
unfolding contents_of
no_contents sectors kind = refl

pub extent_without_blocks : (sectors : Sectors) (kind : Kind) (f : FileEntry) → HasNoBlock kind f
    → extent_in sectors kind f ≡ record { attributes = map (nat_le 128) f.name; last = extent_of f; count = f.rc; blocks = replicate (places kind) None }
unfolding extent_in
extent_without_blocks sectors kind f empty =
    ap (λ (blocks : List (Option (List (List ℕ)))). record (extent_in sectors kind f) { blocks = blocks })
    (map_same {X = Option (List (List ℕ))} (λ i. contents_of sectors kind (block_at f i)) (λ i. None) (places kind) (λ i h. ap (contents_of sectors kind) (empty i h) ∙ no_contents sectors kind)
    ∙ all_alike {X = Option (List (List ℕ))} None 0 (places kind))

pub extent_with_same_blocks : (sectors : Sectors) (kind : Kind) (f g : FileEntry) → SameBlocks kind f g
    → extent_in sectors kind g ≡ record (extent_in sectors kind f) { attributes = map (nat_le 128) g.name; last = extent_of g; count = g.rc }
unfolding extent_in
extent_with_same_blocks sectors kind f g same =
    ap (λ (blocks : List (Option (List (List ℕ)))). record (extent_in sectors kind g) { blocks = blocks })
    (map_same (λ i. contents_of sectors kind (block_at g i)) (λ i. contents_of sectors kind (block_at f i)) (places kind) (λ i h. ap (contents_of sectors kind) (same i h)))
