-- What is reported of an entry by what is found of it.
use Rattle.std.proofs.Common.{◌≡◌, ℕ, true, false, ◌||◌, List, Option, Some, None, refl, ap, ◌∙◌}
use Rattle.std.specs.Prelude.{option_map, is_some, nat_lt, position, if◌then◌else◌}
use Rattle.std.specs.List.{list_any}
use Rattle.mpm_base.specs.declared.kind.Kind.{Kind}
use Rattle.mpm_dirent.specs.declared.kinds.Entry.{Entry}
use Rattle.mpm_dirent.specs.declared.kinds.Entry.TheVariants.{File, Xfcb, Label}
use Rattle.mpm_dirent.specs.declared.kinds.FileEntry.{FileEntry}
use Rattle.mpm_dirent.specs.declared.kinds.XfcbEntry.{XfcbEntry}
use Rattle.mpm_dirent.specs.declared.kinds.LabelEntry.{LabelEntry}
use Rattle.mpm_dirent.specs.Names.{plain}
use Rattle.mpm_fault_lines.specs.declared.fault.SlotFault.{SlotFault}
use Rattle.mpm_mount.specs.Faults.{name_of, is_named, is_label, is_xfcb, is_outside, is_taken, some_place, file_cause, cause_of}
use Rattle.mpm_repair.specs.FaultLists.{shared_in, clash_of, told_of}
use Rattle.mpm_repair.proofs.Shared.{any_at_place, shared_is}

-- of a file's entry
abbrev pub file_told : Kind → List Entry → ℕ → FileEntry → Option SlotFault
file_told kind earlier slot f = option_map (told_of kind earlier slot (File f)) (file_cause kind earlier f)

pub many_records : (kind : Kind) (earlier : List Entry) (slot : ℕ) (f : FileEntry) → nat_lt 128 f.rc ≡ true → file_told kind earlier slot f ≡ Some (record { slot = slot; cause = 2; other = None })
unfolding file_cause clash_of
many_records kind earlier slot f many = rw many

pub block_outside : (kind : Kind) (earlier : List Entry) (slot : ℕ) (f : FileEntry) → nat_lt 128 f.rc ≡ false → some_place kind (is_outside kind f) ≡ true
    → file_told kind earlier slot f ≡ Some (record { slot = slot; cause = 3; other = None })
unfolding file_cause clash_of
block_outside kind earlier slot f few outside = rw (few, outside)

pub block_shared : (kind : Kind) (earlier : List Entry) (slot other : ℕ) (f : FileEntry) → nat_lt 128 f.rc ≡ false → some_place kind (is_outside kind f) ≡ false → shared_in kind earlier slot f ≡ Some other
    → file_told kind earlier slot f ≡ Some (record { slot = slot; cause = 4; other = Some other })
unfolding file_cause clash_of
block_shared kind earlier slot other f few inside shared =
    let taken : some_place kind (is_taken kind earlier f) ≡ true = shared_is kind earlier f slot ∙ ap is_some shared in
    rw (few, inside, taken, shared)

untaken : (kind : Kind) (earlier : List Entry) (slot : ℕ) (f : FileEntry) → shared_in kind earlier slot f ≡ None → some_place kind (is_taken kind earlier f) ≡ false
untaken kind earlier slot f none = shared_is kind earlier f slot ∙ ap is_some none

pub number_taken : (kind : Kind) (earlier : List Entry) (slot other : ℕ) (f : FileEntry) → nat_lt 128 f.rc ≡ false → some_place kind (is_outside kind f) ≡ false → shared_in kind earlier slot f ≡ None
    → position (is_named kind (name_of kind f)) earlier ≡ Some other → file_told kind earlier slot f ≡ Some (record { slot = slot; cause = 5; other = Some other })
unfolding file_cause clash_of
number_taken kind earlier slot other f few inside none at =
    let free = untaken kind earlier slot f none in
    let named = any_at_place (is_named kind (name_of kind f)) earlier (Some other) at in
    rw (few, inside, free, named, at)

pub extent_far : (kind : Kind) (earlier : List Entry) (slot : ℕ) (f : FileEntry) → nat_lt 128 f.rc ≡ false → some_place kind (is_outside kind f) ≡ false → shared_in kind earlier slot f ≡ None
    → position (is_named kind (name_of kind f)) earlier ≡ None → (nat_lt 63 f.s2 || nat_lt 31 f.ex) ≡ true → file_told kind earlier slot f ≡ Some (record { slot = slot; cause = 6; other = None })
unfolding file_cause clash_of
extent_far kind earlier slot f few inside none at far =
    let free = untaken kind earlier slot f none in
    let unnamed = any_at_place (is_named kind (name_of kind f)) earlier None at in
    rw (few, inside, free, unnamed, far)

pub file_sound : (kind : Kind) (earlier : List Entry) (slot : ℕ) (f : FileEntry) → nat_lt 128 f.rc ≡ false → some_place kind (is_outside kind f) ≡ false → shared_in kind earlier slot f ≡ None
    → position (is_named kind (name_of kind f)) earlier ≡ None → (nat_lt 63 f.s2 || nat_lt 31 f.ex) ≡ false → file_told kind earlier slot f ≡ None
unfolding file_cause clash_of
file_sound kind earlier slot f few inside none at near =
    let free = untaken kind earlier slot f none in
    let unnamed = any_at_place (is_named kind (name_of kind f)) earlier None at in
    rw (few, inside, free, unnamed, near)

-- of a label
abbrev pub clashing : ℕ → ℕ → Option ℕ → Option SlotFault
clashing slot cause other = option_map (λ one. record { slot = slot; cause = cause; other = Some one }) other

label_by : (kind : Kind) (earlier : List Entry) (slot : ℕ) (l : LabelEntry) (at : Option ℕ) → position is_label earlier ≡ at
    → option_map (told_of kind earlier slot (Label l)) (if list_any is_label earlier then Some 7 else None) ≡ clashing slot 7 at
unfolding clash_of
label_by kind earlier slot l None at = rw (any_at_place is_label earlier None at)
label_by kind earlier slot l (Some other) at = rw (any_at_place is_label earlier (Some other) at, at)

pub label_told : (kind : Kind) (earlier : List Entry) (slot : ℕ) (l : LabelEntry)
    → option_map (told_of kind earlier slot (Label l)) (cause_of kind earlier (Label l)) ≡ clashing slot 7 (position is_label earlier)
label_told kind earlier slot l = label_by kind earlier slot l (position is_label earlier) refl

-- of an XFCB
xfcb_by : (kind : Kind) (earlier : List Entry) (slot : ℕ) (x : XfcbEntry) (at : Option ℕ) → position (is_xfcb x.user (plain x.name)) earlier ≡ at
    → option_map (told_of kind earlier slot (Xfcb x)) (if list_any (is_xfcb x.user (plain x.name)) earlier then Some 8 else None) ≡ clashing slot 8 at
unfolding clash_of
xfcb_by kind earlier slot x None at = rw (any_at_place (is_xfcb x.user (plain x.name)) earlier None at)
xfcb_by kind earlier slot x (Some other) at = rw (any_at_place (is_xfcb x.user (plain x.name)) earlier (Some other) at, at)

pub xfcb_told : (kind : Kind) (earlier : List Entry) (slot : ℕ) (x : XfcbEntry)
    → option_map (told_of kind earlier slot (Xfcb x)) (cause_of kind earlier (Xfcb x)) ≡ clashing slot 8 (position (is_xfcb x.user (plain x.name)) earlier)
xfcb_told kind earlier slot x = xfcb_by kind earlier slot x (position (is_xfcb x.user (plain x.name)) earlier) refl
