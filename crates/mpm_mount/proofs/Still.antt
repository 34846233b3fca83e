-- A directory stays without a fault where an entry is replaced by one that is not at fault after all others.
use Rattle.std.proofs.Common.{◌≡◌, ◌≢◌, ℕ, zero, suc, ◌<◌, ◌≤◌, ◌==◌, Bool, true, false, ◌&&◌, ◌||◌, not, inl, inr, List, [], ◌∷◌, Some, None, length, get_or, take, drop, refl, sym, ap, ◌∙◌, arith}
use Rattle.std.specs.Prelude.{slice_set, bytes_eq, if◌then◌else◌}
use Rattle.std.specs.List.{list_any}
use Rattle.std.specs.Cmp.Lexicographic.{bytes_decides}
use Rattle.std.proofs.lemmas.Bool.{true≢false, both_ways, false_from_ne_true, cases_eq, or_parts, and_parts, and_from, eqb-true, eq-eqb}
use Rattle.std.proofs.lemmas.List.{length-set, length-take-le, get_or-take, get_or-set_same, get_or-set_other, take-set-le}
use Rattle.std.proofs.lemmas.List.Folds.{list_any-append}
use Rattle.mpm_base.specs.declared.kind.Kind.{Kind}
use Rattle.mpm_base.proofs.Lists.{any_at}
use Rattle.mpm_dirent.specs.declared.kinds.Entry.{Entry}
use Rattle.mpm_dirent.specs.declared.kinds.Entry.TheVariants.{Free, File, Xfcb, Label, Kept}
use Rattle.mpm_dirent.specs.declared.kinds.FileEntry.{FileEntry}
use Rattle.mpm_dirent.specs.Names.{plain}
use Rattle.mpm_mount.specs.Drives.{places}
use Rattle.mpm_mount.specs.Faults.{name_of, block_at, has_at, holds, is_taken, is_named, is_label, is_xfcb, cause_of, cause_at, first_fault}
use Rattle.mpm_mount.specs.Directories.{others}
use Rattle.mpm_mount.proofs.Ranges.{none_in}
use Rattle.mpm_mount.proofs.UsedBlocks.{nowhere_at, some_none}
use Rattle.mpm_mount.proofs.FirstFault.{faultless_at, faultless_if}
use Rattle.mpm_mount.proofs.Others.{all_none}
use Rattle.mpm_mount.proofs.Sound.{IsSoundBehind, file_sound, file_clean, held_by, untaken}
use Rattle.mpm_mount.proofs.Distinct.{name_is, own_name, none_if}

-- what an entry asks of others, of these where of those
abbrev AsClear : Kind → List Entry → List Entry → Entry → Type 0
AsClear kind those these (File f) =
    ((i : ℕ) → i < places kind → block_at f i ≢ 0 → list_any (holds kind (block_at f i)) those ≡ false → list_any (holds kind (block_at f i)) these ≡ false)
    × (list_any (is_named kind (name_of kind f)) those ≡ false → list_any (is_named kind (name_of kind f)) these ≡ false)
AsClear kind those these (Label l) = list_any is_label those ≡ false → list_any is_label these ≡ false
AsClear kind those these (Xfcb x) = list_any (is_xfcb x.user (plain x.name)) those ≡ false → list_any (is_xfcb x.user (plain x.name)) these ≡ false
AsClear kind those these Free = Unit {0}
AsClear kind those these (Kept bytes) = Unit {0}

pub if_none : (b : Bool) (cause : ℕ) → b ≡ false → (if b then Some cause else None) ≡ None
if_none true cause none = absurd (true≢false none)
if_none false cause none = refl

weaker : (off those these has : Bool) → (off ≡ false → those ≡ false → these ≡ false) → (not off && (those || has)) ≡ false → (not off && (these || has)) ≡ false
weaker true those these has clear none = refl
weaker false true these has clear none = absurd (true≢false none)
weaker false false these true clear none = absurd (true≢false none)
weaker false false these false clear none = ap (λ b. b || false) (clear refl refl)

pub nonzero : (b : ℕ) → (b == 0) ≡ false → b ≢ 0
nonzero b off none = both_ways (b == 0) off (eq-eqb b 0 none)

file_still : (kind : Kind) (those these : List Entry) (f : FileEntry) → AsClear kind those these (File f) → IsSoundBehind kind those f → IsSoundBehind kind these f
file_still kind those these f clear sound = record {
  few = sound.few;
  inside = sound.inside;
  free = some_none kind (is_taken kind these f) (λ i h.
      weaker (block_at f i == 0) (list_any (holds kind (block_at f i)) those) (list_any (holds kind (block_at f i)) these) (has_at f i (block_at f i))
      (λ some none. clear.0 i h (nonzero (block_at f i) some) none) (nowhere_at kind (is_taken kind those f) i sound.free h));
  unnamed = clear.1 sound.unnamed;
  extent = sound.extent;
}

pub still_behind : (kind : Kind) (those these : List Entry) (entry : Entry) → AsClear kind those these entry → cause_of kind those entry ≡ None → cause_of kind these entry ≡ None
still_behind kind those these (File f) clear none = file_clean kind these f (file_still kind those these f clear (file_sound kind those f none))
still_behind kind those these (Label l) clear none = if_none (list_any is_label these) 7 (clear (none_if (list_any is_label those) 7 none))
still_behind kind those these (Xfcb x) clear none =
    if_none (list_any (is_xfcb x.user (plain x.name)) these) 8 (clear (none_if (list_any (is_xfcb x.user (plain x.name)) those) 8 none))
still_behind kind those these Free clear none = refl
still_behind kind those these (Kept bytes) clear none = refl

-- these are among those
fewer_clear : (kind : Kind) (those these : List Entry) (entry : Entry) → ((p : Entry → Bool) → list_any p those ≡ false → list_any p these ≡ false) → AsClear kind those these entry
fewer_clear kind those these (File f) fewer = (λ i h some. fewer (holds kind (block_at f i)), fewer (is_named kind (name_of kind f)))
fewer_clear kind those these (Label l) fewer = fewer is_label
fewer_clear kind those these (Xfcb x) fewer = fewer (is_xfcb x.user (plain x.name))
fewer_clear kind those these Free fewer = tt
fewer_clear kind those these (Kept bytes) fewer = tt

front_of_others : (p : Entry → Bool) (entries : List Entry) (slot : ℕ) → list_any p (others entries slot) ≡ false → list_any p (take slot entries) ≡ false
front_of_others p entries slot none =
    (or_parts (list_any p (take slot entries)) (list_any p (drop (suc slot) entries)) (sym (list_any-append p (take slot entries) (drop (suc slot) entries)) ∙ none)).0

-- each of the others
suc_same : (k i : ℕ) → suc k ≢ suc i → k ≢ i
suc_same k i apart same = apart (omega arith)

pub other_at : (p : Entry → Bool) (entries : List Entry) (slot k : ℕ) → list_any p (others entries slot) ≡ false → k < length entries → k ≢ slot → p (get_or entries k Free) ≡ false
other_at p [] slot k none h apart = absurd (omega arith)
other_at p (e ∷ es) zero zero none h apart = absurd (apart refl)
other_at p (e ∷ es) zero (suc k) none h apart = none_in p es k Free none (omega arith)
other_at p (e ∷ es) (suc slot) zero none h apart = (or_parts (p e) (list_any p (others es slot)) none).0
other_at p (e ∷ es) (suc slot) (suc k) none h apart =
    other_at p es slot k ((or_parts (p e) (list_any p (others es slot)) none).1) (omega arith) (suc_same k slot apart)

-- the front of the changed list
front_set : (p : Entry → Bool) (entries : List Entry) (slot k : ℕ) (new : Entry) → slot < length entries → k ≤ length entries → list_any p (take k entries) ≡ false → p new ≡ false
    → list_any p (take k (slice_set entries slot new)) ≡ false
front_set p entries slot k new inside h none clear =
    all_none p (take k (slice_set entries slot new)) Free (λ j less.
    let small : j < k = omega (arith, length-take-le k (slice_set entries slot new) (omega (arith, length-set entries slot new))) in
    elim (cases_eq j slot) [
      | inl same ↦
          ap p (get_or-take k (slice_set entries slot new) j Free small ∙ ap (λ (m : ℕ). get_or (slice_set entries slot new) m Free) same ∙ get_or-set_same entries slot new Free inside) ∙ clear
      | inr apart ↦
          ap p (get_or-take k (slice_set entries slot new) j Free small ∙ get_or-set_other entries slot j new Free apart ∙ sym (get_or-take k entries j Free small))
          ∙ none_in p (take k entries) j Free none (omega (arith, length-take-le k entries h))
    ])

-- the new entry does not clash with another after which it is not at fault
abbrev IsClear : Kind → Entry → Entry → Type 0
IsClear kind (File f) new = ((i : ℕ) → i < places kind → block_at f i ≢ 0 → holds kind (block_at f i) new ≡ false) × (is_named kind (name_of kind f) new ≡ false)
IsClear kind (Label l) new = is_label new ≡ false
IsClear kind (Xfcb x) new = is_xfcb x.user (plain x.name) new ≡ false
IsClear kind Free new = Unit {0}
IsClear kind (Kept bytes) new = Unit {0}

pub has_own : (f : FileEntry) (count i : ℕ) → i < count → has_at f count (block_at f i) ≡ true
unfolding has_at
has_own f count i h = any_at (λ j. block_at f j == block_at f i) count i h (eq-eqb (block_at f i) (block_at f i) refl)

file_in : Entry → FileEntry → FileEntry
file_in (File f) other = f
file_in Free other = other
file_in (Xfcb x) other = other
file_in (Label l) other = other
file_in (Kept bytes) other = other

pub file_injective : (f g : FileEntry) → File f ≡ File g → f ≡ g
unfolding file_in
file_injective f g same = ap (λ e. file_in e f) same

xfcb_back : (user other : ℕ) (name others_name : List ℕ) → ((other == user) && bytes_eq others_name name) ≡ true → ((user == other) && bytes_eq name others_name) ≡ true
xfcb_back user other name others_name has =
    let parts = and_parts (other == user) (bytes_eq others_name name) has in
    and_from (user == other) (bytes_eq name others_name) (eq-eqb user other (sym (eqb-true other user parts.0)))
    ((bytes_decides name others_name).1 (sym ((bytes_decides others_name name).0 parts.1)))

files_clear : (kind : Kind) (rest : List Entry) (f g : FileEntry) → IsSoundBehind kind rest g → ((p : Entry → Bool) → list_any p rest ≡ false → p (File f) ≡ false) → IsClear kind (File f) (File g)
files_clear kind rest f g sound among = (
  (λ i h some. false_from_ne_true (holds kind (block_at f i) (File g)) (λ held.
      let by = held_by kind (block_at f i) (File g) held in
      let named : by.file ≡ g = sym (file_injective g by.file by.is) in
      let here : block_at g by.place ≡ block_at f i = ap (λ (e : FileEntry). block_at e by.place) (sym named) ∙ by.here in
      let none = nowhere_at kind (is_taken kind rest g) by.place sound.free by.within in
      let free : list_any (holds kind (block_at g by.place)) rest ≡ false =
      untaken (block_at g by.place) (list_any (holds kind (block_at g by.place)) rest) (has_at g by.place (block_at g by.place)) (λ none0. some (sym here ∙ none0)) none in
      both_ways (has_at f (places kind) (block_at f i)) (sym (ap (has_at f (places kind)) here) ∙ among (holds kind (block_at g by.place)) free) (has_own f (places kind) i h))),
  false_from_ne_true (is_named kind (name_of kind f) (File g)) (λ named.
      let same = name_is kind g (name_of kind f) named in
      both_ways (is_named kind (name_of kind g) (File f)) (among (is_named kind (name_of kind g)) sound.unnamed) (ap (λ n. is_named kind n (File f)) same ∙ own_name kind f)),
)

clear_behind : (kind : Kind) (rest : List Entry) (entry new : Entry) → cause_of kind rest new ≡ None → ((p : Entry → Bool) → list_any p rest ≡ false → p entry ≡ false)
    → IsClear kind entry new
clear_behind kind rest (File f) (File g) none among = files_clear kind rest f g (file_sound kind rest g none) among
clear_behind kind rest (File f) Free none among = (λ i h some. refl, refl)
clear_behind kind rest (File f) (Xfcb y) none among = (λ i h some. refl, refl)
clear_behind kind rest (File f) (Label m) none among = (λ i h some. refl, refl)
clear_behind kind rest (File f) (Kept kept) none among = (λ i h some. refl, refl)
clear_behind kind rest (Label l) (Label m) none among = absurd (true≢false (among is_label (none_if (list_any is_label rest) 7 none)))
clear_behind kind rest (Label l) (File g) none among = refl
clear_behind kind rest (Label l) Free none among = refl
clear_behind kind rest (Label l) (Xfcb y) none among = refl
clear_behind kind rest (Label l) (Kept kept) none among = refl
clear_behind kind rest (Xfcb x) (Xfcb y) none among =
    false_from_ne_true (is_xfcb x.user (plain x.name) (Xfcb y)) (λ has.
    let free = among (is_xfcb y.user (plain y.name)) (none_if (list_any (is_xfcb y.user (plain y.name)) rest) 8 none) in
    both_ways (is_xfcb y.user (plain y.name) (Xfcb x)) free (xfcb_back x.user y.user (plain x.name) (plain y.name) has))
clear_behind kind rest (Xfcb x) (File g) none among = refl
clear_behind kind rest (Xfcb x) Free none among = refl
clear_behind kind rest (Xfcb x) (Label m) none among = refl
clear_behind kind rest (Xfcb x) (Kept kept) none among = refl
clear_behind kind rest Free new none among = tt
clear_behind kind rest (Kept bytes) new none among = tt

clear_as : (kind : Kind) (entries : List Entry) (slot k : ℕ) (new entry : Entry) → slot < length entries → k ≤ length entries → IsClear kind entry new
    → AsClear kind (take k entries) (take k (slice_set entries slot new)) entry
clear_as kind entries slot k new (File f) inside h clear = (
  λ i less some none. front_set (holds kind (block_at f i)) entries slot k new inside h none (clear.0 i less some),
  λ none. front_set (is_named kind (name_of kind f)) entries slot k new inside h none clear.1,
)
clear_as kind entries slot k new (Label l) inside h clear = λ none. front_set is_label entries slot k new inside h none clear
clear_as kind entries slot k new (Xfcb x) inside h clear = λ none. front_set (is_xfcb x.user (plain x.name)) entries slot k new inside h none clear
clear_as kind entries slot k new Free inside h clear = tt
clear_as kind entries slot k new (Kept bytes) inside h clear = tt

-- a slot of the changed list
slot_here : (kind : Kind) (entries : List Entry) (slot : ℕ) (new : Entry) → slot < length entries → cause_of kind (others entries slot) new ≡ None
    → cause_at kind (slice_set entries slot new) slot ≡ None
slot_here kind entries slot new h none =
    ap (cause_of kind (take slot (slice_set entries slot new))) (get_or-set_same entries slot new Free h)
    ∙ ap (λ es. cause_of kind es new) (take-set-le slot entries slot new (omega arith))
    ∙ still_behind kind (others entries slot) (take slot entries) new (fewer_clear kind (others entries slot) (take slot entries) new (λ p. front_of_others p entries slot)) none

slot_other : (kind : Kind) (entries : List Entry) (slot k : ℕ) (new : Entry) → first_fault kind entries ≡ None → slot < length entries → k < length entries → k ≢ slot
    → cause_of kind (others entries slot) new ≡ None → cause_at kind (slice_set entries slot new) k ≡ None
slot_other kind entries slot k new faultless inside h apart none =
    ap (cause_of kind (take k (slice_set entries slot new))) (get_or-set_other entries slot k new Free apart)
    ∙ still_behind kind (take k entries) (take k (slice_set entries slot new)) (get_or entries k Free)
    (clear_as kind entries slot k new (get_or entries k Free) inside (omega arith)
    (clear_behind kind (others entries slot) (get_or entries k Free) new none (λ p free. other_at p entries slot k free h apart)))
    (faultless_at kind entries k faultless h)

pub still_faultless : (kind : Kind) (entries : List Entry) (slot : ℕ) (new : Entry) → first_fault kind entries ≡ None → slot < length entries
    → cause_of kind (others entries slot) new ≡ None → first_fault kind (slice_set entries slot new) ≡ None
still_faultless kind entries slot new faultless inside none =
    faultless_if kind (slice_set entries slot new) (λ k less.
    let h : k < length entries = omega (arith, length-set entries slot new) in
    elim (cases_eq k slot) [
      | inl same ↦ ap (cause_at kind (slice_set entries slot new)) same ∙ slot_here kind entries slot new inside none
      | inr apart ↦ slot_other kind entries slot k new faultless inside h apart none
    ])
