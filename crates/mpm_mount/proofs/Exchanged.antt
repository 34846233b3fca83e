-- The drive of a directory in which one entry is replaced by another.
use Rattle.std.proofs.Common.{◌≡◌, ℕ, zero, suc, ◌+◌, ◌-◌, ◌<◌, ◌==◌, ◌&&◌, Bool, true, false, List, [], ◌∷◌, Option, Some, None, map, length, get_or, refl, sym, ap, subst, ◌∙◌, arith}
use Rattle.std.specs.Prelude.{slice_set, count_by, is_some, bytes_eq}
use Rattle.std.specs.List.{list_any}
use Rattle.std.specs.FinMap.{FinMap}
use Rattle.std.specs.Cmp.Lexicographic.{bytes_decides}
use Rattle.std.specs.declared.cmp.Ordering.{Ordering}
use Rattle.std.proofs.lemmas.Bool.{false≢true, true≢false, false_from_ne_true, both_ways, or_parts, or_from, and_from, eq-eqb}
use Rattle.std.proofs.lemmas.List.{length-map, length-set, map-set, get_or-map, get_or-set_same}
use Rattle.std.proofs.lemmas.List.Sums.{sum_by-set}
use Rattle.mpm_base.specs.declared.kind.Kind.{Kind}
use Rattle.mpm_base.proofs.CountLaws.{one_if}
use Rattle.mpm_blocks.specs.Sectors.{Sectors}
use Rattle.mpm_dirent.specs.declared.kinds.Entry.{Entry}
use Rattle.mpm_dirent.specs.declared.kinds.Entry.TheVariants.{Free, File, Xfcb, Label, Kept}
use Rattle.mpm_dirent.specs.Names.{plain}
use Rattle.mpm_mount.specs.declared.slots.EntryName.{EntryName}
use Rattle.mpm_mount.specs.Drives.{FileName, entry_cmp, file_cmp, PhysicalExtent, Protection, DirectoryLabel, Drive}
use Rattle.mpm_mount.specs.Faults.{name_of, is_named, is_label, is_xfcb, first_some, first_fault}
use Rattle.mpm_mount.specs.Images.{extent_from, xfcb_from, label_from, is_kept, collected, drive_of}
use Rattle.mpm_mount.specs.Directories.{others}
use Rattle.mpm_mount.specs.Changes.{with_pair, without_pair, label_after, exchanged}
use Rattle.mpm_mount.proofs.FirstFault.{first_past, first_here}
use Rattle.mpm_mount.proofs.Collected.{ties, StandsAlone, collected_set, others_set}
use Rattle.mpm_mount.proofs.Orders.{entry_total, file_total, entry_same, file_same, entry_tied, file_tied}
use Rattle.mpm_mount.proofs.Distinct.{own_name, named_alone, xfcb_alone, label_alone}

pub others_map : {X Y : Type 0} (f : X → Y) (xs : List X) (i : ℕ) → others (map f xs) i ≡ map f (others xs i)
others_map f [] zero = refl
others_map f [] (suc i) = refl
others_map f (x ∷ xs) zero = refl
others_map f (x ∷ xs) (suc i) = ap (λ ys. f x ∷ ys) (others_map f xs i)

-- what no entry passes, nothing that comes of it passes
pub none_of : {Y : Type 0} (p : Entry → Bool) (t : Y → Bool) (f : Entry → Y) → ((e : Entry) → t (f e) ≡ true → p e ≡ true) → (entries : List Entry) → list_any p entries ≡ false
    → list_any t (map f entries) ≡ false
none_of p t f gives [] none = refl
none_of p t f gives (e ∷ entries) none =
    let parts = or_parts (p e) (list_any p entries) none in
    let here : t (f e) ≡ false = false_from_ne_true (t (f e)) (λ passes. both_ways (p e) parts.0 (gives e passes)) in
    or_from (t (f e)) (list_any t (map f entries)) here (none_of p t f gives entries parts.1)

-- extents
pub gives_name : (sectors : Sectors) (kind : Kind) (name : EntryName) (e : Entry) → ties entry_cmp name (extent_from sectors kind e) ≡ true → is_named kind name e ≡ true
gives_name sectors kind name (File f) tied = ap (λ n. is_named kind n (File f)) (entry_tied name (name_of kind f) tied) ∙ own_name kind f
gives_name sectors kind name Free tied = absurd (false≢true tied)
gives_name sectors kind name (Xfcb x) tied = absurd (false≢true tied)
gives_name sectors kind name (Label l) tied = absurd (false≢true tied)
gives_name sectors kind name (Kept bytes) tied = absurd (false≢true tied)

pub extent_alone : (sectors : Sectors) (kind : Kind) (entries : List Entry) (slot : ℕ) (entry : Entry) → first_fault kind entries ≡ None → slot < length entries
    → get_or entries slot Free ≡ entry → StandsAlone entry_cmp (extent_from sectors kind entry) (others (map (extent_from sectors kind) entries) slot)
extent_alone sectors kind entries slot (File f) faultless h is =
    ap (list_any (ties entry_cmp (name_of kind f))) (others_map (extent_from sectors kind) entries slot)
    ∙ none_of (is_named kind (name_of kind f)) (ties entry_cmp (name_of kind f)) (extent_from sectors kind) (gives_name sectors kind (name_of kind f)) (others entries slot)
    (named_alone kind entries slot (name_of kind f) faultless h (ap (is_named kind (name_of kind f)) is ∙ own_name kind f))
extent_alone sectors kind entries slot Free faultless h is = tt
extent_alone sectors kind entries slot (Xfcb x) faultless h is = tt
extent_alone sectors kind entries slot (Label l) faultless h is = tt
extent_alone sectors kind entries slot (Kept bytes) faultless h is = tt

-- XFCBs
own_xfcb : (user : ℕ) (name : List ℕ) → ((user == user) && bytes_eq name name) ≡ true
own_xfcb user name = and_from (user == user) (bytes_eq name name) (eq-eqb user user refl) ((bytes_decides name name).1 refl)

pub gives_xfcb : (file : FileName) (e : Entry) → ties file_cmp file (xfcb_from e) ≡ true → is_xfcb file.user file.name e ≡ true
gives_xfcb file (Xfcb x) tied =
    let same = file_tied file (record { user = x.user; name = plain x.name }) tied in
    ap (λ (f : FileName). is_xfcb f.user f.name (Xfcb x)) same ∙ own_xfcb x.user (plain x.name)
gives_xfcb file (File f) tied = absurd (false≢true tied)
gives_xfcb file Free tied = absurd (false≢true tied)
gives_xfcb file (Label l) tied = absurd (false≢true tied)
gives_xfcb file (Kept bytes) tied = absurd (false≢true tied)

pub xfcb_stands_alone : (kind : Kind) (entries : List Entry) (slot : ℕ) (entry : Entry) → first_fault kind entries ≡ None → slot < length entries → get_or entries slot Free ≡ entry
    → StandsAlone file_cmp (xfcb_from entry) (others (map xfcb_from entries) slot)
xfcb_stands_alone kind entries slot (Xfcb x) faultless h is =
    let file : FileName = record { user = x.user; name = plain x.name } in
    ap (list_any (ties file_cmp file)) (others_map xfcb_from entries slot)
    ∙ none_of (is_xfcb x.user (plain x.name)) (ties file_cmp file) xfcb_from (gives_xfcb file) (others entries slot)
    (xfcb_alone kind entries slot x.user (plain x.name) faultless h (ap (is_xfcb x.user (plain x.name)) is ∙ own_xfcb x.user (plain x.name)))
xfcb_stands_alone kind entries slot (File f) faultless h is = tt
xfcb_stands_alone kind entries slot Free faultless h is = tt
xfcb_stands_alone kind entries slot (Label l) faultless h is = tt
xfcb_stands_alone kind entries slot (Kept bytes) faultless h is = tt

-- a map that is collected from a directory in which one entry is replaced
map_exchanged : {K X : Type 0} (R : K → K → Ordering) (f : Entry → Option (K × X)) (entries : List Entry) (slot : ℕ) (new : Entry) → slot < length entries
    → collected R (slice_set (map f entries) slot (f new)) ≡ with_pair (without_pair (collected R (map f entries)) (get_or (map f entries) slot None)) (f new)
    → collected R (map f (slice_set entries slot new)) ≡ with_pair (without_pair (collected R (map f entries)) (f (get_or entries slot Free))) (f new)
map_exchanged R f entries slot new h law =
    ap (collected R) (map-set f entries slot new) ∙ law
    ∙ ap (λ old. with_pair (without_pair (collected R (map f entries)) old) (f new)) (get_or-map f entries slot Free None h)

-- the label
first_of_others : {X : Type 0} (items : List (Option X)) (i : ℕ) → i < length items → get_or items i None ≡ None → first_some items ≡ first_some (others items i)
unfolding first_some
first_of_others [] i h none = absurd (omega arith)
first_of_others (x ∷ xs) zero h none = first_past x xs none
first_of_others (None ∷ xs) (suc i) h none = first_of_others xs i (omega arith) none
first_of_others (Some x ∷ xs) (suc i) h none = refl

pub none_first : {X : Type 0} (items : List (Option X)) → list_any is_some items ≡ false → first_some items ≡ None
unfolding first_some
none_first [] none = refl
none_first (None ∷ xs) none = none_first xs none
none_first (Some x ∷ xs) none = absurd (true≢false none)

pub first_alone : {X : Type 0} (items : List (Option X)) (i : ℕ) (x : X) → i < length items → get_or items i None ≡ Some x → list_any is_some (others items i) ≡ false
    → first_some items ≡ Some x
unfolding first_some
first_alone [] i x h is none = absurd (omega arith)
first_alone (y ∷ ys) zero x h is none = first_here y ys x is
first_alone (None ∷ ys) (suc i) x h is none = first_alone ys i x (omega arith) is none
first_alone (Some y ∷ ys) (suc i) x h is none = absurd (true≢false none)

-- no other item is there
abbrev pub IsOnly : {X : Type 0} → Option X → List (Option X) → Type 0
IsOnly None rest = Unit {0}
IsOnly (Some x) rest = list_any is_some rest ≡ false

label_set : (items : List (Option DirectoryLabel)) (i : ℕ) (old new : Option DirectoryLabel) → i < length items → get_or items i None ≡ old → IsOnly old (others items i)
    → IsOnly new (others items i) → first_some (slice_set items i new) ≡ label_after (first_some items) old new
label_set items i old (Some new) h is old_only new_only =
    first_alone (slice_set items i (Some new)) i new (omega (arith, length-set items i (Some new))) (get_or-set_same items i (Some new) None h)
    (ap (list_any is_some) (others_set items i (Some new)) ∙ new_only)
label_set items i (Some old) None h is old_only new_only =
    first_of_others (slice_set items i None) i (omega (arith, length-set items i None)) (get_or-set_same items i None None h)
    ∙ ap first_some (others_set items i None) ∙ none_first (others items i) old_only
label_set items i None None h is old_only new_only =
    first_of_others (slice_set items i None) i (omega (arith, length-set items i None)) (get_or-set_same items i None None h)
    ∙ ap first_some (others_set items i None) ∙ sym (first_of_others items i h is)

pub gives_label : (e : Entry) → is_some (label_from e) ≡ true → is_label e ≡ true
gives_label (Label l) some = refl
gives_label (File f) some = absurd (false≢true some)
gives_label Free some = absurd (false≢true some)
gives_label (Xfcb x) some = absurd (false≢true some)
gives_label (Kept bytes) some = absurd (false≢true some)

pub label_only : (kind : Kind) (entries : List Entry) (slot : ℕ) (entry : Entry) → first_fault kind entries ≡ None → slot < length entries → get_or entries slot Free ≡ entry
    → IsOnly (label_from entry) (others (map label_from entries) slot)
label_only kind entries slot (Label l) faultless h is =
    ap (list_any is_some) (others_map label_from entries slot)
    ∙ none_of is_label is_some label_from gives_label (others entries slot) (label_alone kind entries slot faultless h (ap is_label is))
label_only kind entries slot (File f) faultless h is = tt
label_only kind entries slot Free faultless h is = tt
label_only kind entries slot (Xfcb x) faultless h is = tt
label_only kind entries slot (Kept bytes) faultless h is = tt

-- entries that are kept
kept_set : (entries : List Entry) (slot : ℕ) (new : Entry) → slot < length entries
    → count_by is_kept (slice_set entries slot new) ≡ count_by is_kept entries + one_if (is_kept new) - one_if (is_kept (get_or entries slot Free))
kept_set entries slot new h = omega (arith, sum_by-set (λ e. one_if (is_kept e)) entries slot new Free h)

-- the others of the changed list are those of the list
same_others : (entries : List Entry) (slot : ℕ) (new : Entry) {Y : Type 0} (f : Entry → Y) → others (map f (slice_set entries slot new)) slot ≡ others (map f entries) slot
same_others entries slot new f = ap (λ ys. others ys slot) (map-set f entries slot new) ∙ others_set (map f entries) slot (f new)

same_drive : (kind : Kind) (extents other : FinMap entry_cmp PhysicalExtent) (xfcbs others_xfcbs : FinMap file_cmp Protection) (label other_label : Option DirectoryLabel)
    (kept other_kept : ℕ) → extents ≡ other → xfcbs ≡ others_xfcbs → label ≡ other_label → kept ≡ other_kept
    → ◌≡◌ {A = Drive} (record { kind = kind; extents = extents; xfcbs = xfcbs; label = label; kept = kept }) (record { kind = kind; extents = other; xfcbs = others_xfcbs; label = other_label; kept = other_kept })
same_drive kind a b c d e f g h p q r s = λ i. record { kind = kind; extents = p i; xfcbs = q i; label = r i; kept = s i }

pub drive_exchanged : (sectors : Sectors) (kind : Kind) (entries : List Entry) (slot : ℕ) (new : Entry) → first_fault kind entries ≡ None → slot < length entries
    → first_fault kind (slice_set entries slot new) ≡ None
    → drive_of sectors kind (slice_set entries slot new) ≡ exchanged sectors (drive_of sectors kind entries) (get_or entries slot Free) new
unfolding drive_of exchanged
drive_exchanged sectors kind entries slot new faultless h after =
    let old = get_or entries slot Free in
    let from = extent_from sectors kind in
    let size : slot < length (slice_set entries slot new) = omega (arith, length-set entries slot new) in
    let here : get_or (slice_set entries slot new) slot Free ≡ new = get_or-set_same entries slot new Free h in
    same_drive kind _ _ _ _ _ _ _ _
    (map_exchanged entry_cmp from entries slot new h
    (collected_set entry_cmp entry_total entry_same (map from entries) slot (from new) (omega (arith, length-map entries from))
    (subst (λ o. StandsAlone entry_cmp o (others (map from entries) slot)) (sym (get_or-map from entries slot Free None h)) (extent_alone sectors kind entries slot old faultless h refl))
    (subst (StandsAlone entry_cmp (from new)) (same_others entries slot new from) (extent_alone sectors kind (slice_set entries slot new) slot new after size here))))
    (map_exchanged file_cmp xfcb_from entries slot new h
    (collected_set file_cmp file_total file_same (map xfcb_from entries) slot (xfcb_from new) (omega (arith, length-map entries xfcb_from))
    (subst (λ o. StandsAlone file_cmp o (others (map xfcb_from entries) slot)) (sym (get_or-map xfcb_from entries slot Free None h)) (xfcb_stands_alone kind entries slot old faultless h refl))
    (subst (StandsAlone file_cmp (xfcb_from new)) (same_others entries slot new xfcb_from) (xfcb_stands_alone kind (slice_set entries slot new) slot new after size here))))
    (ap first_some (map-set label_from entries slot new)
    ∙ label_set (map label_from entries) slot (label_from old) (label_from new) (omega (arith, length-map entries label_from)) (get_or-map label_from entries slot Free None h)
    (label_only kind entries slot old faultless h refl)
    (subst (IsOnly (label_from new)) (same_others entries slot new label_from) (label_only kind (slice_set entries slot new) slot new after size here)))
    (kept_set entries slot new h)
