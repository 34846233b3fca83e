-- The lowest entry of a file by its exact name, and its attributes.
use Rattle.std.proofs.Common.{◌≡◌, ◌∙◌, ℕ, ◌%◌, ◌==◌, Bool, true, false, ◌&&◌, ◌||◌, cond, List, [], ◌∷◌, Option, Some, None, length, get_or, sym, refl, ap, arith, eq-eqb, eqb-true}
use Rattle.std.specs.Prelude.{option_map, bytes_eq, filter}
use Rattle.std.specs.List as lists
use Rattle.std.specs.Ordering.{is_lt}
use Rattle.std.specs.FinMap.{entries, entries_sorted, is_sorted}
use Rattle.std.proofs.lemmas.Bool.{and_parts, and_from}
use Rattle.std.specs.Cmp.Lexicographic.{bytes_decides}
use Rattle.std.proofs.lemmas.List.{get_or-map}
use Rattle.std.proofs.Math.Bool.{and-false, or-true, and-true}
use Rattle.mpm_base.specs.declared.kind.Kind.{Kind}
use Rattle.mpm_names.specs.Matching.{does_match}
use Rattle.mpm_names.proofs.Fitting.{fits_everywhere}
use Rattle.mpm_dirent.specs.Names.{plain}
use Rattle.mpm_dirent.proofs.PlainNames.{mod_twice}
use Rattle.mpm_blocks.specs.Sectors.{Sectors, sectors_of}
use Rattle.mpm_dirent.specs.declared.kinds.Entry.{Entry}
use Rattle.mpm_dirent.specs.declared.kinds.Entry.TheVariants.{Free, File, Xfcb, Label, Kept}
use Rattle.mpm_mount.specs.declared.slots.EntryName.{EntryName}
use Rattle.mpm_mount.specs.declared.searching.Found.{Found}
use Rattle.mpm_mount.specs.Drives.{FileName, entry_cmp, PhysicalExtent, Drive, is_of, extents_of}
use Rattle.mpm_mount.specs.Faults.{name_of}
use Rattle.mpm_mount.specs.Images.{extent_in, extent_from}
use Rattle.mpm_mount.specs.Directories.{Directory, entry_in, Stands}
use Rattle.mpm_mount.specs.Searching.{search_of, found_name, is_above, IsNext}
use Rattle.mpm_mount.specs.Searching as searching
use Rattle.mpm_mount.specs.Attributes.{first_entry, first_attributes, attributes_at, attributes_where}
use Rattle.mpm_mount.specs.Lowest.{entry_where}
use Rattle.mpm_mount.specs.Files.{IsEntryOf}
use Rattle.mpm_mount.proofs.Orders.{entry_total}
use Rattle.mpm_mount.proofs.NextFound.{is_sought_pair, next_none, next_found}
use Rattle.mpm_mount.proofs.SearchSteps.{is_true, stepped, nothing_found, found_is, above_through}

-- the lowest entry of a file above the last that was found: the first of that name that a search for it comes to
abbrev pub first_of : {X : Type 0} → List X → (X → Bool) → Option X
first_of xs test = lists.find test xs

abbrev pub entry_behind : Drive → FileName → Kind → Option Found → Option (EntryName × PhysicalExtent)
entry_behind files file kind last =
    first_of (entries files.extents) (λ e. ((e.0.user == file.user) && bytes_eq e.0.name file.name) && is_above (option_map (found_name kind file.user) last) e.0)

first_kept_step : {K : Type 0} (e : K × PhysicalExtent) (es : List (K × PhysicalExtent)) (o : Option (K × PhysicalExtent)) (b : Bool)
    → first_entry es ≡ o → first_entry (cond b (e ∷ es) es) ≡ cond b (Some e) o
first_kept_step e es o true rest = refl
first_kept_step e es o false rest = rest

first_kept : {K : Type 0} (test : (K × PhysicalExtent) → Bool) (es : List (K × PhysicalExtent)) → first_entry (filter test es) ≡ lists.find test es
first_kept test [] = refl
first_kept test (e ∷ es) = first_kept_step e (filter test es) (lists.find test es) (test e) (first_kept test es)

pub found_same : {X : Type 0} (p q : X → Bool) (xs : List X) → ((x : X) → p x ≡ q x) → lists.find p xs ≡ lists.find q xs
found_same p q [] same = refl
found_same p q (x ∷ xs) same = ap (λ b. cond b (Some x) (lists.find p xs)) (same x) ∙ ap (cond (q x) (Some x)) (found_same p q xs same)

pub entry_first : (files : Drive) (file : FileName) (kind : Kind) → first_entry (extents_of files file) ≡ entry_behind files file kind None
unfolding extents_of
entry_first files file kind =
    first_kept (is_of file) (entries files.extents)
    ∙ found_same (is_of file) (λ e. is_of file e && true) (entries files.extents) (λ e. sym (and-true (is_of file e)))

-- an entry of a file's very name is one that a search for the name comes to
itself_fits : (pattern : List ℕ) → length pattern ≡ 11 → does_match pattern (plain pattern) ≡ true
itself_fits pattern size = fits_everywhere pattern (plain pattern) (λ k h.
    let p = get_or pattern k 0 in
    let q = get_or (plain pattern) k 0 in
    let at : q ≡ p % 128 = get_or-map (λ c. c % 128) pattern k 0 0 (omega arith) in
    ap (λ x. (p % 128 == 63) || x) (eq-eqb (p % 128) (q % 128) (sym (mod_twice p) ∙ ap (λ n. n % 128) (sym at))) ∙ or-true (p % 128 == 63))

-- what a search for a pattern passes over, one for a name that fits it passes over
pub exact_narrowed : (u m b a : Bool) → (b ≡ true → m ≡ true) → (u && (m && a)) ≡ false → ((u && b) && a) ≡ false
exact_narrowed false m b a so h = refl
exact_narrowed true m false a so h = refl
exact_narrowed true m true a so h = ap (λ x. x && a) (sym (so refl)) ∙ h

pub exact_here : (u b a : Bool) → u ≡ true → a ≡ true → ((u && b) && a) ≡ b
exact_here u b a is above = ap (λ x. (x && b) && a) is ∙ ap (λ x. b && x) above ∙ and-true b

pub exact_fits : (pattern name : List ℕ) → length pattern ≡ 11 → bytes_eq name (plain pattern) ≡ true → does_match pattern name ≡ true
exact_fits pattern name size same = ap (does_match pattern) ((bytes_decides name (plain pattern)).0 same) ∙ itself_fits pattern size

pub lowest_step : (image : List ℕ) (d : Directory) (files : Drive) (user : ℕ) (pattern : List ℕ) (last : Option Found) (found : Found) → Stands image d files → length pattern ≡ 11
    → IsNext d.kind (search_of d.kind user pattern last) d.entries (Some found)
    → entry_behind files (record { user = user; name = plain pattern }) d.kind last
    ≡ cond (bytes_eq found.name (plain pattern)) (entry_where image d (Some found)) (entry_behind files (record { user = user; name = plain pattern }) d.kind (Some found))
lowest_step image d files user pattern last found stands size least =
    let search = search_of d.kind user pattern last in
    let x = name_of d.kind least.file in
    let v = extent_in (sectors_of image d.kind) d.kind least.file in
    let is : found_name d.kind user found ≡ x = found_is d.kind user pattern last found d.entries least in
    let parts = and_parts (x.user == user) (does_match pattern x.name && is_above (option_map (found_name d.kind user) last) x) least.sought in
    let above = (and_parts (does_match pattern x.name) (is_above (option_map (found_name d.kind user) last) x) parts.1).1 in
    let rest = entry_behind files (record { user = user; name = plain pattern }) d.kind (Some found) in
    stepped entry_cmp entry_total (searching.is_sought search)
    (λ k. ((k.user == user) && bytes_eq k.name (plain pattern)) && is_above (option_map (found_name d.kind user) last) k)
    (λ k. ((k.user == user) && bytes_eq k.name (plain pattern)) && is_above (Some (found_name d.kind user found)) k) x v
    (record {
      narrow = λ k h. exact_narrowed (k.user == user) (does_match pattern k.name) (bytes_eq k.name (plain pattern)) (is_above (option_map (found_name d.kind user) last) k) (exact_fits pattern k.name size) h;
      behind = λ k less. ap (λ b. ((k.user == user) && bytes_eq k.name (plain pattern)) && b)
          (above_through d.kind user last found k.user k.name k.number (ap (is_above (option_map (found_name d.kind user) last)) is ∙ above) (ap (λ n. is_lt (entry_cmp n k)) is ∙ less)
          ∙ sym less ∙ ap (λ n. is_lt (entry_cmp n k)) (sym is));
      before = λ k not_less. ap (λ b. ((k.user == user) && bytes_eq k.name (plain pattern)) && b) (ap (λ n. is_lt (entry_cmp n k)) is ∙ not_less)
          ∙ and-false ((k.user == user) && bytes_eq k.name (plain pattern));
    })
    (entries files.extents) (is_true (is_sorted entry_cmp (entries files.extents)) (entries_sorted files.extents)) (next_found image d files search found stands least)
    ∙ ap (λ b. cond b (Some (x, v)) rest)
    (exact_here (x.user == user) (bytes_eq x.name (plain pattern)) (is_above (option_map (found_name d.kind user) last) x) parts.0 above ∙ ap (λ n. bytes_eq n (plain pattern)) (sym least.name))
    ∙ ap (λ a. cond (bytes_eq found.name (plain pattern)) a rest) (sym (ap (extent_from (sectors_of image d.kind) d.kind) least.entry))

pub no_lower : (image : List ℕ) (d : Directory) (files : Drive) (user : ℕ) (pattern : List ℕ) (last : Option Found) → Stands image d files → length pattern ≡ 11
    → IsNext d.kind (search_of d.kind user pattern last) d.entries None → entry_behind files (record { user = user; name = plain pattern }) d.kind last ≡ None
no_lower image d files user pattern last stands size none =
    nothing_found (is_sought_pair (search_of d.kind user pattern last))
    (λ e. ((e.0.user == user) && bytes_eq e.0.name (plain pattern)) && is_above (option_map (found_name d.kind user) last) e.0) (entries files.extents)
    (λ e h. exact_narrowed (e.0.user == user) (does_match pattern e.0.name) (bytes_eq e.0.name (plain pattern)) (is_above (option_map (found_name d.kind user) last) e.0) (exact_fits pattern e.0.name size) h)
    (next_none image d files (search_of d.kind user pattern last) stands none)

-- its attributes are those of the first entry
given_attributes : (sectors : Sectors) (kind : Kind) (e : Entry) → option_map (λ (pair : EntryName × PhysicalExtent). pair.1.attributes) (extent_from sectors kind e) ≡ attributes_at e
unfolding extent_in
given_attributes sectors kind (File f) = refl
given_attributes sectors kind Free = refl
given_attributes sectors kind (Xfcb x) = refl
given_attributes sectors kind (Label l) = refl
given_attributes sectors kind (Kept bytes) = refl

attributes_found : (image : List ℕ) (d : Directory) (result : Option Found) → option_map (λ (pair : EntryName × PhysicalExtent). pair.1.attributes) (entry_where image d result) ≡ attributes_where d result
attributes_found image d None = refl
attributes_found image d (Some found) = given_attributes (sectors_of image d.kind) d.kind (entry_in d found.slot)

attributes_of_first : (es : List (EntryName × PhysicalExtent)) → first_attributes es ≡ option_map (λ (pair : EntryName × PhysicalExtent). pair.1.attributes) (first_entry es)
attributes_of_first [] = refl
attributes_of_first (e ∷ es) = refl

pub lowest_attributes : (image : List ℕ) (d : Directory) (es : List (EntryName × PhysicalExtent)) (result : Option Found) → first_entry es ≡ entry_where image d result → first_attributes es ≡ attributes_where d result
lowest_attributes image d es result is =
    attributes_of_first es ∙ ap (option_map (λ (pair : EntryName × PhysicalExtent). pair.1.attributes)) is ∙ attributes_found image d result

pub entry_found : (d : Directory) (user : ℕ) (pattern : List ℕ) (last : Option Found) (found : Found) → IsNext d.kind (search_of d.kind user pattern last) d.entries (Some found)
    → bytes_eq found.name (plain pattern) ≡ true → IsEntryOf d (record { user = user; name = plain pattern }) found
entry_found d user pattern last found least same =
    let parts = and_parts (least.file.user == user) (does_match pattern (plain least.file.name) && is_above (option_map (found_name d.kind user) last) (name_of d.kind least.file)) least.sought in
    let name : found.name ≡ plain pattern = (bytes_decides found.name (plain pattern)).0 same in
    record {
      entry = least.file;
      there = least.entry;
      its = and_from (user == least.file.user) (bytes_eq (plain pattern) (plain least.file.name)) (eq-eqb user least.file.user (sym (eqb-true least.file.user user parts.0)))
          ((bytes_decides (plain pattern) (plain least.file.name)).1 (sym name ∙ least.name));
      name = name;
      extent = least.extent;
    }
