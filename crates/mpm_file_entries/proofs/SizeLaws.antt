-- The size of a file, by a walk over its entries: what is left after the last that was found tells it, or else that one does.
use Rattle.std.proofs.Common.{◌≡◌, ◌∙◌, ℕ, ◌+◌, ◌*◌, ◌≤◌, ◌==◌, Bool, true, false, ◌&&◌, cond, List, [], ◌∷◌, Option, Some, None, length, sym, refl, ap}
use Rattle.std.specs.Prelude.{bytes_eq, filter, option_map}
use Rattle.std.specs.List as lists
use Rattle.std.specs.declared.cmp.Ordering.{Ordering}
use Rattle.std.specs.Ordering.{is_lt}
use Rattle.std.specs.Cmp.{IsTotalOrder, tied_itself}
use Rattle.std.specs.FinMap.{entries, entries_sorted, is_sorted}
use Rattle.std.specs.FinMap.Entries.{below_all}
use Rattle.std.proofs.lemmas.Bool.{and_parts, and_right}
use Rattle.std.proofs.lemmas.Option.{same_Some}
use Rattle.std.proofs.lemmas.List.Elements.{filter_agree}
use Rattle.std.proofs.Math.Bool.{and-true}
use Rattle.mpm_base.specs.declared.kind.Kind.{Kind}
use Rattle.mpm_names.specs.Matching.{does_match}
use Rattle.mpm_dirent.specs.Names.{plain}
use Rattle.mpm_blocks.specs.Sectors.{sectors_of}
use Rattle.mpm_mount.specs.declared.searching.Found.{Found}
use Rattle.mpm_mount.specs.Drives.{FileName, entry_cmp, PhysicalExtent, Drive, is_of, extents_of}
use Rattle.mpm_mount.specs.Faults.{name_of}
use Rattle.mpm_mount.specs.Images.{extent_in}
use Rattle.mpm_mount.specs.Directories.{Directory, entry_in, Stands}
use Rattle.mpm_mount.specs.Searching.{search_of, found_name, is_above, IsNext}
use Rattle.mpm_mount.specs.Searching as searching
use Rattle.mpm_mount.proofs.Orders.{entry_total}
use Rattle.mpm_mount.proofs.NextFound.{is_sought_pair, next_none, next_found}
use Rattle.mpm_mount.proofs.SearchSteps.{is_true, AreSteps, found_is, above_through, not_both_ways, found_below}
use Rattle.mpm_mount.proofs.Lowest.{exact_fits, exact_narrowed, exact_here}
use Rattle.mpm_file_entries.specs.Sizes.{size_of, size_at}

-- the size by entries, or another where there are none
abbrev pub size_or : {K : Type 0} → ℕ → List (K × PhysicalExtent) → ℕ
size_or size [] = size
size_or size (e ∷ es) = size_of (e ∷ es)

abbrev pub size_one : {K : Type 0} → (K × PhysicalExtent) → ℕ
size_one e = 128 * e.1.last + e.1.count

size_first : {K : Type 0} (e : K × PhysicalExtent) (es : List (K × PhysicalExtent)) → size_of (e ∷ es) ≡ size_or (size_one e) es
unfolding size_of
size_first e [] = refl
size_first e (other ∷ es) = refl

size_all : {K : Type 0} (es : List (K × PhysicalExtent)) → size_of es ≡ size_or 0 es
unfolding size_of
size_all [] = refl
size_all (e ∷ es) = refl

-- entries that pass a test, from what is found on
kept_alike : {K X : Type 0} (R : K → K → Ordering) (x : K) (p q : K → Bool) (es : List (K × X)) → below_all R x es ≡ true → ((k : K) → is_lt (R x k) ≡ true → p k ≡ q k)
    → filter (λ e. p e.0) es ≡ filter (λ e. q e.0) es
kept_alike R x p q [] below alike = refl
kept_alike R x p q (e ∷ es) below alike =
    let parts = and_parts (is_lt (R x e.0)) (below_all R x es) below in
    ap (λ b. cond b (e ∷ filter (λ f. p f.0) es) (filter (λ f. p f.0) es)) (alike e.0 parts.0)
    ∙ ap (λ l. cond (q e.0) (e ∷ l) l) (kept_alike R x p q es parts.1 alike)

one_kept : {K X : Type 0} (R : K → K → Ordering) → IsTotalOrder R → (wide earlier later : K → Bool) (x : K) (v : X) → AreSteps R wide earlier later x
    → (e : K × X) (es : List (K × X)) (b : Bool) → wide e.0 ≡ b → below_all R e.0 es ≡ true → cond b (Some e) (lists.find (λ f. wide f.0) es) ≡ Some (x, v)
    → (lists.find (λ f. wide f.0) es ≡ Some (x, v) → filter (λ f. earlier f.0) es ≡ cond (earlier x) ((x, v) ∷ filter (λ f. later f.0) es) (filter (λ f. later f.0) es))
    → filter (λ f. earlier f.0) (e ∷ es) ≡ cond (earlier x) ((x, v) ∷ filter (λ f. later f.0) (e ∷ es)) (filter (λ f. later f.0) (e ∷ es))
one_kept R o wide earlier later x v steps e es true is below there so =
    let pair : e ≡ (x, v) = same_Some e (x, v) there in
    let key : e.0 ≡ x = ap (λ (p : _ × _). p.0) pair in
    let here : later e.0 ≡ false = steps.before e.0 (ap (λ k. is_lt (R x k)) key ∙ ap is_lt (tied_itself o x)) in
    ap (λ (p : _ × _). cond (earlier p.0) (p ∷ filter (λ f. earlier f.0) es) (filter (λ f. earlier f.0) es)) pair
    ∙ ap (λ l. cond (earlier x) ((x, v) ∷ l) l) (kept_alike R x earlier later es (ap (λ k. below_all R k es) (sym key) ∙ below) steps.behind)
    ∙ ap (λ b. cond (earlier x) ((x, v) ∷ cond b (e ∷ filter (λ f. later f.0) es) (filter (λ f. later f.0) es)) (cond b (e ∷ filter (λ f. later f.0) es) (filter (λ f. later f.0) es))) (sym here)
one_kept R o wide earlier later x v steps e es false is below there so =
    let less : is_lt (R e.0 x) ≡ true = found_below R e.0 x v wide es below there in
    let here : later e.0 ≡ false = steps.before e.0 (not_both_ways R o e.0 x less) in
    ap (λ b. cond b (e ∷ filter (λ f. earlier f.0) es) (filter (λ f. earlier f.0) es)) (steps.narrow e.0 is)
    ∙ so there
    ∙ ap (λ b. cond (earlier x) ((x, v) ∷ cond b (e ∷ filter (λ f. later f.0) es) (filter (λ f. later f.0) es)) (cond b (e ∷ filter (λ f. later f.0) es) (filter (λ f. later f.0) es))) (sym here)

all_kept : {K X : Type 0} (R : K → K → Ordering) → IsTotalOrder R → (wide earlier later : K → Bool) (x : K) (v : X) → AreSteps R wide earlier later x
    → (es : List (K × X)) → is_sorted R es ≡ true → lists.find (λ e. wide e.0) es ≡ Some (x, v)
    → filter (λ e. earlier e.0) es ≡ cond (earlier x) ((x, v) ∷ filter (λ e. later e.0) es) (filter (λ e. later e.0) es)
all_kept R o wide earlier later x v steps [] sorted is = absurd (cc)
all_kept R o wide earlier later x v steps (e ∷ es) sorted is =
    let parts = and_parts (below_all R e.0 es) (is_sorted R es) sorted in
    one_kept R o wide earlier later x v steps e es (wide e.0) refl parts.0 is (all_kept R o wide earlier later x v steps es parts.1)

none_kept_step : {X : Type 0} (wide earlier : X → Bool) (x : X) (o : Option X) (es : List X) (b : Bool) → wide x ≡ b → cond b (Some x) o ≡ None → (wide x ≡ false → earlier x ≡ false)
    → (o ≡ None → filter earlier es ≡ []) → filter earlier (x ∷ es) ≡ []
none_kept_step wide earlier x o es true is none narrow so = absurd (cc)
none_kept_step wide earlier x o es false is none narrow so = ap (λ b. cond b (x ∷ filter earlier es) (filter earlier es)) (narrow is) ∙ so none

none_kept : {X : Type 0} (wide earlier : X → Bool) (xs : List X) → ((x : X) → wide x ≡ false → earlier x ≡ false) → lists.find wide xs ≡ None → filter earlier xs ≡ []
none_kept wide earlier [] narrow none = refl
none_kept wide earlier (x ∷ xs) narrow none =
    none_kept_step wide earlier x (lists.find wide xs) xs (wide x) refl none (narrow x) (none_kept wide earlier xs narrow)

-- what is left of a file's entries after the last that was found
abbrev pub size_behind : Drive → FileName → Kind → Option Found → ℕ → ℕ
size_behind files file kind last size =
    size_or size (filter (λ e. ((e.0.user == file.user) && bytes_eq e.0.name file.name) && is_above (option_map (found_name kind file.user) last) e.0) (entries files.extents))

pub size_begins : (files : Drive) (file : FileName) (kind : Kind) → size_of (extents_of files file) ≡ size_behind files file kind None 0
unfolding extents_of
size_begins files file kind =
    size_all (filter (is_of file) (entries files.extents))
    ∙ ap (size_or 0) (filter_agree (is_of file) (λ e. is_of file e && true) (λ e. sym (and-true (is_of file e))) (entries files.extents))

sized_by : {K : Type 0} (b : Bool) (size : ℕ) (e : K × PhysicalExtent) (es : List (K × PhysicalExtent))
    → size_or size (cond b (e ∷ es) es) ≡ size_or (cond b (size_one e) size) es
sized_by true size e es = size_first e es
sized_by false size e es = refl

pub size_step : (image : List ℕ) (d : Directory) (files : Drive) (user : ℕ) (pattern : List ℕ) (last : Option Found) (found : Found) (size : ℕ) → Stands image d files → length pattern ≡ 11
    → IsNext d.kind (search_of d.kind user pattern last) d.entries (Some found)
    → size_behind files (record { user = user; name = plain pattern }) d.kind last size
    ≡ size_behind files (record { user = user; name = plain pattern }) d.kind (Some found) (cond (bytes_eq found.name (plain pattern)) (size_at (entry_in d found.slot)) size)
unfolding extent_in
size_step image d files user pattern last found size stands long least =
    let search = search_of d.kind user pattern last in
    let x = name_of d.kind least.file in
    let v = extent_in (sectors_of image d.kind) d.kind least.file in
    let is : found_name d.kind user found ≡ x = found_is d.kind user pattern last found d.entries least in
    let parts = and_parts (x.user == user) (does_match pattern x.name && is_above (option_map (found_name d.kind user) last) x) least.sought in
    let above = (and_parts (does_match pattern x.name) (is_above (option_map (found_name d.kind user) last) x) parts.1).1 in
    let rest = filter (λ e. ((e.0.user == user) && bytes_eq e.0.name (plain pattern)) && is_above (Some (found_name d.kind user found)) e.0) (entries files.extents) in
    ap (size_or size)
    (all_kept entry_cmp entry_total (searching.is_sought search)
    (λ k. ((k.user == user) && bytes_eq k.name (plain pattern)) && is_above (option_map (found_name d.kind user) last) k)
    (λ k. ((k.user == user) && bytes_eq k.name (plain pattern)) && is_above (Some (found_name d.kind user found)) k) x v
    (record {
      narrow = λ k h. exact_narrowed (k.user == user) (does_match pattern k.name) (bytes_eq k.name (plain pattern)) (is_above (option_map (found_name d.kind user) last) k) (exact_fits pattern k.name long) h;
      behind = λ k less. ap (λ b. ((k.user == user) && bytes_eq k.name (plain pattern)) && b)
          (above_through d.kind user last found k.user k.name k.number (ap (is_above (option_map (found_name d.kind user) last)) is ∙ above) (ap (λ n. is_lt (entry_cmp n k)) is ∙ less)
          ∙ sym less ∙ ap (λ n. is_lt (entry_cmp n k)) (sym is));
      before = λ k not_less. ap (λ b. ((k.user == user) && bytes_eq k.name (plain pattern)) && b) (ap (λ n. is_lt (entry_cmp n k)) is ∙ not_less)
          ∙ and_right ((k.user == user) && bytes_eq k.name (plain pattern)) false refl;
    })
    (entries files.extents) (is_true (is_sorted entry_cmp (entries files.extents)) (entries_sorted files.extents)) (next_found image d files search found stands least))
    ∙ sized_by (((x.user == user) && bytes_eq x.name (plain pattern)) && is_above (option_map (found_name d.kind user) last) x) size (x, v) rest
    ∙ ap (λ b. size_or (cond b (size_one (x, v)) size) rest)
    (exact_here (x.user == user) (bytes_eq x.name (plain pattern)) (is_above (option_map (found_name d.kind user) last) x) parts.0 above ∙ ap (λ n. bytes_eq n (plain pattern)) (sym least.name))
    ∙ ap (λ a. size_or (cond (bytes_eq found.name (plain pattern)) a size) rest) (sym (ap size_at least.entry))

pub size_ends : (image : List ℕ) (d : Directory) (files : Drive) (user : ℕ) (pattern : List ℕ) (last : Option Found) (size : ℕ) → Stands image d files → length pattern ≡ 11
    → IsNext d.kind (search_of d.kind user pattern last) d.entries None → size_behind files (record { user = user; name = plain pattern }) d.kind last size ≡ size
size_ends image d files user pattern last size stands long none =
    ap (size_or size)
    (none_kept (is_sought_pair (search_of d.kind user pattern last))
    (λ e. ((e.0.user == user) && bytes_eq e.0.name (plain pattern)) && is_above (option_map (found_name d.kind user) last) e.0) (entries files.extents)
    (λ e h. exact_narrowed (e.0.user == user) (does_match pattern e.0.name) (bytes_eq e.0.name (plain pattern)) (is_above (option_map (found_name d.kind user) last) e.0) (exact_fits pattern e.0.name long) h)
    (next_none image d files (search_of d.kind user pattern last) stands none))

-- a walk as far as it is
pub record Walked (d : Directory) (user : ℕ) (name : List ℕ) (last : Option Found) (size : ℕ) : Type 0 where
  pub rest : (image : List ℕ) (drive : Drive) → Stands image d drive
      → size_of (extents_of drive (record { user = user; name = plain name })) ≡ size_behind drive (record { user = user; name = plain name }) d.kind last size
  pub small : size ≤ 1077375
