-- A search in the directory against the drive: it finds the first that is sought of the drive's entries, in their order.
use Rattle.std.proofs.Common.{◌≡◌, ℕ, Bool, true, false, cond, List, [], ◌∷◌, Option, Some, None, refl, sym, ap, ◌∙◌}
use Rattle.std.specs.Prelude.{is_some}
use Rattle.std.specs.List.{list_any}
use Rattle.std.specs.List as lists
use Rattle.std.specs.declared.cmp.Ordering.{Ordering}
use Rattle.std.specs.declared.cmp.Ordering.TheVariants.{Less, Equal, Greater}
use Rattle.std.specs.Ordering.{is_lt, is_eq, eq_by_cmp, ordering_reverse}
use Rattle.std.specs.Cmp.{IsTotalOrder, tied_itself}
use Rattle.std.specs.FinMap.{IsAntisymmetric, get, entries, entries_sorted, get-entries, find, is_sorted}
use Rattle.std.specs.FinMap.Entries.{below_all}
use Rattle.std.proofs.lemmas.Bool.{true≢false, false≢true, both_ways, false_from_ne_true, and_parts, and_from}
use Rattle.std.proofs.lemmas.Option.{same_Some}
use Rattle.mpm_base.specs.declared.kind.Kind.{Kind}
use Rattle.mpm_blocks.specs.Sectors.{Sectors, sectors_of}
use Rattle.mpm_dirent.specs.declared.kinds.Entry.{Entry}
use Rattle.mpm_dirent.specs.declared.kinds.Entry.TheVariants.{Free, File, Xfcb, Label, Kept}
use Rattle.mpm_dirent.specs.declared.kinds.FileEntry.{FileEntry}
use Rattle.mpm_mount.specs.declared.searching.Found.{Found}
use Rattle.mpm_mount.specs.declared.searching.Search.{Search}
use Rattle.mpm_mount.specs.declared.slots.EntryName.{EntryName}
use Rattle.mpm_mount.specs.Drives.{entry_cmp, PhysicalExtent, Drive}
use Rattle.mpm_mount.specs.Faults.{name_of, is_named, first_fault}
use Rattle.mpm_mount.specs.Images.{extent_in, drive_of}
use Rattle.mpm_mount.specs.Directories.{Directory, Stands}
use Rattle.mpm_mount.specs.Searching.{is_sought, is_target, is_target_below, IsLeast, IsNext}
use Rattle.mpm_mount.proofs.Orders.{entry_total, entry_same}
use Rattle.mpm_mount.proofs.Distinct.{name_is, own_name}
use Rattle.mpm_mount.proofs.Sought.{less_of, fewer}
use Rattle.mpm_mount.proofs.LookedUp.{extent_there, extent_nowhere}
use Rattle.mpm_mount.proofs.SearchSteps.{is_true}

-- lists of pairs in the order of their keys
none_below : {K X : Type 0} (R : K → K → Ordering) → IsTotalOrder R → (n k : K) (es : List (K × X)) → R n k ≡ Less → below_all R k es ≡ true → find R n es ≡ None
none_below R o n k [] less below = refl
none_below R o n k (e ∷ es) less below =
    let parts = and_parts (is_lt (R k e.0)) (below_all R k es) below in
    let before : R n e.0 ≡ Less = o.trans n k e.0 less (less_of (R k e.0) parts.0) in
    ap (λ r. cond (is_eq r) (Some e.1) (find R n es)) before ∙ none_below R o n k es less parts.1

pub there_too : {X : Type 0} (b : Bool) (x : X) (o : Option X) → is_some o ≡ true → is_some (cond b (Some x) o) ≡ true
there_too true x o there = refl
there_too false x o there = there

-- nothing that is there passes
none_passes : {K X : Type 0} (R : K → K → Ordering) → IsTotalOrder R → (test : K → Bool) (es : List (K × X)) → ((m : K) → is_some (find R m es) ≡ true → test m ≡ false)
    → lists.find (λ e. test e.0) es ≡ None
none_passes R o test [] none = refl
none_passes R o test (e ∷ es) none =
    let there : is_some (find R e.0 (e ∷ es)) ≡ true = ap (λ r. is_some (cond (is_eq r) (Some e.1) (find R e.0 es))) (tied_itself o e.0) in
    ap (λ b. cond b (Some e) (lists.find (λ f. test f.0) es)) (none e.0 there)
    ∙ none_passes R o test es (λ m h. none m (there_too (eq_by_cmp R m e.0) e.1 (find R m es) h))

-- of those that pass, the least is the first
passes_first : {K X : Type 0} (R : K → K → Ordering) → IsTotalOrder R → IsAntisymmetric R → (test : K → Bool) (e : K × X) (es : List (K × X)) (n : K) (v : X) (r : Ordering) → R n e.0 ≡ r
    → below_all R e.0 es ≡ true → cond (is_eq r) (Some e.1) (find R n es) ≡ Some v → test n ≡ true
    → ((m : K) → is_some (find R m (e ∷ es)) ≡ true → test m ≡ true → is_lt (R m n) ≡ false)
    → (find R n es ≡ Some v → lists.find (λ f. test f.0) es ≡ Some (n, v))
    → lists.find (λ f. test f.0) (e ∷ es) ≡ Some (n, v)
passes_first R o same test e es n v Less order below there passes least so =
    absurd (true≢false (ap is_some (sym there ∙ none_below R o n e.0 es order below)))
passes_first R o same test e es n v Equal order below there passes least so =
    let key : n ≡ e.0 = same n e.0 order in
    let value : e.1 ≡ v = same_Some e.1 v there in
    ap (λ b. cond b (Some e) (lists.find (λ f. test f.0) es)) (ap test (sym key) ∙ passes) ∙ (λ i. Some (sym key i, value i))
passes_first R o same test e es n v Greater order below there passes least so =
    let here : is_some (find R e.0 (e ∷ es)) ≡ true = ap (λ r. is_some (cond (is_eq r) (Some e.1) (find R e.0 es))) (tied_itself o e.0) in
    let before : R e.0 n ≡ Less = o.antisymm e.0 n ∙ ap ordering_reverse order in
    let fails : test e.0 ≡ false = false_from_ne_true (test e.0) (λ yes1. both_ways (is_lt (R e.0 n)) (least e.0 here yes1) (ap is_lt before)) in
    ap (λ b. cond b (Some e) (lists.find (λ f. test f.0) es)) fails ∙ so there

least_first : {K X : Type 0} (R : K → K → Ordering) → IsTotalOrder R → IsAntisymmetric R → (test : K → Bool) (es : List (K × X)) (n : K) (v : X) → is_sorted R es ≡ true
    → find R n es ≡ Some v → test n ≡ true → ((m : K) → is_some (find R m es) ≡ true → test m ≡ true → is_lt (R m n) ≡ false)
    → lists.find (λ f. test f.0) es ≡ Some (n, v)
least_first R o same test [] n v sorted there passes least = absurd (true≢false (sym (ap is_some there)))
least_first R o same test (e ∷ es) n v sorted there passes least =
    let parts = and_parts (below_all R e.0 es) (is_sorted R es) sorted in
    passes_first R o same test e es n v (R n e.0) refl parts.0 there passes least
    (λ rest. least_first R o same test es n v parts.1 rest passes (λ m h. least m (there_too (eq_by_cmp R m e.0) e.1 (find R m es) h)))

-- an entry that the drive has has a slot
named_passes : (kind : Kind) (name : EntryName) (test : Entry → Bool) (e : Entry)
    → ((f : FileEntry) → name_of kind f ≡ name → test (File f) ≡ true) → is_named kind name e ≡ true → test e ≡ true
named_passes kind name test (File f) so named = so f (name_is kind f name named)
named_passes kind name test Free so named = absurd (false≢true named)
named_passes kind name test (Xfcb x) so named = absurd (false≢true named)
named_passes kind name test (Label l) so named = absurd (false≢true named)
named_passes kind name test (Kept bytes) so named = absurd (false≢true named)

not_there : (sectors : Sectors) (kind : Kind) (directory : List Entry) (name : EntryName) (test : Entry → Bool) → list_any test directory ≡ false
    → ((f : FileEntry) → name_of kind f ≡ name → test (File f) ≡ true) → get (drive_of sectors kind directory).extents name ≡ None
not_there sectors kind directory name test none so =
    extent_nowhere sectors kind directory name
    (fewer (is_named kind name) test (λ e named. named_passes kind name test e so named) directory none)

-- the pairs of a drive that are sought
abbrev pub is_sought_pair : Search → (EntryName × PhysicalExtent) → Bool
is_sought_pair search pair = is_sought search pair.0

found_none : (sectors : Sectors) (kind : Kind) (directory : List Entry) (search : Search) → list_any (is_target kind search) directory ≡ false
    → lists.find (is_sought_pair search) (entries (drive_of sectors kind directory).extents) ≡ None
found_none sectors kind directory search none =
    let m = (drive_of sectors kind directory).extents in
    none_passes entry_cmp entry_total (is_sought search) (entries m) (λ name there.
    false_from_ne_true (is_sought search name) (λ sought.
    let gone : find entry_cmp name (entries m) ≡ None = sym (get-entries m name)
    ∙ not_there sectors kind directory name (is_target kind search) none (λ f same. ap (is_sought search) same ∙ sought) in
    both_ways (is_some (find entry_cmp name (entries m))) (ap is_some gone) there))

pub next_none : (image : List ℕ) (d : Directory) (files : Drive) (search : Search) → Stands image d files → IsNext d.kind search d.entries None
    → lists.find (is_sought_pair search) (entries files.extents) ≡ None
next_none image d files search stands none =
    ap (λ (drive : Drive). lists.find (is_sought_pair search) (entries drive.extents)) stands.drive
    ∙ found_none (sectors_of image d.kind) d.kind d.entries search none

found_first : (sectors : Sectors) (kind : Kind) (directory : List Entry) (search : Search) (found : Found) → first_fault kind directory ≡ None
    → (least : IsLeast kind search directory found)
    → lists.find (is_sought_pair search) (entries (drive_of sectors kind directory).extents) ≡ Some (name_of kind least.file, extent_in sectors kind least.file)
found_first sectors kind directory search found faultless least =
    let m = (drive_of sectors kind directory).extents in
    let name : EntryName = name_of kind least.file in
    let there : get m name ≡ Some (extent_in sectors kind least.file) =
    extent_there sectors kind directory found.slot name least.file faultless least.within least.entry (ap (is_named kind name) least.entry ∙ own_name kind least.file) refl in
    least_first entry_cmp entry_total entry_same (is_sought search) (entries m) name (extent_in sectors kind least.file) (is_true (is_sorted entry_cmp (entries m)) (entries_sorted m))
    (sym (get-entries m name) ∙ there) least.sought (λ other has sought.
    false_from_ne_true (is_lt (entry_cmp other name)) (λ less.
    let gone : find entry_cmp other (entries m) ≡ None = sym (get-entries m other)
    ∙ not_there sectors kind directory other (is_target_below kind search name) least.least (λ f same.
    and_from (is_sought search (name_of kind f)) (is_lt (entry_cmp (name_of kind f) name)) (ap (is_sought search) same ∙ sought)
    (ap (λ n. is_lt (entry_cmp n name)) same ∙ less)) in
    both_ways (is_some (find entry_cmp other (entries m))) (ap is_some gone) has))

pub next_found : (image : List ℕ) (d : Directory) (files : Drive) (search : Search) (found : Found) → Stands image d files → (least : IsLeast d.kind search d.entries found)
    → lists.find (is_sought_pair search) (entries files.extents) ≡ Some (name_of d.kind least.file, extent_in (sectors_of image d.kind) d.kind least.file)
next_found image d files search found stands least =
    ap (λ (drive : Drive). lists.find (is_sought_pair search) (entries drive.extents)) stands.drive
    ∙ found_first (sectors_of image d.kind) d.kind d.entries search found stands.faultless least
