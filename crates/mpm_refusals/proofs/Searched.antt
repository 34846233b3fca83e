-- A search over a drive's entries, step by step: what is found next either is what is sought, or the search goes on after it.
use Rattle.std.proofs.Common.{◌≡◌, ◌∙◌, ℕ, ◌==◌, Bool, true, false, ◌&&◌, cond, List, [], ◌∷◌, Option, Some, None, map, sym, refl, ap}
use Rattle.std.specs.Prelude.{option_map}
use Rattle.std.specs.List as lists
use Rattle.std.specs.declared.cmp.Ordering.{Ordering}
use Rattle.std.specs.Ordering.{is_lt}
use Rattle.std.specs.Cmp.{IsTotalOrder}
use Rattle.std.specs.FinMap.{entries, entries_sorted, is_sorted}
use Rattle.std.proofs.lemmas.Bool.{true≢false, false≢true, and_parts}
use Rattle.mpm_base.specs.declared.kind.Kind.{Kind}
use Rattle.mpm_base.proofs.Choices.{at_either}
use Rattle.mpm_names.specs.Matching.{does_match}
use Rattle.mpm_blocks.specs.Sectors.{sectors_of}
use Rattle.mpm_mount.specs.declared.searching.Found.{Found}
use Rattle.mpm_mount.specs.Drives.{FileName, entry_cmp, Drive}
use Rattle.mpm_mount.specs.Faults.{name_of}
use Rattle.mpm_mount.specs.Images.{extent_in}
use Rattle.mpm_mount.specs.Directories.{Directory, Stands}
use Rattle.mpm_mount.specs.Searching.{search_of, found_name, is_above, IsNext}
use Rattle.mpm_mount.specs.Searching as searching
use Rattle.mpm_mount.specs.Files.{entries_named}
use Rattle.mpm_mount.proofs.Orders.{entry_total}
use Rattle.mpm_mount.proofs.NextFound.{next_none, next_found}
use Rattle.mpm_mount.proofs.SearchSteps.{is_true, AreSteps, stepped, nothing_found, found_is, above_through}
use Rattle.mpm_refusals.specs.Subjects.{is_behind, is_next, next_in}
use Rattle.mpm_refusals.specs.Looking.{entry_found}

found_in_map : {X Y : Type 0} (test : Y → Bool) (f : X → Y) (xs : List X) → lists.find test (map f xs) ≡ option_map f (lists.find (λ x. test (f x)) xs)
found_in_map test f [] = refl
found_in_map test f (x ∷ xs) =
    ap (λ o. cond (test (f x)) (Some (f x)) o) (found_in_map test f xs) ∙ sym (at_either (option_map f) (test (f x)) (Some x) (lists.find (λ y. test (f y)) xs))

found_through : {X Y Z : Type 0} (xs : List X) (f : X → Y) (g : Y → Z) (test : Z → Bool)
    → lists.find test (map g (map f xs)) ≡ option_map g (option_map f (lists.find (λ x. test (g (f x))) xs))
found_through xs f g test = found_in_map test g (map f xs) ∙ ap (option_map g) (found_in_map (λ y. test (g y)) f xs)

-- the same of what keys are named
stepped_named : {K X Z : Type 0} (R : K → K → Ordering) → IsTotalOrder R → (es : List (K × X)) → is_sorted R es ≡ true → (name : K → Z) (wide : K → Bool) (earlier later : Z → Bool) (x : K) (v : X)
    → AreSteps R wide (λ k. earlier (name k)) (λ k. later (name k)) x → lists.find (λ e. wide e.0) es ≡ Some (x, v)
    → lists.find earlier (map name (map (λ e. e.0) es)) ≡ cond (earlier (name x)) (Some (name x)) (lists.find later (map name (map (λ e. e.0) es)))
stepped_named {K = K} {X = X} R o es sorted name wide earlier later x v steps is =
    let key : (K × X) → K = λ e. e.0 in
    let rest = lists.find (λ e. later (name (key e))) es in
    found_through es key name earlier
    ∙ ap (λ f. option_map name (option_map key f)) (stepped R o wide (λ k. earlier (name k)) (λ k. later (name k)) x v steps es sorted is)
    ∙ ap (option_map name) (at_either (option_map key) (earlier (name x)) (Some (x, v)) rest)
    ∙ at_either (option_map name) (earlier (name x)) (Some x) (option_map key rest)
    ∙ ap (cond (earlier (name x)) (Some (name x))) (sym (found_through es key name later))

nothing_named : {K X Z : Type 0} (es : List (K × X)) (name : K → Z) (wide : K → Bool) (test : Z → Bool) → ((k : K) → wide k ≡ false → test (name k) ≡ false)
    → lists.find (λ e. wide e.0) es ≡ None → lists.find test (map name (map (λ e. e.0) es)) ≡ None
nothing_named {K = K} {X = X} es name wide test narrow none =
    let key : (K × X) → K = λ e. e.0 in
    found_through es key name test
    ∙ ap (λ f. option_map name (option_map key f)) (nothing_found (λ e. wide (key e)) (λ e. test (name (key e))) es (λ e h. narrow (key e) h) none)

behind_is : (kind : Kind) (user : ℕ) (last : Option Found) (u : ℕ) (name : List ℕ) (number : ℕ)
    → is_behind (option_map (entry_found kind user) last) (record { user = u; name = name }, number) ≡ is_above (option_map (found_name kind user) last) (record { user = u; name = name; number = number })
behind_is kind user None u name number = refl
behind_is kind user (Some l) u name number = refl

narrowed : (u m a c : Bool) → (u && (m && a)) ≡ false → ((u && m) && (c && a)) ≡ false
narrowed true true true c h = absurd (true≢false h)
narrowed true true false true h = refl
narrowed true true false false h = refl
narrowed true false a c h = refl
narrowed false m a c h = refl

sought_so : (u m a c : Bool) → (u && (m && a)) ≡ true → ((u && m) && (c && a)) ≡ c
sought_so true true true true h = refl
sought_so true true true false h = refl
sought_so true true false c h = absurd (false≢true h)
sought_so true false a c h = absurd (false≢true h)
sought_so false m a c h = absurd (false≢true h)

not_behind : (fits c : Bool) → (fits && (c && false)) ≡ false
not_behind true true = refl
not_behind true false = refl
not_behind false c = refl

-- the search goes on after what is found next
pub next_step : (image : List ℕ) (d : Directory) (files : Drive) (user : ℕ) (pattern : List ℕ) (test : (FileName × ℕ) → Bool) (last : Option Found) (found : Found) → Stands image d files
    → IsNext d.kind (search_of d.kind user pattern last) d.entries (Some found)
    → next_in files user pattern test (option_map (entry_found d.kind user) last)
    ≡ cond (test (entry_found d.kind user found)) (Some (entry_found d.kind user found)) (next_in files user pattern test (Some (entry_found d.kind user found)))
unfolding entries_named
next_step image d files user pattern test last found stands least =
    let search = search_of d.kind user pattern last in
    let x = name_of d.kind least.file in
    let is : found_name d.kind user found ≡ x = found_is d.kind user pattern last found d.entries least in
    let parts = and_parts (x.user == user) (does_match pattern x.name && is_above (option_map (found_name d.kind user) last) x) least.sought in
    let above = (and_parts (does_match pattern x.name) (is_above (option_map (found_name d.kind user) last) x) parts.1).1 in
    let rest = next_in files user pattern test (Some (entry_found d.kind user found)) in
    stepped_named {Z = FileName × ℕ} entry_cmp entry_total (entries files.extents) (is_true (is_sorted entry_cmp (entries files.extents)) (entries_sorted files.extents))
    (λ name. (record { user = name.user; name = name.name }, name.number)) (searching.is_sought search)
    (is_next user pattern test (option_map (entry_found d.kind user) last)) (is_next user pattern test (Some (entry_found d.kind user found)))
    x (extent_in (sectors_of image d.kind) d.kind least.file)
    (record {
      narrow = λ k h. ap (λ b. ((k.user == user) && does_match pattern k.name) && (test (record { user = k.user; name = k.name }, k.number) && b)) (behind_is d.kind user last k.user k.name k.number)
          ∙ narrowed (k.user == user) (does_match pattern k.name) (is_above (option_map (found_name d.kind user) last) k) (test (record { user = k.user; name = k.name }, k.number)) h;
      behind = λ k less. ap (λ b. ((k.user == user) && does_match pattern k.name) && (test (record { user = k.user; name = k.name }, k.number) && b))
          (behind_is d.kind user last k.user k.name k.number
          ∙ above_through d.kind user last found k.user k.name k.number (ap (is_above (option_map (found_name d.kind user) last)) is ∙ above) (ap (λ n. is_lt (entry_cmp n k)) is ∙ less)
          ∙ sym less ∙ ap (λ n. is_lt (entry_cmp n k)) (sym is));
      before = λ k not_less. ap (λ b. ((k.user == user) && does_match pattern k.name) && (test (record { user = k.user; name = k.name }, k.number) && b)) (ap (λ n. is_lt (entry_cmp n k)) is ∙ not_less)
          ∙ not_behind ((k.user == user) && does_match pattern k.name) (test (record { user = k.user; name = k.name }, k.number));
    })
    (next_found image d files search found stands least)
    ∙ ap (λ b. cond b (Some (record { user = x.user; name = x.name }, x.number)) rest)
    (ap (λ b. ((x.user == user) && does_match pattern x.name) && (test (record { user = x.user; name = x.name }, x.number) && b)) (behind_is d.kind user last x.user x.name x.number)
    ∙ sought_so (x.user == user) (does_match pattern x.name) (is_above (option_map (found_name d.kind user) last) x) (test (record { user = x.user; name = x.name }, x.number)) least.sought)
    ∙ (λ i. cond (test (record { user = (sym is i).user; name = (sym is i).name }, (sym is i).number)) (Some (record { user = (sym is i).user; name = (sym is i).name }, (sym is i).number)) rest)

pub no_step : (image : List ℕ) (d : Directory) (files : Drive) (user : ℕ) (pattern : List ℕ) (test : (FileName × ℕ) → Bool) (last : Option Found) → Stands image d files
    → IsNext d.kind (search_of d.kind user pattern last) d.entries None → next_in files user pattern test (option_map (entry_found d.kind user) last) ≡ None
unfolding entries_named
no_step image d files user pattern test last stands none =
    nothing_named {Z = FileName × ℕ} (entries files.extents) (λ name. (record { user = name.user; name = name.name }, name.number)) (searching.is_sought (search_of d.kind user pattern last))
    (is_next user pattern test (option_map (entry_found d.kind user) last))
    (λ k h. ap (λ b. ((k.user == user) && does_match pattern k.name) && (test (record { user = k.user; name = k.name }, k.number) && b)) (behind_is d.kind user last k.user k.name k.number)
    ∙ narrowed (k.user == user) (does_match pattern k.name) (is_above (option_map (found_name d.kind user) last) k) (test (record { user = k.user; name = k.name }, k.number)) h)
    (next_none image d files (search_of d.kind user pattern last) stands none)
