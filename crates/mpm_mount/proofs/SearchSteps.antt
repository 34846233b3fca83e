-- A search over the entries of a directory, step by step: what is found next either passes a test, or the search goes on after it.
use Rattle.std.proofs.Common.{◌≡◌, ◌∙◌, ℕ, zero, suc, ◌<◌, ◌≤◌, ◌==◌, Bool, true, false, ◌&&◌, cond, List, [], ◌∷◌, Option, Some, None, length, get_or, sym, refl, ap, arith, eqb-true}
use Rattle.std.specs.Prelude.{T, option_map, count_by}
use Rattle.std.specs.List as lists
use Rattle.std.specs.declared.cmp.Ordering.{Ordering}
use Rattle.std.specs.Ordering.{is_lt, ordering_reverse}
use Rattle.std.specs.Cmp.{IsTotalOrder, tied_itself}
use Rattle.std.specs.FinMap.{is_sorted}
use Rattle.std.specs.FinMap.Entries.{below_all}
use Rattle.std.proofs.lemmas.Bool.{false≢true, and_parts, and_from}
use Rattle.std.proofs.lemmas.Option.{same_Some}
use Rattle.mpm_base.specs.declared.kind.Kind.{Kind}
use Rattle.mpm_base.proofs.CountLaws.{count_cons, one_if_true, one_if_false}
use Rattle.mpm_names.specs.Matching.{does_match}
use Rattle.mpm_dirent.specs.declared.kinds.Entry.{Entry}
use Rattle.mpm_dirent.specs.declared.kinds.Entry.TheVariants.{Free, File, Xfcb, Label, Kept}
use Rattle.mpm_dirent.specs.Names.{plain}
use Rattle.mpm_mount.specs.declared.searching.Found.{Found}
use Rattle.mpm_mount.specs.Drives.{entry_cmp, entry_number}
use Rattle.mpm_mount.specs.Faults.{name_of}
use Rattle.mpm_mount.specs.Searching.{search_of, found_name, is_above, is_target, IsLeast, IsNext}
use Rattle.mpm_dirent.proofs.PlainNames.{plain_twice}
use Rattle.mpm_mount.proofs.Orders.{same_entry}
use Rattle.mpm_mount.proofs.Sought.{less_of, less_through, not_below_itself}

-- a list of pairs in the order of their keys
pub is_true : (b : Bool) → T b → b ≡ true
is_true true h = refl
is_true false h = absurd h

-- of two keys one at most is below the other
pub not_both_ways : {K : Type 0} (R : K → K → Ordering) → IsTotalOrder R → (a b : K) → is_lt (R a b) ≡ true → is_lt (R b a) ≡ false
not_both_ways R o a b less = ap is_lt (o.antisymm b a ∙ ap ordering_reverse (less_of (R a b) less))

-- a key below all of a list is below what is found in it
found_below_step : {K X : Type 0} (R : K → K → Ordering) (k x : K) (v : X) (e : K × X) (o : Option (K × X)) (b : Bool) → is_lt (R k e.0) ≡ true → cond b (Some e) o ≡ Some (x, v)
    → (o ≡ Some (x, v) → is_lt (R k x) ≡ true) → is_lt (R k x) ≡ true
found_below_step R k x v e o true below is so = ap (λ (pair : _ × _). is_lt (R k pair.0)) (sym (same_Some e (x, v) is)) ∙ below
found_below_step R k x v e o false below is so = so is

pub found_below : {K X : Type 0} (R : K → K → Ordering) (k x : K) (v : X) (test : K → Bool) (es : List (K × X)) → below_all R k es ≡ true → lists.find (λ e. test e.0) es ≡ Some (x, v)
    → is_lt (R k x) ≡ true
found_below R k x v test [] below is = absurd (cc)
found_below R k x v test (e ∷ es) below is =
    let parts = and_parts (is_lt (R k e.0)) (below_all R k es) below in
    found_below_step R k x v e (lists.find (λ f. test f.0) es) (test e.0) parts.0 is (found_below R k x v test es parts.1)

found_alike : {K X : Type 0} (R : K → K → Ordering) (x : K) (p q : K → Bool) (es : List (K × X)) → below_all R x es ≡ true → ((k : K) → is_lt (R x k) ≡ true → p k ≡ q k)
    → lists.find (λ e. p e.0) es ≡ lists.find (λ e. q e.0) es
found_alike R x p q [] below alike = refl
found_alike R x p q (e ∷ es) below alike =
    let parts = and_parts (is_lt (R x e.0)) (below_all R x es) below in
    ap (λ b. cond b (Some e) (lists.find (λ f. p f.0) es)) (alike e.0 parts.0)
    ∙ ap (λ o. cond (q e.0) (Some e) o) (found_alike R x p q es parts.1 alike)

-- of two tests, of which the later passes nothing up to x, and after x what the earlier passes: the earlier finds x, where it
-- passes that, or what the later finds
pub record AreSteps {K : Type 0} (R : K → K → Ordering) (wide earlier later : K → Bool) (x : K) : Type 0 where
  pub narrow : (k : K) → wide k ≡ false → earlier k ≡ false
  pub behind : (k : K) → is_lt (R x k) ≡ true → earlier k ≡ later k
  pub before : (k : K) → is_lt (R x k) ≡ false → later k ≡ false

one_step : {K X : Type 0} (R : K → K → Ordering) → IsTotalOrder R → (wide earlier later : K → Bool) (x : K) (v : X) → AreSteps R wide earlier later x
    → (e : K × X) (es : List (K × X)) (b : Bool) → wide e.0 ≡ b → below_all R e.0 es ≡ true → cond b (Some e) (lists.find (λ f. wide f.0) es) ≡ Some (x, v)
    → (lists.find (λ f. wide f.0) es ≡ Some (x, v) → lists.find (λ f. earlier f.0) es ≡ cond (earlier x) (Some (x, v)) (lists.find (λ f. later f.0) es))
    → lists.find (λ f. earlier f.0) (e ∷ es) ≡ cond (earlier x) (Some (x, v)) (lists.find (λ f. later f.0) (e ∷ es))
one_step R o wide earlier later x v steps e es true is below there so =
    let pair : e ≡ (x, v) = same_Some e (x, v) there in
    let key : e.0 ≡ x = ap (λ (p : _ × _). p.0) pair in
    let here : later e.0 ≡ false = steps.before e.0 (ap (λ k. is_lt (R x k)) key ∙ ap is_lt (tied_itself o x)) in
    ap (λ (p : _ × _). cond (earlier p.0) (Some p) (lists.find (λ f. earlier f.0) es)) pair
    ∙ ap (λ rest. cond (earlier x) (Some (x, v)) rest) (found_alike R x earlier later es (ap (λ k. below_all R k es) (sym key) ∙ below) steps.behind)
    ∙ ap (λ b. cond (earlier x) (Some (x, v)) (cond b (Some e) (lists.find (λ f. later f.0) es))) (sym here)
one_step R o wide earlier later x v steps e es false is below there so =
    let less : is_lt (R e.0 x) ≡ true = found_below R e.0 x v wide es below there in
    let here : later e.0 ≡ false = steps.before e.0 (not_both_ways R o e.0 x less) in
    ap (λ b. cond b (Some e) (lists.find (λ f. earlier f.0) es)) (steps.narrow e.0 is)
    ∙ so there
    ∙ ap (λ b. cond (earlier x) (Some (x, v)) (cond b (Some e) (lists.find (λ f. later f.0) es))) (sym here)

pub stepped : {K X : Type 0} (R : K → K → Ordering) → IsTotalOrder R → (wide earlier later : K → Bool) (x : K) (v : X) → AreSteps R wide earlier later x
    → (es : List (K × X)) → is_sorted R es ≡ true → lists.find (λ e. wide e.0) es ≡ Some (x, v)
    → lists.find (λ e. earlier e.0) es ≡ cond (earlier x) (Some (x, v)) (lists.find (λ e. later e.0) es)
stepped R o wide earlier later x v steps [] sorted is = absurd (cc)
stepped R o wide earlier later x v steps (e ∷ es) sorted is =
    let parts = and_parts (below_all R e.0 es) (is_sorted R es) sorted in
    one_step R o wide earlier later x v steps e es (wide e.0) refl parts.0 is (stepped R o wide earlier later x v steps es parts.1)

nothing_step : {X : Type 0} (wide earlier : X → Bool) (x : X) (o p : Option X) (b : Bool) → wide x ≡ b → cond b (Some x) o ≡ None → (wide x ≡ false → earlier x ≡ false) → (o ≡ None → p ≡ None)
    → cond (earlier x) (Some x) p ≡ None
nothing_step wide earlier x o p true is none narrow so = absurd (cc)
nothing_step wide earlier x o p false is none narrow so = ap (λ b. cond b (Some x) p) (narrow is) ∙ so none

pub nothing_found : {X : Type 0} (wide earlier : X → Bool) (xs : List X) → ((x : X) → wide x ≡ false → earlier x ≡ false) → lists.find wide xs ≡ None → lists.find earlier xs ≡ None
nothing_found wide earlier [] narrow none = refl
nothing_found wide earlier (x ∷ xs) narrow none =
    nothing_step wide earlier x (lists.find wide xs) (lists.find earlier xs) (wide x) refl none (narrow x) (nothing_found wide earlier xs narrow)

-- what is found has the name of its entry
pub found_is : (kind : Kind) (user : ℕ) (pattern : List ℕ) (last : Option Found) (found : Found) (directory : List Entry)
    → (least : IsLeast kind (search_of kind user pattern last) directory found) → found_name kind user found ≡ name_of kind least.file
found_is kind user pattern last found directory least =
    let name = name_of kind least.file in
    let parts = and_parts (name.user == user) (does_match pattern name.name && is_above (option_map (found_name kind user) last) name) least.sought in
    same_entry (found_name kind user found) name (sym (eqb-true name.user user parts.0)) (ap plain least.name ∙ plain_twice least.file.name) (ap (entry_number kind) least.extent)

-- above what was found is above what was found before it
pub above_through : (kind : Kind) (user : ℕ) (last : Option Found) (found : Found) (u : ℕ) (name : List ℕ) (number : ℕ) → is_above (option_map (found_name kind user) last) (found_name kind user found) ≡ true
    → is_lt (entry_cmp (found_name kind user found) (record { user = u; name = name; number = number })) ≡ true
    → is_above (option_map (found_name kind user) last) (record { user = u; name = name; number = number }) ≡ true
above_through kind user None found u name number above less = refl
above_through kind user (Some l) found u name number above less =
    less_through (found_name kind user l) (found_name kind user found) (record { user = u; name = name; number = number }) above less

-- fewer entries are left after what was found
fewer_step : {X : Type 0} (p q : X → Bool) (x : X) (xs : List X) (a b : Bool) → q x ≡ a → p x ≡ b → (q x ≡ true → p x ≡ true) → count_by q xs ≤ count_by p xs → count_by q (x ∷ xs) ≤ count_by p (x ∷ xs)
fewer_step p q x xs true b is p_is so rest = omega (arith, count_cons q x xs, count_cons p x xs, one_if_true (q x) is, one_if_true (p x) (so is), rest)
fewer_step p q x xs false b is p_is so rest = omega (arith, count_cons q x xs, count_cons p x xs, one_if_false (q x) is, rest)

no_more : {X : Type 0} (p q : X → Bool) → ((x : X) → q x ≡ true → p x ≡ true) → (xs : List X) → count_by q xs ≤ count_by p xs
no_more p q so [] = omega arith
no_more p q so (x ∷ xs) = fewer_step p q x xs (q x) (p x) refl refl (so x) (no_more p q so xs)

less_step : {X : Type 0} (p q : X → Bool) (x : X) (xs : List X) (a : Bool) → q x ≡ a → (q x ≡ true → p x ≡ true) → count_by q xs < count_by p xs → count_by q (x ∷ xs) < count_by p (x ∷ xs)
less_step p q x xs true is so rest = omega (arith, count_cons q x xs, count_cons p x xs, one_if_true (q x) is, one_if_true (p x) (so is), rest)
less_step p q x xs false is so rest = omega (arith, count_cons q x xs, count_cons p x xs, one_if_false (q x) is, rest)

fewer_counted : {X : Type 0} (p q : X → Bool) → ((x : X) → q x ≡ true → p x ≡ true) → (xs : List X) (k : ℕ) (d : X) → k < length xs → p (get_or xs k d) ≡ true → q (get_or xs k d) ≡ false
    → count_by q xs < count_by p xs
fewer_counted p q so [] k d h passes fails = absurd (omega arith)
fewer_counted p q so (x ∷ xs) zero d h passes fails =
    omega (arith, count_cons q x xs, count_cons p x xs, one_if_false (q x) fails, one_if_true (p x) passes, no_more p q so xs)
fewer_counted p q so (x ∷ xs) (suc k) d h passes fails = less_step p q x xs (q x) refl (so x) (fewer_counted p q so xs k d (omega arith) passes fails)

pub fewer_left : (kind : Kind) (user : ℕ) (pattern : List ℕ) (last : Option Found) (found : Found) (directory : List Entry)
    → IsNext kind (search_of kind user pattern last) directory (Some found)
    → count_by (is_target kind (search_of kind user pattern (Some found))) directory < count_by (is_target kind (search_of kind user pattern last)) directory
fewer_left kind user pattern last found directory least =
    let x = name_of kind least.file in
    let is : found_name kind user found ≡ x = found_is kind user pattern last found directory least in
    let parts = and_parts (x.user == user) (does_match pattern x.name && is_above (option_map (found_name kind user) last) x) least.sought in
    let above = (and_parts (does_match pattern x.name) (is_above (option_map (found_name kind user) last) x) parts.1).1 in
    let before : is_above (option_map (found_name kind user) last) (found_name kind user found) ≡ true = ap (is_above (option_map (found_name kind user) last)) is ∙ above in
    fewer_counted (is_target kind (search_of kind user pattern last)) (is_target kind (search_of kind user pattern (Some found)))
    (still_target kind user pattern last found before) directory found.slot Free least.within
    (ap (is_target kind (search_of kind user pattern last)) least.entry ∙ least.sought)
    (ap (is_target kind (search_of kind user pattern (Some found))) least.entry
    ∙ ap (λ b. (x.user == user) && (does_match pattern x.name && b)) (ap (λ n. is_lt (entry_cmp n x)) is ∙ not_below_itself x)
    ∙ never (x.user == user) (does_match pattern x.name))
  where
    never : (u m : Bool) → (u && (m && false)) ≡ false
    never true true = refl
    never true false = refl
    never false m = refl

    still_target : (kind : Kind) (user : ℕ) (pattern : List ℕ) (last : Option Found) (found : Found) → is_above (option_map (found_name kind user) last) (found_name kind user found) ≡ true
        → (e : Entry) → is_target kind (search_of kind user pattern (Some found)) e ≡ true → is_target kind (search_of kind user pattern last) e ≡ true
    still_target kind user pattern last found before (File f) h =
        let name = name_of kind f in
        let parts = and_parts (name.user == user) (does_match pattern name.name && is_lt (entry_cmp (found_name kind user found) name)) h in
        let more = and_parts (does_match pattern name.name) (is_lt (entry_cmp (found_name kind user found) name)) parts.1 in
        and_from (name.user == user) (does_match pattern name.name && is_above (option_map (found_name kind user) last) name) parts.0
        (and_from (does_match pattern name.name) (is_above (option_map (found_name kind user) last) name) more.0
        (above_through kind user last found name.user name.name name.number before more.1))
    still_target kind user pattern last found before Free h = absurd (false≢true h)
    still_target kind user pattern last found before (Xfcb x) h = absurd (false≢true h)
    still_target kind user pattern last found before (Label l) h = absurd (false≢true h)
    still_target kind user pattern last found before (Kept bytes) h = absurd (false≢true h)
