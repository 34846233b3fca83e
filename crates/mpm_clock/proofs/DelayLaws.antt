-- Laws of delays: a walk over them, and how many are a process's.
use Rattle.std.proofs.Common.{◌≡◌, ◌≢◌, ◌∙◌, ℕ, ◌+◌, ◌<◌, ◌≤◌, Bool, true, false, not, ◌==◌, if◌then◌else◌, List, [], ◌∷◌, ◌++◌, length, take, map, filter, get_or, refl, ap, arith, length-take}
use Rattle.std.specs.Prelude.{count_by}
use Rattle.std.proofs.lemmas.Bool.Decides.{nat_tests}
use Rattle.std.proofs.lemmas.List.{append-nil, map_more, map-append, take_more, length-map}
use Rattle.std.proofs.lemmas.List.Elements.{filter-append}
use Rattle.std.proofs.lemmas.List.Sums.{length-filter, count_by-le-length}
use Rattle.mpm_base.proofs.CountLaws.{one_if, count_cons, few_numbers}
use Rattle.mpm_base.proofs.Lists.{kept_one, dropped_one}
use Rattle.mpm_clock.specs.declared.delays.Delay.{Delay}
use Rattle.mpm_clock.specs.Delays.{delays_of, lowered, has_ended, woken_by_tick, left_by_tick, without_delay}

few : (test : Delay → Bool) (xs : List Delay) (i : ℕ) → i < length xs → length xs ≤ 32 → length (filter test (map lowered (take i xs))) < 32
few test xs i h most =
    let ys = map lowered (take i xs) in
    omega (arith, length-filter test ys, count_by-le-length test ys, length-map (take i xs) lowered, length-take i xs)

-- in a walk over delays: there is room for one more
pub left_room : (xs : List Delay) (i : ℕ) → i < length xs → length xs ≤ 32 → length (left_by_tick (take i xs)) < 32
unfolding left_by_tick
left_room xs i h most = few (λ d. not (has_ended d)) xs i h most

pub woken_room : (xs : List Delay) (i : ℕ) → i < length xs → length xs ≤ 32 → length (woken_by_tick (take i xs)) < 32
unfolding woken_by_tick
woken_room xs i h most =
    let ended = filter has_ended (map lowered (take i xs)) in
    omega (arith, few has_ended xs i h most, length-map ended (λ d. d.slot))

pub without_room : (xs : List Delay) (p i : ℕ) → i < length xs → length xs ≤ 32 → length (without_delay (take i xs) p) < 32
unfolding without_delay
without_room xs p i h most =
    let test : Delay → Bool = λ d. not (d.slot == p) in
    omega (arith, length-filter test (take i xs), count_by-le-length test (take i xs), length-take i xs)

-- one more delay, by whether it ends

filtered : (test : Delay → Bool) (xs : List Delay) (i : ℕ) (d : Delay) → i < length xs
    → filter test (map lowered (take (i + 1) xs)) ≡ filter test (map lowered (take i xs)) ++ filter test (lowered (get_or xs i d) ∷ [])
filtered test xs i d h =
    ap (filter test) (map_more lowered xs i d h) ∙ filter-append test (map lowered (take i xs)) (lowered (get_or xs i d) ∷ [])

-- none so far
pub left_none : left_by_tick [] ≡ []
unfolding left_by_tick
left_none = refl

pub woken_none : woken_by_tick [] ≡ []
unfolding woken_by_tick
woken_none = refl

pub without_none : (p : ℕ) → without_delay [] p ≡ []
unfolding without_delay
without_none p = refl

-- one more, which ends
pub left_ended : (xs : List Delay) (i : ℕ) (d : Delay) → i < length xs → has_ended (lowered (get_or xs i d)) ≡ true
    → left_by_tick (take (i + 1) xs) ≡ left_by_tick (take i xs)
unfolding left_by_tick
left_ended xs i d h ended =
    let test : Delay → Bool = λ x. not (has_ended x) in
    filtered test xs i d h
    ∙ ap (λ more. filter test (map lowered (take i xs)) ++ more) (dropped_one test (lowered (get_or xs i d)) (ap not ended))
    ∙ append-nil (filter test (map lowered (take i xs)))

pub woken_ended : (xs : List Delay) (i : ℕ) (d : Delay) → i < length xs → has_ended (lowered (get_or xs i d)) ≡ true
    → woken_by_tick (take (i + 1) xs) ≡ woken_by_tick (take i xs) ++ (get_or xs i d).slot ∷ []
unfolding woken_by_tick
woken_ended xs i d h ended =
    let slot : Delay → ℕ = λ x. x.slot in
    let before = filter has_ended (map lowered (take i xs)) in
    let x = lowered (get_or xs i d) in
    ap (map slot) (filtered has_ended xs i d h ∙ ap (λ more. before ++ more) (kept_one has_ended x ended))
    ∙ map-append slot before (x ∷ [])

-- one more, which doesn't
pub left_more : (xs : List Delay) (i : ℕ) (d : Delay) → i < length xs → has_ended (lowered (get_or xs i d)) ≡ false
    → left_by_tick (take (i + 1) xs) ≡ left_by_tick (take i xs) ++ lowered (get_or xs i d) ∷ []
unfolding left_by_tick
left_more xs i d h goes_on =
    let test : Delay → Bool = λ x. not (has_ended x) in
    filtered test xs i d h
    ∙ ap (λ more. filter test (map lowered (take i xs)) ++ more) (kept_one test (lowered (get_or xs i d)) (ap not goes_on))

pub woken_more : (xs : List Delay) (i : ℕ) (d : Delay) → i < length xs → has_ended (lowered (get_or xs i d)) ≡ false
    → woken_by_tick (take (i + 1) xs) ≡ woken_by_tick (take i xs)
unfolding woken_by_tick
woken_more xs i d h goes_on =
    let before = filter has_ended (map lowered (take i xs)) in
    let x = lowered (get_or xs i d) in
    ap (map (λ x. x.slot))
    (filtered has_ended xs i d h ∙ ap (λ more. before ++ more) (dropped_one has_ended x goes_on) ∙ append-nil before)

-- one more, which is another one's, or the process's own
pub without_more : (xs : List Delay) (p i : ℕ) (d : Delay) → i < length xs → ((get_or xs i d).slot == p) ≡ false
    → without_delay (take (i + 1) xs) p ≡ without_delay (take i xs) p ++ get_or xs i d ∷ []
unfolding without_delay
without_more xs p i d h other =
    let test : Delay → Bool = λ x. not (x.slot == p) in
    let x = get_or xs i d in
    ap (filter test) (take_more xs i d h) ∙ filter-append test (take i xs) (x ∷ [])
    ∙ ap (λ more. filter test (take i xs) ++ more) (kept_one test x (ap not other))

pub without_own : (xs : List Delay) (p i : ℕ) (d : Delay) → i < length xs → ((get_or xs i d).slot == p) ≡ true
    → without_delay (take (i + 1) xs) p ≡ without_delay (take i xs) p
unfolding without_delay
without_own xs p i d h own =
    let test : Delay → Bool = λ x. not (x.slot == p) in
    let x = get_or xs i d in
    ap (filter test) (take_more xs i d h) ∙ filter-append test (take i xs) (x ∷ [])
    ∙ ap (λ more. filter test (take i xs) ++ more) (dropped_one test x (ap not own)) ∙ append-nil (filter test (take i xs))

-- how many are a process's
pub delays_cons : (d : Delay) (ds : List Delay) (q : ℕ) → delays_of (d ∷ ds) q ≡ one_if (d.slot == q) + delays_of ds q
unfolding delays_of
delays_cons d ds q = count_cons (λ x. x.slot == q) d ds

pub delays_none : (q : ℕ) → delays_of [] q ≡ 0
unfolding delays_of
delays_none q = refl

-- before a tick as many as are left after it and are woken by it
ticked_step : (e : Bool) (d : Delay) (left ended ds : List Delay) (q : ℕ)
    → delays_of left q + count_by (λ p. p == q) (map (λ x. x.slot) ended) ≡ delays_of ds q
    → delays_of (if not e then lowered d ∷ left else left) q + count_by (λ p. p == q) (map (λ x. x.slot) (if e then lowered d ∷ ended else ended))
    ≡ delays_of (d ∷ ds) q
ticked_step true d left ended ds q so_far =
    omega (arith, so_far, count_cons (λ p. p == q) d.slot (map (λ x. x.slot) ended), delays_cons d ds q)
ticked_step false d left ended ds q so_far = omega (arith, so_far, delays_cons (lowered d) left q, delays_cons d ds q)

pub delays_ticked : (ds : List Delay) (q : ℕ)
    → delays_of (left_by_tick ds) q + count_by (λ p. p == q) (woken_by_tick ds) ≡ delays_of ds q
unfolding left_by_tick woken_by_tick delays_of
delays_ticked [] q = refl
delays_ticked (d ∷ ds) q =
    ticked_step (has_ended (lowered d)) d (filter (λ x. not (has_ended x)) (map lowered ds)) (filter has_ended (map lowered ds)) ds q (delays_ticked ds q)

-- who left has none, and the others have theirs
own_step : (b : Bool) (d : Delay) (p : ℕ) (left : List Delay) → (d.slot == p) ≡ b → delays_of left p ≡ 0 → delays_of (if not b then d ∷ left else left) p ≡ 0
own_step true d p left e so_far = so_far
own_step false d p left e so_far =
    let none : one_if (d.slot == p) ≡ 0 = ap (λ b. one_if b) e in
    omega (arith, so_far, delays_cons d left p)

pub delays_without_own : (ds : List Delay) (p : ℕ) → delays_of (without_delay ds p) p ≡ 0
unfolding without_delay delays_of
delays_without_own [] p = refl
delays_without_own (d ∷ ds) p = own_step (d.slot == p) d p (filter (λ x. not (x.slot == p)) ds) refl (delays_without_own ds p)

other_step : (b : Bool) (d : Delay) (p q : ℕ) (left ds : List Delay) → (d.slot == p) ≡ b → q ≢ p → delays_of left q ≡ delays_of ds q
    → delays_of (if not b then d ∷ left else left) q ≡ delays_of (d ∷ ds) q
other_step true d p q left ds e other so_far =
    let not_its : (d.slot == q) ≡ false = grind (arith, nat_tests, e, other) in
    let none : one_if (d.slot == q) ≡ 0 = ap (λ b. one_if b) not_its in
    omega (arith, so_far, delays_cons d ds q)
other_step false d p q left ds e other so_far = omega (arith, so_far, delays_cons d left q, delays_cons d ds q)

pub delays_without_other : (ds : List Delay) (p q : ℕ) → q ≢ p → delays_of (without_delay ds p) q ≡ delays_of ds q
unfolding without_delay delays_of
delays_without_other [] p q other = refl
delays_without_other (d ∷ ds) p q other =
    other_step (d.slot == p) d p q (filter (λ x. not (x.slot == p)) ds) ds refl other (delays_without_other ds p q other)

-- one more
more : (ds : List Delay) (d : Delay) (q : ℕ) → delays_of (ds ++ d ∷ []) q ≡ delays_of ds q + one_if (d.slot == q)
unfolding delays_of
more [] d q = omega (arith, delays_cons d [] q)
more (x ∷ ds) d q = omega (arith, more ds d q, delays_cons x (ds ++ d ∷ []) q, delays_cons x ds q)

pub delays_more_own : (ds : List Delay) (d : Delay) (q : ℕ) → d.slot ≡ q → delays_of (ds ++ d ∷ []) q ≡ delays_of ds q + 1
delays_more_own ds d q own =
    let its : (d.slot == q) ≡ true = grind (arith, nat_tests, own) in
    let is : one_if (d.slot == q) ≡ 1 = ap (λ b. one_if b) its in
    omega (arith, more ds d q)

pub delays_more_other : (ds : List Delay) (d : Delay) (q : ℕ) → d.slot ≢ q → delays_of (ds ++ d ∷ []) q ≡ delays_of ds q
delays_more_other ds d q other =
    let not_its : (d.slot == q) ≡ false = grind (arith, nat_tests) in
    let is : one_if (d.slot == q) ≡ 0 = ap (λ b. one_if b) not_its in
    omega (arith, more ds d q)

-- processes of which each waits at most once are at most 32
delays_are : (ds : List Delay) (q : ℕ) → count_by (λ p. p == q) (map (λ d. d.slot) ds) ≡ delays_of ds q
unfolding delays_of
delays_are [] q = refl
delays_are (d ∷ ds) q = omega (arith, delays_are ds q, count_cons (λ p. p == q) d.slot (map (λ x. x.slot) ds), delays_cons d ds q)

pub few_delays : (ds : List Delay) → ((q : ℕ) → delays_of ds q ≤ 1) → ((q : ℕ) → 0 < delays_of ds q → q < 32) → length ds ≤ 32
few_delays ds once below =
    let slots = map (λ d. d.slot) ds in
    omega (arith, length-map ds (λ d. d.slot), few_numbers slots 32 (λ q. omega (arith, delays_are ds q, once q)) (λ q some. below q (omega (arith, delays_are ds q, some))))
