-- What those leave who ended: slot by slot as all at once.
use Rattle.std.proofs.Common.{◌≡◌, ◌≢◌, ◌∙◌, refl, sym, ap, ℕ, zero, suc, ◌+◌, ◌<◌, Bool, true, false, ◌==◌, ◌&&◌, ◌||◌, not, cond, List, [], ◌∷◌, Option, Some, None, map, filter, nat_lt, nat_le, slice_set, if◌then◌else◌, arith}
use Rattle.std.specs.List.{range_with_len, enumerate_from}
use Rattle.std.proofs.lemmas.Bool.Decides.{nat_tests}
use Rattle.mpm_opens.specs.declared.kinds.Item.{Item}
use Rattle.mpm_opens.specs.declared.kinds.RecordLock.{RecordLock}
use Rattle.mpm_opens.specs.Kinds.{is_any}
use Rattle.mpm_opens.specs.Items.{left_in, items_without}
use Rattle.mpm_opens.specs.Locks.{is_lock_among, is_lock_given_back, locks_without}
use Rattle.mpm_opens.specs.Opens.{given_back}
use Rattle.mpm_refusals.specs.Filing.{Filing}
use Rattle.mpm_bdos.specs.Outcomes.{left_by, without_search}
use Rattle.mpm_machine.specs.Files.{place_unless, left_where, owes, all_left}

-- slot by slot, the processes that ended give back what they had open and marked, and their searches end
unfoldable pub left_each : (ℕ → Bool) → List ℕ → Filing → Filing
left_each gone [] filing = filing
left_each gone (p ∷ ps) filing = left_each gone ps (if gone p then without_search (left_by filing p) p else filing)

-- one more is gone
abbrev pub OneMore : (ℕ → Bool) → (ℕ → Bool) → ℕ → Type 0
OneMore gone more p = (q : ℕ) → more q ≡ ((q == p) || gone q)

-- of open files
one_place : (gone : ℕ → Bool) (item : Item) (b d : Bool) → d ≡ (b || gone item.process) → place_unless gone (cond (b && true) None (Some item)) ≡ cond d None (Some item)
one_place gone item true d e = ap (λ b. cond b None (Some item)) (sym e)
one_place gone item false d e = ap (λ b. cond b None (Some item)) (sym e)

more_places : (gone more : ℕ → Bool) (p : ℕ) → OneMore gone more p → (items : List (Option Item))
    → map (place_unless gone) (map (left_in p is_any) items) ≡ map (place_unless more) items
more_places gone more p each [] = refl
more_places gone more p each (None ∷ items) = ap (λ xs. None ∷ xs) (more_places gone more p each items)
more_places gone more p each (Some item ∷ items) =
    λ i. one_place gone item (item.process == p) (more item.process) (each item.process) i ∷ more_places gone more p each items i

-- of locks
neither : (b c d : Bool) → d ≡ (b || c) → (not (b && true) && not c) ≡ not d
neither true c d e = ap not (sym e)
neither false c d e = ap not (sym e)

kept_twice : {X : Type 0} (p q both : X → Bool) → ((x : X) → (p x && q x) ≡ both x) → (xs : List X) → filter q (filter p xs) ≡ filter both xs
kept_twice p q both each [] = refl
kept_twice p q both each (x ∷ xs) =
    one_kept (p x) q x (filter p xs) ∙ ap (λ b. cond b (x ∷ filter q (filter p xs)) (filter q (filter p xs))) (each x)
    ∙ ap (λ ys. cond (both x) (x ∷ ys) ys) (kept_twice p q both each xs)
  where
    one_kept : {X : Type 0} (b : Bool) (q : X → Bool) (x : X) (xs : List X) → filter q (cond b (x ∷ xs) xs) ≡ cond (b && q x) (x ∷ filter q xs) (filter q xs)
    one_kept true q x xs = refl
    one_kept false q x xs = refl

more_locks : (gone more : ℕ → Bool) (p : ℕ) → OneMore gone more p → (locks : List RecordLock)
    → filter (λ lock. not (gone lock.owner)) (filter (λ lock. not (is_lock_given_back p (is_lock_among is_any) lock)) locks) ≡ filter (λ lock. not (more lock.owner)) locks
more_locks gone more p each locks =
    kept_twice (λ lock. not (is_lock_given_back p (is_lock_among is_any) lock)) (λ lock. not (gone lock.owner)) (λ lock. not (more lock.owner))
    (λ lock. neither (lock.owner == p) (gone lock.owner) (more lock.owner) (each lock.owner)) locks

-- of what each process has, from a process on
abbrev pub from_unless : {X : Type 0} → (ℕ → Bool) → X → ℕ → List X → List X
from_unless gone none n xs = map (λ e. if gone e.0 then none else e.1) (enumerate_from n xs)

is_other : (n p : ℕ) → n ≢ p → (n == p) ≡ false
is_other n p other = grind (arith, nat_tests)

is_same : (n p : ℕ) → n ≡ p → (n == p) ≡ true
is_same n p same = grind (arith, nat_tests)

other_left : (gone more : ℕ → Bool) (n p : ℕ) → OneMore gone more p → n ≢ p → gone n ≡ more n
other_left gone more n p each other = sym (each n ∙ ap (λ b. b || gone n) (is_other n p other))

above : {X : Type 0} (gone more : ℕ → Bool) (p : ℕ) (none : X) → OneMore gone more p → (xs : List X) (n : ℕ) → p < n → from_unless gone none n xs ≡ from_unless more none n xs
above gone more p none each [] n over = refl
above gone more p none each (x ∷ xs) n over =
    λ i. cond (other_left gone more n p each (λ same. omega (arith, same, over)) i) none x ∷ above gone more p none each xs (n + 1) (omega (arith, over)) i

none_anyhow : {X : Type 0} (b : Bool) (none : X) → cond b none none ≡ none
none_anyhow true none = refl
none_anyhow false none = refl

more_each : {X : Type 0} (gone more : ℕ → Bool) (p : ℕ) (none : X) → OneMore gone more p → (xs : List X) (n k : ℕ) → n + k ≡ p
    → from_unless gone none n (slice_set xs k none) ≡ from_unless more none n xs
more_each gone more p none each [] n k at = refl
more_each gone more p none each (x ∷ xs) n zero at =
    let here : more n ≡ true = each n ∙ ap (λ b. b || gone n) (is_same n p (omega (arith, at))) in
    λ i. (none_anyhow (gone n) none ∙ ap (λ b. cond b none x) (sym here)) i ∷ above gone more p none each xs (n + 1) (omega (arith, at)) i
more_each gone more p none each (x ∷ xs) n (suc k) at =
    λ i. cond (other_left gone more n p each (λ same. omega (arith, same, at)) i) none x ∷ more_each gone more p none each xs (n + 1) k (omega (arith, at)) i

-- so one more gives back what it had
more_left : (gone more : ℕ → Bool) (p : ℕ) (filing : Filing) → OneMore gone more p → left_where gone (without_search (left_by filing p) p) ≡ left_where more filing
unfolding left_where left_by without_search given_back items_without locks_without
more_left gone more p filing each = λ i. record filing {
  opens = record { items = more_places gone more p each filing.opens.items i; locks = more_locks gone more p each filing.opens.locks i };
  marks = more_each gone more p 0 each filing.marks 0 p (omega arith) i;
  searches = more_each gone more p None each filing.searches 0 p (omega arith) i;
}

-- where nobody is gone all stays
none_places : (items : List (Option Item)) → map (place_unless (λ q. false)) items ≡ items
none_places [] = refl
none_places (None ∷ items) = ap (λ xs. None ∷ xs) (none_places items)
none_places (Some item ∷ items) = ap (λ xs. Some item ∷ xs) (none_places items)

none_locks : (locks : List RecordLock) → filter (λ lock. true) locks ≡ locks
none_locks [] = refl
none_locks (lock ∷ locks) = ap (λ xs. lock ∷ xs) (none_locks locks)

none_each : {X : Type 0} (none : X) (xs : List X) (n : ℕ) → from_unless (λ q. false) none n xs ≡ xs
none_each none [] n = refl
none_each none (x ∷ xs) n = ap (λ ys. x ∷ ys) (none_each none xs (n + 1))

none_left : (filing : Filing) → left_where (λ q. false) filing ≡ filing
unfolding left_where
none_left filing = λ i. record filing {
  opens = record { items = none_places filing.opens.items i; locks = none_locks filing.opens.locks i };
  marks = none_each 0 filing.marks 0 i;
  searches = none_each None filing.searches 0 i;
}

-- of the slots in a list those are gone for which that is so
abbrev listed : ℕ → List ℕ → Bool
listed q [] = false
listed q (p ∷ ps) = (q == p) || listed q ps

abbrev among : (ℕ → Bool) → List ℕ → ℕ → Bool
among gone ps q = gone q && listed q ps

never : (b : Bool) → (b && false) ≡ false
never true = refl
never false = refl

its_own : (q p : ℕ) → (q == p) ≡ true → q ≡ p
its_own q p same = grind (arith, nat_tests)

here_gone : (b c d : Bool) → (b ≡ true → c ≡ true) → (c && (b || d)) ≡ (b || (c && d))
here_gone true c d is = ap (λ c. c && true) (is refl)
here_gone false c d is = refl

here_not : (b c d : Bool) → (b ≡ true → c ≡ false) → (c && d) ≡ (c && (b || d))
here_not true c d is = ap (λ c. c && d) (is refl) ∙ sym (ap (λ c. c && true) (is refl))
here_not false c d is = refl

slot_left : (gone : ℕ → Bool) (p : ℕ) (ps : List ℕ) (filing : Filing) (b : Bool) → gone p ≡ b
    → left_where (among gone ps) (cond b (without_search (left_by filing p) p) filing) ≡ left_where (among gone (p ∷ ps)) filing
slot_left gone p ps filing true is =
    more_left (among gone ps) (among gone (p ∷ ps)) p filing (λ q. here_gone (q == p) (gone q) (listed q ps) (λ same. ap gone (its_own q p same) ∙ is))
slot_left gone p ps filing false is =
    λ i. left_where (λ q. here_not (q == p) (gone q) (listed q ps) (λ same. ap gone (its_own q p same) ∙ is) i) filing

each_left : (gone : ℕ → Bool) (ps : List ℕ) (filing : Filing) → left_where (among gone ps) filing ≡ left_each gone ps filing
unfolding left_each
each_left gone [] filing = (λ i. left_where (λ q. never (gone q) i) filing) ∙ none_left filing
each_left gone (p ∷ ps) filing =
    sym (slot_left gone p ps filing (gone p) refl) ∙ each_left gone ps (cond (gone p) (without_search (left_by filing p) p) filing)

-- all slots are those below 32
one_listed : (q a n : ℕ) → ((q == a) || (nat_le (a + 1) q && nat_lt q ((a + 1) + n))) ≡ (nat_le a q && nat_lt q (a + suc n))
one_listed q a n = grind (arith, nat_tests)

no_more : (q a : ℕ) → false ≡ (nat_le a q && nat_lt q (a + 0))
no_more q a = grind (arith, nat_tests)

slots_listed : (q a n : ℕ) → listed q (range_with_len a n) ≡ (nat_le a q && nat_lt q (a + n))
slots_listed q a zero = no_more q a
slots_listed q a (suc n) = ap (λ b. (q == a) || b) (slots_listed q (a + 1) n) ∙ one_listed q a n

below : (q : ℕ) → (nat_le 0 q && nat_lt q (0 + 32)) ≡ nat_lt q 32
below q = grind (arith, nat_tests)

turned : (b c : Bool) → (b && c) ≡ (c && b)
turned true true = refl
turned true false = refl
turned false true = refl
turned false false = refl

pub all_left_each : (owed : List Bool) (filing : Filing) → all_left owed filing ≡ left_each (owes owed) (range_with_len 0 32) filing
unfolding all_left
all_left_each owed filing =
    (λ i. left_where (λ q. (turned (nat_lt q 32) (owes owed q) ∙ ap (λ b. owes owed q && b) (sym (slots_listed q 0 32 ∙ below q))) i) filing)
    ∙ each_left (owes owed) (range_with_len 0 32) filing
