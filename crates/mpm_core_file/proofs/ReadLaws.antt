-- Of the file of a core whose head stands.
use Rattle.std.proofs.Common.{◌≡◌, ◌∙◌, ℕ, ◌<◌, ◌≤◌, not, Bool, true, false, List, Some, None, length, get_or, nat_lt, nat_le, if◌then◌else◌, min, refl, sym, ap, subst, eq-eqb, arith}
use Rattle.std.proofs.lemmas.Bool.{false≢true, and_parts}
use Rattle.std.proofs.lemmas.Bool.Decides.{nat_tests}
use Rattle.std.proofs.lemmas.Grind.{common_steps}
use Rattle.std.proofs.lemmas.List.Quantifiers.{position-Some}
use Rattle.std.proofs.lemmas.List.Sums.{fails_before_first}
use Rattle.std.proofs.lemmas.List.FromFn.{get_or-range_with_len, length-range_with_len}
use Rattle.std.specs.List.{range_with_len, position_or_len}
use Rattle.std.specs.Prelude.{position}
use Rattle.mpm_core_file.specs.CoreFiles.{HasHead, stands, may_stand, turned, first_bad, size_of, fault_by}

none_found : {X : Type 0} (p : X → Bool) (xs : List X) (k : ℕ) (d : X) → position p xs ≡ None → k < length xs → p (get_or xs k d) ≡ false
none_found p xs k d none below =
    let past : length xs ≤ position_or_len p xs = grind (arith, common_steps) in
    fails_before_first p xs k d (omega (arith, past, below))

not_not : (b : Bool) → not b ≡ false → b ≡ true
not_not true e = refl
not_not false e = absurd (false≢true (sym e))

-- each place of the head stands, where none is bad
pub each_stands : (text : List ℕ) (turn : ℕ) → first_bad text ≡ None → turn < 51 → stands text (turned turn) ≡ true
unfolding first_bad
each_stands text turn none below =
    let at : get_or (range_with_len 0 51) turn 0 ≡ turn = get_or-range_with_len 0 51 turn 0 below ∙ omega arith in
    not_not (stands text (turned turn)) (subst (λ (t : ℕ). not (stands text (turned t)) ≡ false) at
    (none_found (λ t. not (stands text (turned t))) (range_with_len 0 51) turn 0 none (omega (arith, below, length-range_with_len 0 51))))

-- and the turn of one that is bad is one of the head
pub turn_below : (text : List ℕ) (turn : ℕ) → first_bad text ≡ Some turn → turn < 51
unfolding first_bad
turn_below text turn some =
    omega (arith, (position-Some (λ t. not (stands text (turned t))) (range_with_len 0 51) turn 0 some).0, length-range_with_len 0 51)

less : (a b : ℕ) → nat_lt a b ≡ true → a < b
less a b is = grind (arith, nat_tests)

at_most : (a b : ℕ) → nat_le a b ≡ true → a ≤ b
at_most a b is = grind (arith, nat_tests)

pub there : (text : List ℕ) (place : ℕ) → stands text place ≡ true → place < length text
unfolding stands
there text place is = less place (length text) (and_parts _ _ is).0

pub may : (text : List ℕ) (place : ℕ) → stands text place ≡ true → may_stand (get_or text 18 0) place (get_or text place 0) ≡ true
unfolding stands
may text place is = (and_parts _ _ is).1

-- so its head is there, and is one of a process
pub head_stands : (text : List ℕ) → first_bad text ≡ None → HasHead text
unfolding may_stand
head_stands text none =
    let at : (turn : ℕ) → turn < 51 → stands text (turned turn) ≡ true = λ turn below. each_stands text turn none below in
    let long = there text 50 (at 50 (omega arith)) in
    let process = may text 16 (at 16 (omega arith)) in
    let pages = may text 18 (at 17 (omega arith)) in
    let base = may text 17 (at 18 (omega arith)) in
    let mode = may text 48 (at 48 (omega arith)) in
    record {
      long = omega (arith, long);
      process = less _ _ process;
      some = at_most _ _ (and_parts _ _ pages).0;
      end = at_most _ _ base;
      mode = less _ _ mode;
    }

-- it has no fault where it has as many bytes as its pages ask for
pub right_size : (text : List ℕ) → length text ≡ size_of (get_or text 18 0) → fault_by None text ≡ None
right_size text size = ap (λ b. if b then None else Some (min (length text) (size_of (get_or text 18 0)))) (eq-eqb _ _ size)
