-- Laws of decimal numbers, from their first digit on.
use Rattle.std.proofs.Common.{◌≡◌, ℕ, ◌+◌, ◌-◌, ◌*◌, ◌<◌, ◌≤◌, List, [], ◌∷◌, true, false, Some, None, arith, add-one, drop, get_or, length}
use Rattle.std.proofs.Math.Seq.{drop-cons}
use Rattle.std.proofs.lemmas.List.{drop_all}
use Rattle.std.proofs.lemmas.Bool.Decides.{nat_tests}
use Rattle.std.specs.Char.{is_ascii_digit}
use Rattle.mpm_script.specs.Numbers.{value_from, decimal_of, number_of}

-- further digits make no number smaller
value_grows : (before : ℕ) (text : List ℕ) → before ≤ value_from before text
unfolding value_from
value_grows before [] = omega arith
value_grows before (digit ∷ rest) = omega (arith, value_grows (10 * before + (digit - 48)) rest)

decimal_ends : (greatest before : ℕ) → before ≤ greatest → decimal_of greatest before [] ≡ Some before
unfolding decimal_of value_from
decimal_ends greatest before h = grind (arith, nat_tests)

decimal_other : (greatest before byte : ℕ) (rest : List ℕ) → is_ascii_digit byte ≡ false → decimal_of greatest before (byte ∷ rest) ≡ None
unfolding decimal_of
decimal_other greatest before byte rest h = grind (arith, nat_tests)

decimal_more : (greatest before byte : ℕ) (rest : List ℕ) → is_ascii_digit byte ≡ true
    → decimal_of greatest before (byte ∷ rest) ≡ decimal_of greatest (10 * before + (byte - 48)) rest
unfolding decimal_of value_from
decimal_more greatest before byte rest h = grind (arith, nat_tests)

decimal_great : (greatest before : ℕ) (rest : List ℕ) → greatest < before → decimal_of greatest before rest ≡ None
unfolding decimal_of
decimal_great greatest before rest h = let more = value_grows before rest in grind (arith, nat_tests)

-- at a place of a text: after its end, a byte that is no digit, a digit, and a number that is too great
pub decimal_behind : (greatest before : ℕ) (text : List ℕ) (i : ℕ) → before ≤ greatest → length text ≤ i → decimal_of greatest before (drop i text) ≡ Some before
decimal_behind greatest before text i fits h = rw (drop_all i text h) (decimal_ends greatest before fits)

pub decimal_no_digit : (greatest before : ℕ) (text : List ℕ) (i : ℕ) → i < length text → is_ascii_digit (get_or text i 0) ≡ false → decimal_of greatest before (drop i text) ≡ None
decimal_no_digit greatest before text i h e = rw (drop-cons text i 0 h) (decimal_other greatest before _ _ e)

pub decimal_digit : (greatest before : ℕ) (text : List ℕ) (i : ℕ) → i < length text → is_ascii_digit (get_or text i 0) ≡ true
    → decimal_of greatest before (drop i text) ≡ decimal_of greatest (10 * before + (get_or text i 0 - 48)) (drop (i + 1) text)
decimal_digit greatest before text i h e = rw (add-one, drop-cons text i 0 h) (decimal_more greatest before _ _ e)

pub decimal_over : (greatest before : ℕ) (text : List ℕ) (i : ℕ) → i < length text → is_ascii_digit (get_or text i 0) ≡ true → greatest < 10 * before + (get_or text i 0 - 48)
    → decimal_of greatest before (drop i text) ≡ None
decimal_over greatest before text i h e over = rw (decimal_digit greatest before text i h e) (decimal_great greatest _ _ over)

-- a number that is read is no greater than the greatest
pub number_limit : (greatest : ℕ) (text : List ℕ) (n : ℕ) → number_of greatest text ≡ Some n → n ≤ greatest
unfolding number_of decimal_of
number_limit greatest text n e = grind (arith, nat_tests)
