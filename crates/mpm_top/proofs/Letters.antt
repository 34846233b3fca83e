-- The letter of a drive is one byte.
use Rattle.std.proofs.Common.{◌≡◌, ℕ, ◌+◌, ◌%◌, true, [], ◌∷◌, refl, arith}
use Rattle.std.specs.Prelude.{ltb}
use Rattle.std.specs.Char.{encode_utf8}
use Rattle.std.proofs.lemmas.Bool.Decides.{nat_tests}

pub letter_byte : (n : ℕ) → encode_utf8 (65 + n % 16) ≡ (65 + n % 16) ∷ []
unfolding encode_utf8
letter_byte n =
    let test : ltb (65 + n % 16) 128 ≡ true = grind (arith, nat_tests) in
    rw test refl
