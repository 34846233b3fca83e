-- A name with the attributes of another: bit 7 of its eleven bytes.
use Rattle.std.proofs.Common.{◌≡◌, ℕ, ◌+◌, ◌*◌, ◌/◌, ◌%◌, ◌<◌, false, List, map, length, get_or, sym, ◌∙◌, arith}
use Rattle.std.proofs.lemmas.Bool.Decides.{nat_tests}
use Rattle.std.specs.Prelude.{nat_le}
use Rattle.std.proofs.lemmas.List.{ext_get_or, length-map, get_or-map}
use Rattle.mpm_dirent.specs.Names.{plain}

-- byte by byte
pub mark_of : (a b : ℕ) → b < 256 → nat_le 128 (a % 128 + b / 128 * 128) ≡ nat_le 128 b
mark_of a b h = grind (arith, nat_tests)

pub rest_of : (a b : ℕ) → (a % 128 + b / 128 * 128) % 128 ≡ a % 128
rest_of a b = omega arith

-- of eleven bytes
pub plain_kept : (marked name : List ℕ) → length marked ≡ 11 → length name ≡ 11 → ((k : ℕ) → k < 11 → get_or marked k 0 % 128 ≡ get_or name k 0 % 128)
    → plain marked ≡ plain name
plain_kept marked name size named each =
    ext_get_or 0 (plain marked) (plain name) (length-map marked (λ c. c % 128) ∙ size ∙ sym (length-map name (λ c. c % 128) ∙ named)) (λ k less.
    let h : k < 11 = omega (arith, length-map marked (λ c. c % 128)) in
    get_or-map (λ c. c % 128) marked k 0 0 (omega arith) ∙ each k h ∙ sym (get_or-map (λ c. c % 128) name k 0 0 (omega arith)))

pub marks_taken : (marked marks : List ℕ) → length marked ≡ 11 → length marks ≡ 11 → ((k : ℕ) → k < 11 → nat_le 128 (get_or marked k 0) ≡ nat_le 128 (get_or marks k 0))
    → map (nat_le 128) marked ≡ map (nat_le 128) marks
marks_taken marked marks size long each =
    ext_get_or false (map (nat_le 128) marked) (map (nat_le 128) marks) (length-map marked (nat_le 128) ∙ size ∙ sym (length-map marks (nat_le 128) ∙ long)) (λ k less.
    let h : k < 11 = omega (arith, length-map marked (nat_le 128)) in
    get_or-map (nat_le 128) marked k 0 false (omega arith) ∙ each k h ∙ sym (get_or-map (nat_le 128) marks k 0 false (omega arith)))
