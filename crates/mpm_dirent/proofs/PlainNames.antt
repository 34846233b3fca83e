-- A name without its attributes, byte by byte; a second time it is the same.
use Rattle.std.proofs.Common.{◌≡◌, ℕ, ◌%◌, ◌<◌, List, [], ◌∷◌, length, get_or, refl, sym, ap, ◌∙◌, arith}
use Rattle.std.proofs.lemmas.List.{get_or-map, length-map}
use Rattle.std.proofs.lemmas.List.FromFn.{fill_by_all}
use Rattle.mpm_dirent.specs.Names.{plain}

pub plain_all : (name made : List ℕ) → length name ≡ 11 → length made ≡ 11 → ((k : ℕ) → k < 11 → get_or made k 0 ≡ get_or name k 0 % 128) → made ≡ plain name
plain_all name made size size_made each =
    fill_by_all (λ k. get_or name k 0 % 128) made 11 0 size_made each
    ∙ sym (fill_by_all (λ k. get_or name k 0 % 128) (plain name) 11 0 (length-map name (λ (c : ℕ). c % 128) ∙ size) (λ k h. get_or-map (λ c. c % 128) name k 0 0 (omega arith)))

pub mod_twice : (c : ℕ) → c % 128 % 128 ≡ c % 128
mod_twice c = omega arith

pub plain_twice : (name : List ℕ) → plain (plain name) ≡ plain name
plain_twice [] = refl
plain_twice (c ∷ name) = ap (λ b. b ∷ plain (plain name)) (mod_twice c) ∙ ap (λ bs. c % 128 ∷ bs) (plain_twice name)
