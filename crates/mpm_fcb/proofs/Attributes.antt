-- A name whose bytes have got their attributes, one after the other: it is the name that it was, and an opening takes F5' and F6' from it.
use Rattle.std.proofs.Common.{◌≡◌, ◌∙◌, ℕ, ◌%◌, ◌<◌, Bool, true, false, List, [], ◌∷◌, length, map, get_or, refl, ap, arith}
use Rattle.std.specs.Prelude.{nat_le, slice_index, slice_index_or}
use Rattle.std.specs.List.{range_with_len}
use Rattle.std.proofs.lemmas.Bool.Decides.{nat_tests}
use Rattle.std.proofs.lemmas.List.FromFn.{fill_by_all}
use Rattle.mpm_dirent.specs.Names.{plain}
use Rattle.mpm_dirent.proofs.Numbers.{spread_is}
use Rattle.mpm_fcb.specs.Names.{with_attribute, attributed_at, with_attributes}
use Rattle.mpm_fcb.specs.Opening.{without_f5_f6}

pub attributed : (name made : List ℕ) (attributes : List Bool) → length made ≡ 11
    → ((k : ℕ) → k < 11 → get_or made k 0 ≡ attributed_at name attributes k) → made ≡ with_attributes name attributes
unfolding with_attributes
attributed name made attributes size each = fill_by_all (attributed_at name attributes) made 11 0 size each

-- an attribute isn't part of the character
still_character : (byte : ℕ) (attribute : Bool) → with_attribute byte attribute % 128 ≡ byte % 128
still_character byte true = omega arith
still_character byte false = omega arith

same_plain : (f g : ℕ → ℕ) (places : List ℕ) → ((k : ℕ) → f k % 128 ≡ g k % 128) → plain (map f places) ≡ plain (map g places)
same_plain f g [] same = refl
same_plain f g (k ∷ places) same = ap (λ c. c ∷ plain (map f places)) (same k) ∙ ap (λ rest. g k % 128 ∷ rest) (same_plain f g places same)

pub still_plain : (name : List ℕ) (attributes : List Bool) → length name ≡ 11 → plain (with_attributes name attributes) ≡ plain name
unfolding with_attributes
still_plain name attributes size =
    same_plain (attributed_at name attributes) (λ k. get_or name k 0) (range_with_len 0 11) (λ k. still_character (slice_index name k) (slice_index_or attributes k false))
    ∙ ap plain (spread_is name 11 size)

pub still_long : (name : List ℕ) (attributes : List Bool) → length (with_attributes name attributes) ≡ 11
unfolding with_attributes
still_long name attributes = refl

-- F5' and F6' go
sixth_off : (attributes : List Bool) → slice_index_or (without_f5_f6 attributes) 5 false ≡ false
sixth_off [] = refl
sixth_off (a ∷ []) = refl
sixth_off (a ∷ b ∷ []) = refl
sixth_off (a ∷ b ∷ c ∷ []) = refl
sixth_off (a ∷ b ∷ c ∷ d ∷ rest) = refl

fifth_off : (attributes : List Bool) → slice_index_or (without_f5_f6 attributes) 4 false ≡ false
fifth_off [] = refl
fifth_off (a ∷ []) = refl
fifth_off (a ∷ b ∷ []) = refl
fifth_off (a ∷ b ∷ c ∷ []) = refl
fifth_off (a ∷ b ∷ c ∷ d ∷ rest) = refl

low : (byte : ℕ) → nat_le 128 (with_attribute byte false) ≡ false
low byte = grind (arith, nat_tests)

pub without_f6 : (name : List ℕ) (attributes : List Bool) → nat_le 128 (slice_index (with_attributes name (without_f5_f6 attributes)) 5) ≡ false
unfolding with_attributes
without_f6 name attributes =
    ap (λ attribute. nat_le 128 (with_attribute (slice_index name 5) attribute)) (sixth_off attributes) ∙ low (slice_index name 5)

pub without_f5 : (name : List ℕ) (attributes : List Bool) → nat_le 128 (slice_index (with_attributes name (without_f5_f6 attributes)) 4) ≡ false
unfolding with_attributes
without_f5 name attributes =
    ap (λ attribute. nat_le 128 (with_attribute (slice_index name 4) attribute)) (fifth_off attributes) ∙ low (slice_index name 4)
