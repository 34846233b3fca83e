-- Laws on the lines of completed calls.
use Rattle.std.proofs.Common.{◌≡◌, ℕ, List, [], ◌∷◌, ◌++◌, append_assoc, ap}
use Rattle.std.specs.List.{join_with_byte}

eight_parts : (a b c d e f g h : List ℕ) → ((((((a ++ b) ++ c) ++ d) ++ e) ++ f) ++ g) ++ h ≡ a ++ (b ++ (c ++ (d ++ (e ++ (f ++ (g ++ h))))))
eight_parts a b c d e f g h = simp append_assoc

-- words that are put one after another, each after a space, are parted by spaces
pub words_joined : (a b c d e f g h rest : List ℕ) → (((((((a ++ (32 ∷ b)) ++ (32 ∷ c)) ++ (32 ∷ d)) ++ (32 ∷ e)) ++ (32 ∷ f)) ++ (32 ∷ g)) ++ (32 ∷ h)) ++ rest ≡ join_with_byte 32 (a ∷ b ∷ c ∷ d ∷ e ∷ f ∷ g ∷ h ∷ []) ++ rest
words_joined a b c d e f g h rest =
    ap (λ words. words ++ rest) (eight_parts a (32 ∷ b) (32 ∷ c) (32 ∷ d) (32 ∷ e) (32 ∷ f) (32 ∷ g) (32 ∷ h))
