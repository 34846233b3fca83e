-- Lines of text: words and decimal numbers, each after a space.
use Rattle.std.specs.Prelude.{◌≡◌, ℕ, ◌+◌, ◌≤◌, List, [], ◌∷◌, ◌++◌, length, decimal}

-- a word after a space
abbrev pub field : List ℕ → List ℕ
field word = 32 ∷ word

-- a word, a space, a number and LF
abbrev pub number_line : List ℕ → ℕ → List ℕ
number_line word number = word ++ (field (decimal number) ++ (10 ∷ []))

-- more came after a text, at most so many bytes
pub record Appends (most : ℕ) (more old new : List ℕ) : Type 0 where
  pub text : new ≡ old ++ more
  pub size : length new ≤ length old + most
