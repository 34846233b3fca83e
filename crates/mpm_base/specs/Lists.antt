-- Lists that several crates name.
use Rattle.std.specs.Prelude.{ℕ, ◌-◌, List, [], ◌∷◌, ◌++◌, take, length, replicate, Bool, false, ◌==◌, ◌||◌}

-- so many zeros
unfoldable pub zeros : ℕ → List ℕ
zeros n = replicate n 0

-- so many bytes: the first of those that are there, and zeros for those that are missing
unfoldable pub in_width : ℕ → List ℕ → List ℕ
in_width width bytes = take width bytes ++ replicate (width - length bytes) 0

-- whether a number is among some
abbrev pub is_among : ℕ → List ℕ → Bool
is_among n [] = false
is_among n (m ∷ ms) = n == m || is_among n ms
