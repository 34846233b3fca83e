-- The lines of a text by the byte with which they begin.
use Rattle.std.specs.Prelude.{ℕ, ◌-◌, ◌^◌, ◌==◌, ◌&&◌, Bool, List, [], ◌∷◌, min, count_by}
use Rattle.std.specs.List.{zip}

-- a byte that follows another begins a line: the other is an LF
abbrev pub begins_with : ℕ → (ℕ × ℕ) → Bool
begins_with first pair = (pair.0 == 10) && (pair.1 == first)

-- how many lines of a text begin with a byte: one may be at its front, and one after each LF
unfoldable pub lines_of_kind : ℕ → List ℕ → ℕ
lines_of_kind first text = count_by (begins_with first) (zip (10 ∷ text) text)

-- that number as it is counted, up to 2^64 - 1
abbrev pub counted : ℕ → List ℕ → ℕ
counted first text = min (lines_of_kind first text) (2 ^ 64 - 1)

-- the byte after which the next one comes: the last of a text, or an LF where there is none
unfoldable pub last_behind : ℕ → List ℕ → ℕ
last_behind before [] = before
last_behind before (byte ∷ text) = last_behind byte text
