-- Numbers by linear congruence: each is made of the one before it, and what is drawn of it lies below a bound.
use Rattle.std.specs.Prelude.{ℕ, zero, suc, ◌+◌, ◌*◌, ◌/◌, ◌%◌}

-- the number after a number
abbrev pub following : ℕ → ℕ
following x = (x * 1103515245 + 12345) % 2147483648

-- the n-th number after a number
unfoldable pub nth_behind : ℕ → ℕ → ℕ
nth_behind zero x = x
nth_behind (suc n) x = following (nth_behind n x)

-- what is drawn of a number: its high bits, below a bound
abbrev pub drawn : ℕ → ℕ → ℕ
drawn bound x = x / 65536 % bound
