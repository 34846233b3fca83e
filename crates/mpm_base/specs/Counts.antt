-- Tests as numbers.
use Rattle.std.specs.Prelude.{ℕ, Bool, if◌then◌else◌}

-- 1 where a test passes, else 0
abbrev pub one_if : Bool → ℕ
one_if test = if test then 1 else 0
