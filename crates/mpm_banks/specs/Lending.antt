-- How bytes are lent: what their owner holds once the borrow is over.
use Rattle.std.specs.Prelude.{ℕ, List}
use Rattle.std.specs.Borrow.{Lends, MutBor, Fml, Array, u8}
use Rattle.mpm_banks.specs.Stretches.{with_range}
use Rattle.mpm_banks.specs.contracts.bytes.Bytes.{the_row}

-- the owner has the bytes that were left in the range
abbrev pub LendsRange : MutBor (List ℕ) → ℕ → MutBor (List ℕ) → Fml
LendsRange owner from lent = Lends the_row (Array u8 0) owner lent (with_range owner.now from)
