-- The conditions on the flags. (UM0080, "cc".)
use Rattle.std.specs.Prelude.{ℕ, Bool, not}
use Rattle.z80_alu.specs.Flags.{has}
use Rattle.z80_decode.specs.declared.forms.Condition.{Condition}
use Rattle.z80_decode.specs.declared.forms.Condition.TheVariants.{NotZero, Zero, NoCarry, Carry, ParityOdd, ParityEven, Plus, Minus}

-- Z is bit 6 of F, C bit 0, P/V bit 2, S bit 7
abbrev pub holds : Condition → ℕ → Bool
holds NotZero f = not (has f 64)
holds Zero f = has f 64
holds NoCarry f = not (has f 1)
holds Carry f = has f 1
holds ParityOdd f = not (has f 4)
holds ParityEven f = has f 4
holds Plus f = not (has f 128)
holds Minus f = has f 128
