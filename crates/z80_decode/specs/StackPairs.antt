-- The pairs of PUSH and POP. (UM0080, "qq".)
use Rattle.std.specs.Prelude.{ℕ, ◌==◌, if◌then◌else◌}
use Rattle.z80_decode.specs.declared.forms.StackPair.{StackPair}
use Rattle.z80_decode.specs.declared.forms.StackPair.TheVariants.{BC, DE, HL, AF}

-- the pair that two bits name
unfoldable pub stack_pair_of : ℕ → StackPair
stack_pair_of p = if p == 0 then BC else (if p == 1 then DE else (if p == 2 then HL else AF))
