use Rattle.std.proofs.Common.{◌≡◌, replicate}
use Rattle.mpm_consoles.specs.Console.{new_console}
use Rattle.mpm_consoles.proofs.consoles.new_consoles.Given as goal

abbrev pub invariant-loop-number : goal.invariant-loop-number
invariant-loop-number l = l.consoles.items ≡ replicate l._number new_console
