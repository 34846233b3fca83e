use Rattle.std.proofs.Common.{◌≡◌, ◌++◌, map, take, drop}
use Rattle.mpm_consoles.specs.Console.{without_wait_of}
use Rattle.mpm_consoles.proofs.consoles.leave_each.Given as goal

abbrev pub invariant-loop-console : goal.invariant-loop-console
invariant-loop-console l = l.consoles ≡ map (without_wait_of l.p) (take l.console-index l.initial.consoles) ++ drop l.console-index l.initial.consoles
