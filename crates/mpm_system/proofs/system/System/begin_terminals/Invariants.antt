use Rattle.mpm_system.proofs.OpeningLaws.{BegunSo}
use Rattle.mpm_system.proofs.system.System.begin_terminals.Given as goal

abbrev pub invariant-loop-console : goal.invariant-loop-console
invariant-loop-console l = BegunSo l.initial.self l.self l.console
