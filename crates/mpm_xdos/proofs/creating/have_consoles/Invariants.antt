use Rattle.std.proofs.Common.{◌≡◌, take, true}
use Rattle.std.specs.List.{list_all}
use Rattle.mpm_xdos.specs.Creating.{children_of, has_console}
use Rattle.mpm_xdos.proofs.creating.have_consoles.Given as goal

abbrev pub invariant-loop-number : goal.invariant-loop-number
invariant-loop-number l = list_all (has_console l.consoles) (take l.number (children_of l.parent l.base l.descriptors)) ≡ true
