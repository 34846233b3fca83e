use Rattle.std.proofs.Common.{◌≡◌, take, false}
use Rattle.std.specs.List.{list_any, range_with_len}
use Rattle.mpm_xdos.specs.Ending.{lives_in}
use Rattle.mpm_xdos.proofs.ending.is_home.Given as goal

abbrev pub invariant-loop-number : goal.invariant-loop-number
invariant-loop-number l = list_any (lives_in l.kernel.dispatcher.procs l.seg) (take l.number (range_with_len 0 32)) ≡ false
