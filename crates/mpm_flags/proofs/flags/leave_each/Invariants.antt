use Rattle.std.proofs.Common.{◌≡◌, ◌++◌, map, take, drop}
use Rattle.mpm_flags.specs.States.{without_waiter}
use Rattle.mpm_flags.proofs.flags.leave_each.Given as goal

abbrev pub invariant-loop-flag : goal.invariant-loop-flag
invariant-loop-flag l = l.flags ≡ map (without_waiter l.p) (take l.flag-index l.initial.flags) ++ drop l.flag-index l.initial.flags
