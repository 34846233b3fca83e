use Rattle.std.proofs.Common.{◌≡◌, take}
use Rattle.mpm_opens.specs.Locks.{locks_without, is_in_set}
use Rattle.mpm_opens.proofs.locks.Locks.give_back.Given as goal

abbrev pub invariant-loop-lock : goal.invariant-loop-lock
invariant-loop-lock l = l.left ≡ locks_without (take l.lock-index l.lock-items) l.p (is_in_set l.locks)
