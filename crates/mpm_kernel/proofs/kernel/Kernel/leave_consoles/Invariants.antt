use Rattle.std.proofs.Common.{◌≡◌}
use Rattle.mpm_kernel.specs.Ending.{consoles_left}
use Rattle.mpm_kernel.proofs.kernel.Kernel.leave_consoles.Given as goal

abbrev pub invariant-loop-n : goal.invariant-loop-n
invariant-loop-n l = l.self ≡ consoles_left l.p l.n l.initial.self
