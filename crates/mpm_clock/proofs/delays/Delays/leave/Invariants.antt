use Rattle.std.proofs.Common.{◌≡◌, take}
use Rattle.mpm_clock.specs.Delays.{without_delay}
use Rattle.mpm_clock.proofs.delays.Delays.leave.Given as goal

abbrev pub invariant-loop-delay : goal.invariant-loop-delay
invariant-loop-delay l = l.left ≡ without_delay (take l.delay-index l.delay-items) l.p
