use Rattle.std.proofs.Common.{◌≡◌, replicate}
use Rattle.mpm_base.specs.Calls.{no_call}
use Rattle.mpm_procs.proofs.procs.empty_calls.Given as goal

abbrev pub invariant-loop-slot : goal.invariant-loop-slot
invariant-loop-slot l = l.calls.items ≡ replicate l._slot no_call
