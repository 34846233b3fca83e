use Rattle.std.proofs.Common.{◌≡◌, ◌*◌, length}
use Rattle.mpm_program_trials.proofs.processes.describe.Given as goal

abbrev pub invariant-loop-number : goal.invariant-loop-number
invariant-loop-number l = length l.call.bytes ≡ 18 * l._number
