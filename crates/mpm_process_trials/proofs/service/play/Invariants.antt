use Rattle.std.proofs.Common.{◌<◌}
use Rattle.mpm_service.specs.Disk.{HasBegun}
use Rattle.mpm_process_trials.proofs.service.play.Given as goal

abbrev pub invariant-loop-number : goal.invariant-loop-number
invariant-loop-number l = (0 < l.service.turn_steps) × HasBegun l.service
