use Rattle.std.proofs.Common.{◌<◌}
use Rattle.mpm_service.specs.Disk.{HasBegun}
use Rattle.mpm_process_trials.proofs.service.pass.Given as goal

abbrev pub invariant-loop-step : goal.invariant-loop-step
invariant-loop-step l = (0 < l.service.turn_steps) × HasBegun l.service
