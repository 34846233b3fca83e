use Rattle.std.proofs.Common.{subst}
use Rattle.mpm_service.specs.Disk.{IsSoundService}
use Rattle.mpm_machine.proofs.disk.recall_turns.Goals as goal

pub returns : goal.returns
returns c = subst IsSoundService c.disk.ensures c.serving.ensures.sound
