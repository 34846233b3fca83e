use Rattle.std.proofs.Common.{rules}
use Rattle.mpm_banks.proofs.ActionLaws.{leaves_acted}
use Rattle.mpm_processor.proofs.MovingLaws.{view_is}
use Rattle.mpm_replay.proofs.replaying.execute.Goals as goal

pub returns : goal.returns
returns c =
    let acted = leaves_acted _ _ _ c.step.ensures.outcome.bus in
    let memory = acted.memory in
    let devices = acted.devices in
    record { illegal = c.step.ensures.outcome.illegal; unlisted = c.step.ensures.unlisted; moves = search (rules, view_is) }
