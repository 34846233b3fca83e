use Rattle.std.proofs.Common.{rules}
use Rattle.mpm_banks.proofs.ActionLaws.{leaves_acted_unless}
use Rattle.mpm_processor.proofs.instruction.execute_unbegun.Goals as goal

pub returns : goal.returns
returns c =
    let acted = leaves_acted_unless _ _ _ _ c.step_unbegun.ensures.bus in
    let memory = acted.memory in
    let devices = acted.devices in
    record { plain = search rules; rare = search rules; registers = search rules; memory = search rules; devices = search rules }
