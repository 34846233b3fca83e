use Rattle.std.proofs.Common.{rules}
use Rattle.mpm_banks.proofs.ActionLaws.{leaves_acted}
use Rattle.mpm_processor.proofs.instruction.execute_load.Goals as goal

pub returns : goal.returns
returns c =
    let acted = leaves_acted _ _ _ c.step_load_up.ensures.bus in
    let memory = acted.memory in
    let devices = acted.devices in
    record { listed = search rules; registers = search rules; memory = search rules; devices = search rules }
