use Rattle.std.proofs.Common.{rules}
use Rattle.mpm_banks.proofs.ActionLaws.{leaves_acted}
use Rattle.mpm_processor.proofs.instruction.execute_other.Goals as goal

pub returns : goal.returns
returns c =
    let acted = leaves_acted _ _ _ c.step_other.ensures.bus in
    let memory = acted.memory in
    let devices = acted.devices in
    record { illegal = search rules; registers = search rules; memory = search rules; devices = search rules }
