use Rattle.std.proofs.Common.{◌≡◌, take}
use Rattle.mpm_fault_lines.specs.Lines as spec
use Rattle.mpm_fault_lines.proofs.writing.list_text.Given as goal

abbrev pub invariant-loop-fault : goal.invariant-loop-fault
invariant-loop-fault l = l.text.items ≡ spec.list_text (take l.fault-index l.faults)
