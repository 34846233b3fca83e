use Rattle.std.proofs.Common.{◌+◌, ◌≤◌, length}
use Rattle.mpm_fault_lines.proofs.ListLaws.{AreRead}
use Rattle.mpm_fault_lines.proofs.reading.read_slots.Given as goal

abbrev pub invariant-loop-rest : goal.invariant-loop-rest
invariant-loop-rest l = record {
  read : AreRead l.last l.text l.line l.rest l.slots;
  count : l.line + length l.rest ≤ length l.text + 1;
}

abbrev pub decreases-loop-rest : goal.decreases-loop-rest
decreases-loop-rest l = length l.rest
