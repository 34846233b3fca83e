use Rattle.std.proofs.Common.{◌≡◌, length}
use Rattle.mpm_fault_lines.specs.Lists.{listed}
use Rattle.mpm_repair.specs.Freeing.{freed}
use Rattle.mpm_repair.proofs.freeing.free_entries.Given as goal

abbrev pub invariant-loop-slot : goal.invariant-loop-slot
invariant-loop-slot l = record {
  freed : l.entries ≡ freed (listed l.slots l.slot) l.fn.entries;
  count : l.count ≡ length (listed l.slots l.slot);
}
