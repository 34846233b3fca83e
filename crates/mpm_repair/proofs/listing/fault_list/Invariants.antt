use Rattle.std.proofs.Common.{◌≡◌, ◌++◌, drop}
use Rattle.std.specs.List.{filter_map, range_with_len}
use Rattle.mpm_repair.specs.FaultLists.{fault_in, staying}
use Rattle.mpm_repair.proofs.listing.fault_list.Given as goal

abbrev pub invariant-loop-slot : goal.invariant-loop-slot
invariant-loop-slot l = record {
  entries : l.entries ≡ staying l.kind l.fn.entries l.slot ++ drop l.slot l.fn.entries;
  faults : l.faults.items ≡ filter_map (fault_in l.kind l.fn.entries) (range_with_len 0 l.slot);
}
