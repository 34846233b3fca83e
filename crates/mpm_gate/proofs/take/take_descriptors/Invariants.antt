use Rattle.std.proofs.Common.{◌≡◌, ◌+◌, ◌-◌, ◌*◌, length}
use Rattle.mpm_banks.specs.Memory.{byte_at}
use Rattle.mpm_gate.specs.Calls.{with_more, descriptors_from}
use Rattle.mpm_gate.proofs.take.take_descriptors.Given as goal

abbrev pub invariant-loop : goal.invariant-loop
invariant-loop l = record {
  whole : with_more l.call (descriptors_from (byte_at l.banks l.seg) l.address (32 - l.counter))
      ≡ with_more l.initial.call (descriptors_from (byte_at l.banks l.seg) l.first 32);
  size : length l.call.bytes ≡ length l.initial.call.bytes + 18 * l.counter;
}
