use Rattle.std.proofs.Common.{◌≡◌, ◌++◌, replicate}
use Rattle.circular_buffer.specs.Buffer.{buffer}
use Rattle.mpm_queues.proofs.store.append_zeros.Given as goal

abbrev pub invariant-loop-zero : goal.invariant-loop-zero
invariant-loop-zero l = l.bytes ≡ buffer (l.initial.bytes.items ++ replicate l._zero 0) l.initial.bytes.capacity
