use Rattle.std.proofs.Common.{◌≡◌, take}
use Rattle.mpm_kernel.specs.Columns.{spoke}
use Rattle.mpm_system.proofs.output.move_column.Given as goal

abbrev pub invariant-loop-byte : goal.invariant-loop-byte
invariant-loop-byte l = l.kernel ≡ spoke l.initial.kernel l.console (take l.byte-index l.bytes)
