use Rattle.std.proofs.Common.{◌≡◌, take}
use Rattle.mpm_kernel.specs.Columns.{spoke}
use Rattle.mpm_kernel.proofs.kernel.Kernel.speak.Given as goal

abbrev pub invariant-loop-byte : goal.invariant-loop-byte
invariant-loop-byte l = l.self ≡ spoke l.initial.self l.console (take l.byte-index l.bytes)
