use Rattle.std.proofs.Common.{◌≡◌, ◌++◌, map, take, drop}
use Rattle.std.specs.Prelude.{bit_xor}
use Rattle.mpm_guard.proofs.encoding.xor_each.Given as goal

abbrev pub invariant-loop-byte : goal.invariant-loop-byte
invariant-loop-byte l = l.bytes ≡ map (λ byte. bit_xor byte l.with) (take l.byte-index l.initial.bytes) ++ drop l.byte-index l.initial.bytes
