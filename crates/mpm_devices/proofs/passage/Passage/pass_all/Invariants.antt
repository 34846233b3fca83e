use Rattle.std.proofs.Common.{◌≡◌, ◌++◌, take}
use Rattle.mpm_devices.proofs.passage.Passage.pass_all.Given as goal

abbrev pub invariant-loop-byte : goal.invariant-loop-byte
invariant-loop-byte l = record { self : l.self ≡ l.initial.self ++ take l.byte-index l.bytes }
