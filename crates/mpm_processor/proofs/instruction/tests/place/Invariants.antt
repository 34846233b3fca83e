use Rattle.mpm_banks.specs.Memory.{SameSegments}
use Rattle.mpm_processor.proofs.instruction.tests.place.Given as goal

abbrev pub invariant-loop-byte : goal.invariant-loop-byte
invariant-loop-byte l = SameSegments l.initial.banks l.banks
