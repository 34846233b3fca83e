use Rattle.std.proofs.Common.{sym, subst}
use Rattle.mpm_banks.specs.Memory.{SameSegments}
use Rattle.mpm_banks.specs.MemoryLaws.{same_segments_with_byte, same_segments_both}
use Rattle.mpm_processor.proofs.instruction.tests.place.Goals as goal

pub loop-byte-preserved : goal.loop-byte-preserved
loop-byte-preserved c =
    same_segments_both _ _ _ c.loop-byte.invariant (subst (SameSegments c.loop-byte.banks) (sym c.put.ensures) (same_segments_with_byte c.loop-byte.banks _ _ _))
