use Rattle.std.proofs.Common.{◌≡◌, ◌*◌, length}
use Rattle.mpm_xdos.specs.Copies.{segment_descriptors}
use Rattle.mpm_xdos.proofs.copies.segment_descriptors.Given as goal

abbrev pub invariant-loop-seg : goal.invariant-loop-seg
invariant-loop-seg l = record {
  descriptors : l.descriptors.items ≡ segment_descriptors l.seg l.banks;
  size : length l.descriptors.items ≡ 4 * l.seg;
}
