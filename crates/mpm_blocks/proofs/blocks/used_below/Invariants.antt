use Rattle.std.proofs.Common.{◌≡◌, vec_len}
use Rattle.mpm_blocks.specs.Maps.{used_to}
use Rattle.mpm_blocks.proofs.blocks.used_below.Given as goal

abbrev pub invariant-loop-block : goal.invariant-loop-block
invariant-loop-block l = record {
  items : l.used.items ≡ used_to l.bound l.block;
  size : vec_len l.used ≡ l.block;
}
