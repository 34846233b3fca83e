use Rattle.std.proofs.Common.{◌∙◌, arith}
use Rattle.mpm_blocks.proofs.UsedTo.{used_none, used_more}
use Rattle.mpm_blocks.proofs.blocks.used_below.Goals as goal

pub loop-block-init : goal.loop-block-init
loop-block-init c = record { items = c.new-used.ensures.items ∙ used_none _; size = c.new-used.ensures.len }

pub loop-block-preserved : goal.loop-block-preserved
loop-block-preserved c = record {
  items = used_more _ _ _ _ c.loop-block.invariant.items c.in_ok-push.ensures.items;
  size = omega (arith, c.in_ok-push.ensures.len);
}
