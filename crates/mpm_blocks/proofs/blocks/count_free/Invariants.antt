use Rattle.std.proofs.Common.{◌≡◌, ◌≤◌, take, not}
use Rattle.std.specs.Prelude.{count_by}
use Rattle.mpm_blocks.proofs.blocks.count_free.Given as goal

abbrev pub invariant-loop-is_used : goal.invariant-loop-is_used
invariant-loop-is_used l = record {
  counted : l.count ≡ count_by not (take l.is_used-index l.used);
  few : l.count ≤ l.is_used-index;
}
