use Rattle.std.proofs.Common.{◌≡◌, not}
use Rattle.std.specs.List.{range_with_len, list_any}
use Rattle.mpm_mount.specs.Using.{ClaimsTo, clashes}
use Rattle.mpm_mount.proofs.blocks.claim_all.Given as goal

abbrev pub invariant-loop-place : goal.invariant-loop-place
invariant-loop-place l = record {
  claims : ClaimsTo l.file l.place l.initial.blocks l.blocks;
  answer : l.are_free ≡ not (list_any (clashes l.initial.blocks l.file) (range_with_len 0 l.place));
}
