use Rattle.std.proofs.Common.{◌≡◌, ◌+◌, ◌*◌, ◌≤◌, ◌++◌, length}
use Rattle.mpm_generator.specs.Draws.{nth_behind}
use Rattle.mpm_generator.specs.Programs.{blocks_behind}
use Rattle.mpm_generator.proofs.programs.put_blocks.Given as goal

abbrev pub invariant-loop-block : goal.invariant-loop-block
invariant-loop-block l = record {
  draws : l.draws ≡ nth_behind (3 * l._block) l.initial.draws;
  code : l.code.items ≡ l.initial.code.items ++ blocks_behind l._block l.initial.draws;
  size : length l.code.items ≤ length l.initial.code.items + 23 * l._block;
}
