use Rattle.std.proofs.Common.{◌∙◌, ◌++◌, ap, arith}
use Rattle.mpm_generator.specs.Draws.{nth_behind}
use Rattle.mpm_generator.specs.Programs.{block_behind, blocks_behind, code_of}
use Rattle.mpm_generator.proofs.Blocks.{no_number, no_block, numbers_more, blocks_more}
use Rattle.mpm_generator.proofs.programs.put_blocks.Goals as goal

pub loop-block-init : goal.loop-block-init
loop-block-init c = record {
  draws = no_number c.args.draws.now;
  code = no_block c.args.code.now.items c.args.draws.now;
  size = omega arith;
}

pub loop-block-preserved : goal.loop-block-preserved
loop-block-preserved c =
    let n = c.loop-block._block in
    let seed = c.args.draws.now in
    let was = c.loop-block.invariant in
    record {
      draws = c.drawn.ensures.draws ∙ ap (nth_behind 3) was.draws ∙ numbers_more n seed;
      code = c.in_ok-put.ensures.bytes
          ∙ ap (λ code. code ++ code_of c.drawn.result) was.code
          ∙ ap (λ block. (c.args.code.now.items ++ blocks_behind n seed) ++ code_of block) (c.drawn.ensures.block ∙ ap block_behind was.draws)
          ∙ blocks_more c.args.code.now.items n seed;
      size = omega (arith, was.size, c.in_ok-put.ensures.size);
    }
