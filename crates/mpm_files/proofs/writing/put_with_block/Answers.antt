use Rattle.std.proofs.Common.{refl, rules, arith}
use Rattle.mpm_files.proofs.RecordUnits.{free_small, block_calls_few}
use Rattle.mpm_files.proofs.WorkingLaws.{works_as}
use Rattle.std.proofs.lemmas.Grind.{common_steps}
use Rattle.mpm_files.proofs.writing.put_with_block.Goals as goal

pub put_block-requires-clause-block : goal.put_block-requires-clause-block
put_block-requires-clause-block g c = free_small c.args.mounted.now c.disk_of.result c.args.block.number c.disk_of.ensures.disk c.requires.free

pub returns : goal.returns
returns g c = record {
  puts = first_of (search rules, grind (arith, common_steps));
  long = first_of (search rules, grind (arith, common_steps));
  works = works_as g.D.Drives 16 c.args.mounted.now c.args.mounted.now c.disk_of.result _ _ _ _ _ _ _ c.disk_of.ensures.disk (record { drive = refl; kind = refl })
      (block_calls_few c.args.mounted.now c.disk_of.result c.args.block.clear c.args.index c.args.steps.now c.put_block.new.steps c.disk_of.ensures.disk c.requires.few c.put_block.ensures.calls.most)
      c.put_block.ensures.leaves c.put_block.ensures.cause;
}
