use Rattle.std.proofs.Common.{ap, ◌∙◌, refl, arith, rules}
use Rattle.mpm_blocks.specs.Geometries.{block_records}
use Rattle.mpm_files.proofs.RecordUnits.{clear_inside}
use Rattle.mpm_files.proofs.WorkingLaws.{works_as}
use Rattle.std.proofs.lemmas.Grind.{common_steps}
use Rattle.mpm_files.proofs.clearing.clear_first.Goals as goal

pub clear-requires-clause-within : goal.clear-requires-clause-within
clear-requires-clause-within g c =
    clear_inside c.args.mounted.now c.disk_of.result c.args.block c.from.result c.block_records.result c.from-2.result c.disk_of.ensures.disk c.from.ensures
    (c.block_records.ensures ∙ ap block_records c.kind.ensures.kind) c.from-2.ensures c.requires.clears c.requires.free

pub returns : goal.returns
returns g c = record {
  puts = first_of (search rules, grind (arith, common_steps));
  works = works_as g.D.Drives 18 c.args.mounted.now c.args.mounted.now c.disk_of.result _ _ _ _ _ _ _ c.disk_of.ensures.disk (record { drive = refl; kind = refl })
      (omega (arith, c.clear.ensures.calls.most)) c.clear.ensures.leaves c.clear.ensures.cause;
}
