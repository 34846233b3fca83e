use Rattle.std.proofs.Common.{rules, arith}
use Rattle.std.proofs.lemmas.Grind.{common_steps}
use Rattle.mpm_render.specs.Outputs.{closing}
use Rattle.mpm_render.proofs.Putting.{writes_none}
use Rattle.mpm_render.proofs.line.Line.close.Goals as goal

pub returns-then-is_empty : goal.returns-then-is_empty
unfolding closing
returns-then-is_empty g c = record {
  text = writes_none g.S.Sink _ _ _ (search rules);
  line = first_of (search rules, grind (arith, common_steps));
  kept = tt;
}
