use Rattle.std.proofs.Common.{rules}
use Rattle.mpm_render.specs.Lines.{text_with, line_with}
use Rattle.mpm_render.proofs.Putting.{writes_none}
use Rattle.mpm_render.proofs.line.Line.put.Goals as goal

pub returns-else-len-eq199 : goal.returns-else-len-eq199
unfolding text_with line_with
returns-else-len-eq199 g c = record {
  text = writes_none g.S.Sink _ _ _ (search rules);
  line = search rules;
  kept = tt;
}
