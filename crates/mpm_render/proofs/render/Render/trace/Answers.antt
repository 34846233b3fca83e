use Rattle.std.proofs.Common.{rules, arith}
use Rattle.std.proofs.lemmas.Grind.{common_steps}
use Rattle.mpm_render.proofs.Laws.{ok_completed, err_completed, pending_completed, rendered_unasked}
use Rattle.mpm_render.proofs.Putting.{writes_none}
use Rattle.mpm_render.proofs.render.Render.trace.Goals as goal

pub returns-then-not-self : goal.returns-then-not-self
returns-then-not-self g c = record {
  shown = first_of (search (rules, pending_completed, rendered_unasked), grind (arith, common_steps, pending_completed, rendered_unasked));
  text = writes_none g.S.Sink _ _ _ (search rules);
  lines = search rules;
}

pub returns : goal.returns
returns g c = record {
  shown = record {
    ok = λ os first s. ok_completed c.write_record.result _ _ _ first _ _ os (search rules) c.write_record.ensures.ok s;
    err = λ os first s. err_completed c.write_record.result _ _ _ first _ _ os (search rules) c.write_record.ensures.err c.write_record.ensures.some s;
  };
  text = search rules;
  lines = search rules;
}
