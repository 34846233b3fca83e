use Rattle.std.proofs.Common.{[], refl}
use Rattle.mpm_render.proofs.Laws.{shows_none}
use Rattle.mpm_render.proofs.render.Render.new.Goals as goal

pub returns : goal.returns
returns c = record {
  fresh = λ written. shows_none _ written (λ place h. c.default.ensures.at place [] h);
  trace = refl;
}
