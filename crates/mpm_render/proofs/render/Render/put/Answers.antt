use Rattle.std.proofs.Common.{◌≡◌, length, refl, rules, arith}
use Rattle.std.proofs.lemmas.Grind.{common_steps}
use Rattle.mpm_render.proofs.Laws.{ok_said, err_said}
use Rattle.mpm_render.proofs.render.Render.put.Goals as goal

pub returns : goal.returns
returns g c =
    let twelve : length c.self.inside.lines ≡ 12 = search rules in
    record {
      shown = record {
        ok = λ os first s.
            ok_said c.put.result (record { lines = c.self.inside.lines; trace = c.self.inside.trace }) _ _ _ first c.args.stream c.args.byte c.place-place.result c.index-self-place.result c.put.new.self os c.requires c.place-place.ensures.place twelve refl c.put.ensures.line refl c.put.ensures.text.ok (rw (← c.self.view_is) at s);
        err = λ os first s.
            rw (← c.self.view_is) (err_said c.put.result (record { lines = c.self.inside.lines; trace = c.self.inside.trace }) _ _ first c.args.stream c.args.byte c.place-place.result c.index-self-place.result os c.requires c.place-place.ensures.place twelve c.put.ensures.text.err c.put.ensures.text.some (rw (← c.self.view_is) at s));
      };
      text = first_of (search rules, grind (arith, common_steps));
      lines = first_of (search rules, grind (arith, common_steps));
      trace = first_of (search rules, grind (arith, common_steps));
    }
