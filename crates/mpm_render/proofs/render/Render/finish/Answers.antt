use Rattle.std.proofs.Common.{◌≡◌, ◌<◌, ◌++◌, [], length, refl, sym, ap, ◌∙◌, ℕ, List, take, subst, arith, rules}
use Rattle.std.proofs.lemmas.Grind.{common_steps}
use Rattle.std.proofs.lemmas.List.{append-nil, get_or_default, get_or-set_other}
use Rattle.mpm_render.specs.Shown.{line_of}
use Rattle.mpm_render.specs.Puts.{PutsEach, texts_closed}
use Rattle.mpm_render.proofs.Putting.{each_none, each_closed, stops_closed, all_texts}
use Rattle.mpm_render.proofs.Closings.{closings, closings_none, none_below, all_stay, written_closed, err_closed, written_more}
use Rattle.mpm_render.proofs.render.Render.finish.Goals as goal

pub loop-place-init : goal.loop-place-init
loop-place-init g c = record {
  written = sym (ap (λ t. g.S.Sink.written c.args.sink.now ++ t) (closings_none (line_of c.args.self.now)) ∙ append-nil (g.S.Sink.written c.args.sink.now));
  puts = each_none g.S.Sink.took (texts_closed c.args.self.now) c.args.sink.now;
  faults = refl;
  trace = ap (λ kept. kept.trace) c.self.view_is;
  below = λ place h. absurd (omega arith);
  above = λ place h. ap (λ kept. line_of kept place) c.self.view_is;
}

pub loop-place-preserved : goal.loop-place-preserved
loop-place-preserved g c =
    let inv = c.loop-place.invariant in
    let place = c.loop-place.place in
    let lines = c.loop-place.self-inside.lines in
    let small : place < 12 = omega arith in
    let twelve : length lines ≡ 12 = search rules in
    let inside : place < length lines = omega arith in
    record {
      written = written_more c.args.self.now _ _ _ place _ (get_or_default lines place c.index-self-place.result [] inside ∙ inv.above place (omega arith)) inv.written c.in_ok-close.ensures.text.ok;
      puts = each_closed g.S.Sink.took c.args.self.now place _ _ _ _ small (get_or_default lines place c.index-self-place.result [] inside ∙ inv.above place (omega arith)) inv.puts c.in_ok-close.ensures.text.puts;
      faults = c.in_ok-close.ensures.text.cause.stays ∙ inv.faults;
      trace = inv.trace;
      below = none_below lines place _ inside c.in_ok-close.ensures.line inv.below;
      above = λ q h. get_or-set_other lines place q _ [] (omega arith) ∙ inv.above q (omega arith);
    }

pub returns-in_err-close : goal.returns-in_err-close
returns-in_err-close g c =
    let inv = c.loop-place.invariant in
    let place = c.loop-place.place in
    let lines = c.loop-place.self-inside.lines in
    let small : place < 12 = omega arith in
    let twelve : length lines ≡ 12 = search rules in
    let inside : place < length lines = omega arith in
    let item = get_or_default lines place c.index-self-place.result [] inside in
    let same = item ∙ inv.above place (omega arith) in
    let stay = all_stay lines place _ inside (c.in_err-close.ensures.kept ∙ item) in
    record {
      ok = λ os first s. first_of (search rules, grind (arith, common_steps));
      err = λ os first s. err_closed c.from_residual.result c.args.self.now _ _ _ first place _ os small same inv.written c.in_err-close.ensures.text.err c.in_err-close.ensures.text.some s;
      puts = first_of (search rules, grind (arith, common_steps));
      stops = stops_closed c.from_residual.result g.S.Sink.took g.S.Sink.dropped c.args.self.now _ place _ _ _ _ small same inv.puts c.in_err-close.ensures.text.some c.in_err-close.ensures.text.drops
          (λ p h. stay p ∙ inv.below p h) (λ p h. stay p ∙ inv.above p h);
      cause = first_of (search rules, grind (arith, common_steps));
      empty = first_of (search rules, grind (arith, common_steps));
      trace = first_of (search rules, grind (arith, common_steps));
    }

pub returns : goal.returns
returns g c =
    let inv = c.loop-place.invariant in
    let all : c.loop-place.place ≡ 12 = omega arith in
    let P : List (List ℕ) → Type 0 = λ texts. PutsEach g.S.Sink.took texts c.args.sink.now c.loop-place.sink in
    record {
      ok = λ os first s. written_closed c.args.self.now _ _ first os (inv.written ∙ ap (λ n. g.S.Sink.written c.args.sink.now ++ closings (line_of c.args.self.now) n) all) s;
      err = λ os first s. tt;
      puts = subst P (ap (λ n. take n (texts_closed c.args.self.now)) all ∙ all_texts c.args.self.now) inv.puts;
      stops = tt;
      cause = first_of (search rules, grind (arith, common_steps));
      empty = λ place h. inv.below place (omega arith);
      trace = inv.trace;
    }
