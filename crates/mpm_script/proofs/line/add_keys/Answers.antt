use Rattle.std.proofs.Common.{◌≡◌, ◌∙◌, ◌<◌, ◌-◌, length, None, sym, ap, arith}
use Rattle.std.proofs.lemmas.Grind.{common_steps}
use Rattle.std.proofs.lemmas.Bool.Decides.{nat_tests}
use Rattle.mpm_script.specs.Keys.{key_of}
use Rattle.mpm_script.proofs.Finds.{onto_none, nothing_from}
use Rattle.mpm_script.proofs.KeyLaws.{keys_onto, keys_end, keys_over, keys_bad, keys_more}
use Rattle.mpm_script.proofs.line.add_keys.Goals as goal

pub returns-then-most-eq0 : goal.returns-then-most-eq0
returns-then-most-eq0 c =
    let some : 0 < length c.loop-rest.rest.now = grind (arith, nat_tests, common_steps) in
    onto_none c.args.events.now.items _ (c.loop-rest.invariant.keys ∙ keys_over _ _ _ _ c.loop-rest.rest.now some c.if-most-eq0.true)

pub returns-in_default : goal.returns-in_default
returns-in_default c =
    let some : 0 < length c.loop-rest.rest.now = grind (arith, nat_tests, common_steps) in
    let none : key_of c.loop-rest.rest.now ≡ None = nothing_from _ c.key.result _ c.key.ensures.key c.in_default.not-Some in
    onto_none c.args.events.now.items _ (c.loop-rest.invariant.keys ∙ keys_bad _ _ _ c.loop-rest.most c.loop-rest.rest.now some none)

pub loop-rest-preserved : goal.loop-rest-preserved
loop-rest-preserved c =
    let some : 0 < length c.loop-rest.rest.now = grind (arith, nat_tests, common_steps) in
    let left : 0 < c.loop-rest.most = grind (arith, nat_tests) in
    record {
      keys = c.loop-rest.invariant.keys ∙ keys_more _ _ _ c.loop-rest.most c.loop-rest.rest.now c.in-Some.byte c.in-Some.others.now some left (sym c.in-Some.ensures.key)
          ∙ ap (λ items. keys_onto items c.args.step c.args.console (c.loop-rest.most - 1) c.in-Some.others.now) (sym c.in_ok-push.ensures.items);
      most = omega (arith, c.loop-rest.invariant.most);
    }

pub returns : goal.returns
returns c =
    let none : length c.loop-rest.rest.now ≡ 0 = grind (arith, nat_tests, common_steps) in
    c.loop-rest.invariant.keys ∙ keys_end _ _ _ c.loop-rest.most c.loop-rest.rest.now none
