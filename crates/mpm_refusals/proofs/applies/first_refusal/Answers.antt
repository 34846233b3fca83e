use Rattle.std.proofs.Common.{◌≡◌, ◌∙◌, ◌+◌, suc, Some, cond, get_or, drop, sym, ap, arith}
use Rattle.std.specs.Prelude.{find}
use Rattle.mpm_file_functions.specs.declared.refusals.Refusal.TheVariants.{NotMounted}
use Rattle.mpm_refusals.specs.Asking.{asks}
use Rattle.mpm_refusals.proofs.Firsts.{found_next, none_behind}
use Rattle.mpm_refusals.proofs.applies.first_refusal.Goals as goal

pub returns-then-applies : goal.returns-then-applies
returns-then-applies c = λ image drive stands.
    let test = asks drive c.args.opens.now c.args.marks.now c.args.asked.now in
    let refusals = c.args.refusals.now in
    let place = c.loop-place.place in
    sym (c.loop-place.invariant image drive stands
    ∙ found_next test refusals place NotMounted c.loop-place-test.true
    ∙ ap (λ b. cond b (Some (get_or refusals place NotMounted)) (find test (drop (suc place) refusals))) (sym (c.applies.ensures image drive stands) ∙ c.if-applies.true))

pub loop-place-preserved : goal.loop-place-preserved
loop-place-preserved c = λ image drive stands.
    let test = asks drive c.args.opens.now c.args.marks.now c.args.asked.now in
    let refusals = c.args.refusals.now in
    let place = c.loop-place.place in
    let more : suc place ≡ place + 1 = omega arith in
    c.loop-place.invariant image drive stands
    ∙ found_next test refusals place NotMounted c.loop-place-test.true
    ∙ ap (λ b. cond b (Some (get_or refusals place NotMounted)) (find test (drop (suc place) refusals))) (sym (c.applies.ensures image drive stands) ∙ c.if-applies.false)
    ∙ ap (λ k. find test (drop k refusals)) more

pub returns : goal.returns
returns c = λ image drive stands.
    let test = asks drive c.args.opens.now c.args.marks.now c.args.asked.now in
    sym (c.loop-place.invariant image drive stands ∙ none_behind test c.args.refusals.now c.loop-place.place c.loop-place-test.false)
