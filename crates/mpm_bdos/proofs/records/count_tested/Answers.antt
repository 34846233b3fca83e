use Rattle.std.proofs.Common.{◌∙◌, ◌+◌, sym, ap, arith, rules}
use Rattle.mpm_bdos.specs.Jobs as spec
use Rattle.mpm_locks.proofs.Counting.{one_counted, counted_stop, all_counted}
use Rattle.std.proofs.lemmas.Grind.{common_steps}
use Rattle.mpm_bdos.proofs.records.count_tested.Goals as goal

pub returns-then-is_tested_off : goal.returns-then-is_tested_off
returns-then-is_tested_off c = record {
  value = λ image drive stands.
      counted_stop (spec.is_tested_off drive c.args.opens.now c.args.p c.args.file) c.args.first c.args.count c.loop-k.k (c.loop-k.invariant image drive stands)
      (omega (arith, c.loop-k-test.true))
      (ap (λ k. spec.is_tested_off drive c.args.opens.now c.args.p c.args.file (c.args.first + k)) (sym c.from.ensures)
      ∙ sym (c.is_tested_off.ensures image drive stands) ∙ c.if-is_tested_off.true);
  few = first_of (search rules, grind (arith, common_steps));
}

pub loop-k-preserved : goal.loop-k-preserved
loop-k-preserved c = λ image drive stands.
    one_counted (spec.is_tested_off drive c.args.opens.now c.args.p c.args.file) c.args.first c.args.count c.loop-k.k (c.loop-k.invariant image drive stands)
    (ap (λ k. spec.is_tested_off drive c.args.opens.now c.args.p c.args.file (c.args.first + k)) (sym c.from.ensures)
    ∙ sym (c.is_tested_off.ensures image drive stands) ∙ c.if-is_tested_off.false)

pub returns : goal.returns
returns c = record {
  value = λ image drive stands.
      all_counted (spec.is_tested_off drive c.args.opens.now c.args.p c.args.file) c.args.first c.args.count c.loop-k.k (c.loop-k.invariant image drive stands)
      (omega (arith, c.loop-k-test.false, c.loop-k.auto.k-end));
  few = first_of (search rules, grind (arith, common_steps));
}
