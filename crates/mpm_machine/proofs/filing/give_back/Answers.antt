use Rattle.std.proofs.Common.{◌∙◌, ap, refl, arith, rules}
use Rattle.std.proofs.lemmas.Grind.{common_steps}
use Rattle.mpm_bdos.specs.Serving.{Kept, filing_of}
use Rattle.mpm_machine.proofs.FilingLaws.{leaves_first, leaves_more, leaves_last}
use Rattle.mpm_machine.proofs.filing.give_back.Goals as goal

pub loop-number-init : goal.loop-number-init
loop-number-init c = record {
  filing = λ drives. leaves_first c.args.owed.now (filing_of c.args.bdos.now drives);
  rest = refl;
}

pub loop-number-preserved : goal.loop-number-preserved
loop-number-preserved c = record {
  filing = λ drives.
      leaves_more c.args.owed.now c.loop-number.number c.owes-gone.result (filing_of c.loop-number.bdos drives)
      (filing_of c.leave_if.new.bdos drives) _ (omega (arith, c.loop-number-test.true)) c.owes-gone.ensures (c.leave_if.ensures.filing drives)
      (c.loop-number.invariant.filing drives);
  rest = c.leave_if.ensures.rest ∙ ap (λ (k : Kept). record k { opens = c.leave_if.new.bdos.opens; marks = c.leave_if.new.bdos.marks; searches = c.leave_if.new.bdos.searches }) c.loop-number.invariant.rest;
}

pub returns : goal.returns
returns c = record {
  filing = λ drives. leaves_last c.args.owed.now c.loop-number.number (filing_of c.loop-number.bdos drives) _ (omega (arith, c.loop-number-test.false))
      (c.loop-number.invariant.filing drives);
  rest = first_of (search rules, grind (arith, common_steps));
}
