use Rattle.std.proofs.Common.{◌≡◌, ◌∙◌, Bool, IfOk, sym, subst}
use Rattle.mpm_machine.proofs.ActingLaws.{acted_inside, acted_outside, instruction_inside, instruction_outside}
use Rattle.mpm_machine.proofs.MakingLaws.{makes_as}
use Rattle.mpm_machine.proofs.acting.act.Goals as goal

pub returns-in-Some-segment : goal.returns-in-Some-segment
returns-in-Some-segment g c = record {
  done = makes_as _ _
      (sym (acted_inside c.in-Some.p c.in-Some-segment.seg c.args.system.now (sym c.running.ensures ∙ c.in-Some.is) (sym c.segment.ensures ∙ c.in-Some-segment.is)))
      c.act_at.ensures.done;
  instruction = subst (λ (b : Bool). IfOk c.act_at.result (λ instruction. instruction ≡ b))
      (sym (instruction_inside c.in-Some.p c.in-Some-segment.seg c.args.system.now (sym c.running.ensures ∙ c.in-Some.is) (sym c.segment.ensures ∙ c.in-Some-segment.is)))
      c.act_at.ensures.instruction;
}

pub returns-in_ok-reside-in-None : goal.returns-in_ok-reside-in-None
returns-in_ok-reside-in-None g c =
    let running = sym c.running.ensures ∙ c.in-Some.is in
    let none = sym c.segment.ensures ∙ c.in-None.is in
    let made = c.in_ok-reside-in-None.ensures in
    record {
      done = makes_as _ _ (sym (acted_outside c.in-Some.p c.args.system.now running none)) (record { system = made.system; wrote = record { ok = made.wrote.ok; err = tt } });
      instruction = sym (instruction_outside c.in-Some.p c.args.system.now running none);
    }
