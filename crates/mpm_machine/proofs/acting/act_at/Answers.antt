use Rattle.std.proofs.Common.{◌≡◌, ◌∙◌, Option, Some, None, sym, ap}
use Rattle.mpm_gate.specs.declared.gate.Gate.{Gate}
use Rattle.mpm_gate.specs.declared.gate.Gate.TheVariants.{End, Call, Return}
use Rattle.mpm_system.proofs.WholeLaws.{segment_is_home}
use Rattle.mpm_system.specs.Whole.{silent}
use Rattle.mpm_machine.specs.Step.{acted_at, gate_before, is_no_gate}
use Rattle.mpm_machine.proofs.MakingLaws.{makes_as, makes_silent}
use Rattle.mpm_machine.proofs.acting.act_at.Goals as goal

pub gate-requires : goal.gate-requires
gate-requires g c = record {
  lives = c.requires.lives;
  home = segment_is_home c.args.system.now c.args.p c.args.seg c.requires.whole c.requires.lives c.requires.home;
}

-- at a gate

pub returns-in-Some-End : goal.returns-in-Some-End
returns-in-Some-End g c =
    let old = c.args.system.now in
    let at : Some End ≡ gate_before c.args.p c.args.seg old = ap Some (sym c.in-Some-End.field-0-is) ∙ sym c.in-Some-End.is ∙ c.gate.ensures.gate in
    record {
      done = makes_as _ _ (ap (λ (here : Option Gate). acted_at here c.args.p c.args.seg old) at) (makes_silent _ _ _ _ _ _ _ (ap silent (sym c.end.ensures)));
      instruction = ap is_no_gate at;
    }

pub returns-in-Some-Return : goal.returns-in-Some-Return
returns-in-Some-Return g c =
    let old = c.args.system.now in
    let at : Some Return ≡ gate_before c.args.p c.args.seg old = ap Some (sym c.in-Some-Return.field-0-is) ∙ sym c.in-Some-Return.is ∙ c.gate.ensures.gate in
    record {
      done = makes_as _ _ (ap (λ (here : Option Gate). acted_at here c.args.p c.args.seg old) at) (makes_silent _ _ _ _ _ _ _ (ap silent (sym c.leave_procedure.ensures)));
      instruction = ap is_no_gate at;
    }

pub returns-in_ok-call-in-Some-Call : goal.returns-in_ok-call-in-Some-Call
returns-in_ok-call-in-Some-Call g c =
    let old = c.args.system.now in
    let at : Some Call ≡ gate_before c.args.p c.args.seg old = ap Some (sym c.in-Some-Call.field-0-is) ∙ sym c.in-Some-Call.is ∙ c.gate.ensures.gate in
    let made = c.in_ok-call-in-Some-Call.ensures in
    record {
      done = makes_as _ _ (ap (λ (here : Option Gate). acted_at here c.args.p c.args.seg old) at) (record { system = made.system; wrote = record { ok = made.wrote.ok; err = tt } });
      instruction = ap is_no_gate at;
    }

-- at none

pub returns-in_ok-execute-in-None : goal.returns-in_ok-execute-in-None
returns-in_ok-execute-in-None g c =
    let old = c.args.system.now in
    let at : None ≡ gate_before c.args.p c.args.seg old = sym c.in-None.is ∙ c.gate.ensures.gate in
    let made = c.in_ok-execute-in-None.ensures in
    record {
      done = makes_as _ _ (ap (λ (here : Option Gate). acted_at here c.args.p c.args.seg old) at) (record { system = made.system; wrote = record { ok = made.wrote.ok; err = tt } });
      instruction = ap is_no_gate at;
    }
