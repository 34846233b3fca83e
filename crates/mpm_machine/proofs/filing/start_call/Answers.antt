use Rattle.std.proofs.Common.{◌≤◌, refl, sym, subst, ◌≡◌, true, rules, arith}
use Rattle.std.proofs.lemmas.Grind.{common_steps}
use Rattle.mpm_procs.specs.declared.process.Process.{Process}
use Rattle.mpm_bdos.specs.Serving.{filing_of}
use Rattle.mpm_machine.proofs.FilingLaws.{turns_are, serves_at_entry, entered_as}
use Rattle.mpm_machine.proofs.filing.start_call.Goals as goal
use Rattle.std.specs.Prelude.{is_some}
use Rattle.mpm_base.specs.Calls.{Taken}
use Rattle.mpm_file_functions.specs.Functions.{function_of}

pub looked_at-caller-requires : goal.looked_at-caller-requires
looked_at-caller-requires c = record {
  some = subst (λ (one : Process). 1 ≤ one.multi) (sym c.living.ensures) (c.requires.living.whole.sound.fit c.args.p c.requires.living.lives).some;
  few = subst (λ (one : Process). one.multi ≤ 16) (sym c.living.ensures) (c.requires.living.whole.sound.fit c.args.p c.requires.living.lives).few;
}

pub start-requires-clause-file : goal.start-requires-clause-file
start-requires-clause-file c = subst (λ (call : Taken). is_some (function_of call.function) ≡ true) (sym c.kept_call.ensures) c.requires.function

pub returns : goal.returns
returns c = record {
  starts = record {
    turns_are = λ images drives function is stand.
        turns_are images (filing_of c.args.bdos.now drives) c.args.p c.args.system.now c.args.bdos.now function c.looked_at-caller.result c.living.result.now c.kept_call.result.now c.now.result c.start.result
        c.looked_at-caller.ensures.process c.living.ensures c.kept_call.ensures c.now.ensures.moment is refl stand c.start.ensures.turns;
    serves = λ images drives function is stand.
        serves_at_entry images drives c.args.p c.args.system.now c.args.bdos.now c.start.new.self function c.looked_at-caller.result c.living.result.now c.kept_call.result.now c.now.result
        c.looked_at-caller.ensures.process c.living.ensures c.kept_call.ensures c.now.ensures.moment is stand c.start.ensures.serves;
    entered = λ function is.
        entered_as c.args.p c.looked_at-caller.result c.living.result.now c.kept_call.result.now c.args.system.now c.start.new.self.service function
        c.looked_at-caller.ensures.process c.living.ensures c.kept_call.ensures is c.start.ensures.entered;
    some = c.start.ensures.some;
  };
  workless = first_of (search rules, grind (arith, common_steps));
  kept = first_of (search rules, grind (arith, common_steps));
}
