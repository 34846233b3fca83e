use Rattle.std.proofs.Common.{rules, ◌∙◌, ℕ, Option, ap, sym, subst}
use Rattle.mpm_procs.specs.Table.{Lives}
use Rattle.mpm_system.specs.declared.system.System.{System}
use Rattle.mpm_system.specs.Whole.{LivesInSystem}
use Rattle.mpm_system.specs.Coming.{counted}
use Rattle.mpm_system.specs.Taking.{asked}
use Rattle.mpm_system.specs.Answering.{popped}
use Rattle.mpm_system.specs.FileCalling.{call_made, made_by}
use Rattle.mpm_system.proofs.WholeLaws.{keeps_call}
use Rattle.mpm_system.proofs.system.System.make_file_call.Goals as goal

pub pop-requires : goal.pop-requires
pop-requires c =
    let old = counted c.args.self.now in
    let here : LivesInSystem c.args.p old = search rules in
    record {
      lives = subst (λ (s : System). Lives s.kernel.dispatcher.procs c.args.p) (sym c.take_call.ensures)
          (keeps_call c.args.p (asked c.args.p c.in-Some.seg old) old here.whole here.lives).lives;
    }

pub returns-in-Some : goal.returns-in-Some
unfolding call_made
returns-in-Some c =
    c.pop.ensures
    ∙ ap (popped c.args.p c.in-Some.seg) c.take_call.ensures
    ∙ ap (λ (home : Option ℕ). made_by home c.args.p (counted c.args.self.now)) (sym (sym c.segment.ensures ∙ c.in-Some.is))
