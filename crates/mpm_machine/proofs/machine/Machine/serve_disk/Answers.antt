use Rattle.std.proofs.Common.{◌∙◌, ap}
use Rattle.mpm_system.specs.declared.system.System.{System}
use Rattle.mpm_machine.specs.declared.machine.Machine.{Machine}
use Rattle.mpm_machine.specs.DiskStep.{files_served}
use Rattle.mpm_machine.proofs.EnterLaws.{paid_whole, paid_begun, paid_filed, paid_own, entered_behind, has_served_to, served_made, served_filed}
use Rattle.mpm_machine.proofs.EndStepLaws.{served_nobody, keeps_then, keeps_entered, keeps_none, workless_paid}
use Rattle.mpm_machine.proofs.CarryingLaws.{keeps_paid}
use Rattle.mpm_machine.proofs.machine.Machine.serve_disk.Goals as goal

pub enter_call-requires : goal.enter_call-requires
unfolding Rattle.mpm_machine.specs.DiskStep.all_paid
enter_call-requires g c =
    let passed = c.pass_turn.new.self in
    let paid = c.pay.new.self in
    let may = c.in_default.ensures.may in
    let pays = c.pay.ensures.system in
    record {
      whole = paid_whole passed.system paid.system pays may.whole;
      completed = ap (λ (s : System). s.kernel.dispatcher.completed) pays ∙ may.completed;
      calls = record {
        filed = paid_filed passed.system paid.system pays may.calls.filed;
        own = paid_own passed.system paid.system passed.bdos paid.bdos pays c.pay.ensures.rest may.calls.own;
        begun = paid_begun passed.system paid.system pays may.calls.begun;
      };
    }

pub returns-in-Err : goal.returns-in-Err
returns-in-Err g c =
    let failed = c.in-Err.ensures in
    record { ok = λ disks files stands. tt; err = failed.err; made = tt; may = tt; leaves = failed.leaves; ends = failed.ends }

pub returns : goal.returns
returns g c =
    let made = served_made c.args.self.now.system c.pass_turn.new.self.system c.pay.new.self.system c.enter_call.new.self.system c.in_default.ensures.made c.pay.ensures.system c.enter_call.ensures.made in
    record {
      ok = λ disks files stands.
          let so = c.in_default.ensures.ok disks files stands in
          let old = c.args.self.now.system in
          let passed = c.pass_turn.new.self in
          let paid = c.pay.new.self in
          let new = c.enter_call.new.self in
          has_served_to files _ _ old passed.system new.system new.bdos disks so.0 so.1
          (entered_behind passed.system paid.system new.system passed.bdos paid.bdos new.bdos disks (files_served old files) c.pay.ensures.system so.2 c.pay.ensures.rest
          (λ some. ap (λ (machine : Machine). machine.bdos) (c.pay.ensures.served some)) c.pay.ensures.filing (λ found there. c.enter_call.ensures.ok disks found there));
      err = λ disks files stands. tt;
      made = made;
      may =
          let old = c.args.self.now.system in
          let new = c.enter_call.new.self.system in
          let may = c.requires in
          record {
            whole = c.enter_call.ensures.whole;
            completed = served_nobody old new may.completed made;
            calls = record { filed = served_filed old new may.whole may.calls.filed made; own = c.enter_call.ensures.own; begun = c.enter_call.ensures.begun };
          };
      leaves =
          let old = c.args.self.now.bdos in
          let passed = c.pass_turn.new.self.bdos in
          let paid = c.pay.new.self.bdos in
          let new = c.enter_call.new.self.bdos in
          let first = c.pass_turn.ensures.leaves in
          let kept = keeps_paid old passed paid first.kept c.pay.ensures.rest in
          record {
            kept = keeps_then old paid new kept (keeps_entered paid new c.enter_call.ensures.kept);
            workless = λ none less. c.enter_call.ensures.workless (keeps_none old paid kept none) (workless_paid passed paid c.pay.ensures.rest (first.workless none less));
          };
      ends = record { trace = c.in_default.ensures.ends.trace; cause = record { later = c.in_default.ensures.ends.cause.later; stays = c.in_default.ensures.ends.cause.stays; failed = tt } };
    }
