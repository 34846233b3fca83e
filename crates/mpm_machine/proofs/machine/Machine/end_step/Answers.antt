use Rattle.std.proofs.Common.{◌≡◌, ◌∙◌, true, is_some, ap, arith}
use Rattle.mpm_kernel.specs.Kernel.{Kernel}
use Rattle.mpm_output.specs.Outside.{DeviceFaults, seen}
use Rattle.mpm_system.specs.declared.system.System.{System}
use Rattle.mpm_machine.specs.declared.machine.Machine.{Machine}
use Rattle.mpm_machine.proofs.EndStepLaws.{ended_sound, ended_made, has_ended_to, serving_stopped, ending_stopped, ends_served, ended_begun, ended_filed, ended_own, ended_turn_steps, ended_whole, ended_nobody_due, ended_no_completions, ended_steps, workless_paid}
use Rattle.mpm_machine.proofs.BehindLaws.{rest_images}
use Rattle.mpm_machine.proofs.CarryingLaws.{keeps_paid, stopped_behind}
use Rattle.mpm_machine.proofs.machine.Machine.end_step.Goals as goal

pub end_all-requires : goal.end_all-requires
end_all-requires g c = record { whole = c.in_default.ensures.may.whole }

-- the sink failed in the disk's step
pub returns-in-Err : goal.returns-in-Err
returns-in-Err g c = record {
  ok = λ disks files stands. tt;
  err = λ disks files stands. serving_stopped c.args.instruction files _ _ c.args.self.now.system (c.in-Err.ensures.err disks files stands);
  stands = λ disks files stands. rest_images c.args.instruction c.args.self.now.system c.args.self.now.bdos c.serve_disk.new.self.bdos disks files c.serve_disk.ensures.leaves.kept stands;
  made = tt;
  ended = tt;
  leaves = c.serve_disk.ensures.leaves;
  ends = c.in-Err.ensures.ends;
}

-- or after it

pub returns-in-Err-end_all : goal.returns-in-Err-end_all
returns-in-Err-end_all g c = record {
  ok = λ disks files stands. tt;
  err = λ disks files stands.
      let m = seen g.S.Sink.written g.S.Sink.faults c.serve_disk.new.render c.serve_disk.new.sink in
      ending_stopped c.args.instruction files _ m _ c.args.self.now.system c.serve_disk.new.self.system c.serve_disk.new.self.bdos disks (c.in_default.ensures.ok disks files stands)
      c.in-Err-end_all.ensures.wrote.err;
  stands = λ disks files stands. rest_images c.args.instruction c.args.self.now.system c.args.self.now.bdos c.serve_disk.new.self.bdos disks files c.serve_disk.ensures.leaves.kept stands;
  made = tt;
  ended = tt;
  leaves = c.serve_disk.ensures.leaves;
  ends =
      record {
        trace = c.in-Err-end_all.ensures.wrote.err.trace ∙ c.serve_disk.ensures.ends.trace;
        cause = stopped_behind _ _ _ _ (seen g.S.Sink.written g.S.Sink.faults c.serve_disk.new.render c.serve_disk.new.sink)
            (seen g.S.Sink.written g.S.Sink.faults c.end_all.new.render c.end_all.new.sink) _ c.in_default.ensures.ends.cause.stays c.in-Err-end_all.ensures.wrote.err;
      };
}

-- all was written

pub pick-requires : goal.pick-requires
pick-requires g c =
    ended_sound c.serve_disk.new.self.system c.end_all.new.system c.pay.new.self.system c.in_default.ensures.may.whole c.in_default-end_all.ensures.system c.pay.ensures.system

pub returns : goal.returns
returns g c =
    let instruction = c.args.instruction in
    let old = c.args.self.now in
    let served = c.serve_disk.new.self in
    let ended = c.end_all.new.system in
    let paid = c.pay.new.self in
    let o = seen g.S.Sink.written g.S.Sink.faults c.args.render.now c.args.sink.now in
    let m = seen g.S.Sink.written g.S.Sink.faults c.serve_disk.new.render c.serve_disk.new.sink in
    let n = seen g.S.Sink.written g.S.Sink.faults c.end_all.new.render c.end_all.new.sink in
    let new : System = record paid.system { kernel = c.pick.new.self } in
    let ends = c.in_default-end_all.ensures.system in
    let wrote = c.in_default-end_all.ensures.wrote.ok in
    let faults : g.S.Sink.faults c.end_all.new.sink ≡ g.S.Sink.faults c.args.sink.now = ap (λ (f : DeviceFaults). f.sink) wrote.faults ∙ c.in_default.ensures.ends.cause.stays in
    let picks = ap (λ (k : Kernel). record paid.system { kernel = k }) c.pick.ensures.kernel in
    let same = λ (some : is_some ended.kernel.disk.served ≡ true). ap (λ (machine : Machine). machine.bdos) (c.pay.ensures.served some) in
    let made = ended_made instruction old.system served.system ended paid.system new c.in_default.ensures.made ends c.pay.ensures.system picks in
    let so = ends_served instruction served.system ended paid.system new c.in_default.ensures.may.whole ends c.pay.ensures.system picks in
    record {
      ok = λ disks files stands.
          has_ended_to instruction files o m n old.system served.system ended paid.system new served.bdos paid.bdos disks (c.in_default.ensures.ok disks files stands) ends wrote
          c.pay.ensures.system picks c.pay.ensures.rest same c.pay.ensures.filing;
      err = λ disks files stands. tt;
      stands = λ disks files stands. tt;
      made = made;
      ended = record {
        due = ended_nobody_due instruction old.system new c.requires.whole made;
        whole = ended_whole instruction old.system new c.requires.whole made;
        no_completions = ended_no_completions instruction old.system new c.requires.completed made;
        count = ended_steps instruction old.system new made;
        calls = record {
          filed = ended_filed instruction served.system new so c.in_default.ensures.may.calls.filed;
          own = ended_own instruction served.system new served.bdos paid.bdos so c.pay.ensures.rest c.in_default.ensures.may.calls.own;
          begun = ended_begun instruction served.system new so c.in_default.ensures.may.calls.begun;
        };
        turn_steps = ended_turn_steps instruction old.system served.system new so c.in_default.ensures.made;
      };
      leaves = record {
        kept = keeps_paid old.bdos served.bdos paid.bdos c.serve_disk.ensures.leaves.kept c.pay.ensures.rest;
        workless = λ none less. workless_paid served.bdos paid.bdos c.pay.ensures.rest (c.serve_disk.ensures.leaves.workless none less);
      };
      ends = record { trace = wrote.trace ∙ c.serve_disk.ensures.ends.trace; cause = record { later = omega (arith, faults); stays = faults; failed = tt } };
    }
