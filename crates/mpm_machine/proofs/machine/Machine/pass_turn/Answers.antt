use Rattle.std.proofs.Common.{rules, ◌≡◌, ◌∙◌, ◌<◌, OnOk, OnErr, refl, sym, ap, subst}
use Rattle.mpm_service.specs.Disk.{served_process}
use Rattle.mpm_service.specs.declared.service.Served.{Served}
use Rattle.mpm_kernel.specs.Kernel.{Kernel}
use Rattle.mpm_output.specs.Outside.{seen}
use Rattle.mpm_output.specs.Writing.{CameOut, Stopped}
use Rattle.mpm_bdos.specs.Outcomes.{file_call}
use Rattle.mpm_bdos.specs.Turns.{has_work}
use Rattle.mpm_system.specs.declared.system.System.{System}
use Rattle.mpm_system.specs.Whole.{IsWhole}
use Rattle.mpm_machine.specs.Files.{StandsBetween}
use Rattle.mpm_machine.specs.Holding.{IsOwnCall}
use Rattle.mpm_machine.specs.DiskStep.{told_of_call, call_over}
use Rattle.mpm_machine.proofs.DiskStepLaws.{whole_passed}
use Rattle.mpm_machine.proofs.EnterLaws.{nothing_passes, none_made, passed_filed, filed_if_passed}
use Rattle.mpm_machine.proofs.ServeLaws.{IsOverFrom, over_made, passed_is, works_last, works_on, never_on, none_behind, pass_over, pass_stops, nobody_behind, none_holds, passes_so, passed_made, begun_so, own_so}
use Rattle.mpm_machine.proofs.WorkLaws.{nobody_served, somebody_served, is_held}
use Rattle.mpm_machine.proofs.PartsLaws.{may_end, ends_still}
use Rattle.mpm_machine.proofs.machine.Machine.pass_turn.Goals as goal

-- nobody is served
pub returns-then-is_none : goal.returns-then-is_none
returns-then-is_none g c = record {
  ok = λ disks files stands.
      let old = c.args.self.now.system in
      let none = (nobody_served old.kernel.disk c.serving.result c.is_none.result (c.serving.ensures.served ∙ ap served_process c.disk.ensures) c.is_none.ensures c.if-is_none.true) in
      nothing_passes files _ old c.args.self.now.bdos disks none stands;
  err = λ disks files stands. tt;
  made =
      let old = c.args.self.now.system in
      none_made old (nobody_served old.kernel.disk c.serving.result c.is_none.result (c.serving.ensures.served ∙ ap served_process c.disk.ensures) c.is_none.ensures c.if-is_none.true);
  may = record { whole = c.requires.whole; completed = c.requires.completed; calls = c.requires.calls };
  leaves = record { kept = refl; workless = λ none less. less };
  ends = ends_still _ _ _;
}

pub turn_disk-requires : goal.turn_disk-requires
turn_disk-requires g c = record { sound = c.requires.whole.sound; begun = c.requires.calls.begun }

-- its turn was the last

pub answer_call-requires : goal.answer_call-requires
answer_call-requires g c = record {
  whole = subst IsWhole (sym (passed_is c.args.self.now.system c.turn_disk.new.self c.turn_disk.ensures.kernel)) (whole_passed c.args.self.now.system c.requires.whole);
  over = search rules;
  room = c.requires.room;
  held =
      let old = c.args.self.now.system in
      is_held old.kernel c.args.self.now.bdos.service
      (somebody_served old.kernel.disk c.serving.result c.is_none.result (c.serving.ensures.served ∙ ap served_process c.disk.ensures) c.is_none.ensures c.if-is_none.false)
      c.requires.calls.own;
}

pub returns-then-last : goal.returns-then-last
returns-then-last g c =
    let made =
    let old = c.args.self.now.system in
    let works = works_last old.kernel.disk c.turn_disk.result c.in-Work.p c.in-Work.last c.turn_disk.ensures.answer c.in-Work.is c.if-last.true in
    over_made c.answer_call.result c.in-Work.p old c.answer_call.new.self.system works
    (subst (λ (passed : System). OnOk c.answer_call.result (IsOverFrom c.in-Work.p passed c.answer_call.new.self.system))
    (passed_is old c.turn_disk.new.self c.turn_disk.ensures.kernel) c.answer_call.ensures.made) in
    record {
      ok = λ disks files stands.
          let old = c.args.self.now.system in
          let works = works_last old.kernel.disk c.turn_disk.result c.in-Work.p c.in-Work.last c.turn_disk.ensures.answer c.in-Work.is c.if-last.true in
          let p = c.in-Work.p in
          let o = seen g.S.Sink.written g.S.Sink.faults c.args.render.now c.args.sink.now in
          let n = seen g.S.Sink.written g.S.Sink.faults c.answer_call.new.render c.answer_call.new.sink in
          let new = c.answer_call.new.self in
          pass_over c.answer_call.result files p o n old new.system c.args.self.now.bdos new.bdos disks works (none_behind old.kernel.disk p works) stands
          (λ s serves whose. subst (λ (passed : System). OnOk c.answer_call.result ((new.system ≡ (call_over (told_of_call s p passed) p passed).system)
          × CameOut o n (call_over (told_of_call s p passed) p passed).emitted × StandsBetween new.bdos disks (file_call s).filing))
          (passed_is old c.turn_disk.new.self c.turn_disk.ensures.kernel) (c.answer_call.ensures.ok disks s serves whose));
      err = λ disks files stands.
          let old = c.args.self.now.system in
          let works = works_last old.kernel.disk c.turn_disk.result c.in-Work.p c.in-Work.last c.turn_disk.ensures.answer c.in-Work.is c.if-last.true in
          let p = c.in-Work.p in
          let o = seen g.S.Sink.written g.S.Sink.faults c.args.render.now c.args.sink.now in
          let n = seen g.S.Sink.written g.S.Sink.faults c.answer_call.new.render c.answer_call.new.sink in
          pass_stops c.answer_call.result files p o n old c.args.self.now.bdos disks works stands
          (λ s serves whose. subst (λ (passed : System). OnErr c.answer_call.result (Stopped o n (call_over (told_of_call s p passed) p passed).emitted))
          (passed_is old c.turn_disk.new.self c.turn_disk.ensures.kernel) (c.answer_call.ensures.err disks s serves whose));
      made = made;
      may =
          let old = c.args.self.now.system in
          let works = works_last old.kernel.disk c.turn_disk.result c.in-Work.p c.in-Work.last c.turn_disk.ensures.answer c.in-Work.is c.if-last.true in
          let new = c.answer_call.new.self in
          let result = c.answer_call.result in
          let nobody =
          nobody_behind result c.in-Work.p old new.system works
          (subst (λ (passed : System). OnOk result (IsOverFrom c.in-Work.p passed new.system)) (passed_is old c.turn_disk.new.self c.turn_disk.ensures.kernel) c.answer_call.ensures.made) in
          may_end result new c.answer_call.ensures.whole c.answer_call.ensures.completed
          (filed_if_passed result old new.system c.requires.whole c.requires.calls.filed made)
          (none_holds result (λ (call : Served). IsOwnCall new.system.kernel.dispatcher.procs call.p new.bdos.service) new.system.kernel.disk nobody)
          (none_holds result (λ (call : Served). 0 < call.left) new.system.kernel.disk nobody);
      leaves = record { kept = c.answer_call.ensures.kept; workless = λ none less. ap has_work c.answer_call.ensures.idle };
      ends = c.answer_call.ensures.ends;
    }

-- it isn't the last

pub returns-else-last : goal.returns-else-last
returns-else-last g c =
    let made =
    let old = c.args.self.now.system in
    let some = somebody_served old.kernel.disk c.serving.result c.is_none.result (c.serving.ensures.served ∙ ap served_process c.disk.ensures) c.is_none.ensures c.if-is_none.false in
    let more = works_on old.kernel.disk c.turn_disk.result c.in-Work.p c.in-Work.last c.turn_disk.ensures.answer c.in-Work.is c.if-last.false in
    passed_made old c.turn_disk.new.self c.turn_disk.ensures.kernel some more in
    record {
      ok = λ disks files stands.
          let old = c.args.self.now.system in
          let some = somebody_served old.kernel.disk c.serving.result c.is_none.result (c.serving.ensures.served ∙ ap served_process c.disk.ensures) c.is_none.ensures c.if-is_none.false in
          let more = works_on old.kernel.disk c.turn_disk.result c.in-Work.p c.in-Work.last c.turn_disk.ensures.answer c.in-Work.is c.if-last.false in
          passes_so files _ old c.turn_disk.new.self c.args.self.now.bdos disks c.turn_disk.ensures.kernel some more stands;
      err = λ disks files stands. tt;
      made = made;
      may =
          let old = c.args.self.now.system in
          let some = somebody_served old.kernel.disk c.serving.result c.is_none.result (c.serving.ensures.served ∙ ap served_process c.disk.ensures) c.is_none.ensures c.if-is_none.false in
          let may = c.requires in
          record {
            whole = subst IsWhole (sym (passed_is old c.turn_disk.new.self c.turn_disk.ensures.kernel)) (whole_passed old may.whole);
            completed = ap (λ (k : Kernel). k.dispatcher.completed) c.turn_disk.ensures.kernel ∙ may.completed;
            calls = record {
              filed = passed_filed old _ may.whole may.calls.filed made;
              own = own_so old.kernel c.turn_disk.new.self c.args.self.now.bdos.service c.turn_disk.ensures.kernel some may.calls.own;
              begun = begun_so old.kernel.disk c.turn_disk.new.self.disk c.turn_disk.result some c.turn_disk.ensures.answer c.turn_disk.ensures.after;
            };
          };
      leaves = record { kept = refl; workless = λ none less. less };
      ends = ends_still _ _ _;
    }

pub returns-in_default : goal.returns-in_default
returns-in_default g c =
    let old = c.args.self.now.system in
    let some = somebody_served old.kernel.disk c.serving.result c.is_none.result (c.serving.ensures.served ∙ ap served_process c.disk.ensures) c.is_none.ensures c.if-is_none.false in
    let more = never_on old.kernel.disk c.turn_disk.result c.turn_disk.ensures.answer c.in_default.not-Work in
    let made = passed_made old c.turn_disk.new.self c.turn_disk.ensures.kernel some more in
    record {
      ok = λ disks files stands. passes_so files _ old c.turn_disk.new.self c.args.self.now.bdos disks c.turn_disk.ensures.kernel some more stands;
      err = λ disks files stands. tt;
      made = made;
      may = record {
        whole = subst IsWhole (sym (passed_is old c.turn_disk.new.self c.turn_disk.ensures.kernel)) (whole_passed old c.requires.whole);
        completed = ap (λ (k : Kernel). k.dispatcher.completed) c.turn_disk.ensures.kernel ∙ c.requires.completed;
        calls = record {
          filed = passed_filed old _ c.requires.whole c.requires.calls.filed made;
          own = own_so old.kernel c.turn_disk.new.self c.args.self.now.bdos.service c.turn_disk.ensures.kernel some c.requires.calls.own;
          begun = begun_so old.kernel.disk c.turn_disk.new.self.disk c.turn_disk.result some c.turn_disk.ensures.answer c.turn_disk.ensures.after;
        };
      };
      leaves = record { kept = refl; workless = λ none less. less };
      ends = ends_still _ _ _;
    }
