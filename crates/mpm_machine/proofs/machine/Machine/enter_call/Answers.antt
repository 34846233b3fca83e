use Rattle.std.proofs.Common.{◌∙◌, refl, sym, ap}
use Rattle.mpm_service.specs.Disk.{served_process}
use Rattle.mpm_machine.proofs.WorkLaws.{served_by_some, unserved_by_some, not_both}
use Rattle.mpm_machine.proofs.EnterLaws.{starts_whole, starts_lives, starts_filed, begins_so, begun_is, enters_so, entered_made, enters_whole, owns_entered, nobody_starts, none_enters_so, nobody_entered, unserved_begun, unserved_own, nobody_made, still_made, goes_on}
use Rattle.mpm_machine.proofs.machine.Machine.enter_call.Goals as goal

-- a call is in service
pub returns-then-is_some : goal.returns-then-is_some
returns-then-is_some c = record {
  ok = λ disks files stands.
      let old = c.args.self.now.system in
      goes_on old c.args.self.now.bdos disks files
      (served_by_some old.kernel.disk c.serving.result c.is_some.result (c.serving.ensures.served ∙ ap served_process c.disk.ensures) c.is_some.ensures c.if-is_some.true) stands;
  served = λ some. refl;
  made =
      let old = c.args.self.now.system in
      still_made old (served_by_some old.kernel.disk c.serving.result c.is_some.result (c.serving.ensures.served ∙ ap served_process c.disk.ensures) c.is_some.ensures c.if-is_some.true);
  whole = c.requires.whole;
  begun = c.requires.calls.begun;
  own = c.requires.calls.own;
  kept = refl;
  workless = λ bare less. less;
  reply = refl;
}

pub turn_disk-requires : goal.turn_disk-requires
turn_disk-requires c = record { sound = c.requires.whole.sound; begun = c.requires.calls.begun }

-- one that waits enters

pub start_call-turns-requires : goal.start_call-turns-requires
start_call-turns-requires c = record {
  living = record {
    whole = starts_whole c.args.self.now.system c.turn_disk.new.self c.turn_disk.ensures.kernel c.requires.whole;
    lives = starts_lives c.args.self.now.system.kernel c.turn_disk.new.self c.in-Starts.p c.turn_disk.ensures.kernel (sym c.turn_disk.ensures.answer ∙ c.in-Starts.is) c.requires.whole.sound;
  };
  function = starts_filed c.args.self.now.system.kernel c.turn_disk.new.self c.in-Starts.p c.turn_disk.ensures.kernel (sym c.turn_disk.ensures.answer ∙ c.in-Starts.is) c.requires.calls.filed;
}

pub returns-in-Starts : goal.returns-in-Starts
returns-in-Starts c =
    let old = c.args.self.now.system in
    let new = c.start_call-turns.new.bdos in
    let p = c.in-Starts.p in
    let turns = c.start_call-turns.result in
    let starts = sym c.turn_disk.ensures.answer ∙ c.in-Starts.is in
    let none = unserved_by_some old.kernel.disk c.serving.result c.is_some.result (c.serving.ensures.served ∙ ap served_process c.disk.ensures) c.is_some.ensures c.if-is_some.false in
    let begins =
    begins_so p turns old c.turn_disk.new.self c.args.self.now.bdos new c.turn_disk.ensures.kernel
    c.start_call-turns.ensures.starts in
    let is = begun_is turns old c.turn_disk.new.self c.begin_disk_call.new.self c.turn_disk.ensures.kernel c.begin_disk_call.ensures.kernel in
    let made = entered_made old _ p turns is starts none in
    record {
      ok = λ disks files stands. enters_so old _ p turns c.args.self.now.bdos new disks files is starts none c.requires.calls.filed begins stands;
      served = λ some. absurd (not_both old.kernel.disk.served none some);
      made = made;
      whole = enters_whole old _ c.requires.whole made;
      begun = c.begin_disk_call.ensures.begun;
      own = owns_entered old _ p turns c.args.self.now.bdos new is starts none c.requires.calls.filed begins;
      kept = c.start_call-turns.ensures.kept;
      workless = λ bare less. c.start_call-turns.ensures.workless bare;
      reply = refl;
    }

-- or nobody waits

pub returns-in_default : goal.returns-in_default
returns-in_default c =
    let old = c.args.self.now.system in
    let kernel = c.turn_disk.new.self in
    let nobody = nobody_starts old.kernel.disk c.turn_disk.result c.turn_disk.ensures.answer c.in_default.not-Starts in
    let none = unserved_by_some old.kernel.disk c.serving.result c.is_some.result (c.serving.ensures.served ∙ ap served_process c.disk.ensures) c.is_some.ensures c.if-is_some.false in
    let still = nobody_entered old.kernel kernel c.turn_disk.ensures.kernel none nobody in
    record {
      ok = λ disks files stands. none_enters_so old kernel c.args.self.now.bdos disks files c.turn_disk.ensures.kernel none nobody stands;
      served = λ some. absurd (not_both old.kernel.disk.served none some);
      made = nobody_made old kernel c.turn_disk.ensures.kernel none nobody;
      whole = starts_whole old kernel c.turn_disk.ensures.kernel c.requires.whole;
      begun = unserved_begun kernel still;
      own = unserved_own kernel c.args.self.now.bdos.service still;
      kept = refl;
      workless = λ bare less. less;
      reply = refl;
    }
