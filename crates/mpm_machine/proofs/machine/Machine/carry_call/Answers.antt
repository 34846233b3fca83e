use Rattle.std.proofs.Common.{◌≡◌, ◌∙◌, ℕ, ◌+◌, ◌<◌, ◌≤◌, Option, Err, refl, sym, ap, subst, arith}
use Rattle.mpm_output.specs.Outside.{seen}
use Rattle.mpm_service.specs.Ahead.{left_to}
use Rattle.mpm_kernel.specs.Kernel.{Kernel}
use Rattle.mpm_bdos.specs.Serving.{Kept, Serves}
use Rattle.mpm_bdos.specs.Jobs.{call_turns}
use Rattle.mpm_bdos.specs.Turns.{FitsDrives, images_of}
use Rattle.mpm_bdos.specs.AtOnce.{FailsSince}
use Rattle.mpm_machine.specs.declared.machine.StepFault.TheVariants.{DiskFault, WriteFault}
use Rattle.mpm_machine.specs.Faults.{itself}
use Rattle.mpm_machine.specs.Files.{FilesInService}
use Rattle.mpm_machine.specs.Failing.{Working, HaveImagesOf, FailsWithin}
use Rattle.mpm_machine.specs.Settling.{HasCarried, StopsCarrying}
use Rattle.mpm_machine.proofs.FailingLaws.{turns_fail}
use Rattle.mpm_machine.proofs.CarryingLaws.{in_call, all_left_turns, whole_unserved, nobody_left, never_both}
use Rattle.mpm_machine.proofs.SettlingLaws.{turns_call, somebody_served, is_served}
use Rattle.mpm_bdos.proofs.AtOnceLaws.{still_served}
use Rattle.mpm_machine.proofs.PartsLaws.{uses_turns, uses_kept}
use Rattle.mpm_machine.proofs.WorkLaws.{is_held}
use Rattle.mpm_machine.proofs.machine.Machine.carry_call.Goals as goal

pub finish_disk_call-turns-requires : goal.finish_disk_call-turns-requires
finish_disk_call-turns-requires g c = record { sound = c.requires.between.whole.sound }

pub do_turns-requires : goal.do_turns-requires
do_turns-requires g c =
    let disk = c.args.self.now.system.kernel.disk in
    let holds = c.requires.between.holds in
    let its = in_call holds.files disk c.args.p c.args.self.now.bdos (g.D.Drives.disks c.args.drives.now) c.requires.served holds.stands in
    record {
      fits = holds.calls.fits;
      served = is_held c.args.self.now.system.kernel c.args.self.now.bdos.service (is_served c.args.self.now.system c.args.p c.requires.served) holds.calls.own;
      left = λ works. record {
        situation = its.call;
        ended = its.turns;
        serves = its.serves;
        left = omega (arith, its.left, c.finish_disk_call-turns.ensures.turns, all_left_turns disk);
      };
    }

pub end_call-requires : goal.end_call-requires
end_call-requires g c = record {
  whole = whole_unserved c.args.self.now.system c.finish_disk_call-turns.new.self c.requires.between.whole c.finish_disk_call-turns.ensures.kernel c.finish_disk_call-turns.ensures.sound;
  over = c.finish_disk_call-turns.ensures.over c.args.p c.requires.served;
  none = c.requires.between.no_completions.written;
  idle = ap (λ (k : Kernel). k.disk.served) c.finish_disk_call-turns.ensures.kernel ∙ nobody_left c.args.self.now.system.kernel;
  held = still_served c.args.self.now.bdos c.do_turns.new.self c.do_turns.ensures.left.kept
      (is_held c.args.self.now.system.kernel c.args.self.now.bdos.service (is_served c.args.self.now.system c.args.p c.requires.served) c.requires.between.holds.calls.own);
}

-- a drive failed in a turn

pub returns-in-Err : goal.returns-in-Err
returns-in-Err g c = record {
  ok = λ files stands. tt;
  err = λ files stands.
      let disk = c.args.self.now.system.kernel.disk in
      let disks = g.D.Drives.disks c.args.drives.now in
      let now = g.D.Drives.disks c.do_turns.new.drives in
      let kept = c.args.self.now.bdos in
      let its = in_call files disk c.args.p kept disks c.requires.served stands in
      let left = c.do_turns.ensures.left in
      let few : its.turns + c.finish_disk_call-turns.result ≤ call_turns its.call = omega (arith, its.left, c.finish_disk_call-turns.ensures.turns, all_left_turns disk) in
      let failed : FailsSince now its.call its.turns = c.in-Err.ensures.err its.call its.turns its.serves few in
      let before : failed.turn < its.turns + left_to disk.served = omega (arith, its.left, failed.its) in (
        refl,
        subst (λ (working : Option Working). HaveImagesOf (FailsWithin working) now c.do_turns.new.self.mounted) (sym its.left_is)
            (turns_fail disks now kept c.do_turns.new.self.mounted its.call its.turns (left_to disk.served) its.serves failed before
            left.images left.kept.labels),
      );
  whole = tt;
  serves = is_served c.args.self.now.system c.args.p c.requires.served;
  idle = λ none. somebody_served c.args.self.now.system c.args.p _ c.requires.served none;
  uses =
      uses_turns g.D.Drives itself c.args.self.now.bdos c.do_turns.new.self c.args.drives.now c.do_turns.new.drives (Err DiskFault)
      c.do_turns.ensures.left (λ bare. (c.do_turns.ensures.idle (c.requires.between.holds.calls.workless bare)).device) (λ bare. never_both c.do_turns.result _ _ c.in-Err.is (c.do_turns.ensures.unfailing (c.requires.between.holds.calls.workless bare)));
  called = turns_call c.args.self.now.system c.args.p c.args.self.now.bdos _ _ c.finish_disk_call-turns.result c.requires.served c.do_turns.ensures.left.kept_unsynced c.do_turns.ensures.calls c.finish_disk_call-turns.ensures.turns;
  fits = c.do_turns.ensures.left.fits;
  ends = record { trace = refl; cause = record { stays = tt; failed = (c.in-Err.ensures.cause.failed, refl) } };
}

-- all is done

pub returns-in-Ok : goal.returns-in-Ok
returns-in-Ok g c = record {
  ok = λ files stands.
      let before = seen g.S.Sink.written g.S.Sink.faults c.args.render.now c.args.sink.now in
      let behind = seen g.S.Sink.written g.S.Sink.faults c.end_call.new.render c.end_call.new.sink in
      let disk = c.args.self.now.system.kernel.disk in
      let now = g.D.Drives.disks c.do_turns.new.drives in
      let its = in_call files disk c.args.p c.args.self.now.bdos (g.D.Drives.disks c.args.drives.now) c.requires.served stands in
      let few : its.turns + c.finish_disk_call-turns.result ≤ call_turns its.call = omega (arith, its.left, c.finish_disk_call-turns.ensures.turns, all_left_turns disk) in
      let all : its.turns + c.finish_disk_call-turns.result ≡ call_turns its.call = omega (arith, its.left, c.finish_disk_call-turns.ensures.turns, all_left_turns disk) in
      let serves = subst (λ (j : ℕ). Serves (images_of now) c.do_turns.new.self its.call j) all (c.in_default.ensures.ok its.call its.turns its.serves few) in
      let passed = ap (λ (k : Kernel). record c.args.self.now.system { kernel = k }) c.finish_disk_call-turns.ensures.kernel in
      subst (λ (f : FilesInService). HasCarried f before behind c.args.self.now.system c.end_call.new.self.system c.end_call.new.self.bdos now) (sym its.is)
      (c.in-Ok.ensures.ok now its.call c.args.self.now.system serves its.whose passed);
  err = λ files stands. tt;
  whole = c.in-Ok.ensures.whole;
  serves = tt;
  idle = λ none. somebody_served c.args.self.now.system c.args.p _ c.requires.served none;
  uses =
      uses_kept _ itself _ _ c.end_call.new.self.bdos.mounted _ _ _ (ap (λ (k : Kept). k.mounted) c.end_call.ensures.kept)
      (uses_turns g.D.Drives itself c.args.self.now.bdos c.do_turns.new.self c.args.drives.now c.do_turns.new.drives _
      c.do_turns.ensures.left (λ bare. (c.do_turns.ensures.idle (c.requires.between.holds.calls.workless bare)).device) (λ bare. tt));
  called = turns_call c.args.self.now.system c.args.p c.args.self.now.bdos _ _ c.finish_disk_call-turns.result c.requires.served c.do_turns.ensures.left.kept_unsynced c.do_turns.ensures.calls c.finish_disk_call-turns.ensures.turns;
  fits = subst (λ (k : Kept). FitsDrives g.D.Drives.disks k.mounted k.cached c.do_turns.new.drives) (sym c.end_call.ensures.kept) c.do_turns.ensures.left.fits;
  ends =
      record {
        trace = c.end_call.ensures.ends.trace;
        cause = record { stays = λ i. record { sink = c.in-Ok.ensures.ends.cause.stays i; drives = c.in_default.ensures.cause.stays i }; failed = tt };
      };
}

-- the sink failed

pub returns-in-Err-end_call : goal.returns-in-Err-end_call
returns-in-Err-end_call g c = record {
  ok = λ files stands. tt;
  err = λ files stands.
      let before = seen g.S.Sink.written g.S.Sink.faults c.args.render.now c.args.sink.now in
      let behind = seen g.S.Sink.written g.S.Sink.faults c.end_call.new.render c.end_call.new.sink in
      let disk = c.args.self.now.system.kernel.disk in
      let now = g.D.Drives.disks c.do_turns.new.drives in
      let its = in_call files disk c.args.p c.args.self.now.bdos (g.D.Drives.disks c.args.drives.now) c.requires.served stands in
      let few : its.turns + c.finish_disk_call-turns.result ≤ call_turns its.call = omega (arith, its.left, c.finish_disk_call-turns.ensures.turns, all_left_turns disk) in
      let all : its.turns + c.finish_disk_call-turns.result ≡ call_turns its.call = omega (arith, its.left, c.finish_disk_call-turns.ensures.turns, all_left_turns disk) in
      let serves = subst (λ (j : ℕ). Serves (images_of now) c.do_turns.new.self its.call j) all (c.in_default.ensures.ok its.call its.turns its.serves few) in
      let passed = ap (λ (k : Kernel). record c.args.self.now.system { kernel = k }) c.finish_disk_call-turns.ensures.kernel in
      subst (λ (f : FilesInService). StopsCarrying WriteFault f before behind c.args.self.now.system c.end_call.new.self.bdos.mounted now) (sym its.is)
      (c.in-Err-end_call.ensures.err now its.call c.args.self.now.system serves its.whose passed);
  whole = tt;
  serves = is_served c.args.self.now.system c.args.p c.requires.served;
  idle = λ none. somebody_served c.args.self.now.system c.args.p _ c.requires.served none;
  uses =
      uses_kept _ itself _ _ c.end_call.new.self.bdos.mounted _ _ _ (ap (λ (k : Kept). k.mounted) c.end_call.ensures.kept)
      (uses_turns g.D.Drives itself c.args.self.now.bdos c.do_turns.new.self c.args.drives.now c.do_turns.new.drives (Err WriteFault)
      c.do_turns.ensures.left (λ bare. (c.do_turns.ensures.idle (c.requires.between.holds.calls.workless bare)).device) (λ bare. refl));
  called = turns_call c.args.self.now.system c.args.p c.args.self.now.bdos _ _ c.finish_disk_call-turns.result c.requires.served c.do_turns.ensures.left.kept_unsynced c.do_turns.ensures.calls c.finish_disk_call-turns.ensures.turns;
  fits = subst (λ (k : Kept). FitsDrives g.D.Drives.disks k.mounted k.cached c.do_turns.new.drives) (sym c.end_call.ensures.kept) c.do_turns.ensures.left.fits;
  ends =
      record {
        trace = c.end_call.ensures.ends.trace;
        cause = record { stays = tt; failed = (c.in-Err-end_call.ensures.ends.cause.failed, c.in_default.ensures.cause.stays) };
      };
}
