use Rattle.std.proofs.Common.{◌≡◌, ◌∙◌, Err, OnOk, IfErr, refl, sym, ap, subst, arith}
use Rattle.std.specs.Prelude.{length}
use Rattle.std.proofs.lemmas.Bool.{false≢true}
use Rattle.mpm_procs.specs.Table.{call_of}
use Rattle.mpm_kernel.specs.Kernel.{Kernel}
use Rattle.mpm_output.specs.Outside.{seen}
use Rattle.mpm_file_functions.specs.Functions.{function_of}
use Rattle.mpm_bdos.specs.Serving.{Kept}
use Rattle.mpm_machine.specs.declared.machine.StepFault.TheVariants.{DiskFault}
use Rattle.mpm_machine.specs.Faults.{itself, OnWriteFault}
use Rattle.mpm_machine.specs.Files.{StandsWorked}
use Rattle.mpm_machine.specs.Holding.{HoldsKept}
use Rattle.mpm_machine.specs.DiskStep.{files_called, told_at_gate}
use Rattle.mpm_machine.specs.After.{HasCalled}
use Rattle.mpm_machine.specs.FileCalls.{told_of}
use Rattle.mpm_machine.proofs.AtGateLaws.{IsCalled, waits_steps, waits_ok, waits_made, once_ok, once_made, once_err, once_still, once_images, once_fault, once_trace, once_cause, between, fails_images, once_calls, served_directly, holds_filed}
use Rattle.mpm_machine.proofs.WorkLaws.{stand_at_once}
use Rattle.mpm_machine.proofs.PartsLaws.{uses_none, uses_as, uses_kept}
use Rattle.mpm_machine.proofs.machine.Machine.call_or_wait.Goals as goal

pub is_done_at_once-requires : goal.is_done_at_once-requires
is_done_at_once-requires g c = record { lives = c.requires.may.lives }

pub wait_for_disk-requires : goal.wait_for_disk-requires
wait_for_disk-requires g c = record {
  caller = record { sound = c.requires.may.whole.sound; lives = c.requires.may.lives; ready = c.requires.may.ready };
  steps = waits_steps c.args.p c.args.self.now.system (sym c.is_done_at_once.ensures.done ∙ c.if-not-is_done_at_once.true);
}

pub call_files-requires : goal.call_files-requires
call_files-requires g c = record {
  living = record { whole = c.requires.may.whole; lives = c.requires.may.lives };
  fits = c.requires.may.holds.fits;
  stand = stand_at_once c.args.self.now.system.kernel.disk (function_of (call_of c.args.self.now.system.kernel.dispatcher.procs c.args.p).function) c.args.self.now.bdos
      (g.D.Drives.disks c.args.drives.now) c.requires.may.files (c.is_done_at_once.ensures.apart c.if-not-is_done_at_once.false) c.requires.may.stands;
}

pub conclude-requires : goal.conclude-requires
conclude-requires g c =
    let nothing : length c.args.self.now.system.records ≡ 0 = ap length c.requires.may.none in
    record { whole = c.requires.may.whole; lives = c.requires.may.lives; room = omega (arith, nothing) }

-- it waits

pub returns-then-not-is_done_at_once : goal.returns-then-not-is_done_at_once
returns-then-not-is_done_at_once g c =
    let old = c.args.self.now.system in
    let waits = sym c.is_done_at_once.ensures.done ∙ c.if-not-is_done_at_once.true in
    let made = ap (λ (k : Kernel). record old { kernel = k }) c.wait_for_disk.ensures.kernel in
    record {
      ok = λ files stands.
          waits_ok c.args.p (seen g.S.Sink.written g.S.Sink.faults c.args.render.now c.args.sink.now) old (record old { kernel = c.wait_for_disk.new.self }) c.args.self.now.bdos
          (g.D.Drives.disks c.args.drives.now) files waits made stands;
      err = λ files stands. tt;
      images = λ filing stands. tt;
      stands = λ files stands. tt;
      made = waits_made c.args.p old (record old { kernel = c.wait_for_disk.new.self }) waits made;
      uses = uses_none _ itself _ _ _ tt;
      holds = c.requires.may.holds;
      rests = record { idle = λ off. record { sink = tt; drives = refl; calls = refl }; apart = λ some. record { sink = tt; drives = refl; calls = refl } };
      calls = λ filing stands. omega arith;
      ends = record { trace = refl; cause = record { stays = refl; failed = tt } };
    }

-- it was done

pub returns-in-Ok : goal.returns-in-Ok
returns-in-Ok g c =
    let p = c.args.p in
    let old = c.args.self.now.system in
    let new = c.conclude.new.self.system in
    let kept = c.args.self.now.bdos in
    let kept' = c.call_files.new.bdos in
    let disks = g.D.Drives.disks c.args.drives.now in
    let now = g.D.Drives.disks c.call_files.new.drives in
    let reply = c.call_files.new.reply in
    let extended = c.in-Ok.extended in
    let result = c.conclude.result in
    let o = seen g.S.Sink.written g.S.Sink.faults c.args.render.now c.args.sink.now in
    let n = seen g.S.Sink.written g.S.Sink.faults c.conclude.new.render c.conclude.new.sink in
    let done = sym c.is_done_at_once.ensures.done ∙ c.if-not-is_done_at_once.false in
    let apart = c.is_done_at_once.ensures.apart c.if-not-is_done_at_once.false in
    let files_done = c.in-Ok.ensures in
    let called : IsCalled p old kept kept' disks now reply extended = record {
      ok = λ filing stands. (files_done.done filing stands).ok;
      within = λ images s j none serves. files_done.within images s j none serves;
      direct = λ none. let d = files_done.direct none in (d.1, ap g.D.Drives.disks d.2);
    } in
    let sink = once_fault result o n _ c.conclude.ensures.err in
    record {
      ok = λ files stands.
          subst (λ (k : Kept). OnOk result (HasCalled (told_at_gate p old files) p o n old new × StandsWorked new.kernel.disk k now (files_called p old files))) (sym c.conclude.ensures.bdos)
          (once_ok result p o n old new kept kept' disks now files reply extended c.requires.may.whole.sound c.requires.may.ready done apart called c.conclude.ensures.system
          c.conclude.ensures.wrote stands);
      err = λ files stands. once_err result p o n old kept kept' disks now files reply extended done apart called c.conclude.ensures.err stands;
      images = λ filing stands. once_images result _ o n _ c.conclude.ensures.err;
      stands = λ files stands.
          subst (λ (k : Kept). IfErr result (λ fault. OnWriteFault fault (StandsWorked old.kernel.disk k now (files_called p old files)))) (sym c.conclude.ensures.bdos)
          (once_still result p old kept kept' disks now files reply extended done apart called stands);
      made = once_made result (told_of (call_of old.kernel.dispatcher.procs p) reply extended) p old new done c.conclude.ensures.system;
      uses = uses_kept _ itself _ _ _ _ _ result (ap (λ (k : Kept). k.mounted) c.conclude.ensures.bdos) (uses_as itself result files_done.uses (λ bare. sink));
      holds = subst (λ (k : Kept). HoldsKept g.D.Drives.disks old.kernel k c.call_files.new.drives) (sym c.conclude.ensures.bdos)
          (holds_filed g.D.Drives.disks old.kernel (function_of (call_of old.kernel.dispatcher.procs p).function) kept kept' c.args.drives.now c.call_files.new.drives c.requires.may.holds apart
          (λ none. (files_done.direct none).1) files_done.service files_done.uses.drives.keeps.labels files_done.fits);
      rests = record {
        idle = λ off. let d = files_done.direct (served_directly p old off done) in record { sink = sink; drives = d.2; calls = d.3 };
        apart = λ some. let d = files_done.direct (apart some) in record { sink = sink; drives = d.2; calls = d.3 };
      };
      calls = λ filing stands. once_calls p old filing _ _ done (files_done.done filing (between old kept disks filing stands)).calls;
      ends = record { trace = once_trace result o n _ c.conclude.ensures.wrote c.conclude.ensures.err; cause = once_cause result o n _ _ _ files_done.cause.stays c.conclude.ensures.wrote c.conclude.ensures.err };
    }

-- a drive failed in it

pub returns-in-Err : goal.returns-in-Err
returns-in-Err g c =
    let p = c.args.p in
    let old = c.args.self.now.system in
    let kept = c.args.self.now.bdos in
    let kept' = c.call_files.new.bdos in
    let disks = g.D.Drives.disks c.args.drives.now in
    let now = g.D.Drives.disks c.call_files.new.drives in
    let done = sym c.is_done_at_once.ensures.done ∙ c.if-not-is_done_at_once.false in
    let apart = c.is_done_at_once.ensures.apart c.if-not-is_done_at_once.false in
    let failed = c.in-Err.ensures in
    record {
      ok = λ files stands. tt;
      err = λ files stands. refl;
      images = λ filing stands. fails_images p old now filing kept'.mounted done (failed.done filing (between old kept disks filing stands)).err;
      stands = λ files stands. tt;
      made = tt;
      uses = uses_as itself (Err DiskFault) failed.uses (λ bare. (failed.uses.none bare).sink);
      holds = holds_filed g.D.Drives.disks old.kernel (function_of (call_of old.kernel.dispatcher.procs p).function) kept kept' c.args.drives.now c.call_files.new.drives c.requires.may.holds apart
          (λ none. (failed.direct none).1) failed.service failed.uses.drives.keeps.labels failed.fits;
      rests = record {
        idle = λ off. absurd (false≢true (failed.direct (served_directly p old off done)).0);
        apart = λ some. absurd (false≢true (failed.direct (apart some)).0);
      };
      calls = λ filing stands. once_calls p old filing _ _ done (failed.done filing (between old kept disks filing stands)).calls;
      ends = record { trace = refl; cause = record { stays = tt; failed = (failed.cause.failed, refl) } };
    }
