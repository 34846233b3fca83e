use Rattle.std.proofs.Common.{◌∙◌, refl, sym, ap, arith}
use Rattle.mpm_output.specs.Outside.{seen}
use Rattle.mpm_system.specs.declared.system.System.{System}
use Rattle.mpm_system.specs.Coming.{counted}
use Rattle.mpm_machine.specs.Faults.{itself}
use Rattle.mpm_machine.specs.Stepping.{begun_alone}
use Rattle.mpm_machine.proofs.WholeStepLaws.{whole_counted, whole_after_begun, whole_all_answered}
use Rattle.mpm_machine.proofs.DueLaws.{no_completions_answered}
use Rattle.mpm_machine.proofs.BegunLaws.{keeps_alone, holds_kept}
use Rattle.mpm_machine.proofs.StepLaws.{alone_begun_to, alone_made, alone_instruction, alone_err, alone_still, alone_done, alone_failed}
use Rattle.mpm_machine.proofs.PartsLaws.{uses_none}
use Rattle.mpm_machine.proofs.machine.Machine.begin_step.Goals as goal

pub file_caller-requires : goal.file_caller-requires
file_caller-requires g c = record { whole = c.requires.may.whole; most = c.requires.may.most }

pub begin_with_files-requires : goal.begin_with_files-requires
begin_with_files-requires g c = record { may = c.requires.may; caller = sym c.file_caller.ensures.caller ∙ c.in-Some.is }

pub begin_alone-requires : goal.begin_alone-requires
begin_alone-requires g c = record { most = c.requires.may.most; whole = c.requires.may.whole; no_completions = c.requires.may.no_completions }

-- a process made a file call

pub returns-in-Some : goal.returns-in-Some
returns-in-Some g c = c.begin_with_files.ensures

-- nobody did

pub returns-in-Ok : goal.returns-in-Ok
returns-in-Ok g c =
    let old = c.args.self.now.system in
    let new = c.begin_alone.new.system in
    let may = c.requires.may in
    let nobody = sym c.file_caller.ensures.caller ∙ c.in-None.is in
    let alone = c.in-Ok.ensures in
    let kept = keeps_alone old new may.whole may.holds.filed alone.system in
    record {
      ok = λ files stands. alone_begun_to files _ _ old new c.args.self.now.bdos (g.D.Drives.disks c.args.drives.now) nobody kept.serves alone.system alone.wrote.ok stands;
      stops = λ files stands. tt;
      instruction = alone_instruction c.in-Ok.instruction old nobody alone.instruction;
      begun = record {
        made = alone_made old new nobody alone.system;
        served = kept.serves.served;
        turn_steps = kept.serves.steps;
        whole = whole_all_answered (begun_alone old).system new (whole_after_begun (counted old) (begun_alone old).system (whole_counted old may.whole) refl) alone.system;
        completed = ap (λ (s : System). s.kernel.dispatcher.completed) alone.system ∙ no_completions_answered (begun_alone old).system;
        room = alone.room;
        holds = holds_kept g.D.Drives.disks old new c.args.self.now.bdos c.args.drives.now kept may.holds;
      };
      uses = uses_none _ itself _ _ _ tt;
      rests = record { idle = λ off. record { sink = tt; drives = refl; calls = refl }; apart = λ some. record { sink = tt; drives = refl; calls = refl } };
      calls = λ files stands. omega arith;
      ends = record {
        trace = alone.wrote.ok.trace;
        cause = alone_done c.in-Ok.instruction (seen g.S.Sink.written g.S.Sink.faults c.args.render.now c.args.sink.now)
            (seen g.S.Sink.written g.S.Sink.faults c.begin_alone.new.render c.begin_alone.new.sink) _ _ alone.wrote.ok;
      };
    }

pub returns-in-Err : goal.returns-in-Err
returns-in-Err g c =
    let old = c.args.self.now.system in
    let nobody = sym c.file_caller.ensures.caller ∙ c.in-None.is in
    let stopped = c.in-Err.ensures.wrote.err in
    record {
      ok = λ files stands. tt;
      stops = λ files stands. record {
        text = alone_err files _ _ old nobody stopped;
        images = tt;
        stands = alone_still old c.args.self.now.bdos (g.D.Drives.disks c.args.drives.now) files nobody stands;
      };
      instruction = tt;
      begun = tt;
      uses = uses_none _ itself _ _ _ refl;
      rests = record { idle = λ off. record { sink = refl; drives = refl; calls = refl }; apart = λ some. record { sink = refl; drives = refl; calls = refl } };
      calls = λ files stands. omega arith;
      ends = record {
        trace = stopped.trace;
        cause = alone_failed (seen g.S.Sink.written g.S.Sink.faults c.args.render.now c.args.sink.now)
            (seen g.S.Sink.written g.S.Sink.faults c.begin_alone.new.render c.begin_alone.new.sink) _ _ stopped;
      };
    }
