use Rattle.std.proofs.Common.{rules, ◌∙◌, ℕ, refl, sym, ap, subst, inr, arith}
use Rattle.std.proofs.lemmas.Grind.{common_steps}
use Rattle.mpm_machine.specs.Faults.{FailureCounts, counts}
use Rattle.mpm_drives.specs.Stopping.{Failures}
use Rattle.mpm_machine.specs.declared.machine.Machine.{Machine}
use Rattle.mpm_top.specs.Beginnings.{host, failed, begun, command_on, drives_listed, IsAtStart}
use Rattle.mpm_top.specs.Runs.{Causes}
use Rattle.mpm_top.specs.Promises.{seen_by, WritesAll}
use Rattle.mpm_top.proofs.BootLaws.{starts_inside, beside_inside, bare_inside}
use Rattle.mpm_top.proofs.RunLaws.{ends_by_fault}
use Rattle.mpm_top.proofs.StatusLaws.{ran_wrote, early_ran, writes_early, fails_early, ended_ran, ended_usage, ended_refusal, writes_stopped, fails_stopped}
use Rattle.mpm_top.proofs.Naming.{others_then}
use Rattle.mpm_top.proofs.Syncing.{listed_synced, syncs_attached}
use Rattle.mpm_top.proofs.run.run_command.Goals as goal

-- all is done

pub run_to_end-requires : goal.run_to_end-requires
run_to_end-requires g c = record {
  begins = subst (λ (m : Machine). IsAtStart g.D.Drives.disks m c.boot.new.drives) (sym c.deref_mut.ensures.value) c.in-Ok.ensures.ready.begins;
  limit = first_of (search rules, grind (arith, common_steps));
  name = first_of (search rules, grind (arith, common_steps));
  parts = first_of (search rules, grind (arith, common_steps));
  some_part = first_of (search rules, grind (arith, common_steps));
}

pub returns-in-Ok-run_to_end : goal.returns-in-Ok-run_to_end
returns-in-Ok-run_to_end g c =
    let old = seen_by g.F.Files g.D.Drives g.S.Sink c.args.files.now c.args.drives.now c.args.sink.now in
    let new = seen_by g.F.Files g.D.Drives g.S.Sink c.boot.new.files c.run_to_end.new.drives c.run_to_end.new.sink in
    let writes : WritesAll (command_on c.args.name.now c.args.asked) old new =
    let starts = starts_inside c.deref_mut.ensures.value c.in-Ok.ensures.starts in
    let specs = drives_listed c.args.asked.form starts.begins.bytes in
    let runs = c.in-Ok-run_to_end.ensures.runs specs starts.drives starts.listed starts.files in
    record {
      start = begun c.deref_mut.result.now.system starts.drives;
      begins = starts.begins;
      text = runs.text;
      images = runs.stand;
      synced =
          listed_synced (g.D.Drives.disks c.boot.new.drives) c.deref_mut.result.now.bdos.mounted (g.D.Drives.unsynced c.run_to_end.new.drives) specs starts.listed.each
          c.in-Ok-run_to_end.ensures.synced;
      others = others_then _ _ _ _ (g.D.Drives.disks c.boot.new.drives) _ c.deref_mut.result.now.bdos.mounted specs c.in-Ok.ensures.leaves.told starts.listed (beside_inside c.deref_mut.ensures.value c.in-Ok.ensures.ready.beside) (c.in-Ok-run_to_end.ensures.leaves.others specs starts.listed);
    } in
    record {
      usage = λ is. absurd (cc);
      writes = writes;
      looked = λ is.
          record {
            writes = writes;
            saw = let starts = starts_inside c.deref_mut.ensures.value c.in-Ok.ensures.starts in c.in-Ok-run_to_end.ensures.looked starts.drives starts.files;
          };
      program = λ is. c.in-Ok-run_to_end.ensures.leaves.none (bare_inside c.deref_mut.ensures.value (c.in-Ok.ensures.no_drive is)) ∙ c.in-Ok.ensures.program is;
      fails =
          let faults = ap (λ (k : FailureCounts). k.drives) c.in-Ok-run_to_end.ensures.cause ∙ ap (λ (f : Failures). f.faults) c.in-Ok.ensures.leaves.drives in
          let names = c.in-Ok-run_to_end.ensures.leaves.names ∙ ap (λ (f : Failures). f.names) c.in-Ok.ensures.leaves.drives in
          record {
            files = c.in-Ok.ensures.leaves.names;
            drives = λ i. record { faults = faults i; names = names i };
            output = ap (λ (k : FailureCounts). k.sink) c.in-Ok-run_to_end.ensures.cause;
            write = λ step is. absurd (ran_wrote step is);
          };
      reason = inr (begun c.in-Ok.machine.value.system c.in-Ok.ensures.starts.drives, c.in-Ok.ensures.starts.begins);
      missing = λ missing. absurd (c.in-Ok.ensures.missing missing);
      missing_script = λ bytes script is fits named missing. absurd (c.in-Ok.ensures.missing_script bytes script is fits named missing);
      nothing = λ refusal. absurd refusal;
      synced = λ is.
          syncs_attached (g.D.Drives.disks c.args.drives.now) (g.D.Drives.disks c.boot.new.drives) (g.D.Drives.disks c.run_to_end.new.drives) (g.D.Drives.unsynced c.run_to_end.new.drives)
          c.deref_mut.result.now.bdos.mounted (beside_inside c.deref_mut.ensures.value c.in-Ok.ensures.ready.beside) c.in-Ok-run_to_end.ensures.leaves.attached c.in-Ok-run_to_end.ensures.synced;
      files = c.boot.ensures.leaves.files;
    }

-- the run stopped

pub returns-in-Ok : goal.returns-in-Ok
returns-in-Ok g c = record {
  usage = λ is. ended_usage c.in-Err-run_to_end.error.fault c.in-Err-run_to_end.error.step c.stopped.result c.stopped.ensures is;
  writes =
      let starts = starts_inside c.deref_mut.ensures.value c.in-Ok.ensures.starts in
      let specs = drives_listed c.args.asked.form starts.begins.bytes in
      writes_stopped _ (command_on c.args.name.now c.args.asked)
      (seen_by g.F.Files g.D.Drives g.S.Sink c.args.files.now c.args.drives.now c.args.sink.now)
      (seen_by g.F.Files g.D.Drives g.S.Sink c.boot.new.files c.run_to_end.new.drives c.run_to_end.new.sink)
      (begun c.deref_mut.result.now.system starts.drives) c.in-Err-run_to_end.error.fault c.in-Err-run_to_end.error.step c.stopped.result c.stopped.ensures starts.begins
      c.in-Err-run_to_end.ensures.stopped.within (c.in-Err-run_to_end.ensures.stops specs starts.drives starts.listed starts.files)
      (others_then _ _ _ _ (g.D.Drives.disks c.boot.new.drives) _ c.deref_mut.result.now.bdos.mounted specs c.in-Ok.ensures.leaves.told starts.listed (beside_inside c.deref_mut.ensures.value c.in-Ok.ensures.ready.beside) (c.in-Err-run_to_end.ensures.leaves.others specs starts.listed))
      (λ zero. c.in-Err-run_to_end.ensures.stopped.early zero ∙ c.in-Ok.ensures.leaves.told);
  looked = λ is. absurd (ended_ran c.in-Err-run_to_end.error.fault c.in-Err-run_to_end.error.step c.stopped.result c.stopped.ensures is);
  program = λ is. c.in-Err-run_to_end.ensures.leaves.none (bare_inside c.deref_mut.ensures.value (c.in-Ok.ensures.no_drive is)) ∙ c.in-Ok.ensures.program is;
  fails =
      let fault = c.in-Err-run_to_end.error.fault in
      let now = counts g.S.Sink.faults g.D.Drives.faults c.run_to_end.new.sink c.run_to_end.new.drives in
      let Q : ℕ → Type 0 = λ n. Causes fault (record { sink = g.S.Sink.faults c.args.sink.now; drives = n }) now in
      fails_stopped
      (seen_by g.F.Files g.D.Drives g.S.Sink c.args.files.now c.args.drives.now c.args.sink.now)
      (seen_by g.F.Files g.D.Drives g.S.Sink c.boot.new.files c.run_to_end.new.drives c.run_to_end.new.sink)
      fault c.in-Err-run_to_end.error.step c.stopped.result c.stopped.ensures c.in-Ok.ensures.leaves.names
      (c.in-Err-run_to_end.ensures.leaves.names ∙ ap (λ (f : Failures). f.names) c.in-Ok.ensures.leaves.drives)
      (subst Q (ap (λ (f : Failures). f.faults) c.in-Ok.ensures.leaves.drives) c.in-Err-run_to_end.ensures.cause);
  reason =
      let starts = starts_inside c.deref_mut.ensures.value c.in-Ok.ensures.starts in
      let found = host g.F.Files.contents g.D.Drives.told c.args.files.now c.args.drives.now in
      let fault = c.in-Err-run_to_end.error.fault in
      let now = counts g.S.Sink.faults g.D.Drives.faults c.run_to_end.new.sink c.run_to_end.new.drives in
      let Q : ℕ → Type 0 = λ n. Causes fault (record { sink = g.S.Sink.faults c.args.sink.now; drives = n }) now in
      ends_by_fault (g.D.Drives.disks c.run_to_end.new.drives) found c.args.asked.form c.args.name.now (begun c.deref_mut.result.now.system starts.drives)
      (failed g.F.Files.failed_names g.D.Drives.faults g.D.Drives.failed_names c.args.files.now c.args.drives.now)
      (failed g.F.Files.failed_names g.D.Drives.faults g.D.Drives.failed_names c.boot.new.files c.run_to_end.new.drives)
      fault c.in-Err-run_to_end.error.step (g.S.Sink.faults c.args.sink.now) (g.S.Sink.faults c.run_to_end.new.sink) c.stopped.result c.stopped.ensures
      starts.begins (λ none. c.in-Err-run_to_end.ensures.stopped.sink (starts.bare (sym starts.same ∙ none)))
      (subst Q (ap (λ (f : Failures). f.faults) c.in-Ok.ensures.leaves.drives) c.in-Err-run_to_end.ensures.cause)
      (c.in-Err-run_to_end.ensures.leaves.names ∙ ap (λ (f : Failures). f.names) c.in-Ok.ensures.leaves.drives);
  missing = λ missing. absurd (c.in-Ok.ensures.missing missing);
  missing_script = λ bytes script is fits named missing. absurd (c.in-Ok.ensures.missing_script bytes script is fits named missing);
  nothing = λ refusal. absurd (ended_refusal c.in-Err-run_to_end.error.fault c.in-Err-run_to_end.error.step c.stopped.result c.stopped.ensures refusal);
  synced = λ is. absurd (ended_ran c.in-Err-run_to_end.error.fault c.in-Err-run_to_end.error.step c.stopped.result c.stopped.ensures is);
  files = c.boot.ensures.leaves.files;
}

-- it wasn't begun

pub returns : goal.returns
returns g c = record {
  usage = search rules;
  writes =
      writes_early _ (command_on c.args.name.now c.args.asked)
      (seen_by g.F.Files g.D.Drives g.S.Sink c.args.files.now c.args.drives.now c.args.sink.now)
      (seen_by g.F.Files g.D.Drives g.S.Sink c.boot.new.files c.boot.new.drives c.args.sink.now)
      c.in-Err.status c.in-Err.ensures.leaves.early (record { text = refl; images = c.in-Err.ensures.leaves.told; asks = c.boot.ensures.leaves.asks });
  looked = λ is. absurd (early_ran c.in-Err.status c.in-Err.ensures.leaves.early is);
  program = c.in-Err.ensures.program;
  fails =
      fails_early
      (seen_by g.F.Files g.D.Drives g.S.Sink c.args.files.now c.args.drives.now c.args.sink.now)
      (seen_by g.F.Files g.D.Drives g.S.Sink c.boot.new.files c.boot.new.drives c.args.sink.now)
      c.in-Err.status c.in-Err.ensures.leaves.early c.in-Err.ensures.leaves.names c.in-Err.ensures.leaves.drives refl;
  reason = c.in-Err.ensures.reason;
  missing = c.in-Err.ensures.missing;
  missing_script = c.in-Err.ensures.missing_script;
  nothing = λ refusal. refl;
  synced = λ is. absurd (early_ran c.in-Err.status c.in-Err.ensures.leaves.early is);
  files = c.boot.ensures.leaves.files;
}
