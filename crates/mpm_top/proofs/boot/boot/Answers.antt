use Rattle.std.proofs.Common.{◌≡◌, ◌∙◌, ℕ, List, IfOk, sym, subst, refl, rules, arith}
use Rattle.std.proofs.lemmas.Grind.{common_steps}
use Rattle.std.proofs.Math.Path.{fun_ext}
use Rattle.std.specs.Prelude.{IfErr}
use Rattle.mpm_top.specs.declared.status.Input.{Input}
use Rattle.mpm_top.specs.declared.words.Form.TheVariants.{Program, Run}
use Rattle.mpm_top.specs.Beginnings.{Contents, host, failed, Holds, StartsOf}
use Rattle.mpm_top.specs.Endings.{EndsAfter}
use Rattle.mpm_top.proofs.BootLaws.{program_names_nothing, starts_with_contents, ends_with_contents, either_way, refusal_early, ready_by, memory_early, either_file, since_fetched, starts_of_program, program_at_start, program_has_no_drive}
use Rattle.mpm_top.proofs.StatusLaws.{always_disk}
use Rattle.mpm_top.proofs.Syncing.{nothing_called, none_synced}
use Rattle.mpm_top.proofs.boot.boot.Goals as goal

pub returns-in-Program : goal.returns-in-Program
returns-in-Program g c = record {
  starts = let found = host g.F.Files.contents g.D.Drives.told c.args.files.now c.args.drives.now in
      let disks = g.D.Drives.disks c.args.drives.now in
      let from_file = subst (Holds found.contents c.input.result c.args.name.now) (sym c.as_slice.ensures.value) c.in-Ok.ensures.contents_are in
      let P : Input → Type 0 = λ input. Holds found.contents input c.args.name.now c.as_slice.result.now in
      starts_with_contents found c.args.form Program c.args.name.now c.as_slice.result.now disks c.boot_program.result c.in-Program.is (subst P c.input.ensures from_file)
      (starts_of_program found c.as_slice.result.now disks c.boot_program.result c.boot_program.ensures.program);
  ready = let is = c.boot_program.ensures.program in
      let bytes = c.as_slice.result.now in
      let drives = c.args.drives.now in
      ready_by g.D.Drives drives drives c.boot_program.result (program_at_start g.D.Drives.disks drives bytes c.boot_program.result is)
      (nothing_called c.boot_program.result (g.D.Drives.disks drives))
      (none_synced c.boot_program.result (g.D.Drives.unsynced drives) (program_has_no_drive bytes c.boot_program.result is));
  leaves = record {
    early = memory_early c.boot_program.result c.boot_program.ensures.memory;
    names = either_file c.boot_program.result _ c.in-Ok.ensures.leaves.names;
    files = c.fetch.ensures.leaves.files;
    drives = either_way c.boot_program.result _ refl;
    told = refl;
    asks = λ number was. was;
  };
  reason = first_of (search rules, grind (arith, common_steps));
  missing = first_of (search rules, grind (arith, common_steps));
  missing_script = λ bytes script told fits named missing. absurd (program_names_nothing c.args.form bytes script c.in-Program.is named);
  program = first_of (search rules, grind (arith, common_steps));
  no_drive = λ is. program_has_no_drive c.as_slice.result.now c.boot_program.result c.boot_program.ensures.program;
}

pub returns-in-Err : goal.returns-in-Err
returns-in-Err g c = record {
  starts = first_of (search rules, grind (arith, common_steps));
  ready = first_of (search rules, grind (arith, common_steps));
  leaves = record {
    early = refusal_early c.in-Err.status c.in-Err.ensures.leaves.refusal;
    names = c.in-Err.ensures.leaves.names;
    files = c.fetch.ensures.leaves.files;
    drives = always_disk c.in-Err.status _ refl;
    told = refl;
    asks = λ number was. was;
  };
  reason = first_of (search rules, grind (arith, common_steps));
  missing = first_of (search rules, grind (arith, common_steps));
  missing_script = first_of (search rules, grind (arith, common_steps));
  program = first_of (search rules, grind (arith, common_steps));
  no_drive = first_of (search rules, grind (arith, common_steps));
}

pub returns : goal.returns
returns g c = record {
  starts = let found = host g.F.Files.contents g.D.Drives.told c.args.files.now c.args.drives.now in
      let from_file = subst (Holds found.contents c.input.result c.args.name.now) (sym c.as_slice-in-Run.ensures.value) c.in-Ok.ensures.contents_are in
      let P : Input → Type 0 = λ input. Holds found.contents input c.args.name.now c.as_slice-in-Run.result.now in
      starts_with_contents found c.args.form Run c.args.name.now c.as_slice-in-Run.result.now (g.D.Drives.disks c.boot_machine.new.drives) c.boot_machine.result c.in-Run.is
      (subst P c.input.ensures from_file)
      (subst (λ (contents : Contents). IfOk c.boot_machine.result (λ machine. StartsOf (record found { contents = contents }) Run (λ content. content ≡ c.as_slice-in-Run.result.now)
      machine.value.system machine.value.bdos (g.D.Drives.disks c.boot_machine.new.drives))) (fun_ext c.in-Ok.ensures.leaves.files) c.boot_machine.ensures.starts);
  ready = first_of (search rules, grind (arith, common_steps));
  leaves = let booted = c.boot_machine.ensures.leaves in
      record {
        early = booted.early;
        names = since_fetched c.boot_machine.result _ _ _ c.in-Ok.ensures.leaves.names booted.names;
        files = λ other. booted.files other ∙ c.fetch.ensures.leaves.files other;
        drives = booted.drives;
        told = booted.told;
        asks = booted.asks;
      };
  reason = let found = host g.F.Files.contents g.D.Drives.told c.args.files.now c.args.drives.now in
      let from_file = subst (Holds found.contents c.input.result c.args.name.now) (sym c.as_slice-in-Run.ensures.value) c.in-Ok.ensures.contents_are in
      let P : Input → Type 0 = λ input. Holds found.contents input c.args.name.now c.as_slice-in-Run.result.now in
      let disks = g.D.Drives.disks c.boot_machine.new.drives in
      ends_with_contents disks found c.args.form Run c.args.name.now c.as_slice-in-Run.result.now
      (failed g.F.Files.failed_names g.D.Drives.faults g.D.Drives.failed_names c.args.files.now c.args.drives.now)
      (failed g.F.Files.failed_names g.D.Drives.faults g.D.Drives.failed_names c.boot_machine.new.files c.boot_machine.new.drives) c.boot_machine.result c.in-Run.is
      (subst P c.input.ensures from_file)
      (subst (λ (names : List (List ℕ)). IfErr c.boot_machine.result (λ status. EndsAfter disks found Run (λ content. content ≡ c.as_slice-in-Run.result.now)
      (record { files = names; drives = record { faults = g.D.Drives.faults c.args.drives.now; names = g.D.Drives.failed_names c.args.drives.now } })
      (failed g.F.Files.failed_names g.D.Drives.faults g.D.Drives.failed_names c.boot_machine.new.files c.boot_machine.new.drives) status)) c.in-Ok.ensures.leaves.names
      (subst (λ (contents : Contents). IfErr c.boot_machine.result (λ status. EndsAfter disks (record found { contents = contents }) Run (λ content. content ≡ c.as_slice-in-Run.result.now)
      (failed g.F.Files.failed_names g.D.Drives.faults g.D.Drives.failed_names c.fetch.new.files c.args.drives.now)
      (failed g.F.Files.failed_names g.D.Drives.faults g.D.Drives.failed_names c.boot_machine.new.files c.boot_machine.new.drives) status)) (fun_ext c.in-Ok.ensures.leaves.files) c.boot_machine.ensures.reason));
  missing = first_of (search rules, grind (arith, common_steps));
  missing_script = first_of (search rules, grind (arith, common_steps));
  program = first_of (search rules, grind (arith, common_steps));
  no_drive = first_of (search rules, grind (arith, common_steps));
}
