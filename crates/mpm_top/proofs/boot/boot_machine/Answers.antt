use Rattle.std.proofs.Common.{◌∙◌, Err, sym, ap, refl, rules, arith}
use Rattle.std.proofs.lemmas.Grind.{common_steps}
use Rattle.mpm_machine.proofs.SettlingLaws.{nobody_yet}
use Rattle.mpm_top.specs.Beginnings.{host, failed}
use Rattle.mpm_top.proofs.BootLaws.{no_machine, names_nothing, script_of_file, starts_of_file, ends_unread, ends_unmounted, unless_disk, refusal_early}
use Rattle.mpm_top.proofs.StatusLaws.{always_disk, always_file}
use Rattle.mpm_top.proofs.Syncing.{keeps_unmounted}
use Rattle.mpm_top.proofs.boot.boot_machine.Goals as goal

-- its file is no machine file, or there was no memory

pub returns-in-Err-Fault : goal.returns-in-Err-Fault
returns-in-Err-Fault g c = record {
  starts = first_of (search rules, grind (arith, common_steps));
  ready = first_of (search rules, grind (arith, common_steps));
  leaves = record { early = tt; names = refl; files = λ other. refl; drives = refl; told = refl; asks = λ number was. was };
  reason = no_machine c.args.bytes.now (c.in-Err-Fault.ensures.fault (ap Err c.in-Err-Fault.field-0-is));
  missing = λ script named missing. absurd (names_nothing c.args.bytes.now script (c.in-Err-Fault.ensures.fault (ap Err c.in-Err-Fault.field-0-is)) named);
}

pub returns-in-Err : goal.returns-in-Err
returns-in-Err g c = record {
  starts = first_of (search rules, grind (arith, common_steps));
  ready = first_of (search rules, grind (arith, common_steps));
  leaves = let left = c.in-Err.ensures.leaves in
      record {
        early = refusal_early c.in-Err.status left.refusal;
        names = left.names;
        files = c.read_script_of.ensures.leaves.files;
        drives = always_disk c.in-Err.status _ refl;
        told = refl;
        asks = λ number was. was;
      };
  reason = ends_unread (g.D.Drives.disks c.args.drives.now) (host g.F.Files.contents g.D.Drives.told c.args.files.now c.args.drives.now) c.args.bytes.now c.in-Ok.file
      (failed g.F.Files.failed_names g.D.Drives.faults g.D.Drives.failed_names c.args.files.now c.args.drives.now)
      (failed g.F.Files.failed_names g.D.Drives.faults g.D.Drives.failed_names c.read_script_of.new.files c.args.drives.now)
      c.in-Err.status c.in-Ok.ensures.ok c.in-Err.ensures.named c.in-Err.ensures.reason;
  missing = λ script named missing. c.in-Err.ensures.missing script (sym (script_of_file c.args.bytes.now c.in-Ok.file c.in-Ok.ensures.ok) ∙ named) missing;
}

-- it was booted

pub returns-in-Ok-boot : goal.returns-in-Ok-boot
returns-in-Ok-boot g c = record {
  starts = starts_of_file (host g.F.Files.contents g.D.Drives.told c.args.files.now c.args.drives.now) c.args.bytes.now c.in-Ok.file c.in-Ok-read_script_of.script
      c.in-Ok-boot.machine.value.system (g.D.Drives.disks c.boot.new.drives) c.in-Ok-boot.machine.value.bdos c.in-Ok.ensures.ok
      c.in-Ok-read_script_of.ensures.scripted c.in-Ok-boot.ensures.opening c.in-Ok-boot.ensures.stands.files c.in-Ok-boot.ensures.stands.each
      (nobody_yet c.in-Ok-boot.machine.value.system.kernel.disk c.in-Ok.file.disk_turn c.in-Ok-boot.ensures.disk);
  ready = let booted = c.in-Ok-boot.ensures in
      record {
        begins = record {
          between = record { whole = booted.whole; no_completions = booted.no_completions; holds = booted.stands.holds };
          start = booted.start;
          idle = nobody_yet c.in-Ok-boot.machine.value.system.kernel.disk c.in-Ok.file.disk_turn booted.disk;
        };
        beside = keeps_unmounted c.in-Ok.file.drives (g.D.Drives.disks c.args.drives.now) (g.D.Drives.disks c.boot.new.drives) c.in-Ok-boot.machine.value.bdos.mounted c.boot.ensures.leaves.beside
            booted.stands.each;
        fresh = booted.stands.fresh;
      };
  leaves = record {
    early = tt;
    names = c.in-Ok-read_script_of.ensures.leaves.names;
    files = c.read_script_of.ensures.leaves.files;
    drives = λ i. record { faults = c.in-Ok-boot.ensures.leaves.count i; names = c.in-Ok-boot.ensures.leaves.names i };
    told = c.boot.ensures.leaves.told;
    asks = c.boot.ensures.leaves.asks.write;
  };
  reason = first_of (search rules, grind (arith, common_steps));
  missing = λ script named missing. c.in-Ok-read_script_of.ensures.missing script (sym (script_of_file c.args.bytes.now c.in-Ok.file c.in-Ok.ensures.ok) ∙ named) missing;
}

pub returns : goal.returns
returns g c = record {
  starts = first_of (search rules, grind (arith, common_steps));
  ready = first_of (search rules, grind (arith, common_steps));
  leaves = record {
    early = search rules;
    names = always_file c.refusal.result _ c.in-Ok-read_script_of.ensures.leaves.names;
    files = c.read_script_of.ensures.leaves.files;
    drives = unless_disk (g.D.Drives.disks c.boot.new.drives) (g.D.Drives.told c.args.drives.now) c.in-Ok.file.drives _ _ c.in-Err-boot.error c.refusal.result _ c.refusal.ensures c.in-Err-boot.ensures.leaves.err (λ same. same);
    told = c.boot.ensures.leaves.told;
    asks = c.boot.ensures.leaves.asks.write;
  };
  reason = ends_unmounted (g.D.Drives.disks c.boot.new.drives) (host g.F.Files.contents g.D.Drives.told c.args.files.now c.args.drives.now) c.args.bytes.now c.in-Ok.file c.in-Ok-read_script_of.script
      (failed g.F.Files.failed_names g.D.Drives.faults g.D.Drives.failed_names c.args.files.now c.args.drives.now)
      (failed g.F.Files.failed_names g.D.Drives.faults g.D.Drives.failed_names c.read_script_of.new.files c.boot.new.drives)
      c.in-Err-boot.error c.refusal.result c.refusal.ensures c.in-Ok.ensures.ok c.in-Ok-read_script_of.ensures.scripted c.in-Err-boot.ensures.leaves.err;
  missing = λ script named missing. absurd (c.in-Ok-read_script_of.ensures.missing script (sym (script_of_file c.args.bytes.now c.in-Ok.file c.in-Ok.ensures.ok) ∙ named) missing);
}
