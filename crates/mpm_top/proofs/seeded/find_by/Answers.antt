use Rattle.std.proofs.Common.{◌∙◌, sym, ap, subst, rules, arith}
use Rattle.std.proofs.lemmas.Grind.{common_steps}
use Rattle.std.specs.Prelude.{option_map}
use Rattle.mpm_port.specs.MemoryDisks.{disks_of}
use Rattle.mpm_directories.specs.Places.{directory_at}
use Rattle.mpm_bdos.specs.Turns.{drive_and_kind}
use Rattle.mpm_machine.specs.declared.machine.Machine.{Machine}
use Rattle.mpm_top.specs.Beginnings.{IsAtStart}
use Rattle.mpm_top.proofs.BootLaws.{stands_inside}
use Rattle.mpm_machine.proofs.SettlingLaws.{nobody_yet}
use Rattle.mpm_top.specs.Seeds.{drive_a}
use Rattle.mpm_top.proofs.SeedLaws.{BeginsSeeded, begins_booted, size_booted, no_image_fault, first_drive, opened_as, are_found}
use Rattle.mpm_top.proofs.seeded.find_by.Goals as goal

pub find_of-requires : goal.find_of-requires
find_of-requires c = record {
  begins = let booted = c.in-Ok.ensures in
      subst (λ (m : Machine). IsAtStart disks_of m c.boot.new.drives) (sym c.deref_mut.ensures.value)
      (record {
        between = record { whole = booted.whole; no_completions = booted.no_completions; holds = booted.stands.holds };
        start = booted.start;
        idle = nobody_yet c.in-Ok.machine.value.system.kernel.disk c.args.file.now.disk_turn booted.disk;
      });
  limit = first_of (search rules, grind (arith, common_steps));
  size = size_booted c.args.file.now (disks_of c.boot.new.drives) _ c.in-Ok.machine.value.bdos c.requires.are.machine c.in-Ok.ensures.stands.mounted;
  drive = ap (λ (m : Machine). option_map drive_and_kind (directory_at m.bdos.mounted 0)) c.deref_mut.ensures.value
      ∙ first_drive (disks_of c.boot.new.drives) c.args.file.now c.in-Ok.machine.value.bdos.mounted c.requires.are.machine c.in-Ok.ensures.stands.each;
}

pub unreachable-requires : goal.unreachable-requires
unreachable-requires c =
    no_image_fault c.args.asked.seed (disks_of c.boot.new.drives) c.args.file.now c.args.drives.now _ _ c.in-Err-Image.field-0 _ _ _ c.in-Err-Image.field-0-is c.requires.are.machine c.requires.are.drives c.in-Err-Image.ensures.leaves.err

pub returns-in-Ok : goal.returns-in-Ok
returns-in-Ok c =
    let system = c.deref_mut.result.now.system in
    let disks = disks_of c.boot.new.drives in
    let begins : BeginsSeeded c.args.asked.seed system c.deref_mut.result.now.bdos disks =
    begins_booted c.args.asked.seed c.args.file.now c.args.drives.now system c.deref_mut.result.now.bdos disks c.requires.are.machine c.requires.are.drives (stands_inside c.deref_mut.ensures.value c.in-Ok.ensures.stands).files in
    are_found c.args.asked.seed c.args.asked.steps system begins.files c.find_of.result begins.are
    (opened_as system c.args.file.now c.args.script (ap (λ (m : Machine). m.system) c.deref_mut.ensures.value ∙ c.in-Ok.ensures.opening) c.requires.are.machine c.requires.are.script)
    (c.find_of.ensures (drive_a begins.files) begins.stand)
