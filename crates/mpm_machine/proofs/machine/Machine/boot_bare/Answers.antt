use Rattle.std.proofs.Common.{List, subst, rules, arith}
use Rattle.std.proofs.lemmas.Grind.{common_steps}
use Rattle.mpm_machine_file.specs.declared.lists.DriveSpec.{DriveSpec}
use Rattle.mpm_machine.specs.Booting.{LeavesUnlisted}
use Rattle.mpm_machine.proofs.BootingLaws.{stands_bare, leaves_mounted}
use Rattle.mpm_machine.proofs.machine.Machine.boot_bare.Goals as goal

pub returns : goal.returns
returns g c = record {
  booted = first_of (search rules, grind (arith, common_steps));
  bare = first_of (search rules, grind (arith, common_steps));
  disk = first_of (search rules, grind (arith, common_steps));
  stands = stands_bare g.D.Drives.disks (g.D.Drives.told c.args.drives.now) (g.D.Drives.unsynced c.mount.new.drives) c.args.file.now c.in-Ok.mounted c.into_mounted.result.items c.mount.new.drives c.bare.result
      c.requires c.as_slice.ensures c.in-Ok.ensures.mounted c.in-Ok.ensures.fresh c.into_mounted.ensures c.bare.ensures.bdos c.bare.ensures.disk;
  leaves = let mounted = c.in-Ok.ensures in
      let P : List DriveSpec → Type 0 = λ specs. LeavesUnlisted g.D.Drives specs c.args.drives.now c.mount.new.drives c.bare.result in
      subst P c.as_slice.ensures
      (leaves_mounted c.in-Ok.mounted c.bare.result
      (record { count = mounted.count; names = mounted.names; err = tt; told = mounted.told; beside = mounted.beside; asks = mounted.asks; none = mounted.none }) c.bare.ensures.memory);
}
