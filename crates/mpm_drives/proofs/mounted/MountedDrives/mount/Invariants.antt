use Rattle.std.proofs.Common.{◌≡◌, take}
use Rattle.mpm_drives.specs.Mounted.{AreMounted, AreSynced, SameBeside, AsksNothing}
use Rattle.mpm_drives.proofs.mounted.MountedDrives.mount.Given as goal

abbrev pub invariant-loop-spec : goal.invariant-loop-spec
invariant-loop-spec g l = record {
  mounted : AreMounted (g.D.Drives.disks l.drives) (g.D.Drives.told l.initial.drives) (take l.spec-index l.specs) l.items.items;
  beside : SameBeside l.specs (g.D.Drives.disks l.initial.drives) (g.D.Drives.disks l.drives);
  none : l.spec-index ≡ 0 → l.drives ≡ l.initial.drives;
  count : g.D.Drives.faults l.drives ≡ g.D.Drives.faults l.initial.drives;
  names : g.D.Drives.failed_names l.drives ≡ g.D.Drives.failed_names l.initial.drives;
  fresh : AreSynced (g.D.Drives.unsynced l.drives) l.items.items;
  asks : AsksNothing l.specs (g.D.Drives.unsynced l.initial.drives) (g.D.Drives.unsynced l.drives);
  told : g.D.Drives.told l.drives ≡ g.D.Drives.told l.initial.drives;
}
