use Rattle.std.proofs.Common.{◌≡◌, ◌+◌, ◌<◌, true}
use Rattle.mpm_sectors.specs.Writes.{AreWritten, zeros_from}
use Rattle.mpm_sectors.specs.Disks.{LeavesDisks}
use Rattle.mpm_sectors.proofs.disk.Disk.clear.Given as goal

abbrev pub invariant-loop-number : goal.invariant-loop-number
invariant-loop-number g l = record {
  written : AreWritten l.self.drive l.self.kind (zeros_from l.first l.number) (g.D.Drives.disks l.initial.drives) (g.D.Drives.disks l.drives);
  calls : l.steps ≡ l.initial.steps + l.number;
  leaves : LeavesDisks g.D.Drives.disks g.D.Drives.told g.D.Drives.failed_names g.D.Drives.unsynced l.self.drive l.initial.cache l.cache l.initial.drives l.drives;
  unsynced : 0 < l.number → g.D.Drives.unsynced l.drives l.self.drive ≡ true;
  faults : g.D.Drives.faults l.drives ≡ g.D.Drives.faults l.initial.drives;
}
