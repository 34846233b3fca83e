use Rattle.std.proofs.Common.{◌≡◌, ◌≢◌, ℕ, ◌*◌}
use Rattle.mpm_port.specs.Disks.{KeepsTold}
use Rattle.mpm_fault_lines.specs.Lists.{listed}
use Rattle.mpm_repair.specs.Freeing.{FreesOn}
use Rattle.mpm_repair.proofs.writing.free_sectors.Given as goal

abbrev pub invariant-loop-sector : goal.invariant-loop-sector
invariant-loop-sector g l = record {
  frees : FreesOn l.drive l.kind (listed l.slots (4 * l.sector)) (g.D.Drives.disks l.fn.drives) (g.D.Drives.disks l.drives);
  told : KeepsTold ((g.D.Drives.disks l.fn.drives).name_of l.drive) (g.D.Drives.told l.fn.drives) (g.D.Drives.told l.drives);
  count : g.D.Drives.faults l.drives ≡ g.D.Drives.faults l.fn.drives;
  names : g.D.Drives.failed_names l.drives ≡ g.D.Drives.failed_names l.fn.drives;
  beside : (other : ℕ) → other ≢ l.drive → g.D.Drives.unsynced l.drives other ≡ g.D.Drives.unsynced l.fn.drives other;
}
