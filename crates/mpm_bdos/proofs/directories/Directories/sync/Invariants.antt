use Rattle.std.proofs.Common.{◌≡◌, ◌≤◌, ◌+◌, ℕ, false, None, take}
use Rattle.mpm_port.specs.Frames.{SameDrives}
use Rattle.mpm_directories.specs.Places.{directory_at}
use Rattle.mpm_bdos.specs.Syncing.{mounted_count}
use Rattle.mpm_bdos.proofs.SyncLaws.{AreSyncedTo}
use Rattle.mpm_bdos.proofs.directories.Directories.sync.Given as goal

abbrev pub invariant-loop-place : goal.invariant-loop-place
invariant-loop-place g l = record {
  count : g.D.Drives.faults l.drives ≡ g.D.Drives.faults l.initial.drives;
  same : SameDrives g.D.Drives l.initial.drives l.drives;
  none : mounted_count (take l.place-index l.self) ≡ 0 → l.drives ≡ l.initial.drives;
  calls : l.steps ≡ l.initial.steps + mounted_count (take l.place-index l.self);
  synced : AreSyncedTo l.place-index (g.D.Drives.unsynced l.drives) l.self;
  stay : (number : ℕ) → g.D.Drives.unsynced l.initial.drives number ≡ false → g.D.Drives.unsynced l.drives number ≡ false;
  beside : (number : ℕ) → directory_at l.self number ≡ None → g.D.Drives.unsynced l.drives number ≡ g.D.Drives.unsynced l.initial.drives number;
  rest : (number : ℕ) → l.place-index ≤ number → g.D.Drives.unsynced l.drives number ≡ g.D.Drives.unsynced l.initial.drives number;
}
