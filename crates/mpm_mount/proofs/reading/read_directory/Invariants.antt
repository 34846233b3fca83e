use Rattle.std.proofs.Common.{◌≡◌, ◌*◌, length}
use Rattle.std.specs.Prelude.{IfSome}
use Rattle.std.specs.List.{All}
use Rattle.mpm_blocks.specs.Geometries.{geometry_of}
use Rattle.mpm_blocks.specs.Sectors.{sectors_of}
use Rattle.mpm_dirent.specs.Proper.{IsProper}
use Rattle.mpm_mount.specs.Directories.{IsWholeEntry}
use Rattle.mpm_mount.specs.Images.{entries_to}
use Rattle.mpm_port.specs.Frames.{OnlyCountsFaults}
use Rattle.mpm_mount.proofs.reading.read_directory.Given as goal

abbrev pub invariant-loop-sector : goal.invariant-loop-sector
invariant-loop-sector g l = record {
  entries : IfSome ((g.D.Drives.disks l.initial.drives).image l.drive) (λ image. l.entries.items ≡ entries_to (sectors_of image l.kind) (geometry_of l.kind).wide (4 * l.sector));
  size : length l.entries.items ≡ 4 * l.sector;
  proper : All (IsProper (geometry_of l.kind).wide) l.entries.items;
  whole : All IsWholeEntry l.entries.items;
  count : g.D.Drives.faults l.drives ≡ g.D.Drives.faults l.initial.drives;
  same : OnlyCountsFaults g.D.Drives l.initial.drives l.drives;
}
