use Rattle.std.proofs.Common.{◌≡◌, ◌++◌}
use Rattle.std.specs.List.{All}
use Rattle.mpm_dirent.specs.Proper.{IsProper}
use Rattle.mpm_mount.specs.Directories.{IsWholeEntry}
use Rattle.mpm_mount.specs.Images.{entries_in}
use Rattle.mpm_mount.proofs.reading.push_entries.Given as goal

abbrev pub invariant-loop-place : goal.invariant-loop-place
invariant-loop-place l = record {
  entries : l.entries.items ≡ l.initial.entries.items ++ entries_in l.bytes l.wide l.place;
  proper : All (IsProper l.wide) l.initial.entries.items → All (IsProper l.wide) l.entries.items;
  whole : All IsWholeEntry l.initial.entries.items → All IsWholeEntry l.entries.items;
}
