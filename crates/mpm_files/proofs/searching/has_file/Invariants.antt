use Rattle.std.proofs.Common.{◌≡◌, false, take}
use Rattle.std.specs.List.{list_any}
use Rattle.mpm_mount.specs.Files as lookups
use Rattle.mpm_files.proofs.searching.has_file.Given as goal

abbrev pub invariant-loop-slot : goal.invariant-loop-slot
invariant-loop-slot l = list_any (lookups.is_part_of (lookups.file_in l.user l.name)) (take l.slot l.mounted.entries) ≡ false
