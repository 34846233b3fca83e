use Rattle.std.proofs.Common.{◌≡◌, false, take}
use Rattle.std.specs.List.{list_any}
use Rattle.mpm_mount.specs.Files.{file_in, is_part_of}
use Rattle.mpm_turn_scenes.proofs.suiting.is_missing.Given as goal

abbrev pub invariant-loop-slot : goal.invariant-loop-slot
invariant-loop-slot l = list_any (is_part_of (file_in l.user l.name)) (take l.slot l.mounted.entries) ≡ false
