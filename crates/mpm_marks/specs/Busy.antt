-- Drives that a call names and others use: it is refused for these. (MP/M II Programmer's Guide, "Function 37: Reset Drive".)
use Rattle.std.specs.Prelude.{ℕ, ◌&&◌, ◌||◌, Bool, List, ◌==◌, true}
use Rattle.std.specs.List.{list_any, range_with_len}
use Rattle.mpm_opens.specs.Items as items
use Rattle.mpm_opens.specs.Opens.{OpenFiles}
use Rattle.mpm_file_functions.specs.declared.functions.FileFunction.{FileFunction}
use Rattle.mpm_file_functions.specs.declared.functions.FileFunction.TheVariants.{ProtectDisk, ResetDisks}
use Rattle.mpm_marks.specs.Marks.{is_marked, is_bit}

-- the drives that a call on drives names: all, the caller's own, those of the mask in DE
unfoldable pub names : FileFunction → ℕ → ℕ → ℕ → Bool
names ResetDisks own mask drive = true
names ProtectDisk own mask drive = drive == own
names function own mask drive = is_bit mask drive

-- another process has a file open on a drive, or has marked it; where it is protected marks don't count
unfoldable pub is_drive_busy : OpenFiles → List ℕ → ℕ → FileFunction → ℕ → Bool
is_drive_busy opens marks p ProtectDisk drive = items.have_others_on opens.items p drive
is_drive_busy opens marks p function drive = items.have_others_on opens.items p drive || is_marked marks p drive

abbrev pub is_named_busy : OpenFiles → List ℕ → ℕ → FileFunction → ℕ → ℕ → ℕ → Bool
is_named_busy opens marks p function own mask drive = names function own mask drive && is_drive_busy opens marks p function drive

unfoldable pub are_busy : OpenFiles → List ℕ → ℕ → FileFunction → ℕ → ℕ → Bool
are_busy opens marks p function own mask = list_any (is_named_busy opens marks p function own mask) (range_with_len 0 16)
