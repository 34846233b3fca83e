-- The drives that are protected from writing. (MP/M II Programmer's Guide, "Function 28: Write Protect Disk", "Function 37: Reset
-- Drive".)
use Rattle.std.specs.Prelude.{ℕ, ◌&&◌, not, Bool, true, false, List, map, replicate, slice_index_or, slice_set}
use Rattle.std.specs.List.{range_with_len}
use Rattle.mpm_marks.specs.Marks.{is_bit}

-- the drives that are protected: none, those but the drives of a mask, and one more
unfoldable pub none_protected : List Bool
none_protected = replicate 16 false

abbrev pub is_still_protected : List Bool → ℕ → ℕ → Bool
is_still_protected protected mask drive = slice_index_or protected drive false && not (is_bit mask drive)

unfoldable pub unprotected : List Bool → ℕ → List Bool
unprotected protected mask = map (is_still_protected protected mask) (range_with_len 0 16)

abbrev pub with_protected : List Bool → ℕ → List Bool
with_protected protected drive = slice_set protected drive true
