-- How many directory entries are free, and how many a call needs.
use Rattle.std.proofs.Common.{◌≡◌, ◌∙◌, ℕ, Bool, ap}
use Rattle.std.specs.Prelude.{nat_lt}
use Rattle.mpm_mount.specs.Drives.{FileName, Drive, free_entries}
use Rattle.mpm_fcb.specs.declared.block.ControlBlock.{ControlBlock}
use Rattle.mpm_file_functions.specs.declared.functions.FileFunction.{FileFunction}
use Rattle.mpm_mount.specs.Looking.{data_byte}
use Rattle.mpm_refusals.specs.Refusals.{makes_xfcb, lacks_xfcb, lacks_label, needed_by, entries_needed, is_directory_full}

pub needed_so : (drive : Drive) (file : FileName) (b : ControlBlock) (function : FileFunction) (label : ℕ) (no_xfcb no_label : Bool) → label ≡ data_byte drive → no_xfcb ≡ lacks_xfcb drive file
    → no_label ≡ lacks_label drive → needed_by function (makes_xfcb label b) no_xfcb no_label ≡ entries_needed drive file b function
needed_so drive file b function label no_xfcb no_label one two three =
    ap (λ l. needed_by function (makes_xfcb l b) no_xfcb no_label) one ∙ ap (λ x. needed_by function (makes_xfcb (data_byte drive) b) x no_label) two
    ∙ ap (needed_by function (makes_xfcb (data_byte drive) b) (lacks_xfcb drive file)) three

pub full_so : (drive : Drive) (file : FileName) (b : ControlBlock) (function : FileFunction) (free needed : ℕ) → free ≡ free_entries drive → needed ≡ entries_needed drive file b function
    → nat_lt free needed ≡ is_directory_full drive file b function
unfolding is_directory_full
full_so drive file b function free needed one two = ap (λ n. nat_lt n needed) one ∙ ap (nat_lt (free_entries drive)) two
