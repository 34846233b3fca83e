-- Entries that are read have the lengths of their arrays.
use Rattle.std.proofs.Common.{◌≡◌, ℕ, Bool, true, false, cond, List, length}
use Rattle.mpm_dirent.specs.declared.kinds.Entry.TheVariants.{Free, File, Xfcb, Label, Kept}
use Rattle.mpm_dirent.specs.Entries.{file_of, xfcb_of, label_of, entry_of}
use Rattle.mpm_dirent.specs.Proper.{HasSizes}
use Rattle.mpm_dirent.proofs.Lengths.{entry_sizes}
use Rattle.mpm_mount.specs.Directories.{IsWholeEntry}

by_sort : (a b c d : Bool) (bytes : List ℕ) (wide : Bool) → length bytes ≡ 32
    → HasSizes (cond a (File (file_of bytes wide)) (cond b (Xfcb (xfcb_of bytes)) (cond c (Label (label_of bytes)) (cond d Free (Kept bytes)))))
    → IsWholeEntry (cond a (File (file_of bytes wide)) (cond b (Xfcb (xfcb_of bytes)) (cond c (Label (label_of bytes)) (cond d Free (Kept bytes)))))
by_sort true b c d bytes wide size sizes = sizes
by_sort false true c d bytes wide size sizes = sizes
by_sort false false true d bytes wide size sizes = sizes
by_sort false false false true bytes wide size sizes = tt
by_sort false false false false bytes wide size sizes = size

pub entry_whole : (bytes : List ℕ) (wide : Bool) → length bytes ≡ 32 → IsWholeEntry (entry_of bytes wide)
unfolding entry_of
entry_whole bytes wide size = by_sort _ _ _ _ bytes wide size (entry_sizes bytes wide size)
