-- The lengths of the parts of an entry that 32 bytes mean.
use Rattle.std.proofs.Common.{◌≡◌, ℕ, ◌+◌, ◌≤◌, Bool, true, false, cond, List, length, drop, refl, arith}
use Rattle.std.proofs.lemmas.List.{length-drop, length-take-le}
use Rattle.mpm_dirent.specs.declared.kinds.Entry.TheVariants.{Free, File, Xfcb, Label, Kept}
use Rattle.mpm_dirent.specs.Entries.{part, blocks_of, file_of, xfcb_of, label_of, entry_of}
use Rattle.mpm_dirent.specs.Proper.{HasSizes}

pub part_size : (from count : ℕ) (bytes : List ℕ) → from + count ≤ length bytes → length (part from count bytes) ≡ count
part_size from count bytes h = length-take-le count (drop from bytes) (omega (arith, length-drop from bytes))

pub blocks_size : (wide : Bool) (map_bytes : List ℕ) → length map_bytes ≡ 16 → length (blocks_of map_bytes wide) ≡ 16
unfolding blocks_of
blocks_size true map_bytes h = refl
blocks_size false map_bytes h = h

file_sizes : (bytes : List ℕ) (wide : Bool) → length bytes ≡ 32 → HasSizes (File (file_of bytes wide))
unfolding file_of
file_sizes bytes wide h =
    (part_size 1 11 bytes (omega arith), blocks_size wide (part 16 16 bytes) (part_size 16 16 bytes (omega arith)))

xfcb_sizes : (bytes : List ℕ) → length bytes ≡ 32 → HasSizes (Xfcb (xfcb_of bytes))
unfolding xfcb_of
xfcb_sizes bytes h =
    (part_size 1 11 bytes (omega arith), part_size 16 8 bytes (omega arith), part_size 24 4 bytes (omega arith), part_size 28 4 bytes (omega arith))

label_sizes : (bytes : List ℕ) → length bytes ≡ 32 → HasSizes (Label (label_of bytes))
unfolding label_of
label_sizes bytes h =
    (part_size 1 11 bytes (omega arith), part_size 16 8 bytes (omega arith), part_size 24 4 bytes (omega arith), part_size 28 4 bytes (omega arith))

chosen_sizes : (a b c d : Bool) (bytes : List ℕ) (wide : Bool) → length bytes ≡ 32
    → HasSizes (cond a (File (file_of bytes wide)) (cond b (Xfcb (xfcb_of bytes)) (cond c (Label (label_of bytes)) (cond d Free (Kept bytes)))))
chosen_sizes true b c d bytes wide h = file_sizes bytes wide h
chosen_sizes false true c d bytes wide h = xfcb_sizes bytes h
chosen_sizes false false true d bytes wide h = label_sizes bytes h
chosen_sizes false false false true bytes wide h = tt
chosen_sizes false false false false bytes wide h = tt

pub entry_sizes : (bytes : List ℕ) (wide : Bool) → length bytes ≡ 32 → HasSizes (entry_of bytes wide)
unfolding entry_of
entry_sizes bytes wide h = chosen_sizes _ _ _ _ bytes wide h
