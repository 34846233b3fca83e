-- Which sort of entry bytes are, by their first byte.
use Rattle.std.proofs.Common.{◌≡◌, ◌≢◌, ℕ, ◌<◌, ◌≤◌, Bool, List, get_or, arith, eq-eqb, ne_eqb}
use Rattle.std.proofs.lemmas.Bool.{lt-ltb, le-ltb}
use Rattle.mpm_dirent.specs.declared.kinds.Entry.TheVariants.{Free, File, Xfcb, Label, Kept}
use Rattle.mpm_dirent.specs.Entries.{file_of, xfcb_of, label_of, entry_of}

pub is_file : (bytes : List ℕ) (wide : Bool) → get_or bytes 0 0 < 16 → entry_of bytes wide ≡ File (file_of bytes wide)
unfolding entry_of
is_file bytes wide h = rw (lt-ltb (get_or bytes 0 0) 16 h)

pub is_xfcb : (bytes : List ℕ) (wide : Bool) → 16 ≤ get_or bytes 0 0 → get_or bytes 0 0 < 32 → entry_of bytes wide ≡ Xfcb (xfcb_of bytes)
unfolding entry_of
is_xfcb bytes wide low high = rw (le-ltb (get_or bytes 0 0) 16 low, lt-ltb (get_or bytes 0 0) 32 high)

pub is_label : (bytes : List ℕ) (wide : Bool) → get_or bytes 0 0 ≡ 32 → entry_of bytes wide ≡ Label (label_of bytes)
unfolding entry_of
is_label bytes wide h = rw (le-ltb (get_or bytes 0 0) 16 (omega arith), le-ltb (get_or bytes 0 0) 32 (omega arith), eq-eqb (get_or bytes 0 0) 32 h)

pub is_free : (bytes : List ℕ) (wide : Bool) → get_or bytes 0 0 ≡ 229 → entry_of bytes wide ≡ Free
unfolding entry_of
is_free bytes wide h = rw (le-ltb (get_or bytes 0 0) 16 (omega arith), le-ltb (get_or bytes 0 0) 32 (omega arith), ne_eqb (get_or bytes 0 0) 32 (omega arith), eq-eqb (get_or bytes 0 0) 229 h)

pub is_kept : (bytes : List ℕ) (wide : Bool) → 33 ≤ get_or bytes 0 0 → get_or bytes 0 0 ≢ 229 → entry_of bytes wide ≡ Kept bytes
unfolding entry_of
is_kept bytes wide low other = rw (le-ltb (get_or bytes 0 0) 16 (omega arith), le-ltb (get_or bytes 0 0) 32 (omega arith), ne_eqb (get_or bytes 0 0) 32 (omega arith), ne_eqb (get_or bytes 0 0) 229 other)
