-- Passwords of eight bytes: how directories keep them, and whom they let in. (MP/M II Programmer's Guide, "Extended File
-- Control Blocks", "File Passwords".)
use Rattle.std.specs.Prelude.{◌≡◌, ◌⊎◌, ℕ, ◌%◌, ◌==◌, ◌||◌, not, Bool, true, List, map, reverse, replicate, sum, bit_and, bit_xor, bytes_eq}
use Rattle.mpm_dirent.specs.declared.kinds.XfcbEntry.{XfcbEntry}
use Rattle.mpm_dirent.specs.declared.kinds.LabelEntry.{LabelEntry}
use Rattle.mpm_guard.specs.declared.admission.TheConstants.{PASSWORDS}

-- the decode byte of a password: the sum of its bytes
abbrev pub decode_byte : List ℕ → ℕ
decode_byte password = sum password % 256

-- the password of a decode byte and stored bytes: these in reverse, each XORed with the decode byte
unfoldable pub decoded : ℕ → List ℕ → List ℕ
decoded decode stored = map (λ byte. bit_xor byte decode) (reverse stored)

-- the stored bytes of a password are made of it in the same way
abbrev pub encoded : List ℕ → List ℕ
encoded password = decoded (decode_byte password) password

-- one of two passwords is the one that is kept
abbrev pub has_password : ℕ → List ℕ → List ℕ → List ℕ → Bool
has_password decode stored given default = bytes_eq given (decoded decode stored) || bytes_eq default (decoded decode stored)

-- a byte has one of some bits
abbrev pub has_bit : ℕ → ℕ → Bool
has_bit bits byte = not (bit_and byte bits == 0)

-- a file's XFCB guards nothing of what is needed: by the label's data byte no passwords hold, or the mode has none of the bits
abbrev pub is_unguarded : ℕ → XfcbEntry → ℕ → Bool
is_unguarded label xfcb need = not (has_bit PASSWORDS label) || not (has_bit need xfcb.mode)

-- a process is admitted: without a password where nothing guards, else by the password that it gives or its default one
unfoldable pub is_admitted : ℕ → XfcbEntry → ℕ → List ℕ → List ℕ → Bool
is_admitted label xfcb need given default = is_unguarded label xfcb need || has_password xfcb.decode xfcb.password given default

-- who that is: who knows the password that is kept, or anybody where nothing guards
abbrev pub Knows : ℕ → List ℕ → List ℕ → List ℕ → Type 0
Knows decode stored given default = (given ≡ decoded decode stored) ⊎ (default ≡ decoded decode stored)

abbrev pub MayPass : ℕ → XfcbEntry → ℕ → List ℕ → List ℕ → Type 0
MayPass label xfcb need given default = (is_unguarded label xfcb need ≡ true) ⊎ Knows xfcb.decode xfcb.password given default

-- the label's own password holds where its stored bytes aren't all zero
unfoldable pub is_label_admitted : LabelEntry → List ℕ → List ℕ → Bool
is_label_admitted label given default = bytes_eq label.password (replicate 8 0) || has_password label.decode label.password given default

abbrev pub MayChange : LabelEntry → List ℕ → List ℕ → Type 0
MayChange label given default = (label.password ≡ replicate 8 0) ⊎ Knows label.decode label.password given default
