-- A label and an XFCB that are put, by a password and by what was there.
use Rattle.std.proofs.Common.{◌≡◌, ℕ, List}
use Rattle.mpm_mount.specs.Drives.{Protection}
use Rattle.mpm_file_entries.specs.Protections.{label_put, xfcb_put}

-- a label and an XFCB that are put
pub put_so : (asked : ℕ) (password wanted : List ℕ) (old there : Protection) → password ≡ wanted → old ≡ there → label_put asked password old ≡ label_put asked wanted there
put_so asked password wanted old there e f = λ i. label_put asked (e i) (f i)

pub xfcb_so : (asked : ℕ) (password wanted : List ℕ) (old there : Protection) → password ≡ wanted → old ≡ there → xfcb_put asked password old ≡ xfcb_put asked wanted there
xfcb_so asked password wanted old there e f = λ i. xfcb_put asked (e i) (f i)
