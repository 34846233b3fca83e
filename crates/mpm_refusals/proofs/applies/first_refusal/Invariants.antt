use Rattle.std.proofs.Common.{◌≡◌, ℕ, List, drop}
use Rattle.std.specs.Prelude.{find}
use Rattle.mpm_mount.specs.Drives.{Drive}
use Rattle.mpm_mount.specs.Directories.{Stands}
use Rattle.mpm_refusals.specs.Asking.{asks}
use Rattle.mpm_refusals.proofs.applies.first_refusal.Given as goal

abbrev pub invariant-loop-place : goal.invariant-loop-place
invariant-loop-place l = (image : List ℕ) (drive : Drive) → Stands image l.mounted drive
    → find (asks drive l.opens l.marks l.asked) l.refusals ≡ find (asks drive l.opens l.marks l.asked) (drop l.place l.refusals)
