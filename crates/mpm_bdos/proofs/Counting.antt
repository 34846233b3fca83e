-- How many numbers come before the first that passes a test which depends on the drive for which a directory stands.
use Rattle.std.proofs.Common.{ℕ, Bool, List}
use Rattle.mpm_mount.specs.Drives.{Drive}
use Rattle.mpm_mount.specs.Directories.{Directory, Stands}
use Rattle.mpm_locks.proofs.Counting.{CountsTo, none_counted}

-- the same of a test that depends on the drive for which a directory stands
abbrev pub TestsTo : Directory → (Drive → ℕ → Bool) → ℕ → ℕ → ℕ → Type 0
TestsTo d stops first count k = (image : List ℕ) (drive : Drive) → Stands image d drive → CountsTo (stops drive) first count k

pub none_tested : (d : Directory) (stops : Drive → ℕ → Bool) (first count : ℕ) → TestsTo d stops first count 0
none_tested d stops first count image drive stands = none_counted (stops drive) first count
