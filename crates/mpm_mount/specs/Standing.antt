-- What contracts say of each drive for which an image and its directory stand.
use Rattle.std.specs.Prelude.{ℕ, List}
use Rattle.mpm_mount.specs.Drives.{Drive}
use Rattle.mpm_mount.specs.Directories.{Directory, Stands}

-- something is so of each drive for which some image and the directory stand
abbrev pub OnItsDrive : Directory → (Drive → Type 0) → Type 0
OnItsDrive directory P = (image : List ℕ) (drive : Drive) → Stands image directory drive → P drive
