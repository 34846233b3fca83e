use Rattle.std.proofs.Common.{◌≡◌, ℕ, List}
use Rattle.std.specs.Prelude.{count_by}
use Rattle.mpm_dirent.specs.Names.{plain}
use Rattle.mpm_mount.specs.Drives.{Drive, extents_of}
use Rattle.mpm_mount.specs.Directories.{Stands}
use Rattle.mpm_mount.specs.Searching.{search_of, is_target}
use Rattle.mpm_mount.specs.Attributes.{first_entry}
use Rattle.mpm_mount.proofs.Lowest.{entry_behind}
use Rattle.mpm_mount.proofs.lookups.lowest_entry.Given as goal

abbrev pub invariant-loop-found : goal.invariant-loop-found
invariant-loop-found l = (image : List ℕ) (files : Drive) → Stands image l.mounted files
    → first_entry (extents_of files (record { user = l.user; name = plain l.name })) ≡ entry_behind files (record { user = l.user; name = plain l.name }) l.mounted.kind l.last

abbrev pub decreases-loop-found : goal.decreases-loop-found
decreases-loop-found l = count_by (is_target l.mounted.kind (search_of l.mounted.kind l.user l.name l.last)) l.mounted.entries
