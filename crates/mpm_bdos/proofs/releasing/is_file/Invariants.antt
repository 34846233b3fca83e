use Rattle.std.proofs.Common.{◌≡◌, ℕ, List}
use Rattle.std.specs.Prelude.{option_map, is_some, count_by}
use Rattle.mpm_mount.specs.Drives.{Drive}
use Rattle.mpm_mount.specs.Directories.{Stands}
use Rattle.mpm_mount.specs.Searching.{search_of, is_target}
use Rattle.mpm_mount.specs.Files.{is_entry_of, has_file}
use Rattle.mpm_refusals.specs.Looking.{entry_found}
use Rattle.mpm_refusals.specs.Subjects.{next_in}
use Rattle.mpm_bdos.proofs.releasing.is_file.Given as goal

abbrev pub invariant-loop-found : goal.invariant-loop-found
invariant-loop-found l = (image : List ℕ) (drive : Drive) → Stands image l.mounted drive
    → has_file drive (record { user = l.user; name = l.name })
    ≡ is_some (next_in drive l.user l.name (is_entry_of (record { user = l.user; name = l.name })) (option_map (entry_found l.mounted.kind l.user) l.last))

abbrev pub decreases-loop-found : goal.decreases-loop-found
decreases-loop-found l = count_by (is_target l.mounted.kind (search_of l.mounted.kind l.user l.name l.last)) l.mounted.entries
