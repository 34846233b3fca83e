use Rattle.std.proofs.Common.{◌≡◌, ℕ, List}
use Rattle.std.specs.Prelude.{option_map, count_by}
use Rattle.mpm_mount.specs.Drives.{Drive}
use Rattle.mpm_mount.specs.Directories.{Stands}
use Rattle.mpm_mount.specs.Searching.{search_of, is_target}
use Rattle.mpm_refusals.specs.Looking.{at_place, entry_found}
use Rattle.mpm_refusals.specs.Subjects.{next_in, found_in}
use Rattle.mpm_refusals.proofs.Behind.{is_sought}
use Rattle.mpm_refusals.proofs.searching.found_in.Given as goal

abbrev pub invariant-loop-found : goal.invariant-loop-found
invariant-loop-found l = (image : List ℕ) (drive : Drive) → Stands image l.mounted drive
    → found_in drive l.user l.pattern l.extent (option_map (at_place l.user) l.behind)
    ≡ next_in drive l.user l.pattern (is_sought drive.kind l.extent (option_map (at_place l.user) l.behind)) (option_map (entry_found l.mounted.kind l.user) l.last)

abbrev pub decreases-loop-found : goal.decreases-loop-found
decreases-loop-found l = count_by (is_target l.mounted.kind (search_of l.mounted.kind l.user l.pattern l.last)) l.mounted.entries
