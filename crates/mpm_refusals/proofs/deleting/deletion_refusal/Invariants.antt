use Rattle.std.proofs.Common.{◌≡◌, ℕ, List, None}
use Rattle.std.specs.Prelude.{option_map, count_by}
use Rattle.mpm_mount.specs.Drives.{Drive}
use Rattle.mpm_mount.specs.Directories.{Stands}
use Rattle.mpm_mount.specs.Searching.{search_of, is_target}
use Rattle.mpm_refusals.specs.Looking.{entry_found}
use Rattle.mpm_refusals.specs.Subjects.{next_in}
use Rattle.mpm_refusals.proofs.Deleted.{is_refused}
use Rattle.mpm_refusals.proofs.deleting.deletion_refusal.Given as goal

abbrev pub invariant-loop-found : goal.invariant-loop-found
invariant-loop-found l = (image : List ℕ) (drive : Drive) → Stands image l.mounted drive
    → next_in drive l.by.user l.pattern (is_refused drive l.opens l.by) None
    ≡ next_in drive l.by.user l.pattern (is_refused drive l.opens l.by) (option_map (entry_found l.mounted.kind l.by.user) l.last)

abbrev pub decreases-loop-found : goal.decreases-loop-found
decreases-loop-found l = count_by (is_target l.mounted.kind (search_of l.mounted.kind l.by.user l.pattern l.last)) l.mounted.entries
