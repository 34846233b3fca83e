use Rattle.std.specs.Prelude.{count_by}
use Rattle.mpm_mount.specs.Searching.{search_of, is_target}
use Rattle.mpm_file_entries.proofs.SizeLaws.{Walked}
use Rattle.mpm_file_entries.proofs.sizes.size.Given as goal

abbrev pub invariant-loop-found : goal.invariant-loop-found
invariant-loop-found l = Walked l.mounted l.user l.name l.last l.size

abbrev pub decreases-loop-found : goal.decreases-loop-found
decreases-loop-found l = count_by (is_target l.mounted.kind (search_of l.mounted.kind l.user l.name l.last)) l.mounted.entries
