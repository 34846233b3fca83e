use Rattle.std.proofs.Common.{◌≡◌, ◌≤◌, take}
use Rattle.std.specs.Prelude.{count_by}
use Rattle.mpm_files.specs.Counting as spec
use Rattle.mpm_files.proofs.searching.count_entries.Given as goal

abbrev pub invariant-loop-slot : goal.invariant-loop-slot
invariant-loop-slot l = record {
  count : l.count ≡ count_by (spec.is_sought l.mounted l.job l.sought) (take l.slot l.mounted.entries);
  few : l.count ≤ l.slot;
}
