use Rattle.std.proofs.Common.{◌≤◌, ◌*◌}
use Rattle.mpm_mount.specs.Directories as directory
use Rattle.mpm_files.specs.Plans as plans
use Rattle.mpm_files.specs.Counting as spec
use Rattle.mpm_files.proofs.WritesCounted.{WrittenTo}
use Rattle.mpm_files.proofs.counting.count_writes.Given as goal

abbrev pub invariant-loop-k : goal.invariant-loop-k
invariant-loop-k l = record {
  counted : WrittenTo l.mounted.kind (spec.lacks_entry l.mounted (plans.file_of_job l.job)) (spec.lacks_block l.mounted (plans.file_of_job l.job))
      (directory.free_entries_in l.mounted) (directory.free_records_in l.mounted) l.job.first l.job.count l.k l.units l.room.entries l.room.records;
  few : l.units ≤ 3 * l.k;
}
