use Rattle.mpm_files.specs.Plans as plans
use Rattle.mpm_mount.specs.Records as spec
use Rattle.mpm_files.proofs.ReadCounts.{ReadTo}
use Rattle.mpm_files.proofs.counting.count_reads.Given as goal

abbrev pub invariant-loop-k : goal.invariant-loop-k
invariant-loop-k l = ReadTo (spec.record_error l.mounted (plans.file_of_job l.job)) l.job.first l.job.count l.k
