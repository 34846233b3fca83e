use Rattle.std.proofs.Common.{arith, ◌∙◌, sym}
use Rattle.mpm_files.specs.Plans as plans
use Rattle.mpm_mount.specs.Records as spec
use Rattle.mpm_files.proofs.ReadCounts.{one_read, read_stop, all_read}
use Rattle.mpm_files.proofs.counting.count_reads.Goals as goal

pub returns-in-Some : goal.returns-in-Some
returns-in-Some c =
    c.failing.ensures
    ∙ read_stop (spec.record_error c.args.mounted.now (plans.file_of_job c.args.job.now)) c.args.job.now.first c.args.job.now.count c.loop-k.k c.in-Some.error c.loop-k.invariant
    (omega (arith, c.loop-k-test.true, c.from-count.ensures)) (sym c.record_error.ensures ∙ c.in-Some.is)

pub loop-k-preserved : goal.loop-k-preserved
loop-k-preserved c =
    one_read (spec.record_error c.args.mounted.now (plans.file_of_job c.args.job.now)) c.args.job.now.first c.args.job.now.count c.loop-k.k c.loop-k.invariant
    (sym c.record_error.ensures ∙ c.in-None.is)

pub returns : goal.returns
returns c =
    c.of.ensures
    ∙ all_read (spec.record_error c.args.mounted.now (plans.file_of_job c.args.job.now)) c.args.job.now.first c.args.job.now.count c.loop-k.k c.from-count.result c.loop-k.invariant
    (omega arith) c.from-count.ensures
