use Rattle.std.proofs.Common.{arith, ◌∙◌, sym}
use Rattle.mpm_mount.specs.Directories as directory
use Rattle.mpm_files.specs.Plans as plans
use Rattle.mpm_files.specs.Counting as spec
use Rattle.mpm_files.proofs.WritesCounted.{step_written, stop_written, all_written}
use Rattle.mpm_files.proofs.counting.count_writes.Goals as goal

pub returns-in-Some : goal.returns-in-Some
returns-in-Some c =
    let d = c.args.mounted.now in
    let file = plans.file_of_job c.args.job.now in
    c.failing.ensures
    ∙ stop_written d.kind (spec.lacks_entry d file) (spec.lacks_block d file) (directory.free_entries_in d) (directory.free_records_in d) c.args.job.now.first c.args.job.now.count
    c.loop-k.k c.loop-k.units c.loop-k.room.entries c.loop-k.room.records c.needs_of-needs.result.entry c.needs_of-needs.result.block c.in-Some.error c.loop-k.invariant.counted
    (omega (arith, c.loop-k-test.true, c.from-k-end.ensures)) c.needs_of-needs.ensures.entry c.needs_of-needs.ensures.block (sym c.error.ensures ∙ c.in-Some.is)

pub loop-k-preserved : goal.loop-k-preserved
loop-k-preserved c =
    let d = c.args.mounted.now in
    let file = plans.file_of_job c.args.job.now in
    record {
      counted = step_written d.kind (spec.lacks_entry d file) (spec.lacks_block d file) (directory.free_entries_in d) (directory.free_records_in d) c.args.job.now.first c.args.job.now.count
          c.loop-k.k c.loop-k.units c.loop-k.room.entries c.loop-k.room.records c.kind-kind.result c.needs_of-needs.result.entry c.needs_of-needs.result.block
          c.units-units.result c.after-room.result.entries c.after-room.result.records c.loop-k.invariant.counted c.kind-kind.ensures.kind
          c.needs_of-needs.ensures.entry c.needs_of-needs.ensures.block (sym c.error.ensures ∙ c.in-None.is) c.units-units.ensures.number c.after-room.ensures.entries c.after-room.ensures.records;
      few = omega (arith, c.loop-k.invariant.few, c.units-units.ensures.limit);
    }

pub returns : goal.returns
returns c =
    let d = c.args.mounted.now in
    let file = plans.file_of_job c.args.job.now in
    c.of.ensures
    ∙ all_written d.kind (spec.lacks_entry d file) (spec.lacks_block d file) (directory.free_entries_in d) (directory.free_records_in d) c.args.job.now.first c.args.job.now.count
    c.loop-k.k c.loop-k.units c.loop-k.room.entries c.loop-k.room.records c.loop-k.invariant.counted (omega (arith, c.loop-k.auto.k-end, c.from-k-end.ensures))
