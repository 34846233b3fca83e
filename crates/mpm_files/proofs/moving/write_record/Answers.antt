use Rattle.std.proofs.Common.{◌≡◌, ◌+◌, refl, sym, subst, ap, ◌∙◌, arith}
use Rattle.mpm_files.specs.Units.{WritesRecord}
use Rattle.mpm_files.specs.Plans.{file_of_job, record_at}
use Rattle.mpm_files.specs.Serving.{stamp_left, units_done}
use Rattle.mpm_files.specs.Counting.{lacks_block}
use Rattle.mpm_files.specs.Standing.{DoesUnit}
use Rattle.mpm_files.proofs.NextDone.{does_next}
use Rattle.mpm_files.specs.Stepping.{record_next}
use Rattle.mpm_files.specs.DiskParts.{MayFillBlock}
use Rattle.mpm_files.proofs.UnitsLeft.{next_number, write_small, few_written, may_fill}
use Rattle.mpm_files.proofs.WriteTurns.{bytes_now, stamp_now, record_ready}
use Rattle.mpm_files.proofs.WorkingLaws.{works_within}
use Rattle.mpm_files.proofs.moving.write_record.Goals as goal

pub bytes_at-requires : goal.bytes_at-requires
bytes_at-requires g c = omega (arith, few_written (g.D.Drives.disks c.args.drives.now) c.args.mounted.now c.args.work.now c.requires.left c.requires.sort, c.from-2.ensures)

pub overflow_add-work : goal.overflow_add-work
overflow_add-work g c = omega (arith, few_written (g.D.Drives.disks c.args.drives.now) c.args.mounted.now c.args.work.now c.requires.left c.requires.sort)

pub lacks_block-requires : goal.lacks_block-requires
lacks_block-requires g c = omega (arith, write_small (g.D.Drives.disks c.args.drives.now) c.args.mounted.now c.args.work.now c.requires.left c.requires.sort, c.from.ensures)

pub put_held-requires : goal.put_held-requires
put_held-requires g c = record {
  ready = c.requires.ready;
  number = omega (arith, write_small (g.D.Drives.disks c.args.drives.now) c.args.mounted.now c.args.work.now c.requires.left c.requires.sort, c.from.ensures);
  held = sym c.lacks_block.ensures ∙ c.if-lacks_block.false;
}

pub put_fresh-requires : goal.put_fresh-requires
put_fresh-requires g c =
    let n = next_number c.args.work.now _ c.from.ensures in
    subst (λ k. MayFillBlock (g.D.Drives.disks c.args.drives.now) c.args.mounted.now c.args.cache.now (file_of_job c.args.work.now.job) k c.args.work.now.cleared) n
    (may_fill (g.D.Drives.disks c.args.drives.now) c.args.mounted.now c.args.cache.now c.args.work.now c.requires.ready c.requires.left c.requires.sort c.requires.step
    (ap (lacks_block c.args.mounted.now (file_of_job c.args.work.now.job)) n ∙ sym c.lacks_block.ensures ∙ c.if-lacks_block.true))

pub returns-else-lacks_block : goal.returns-else-lacks_block
returns-else-lacks_block g c = record {
  does =
      does_next (g.D.Drives.disks c.args.drives.now) (g.D.Drives.disks c.put_held.new.drives) c.args.mounted.now c.put_held.new.mounted c.args.work.now _ c.put_held.result refl
      (λ image before job j told suits service h.
      let n = sym (next_number c.args.work.now _ c.from.ensures) in
      let bytes : c.bytes_at.result ≡ bytes_now c.args.work.now = c.bytes_at.ensures ∙ ap (record_at c.args.work.now.job.bytes) c.from-2.ensures in
      let moment : c.stamp.result ≡ stamp_now c.args.work.now = c.stamp.ensures ∙ ap (stamp_left c.args.work.now.job.stamp) c.from-3.ensures in (
        WritesRecord (file_of_job c.args.work.now.job) (record_next c.args.work.now) (bytes_now c.args.work.now) (stamp_now c.args.work.now),
        (
          record_ready image c.args.mounted.now before job j c.args.work.now service.stands service.serving c.requires.sort h c.requires.step,
          subst (λ m. DoesUnit (g.D.Drives.disks c.put_held.new.drives) c.args.mounted.now.drive c.put_held.new.mounted (units_done before job j)
              (WritesRecord (file_of_job c.args.work.now.job) m (bytes_now c.args.work.now) (stamp_now c.args.work.now)) c.put_held.result) n
              (subst (λ b. DoesUnit (g.D.Drives.disks c.put_held.new.drives) c.args.mounted.now.drive c.put_held.new.mounted (units_done before job j)
              (WritesRecord (file_of_job c.args.work.now.job) (c.args.work.now.job.first + c.from.result) b (stamp_now c.args.work.now)) c.put_held.result) bytes
              (subst (λ t. DoesUnit (g.D.Drives.disks c.put_held.new.drives) c.args.mounted.now.drive c.put_held.new.mounted (units_done before job j)
              (WritesRecord (file_of_job c.args.work.now.job) (c.args.work.now.job.first + c.from.result) c.bytes_at.result t) c.put_held.result) moment
              (c.put_held.ensures.does image (units_done before job j) told service.stands))),
        ),
      ));
  counts = record { units = refl; ended = refl };
  works = works_within g.D.Drives 5 20 _ _ _ _ _ _ _ _ _ (omega arith) c.put_held.ensures.works;
}

pub returns-then-lacks_block : goal.returns-then-lacks_block
returns-then-lacks_block g c = record {
  does =
      does_next (g.D.Drives.disks c.args.drives.now) (g.D.Drives.disks c.put_fresh.new.drives) c.args.mounted.now c.put_fresh.new.mounted c.args.work.now _ c.put_fresh.result refl
      (λ image before job j told suits service h.
      let n = sym (next_number c.args.work.now _ c.from.ensures) in
      let bytes : c.bytes_at.result ≡ bytes_now c.args.work.now = c.bytes_at.ensures ∙ ap (record_at c.args.work.now.job.bytes) c.from-2.ensures in
      let moment : c.stamp.result ≡ stamp_now c.args.work.now = c.stamp.ensures ∙ ap (stamp_left c.args.work.now.job.stamp) c.from-3.ensures in (
        WritesRecord (file_of_job c.args.work.now.job) (record_next c.args.work.now) (bytes_now c.args.work.now) (stamp_now c.args.work.now),
        (
          record_ready image c.args.mounted.now before job j c.args.work.now service.stands service.serving c.requires.sort h c.requires.step,
          subst (λ m. DoesUnit (g.D.Drives.disks c.put_fresh.new.drives) c.args.mounted.now.drive c.put_fresh.new.mounted (units_done before job j)
              (WritesRecord (file_of_job c.args.work.now.job) m (bytes_now c.args.work.now) (stamp_now c.args.work.now)) c.put_fresh.result) n
              (subst (λ b. DoesUnit (g.D.Drives.disks c.put_fresh.new.drives) c.args.mounted.now.drive c.put_fresh.new.mounted (units_done before job j)
              (WritesRecord (file_of_job c.args.work.now.job) (c.args.work.now.job.first + c.from.result) b (stamp_now c.args.work.now)) c.put_fresh.result) bytes
              (subst (λ t. DoesUnit (g.D.Drives.disks c.put_fresh.new.drives) c.args.mounted.now.drive c.put_fresh.new.mounted (units_done before job j)
              (WritesRecord (file_of_job c.args.work.now.job) (c.args.work.now.job.first + c.from.result) c.bytes_at.result t) c.put_fresh.result) moment
              (c.put_fresh.ensures.does image (units_done before job j) told service.stands))),
        ),
      ));
  counts = record { units = refl; ended = refl };
  works = c.put_fresh.ensures.works;
}
