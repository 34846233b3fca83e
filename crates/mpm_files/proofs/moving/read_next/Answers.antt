use Rattle.std.proofs.Common.{refl, sym, subst, ap, ◌∙◌, arith}
use Rattle.mpm_files.specs.declared.work.Work.{Work}
use Rattle.mpm_files.specs.Units.{ReadsRecord}
use Rattle.mpm_files.specs.Plans.{file_of_job}
use Rattle.mpm_files.specs.Serving.{units_done}
use Rattle.mpm_mount.proofs.ReadErrors.{read_error_same}
use Rattle.mpm_files.proofs.NextDone.{IsDone, does_next}
use Rattle.mpm_files.proofs.ReadTurns.{read_now, record_there, record_was_read, reading_failed}
use Rattle.mpm_files.proofs.UnitsLeft.{read_small, few_read, may_read}
use Rattle.mpm_files.proofs.moving.read_next.Goals as goal

pub overflow_add-n : goal.overflow_add-n
overflow_add-n g c = omega (arith, read_small (g.D.Drives.disks c.args.drives.now) c.args.mounted.now c.args.work.now c.requires.left c.requires.sort)

pub read_record-requires : goal.read_record-requires
read_record-requires g c = may_read (g.D.Drives.disks c.args.drives.now) c.args.mounted.now c.args.cache.now c.args.work.now c.requires.ready c.requires.left c.requires.sort

pub keep-requires : goal.keep-requires
keep-requires g c = omega (arith, few_read (g.D.Drives.disks c.args.drives.now) c.args.mounted.now c.args.work.now c.requires.left c.requires.sort)

pub returns-in-Ok : goal.returns-in-Ok
returns-in-Ok g c = record {
  does =
      does_next (g.D.Drives.disks c.args.drives.now) (g.D.Drives.disks c.read_record.new.drives) c.args.mounted.now c.args.mounted.now c.args.work.now _ _
      (ap (λ (w : Work). w.cleared) c.keep.ensures.kept)
      (λ image before job j told suits service h.
      let seen = c.in-Ok.ensures.visible image (units_done before job j) told service.stands
      (sym (read_error_same image c.args.mounted.now (units_done before job j) (file_of_job c.args.work.now.job) (read_now c.args.work.now) service.stands)
      ∙ record_there before job j c.args.work.now service.serving c.requires.sort h) in (
        ReadsRecord (file_of_job c.args.work.now.job) (read_now c.args.work.now),
        (
          subst (λ (w : Work). IsDone before job j w (ReadsRecord (file_of_job c.args.work.now.job) (read_now c.args.work.now))) (sym c.keep.ensures.kept)
              (record_was_read before job j c.args.work.now _ service.serving c.requires.sort h suits.size c.keep.ensures.size
              (omega (arith, few_read (g.D.Drives.disks c.args.drives.now) c.args.mounted.now c.args.work.now c.requires.left c.requires.sort)) seen),
          c.in-Ok.ensures.does image (units_done before job j) told service.stands,
        ),
      ));
  counts = record { units = ap (λ (w : Work). w.units) c.keep.ensures.kept; ended = ap (λ (w : Work). w.ended) c.keep.ensures.kept };
  reads = record {
    calls = c.read_record.ensures.works.calls;
    uncalled = c.read_record.ensures.cached;
    unsynced = c.read_record.ensures.unsynced;
  };
  works = c.in-Ok.ensures.works;
}

pub returns-in-Err : goal.returns-in-Err
returns-in-Err g c = record {
  does = reading_failed (g.D.Drives.disks c.args.drives.now) (g.D.Drives.disks c.read_record.new.drives) c.args.mounted.now c.args.work.now _ c.in-Err.failed c.read_record.ensures.disks;
  counts = record { units = refl; ended = refl };
  reads = record {
    calls = c.read_record.ensures.works.calls;
    uncalled = c.read_record.ensures.cached;
    unsynced = c.read_record.ensures.unsynced;
  };
  works = c.in-Err.ensures.works;
}
