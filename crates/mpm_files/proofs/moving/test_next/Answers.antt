use Rattle.std.proofs.Common.{◌≡◌, ◌+◌, true, false, Some, refl, sym, subst, ap, ◌∙◌, arith}
use Rattle.mpm_base.proofs.Tests.{not_back}
use Rattle.std.specs.Prelude.{bytes_eq}
use Rattle.mpm_mount.specs.Drives.{record_of}
use Rattle.mpm_files.specs.Units.{PassesRecord, WritesRecord}
use Rattle.mpm_files.specs.Plans.{file_of_job, record_at, has_record}
use Rattle.mpm_files.specs.Serving.{units_done}
use Rattle.mpm_files.specs.Standing.{DoesUnit}
use Rattle.mpm_files.proofs.NextDone.{does_next}
use Rattle.mpm_files.proofs.TestTurns.{test_now, stamp_now, writes_now, still_passed, first_passed, test_passed, has_there, passes}
use Rattle.mpm_files.proofs.ReadTurns.{read_now, read_stands, reading_passed}
use Rattle.mpm_files.proofs.UnitsLeft.{few_tested, may_test}
use Rattle.mpm_files.proofs.WorkingLaws.{works_not, works_within, works_passed, works_then, ready_behind}
use Rattle.mpm_files.proofs.moving.test_next.Goals as goal

pub overflow_add-n : goal.overflow_add-n
overflow_add-n g c = let few = few_tested (g.D.Drives.disks c.args.drives.now) c.args.mounted.now c.args.work.now c.requires.left c.requires.sort in omega (arith, few.number)

pub bytes_at-requires : goal.bytes_at-requires
bytes_at-requires g c = let few = few_tested (g.D.Drives.disks c.args.drives.now) c.args.mounted.now c.args.work.now c.requires.left c.requires.sort in omega (arith, few.more, few.count)

pub bytes_at-requires-2 : goal.bytes_at-requires-2
bytes_at-requires-2 g c = let few = few_tested (g.D.Drives.disks c.args.drives.now) c.args.mounted.now c.args.work.now c.requires.left c.requires.sort in omega (arith, few.more, few.count, c.from.ensures)

pub overflow_add-work : goal.overflow_add-work
overflow_add-work g c = let few = few_tested (g.D.Drives.disks c.args.drives.now) c.args.mounted.now c.args.work.now c.requires.left c.requires.sort in omega (arith, few.moved)

pub read_record-requires : goal.read_record-requires
read_record-requires g c = may_test (g.D.Drives.disks c.args.drives.now) c.args.mounted.now c.args.cache.now c.args.work.now c.requires.ready c.requires.left c.requires.sort

pub returns-then-work : goal.returns-then-work
returns-then-work g c = record {
  does =
      does_next (g.D.Drives.disks c.args.drives.now) (g.D.Drives.disks c.args.drives.now) c.args.mounted.now c.args.mounted.now c.args.work.now _ _ refl
      (λ image before job j told suits service h. (
        PassesRecord (file_of_job c.args.work.now.job) (read_now c.args.work.now),
        (
          still_passed before job j c.args.work.now service.serving c.requires.sort h c.if-work.true,
          passes (g.D.Drives.disks c.args.drives.now) c.args.mounted.now (units_done before job j) (file_of_job c.args.work.now.job) (read_now c.args.work.now) tt
              (record { image = image; told = told; stands = service.stands }),
        ),
      ));
  counts = record { units = refl; ended = refl };
  works = works_not g.D.Drives _ _ _ _ _ _ c.requires.ready.coherent;
}

pub returns-in_err-read_record : goal.returns-in_err-read_record
returns-in_err-read_record g c = record {
  does =
      reading_passed (g.D.Drives.disks c.args.drives.now) (g.D.Drives.disks c.read_record.new.drives) c.args.mounted.now c.args.work.now _ c.from_residual.result c.from_residual.ensures.0 c.read_record.ensures.disks;
  counts = record { units = refl; ended = refl };
  works = works_passed g.D.Drives 1 6 _ _ _ _ _ _ _ _ _ c.from_residual.result (omega arith) c.from_residual.ensures.0 c.in_err-read_record.ensures.works;
}

pub returns-then-ne : goal.returns-then-ne
returns-then-ne g c = record {
  does =
      does_next (g.D.Drives.disks c.args.drives.now) (g.D.Drives.disks c.read_record.new.drives) c.args.mounted.now c.args.mounted.now c.args.work.now _ _ refl
      (λ image before job j told suits service h.
      let there : record_of (units_done before job j) (file_of_job c.args.work.now.job) (read_now c.args.work.now) ≡ Some c.read_record.new.out =
      c.in_ok-read_record.ensures.held image (units_done before job j) told service.stands in
      let has : has_record (units_done before job j) (file_of_job c.args.work.now.job) (read_now c.args.work.now) (test_now c.args.work.now).expected ≡ false =
      has_there (units_done before job j) (file_of_job c.args.work.now.job) (read_now c.args.work.now) c.read_record.new.out (test_now c.args.work.now).expected there
      ∙ ap (bytes_eq c.read_record.new.out) (sym c.bytes_at.ensures) ∙ not_back (bytes_eq c.read_record.new.out c.bytes_at.result) true c.if-ne.ensures in (
        PassesRecord (file_of_job c.args.work.now.job) (read_now c.args.work.now),
        (
          first_passed before job j c.args.work.now service.serving c.requires.sort h c.if-work.false has,
          passes (g.D.Drives.disks c.read_record.new.drives) c.args.mounted.now (units_done before job j) (file_of_job c.args.work.now.job) (read_now c.args.work.now) tt
              (read_stands image c.args.mounted.now (units_done before job j) (g.D.Drives.disks c.args.drives.now) (g.D.Drives.disks c.read_record.new.drives) told service.stands c.read_record.ensures.disks),
        ),
      ));
  counts = record { units = refl; ended = refl };
  works = works_within g.D.Drives 1 6 _ _ _ _ _ _ _ _ _ (omega arith) c.in_ok-read_record.ensures.works;
}

pub put_held-requires : goal.put_held-requires
put_held-requires g c = record {
  ready = ready_behind g.D.Drives _ _ _ _ _ _ _ _ _ _ c.requires.ready c.read_record.ensures.works;
  number = (may_test (g.D.Drives.disks c.args.drives.now) c.args.mounted.now c.args.cache.now c.args.work.now c.requires.ready c.requires.left c.requires.sort).number;
  held = (may_test (g.D.Drives.disks c.args.drives.now) c.args.mounted.now c.args.cache.now c.args.work.now c.requires.ready c.requires.left c.requires.sort).held;
}

pub returns : goal.returns
returns g c = record {
  does =
      does_next (g.D.Drives.disks c.args.drives.now) (g.D.Drives.disks c.put_held.new.drives) c.args.mounted.now c.put_held.new.mounted c.args.work.now _ c.put_held.result refl
      (λ image before job j told suits service h.
      let there : record_of (units_done before job j) (file_of_job c.args.work.now.job) (read_now c.args.work.now) ≡ Some c.read_record.new.out =
      c.in_ok-read_record.ensures.held image (units_done before job j) told service.stands in
      let has : has_record (units_done before job j) (file_of_job c.args.work.now.job) (read_now c.args.work.now) (test_now c.args.work.now).expected ≡ true =
      has_there (units_done before job j) (file_of_job c.args.work.now.job) (read_now c.args.work.now) c.read_record.new.out (test_now c.args.work.now).expected there
      ∙ ap (bytes_eq c.read_record.new.out) (sym c.bytes_at.ensures) ∙ not_back (bytes_eq c.read_record.new.out c.bytes_at.result) false c.if-ne.ensures in
      let bytes : c.bytes_at-2.result ≡ (test_now c.args.work.now).bytes = c.bytes_at-2.ensures ∙ ap (λ k. record_at c.args.work.now.job.bytes (k + c.args.work.now.ended)) c.from.ensures in (
        writes_now c.args.work.now,
        (
          test_passed before job j c.args.work.now service.serving c.requires.sort h c.if-work.false has,
          subst (λ b. DoesUnit (g.D.Drives.disks c.put_held.new.drives) c.args.mounted.now.drive c.put_held.new.mounted (units_done before job j)
              (WritesRecord (file_of_job c.args.work.now.job) (read_now c.args.work.now) b (stamp_now c.args.work.now)) c.put_held.result) bytes
              (subst (λ t. DoesUnit (g.D.Drives.disks c.put_held.new.drives) c.args.mounted.now.drive c.put_held.new.mounted (units_done before job j)
              (WritesRecord (file_of_job c.args.work.now.job) (read_now c.args.work.now) c.bytes_at-2.result t) c.put_held.result) c.stamp.ensures
              (c.put_held.ensures.does image (units_done before job j)
              (ap (λ x. x.image c.args.mounted.now.drive) c.read_record.ensures.disks ∙ told) service.stands)),
        ),
      ));
  counts = record { units = refl; ended = refl };
  works = works_then g.D.Drives 1 5 6 _ _ _ _ _ _ _ _ _ _ _ _ _ _ (omega arith) c.in_ok-read_record.ensures.works c.put_held.ensures.works;
}
