use Rattle.std.proofs.Common.{refl}
use Rattle.mpm_files.specs.Units.{Idles}
use Rattle.mpm_files.specs.Plans.{file_of_job}
use Rattle.mpm_files.specs.Serving.{units_done}
use Rattle.mpm_files.proofs.NextDone.{does_next}
use Rattle.mpm_files.proofs.FixedTurns.{idle_done}
use Rattle.mpm_files.proofs.changing.idle_next.Goals as goal

pub returns : goal.returns
returns g c = record {
  does =
      does_next (g.D.Drives.disks c.args.drives.now) (g.D.Drives.disks c.idle.new.drives) c.args.mounted.now c.idle.new.mounted c.args.work.now _ c.idle.result refl
      (λ image before job j told suits service h. (
        Idles (file_of_job c.args.work.now.job) c.args.work.now.job.stamp,
        (
          idle_done before job j c.args.work.now service.serving c.requires.sort h,
          c.idle.ensures.does image (units_done before job j) told service.stands,
        ),
      ));
  counts = record { units = refl; ended = refl };
  works = c.idle.ensures.works;
}
