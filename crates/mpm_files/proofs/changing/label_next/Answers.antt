use Rattle.std.proofs.Common.{refl}
use Rattle.mpm_files.specs.Units.{PutsLabel}
use Rattle.mpm_files.specs.Plans.{protection_in}
use Rattle.mpm_files.specs.Serving.{units_done}
use Rattle.mpm_files.proofs.NextDone.{does_next}
use Rattle.mpm_files.proofs.FixedTurns.{label_done}
use Rattle.mpm_files.proofs.UnitsLeft.{may_put_label}
use Rattle.mpm_files.proofs.changing.label_next.Goals as goal

pub put_label-requires : goal.put_label-requires
put_label-requires g c = may_put_label (g.D.Drives.disks c.args.drives.now) c.args.mounted.now c.args.cache.now c.args.work.now c.requires.ready c.requires.left c.requires.sort

pub returns : goal.returns
returns g c = record {
  does =
      does_next (g.D.Drives.disks c.args.drives.now) (g.D.Drives.disks c.put_label.new.drives) c.args.mounted.now c.put_label.new.mounted c.args.work.now _ c.put_label.result refl
      (λ image before job j told suits service h. (
        PutsLabel (record { name = c.args.work.now.job.new_name; protection = protection_in c.args.work.now.job }),
        (
          label_done before job j c.args.work.now service.serving c.requires.sort h,
          c.put_label.ensures.does image (units_done before job j) told service.stands,
        ),
      ));
  counts = record { units = refl; ended = refl };
  works = c.put_label.ensures.works;
}
