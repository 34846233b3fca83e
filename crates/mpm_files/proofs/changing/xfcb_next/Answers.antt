use Rattle.std.proofs.Common.{refl}
use Rattle.mpm_files.specs.Units.{PutsXfcb}
use Rattle.mpm_files.specs.Plans.{file_of_job, protection_in}
use Rattle.mpm_files.specs.Serving.{units_done}
use Rattle.mpm_files.proofs.NextDone.{does_next}
use Rattle.mpm_files.proofs.FixedTurns.{xfcb_done}
use Rattle.mpm_files.proofs.UnitsLeft.{may_put_xfcb}
use Rattle.mpm_files.proofs.changing.xfcb_next.Goals as goal

pub put_xfcb-requires : goal.put_xfcb-requires
put_xfcb-requires g c = may_put_xfcb (g.D.Drives.disks c.args.drives.now) c.args.mounted.now c.args.cache.now c.args.work.now c.requires.ready c.requires.left c.requires.sort

pub returns : goal.returns
returns g c = record {
  does =
      does_next (g.D.Drives.disks c.args.drives.now) (g.D.Drives.disks c.put_xfcb.new.drives) c.args.mounted.now c.put_xfcb.new.mounted c.args.work.now _ c.put_xfcb.result refl
      (λ image before job j told suits service h. (
        PutsXfcb (file_of_job c.args.work.now.job) (protection_in c.args.work.now.job),
        (
          xfcb_done before job j c.args.work.now service.serving c.requires.sort h,
          c.put_xfcb.ensures.does image (units_done before job j) told service.stands,
        ),
      ));
  counts = record { units = refl; ended = refl };
  works = c.put_xfcb.ensures.works;
}
