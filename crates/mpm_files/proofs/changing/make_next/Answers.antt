use Rattle.std.proofs.Common.{refl}
use Rattle.mpm_files.specs.Units.{AddsEntry, PutsXfcb}
use Rattle.mpm_files.specs.Plans.{file_of_job, protection_in}
use Rattle.mpm_files.specs.Serving.{units_done}
use Rattle.mpm_files.proofs.NextDone.{does_next}
use Rattle.mpm_files.proofs.FixedTurns.{entry_made, xfcb_made}
use Rattle.mpm_files.proofs.UnitsLeft.{may_make_entry, may_make_xfcb}
use Rattle.mpm_files.proofs.changing.make_next.Goals as goal

pub add_entry-requires : goal.add_entry-requires
add_entry-requires g c = may_make_entry (g.D.Drives.disks c.args.drives.now) c.args.mounted.now c.args.cache.now c.args.work.now c.requires.ready c.requires.left c.requires.sort c.if-work-eq0.true

pub put_xfcb-requires : goal.put_xfcb-requires
put_xfcb-requires g c = may_make_xfcb (g.D.Drives.disks c.args.drives.now) c.args.mounted.now c.args.cache.now c.args.work.now c.requires.ready c.requires.left c.requires.sort c.if-work-eq0.false

pub returns-then-work-eq0 : goal.returns-then-work-eq0
returns-then-work-eq0 g c = record {
  does =
      does_next (g.D.Drives.disks c.args.drives.now) (g.D.Drives.disks c.add_entry.new.drives) c.args.mounted.now c.add_entry.new.mounted c.args.work.now _ c.add_entry.result refl
      (λ image before job j told suits service h. (
        AddsEntry (file_of_job c.args.work.now.job) 0,
        (
          entry_made before job j c.args.work.now service.serving c.requires.sort h c.if-work-eq0.true,
          c.add_entry.ensures.does image (units_done before job j) told service.stands,
        ),
      ));
  counts = record { units = refl; ended = refl };
  works = c.add_entry.ensures.works;
}

pub returns-else-work-eq0 : goal.returns-else-work-eq0
returns-else-work-eq0 g c = record {
  does =
      does_next (g.D.Drives.disks c.args.drives.now) (g.D.Drives.disks c.put_xfcb.new.drives) c.args.mounted.now c.put_xfcb.new.mounted c.args.work.now _ c.put_xfcb.result refl
      (λ image before job j told suits service h.
      let made = xfcb_made before job j c.args.work.now service.serving c.requires.sort h c.if-work-eq0.false in (
        PutsXfcb (file_of_job c.args.work.now.job) (protection_in c.args.work.now.job),
        (
          made.done,
          c.put_xfcb.ensures.does image (units_done before job j) told service.stands,
        ),
      ));
  counts = record { units = refl; ended = refl };
  works = c.put_xfcb.ensures.works;
}
