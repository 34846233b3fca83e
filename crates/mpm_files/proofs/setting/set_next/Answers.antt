use Rattle.std.proofs.Common.{Option, refl, ap, subst}
use Rattle.mpm_mount.specs.declared.searching.Found.{Found}
use Rattle.mpm_mount.specs.Faults.{name_of}
use Rattle.mpm_mount.specs.Searching.{search_of, IsNext}
use Rattle.mpm_mount.specs.Attributes.{attributes_in}
use Rattle.mpm_mount.specs.Files.{file_in, is_file}
use Rattle.mpm_files.specs.Units.{SetsAttributes}
use Rattle.mpm_files.specs.Serving.{units_done}
use Rattle.mpm_files.specs.Turning.{last_of_job}
use Rattle.mpm_files.proofs.NextDone.{does_next, found_within}
use Rattle.mpm_files.proofs.SetTurns.{entry_set}
use Rattle.mpm_files.proofs.UnitsLeft.{sets_on}
use Rattle.mpm_files.proofs.setting.set_next.Goals as goal

pub set_attributes-requires : goal.set_attributes-requires
set_attributes-requires g c = record {
  ready = c.requires.ready;
  within = found_within c.args.mounted.now c.args.work.now.job.user c.args.work.now.job.name c.last_of_job-last.result c.in-Some.found c.next.result c.recall_directory.ensures.full c.in-Some.is c.next.ensures;
  was = ap is_file c.in-Some.ensures.entry;
}

pub unreachable-requires : goal.unreachable-requires
unreachable-requires g c =
    sets_on (g.D.Drives.disks c.args.drives.now) c.args.mounted.now c.args.work.now c.requires.left c.requires.sort
    (subst (IsNext c.args.mounted.now.kind (search_of c.args.mounted.now.kind c.args.work.now.job.user c.args.work.now.job.name (last_of_job c.args.work.now)) c.args.mounted.now.entries) c.in-None.is
    (subst (λ (last : Option Found). IsNext c.args.mounted.now.kind (search_of c.args.mounted.now.kind c.args.work.now.job.user c.args.work.now.job.name last) c.args.mounted.now.entries c.next.result) c.last_of_job-last.ensures
    c.next.ensures))

pub returns : goal.returns
returns g c = record {
  does =
      does_next (g.D.Drives.disks c.args.drives.now) (g.D.Drives.disks c.set_attributes.new.drives) c.args.mounted.now c.set_attributes.new.mounted c.args.work.now _ c.set_attributes.result refl
      (λ image before job j told suits service h.
      let next = entry_set image c.args.mounted.now before job j c.args.work.now c.in-Some.found service.stands service.serving c.requires.sort suits h
      (subst (IsNext c.args.mounted.now.kind (search_of c.args.mounted.now.kind c.args.work.now.job.user c.args.work.now.job.name (last_of_job c.args.work.now)) c.args.mounted.now.entries) c.in-Some.is
      (subst (λ (last : Option Found). IsNext c.args.mounted.now.kind (search_of c.args.mounted.now.kind c.args.work.now.job.user c.args.work.now.job.name last) c.args.mounted.now.entries c.next.result) c.last_of_job-last.ensures
      c.next.ensures)) in (
        SetsAttributes (file_in next.file.user next.file.name) (name_of (units_done before job j).kind next.file).number (attributes_in c.args.work.now.job.name),
        (
          next.done,
          c.set_attributes.ensures.does image (units_done before job j) told service.stands next.file next.entry,
        ),
      ));
  counts = record { units = refl; ended = refl };
  works = c.set_attributes.ensures.works;
}
