use Rattle.std.proofs.Common.{None, refl, sym, subst, ◌∙◌}
use Rattle.mpm_dirent.specs.declared.kinds.Entry.TheVariants.{Free}
use Rattle.mpm_mount.specs.Faults.{name_of}
use Rattle.mpm_mount.specs.Searching.{search_of, IsNext}
use Rattle.mpm_mount.specs.Files.{file_in}
use Rattle.mpm_files.specs.Units.{RenamesEntry, RenamesXfcb}
use Rattle.mpm_files.specs.Plans.{file_of_job, new_file_of_job}
use Rattle.mpm_files.specs.Serving.{units_done}
use Rattle.mpm_files.proofs.NextDone.{does_next, put_does}
use Rattle.mpm_files.proofs.RenameTurns.{may_rename, over_renamed, entry_renamed, xfcb_renamed}
use Rattle.mpm_files.proofs.UnitsLeft.{may_rename_entry, may_rename_xfcb}
use Rattle.mpm_files.proofs.changing.rename_next.Goals as goal

pub rename_entry-requires : goal.rename_entry-requires
rename_entry-requires g c =
    may_rename_entry (g.D.Drives.disks c.args.drives.now) c.args.mounted.now c.args.cache.now c.args.work.now c.in-Some-next.found c.requires.ready c.requires.left c.requires.sort c.recall_directory.ensures.full
    (sym c.xfcb.ensures ∙ c.in-None.is)
    (subst (IsNext c.args.mounted.now.kind (search_of c.args.mounted.now.kind c.args.work.now.job.user c.args.work.now.job.name None) c.args.mounted.now.entries) c.in-Some-next.is c.next.ensures)

pub rename_xfcb-requires : goal.rename_xfcb-requires
rename_xfcb-requires g c =
    may_rename_xfcb (g.D.Drives.disks c.args.drives.now) c.args.mounted.now c.args.cache.now c.args.work.now c.requires.ready c.requires.left c.requires.sort (sym c.xfcb.ensures ∙ c.in-None.is)
    (subst (IsNext c.args.mounted.now.kind (search_of c.args.mounted.now.kind c.args.work.now.job.user c.args.work.now.job.name None) c.args.mounted.now.entries) c.in-None-next.is c.next.ensures)

pub returns-in-Some : goal.returns-in-Some
returns-in-Some g c = record {
  does =
      put_does (g.D.Drives.disks c.args.drives.now) (g.D.Drives.disks c.put_entry.new.drives) c.args.mounted.now c.put_entry.new.mounted c.args.work.now _ c.in-Some.slot Free c.put_entry.result
      refl c.put_entry.ensures.puts (λ image before job j suits stands serving h.
      over_renamed image c.args.mounted.now before job j c.args.work.now c.in-Some.slot stands serving c.requires.sort (may_rename before job j c.args.work.now serving c.requires.sort suits) h (sym c.xfcb.ensures ∙ c.in-Some.is));
  counts = record { units = refl; ended = refl };
  works = c.put_entry.ensures.works;
}

pub returns-in-Some-next : goal.returns-in-Some-next
returns-in-Some-next g c = record {
  does =
      does_next (g.D.Drives.disks c.args.drives.now) (g.D.Drives.disks c.rename_entry.new.drives) c.args.mounted.now c.rename_entry.new.mounted c.args.work.now _ c.rename_entry.result refl
      (λ image before job j told suits service h.
      let next = entry_renamed image c.args.mounted.now before job j c.args.work.now c.in-Some-next.found service.stands service.serving c.requires.sort (may_rename before job j c.args.work.now service.serving c.requires.sort suits) h
      (sym c.xfcb.ensures ∙ c.in-None.is)
      (subst (IsNext c.args.mounted.now.kind (search_of c.args.mounted.now.kind c.args.work.now.job.user c.args.work.now.job.name None) c.args.mounted.now.entries) c.in-Some-next.is c.next.ensures) in (
        RenamesEntry (file_in next.file.user next.file.name) (name_of (units_done before job j).kind next.file).number (new_file_of_job c.args.work.now.job),
        (
          next.done,
          c.rename_entry.ensures.does image (units_done before job j) told service.stands next.file next.entry,
        ),
      ));
  counts = record { units = refl; ended = refl };
  works = c.rename_entry.ensures.works;
}

pub returns-in-None-next : goal.returns-in-None-next
returns-in-None-next g c = record {
  does =
      does_next (g.D.Drives.disks c.args.drives.now) (g.D.Drives.disks c.rename_xfcb.new.drives) c.args.mounted.now c.rename_xfcb.new.mounted c.args.work.now _ c.rename_xfcb.result refl
      (λ image before job j told suits service h. (
        RenamesXfcb (file_of_job c.args.work.now.job) (new_file_of_job c.args.work.now.job),
        (
          xfcb_renamed image c.args.mounted.now before job j c.args.work.now service.stands service.serving c.requires.sort (may_rename before job j c.args.work.now service.serving c.requires.sort suits) h (sym c.xfcb.ensures ∙ c.in-None.is)
              (subst (IsNext c.args.mounted.now.kind (search_of c.args.mounted.now.kind c.args.work.now.job.user c.args.work.now.job.name None) c.args.mounted.now.entries) c.in-None-next.is c.next.ensures),
          c.rename_xfcb.ensures.does image (units_done before job j) told service.stands,
        ),
      ));
  counts = record { units = refl; ended = refl };
  works = c.rename_xfcb.ensures.works;
}
