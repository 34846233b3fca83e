use Rattle.std.proofs.Common.{None, refl, sym, subst, ◌∙◌, rules, arith}
use Rattle.mpm_dirent.specs.declared.kinds.Entry.TheVariants.{Free}
use Rattle.mpm_mount.specs.Searching.{search_of, IsNext}
use Rattle.mpm_files.proofs.NextDone.{put_does, found_within}
use Rattle.mpm_files.proofs.DeleteTurns.{entry_deleted, xfcb_deleted, due_within}
use Rattle.mpm_files.proofs.UnitsLeft.{deletes_on}
use Rattle.std.proofs.lemmas.Grind.{common_steps}
use Rattle.mpm_files.proofs.changing.delete_next.Goals as goal

pub put_entry-requires : goal.put_entry-requires
put_entry-requires g c = record {
  ready = c.requires.ready;
  slot = due_within c.args.mounted.now c.args.work.now c.in-Some.slot c.recall_directory.ensures.full (sym c.xfcb_due-due.ensures ∙ c.in-Some.is);
  proper = first_of (search rules, grind (arith, common_steps));
  faultless = first_of (search rules, grind (arith, common_steps));
}

pub put_entry-requires-in-Some-next : goal.put_entry-requires-in-Some-next
put_entry-requires-in-Some-next g c = record {
  ready = c.requires.ready;
  slot = found_within c.args.mounted.now c.args.work.now.job.user c.args.work.now.job.name None c.in-Some-next.found c.next.result c.recall_directory.ensures.full c.in-Some-next.is c.next.ensures;
  proper = first_of (search rules, grind (arith, common_steps));
  faultless = first_of (search rules, grind (arith, common_steps));
}

pub returns-in-Some : goal.returns-in-Some
returns-in-Some g c = record {
  does =
      put_does (g.D.Drives.disks c.args.drives.now) (g.D.Drives.disks c.put_entry.new.drives) c.args.mounted.now c.put_entry.new.mounted c.args.work.now _ c.in-Some.slot Free c.put_entry.result
      refl c.put_entry.ensures.puts (λ image before job j suits stands serving h.
      xfcb_deleted image c.args.mounted.now before job j c.args.work.now c.in-Some.slot stands serving c.requires.sort h (sym c.xfcb_due-due.ensures ∙ c.in-Some.is));
  counts = record { units = refl; ended = refl };
  works = c.put_entry.ensures.works;
}

pub returns-in-Some-next : goal.returns-in-Some-next
returns-in-Some-next g c = record {
  does =
      put_does (g.D.Drives.disks c.args.drives.now) (g.D.Drives.disks c.put_entry-in-Some-next.new.drives) c.args.mounted.now c.put_entry-in-Some-next.new.mounted c.args.work.now _
      c.in-Some-next.found.slot Free c.put_entry-in-Some-next.result refl c.put_entry-in-Some-next.ensures.puts (λ image before job j suits stands serving h.
      entry_deleted image c.args.mounted.now before job j c.args.work.now c.in-Some-next.found stands serving c.requires.sort h (sym c.xfcb_due-due.ensures ∙ c.in-None.is)
      (subst (IsNext c.args.mounted.now.kind (search_of c.args.mounted.now.kind c.args.work.now.job.user c.args.work.now.job.name None) c.args.mounted.now.entries) c.in-Some-next.is c.next.ensures));
  counts = record { units = refl; ended = refl };
  works = c.put_entry-in-Some-next.ensures.works;
}

pub unreachable-requires : goal.unreachable-requires
unreachable-requires g c =
    deletes_on (g.D.Drives.disks c.args.drives.now) c.args.mounted.now c.args.work.now c.requires.left c.requires.sort (sym c.xfcb_due-due.ensures ∙ c.in-None.is)
    (subst (IsNext c.args.mounted.now.kind (search_of c.args.mounted.now.kind c.args.work.now.job.user c.args.work.now.job.name None) c.args.mounted.now.entries) c.in-None-next.is c.next.ensures)
