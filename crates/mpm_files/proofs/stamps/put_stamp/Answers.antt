use Rattle.std.proofs.Common.{List, ℕ, Option, sym, subst, rules, arith}
use Rattle.mpm_blocks.specs.Sectors.{sectors_of}
use Rattle.mpm_files.specs.Units.{stamped}
use Rattle.mpm_files.specs.Plans.{file_of_job}
use Rattle.mpm_files.specs.Lookups.{stamped_in}
use Rattle.mpm_files.specs.Standing.{GoesThrough}
use Rattle.mpm_files.proofs.FoundEntries.{still_stamped}
use Rattle.mpm_files.proofs.Stamping.{stamp_put, no_moment, no_xfcb}
use Rattle.std.proofs.lemmas.Grind.{common_steps}
use Rattle.mpm_files.proofs.WorkingLaws.{works_not}
use Rattle.mpm_files.proofs.stamps.put_stamp.Goals as goal

pub returns-in-None : goal.returns-in-None
returns-in-None g c = record {
  puts = λ image files told stands.
      no_moment (g.D.Drives.disks c.args.drives.now) c.args.mounted.now.drive image c.args.mounted.now files (stamped_in c.args.stamp) (file_of_job c.args.job.now) c.args.moment _ c.in-None.is told stands;
  works = works_not g.D.Drives _ _ _ _ _ _ c.requires.ready.coherent;
}

pub returns-in-None-find_xfcb : goal.returns-in-None-find_xfcb
returns-in-None-find_xfcb g c = record {
  puts = λ image files told stands.
      no_xfcb (g.D.Drives.disks c.args.drives.now) c.args.mounted.now.drive image c.args.mounted.now files (stamped_in c.args.stamp) (file_of_job c.args.job.now) c.args.moment _
      c.in-None-find_xfcb.ensures.missing told stands;
  works = works_not g.D.Drives _ _ _ _ _ _ c.requires.ready.coherent;
}

pub put_entry-requires : goal.put_entry-requires
put_entry-requires g c = record {
  ready = c.requires.ready;
  slot = c.in-Some-find_xfcb.ensures.found.within;
  proper = first_of (search rules, grind (arith, common_steps));
  faultless = still_stamped c.args.mounted.now (file_of_job c.args.job.now) c.in-Some-find_xfcb.found.slot c.in-Some-find_xfcb.found.xfcb c.stamped-xfcb.result c.args.stamp c.in-Some.moment
      c.in-Some-find_xfcb.ensures.found c.stamped-xfcb.ensures;
}

pub returns : goal.returns
returns g c = record {
  puts = λ image files told stands.
      subst (λ (m : Option (List ℕ)). GoesThrough (g.D.Drives.disks c.put_entry.new.drives) c.args.mounted.now.drive c.put_entry.new.mounted files
      (stamped (stamped_in c.args.stamp) (file_of_job c.args.job.now) m files) c.put_entry.result) (sym c.in-Some.is)
      (stamp_put (g.D.Drives.disks c.put_entry.new.drives) c.args.mounted.now.drive image c.args.mounted.now c.put_entry.new.mounted files (file_of_job c.args.job.now)
      c.in-Some-find_xfcb.found.slot c.in-Some-find_xfcb.found.xfcb c.args.stamp c.in-Some.moment c.stamped-xfcb.result (sectors_of image c.args.mounted.now.kind) c.put_entry.result stands
      c.in-Some-find_xfcb.ensures.found c.stamped-xfcb.ensures (c.put_entry.ensures.puts image files told stands));
  works = c.put_entry.ensures.works;
}
