use Rattle.mpm_files.specs.Plans.{file_of_job}
use Rattle.mpm_files.proofs.FreshRecords.{still_taken_as, taken_proper_as, taken_as}
use Rattle.mpm_files.proofs.Stamping.{stamped_as}
use Rattle.std.proofs.Common.{rules, arith}
use Rattle.std.proofs.lemmas.Grind.{common_steps}
use Rattle.mpm_files.proofs.writing.put_taken.Goals as goal

pub put_stamped-requires : goal.put_stamped-requires
put_stamped-requires g c = record {
  ready = c.requires.ready;
  slot = c.requires.entry.within;
  was = first_of (search rules, grind (arith, common_steps));
  proper = taken_proper_as c.args.mounted.now (file_of_job c.args.job.now) c.args.written.now.number c.args.taking.now.found.slot c.args.taking.now.block c.args.taking.now.found.file c.taken.result c.requires.entry
      c.taken.ensures.file c.taken.ensures.size c.requires.free;
  faultless = still_taken_as c.args.mounted.now (file_of_job c.args.job.now) c.args.written.now.number c.args.taking.now.found.slot c.args.taking.now.block c.args.taking.now.found.file c.taken.result c.requires.entry
      c.taken.ensures.file c.taken.ensures.size c.requires.free;
}

pub returns : goal.returns
returns g c = record {
  puts = λ image files told stands.
      stamped_as (g.D.Drives.disks c.put_stamped.new.drives) c.args.mounted.now.drive c.put_stamped.new.mounted files (file_of_job c.args.job.now) c.args.written.now.moment _ _ c.put_stamped.result
      (taken_as image c.args.mounted.now files (file_of_job c.args.job.now) c.args.written.now.number c.args.taking.now.found.slot c.args.taking.now.block c.args.taking.now.found.file c.taken.result stands c.requires.entry
      c.taken.ensures.file c.taken.ensures.size) (c.put_stamped.ensures.puts image files told stands);
  works = c.put_stamped.ensures.works;
}
