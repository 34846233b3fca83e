use Rattle.std.proofs.Common.{sym, ◌∙◌, arith, rules}
use Rattle.mpm_blocks.specs.Sectors.{sectors_of}
use Rattle.mpm_files.specs.Plans.{file_of_job}
use Rattle.mpm_files.proofs.HeldRecords.{still_raised_as, raised_as_is, not_raised}
use Rattle.mpm_files.proofs.Stamping.{only_stamped, stamped_as}
use Rattle.mpm_files.proofs.WorkingLaws.{works_within}
use Rattle.std.proofs.lemmas.Grind.{common_steps}
use Rattle.mpm_files.proofs.writing.put_raised.Goals as goal

pub put_stamped-requires : goal.put_stamped-requires
put_stamped-requires g c = record {
  ready = c.requires.ready;
  slot = c.requires.entry.within;
  was = first_of (search rules, grind (arith, common_steps));
  proper = first_of (search rules, grind (arith, common_steps));
  faultless = still_raised_as c.args.mounted.now (file_of_job c.args.job.now) c.args.written.now.number c.args.found.now.slot c.args.found.now.file c.raised.result c.requires.entry
      c.raised.ensures;
}

pub returns-then-is_above : goal.returns-then-is_above
returns-then-is_above g c = record {
  puts = λ image files told stands.
      stamped_as (g.D.Drives.disks c.put_stamped.new.drives) c.args.mounted.now.drive c.put_stamped.new.mounted files (file_of_job c.args.job.now) c.args.written.now.moment _ _ c.put_stamped.result
      (raised_as_is image c.args.mounted.now files (file_of_job c.args.job.now) c.args.written.now.number c.args.found.now.slot c.args.found.now.file c.raised.result stands
      c.requires.entry c.raised.ensures (sym c.is_above.ensures ∙ c.if-is_above.true)) (c.put_stamped.ensures.puts image files told stands);
  works = c.put_stamped.ensures.works;
}

pub returns-else-is_above : goal.returns-else-is_above
returns-else-is_above g c = record {
  puts = λ image files told stands.
      only_stamped (g.D.Drives.disks c.put_stamp.new.drives) c.args.mounted.now.drive c.put_stamp.new.mounted files (file_of_job c.args.job.now) c.args.written.now.moment _ c.put_stamp.result
      (not_raised (sectors_of image c.args.mounted.now.kind) c.args.mounted.now.kind files c.args.written.now.number c.args.found.now.file (sym c.is_above.ensures ∙ c.if-is_above.false))
      (c.put_stamp.ensures.puts image files told stands);
  works = works_within g.D.Drives 2 4 _ _ _ _ _ _ _ _ _ (omega arith) c.put_stamp.ensures.works;
}
