use Rattle.std.proofs.Common.{arith}
use Rattle.mpm_files.proofs.Stamping.{then_stamped, unstamped}
use Rattle.mpm_files.proofs.WorkingLaws.{works_within, works_then}
use Rattle.mpm_files.proofs.stamps.put_apart.Goals as goal

pub returns-in-Ok : goal.returns-in-Ok
returns-in-Ok g c = record {
  puts = λ image files told stands.
      then_stamped (g.D.Drives.disks c.put_entry.new.drives) (g.D.Drives.disks c.put_stamp.new.drives) c.args.mounted.now.drive c.put_entry.new.mounted c.put_stamp.new.mounted files _ _
      c.args.moment _ c.put_stamp.result c.put_entry.ensures.works.disk.drive (c.in-Ok.ensures.puts image files told stands) c.put_stamp.ensures.puts;
  works = works_then g.D.Drives 2 2 4 _ _ _ _ _ _ _ _ _ _ _ _ _ _ (omega arith) c.in-Ok.ensures.works c.put_stamp.ensures.works;
}

pub returns-in-Err : goal.returns-in-Err
returns-in-Err g c = record {
  puts = λ image files told stands.
      unstamped (g.D.Drives.disks c.put_entry.new.drives) c.args.mounted.now.drive _ _ files _ _ c.args.moment _ (c.in-Err.ensures.puts image files told stands);
  works = works_within g.D.Drives 2 4 _ _ _ _ _ _ _ _ _ (omega arith) c.in-Err.ensures.works;
}
