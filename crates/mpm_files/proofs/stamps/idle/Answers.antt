use Rattle.mpm_files.proofs.Stamping.{idles}
use Rattle.mpm_files.proofs.stamps.idle.Goals as goal

pub returns : goal.returns
returns g c = record {
  does = λ image files told stands.
      idles (g.D.Drives.disks c.put_stamp.new.drives) c.args.mounted.now.drive c.put_stamp.new.mounted files _ c.args.moment c.put_stamp.result (c.put_stamp.ensures.puts image files told stands);
  works = c.put_stamp.ensures.works;
}
