use Rattle.mpm_cache.proofs.AliasLaws.{alone_after}
use Rattle.mpm_sectors.proofs.WriteLaws.{put_written, put_elsewhere}
use Rattle.mpm_sectors.proofs.disk.Disk.put.Goals as goal

pub returns : goal.returns
returns g c = record {
  puts = put_written c.args.self.now.drive c.args.self.now.kind c.args.sector c.place.result c.args.bytes.now (g.D.Drives.disks c.args.drives.now) (g.D.Drives.disks c.write.new.drives) c.write.result
      c.place.ensures.place c.write.ensures.ok c.write.ensures.err;
  calls = c.write.ensures.calls;
  leaves = record {
    coherent = c.write.ensures.coherent;
    apart = c.write.ensures.apart;
    alone = λ alone. alone_after _ _ _ _ _ c.write.ensures.apart alone;
    others = put_elsewhere _ _ _ _ _ c.write.result c.write.ensures.ok c.write.ensures.err;
    told_are = c.write.ensures.asked.told_are;
    names = c.write.ensures.asked.names;
    beside = c.write.ensures.asked.beside;
    owed = λ owed. c.write.ensures.asked.owed;
  };
  unsynced = c.write.ensures.asked.owed;
  cause = c.write.ensures.cause;
}
