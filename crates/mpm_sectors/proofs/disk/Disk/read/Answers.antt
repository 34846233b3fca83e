use Rattle.std.proofs.Common.{rules, ap, ◌∙◌, arith}
use Rattle.std.proofs.lemmas.Grind.{common_steps}
use Rattle.mpm_cache.proofs.AliasLaws.{alone_after}
use Rattle.mpm_sectors.proofs.OtherImages.{elsewhere_same, told_same}
use Rattle.mpm_sectors.proofs.WriteLaws.{sector_read}
use Rattle.mpm_sectors.proofs.disk.Disk.read.Goals as goal

pub returns : goal.returns
returns g c = record {
  bytes = λ image told. sector_read c.args.self.now.drive c.args.self.now.kind c.args.sector c.place.result c.read.new.out image (g.D.Drives.disks c.args.drives.now) c.read.result
      c.place.ensures.place c.read.ensures.bytes told;
  calls = first_of (search rules, grind (arith, common_steps));
  succeeds = first_of (search rules, grind (arith, common_steps));
  uncalled = first_of (search rules, grind (arith, common_steps));
  leaves = record {
    coherent = c.read.ensures.coherent;
    apart = c.read.ensures.apart;
    alone = λ alone. alone_after _ _ _ _ _ c.read.ensures.apart alone;
    others = elsewhere_same _ _ _ c.read.ensures.same.drives.images;
    told_are = told_same _ _ _ c.read.ensures.same.drives.told_are;
    names = c.read.ensures.same.drives.failed;
    beside = λ other apart. ap (λ unsynced. unsynced other) c.read.ensures.same.unsynced_are;
    owed = λ owed. ap (λ unsynced. unsynced c.args.self.now.drive) c.read.ensures.same.unsynced_are ∙ owed;
  };
  disks = c.read.ensures.same.drives.images;
  told = c.read.ensures.same.drives.told_are;
  unsynced = c.read.ensures.same.unsynced_are;
  cause = c.read.ensures.cause;
}
