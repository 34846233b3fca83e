use Rattle.std.proofs.Common.{rules}
use Rattle.mpm_repair.proofs.FreedSectors.{frees_all, on_err}
use Rattle.mpm_repair.proofs.writing.free_slots.Goals as goal

pub returns-in-Ok-clause-frees : goal.returns-in-Ok-clause-frees
returns-in-Ok-clause-frees g c = record {
  ok = search rules;
  err = on_err c.sync.result
      (frees_all c.args.drive c.args.kind c.args.slots.now (g.D.Drives.disks c.args.drives.now) (g.D.Drives.disks c.free_sectors.new.drives) (g.D.Drives.disks c.sync.new.self) c.sync.ensures.disks c.in-Ok.ensures.ok);
  told = search rules;
  cause = search rules;
  names = search rules;
  beside = search rules;
}
