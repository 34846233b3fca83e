use Rattle.std.proofs.Common.{rules, arith}
use Rattle.std.proofs.lemmas.Grind.{common_steps}
use Rattle.mpm_fsck.proofs.Left.{leaves_read}
use Rattle.mpm_fsck.proofs.mending.count_freed.Goals as goal

pub returns-in-Ok : goal.returns-in-Ok
returns-in-Ok g c = record {
  left = λ image here. leaves_read c.args.kind c.args.slots.now (g.D.Drives.disks c.args.drives.now) image c.in-Ok.entries.items c.count_left.result here c.requires c.in-Ok.ensures.entries c.count_left.ensures;
  count = first_of (search rules, grind (arith, common_steps));
  same = first_of (search rules, grind (arith, common_steps));
}
