use Rattle.std.proofs.Common.{arith}
use Rattle.mpm_core.proofs.TakeLaws.{home_pages_some}
use Rattle.mpm_core.proofs.taking.segment_at.Goals as goal

pub view-requires : goal.view-requires
view-requires c = omega (arith, home_pages_some c.args.machine.now.system c.args.home c.requires, c.from-2.ensures)
