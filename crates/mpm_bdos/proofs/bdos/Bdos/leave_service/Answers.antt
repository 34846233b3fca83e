use Rattle.mpm_bdos.proofs.HeldLaws.{held_none}
use Rattle.mpm_bdos.proofs.bdos.Bdos.leave_service.Goals as goal

pub invariant_of-self : goal.invariant_of-self
invariant_of-self c = held_none c.self.inside.mounted c.self.inside.opens c.leave.new.self c.self.invariant.users c.leave.ensures
