use Rattle.mpm_bdos.proofs.HeldLaws.{held_first}
use Rattle.mpm_bdos.proofs.bdos.Bdos.new.Goals as goal

pub invariant_of-result : goal.invariant_of-result
invariant_of-result c = held_first c.of.result c.new-3.result c.in_ok-service.service c.new-3.ensures.opens c.in_ok-service.ensures
