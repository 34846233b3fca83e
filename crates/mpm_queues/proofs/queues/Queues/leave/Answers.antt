use Rattle.mpm_queues.proofs.SoundLaws.{sound_fewer}
use Rattle.mpm_queues.proofs.queues.Queues.leave.Goals as goal

pub invariant_of-self : goal.invariant_of-self
invariant_of-self c = sound_fewer _ _ c.self.inside.waiters _ c.args.p c.self.invariant c.remove.ensures.lists
