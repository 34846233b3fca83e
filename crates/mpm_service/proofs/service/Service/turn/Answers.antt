use Rattle.mpm_service.proofs.SoundLaws.{sound_stepped}
use Rattle.mpm_service.proofs.service.Service.turn.Goals as goal

pub invariant_of-self : goal.invariant_of-self
invariant_of-self c =
    sound_stepped (record { turn_steps = c.self.inside.turn_steps; waiting = c.self.inside.waiting; served = c.self.inside.served }) c.in-Some.call c.pass-self-inside.result c.self.invariant c.in-Some.is c.pass-self-inside.ensures
