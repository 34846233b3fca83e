use Rattle.std.proofs.Common.{sym, ◌∙◌}
use Rattle.mpm_service.proofs.SoundLaws.{sound_starting}
use Rattle.mpm_service.proofs.service.Service.start.Goals as goal

pub invariant_of-self : goal.invariant_of-self
invariant_of-self c =
    sound_starting (record { turn_steps = c.self.inside.turn_steps; waiting = c.self.inside.waiting; served = c.self.inside.served }) c.in-Some.p c.remove.new.self c.self.invariant (sym c.first.ensures.first ∙ c.in-Some.is) c.remove.ensures.list
