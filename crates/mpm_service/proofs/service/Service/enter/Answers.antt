use Rattle.std.proofs.Common.{◌≢◌, ◌<◌, IfSome, subst, sym}
use Rattle.mpm_service.specs.Disk.{DiskService}
use Rattle.mpm_service.proofs.SoundLaws.{sound_entered}
use Rattle.mpm_service.proofs.service.Service.enter.Goals as goal

pub invariant_of-self : goal.invariant_of-self
invariant_of-self c =
    let some = subst (λ (s : DiskService). 0 < s.turn_steps) (sym c.self.view_is) c.requires.steps in
    let other = subst (λ (s : DiskService). IfSome s.served (λ call. call.p ≢ c.args.p)) (sym c.self.view_is) c.requires.other in
    sound_entered (record { turn_steps = c.self.inside.turn_steps; waiting = c.self.inside.waiting; served = c.self.inside.served }) c.args.p c.args.priority c.put.new.self c.self.invariant some other c.put.ensures
