use Rattle.std.proofs.Common.{ap, sym, subst, Bool, List}
use Rattle.mpm_ready.specs.Order.{Member}
use Rattle.mpm_service.specs.Disk.{DiskService, left_by, LeavesDisk}
use Rattle.mpm_service.proofs.SoundLaws.{sound_left, leaves_left}
use Rattle.mpm_service.proofs.service.Service.leave.Goals as goal

pub invariant_of-self : goal.invariant_of-self
invariant_of-self c =
    sound_left (record { turn_steps = c.self.inside.turn_steps; waiting = c.self.inside.waiting; served = c.self.inside.served }) c.args.p c.remove.new.self c.self.invariant c.remove.ensures.list

pub returns : goal.returns
unfolding left_by
returns c =
    let p = c.args.p in
    let old : DiskService = record { turn_steps = c.self.inside.turn_steps; waiting = c.self.inside.waiting; served = c.self.inside.served } in
    let left = ap (λ (ms : List Member). record old { waiting = ms }) c.remove.ensures.list in
    subst (λ (s : DiskService). LeavesDisk p s (record old { waiting = c.remove.new.self }) c.remove.result) c.self.view_is
    (subst (λ (new : DiskService). LeavesDisk p old new c.remove.result) (sym left)
    (subst (λ (b : Bool). LeavesDisk p old (left_by old p) b) (sym c.remove.ensures.answer) (leaves_left p old c.self.invariant)))
