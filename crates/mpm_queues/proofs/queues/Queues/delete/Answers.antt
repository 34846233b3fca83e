use Rattle.std.proofs.Common.{◌≡◌, ◌∙◌, sym, subst, true, false, ℕ, slice_set, arith}
use Rattle.mpm_queues.specs.Queue.{Queue}
use Rattle.mpm_queues.specs.Queues.{Queues, IsMade, AreSoundQueues, may_end, without}
use Rattle.mpm_queues.proofs.SoundLaws.{made_below, sound_without}
use Rattle.mpm_queues.proofs.queues.Queues.delete.Goals as goal

pub index_mut-requires : goal.index_mut-requires
index_mut-requires c =
    let below = made_below _ c.args.q c.self.invariant (subst (λ (t : Queues). IsMade t c.args.q) (sym c.self.view_is) c.requires) in
    let size = c.self.invariant.alive in
    let place = c.from-place.ensures in
    grind (arith)

pub index_mut-requires-2 : goal.index_mut-requires-2
index_mut-requires-2 c =
    let below = made_below _ c.args.q c.self.invariant (subst (λ (t : Queues). IsMade t c.args.q) (sym c.self.view_is) c.requires) in
    let size = c.self.invariant.queues in
    let place = c.from-place.ensures in
    grind (arith)

pub invariant_of-self : goal.invariant_of-self
unfolding without
invariant_of-self c =
    let is = subst (λ (t : Queues). IsMade t c.args.q) (sym c.self.view_is) c.requires in
    let may = subst (λ (t : Queues). may_end t c.args.q ≡ true) (sym c.self.view_is) (sym c.may_end.ensures ∙ c.if-not-may_end.false) in
    subst (λ (k : ℕ). AreSoundQueues (record { alive = slice_set c.self.inside.alive.items k false; queues = slice_set c.self.inside.queues.items k c.end.new.self; waiters = c.self.inside.waiters })) (sym c.from-place.ensures)
    (subst (λ (queue : Queue). AreSoundQueues (record { alive = slice_set c.self.inside.alive.items c.args.q false; queues = slice_set c.self.inside.queues.items c.args.q queue; waiters = c.self.inside.waiters })) (sym c.end.ensures)
    (sound_without (record { alive = c.self.inside.alive.items; queues = c.self.inside.queues.items; waiters = c.self.inside.waiters }) c.args.q c.self.invariant is may))
