use Rattle.std.proofs.Common.{◌≡◌, ◌∙◌, ap, sym, subst, List, None, true, ℕ}
use Rattle.mpm_ready.specs.Order.{Member}
use Rattle.mpm_ready.specs.Tables.{list_of, inserted}
use Rattle.mpm_queues.specs.Queues.{Queues, IsMade, AreSoundQueues}
use Rattle.mpm_queues.specs.Handling.{enlisted, must_wait}
use Rattle.mpm_queues.proofs.SoundLaws.{made_below, sound_enlisted}
use Rattle.mpm_queues.proofs.queues.Queues.enlist.Goals as goal

pub list_for-requires : goal.list_for-requires
list_for-requires c =
    made_below _ c.args.q c.self.invariant (subst (λ (t : Queues). IsMade t c.args.q) (sym c.self.view_is) c.requires.queue)

pub invariant_of-self : goal.invariant_of-self
unfolding enlisted
invariant_of-self c =
    let is = subst (λ (t : Queues). IsMade t c.args.q) (sym c.self.view_is) c.requires.queue in
    let nowhere = subst (λ (t : Queues). list_of t.waiters c.args.p ≡ None) (sym c.self.view_is) c.requires.nowhere in
    let may = subst (λ (t : Queues). must_wait t c.args.q c.args.reader ≡ true) (sym c.self.view_is) c.requires.must in
    let put = c.insert.ensures.lists ∙ ap (λ (k : ℕ). inserted c.self.inside.waiters k (record { slot = c.args.p; priority = c.args.priority })) c.list_for.ensures in
    subst (λ (ws : List (List Member)). AreSoundQueues (record { alive = c.self.inside.alive.items; queues = c.self.inside.queues.items; waiters = ws })) (sym put)
    (sound_enlisted (record { alive = c.self.inside.alive.items; queues = c.self.inside.queues.items; waiters = c.self.inside.waiters }) c.args.p c.args.priority c.args.q c.args.reader c.self.invariant is c.insert.ensures.slot nowhere may)
