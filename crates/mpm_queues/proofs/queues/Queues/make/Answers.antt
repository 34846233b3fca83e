use Rattle.mpm_base.proofs.Options.{none_there}
use Rattle.std.proofs.Common.{◌≡◌, ◌∙◌, ◌≤◌, ◌*◌, sym, subst, Some, None, true, false, ℕ, slice_set, arith}
use Rattle.std.specs.Prelude.{is_some}
use Rattle.std.proofs.lemmas.Bool.Decides.{nat_tests}
use Rattle.mpm_queues.specs.Queue.{Queue}
use Rattle.mpm_queues.specs.Queues.{Queues, AreSoundQueues, found, lowest_free, made}
use Rattle.mpm_queues.proofs.SoundLaws.{sound_made}
use Rattle.mpm_queues.proofs.queues.Queues.make.Goals as goal

pub invariant_of-self : goal.invariant_of-self
unfolding made
invariant_of-self c =
    let free = subst (λ (t : Queues). lowest_free t ≡ Some c.in-Some.q) (sym c.self.view_is) (sym c.lowest_free.ensures.value ∙ c.in-Some.is) in
    let none = subst (λ (t : Queues). found t c.args.name ≡ None) (sym c.self.view_is) (sym c.find.ensures.number ∙ none_there c.find.result (sym c.is_some.ensures ∙ c.if-is_some.false)) in
    let some : 1 ≤ c.args.count = grind (arith, nat_tests, c.if-count-eq0.false) in
    let few : c.args.message_length * c.args.count ≤ 2048 = subst (λ (n : ℕ). n * c.args.count ≤ 2048) c.from.ensures (subst (λ (n : ℕ). c.from.result * n ≤ 2048) c.from-2.ensures c.if-from-gt-ROOM.false) in
    subst (λ (queue : Queue). AreSoundQueues (record { alive = slice_set c.self.inside.alive.items c.in-Some.q true; queues = slice_set c.self.inside.queues.items c.in-Some.q queue; waiters = c.self.inside.waiters })) (sym c.begin.ensures)
    (sound_made (record { alive = c.self.inside.alive.items; queues = c.self.inside.queues.items; waiters = c.self.inside.waiters }) c.in-Some.q c.args.name c.args.message_length c.args.count c.self.invariant free none some few)
