use Rattle.std.proofs.Common.{◌≡◌, ap, ◌∙◌, sym, subst, true, ℕ}
use Rattle.mpm_procs.specs.Table.{Lives}
use Rattle.mpm_queues.specs.Queue.{is_full, IsProperQueue}
use Rattle.mpm_queues.specs.Queues.{Queues, IsMade, waits_at}
use Rattle.mpm_queues.proofs.QueueLaws.{room_after}
use Rattle.mpm_queues.proofs.SoundLaws.{made_below, picked, writer_waits, sound_read_parts}
use Rattle.mpm_queues.proofs.queues.Queues.take_message.Goals as goal

pub let_in-other-requires : goal.let_in-other-requires
let_in-other-requires c =
    let is = subst (λ (t : Queues). IsMade t c.args.q) (sym c.self.view_is) c.requires.queue in
    let it = picked _ c.args.q _ c.index_mut-store.result.now c.self.invariant is c.from.ensures c.index_mut-store.ensures.value in
    let some = sym c.is_drained.ensures ∙ c.if-is_drained.false in
    let proper = subst IsProperQueue (sym it) (c.self.invariant.proper c.args.q) in
    let all = subst (λ (t : Queues). (w : ℕ) → waits_at t c.args.q w ≡ true → Lives c.args.procs.now w) (sym c.self.view_is) c.requires.waiting in
    record {
      below = made_below _ c.args.q c.self.invariant is;
      free = ap is_full c.answer.ensures.queue ∙ room_after _ c.args.p proper some;
      lives = λ w first. all w (writer_waits (record { alive = c.self.inside.alive.items; queues = c.self.inside.queues.items; waiters = c.self.inside.waiters }) c.args.q w first);
    }

pub invariant_of-self-2 : goal.invariant_of-self-2
invariant_of-self-2 c =
    let is = subst (λ (t : Queues). IsMade t c.args.q) (sym c.self.view_is) c.requires.queue in
    sound_read_parts _ c.args.p c.args.q _ c.args.procs.now c.index_mut-store.result.now c.answer.new.self _ c.let_in-other.result _ c.self.invariant is
    (record {
      number = c.from.ensures;
      value = c.index_mut-store.ensures.value;
      some = sym c.is_drained.ensures ∙ c.if-is_drained.false;
      reading = c.answer.ensures.queue;
      first = c.let_in-other.ensures.first.first;
      letting = c.let_in-other.ensures.queue;
      leaving = c.let_in-other.ensures.first.fewer;
    })
