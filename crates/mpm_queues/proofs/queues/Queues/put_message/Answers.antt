use Rattle.std.proofs.Common.{rules, arith, ◌≡◌, ap, ◌∙◌, sym, subst, true, ℕ}
use Rattle.std.proofs.lemmas.Grind.{common_steps}
use Rattle.mpm_base.specs.Calls.{Taken}
use Rattle.mpm_procs.specs.Table.{Lives}
use Rattle.mpm_queues.specs.Queue.{is_drained, with_message, message_of}
use Rattle.mpm_queues.specs.Queues.{Queues, IsMade, waits_at}
use Rattle.mpm_queues.specs.Handling.{message_written, write_outcome, procs_after_write}
use Rattle.mpm_queues.proofs.QueueLaws.{some_written}
use Rattle.mpm_queues.proofs.SoundLaws.{made_below, IsWritten, reader_waits, sound_write_parts, write_parts}
use Rattle.mpm_queues.proofs.queues.Queues.put_message.Goals as goal

pub hand_over-other-requires : goal.hand_over-other-requires
hand_over-other-requires c =
    let is = subst (λ (t : Queues). IsMade t c.args.q) (sym c.self.view_is) c.requires.queue in
    let all = subst (λ (t : Queues). (w : ℕ) → waits_at t c.args.q w ≡ true → Lives c.args.procs.now w) (sym c.self.view_is) c.requires.waiting in
    record {
      below = made_below _ c.args.q c.self.invariant is;
      free = ap is_drained c.add.ensures ∙ some_written _ _;
      lives = λ r first. all r (reader_waits (record { alive = c.self.inside.alive.items; queues = c.self.inside.queues.items; waiters = c.self.inside.waiters }) c.args.q r first);
    }

parts : (c : goal.After-self-2-1) → IsWritten (record { alive = c.self.inside.alive.items; queues = c.self.inside.queues.items; waiters = c.self.inside.waiters }) c.args.p c.args.q c.from.result c.args.procs.now c.hand_over-other.new.procs c.index_mut-store.result.now c.add.new.self c.hand_over-other.new.store c.hand_over-other.result c.hand_over-other.new.waiters
parts c = record {
  number = c.from.ensures;
  value = c.index_mut-store.ensures.value;
  room = sym c.is_full.ensures ∙ c.if-is_full.false;
  adding = c.add.ensures ∙ ap (λ (call : Taken). with_message (message_of c.index_mut-store.result.now.width call) c.index_mut-store.result.now) c.call.ensures;
  first = c.hand_over-other.ensures.first.first;
  taking = c.hand_over-other.ensures.queue;
  telling = c.hand_over-other.ensures.procs;
  leaving = c.hand_over-other.ensures.first.fewer;
}

pub invariant_of-self-2 : goal.invariant_of-self-2
invariant_of-self-2 c =
    let is = subst (λ (t : Queues). IsMade t c.args.q) (sym c.self.view_is) c.requires.queue in
    sound_write_parts _ c.args.p c.args.q _ c.args.procs.now _ _ _ _ _ _ c.self.invariant is (parts c)

pub returns : goal.returns
unfolding write_outcome
returns c =
    let is = subst (λ (t : Queues). IsMade t c.args.q) (sym c.self.view_is) c.requires.queue in
    let written = write_parts _ c.args.p c.args.q _ c.args.procs.now _ _ _ _ _ _ c.self.invariant is (parts c) in
    record {
      queues = written.0 ∙ ap (λ (t : Queues). message_written t c.args.p c.args.q c.args.procs.now) c.self.view_is;
      answered = first_of (search rules, grind (arith, common_steps));
      procs = written.1 ∙ ap (λ (t : Queues). procs_after_write t c.args.p c.args.q c.args.procs.now) c.self.view_is;
      sound = first_of (search rules, grind (arith, common_steps));
    }
