use Rattle.std.proofs.Common.{◌≡◌, ◌<◌, ap, ◌∙◌, arith, ◌++◌, List, ℕ}
use Rattle.mpm_base.specs.Lists.{in_width}
use Rattle.mpm_queues.specs.Messages.{queue_of}
use Rattle.circular_buffer.specs.Buffer.{buffer}
use Rattle.mpm_queues.specs.Queue.{Queue, is_full, with_message, message_of}
use Rattle.mpm_queues.proofs.MessageLaws.{not_all, room_for, store_longer, queue_longer}
use Rattle.mpm_queues.proofs.store.Store.add.Goals as goal

below : (c : goal.After-from) → c.self.inside.stored < c.self.inside.count
below c = not_all _ _ c.self.inside.width c.self.inside.bytes.items (c.self.invariant).room (ap is_full c.self.view_is ∙ c.requires)

pub append-requires : goal.append-requires
append-requires c =
    let room = room_for _ _ _ c.self.inside.bytes c.self.invariant (below c) in
    let size = c.from.ensures in
    omega arith

pub overflow_add-self : goal.overflow_add-self
overflow_add-self c =
    let few = not_all _ _ c.self.inside.width c.self.inside.bytes.items (c.self.invariant).room (ap is_full c.self.view_is ∙ c.requires) in
    grind (arith, c.self.ranges)

pub invariant_of-self : goal.invariant_of-self
invariant_of-self c =
    let message : c.append.new.bytes ≡ buffer (c.self.inside.bytes.items ++ in_width c.self.inside.width c.behind_block.result.now) c.self.inside.bytes.capacity = c.append.ensures ∙ ap (λ k. buffer (c.self.inside.bytes.items ++ in_width k c.behind_block.result.now) c.self.inside.bytes.capacity) c.from.ensures in
    let few = not_all _ _ c.self.inside.width c.self.inside.bytes.items (c.self.invariant).room (ap is_full c.self.view_is ∙ c.requires) in
    store_longer _ _ _ c.self.inside.bytes _ _ c.self.invariant few message

pub returns : goal.returns
unfolding message_of
returns c =
    let message : c.append.new.bytes ≡ buffer (c.self.inside.bytes.items ++ in_width c.self.inside.width c.behind_block.result.now) c.self.inside.bytes.capacity = c.append.ensures ∙ ap (λ k. buffer (c.self.inside.bytes.items ++ in_width k c.behind_block.result.now) c.self.inside.bytes.capacity) c.from.ensures in
    c.release.ensures ∙ queue_longer c.self.inside.name _ _ _ c.self.inside.holder _ _ _ c.self.invariant message
    ∙ ap (λ (bs : List ℕ). with_message (in_width c.self.inside.width bs) (queue_of c.self.inside.name c.self.inside.width c.self.inside.count c.self.inside.stored c.self.inside.holder c.self.inside.bytes)) c.behind_block.ensures
    ∙ ap (λ (q : Queue). with_message (message_of q.width c.args.call.now) q) c.self.view_is
