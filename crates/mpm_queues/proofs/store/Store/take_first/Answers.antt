use Rattle.std.proofs.Common.{◌≡◌, min, length, ap, ◌∙◌, sym}
use Rattle.mpm_queues.specs.Queue.{Queue, shortened, first_message, is_drained}
use Rattle.mpm_queues.proofs.MessageLaws.{IsTaken, counted, store_shortened, queue_shortened, taken_first}
use Rattle.mpm_queues.proofs.store.Store.take_first.Goals as goal

taken : (c : goal.After-self-1) → IsTaken c.self.inside.width c.self.inside.count c.self.inside.stored c.self.inside.bytes c.read_into.new.self c.read_into.result
taken c =
    let width : length c.args.into.now ≡ c.self.inside.width = c.requires.width ∙ sym (ap (λ (q : Queue). q.width) c.self.view_is) in
    (c.self.invariant, counted _ _ _ (ap is_drained c.self.view_is ∙ c.requires.some), c.read_into.ensures.count ∙ ap (λ k. min k (length c.self.inside.bytes.items)) width, c.read_into.ensures.items)

pub invariant_of-self : goal.invariant_of-self
invariant_of-self c = store_shortened _ _ _ c.self.inside.bytes _ _ (taken c)

pub returns : goal.returns
returns c =
    let width : length c.args.into.now ≡ c.self.inside.width = c.requires.width ∙ sym (ap (λ (q : Queue). q.width) c.self.view_is) in
    record {
      queue = queue_shortened c.self.inside.name _ _ _ c.self.inside.holder _ _ _ (taken c) ∙ ap shortened c.self.view_is;
      message = taken_first c.self.inside.name _ _ _ c.self.inside.holder _ _ _ c.args.into.now _ (taken c) width c.read_into.ensures.read ∙ ap first_message c.self.view_is;
    }
