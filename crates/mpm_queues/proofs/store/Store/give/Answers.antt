use Rattle.std.proofs.Common.{rules, ◌≡◌, ap, ◌∙◌, length, List, ℕ, ◌++◌}
use Rattle.mpm_base.specs.Lists.{in_width}
use Rattle.mpm_base.specs.Calls.{Taken}
use Rattle.mpm_queues.specs.Queue.{first_message, with_given}
use Rattle.mpm_queues.proofs.MessageLaws.{given_bytes}
use Rattle.mpm_queues.proofs.store.Store.give.Goals as goal

pub returns : goal.returns
unfolding with_given
returns c =
    let block = ap (λ (t : Taken). t.bytes) (c.call.view_is ∙ c.keep_block.ensures) in
    let fits : length c.call.inside.bytes ≡ 4096 = c.call.told.1 in
    let size = ap length c.take_first.ensures.message ∙ c.first_size-size.ensures.first in
    let bytes = given_bytes c.call.inside.bytes c.take_first.new.into _ c.args.call.now.bytes c.call.inside.length c.first_size-size.result fits c.call.invariant block size in
    record {
      queue = search rules;
      call = ap (λ (bs : List ℕ). record { function = c.call.inside.function; word = c.call.inside.word; dma = c.call.inside.dma; fcb = c.call.inside.fcb; bytes = bs }) bytes
          ∙ ap (λ (m : List ℕ). record { function = c.call.inside.function; word = c.call.inside.word; dma = c.call.inside.dma; fcb = c.call.inside.fcb; bytes = in_width 12 c.args.call.now.bytes ++ m }) c.take_first.ensures.message
          ∙ ap (λ (t : Taken). record t { bytes = in_width 12 c.args.call.now.bytes ++ first_message c.args.self.now }) (c.call.view_is ∙ c.keep_block.ensures);
    }
