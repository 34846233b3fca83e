use Rattle.std.proofs.Common.{ap, ◌∙◌, length, List, ℕ, arith, ◌≤◌, ◌-◌}
use Rattle.mpm_base.specs.Lists.{in_width}
use Rattle.mpm_base.specs.Calls.{Taken}
use Rattle.mpm_queues.proofs.MessageLaws.{block_kept}
use Rattle.mpm_queues.proofs.store.keep_block.Goals as goal

pub returns : goal.returns
returns c =
    let fits : c.call.inside.length ≤ length c.call.inside.bytes = (let whole = c.call.told.1 in let few = c.call.invariant in omega arith) in
    let kept = block_kept c.call.inside.bytes c.call.inside.length c.min-call-inside.result _ fits c.min-call-inside.ensures (ap (λ k. 12 - k) c.from-lacking.ensures) in
    c.append.ensures ∙ ap (λ (bs : List ℕ). record { function = c.call.inside.function; word = c.call.inside.word; dma = c.call.inside.dma; fcb = c.call.inside.fcb; bytes = bs }) kept
    ∙ ap (λ (t : Taken). record t { bytes = in_width 12 t.bytes }) c.call.view_is
