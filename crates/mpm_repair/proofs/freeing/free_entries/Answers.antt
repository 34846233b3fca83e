use Rattle.std.proofs.Common.{◌+◌, List, ℕ, length, sym, ap, arith}
use Rattle.std.proofs.lemmas.List.{length-append}
use Rattle.mpm_fault_lines.specs.Lists.{listed, listed_at}
use Rattle.mpm_repair.proofs.Freed.{freed_more, freed_none, listed_none, listed_more, listed_few}
use Rattle.mpm_repair.proofs.freeing.free_entries.Goals as goal

pub loop-slot-init : goal.loop-slot-init
loop-slot-init c = record {
  freed = sym (freed_none c.args.slots.now c.args.entries.now);
  count = ap (λ (xs : List ℕ). length xs) (sym (listed_none c.args.slots.now));
}

pub overflow_add-count : goal.overflow_add-count
overflow_add-count c =
    let before = listed_few c.args.slots.now (c.loop-slot.slot + 1) in
    let more = ap (λ (xs : List ℕ). length xs) (listed_more c.args.slots.now c.loop-slot.slot) in
    omega (arith, before, more, length-append (listed c.args.slots.now c.loop-slot.slot) (listed_at c.args.slots.now c.loop-slot.slot), c.free_at-count.ensures.count, c.loop-slot.invariant.count, c.loop-slot-test.true, c.requires)

pub loop-slot-preserved : goal.loop-slot-preserved
loop-slot-preserved c = record {
  freed = freed_more c.args.slots.now c.loop-slot.slot c.args.entries.now c.loop-slot.entries c.free_at-count.new.entries c.loop-slot.invariant.freed c.free_at-count.ensures.freed;
  count =
      let more = ap (λ (xs : List ℕ). length xs) (listed_more c.args.slots.now c.loop-slot.slot) in
      omega (arith, more, length-append (listed c.args.slots.now c.loop-slot.slot) (listed_at c.args.slots.now c.loop-slot.slot), c.free_at-count.ensures.count, c.loop-slot.invariant.count);
}
