use Rattle.std.proofs.Common.{◌≡◌, take}
use Rattle.mpm_clock.specs.Delays.{woken_by_tick, left_by_tick}
use Rattle.mpm_clock.proofs.delays.Delays.tick.Given as goal

abbrev pub invariant-loop-item : goal.invariant-loop-item
invariant-loop-item l = record {
  left : l.left ≡ left_by_tick (take l.item-index l.item-items);
  woken : l.woken ≡ woken_by_tick (take l.item-index l.item-items);
}
