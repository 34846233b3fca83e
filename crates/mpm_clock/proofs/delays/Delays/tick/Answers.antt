use Rattle.std.proofs.Common.{◌≡◌, ◌∙◌, true, false, ◌∷◌, ◌++◌, [], length, take, get_or, sym, ap, subst, arith}
use Rattle.std.proofs.lemmas.Bool.Decides.{nat_tests}
use Rattle.mpm_clock.proofs.DelayLaws.{left_none, woken_none, left_room, woken_room, left_ended, woken_ended, left_more, woken_more}
use Rattle.mpm_clock.proofs.delays.Delays.tick.Goals as goal
use Rattle.mpm_clock.proofs.delays.Delays.tick.Goals.{then-delay-eq0, else-delay-eq0}
use Rattle.mpm_clock.specs.Delays.{lowered, has_ended, woken_by_tick, left_by_tick}

pub loop-item-init : goal.loop-item-init
loop-item-init c = record { left = c.new-left.ensures ∙ sym left_none; woken = c.new-woken.ensures ∙ sym woken_none }

pub push-requires : goal.push-requires
push-requires c =
    omega (arith, ap length c.loop-item.invariant.woken, woken_room c.as_slice-item-items.result.now c.loop-item.item-index (omega arith) (omega (arith, c.as_slice-item-items.ensures.few)))

pub push-requires-else-delay-eq0 : goal.push-requires-else-delay-eq0
push-requires-else-delay-eq0 c =
    omega (arith, ap length c.loop-item.invariant.left, left_room c.as_slice-item-items.result.now c.loop-item.item-index (omega arith) (omega (arith, c.as_slice-item-items.ensures.few)))

pub loop-item-preserved : goal.loop-item-preserved
loop-item-preserved c =
    let xs = c.as_slice-item-items.result.now in
    let i = c.loop-item.item-index in
    let x = c.item-item.result in
    let low : c.lowered-delay.result ≡ lowered (get_or xs i x) = c.lowered-delay.ensures ∙ ap lowered c.item-item.is in
    elim c.if-delay-eq0.branch [
      | then-delay-eq0 w ↦
          let ended : has_ended (lowered (get_or xs i x)) ≡ true = subst (λ d. has_ended d ≡ true) low (grind (arith, nat_tests, w.if-delay-eq0.true)) in
          record {
            left = w.left-is ∙ c.loop-item.invariant.left ∙ sym (left_ended xs i x (omega arith) ended);
            woken = w.woken-is ∙ w.push.ensures
                ∙ ap (λ l. l ++ c.lowered-delay.result.slot ∷ []) c.loop-item.invariant.woken
                ∙ ap (λ d. woken_by_tick (take i xs) ++ d.slot ∷ []) low
                ∙ sym (woken_ended xs i x (omega arith) ended);
          }
      | else-delay-eq0 w ↦
          let goes_on : has_ended (lowered (get_or xs i x)) ≡ false = subst (λ d. has_ended d ≡ false) low (grind (arith, nat_tests, w.if-delay-eq0.false)) in
          record {
            left = w.left-is ∙ w.push-else-delay-eq0.ensures
                ∙ ap (λ l. l ++ c.lowered-delay.result ∷ []) c.loop-item.invariant.left
                ∙ ap (λ d. left_by_tick (take i xs) ++ d ∷ []) low
                ∙ sym (left_more xs i x (omega arith) goes_on);
            woken = w.woken-is ∙ c.loop-item.invariant.woken ∙ sym (woken_more xs i x (omega arith) goes_on);
          }
    ]
