use Rattle.std.proofs.Common.{◌∙◌, ◌==◌, ◌∷◌, ◌++◌, [], length, take, sym, ap, arith}
use Rattle.mpm_clock.specs.Delays.{without_delay}
use Rattle.mpm_clock.proofs.DelayLaws.{without_none, without_room, without_more, without_own}
use Rattle.mpm_clock.proofs.delays.Delays.leave.Goals as goal
use Rattle.mpm_clock.proofs.delays.Delays.leave.Goals.{then-not-is_same, else-not-is_same}

pub loop-delay-init : goal.loop-delay-init
loop-delay-init c = c.new-left.ensures ∙ sym (without_none c.args.p)

pub push-requires : goal.push-requires
push-requires c =
    omega (arith, ap length c.loop-delay.invariant, without_room c.as_slice-delay-items.result.now c.args.p c.loop-delay.delay-index (omega arith) (omega (arith, c.as_slice-delay-items.ensures.few)))

pub loop-delay-preserved : goal.loop-delay-preserved
loop-delay-preserved c =
    let xs = c.as_slice-delay-items.result.now in
    let i = c.loop-delay.delay-index in
    let x = c.delay-item.result in
    let same = ap (λ d. d.slot == c.args.p) (sym c.delay-item.is) ∙ sym c.is_same.ensures in
    elim c.if-not-is_same.branch [
      | then-not-is_same w ↦ w.left-is ∙ w.push.ensures
          ∙ ap (λ l. l ++ x ∷ []) c.loop-delay.invariant
          ∙ ap (λ d. without_delay (take i xs) c.args.p ++ d ∷ []) c.delay-item.is
          ∙ sym (without_more xs c.args.p i x (omega arith) (same ∙ w.if-not-is_same.true))
      | else-not-is_same w ↦ w.left-is ∙ c.loop-delay.invariant ∙ sym (without_own xs c.args.p i x (omega arith) (same ∙ w.if-not-is_same.false))
    ]
