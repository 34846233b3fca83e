-- The handle of an open file names it.
use Rattle.std.proofs.Common.{◌≡◌, ◌∙◌, ℕ, ◌+◌, ◌-◌, ◌<◌, Bool, true, false, ◌||◌, cond, Some, None, ap, arith}
use Rattle.std.specs.Prelude.{nat_eq, nat_lt}
use Rattle.std.proofs.lemmas.Bool.Decides.{nat_tests}
use Rattle.mpm_fcb.specs.declared.block.ControlBlock.{ControlBlock}
use Rattle.mpm_fcb.specs.Opening.{handle_of, item_numbered, item_of}

neither : (zero above : Bool) (item : ℕ) → zero ≡ false → above ≡ false → cond (zero || above) None (Some (item + 1 - 1)) ≡ Some item
neither false false item e h = ap Some (omega arith)
neither true above item e h = absurd (cc)
neither false true item e h = absurd (cc)

item_again : (item : ℕ) → item < 64 → item_numbered (item + 1) ≡ Some item
item_again item few = neither (nat_eq (item + 1) 0) (nat_lt 64 (item + 1)) item (grind (arith, nat_tests)) (grind (arith, nat_tests))

pub handle_found : (b : ControlBlock) (item : ℕ) → b.map ≡ handle_of item → item < 64 → item_of b ≡ Some item
unfolding item_of
handle_found b item is few = ap (λ map. item_of (record b { map = map })) is ∙ item_again item few
