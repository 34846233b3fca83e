-- What one more fault makes of a count.
use Rattle.std.proofs.Common.{◌≡◌, ℕ, ◌+◌, ◌-◌, ◌^◌, ◌<◌, min, inl, inr, arith}
use Rattle.std.proofs.lemmas.Bool.{cases_eq}
use Rattle.mpm_port.specs.Causes.{Rose}

-- a count that stands still at its last value rises with each fault
pub rose : (before now : ℕ) → before < 2 ^ 64 → now ≡ min (before + 1) (2 ^ 64 - 1) → Rose before now
unfolding Rose
rose before now small h = elim (cases_eq before (2 ^ 64 - 1)) [
  | inl last ↦ inr (last, grind arith)
  | inr other ↦ inl (grind arith)
]
