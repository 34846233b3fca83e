use Rattle.std.proofs.Common.{◌≡◌, ℕ, ◌<◌, None, take}
use Rattle.mpm_mount.specs.Faults.{cause_at}
use Rattle.mpm_mount.specs.Using.{IsUsedBy}
use Rattle.mpm_mount.proofs.faults.first_fault.Given as goal

abbrev pub invariant-loop-slot : goal.invariant-loop-slot
invariant-loop-slot l = record {
  faultless : (k : ℕ) → k < l.slot → cause_at l.kind l.entries k ≡ None;
  used : IsUsedBy l.kind (take l.slot l.entries) l.blocks;
}
