-- How many steps the disk only passes, and that nobody is at it.
use Rattle.std.proofs.Common.{◌≡◌, ℕ, Option, Some, None, refl, ◌+◌, ◌<◌, ◌≤◌, IfSome, unwrap_or, subst, arith}
use Rattle.mpm_ready.specs.Order.{first_of}
use Rattle.mpm_service.specs.declared.service.Served.{Served}
use Rattle.mpm_service.specs.Disk.{DiskService}
use Rattle.mpm_service.specs.Ahead.{quiet_by, quiet_steps}
use Rattle.mpm_system.specs.Idling.{CanPass}

no_turn_due : (turn_steps : ℕ) (served : Option Served) (first : Option ℕ) → quiet_by turn_steps served first ≡ None → (served ≡ None) × (first ≡ None)
no_turn_due turn_steps None None none = (refl, refl)
no_turn_due turn_steps None (Some p) none = absurd (cc)
no_turn_due turn_steps (Some call) first none = absurd (cc)

pub nobody_served : (disk : DiskService) → quiet_steps disk ≡ None → disk.served ≡ None
unfolding quiet_steps
nobody_served disk none = (no_turn_due disk.turn_steps disk.served (first_of disk.waiting) none).0

pub nobody_waits : (disk : DiskService) → quiet_steps disk ≡ None → first_of disk.waiting ≡ None
unfolding quiet_steps
nobody_waits disk none = (no_turn_due disk.turn_steps disk.served (first_of disk.waiting) none).1

-- the disk tells how many
none_waits : (turn_steps n : ℕ) (served : Option Served) (first : Option ℕ) → 0 < n → n ≤ unwrap_or (quiet_by turn_steps served first) n → served ≡ None → first ≡ None
none_waits turn_steps n None None some few none = refl
none_waits turn_steps n None (Some p) some few none = absurd (omega (arith, some, few))
none_waits turn_steps n (Some call) first some few none = absurd (cc)

pub quiet_passes : (disk : DiskService) (result : Option ℕ) (n : ℕ) → result ≡ quiet_steps disk
    → ((k : ℕ) → k ≤ unwrap_or result k → IfSome disk.served (λ call. call.passed + k < disk.turn_steps)) → n ≤ unwrap_or result n → CanPass n disk
unfolding quiet_steps
quiet_passes disk result n is turn few = record {
  within = turn n few;
  nobody = λ some. none_waits disk.turn_steps n disk.served (first_of disk.waiting) some (subst (λ (o : Option ℕ). n ≤ unwrap_or o n) is few);
}

pub passes_within : (n : ℕ) (disk : DiskService) → CanPass n disk → IfSome disk.served (λ call. call.passed + n < disk.turn_steps)
passes_within n disk can = can.within

pub fewer_can : (n most : ℕ) (disk : DiskService) → n ≤ most → CanPass most disk → CanPass n disk
fewer_can n most disk few can = record { within = fewer disk.served disk.turn_steps n most few can.within; nobody = λ some. can.nobody (omega (arith, some, few)) }
  where
    fewer : (served : Option Served) (turn_steps n most : ℕ) → n ≤ most → IfSome served (λ call. call.passed + most < turn_steps) → IfSome served (λ call. call.passed + n < turn_steps)
    fewer None turn_steps n most few within = tt
    fewer (Some call) turn_steps n most few within = omega (arith, few, within)
