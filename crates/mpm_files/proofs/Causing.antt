-- What is known of a device's faults where it wasn't called, and by calls after one that went well.
use Rattle.std.proofs.Common.{◌≡◌, ℕ, Result, Ok, Err, refl, subst, arith}
use Rattle.mpm_port.specs.Causes.{HasCause}

pub cause_none : {A E : Type 0} (faults : ℕ) (x : A) → HasCause {E = E} faults faults (Ok x)
cause_none faults x = record { later = omega arith; stays = refl; failed = tt }

pub cause_behind : {A E : Type 0} (old mid new : ℕ) (result : Result A E) → mid ≡ old → HasCause mid new result → HasCause old new result
cause_behind old mid new result same cause = subst (λ n. HasCause n new result) same cause

-- the same result with another value

pub cause_done : {A B E : Type 0} (x : A) (y : B) (old new : ℕ) → HasCause {E = E} old new (Ok x) → HasCause {E = E} old new (Ok y)
cause_done x y old new cause = record { later = cause.later; stays = cause.stays; failed = tt }

pub cause_failed : {A B E : Type 0} (error : E) (old new : ℕ) → HasCause {A = A} old new (Err error) → HasCause {A = B} old new (Err error)
cause_failed error old new cause = record { later = cause.later; stays = tt; failed = cause.failed }
