-- When a device may answer that it failed: by its count of faults, or by its list of failed names.
use Rattle.std.specs.Prelude.{◌≡◌, ◌⊎◌, Bool, IsTrue, IsErr, ℕ, ◌-◌, ◌^◌, ◌<◌, ◌≤◌, List, [], ◌∷◌, ◌++◌, Result, Ok, Err, OnOk, OnErr}
use Rattle.mpm_port.specs.declared.files.FetchError.{FetchError}
use Rattle.mpm_port.specs.declared.files.FetchError.TheVariants.{Failed, OutOfMemory}

-- the count is above what it was, or stands at its last value
unfoldable pub Rose : ℕ → ℕ → Type 0
Rose before now = (before < now) ⊎ ((before ≡ 2 ^ 64 - 1) × (now ≡ 2 ^ 64 - 1))

-- the count never falls, a success leaves it, and a failure has raised it
pub record HasCause {A E : Type 0} (before now : ℕ) (result : Result A E) : Type 0 where
  pub later : before ≤ now
  pub stays : OnOk result (now ≡ before)
  pub failed : OnErr result (Rose before now)

-- the failed names after a call on a name was refused so: it joins them where the call failed
abbrev pub names_with : List (List ℕ) → List ℕ → FetchError → List (List ℕ)
names_with names name Failed = names ++ (name ∷ [])
names_with names name OutOfMemory = names

-- the failed names after a call on a name
abbrev pub names_after : {A : Type 0} → List (List ℕ) → List ℕ → Result A FetchError → List (List ℕ)
names_after names name (Ok answer) = names
names_after names name (Err refusal) = names_with names name refusal

-- a call on a name answers that it failed only where it was to fail, and then it is refused: so, or for want of memory
pub record FailsWhere {A : Type 0} (fails : Bool) (result : Result A FetchError) : Type 0 where
  pub failed : result ≡ Err Failed → IsTrue fails
  pub refused : IsTrue fails → IsErr result
