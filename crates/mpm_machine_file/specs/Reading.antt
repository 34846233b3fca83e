-- What a reading answers.
use Rattle.std.specs.Prelude.{◌≡◌, ◌≤◌, ℕ, Option, Some, None, Result, Ok, Err, IfOk}
use Rattle.std.specs.Option.{ok_or}
use Rattle.mpm_machine_file.specs.declared.error.MachineError.{MachineError}
use Rattle.mpm_machine_file.specs.declared.error.MachineError.TheVariants.{Fault, OutOfMemory}

-- a fault exactly where nothing is found; want of memory may come in any case
abbrev pub FailsReading : {A : Type 0} → MachineError → Option A → Type 0
FailsReading Fault found = found ≡ None
FailsReading OutOfMemory found = Unit {0}

-- a value that is seen as the one that is found, or a failure
abbrev pub Gives : {X A : Type 0} → (X → A) → Result X MachineError → Option A → Type 0
Gives view (Ok value) found = found ≡ Some (view value)
Gives view (Err error) found = FailsReading error found

-- the value that is found, or a failure
abbrev pub ReadsValue : {A : Type 0} → Result A MachineError → Option A → Type 0
ReadsValue = Gives (λ value. value)

-- the number that is found, no greater than a limit, or a fault
pub record ReadsNumber (found : Option ℕ) (greatest : ℕ) (result : Result ℕ MachineError) : Type 0 where
  pub number : result ≡ ok_or found Fault
  pub limit : IfOk result (λ n. n ≤ greatest)
