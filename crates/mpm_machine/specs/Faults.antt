-- The faults of a machine's devices: the counts, and what was written.
use Rattle.std.specs.Prelude.{◌≡◌, ℕ, Bool, List, ◌++◌, Result, OnOk, IfErr, ⊤}
use Rattle.mpm_port.specs.Causes.{Rose, HasCause}
use Rattle.mpm_render.specs.Shown.{EndsBetween}
use Rattle.mpm_machine.specs.declared.machine.StepFault.{StepFault}
use Rattle.mpm_machine.specs.declared.machine.StepFault.TheVariants.{DiskFault, WriteFault}
use Rattle.mpm_machine.specs.declared.machine.RunFault.{RunFault}

-- how often the sink and the drives failed
pub record FailureCounts : Type 0 where
  pub sink : ℕ
  pub drives : ℕ

abbrev pub counts : {S D : Type 0} → (S → ℕ) → (D → ℕ) → S → D → FailureCounts
counts of_sink of_drives sink drives = record { sink = of_sink sink; drives = of_drives drives }

-- the count of that device rose, and the other's stayed
abbrev pub HasFailed : StepFault → FailureCounts → FailureCounts → Type 0
HasFailed WriteFault old new = Rose old.sink new.sink × (new.drives ≡ old.drives)
HasFailed DiskFault old new = Rose old.drives new.drives × (new.sink ≡ old.sink)

-- a success leaves both counts, and after an error that device failed of which it tells
pub record HaveCause {A E : Type 0} (fault : E → StepFault) (old new : FailureCounts) (result : Result A E) : Type 0 where
  pub stays : OnOk result (new ≡ old)
  pub failed : IfErr result (λ error. HasFailed (fault error) old new)

-- whether a part stopped or not, records of calls are asked for as before, and what failed has its cause
pub record EndsByCause {A E : Type 0} (fault : E → StepFault) (old_trace new_trace : Bool) (old new : FailureCounts) (result : Result A E) : Type 0 where
  pub trace : new_trace ≡ old_trace
  pub cause : HaveCause fault old new result

-- whether a part that calls no drive stopped or not, records of calls are asked for as before, and an error has its cause
pub record EndsBySink {A E : Type 0} (old_trace new_trace : Bool) (old new : ℕ) (result : Result A E) : Type 0 where
  pub trace : new_trace ≡ old_trace
  pub cause : HasCause old new result

abbrev pub itself : StepFault → StepFault
itself fault = fault

abbrev pub of_run : RunFault → StepFault
of_run error = error.fault

-- what was written between two texts: where the sink failed a first part of what the second adds, and where a drive did nothing
abbrev pub EndsBy : StepFault → List ℕ → List ℕ → List ℕ → List ℕ → Type 0
EndsBy WriteFault written first from to = EndsBetween written first from to
EndsBy DiskFault written first from to = written ≡ first ++ from

-- what is so where a drive failed
abbrev pub OnDiskFault : StepFault → Type 0 → Type 0
OnDiskFault WriteFault P = ⊤
OnDiskFault DiskFault P = P

-- what is so where the sink failed
abbrev pub OnWriteFault : StepFault → Type 0 → Type 0
OnWriteFault WriteFault P = P
OnWriteFault DiskFault P = ⊤
