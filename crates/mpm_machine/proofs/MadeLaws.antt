-- What is so of the system after a step, whatever its file calls came to.
use Rattle.std.proofs.Common.{◌≡◌, ◌+◌, sym, subst}
use Rattle.mpm_system.specs.declared.system.System.{System}
use Rattle.mpm_system.specs.Whole.{IsWhole, NoCompletions}
use Rattle.mpm_machine.specs.Due.{NobodyDue}
use Rattle.mpm_machine.specs.Stepping.{Telling, step_with}
use Rattle.mpm_machine.specs.After.{IsOfSome}
use Rattle.mpm_machine.proofs.FileStepLaws.{steps_with}
use Rattle.mpm_machine.proofs.StepWithLaws.{whole_with, nobody_due_with, no_completions_with}

abbrev pub IsMade : System → System → Type 0
IsMade old new = IsOfSome (λ (telling : Telling). (step_with telling old).system) new

pub made_whole : (old new : System) → IsWhole old → IsMade old new → IsWhole new
made_whole old new w made = subst IsWhole (sym made.1) (whole_with made.0 old w)

pub made_nobody_due : (old new : System) → IsWhole old → IsMade old new → NobodyDue new.kernel
made_nobody_due old new w made = subst (λ (system : System). NobodyDue system.kernel) (sym made.1) (nobody_due_with made.0 old w)

pub made_no_completions : (old new : System) → IsMade old new → NoCompletions new
made_no_completions old new made = subst NoCompletions (sym made.1) (no_completions_with made.0 old)

pub made_steps : (old new : System) → IsMade old new → new.steps ≡ old.steps + 1
made_steps old new made = subst (λ (system : System). system.steps ≡ old.steps + 1) (sym made.1) (steps_with made.0 old)
