-- Laws of what the running process does, as the parts of a step make it: of one that has a segment, an instruction where a listed one
-- stands, and its end where none does.
use Rattle.std.proofs.Common.{◌≡◌, ◌∙◌, ℕ, true, false, Option, Some, None, is_some, refl, sym, ap}
use Rattle.std.proofs.lemmas.Bool.{false≢true}
use Rattle.z80_regs.specs.Outcome.{StepOutcome}
use Rattle.mpm_procs.specs.Table.{process_in}
use Rattle.mpm_system.specs.declared.system.System.{System}
use Rattle.mpm_system.specs.Whole.{silent}
use Rattle.mpm_residents.specs.Natives.{native_in}
use Rattle.mpm_machine.specs.Residing.{resided}
use Rattle.mpm_machine.specs.Step.{illegal, executed, instructed, acted, acted_by, acted_at, at_instruction, instruction_by, running_segment, gate_before, is_no_gate}
use Rattle.mpm_machine.proofs.WholeLaws.{ran_nothing}

pub executed_listed : (outcome : Option StepOutcome) (p seg : ℕ) (old new : System) → is_some outcome ≡ true → new ≡ instructed outcome p seg old
    → executed outcome p seg old ≡ silent new
unfolding executed
executed_listed None p seg old new listed is = absurd (false≢true listed)
executed_listed (Some outcome) p seg old new listed is = ap silent (sym is)

pub executed_unlisted : (outcome : Option StepOutcome) (p seg : ℕ) (old new : System) → is_some outcome ≡ false → new ≡ instructed outcome p seg old
    → executed outcome p seg old ≡ illegal p new
unfolding executed
executed_unlisted None p seg old new unlisted is = ap (illegal p) (sym (is ∙ ran_nothing None p seg old refl))
executed_unlisted (Some outcome) p seg old new unlisted is = absurd (false≢true (sym unlisted))

-- the running process has a segment
pub acted_inside : (p seg : ℕ) (system : System) → system.kernel.dispatcher.running ≡ Some p → (process_in system.kernel.dispatcher.procs p).seg ≡ Some seg
    → acted system ≡ acted_at (gate_before p seg system) p seg system
unfolding acted
acted_inside p seg system running home =
    ap (λ (r : Option ℕ). acted_by r (running_segment r system) system) running ∙ ap (λ (s : Option ℕ). acted_by (Some p) s system) home

pub instruction_inside : (p seg : ℕ) (system : System) → system.kernel.dispatcher.running ≡ Some p → (process_in system.kernel.dispatcher.procs p).seg ≡ Some seg
    → at_instruction system ≡ is_no_gate (gate_before p seg system)
unfolding at_instruction
instruction_inside p seg system running home =
    ap (λ (r : Option ℕ). instruction_by r (running_segment r system) system) running ∙ ap (λ (s : Option ℕ). instruction_by (Some p) s system) home

-- it has none
pub acted_outside : (p : ℕ) (system : System) → system.kernel.dispatcher.running ≡ Some p → (process_in system.kernel.dispatcher.procs p).seg ≡ None
    → acted system ≡ resided (native_in system.residents p) p system
unfolding acted
acted_outside p system running home =
    ap (λ (r : Option ℕ). acted_by r (running_segment r system) system) running ∙ ap (λ (s : Option ℕ). acted_by (Some p) s system) home

pub instruction_outside : (p : ℕ) (system : System) → system.kernel.dispatcher.running ≡ Some p → (process_in system.kernel.dispatcher.procs p).seg ≡ None
    → at_instruction system ≡ false
unfolding at_instruction
instruction_outside p system running home =
    ap (λ (r : Option ℕ). instruction_by r (running_segment r system) system) running ∙ ap (λ (s : Option ℕ). instruction_by (Some p) s system) home
