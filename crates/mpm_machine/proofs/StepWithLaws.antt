-- A step, by what its file calls come to: the system stays whole, nobody is left to be answered, and nobody's end is due; and what an
-- instruction and another call do in it.
use Rattle.std.proofs.Common.{◌≡◌, ◌∙◌, ℕ, Bool, false, not, ◌&&◌, Option, Some, None, if◌then◌else◌, ap}
use Rattle.std.specs.Prelude.{is_some}
use Rattle.mpm_procs.specs.Table.{process_in}
use Rattle.mpm_system.specs.declared.system.System.{System}
use Rattle.mpm_system.specs.Whole.{IsWhole, NoCompletions}
use Rattle.mpm_system.specs.Coming.{coming, counted}
use Rattle.mpm_machine.specs.Due.{NobodyDue}
use Rattle.mpm_machine.specs.Step.{gate_before}
use Rattle.mpm_machine.specs.FileCalls.{at_gate, called_next, is_file_number, calls_files, file_caller_by, file_caller}
use Rattle.mpm_machine.specs.Stepping.{Telling, begun_with, begun_as, is_instruction, step_with}
use Rattle.mpm_machine.specs.Contained.{Instructs, OnlyInstructed, CallsAtGate, ServedByValue}
use Rattle.mpm_machine.proofs.DueLaws.{no_completions_answered}
use Rattle.mpm_machine.proofs.RestLaws.{whole_rest, no_completions_rest, nobody_due_rest}
use Rattle.mpm_machine.proofs.FiledLaws.{whole_begun_as}
use Rattle.mpm_machine.proofs.InstructedLaws.{instructs_only}
use Rattle.mpm_machine.proofs.ServedLaws.{served_by_value}

pub whole_with : (telling : Telling) (system : System) → IsWhole system → IsWhole (step_with telling system).system
unfolding step_with
whole_with telling system w =
    whole_rest (is_instruction (file_caller system) system) telling (begun_as telling.at_gate system) (whole_begun_as telling.at_gate system w)

pub nobody_due_with : (telling : Telling) (system : System) → IsWhole system → NobodyDue (step_with telling system).system.kernel
unfolding step_with
nobody_due_with telling system w =
    nobody_due_rest (is_instruction (file_caller system) system) telling (begun_as telling.at_gate system) (whole_begun_as telling.at_gate system w)

pub no_completions_with : (telling : Telling) (system : System) → NoCompletions (step_with telling system).system
unfolding step_with begun_as
no_completions_with telling system =
    no_completions_rest (is_instruction (file_caller system) system) telling (begun_as telling.at_gate system)
    (no_completions_answered (begun_with (file_caller system) telling.at_gate system).system)

-- at an instruction

pub no_file_at : (p seg : ℕ) (system : System) → (process_in system.kernel.dispatcher.procs p).seg ≡ Some seg → gate_before p seg system ≡ None
    → calls_files p system ≡ false
unfolding calls_files
no_file_at p seg system home none =
    ap (λ own. is_file_number (called_next own p system)) home
    ∙ ap (λ gate. is_file_number (at_gate gate (process_in system.kernel.dispatcher.procs p).regs.c)) none

no_caller_by : (comes : Bool) (running : Option ℕ) (p : ℕ) (system : System) → running ≡ Some p → calls_files p system ≡ false
    → file_caller_by comes running system ≡ None
no_caller_by comes running p system runs e =
    ap (λ r. file_caller_by comes r system) runs ∙ ap (λ b. if b && not comes then Some p else None) e

no_caller_at : (p seg : ℕ) (system : System) → Instructs system p seg → file_caller system ≡ None
unfolding file_caller
no_caller_at p seg system i =
    no_caller_by (is_some (coming (counted system))) system.kernel.dispatcher.running p system i.runs (no_file_at p seg system i.home i.no_gate)

pub instructed_with : (telling : Telling) (p seg : ℕ) (system : System) → NoCompletions system → Instructs system p seg
    → OnlyInstructed telling p system (step_with telling system).system
instructed_with telling p seg system none i = instructs_only telling system p seg (no_caller_at p seg system i) i none.answered

-- and at another call

pub served_with : (telling : Telling) (p seg : ℕ) (system : System) → CallsAtGate system p seg → file_caller system ≡ None
    → ServedByValue telling p seg system (step_with telling system).system
served_with telling p seg system i none = served_by_value telling system p seg none i
