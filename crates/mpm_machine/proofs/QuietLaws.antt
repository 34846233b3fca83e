-- A step in which no event comes, and in which nobody's held call is completed.
use Rattle.std.proofs.Common.{◌≡◌, ◌∙◌, ℕ, Bool, true, [], Option, Some, None, refl, ap}
use Rattle.std.proofs.lemmas.Bool.{false≢true}
use Rattle.mpm_service.specs.Disk.{served_process, turn_answer}
use Rattle.mpm_service.specs.declared.service.Turn.{Turn}
use Rattle.mpm_service.specs.declared.service.Turn.TheVariants.{Idle, Passing, Work, Starts}
use Rattle.mpm_directories.specs.Direct.{Directly}
use Rattle.mpm_ready.specs.Order.{first_of}
use Rattle.mpm_ready.specs.Tables.{list_at}
use Rattle.mpm_dispatcher.proofs.ReadyLaws.{same_runner}
use Rattle.mpm_dispatcher.specs.Dispatch.{ready, picked, first_completed}
use Rattle.mpm_kernel.specs.Kernel.{Kernel, dispatched as with_dispatcher}
use Rattle.mpm_interrupts.specs.Interrupts.{due}
use Rattle.mpm_system.specs.declared.system.System.{System}
use Rattle.mpm_system.specs.Whole.{silent}
use Rattle.mpm_system.specs.Coming.{lets_in, coming, counted}
use Rattle.mpm_system.proofs.InterruptLaws.{none_due}
use Rattle.mpm_machine.specs.Step.{acted, at_instruction, begun_by, instruction_unless, then_also}
use Rattle.mpm_machine.specs.Finishing.{all_answered}
use Rattle.mpm_machine.specs.FileCalls.{file_caller}
use Rattle.mpm_machine.specs.DiskStep.{step_passed, over_after, served_by, disk_served, entered_by, entered_unless, call_entered}
use Rattle.mpm_machine.specs.Moving.{is_still}
use Rattle.mpm_machine.specs.Stepping.{Telling, begun_with, begun_as, is_instruction, rest_of, step_with}
use Rattle.mpm_machine.proofs.FinishLaws.{answered_nobody}

-- no interrupt comes where none is due
pub none_comes : (system : System) → due system.steps system.interrupts ≡ None → coming system ≡ None
unfolding coming
none_comes system none = none_due (lets_in system.kernel.dispatcher.running system.kernel) (due system.steps system.interrupts) none

-- where no event comes and no file call is made, and what the running process does says nothing and completes nobody, the step is that,
-- and the rest of it
pub step_quiet : (telling : Telling) (system afterwards : System) → file_caller system ≡ None → coming (counted system) ≡ None → acted (counted system) ≡ silent afterwards
    → afterwards.kernel.dispatcher.completed ≡ [] → step_with telling system ≡ rest_of (at_instruction (counted system)) telling (silent afterwards)
unfolding step_with begun_as
step_quiet telling system afterwards none quiet acts no_completions =
    let begun = counted system in
    ap (λ caller. rest_of (is_instruction caller system) telling (then_also (begun_with caller telling.at_gate system) all_answered)) none
    ∙ ap (λ event. rest_of (instruction_unless event begun) telling (then_also (begun_by event begun) all_answered)) quiet
    ∙ ap (λ change. rest_of (at_instruction begun) telling (then_also change all_answered)) acts
    ∙ ap (λ answered. rest_of (at_instruction begun) telling (silent answered)) (answered_nobody afterwards (ap first_completed no_completions))

pub begun_quiet : (told : Directly) (system afterwards : System) → file_caller system ≡ None → coming (counted system) ≡ None → acted (counted system) ≡ silent afterwards
    → afterwards.kernel.dispatcher.completed ≡ [] → begun_as told system ≡ silent afterwards
unfolding begun_as
begun_quiet told system afterwards none quiet acts no_completions =
    let begun = counted system in
    ap (λ caller. then_also (begun_with caller told system) all_answered) none
    ∙ ap (λ event. then_also (begun_by event begun) all_answered) quiet
    ∙ ap (λ change. then_also change all_answered) acts
    ∙ ap silent (answered_nobody afterwards (ap first_completed no_completions))

-- the disk's step where it has nothing to do but to pass one of a turn, or no call
passes_with : (turn : Turn) (told : Directly) (system : System) → is_still turn ≡ true → over_after turn told system ≡ silent system
passes_with Idle told system still = refl
passes_with Passing told system still = refl
passes_with (Work p last) told system still = absurd (false≢true still)
passes_with (Starts p) told system still = absurd (false≢true still)

enters_nobody : (turn : Turn) (turns : ℕ) (system : System) → is_still turn ≡ true → entered_by turn turns system ≡ system
enters_nobody Idle turns system still = refl
enters_nobody Passing turns system still = refl
enters_nobody (Work p last) turns system still = absurd (false≢true still)
enters_nobody (Starts p) turns system still = absurd (false≢true still)

pub served_still : (told : Directly) (p : ℕ) (system : System) → served_process system.kernel.disk ≡ Some p → is_still (turn_answer system.kernel.disk) ≡ true
    → disk_served told system ≡ silent (step_passed system)
unfolding disk_served
served_still told p system serves still =
    ap (λ served. served_by served told system) serves ∙ passes_with (turn_answer system.kernel.disk) told (step_passed system) still

pub served_nobody : (told : Directly) (system : System) → served_process system.kernel.disk ≡ None → disk_served told system ≡ silent system
unfolding disk_served
served_nobody told system none = ap (λ served. served_by served told system) none

pub entered_nobody : (turns : ℕ) (system : System) → served_process system.kernel.disk ≡ None → is_still (turn_answer system.kernel.disk) ≡ true
    → call_entered turns system ≡ step_passed system
unfolding call_entered
entered_nobody turns system none still =
    ap (λ served. entered_unless served turns system) none ∙ enters_nobody (turn_answer system.kernel.disk) turns (step_passed system) still

pub entered_served : (turns p : ℕ) (system : System) → served_process system.kernel.disk ≡ Some p → call_entered turns system ≡ system
unfolding call_entered
entered_served turns p system serves = ap (λ served. entered_unless served turns system) serves

-- who runs and is the first of the ready list is picked again, or nobody where there is none
pub picked_same : (instruction : Bool) (kernel : Kernel) → first_of (list_at kernel.dispatcher.lists ready) ≡ kernel.dispatcher.running → with_dispatcher (picked instruction) kernel ≡ kernel
picked_same instruction kernel first =
    ap (λ (running : Option ℕ). record kernel { dispatcher = record kernel.dispatcher { running = running } }) (same_runner instruction kernel.dispatcher.procs kernel.dispatcher.lists kernel.dispatcher.running first)
