-- A step by what a file call comes to, if one is made in it: when none is, and what is so after it.
use Rattle.std.proofs.Common.{◌≡◌, ◌∙◌, ℕ, ◌+◌, ◌≤◌, Bool, true, false, not, ◌&&◌, ◌==◌, [], Option, Some, None, is_some, if◌then◌else◌, length, refl, sym, ap, subst, arith}
use Rattle.mpm_base.proofs.Choices.{either}
use Rattle.mpm_base.specs.Calls.{Answer}
use Rattle.mpm_procs.specs.Table.{process_in, call_of}
use Rattle.mpm_service.specs.Disk.{served_process, turn_answer}
use Rattle.mpm_service.specs.declared.service.Turn.{Turn}
use Rattle.mpm_service.specs.declared.service.Turn.TheVariants.{Idle, Passing, Work, Starts}
use Rattle.mpm_gate.specs.declared.gate.Gate.{Gate}
use Rattle.mpm_gate.specs.declared.gate.Gate.TheVariants.{End, Call, Return}
use Rattle.mpm_residents.specs.declared.native.Native.{Native}
use Rattle.mpm_residents.specs.Natives.{native_in}
use Rattle.mpm_file_functions.specs.declared.refusals.Extended.{Extended}
use Rattle.mpm_directories.specs.Direct.{CallerChange, Stays, Selects, Resets, Directly}
use Rattle.mpm_system.specs.declared.system.System.{System}
use Rattle.mpm_system.specs.Whole.{SystemChange, HasRoomForAll, speaking}
use Rattle.mpm_system.specs.Taking.{keeping}
use Rattle.mpm_system.specs.Answering.{popped}
use Rattle.mpm_system.specs.Residents.{asked_by}
use Rattle.mpm_system.specs.Coming.{coming, counted}
use Rattle.mpm_system.specs.FileCalling.{made_by, call_made, with_caller, reply_by, file_replied, error_told}
use Rattle.mpm_machine.specs.Ending.{ended}
use Rattle.mpm_machine.specs.Step.{gate_before}
use Rattle.mpm_machine.specs.FileCalls.{at_gate, is_of_files, is_file_number, file_caller_by, file_caller, told_then, error_met, answered_by, concluded}
use Rattle.mpm_machine.specs.DiskStep.{is_done_at_once, file_called, ready_again, step_passed, call_over, over_after, served_by, disk_served, all_paid, entered_by, entered_unless, call_entered}
use Rattle.mpm_machine.specs.Stepping.{Telling, begun_with, begun_as, is_instruction, paid_after, entered_after, ended_after, rest_of, step_with}
use Rattle.mpm_machine.proofs.TallyLaws.{Tally, tally, OneMore, none_more, one_more_behind, answering_more, more_have_room, begun_more, all_answered_steps, all_finished_steps, ends_steps}
use Rattle.mpm_machine.proofs.StepWithLaws.{no_file_at}

-- none is made where no process runs, or the one that runs is at no gate
pub nobody_calls : (system : System) → system.kernel.dispatcher.running ≡ None → file_caller system ≡ None
unfolding file_caller
nobody_calls system idle = ap (λ running. file_caller_by (is_some (coming (counted system))) running system) idle

-- a number that is none of a file call's is one at no gate
pub no_file_called : (gate : Option Gate) (number : ℕ) → is_of_files number ≡ false → is_file_number (at_gate gate number) ≡ false
no_file_called None number other = refl
no_file_called (Some End) number other = refl
no_file_called (Some Call) number other = other
no_file_called (Some Return) number other = refl

pub gateless : (system : System) (p seg : ℕ) → system.kernel.dispatcher.running ≡ Some p → (process_in system.kernel.dispatcher.procs p).seg ≡ Some seg
    → gate_before p seg system ≡ None → file_caller system ≡ None
unfolding file_caller
gateless system p seg runs home none =
    let comes = is_some (coming (counted system)) in
    ap (λ running. file_caller_by comes running system) runs
    ∙ ap (λ (b : Bool). if b && not comes then Some p else None) (no_file_at p seg system home none)

-- it is counted once, and completes one call at most

caller_tally : (change : CallerChange) (p : ℕ) (system : System) → tally (with_caller change p system) ≡ tally system
unfolding with_caller
caller_tally Stays p system = refl
caller_tally (Selects drive) p system = refl
caller_tally Resets p system = refl

reply_more : (seg : Option ℕ) (reply : Answer) (p : ℕ) (system : System) → OneMore system (reply_by seg reply p system)
reply_more None reply p system = none_more system _ refl
reply_more (Some seg) reply p system = answering_more reply (call_of system.kernel.dispatcher.procs p) p seg system

replied_more : (reply : Answer) (p : ℕ) (system : System) → OneMore system (file_replied reply p system)
unfolding file_replied
replied_more reply p system = reply_more (process_in system.kernel.dispatcher.procs p).seg reply p system

error_tally : (error : Extended) (p : ℕ) (system : System) → tally (error_told error p system).system ≡ tally system
unfolding error_told speaking
error_tally error p system = refl

ended_tally : (p : ℕ) (system : System) → tally (ended p system) ≡ tally system
unfolding ended
ended_tally p system = refl

told_more : (answers : Bool) (error : Extended) (reply : Answer) (p : ℕ) (system : System) → OneMore system (told_then answers error reply p system).system
unfolding told_then
told_more answers error reply p system =
    let told = (error_told error p system).system in
    one_more_behind system told _ (error_tally error p system)
    (either (OneMore told) answers _ _ (λ _. replied_more reply p told) (λ _. none_more told _ (ended_tally p told)))

met_more : (error : Extended) (reply : Answer) (p : ℕ) (system : System) → OneMore system (error_met error reply p system).system
unfolding error_met
met_more error reply p system =
    let mode = (process_in system.kernel.dispatcher.procs p).error_mode in
    either (λ (c : SystemChange). OneMore system c.system) (mode == 255) _ _ (λ _. replied_more reply p system)
    (λ _. told_more (mode == 254) error reply p system)

answered_more : (error : Option Extended) (reply : Answer) (p : ℕ) (system : System) → OneMore system (answered_by error reply p system).system
answered_more None reply p system = replied_more reply p system
answered_more (Some error) reply p system = met_more error reply p system

pub concluded_more : (told : Directly) (p : ℕ) (system : System) → OneMore system (concluded told p system).system
unfolding concluded
concluded_more told p system =
    one_more_behind system (with_caller told.caller p system) _ (caller_tally told.caller p system)
    (answered_more told.extended told.answer p (with_caller told.caller p system))

made_tally : (seg : Option ℕ) (native : Option Native) (p : ℕ) (system : System) → native_in system.residents p ≡ native
    → tally (made_by seg p system) ≡ tally system
unfolding keeping popped
made_tally (Some seg) native p system here = refl
made_tally None None p system here = ap (λ o. tally (asked_by o p system)) here
made_tally None (Some native) p system here = ap (λ o. tally (asked_by o p system)) here

call_tally : (p : ℕ) (system : System) → tally (call_made p system) ≡ tally (counted system)
unfolding call_made
call_tally p system = made_tally (process_in system.kernel.dispatcher.procs p).seg _ p (counted system) refl

pub call_records : (p : ℕ) (old made : System) → old.records ≡ [] → made ≡ call_made p old → made.records ≡ []
call_records p old made none is = ap (λ (s : System). s.records) is ∙ ap (λ (t : Tally). t.records) (call_tally p old) ∙ none

called_more : (told : Directly) (p : ℕ) (system : System) → OneMore system (file_called told p system).system
unfolding file_called
called_more told p system =
    either (λ (c : SystemChange). OneMore system c.system) (is_done_at_once p system) _ _ (λ _. concluded_more told p system) (λ _. none_more system _ refl)

pub called_few : (told : Directly) (p : ℕ) (made called : System) → made.records ≡ [] → called ≡ (file_called told p made).system → length called.records ≤ 1
called_few told p made called none is =
    omega (arith, ap (λ (s : System). length s.records) is, (called_more told p made).few, ap length none)

begun_with_more : (caller : Option ℕ) (told : Directly) (system : System) → OneMore (counted system) (begun_with caller told system).system
begun_with_more None told system = begun_more (coming (counted system)) (counted system)
begun_with_more (Some p) told system =
    one_more_behind (counted system) (call_made p system) _ (call_tally p system) (called_more told p (call_made p system))

pub begun_steps : (told : Directly) (system : System) → (begun_as told system).system.steps ≡ system.steps + 1
unfolding begun_as
begun_steps told system =
    all_answered_steps (begun_with (file_caller system) told system).system ∙ (begun_with_more (file_caller system) told system).steps

pub begun_with_has_room : (caller : Option ℕ) (told : Directly) (system begun : System) → system.records ≡ [] → begun ≡ (begun_with caller told system).system
    → HasRoomForAll (length begun.records + 1)
begun_with_has_room caller told system begun none is =
    let P : System → Type 0 = λ s. HasRoomForAll (length s.records + 1) in
    subst P (sym is) (more_have_room (counted system) (begun_with caller told system).system none (begun_with_more caller told system))

over_steps : (turn : Turn) (told : Directly) (system : System) → (over_after turn told system).system.steps ≡ system.steps
unfolding call_over
over_steps Idle told system = refl
over_steps Passing told system = refl
over_steps (Starts p) told system = refl
over_steps (Work p true) told system =
    all_finished_steps (concluded told p (ready_again p system)).system ∙ (concluded_more told p (ready_again p system)).steps
over_steps (Work p false) told system = refl

served_by_steps : (served : Option ℕ) (told : Directly) (system : System) → (served_by served told system).system.steps ≡ system.steps
served_by_steps None told system = refl
served_by_steps (Some p) told system = over_steps (turn_answer system.kernel.disk) told (step_passed system)

entered_by_steps : (turn : Turn) (turns : ℕ) (system : System) → (entered_by turn turns system).steps ≡ system.steps
entered_by_steps Idle turns system = refl
entered_by_steps Passing turns system = refl
entered_by_steps (Work p last) turns system = refl
entered_by_steps (Starts p) turns system = refl

entered_unless_steps : (served : Option ℕ) (turns : ℕ) (system : System) → (entered_unless served turns system).steps ≡ system.steps
entered_unless_steps (Some p) turns system = refl
entered_unless_steps None turns system = entered_by_steps (turn_answer system.kernel.disk) turns (step_passed system)

pub rest_steps : (instruction : Bool) (telling : Telling) (begun : SystemChange) → (rest_of instruction telling begun).system.steps ≡ begun.system.steps
unfolding rest_of ended_after entered_after call_entered all_paid disk_served
rest_steps instruction telling begun =
    let paid = paid_after telling.at_disk begun.system in
    ends_steps (entered_after telling begun.system)
    ∙ entered_unless_steps (served_process paid.kernel.disk) telling.turns paid
    ∙ served_by_steps (served_process begun.system.kernel.disk) telling.at_disk begun.system

pub steps_with : (telling : Telling) (system : System) → (step_with telling system).system.steps ≡ system.steps + 1
unfolding step_with
steps_with telling system =
    rest_steps (is_instruction (file_caller system) system) telling (begun_as telling.at_gate system) ∙ begun_steps telling.at_gate system
