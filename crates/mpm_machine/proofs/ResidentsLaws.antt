-- Residents go on by answers alone: through each part of a step every one of them stays as it is, or takes an answer.
use Rattle.std.proofs.Common.{◌≡◌, ◌==◌, ℕ, Bool, true, false, List, [], ◌∷◌, Option, Some, None, sym, subst, refl, ap}
use Rattle.std.specs.List.{range_with_len}
use Rattle.mpm_base.proofs.Choices.{either}
use Rattle.mpm_base.specs.Calls.{Taken, Answer}
use Rattle.mpm_base.specs.declared.call.Outcome.{Outcome}
use Rattle.mpm_base.specs.declared.call.Outcome.TheVariants.{Done, Held, Retry, Ended}
use Rattle.mpm_dispatcher.specs.Dispatch.{first_completed}
use Rattle.mpm_directories.specs.Direct.{CallerChange, Directly, Stays, Selects, Resets}
use Rattle.mpm_file_functions.specs.declared.refusals.Extended.{Extended}
use Rattle.mpm_kernel.specs.Called.{low_parameter}
use Rattle.mpm_kernel.specs.Waiting.{completion_reply}
use Rattle.mpm_procs.specs.Table.{process_in}
use Rattle.mpm_residents.specs.Natives.{native_act, native_call, native_in}
use Rattle.mpm_residents.specs.declared.cli.act.Act.{Act}
use Rattle.mpm_residents.specs.declared.cli.act.Act.TheVariants.{Ask, PlaceBytes, MoveCode, BeginProcess, GiveConsole}
use Rattle.mpm_residents.specs.declared.native.Native.{Native}
use Rattle.mpm_interrupts.specs.Interrupts.{due_taken}
use Rattle.mpm_script.specs.declared.event.Event.{Event}
use Rattle.mpm_service.specs.Disk.{served_process, turn_answer}
use Rattle.mpm_service.specs.declared.service.Turn.{Turn}
use Rattle.mpm_service.specs.declared.service.Turn.TheVariants.{Idle, Passing, Work, Starts}
use Rattle.mpm_system.specs.Answering.{answering_call, recorded, replied, popped}
use Rattle.mpm_system.specs.Calling.{asking}
use Rattle.mpm_system.specs.Coming.{coming, counted}
use Rattle.mpm_system.specs.FileCalling.{call_made, error_told, file_replied, reply_by, with_caller, made_by}
use Rattle.mpm_system.specs.Loading.{handed_answer, handed_over, is_console}
use Rattle.mpm_system.specs.Residents.{handing_step, taking, telling_step, tells, text_told, asked_by}
use Rattle.mpm_system.specs.Saying.{said_by}
use Rattle.mpm_system.specs.Sending.{chains}
use Rattle.mpm_system.specs.Whole.{SystemChange, speaking}
use Rattle.mpm_system.specs.declared.system.System.{System}
use Rattle.mpm_machine.proofs.LoadedParts.{acted_residents, handed_residents, key_residents}
use Rattle.mpm_machine.proofs.ResidingLaws.{residents_stay}
use Rattle.mpm_machine.specs.DiskStep.{all_paid, call_entered, call_over, disk_served, entered_by, entered_unless, file_called, is_done_at_once, over_after, ready_again, served_by, step_passed}
use Rattle.mpm_machine.specs.Due.{due_terminated, ended_if_due, is_due, with_ends}
use Rattle.mpm_machine.specs.Ending.{ended}
use Rattle.mpm_machine.specs.FileCalls.{answered_by, concluded, error_met, file_caller, told_then}
use Rattle.mpm_machine.specs.Finishing.{all_finished, answered_from, command_let_in, completion_dequeued, finished, finished_or_ended, finishing}
use Rattle.mpm_machine.specs.Residing.{calling_step, native_outcome, native_step, resided}
use Rattle.mpm_machine.specs.Serving.{fulfilling, served_to_all, with_entry}
use Rattle.mpm_machine.specs.Step.{acted, acted_by, begun_by, event_come, gate_before, happened_to, interrupted, running_segment, acted_at}
use Rattle.mpm_machine.specs.Stepping.{Telling, begun_as, begun_with, ended_after, entered_after, is_instruction, rest_of, step_with}
use Rattle.mpm_system.specs.Taking.{keeping}

-- what is so of residents is so after one of them took an answer
pub record HoldsOfAnswered (P : List Native → Type 0) : Type 0 where
  pub took : (reply : Answer) (p : ℕ) (system : System) → P system.residents → P (taking reply p system).residents

-- so it is after a part of a step that is so before it

by_same : (P : List Native → Type 0) (old new : System) → new.residents ≡ old.residents → P old.residents → P new.residents
by_same P old new same h = subst P (sym same) h

-- a resident's step

text_goes : (P : List Native → Type 0) (call : Taken) (system : System) → P system.residents → P (text_told call system).system.residents
unfolding speaking
text_goes P call system h =
    either (λ (change : SystemChange). P change.system.residents) (is_console (low_parameter call) system.kernel) _ _ (λ _. h) (λ _. h)

telling_goes : (P : List Native → Type 0) → HoldsOfAnswered P → (call : Taken) (p : ℕ) (system : System) → P system.residents → P (telling_step call p system).system.residents
unfolding telling_step
telling_goes P holds call p system h = holds.took _ p (text_told call system).system (text_goes P call system h)

outcome_goes : (P : List Native → Type 0) → HoldsOfAnswered P → (outcome : Outcome) (reply : Answer) (call : Taken) (p : ℕ) (system : System) → P system.residents
    → P (native_outcome outcome reply call p system).system.residents
unfolding said_by speaking ended
outcome_goes P holds Done reply call p system h = holds.took reply p (said_by call call.bytes p system).system h
outcome_goes P holds Ended reply call p system h = h
outcome_goes P holds Held reply call p system h = h
outcome_goes P holds Retry reply call p system h = h

calling_goes : (P : List Native → Type 0) → HoldsOfAnswered P → (call : Taken) (p : ℕ) (system : System) → P system.residents → P (calling_step call p system).system.residents
unfolding calling_step
calling_goes P holds call p system h =
    let done = served_to_all call p system in
    outcome_goes P holds done.outcome done.reply call p done.system (by_same P system done.system (residents_stay call p system) h)

handing_goes : (P : List Native → Type 0) → HoldsOfAnswered P → (act : Act) (call : Taken) (p : ℕ) (system : System) → P system.residents → P (handing_step act call p system).residents
unfolding handing_step
handing_goes P holds act call p system h =
    let over = handed_over act call.bytes p system in
    holds.took (handed_answer act system) p over (by_same P system over (handed_residents act call.bytes p system) h)

native_goes : (P : List Native → Type 0) → HoldsOfAnswered P → (act : Act) (call : Taken) (p : ℕ) (system : System) → P system.residents → P (native_step act call p system).system.residents
native_goes P holds Ask call p system h =
    either (λ (change : SystemChange). P change.system.residents) (tells (native_in system.residents p) call) _ _
    (λ _. telling_goes P holds call p system h) (λ _. calling_goes P holds call p system h)
native_goes P holds (PlaceBytes seg address count) call p system h = handing_goes P holds (PlaceBytes seg address count) call p system h
native_goes P holds (MoveCode seg address count page) call p system h = handing_goes P holds (MoveCode seg address count page) call p system h
native_goes P holds (BeginProcess seg new) call p system h = handing_goes P holds (BeginProcess seg new) call p system h
native_goes P holds (GiveConsole console) call p system h = handing_goes P holds (GiveConsole console) call p system h

resided_goes : (P : List Native → Type 0) → HoldsOfAnswered P → (native : Option Native) (p : ℕ) (system : System) → P system.residents → P (resided native p system).system.residents
resided_goes P holds None p system h = h
resided_goes P holds (Some native) p system h = native_goes P holds (native_act native) (native_call native) p (asking p (native_call native) system) h

-- what a step begins with

acted_goes : (P : List Native → Type 0) → HoldsOfAnswered P → (running seg : Option ℕ) (system : System) → P system.residents → P (acted_by running seg system).system.residents
acted_goes P holds None seg system h = h
acted_goes P holds (Some p) None system h = resided_goes P holds (native_in system.residents p) p system h
acted_goes P holds (Some p) (Some seg) system h = by_same P system (acted_at (gate_before p seg system) p seg system).system (acted_residents (gate_before p seg system) p seg system) h

event_residents : (event : Event) (system : System) → (interrupted event system).system.residents ≡ system.residents
unfolding interrupted event_come
event_residents event system =
    let taken : System = record system { interrupts = due_taken system.steps system.interrupts } in
    key_residents (happened_to event taken).kernel.aborted (happened_to event taken)

begun_goes : (P : List Native → Type 0) → HoldsOfAnswered P → (event : Option Event) (system : System) → P system.residents → P (begun_by event system).system.residents
unfolding acted
begun_goes P holds None system h = acted_goes P holds system.kernel.dispatcher.running (running_segment system.kernel.dispatcher.running system) system h
begun_goes P holds (Some event) system h = by_same P system (interrupted event system).system (event_residents event system) h

-- held calls are completed, and processes end

ended_goes : (P : List Native → Type 0) (p : ℕ) (system : System) → P system.residents → P (ended p system).residents
unfolding ended
ended_goes P p system h = h

finished_goes : (P : List Native → Type 0) → HoldsOfAnswered P → (seg : Option ℕ) (p : ℕ) (system : System) → P system.residents → P (finished seg p system).residents
unfolding fulfilling with_entry answering_call recorded replied
finished_goes P holds None p system h = holds.took (completion_reply system.kernel p) p system h
finished_goes P holds (Some seg) p system h = h

finishing_goes : (P : List Native → Type 0) → HoldsOfAnswered P → (ps : List ℕ) (system : System) → P system.residents → P (finishing ps system).residents
unfolding finishing
finishing_goes P holds [] system h = h
finishing_goes P holds (p ∷ ps) system h =
    let seg = (process_in system.kernel.dispatcher.procs p).seg in
    finishing_goes P holds ps (finished seg p (completion_dequeued system)) (finished_goes P holds seg p (completion_dequeued system) h)

all_finished_goes : (P : List Native → Type 0) → HoldsOfAnswered P → (system : System) → P system.residents → P (all_finished system).residents
all_finished_goes P holds system h = finishing_goes P holds system.kernel.dispatcher.completed system h

answered_goes : (P : List Native → Type 0) → HoldsOfAnswered P → (first : Option ℕ) (system : System) → P system.residents → P (answered_from first system).residents
unfolding answered_from
answered_goes P holds None system h = h
answered_goes P holds (Some p) system h =
    let now = command_let_in p (completion_dequeued system) in
    all_finished_goes P holds (finished_or_ended p now)
    (either (λ (s : System). P s.residents) (chains p now.kernel) _ _ (λ _. ended_goes P p now h) (λ _. finished_goes P holds (process_in now.kernel.dispatcher.procs p).seg p now h))

due_goes : (P : List Native → Type 0) → HoldsOfAnswered P → (ps : List ℕ) (system : System) → P system.residents → P (due_terminated ps system).residents
unfolding due_terminated ended_if_due
due_goes P holds [] system h = h
due_goes P holds (p ∷ ps) system h =
    due_goes P holds ps (ended_if_due p system)
    (either (λ (s : System). P s.residents) (is_due system.kernel p) _ _ (λ _. all_finished_goes P holds (ended p system) (ended_goes P p system h)) (λ _. h))

ends_go : (P : List Native → Type 0) → HoldsOfAnswered P → (system : System) → P system.residents → P (with_ends system).residents
unfolding with_ends
ends_go P holds system h = due_goes P holds (range_with_len 0 32) system h

-- a file call is answered, or its error is met

reply_goes : (P : List Native → Type 0) → HoldsOfAnswered P → (seg : Option ℕ) (reply : Answer) (p : ℕ) (system : System) → P system.residents → P (reply_by seg reply p system).residents
unfolding answering_call recorded replied
reply_goes P holds (Some seg) reply p system h = h
reply_goes P holds None reply p system h = holds.took reply p system h

replied_goes : (P : List Native → Type 0) → HoldsOfAnswered P → (reply : Answer) (p : ℕ) (system : System) → P system.residents → P (file_replied reply p system).residents
unfolding file_replied
replied_goes P holds reply p system h = reply_goes P holds (process_in system.kernel.dispatcher.procs p).seg reply p system h

told_goes : (P : List Native → Type 0) → HoldsOfAnswered P → (answers : Bool) (error : Extended) (reply : Answer) (p : ℕ) (system : System) → P system.residents
    → P (told_then answers error reply p system).system.residents
unfolding told_then error_told speaking
told_goes P holds true error reply p system h = replied_goes P holds reply p (error_told error p system).system h
told_goes P holds false error reply p system h = ended_goes P p (error_told error p system).system h

met_goes : (P : List Native → Type 0) → HoldsOfAnswered P → (error : Extended) (reply : Answer) (p : ℕ) (system : System) → P system.residents → P (error_met error reply p system).system.residents
unfolding error_met
met_goes P holds error reply p system h =
    let mode = (process_in system.kernel.dispatcher.procs p).error_mode in
    either (λ (change : SystemChange). P change.system.residents) (mode == 255) _ _ (λ _. replied_goes P holds reply p system h)
    (λ _. told_goes P holds (mode == 254) error reply p system h)

file_answer_goes : (P : List Native → Type 0) → HoldsOfAnswered P → (error : Option Extended) (reply : Answer) (p : ℕ) (system : System) → P system.residents
    → P (answered_by error reply p system).system.residents
file_answer_goes P holds None reply p system h = replied_goes P holds reply p system h
file_answer_goes P holds (Some error) reply p system h = met_goes P holds error reply p system h

caller_goes : (P : List Native → Type 0) (change : CallerChange) (p : ℕ) (system : System) → P system.residents → P (with_caller change p system).residents
unfolding with_caller
caller_goes P Stays p system h = h
caller_goes P (Selects drive) p system h = h
caller_goes P Resets p system h = h

concluded_goes : (P : List Native → Type 0) → HoldsOfAnswered P → (told : Directly) (p : ℕ) (system : System) → P system.residents → P (concluded told p system).system.residents
unfolding concluded
concluded_goes P holds told p system h = file_answer_goes P holds told.extended told.answer p (with_caller told.caller p system) (caller_goes P told.caller p system h)

called_goes : (P : List Native → Type 0) → HoldsOfAnswered P → (told : Directly) (p : ℕ) (system : System) → P system.residents → P (file_called told p system).system.residents
unfolding file_called
called_goes P holds told p system h =
    either (λ (change : SystemChange). P change.system.residents) (is_done_at_once p system) _ _ (λ _. concluded_goes P holds told p system h) (λ _. h)

-- the disk's step

after_goes : (P : List Native → Type 0) → HoldsOfAnswered P → (turn : Turn) (told : Directly) (system : System) → P system.residents → P (over_after turn told system).system.residents
unfolding call_over
after_goes P holds Idle told system h = h
after_goes P holds Passing told system h = h
after_goes P holds (Starts p) told system h = h
after_goes P holds (Work p true) told system h =
    all_finished_goes P holds (concluded told p (ready_again p system)).system (concluded_goes P holds told p (ready_again p system) h)
after_goes P holds (Work p false) told system h = h

served_goes : (P : List Native → Type 0) → HoldsOfAnswered P → (served : Option ℕ) (told : Directly) (system : System) → P system.residents → P (served_by served told system).system.residents
served_goes P holds None told system h = h
served_goes P holds (Some p) told system h = after_goes P holds (turn_answer system.kernel.disk) told (step_passed system) h

entering_goes : (P : List Native → Type 0) (turn : Turn) (turns : ℕ) (system : System) → P system.residents → P (entered_by turn turns system).residents
entering_goes P Idle turns system h = h
entering_goes P Passing turns system h = h
entering_goes P (Work p last) turns system h = h
entering_goes P (Starts p) turns system h = h

entered_goes : (P : List Native → Type 0) (served : Option ℕ) (turns : ℕ) (system : System) → P system.residents → P (entered_unless served turns system).residents
entered_goes P (Some p) turns system h = h
entered_goes P None turns system h = entering_goes P (turn_answer system.kernel.disk) turns (step_passed system) h

disk_goes : (P : List Native → Type 0) → HoldsOfAnswered P → (telling : Telling) (system : System) → P system.residents → P (entered_after telling system).residents
unfolding entered_after disk_served call_entered all_paid
disk_goes P holds telling system h =
    let paid = all_paid (disk_served telling.at_disk system).system in
    entered_goes P (served_process paid.kernel.disk) telling.turns paid (served_goes P holds (served_process system.kernel.disk) telling.at_disk system h)

-- a call on files is made

made_residents : (seg : Option ℕ) (native : Option Native) (p : ℕ) (system : System) → native_in system.residents p ≡ native → (made_by seg p system).residents ≡ system.residents
unfolding keeping popped
made_residents (Some seg) native p system here = refl
made_residents None None p system here = ap (λ (o : Option Native). (asked_by o p system).residents) here
made_residents None (Some native) p system here = ap (λ (o : Option Native). (asked_by o p system).residents) here

pub call_residents : (p : ℕ) (system : System) → (call_made p system).residents ≡ system.residents
unfolding call_made
call_residents p system = made_residents (process_in system.kernel.dispatcher.procs p).seg _ p (counted system) refl

-- a whole step

with_goes : (P : List Native → Type 0) → HoldsOfAnswered P → (caller : Option ℕ) (told : Directly) (system : System) → P system.residents → P (begun_with caller told system).system.residents
with_goes P holds None told system h = let begun = counted system in begun_goes P holds (coming begun) begun h
with_goes P holds (Some p) told system h = called_goes P holds told p (call_made p system) (by_same P system (call_made p system) (call_residents p system) h)

begins_goes : (P : List Native → Type 0) → HoldsOfAnswered P → (told : Directly) (system : System) → P system.residents → P (begun_as told system).system.residents
unfolding begun_as
begins_goes P holds told system h =
    let begun = (begun_with (file_caller system) told system).system in
    answered_goes P holds (first_completed begun.kernel.dispatcher.completed) begun (with_goes P holds (file_caller system) told system h)

rest_goes : (P : List Native → Type 0) → HoldsOfAnswered P → (instruction : Bool) (telling : Telling) (begun : SystemChange) → P begun.system.residents
    → P (rest_of instruction telling begun).system.residents
unfolding rest_of ended_after all_paid
rest_goes P holds instruction telling begun h = ends_go P holds (entered_after telling begun.system) (disk_goes P holds telling begun.system h)

pub residents_go : (P : List Native → Type 0) → HoldsOfAnswered P → (telling : Telling) (system : System) → P system.residents → P (step_with telling system).system.residents
unfolding step_with
residents_go P holds telling system h =
    rest_goes P holds (is_instruction (file_caller system) system) telling (begun_as telling.at_gate system) (begins_goes P holds telling.at_gate system h)
