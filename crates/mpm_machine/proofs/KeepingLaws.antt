-- The disk's service along a step: whatever else is done in it, the disk serves the same call, in turns of as many steps. Who may end
-- isn't the one that is served: he runs, or is to be answered, or his end isn't put off.
use Rattle.std.proofs.Common.{◌≡◌, ◌∙◌, ℕ, ◌+◌, ◌==◌, ◌&&◌, ◌||◌, not, Bool, true, false, if◌then◌else◌, List, [], ◌∷◌, Option, Some, None, refl, ap, arith}
use Rattle.std.proofs.lemmas.Bool.{false≢true, or_parts}
use Rattle.std.specs.List.{range_with_len}
use Rattle.z80_regs.specs.Outcome.{StepOutcome}
use Rattle.mpm_base.specs.Lists.{in_width}
use Rattle.mpm_base.specs.Calls.{Taken, Answer}
use Rattle.mpm_base.specs.declared.call.Outcome.{Outcome}
use Rattle.mpm_base.specs.declared.call.Outcome.TheVariants.{Done, Held, Retry, Ended}
use Rattle.mpm_base.specs.declared.functions.TheConstants.{ABSOLUTE_MEMORY_REQUEST, RELOCATABLE_MEMORY_REQUEST, MEMORY_FREE, CREATE_PROCESS, CHAIN_TO_PROGRAM, SEND_CLI_COMMAND, PARSE_FILENAME, ABORT_SPECIFIED_PROCESS, SYSTEM_DATA_ADDRESS, RETURN_PROCESS_DESCRIPTOR_ADDRESS}
use Rattle.mpm_base.proofs.Choices.{either}
use Rattle.mpm_procs.specs.Table.{process_in, call_of, lowest_free}
use Rattle.mpm_procs.specs.declared.process.NewProcess.{NewProcess}
use Rattle.mpm_script.specs.declared.event.Event.{Event}
use Rattle.mpm_service.specs.Disk.{DiskService}
use Rattle.mpm_service.specs.Places.{at_disk, is_call_of, without_call}
use Rattle.mpm_service.proofs.PlaceLaws.{served_stays_without}
use Rattle.mpm_gate.specs.declared.gate.Gate.{Gate}
use Rattle.mpm_gate.specs.declared.gate.Gate.TheVariants.{End, Call, Return}
use Rattle.mpm_dispatcher.specs.Dispatch.{IsReady, first_completed, in_slot, admitted}
use Rattle.mpm_kernel.specs.Kernel.{Kernel, IsSoundKernel, is_resident, dispatched}
use Rattle.mpm_kernel.specs.Consoling.{abort_taken}
use Rattle.mpm_kernel.specs.Ending.{discharged}
use Rattle.mpm_kernel.specs.Columns.{spoke}
use Rattle.mpm_kernel.specs.Calls.{called}
use Rattle.mpm_kernel.proofs.DiskLaws.{ready_not_at_disk}
use Rattle.mpm_kernel.proofs.DiskStays.{disk_called, disk_happened, disk_handed_out, disk_given_back, disk_discharged, kernel_if}
use Rattle.mpm_xdos.specs.Aborting.{waits_to_end, target, abort_done}
use Rattle.mpm_xdos.specs.Creating.{created, all_admitted, children_of, may_create, home_base}
use Rattle.mpm_xdos.specs.Procedures.{entered, returned_from_procedure}
use Rattle.mpm_residents.specs.declared.native.Native.{Native}
use Rattle.mpm_residents.specs.Natives.{native_in, native_call, native_act}
use Rattle.mpm_residents.specs.declared.cli.act.Act.{Act}
use Rattle.mpm_residents.specs.declared.cli.act.Act.TheVariants.{Ask, PlaceBytes, MoveCode, BeginProcess, GiveConsole}
use Rattle.mpm_interrupts.specs.Interrupts.{due_taken}
use Rattle.mpm_output.specs.Texts.{illegal_text}
use Rattle.mpm_file_functions.specs.declared.refusals.Extended.{Extended}
use Rattle.mpm_directories.specs.Direct.{Directly, CallerChange, Stays, Selects, Resets}
use Rattle.mpm_kernel.specs.Called.{Called, low_parameter}
use Rattle.mpm_kernel.specs.Waiting.{completion_reply}
use Rattle.mpm_system.specs.declared.system.System.{System}
use Rattle.mpm_system.specs.Whole.{SystemChange, speaking}
use Rattle.mpm_system.specs.Calling.{Served as Attended, with_kept, asking}
use Rattle.mpm_system.specs.Sending.{chains, may_pass, passed, passed_after, sent, sending, chaining, is_command, let_in, has_interpreter, framed, renamed, console_sent, may_send, chained}
use Rattle.mpm_system.specs.Taking.{asked, keeping}
use Rattle.mpm_system.specs.Segments.{reserving, releasing}
use Rattle.mpm_system.specs.Parsing.{parsing}
use Rattle.mpm_system.specs.Saying.{said_by, string_of}
use Rattle.mpm_system.specs.Answering.{popped, replied, recorded, answering_call}
use Rattle.mpm_system.specs.Coming.{unhalted}
use Rattle.mpm_system.specs.FileCalling.{with_caller, reply_by, file_replied, error_told}
use Rattle.mpm_system.specs.Residents.{tells, telling_step, handing_step}
use Rattle.mpm_system.specs.Loading.{is_console, begun_for, begins, handed_over}
use Rattle.mpm_system.proofs.PlacedLaws.{given_disk}
use Rattle.mpm_machine.specs.Ending.{ended}
use Rattle.mpm_machine.specs.Serving.{aborted, aborting, aborting_this, creating, served_to_all, served, with_entry, fulfilling, completing, outcome_of, gate_step, returning, is_entry}
use Rattle.mpm_machine.specs.Finishing.{finished, completion_dequeued, finishing, all_finished, command_let_in, finished_or_ended, answered_from, all_answered}
use Rattle.mpm_machine.specs.Due.{is_due, ended_if_due, due_terminated, with_ends}
use Rattle.mpm_machine.specs.Step.{acted, acted_by, acted_at, running_segment, instructed, illegal, executed, instruction_at, key_aborted, happened_to, event_come, interrupted, gate_before}
use Rattle.mpm_machine.specs.FileCalls.{told_then, error_met, answered_by, concluded}
use Rattle.mpm_machine.specs.Residing.{native_outcome, calling_step, native_step, resided}

-- the disk serves the same call, in turns of as many steps
pub record KeepsService (old new : DiskService) : Type 0 where
  pub served : new.served ≡ old.served
  pub steps : new.turn_steps ≡ old.turn_steps

abbrev pub ServesSame : System → System → Type 0
ServesSame old new = KeepsService old.kernel.disk new.kernel.disk

abbrev KernelSame : Kernel → Kernel → Type 0
KernelSame old new = KeepsService old.disk new.disk

pub same_service : (old new : DiskService) → new ≡ old → KeepsService old new
same_service old new is = record { served = ap (λ (d : DiskService). d.served) is; steps = ap (λ (d : DiskService). d.turn_steps) is }

pub same_then : (old middle new : DiskService) → KeepsService old middle → KeepsService middle new → KeepsService old new
same_then old middle new first second = record { served = second.served ∙ first.served; steps = second.steps ∙ first.steps }

-- a process is not served
abbrev pub Unserved : System → ℕ → Type 0
Unserved system p = is_call_of p system.kernel.disk.served ≡ false

unserved_still : (old new : System) (p : ℕ) → ServesSame old new → Unserved old p → Unserved new p
unserved_still old new p same none = ap (is_call_of p) same.served ∙ none

second_none : (a b : Bool) → ((if a then 1 else 0) + (if b then 1 else 0)) ≡ 0 → b ≡ false
second_none a false none = refl
second_none true true none = absurd (omega (arith, none))
second_none false true none = absurd (omega (arith, none))

pub ready_unserved : (system : System) (p : ℕ) → IsSoundKernel system.kernel → IsReady system.kernel.dispatcher p → Unserved system p
unfolding at_disk
ready_unserved system p s ready = second_none _ (is_call_of p system.kernel.disk.served) (ready_not_at_disk system.kernel p s ready)

-- an end of one who isn't served
discharged_same : (kernel : Kernel) (p : ℕ) → is_call_of p kernel.disk.served ≡ false → KernelSame kernel (discharged kernel p)
unfolding without_call
discharged_same kernel p none = record {
  served = ap (λ (d : DiskService). d.served) (disk_discharged kernel p) ∙ served_stays_without kernel.disk.served p none;
  steps = ap (λ (d : DiskService). d.turn_steps) (disk_discharged kernel p);
}

pub end_serves : (p : ℕ) (system : System) → Unserved system p → ServesSame system (ended p system)
unfolding ended
end_serves p system none = discharged_same system.kernel p none

-- an abort: of one that is served it is put off
abort_same : (p : ℕ) (kernel : Kernel) (stays waits : Bool) → (waits ≡ false → is_call_of p kernel.disk.served ≡ false) → (b : Kernel) → KernelSame kernel b
    → KernelSame kernel (if stays then kernel else (if waits then b else (discharged kernel p)))
abort_same p kernel true waits apart b same = same_service kernel.disk kernel.disk refl
abort_same p kernel false true apart b same = same
abort_same p kernel false false apart b same = discharged_same kernel p (apart refl)

pub abort_serves : (p : ℕ) (system : System) → ServesSame system (aborted p system)
unfolding aborted abort_done
abort_serves p system =
    abort_same p system.kernel (is_resident system.kernel.dispatcher.procs p) (waits_to_end system.kernel p) (λ none. (or_parts _ _ none).0) _
    (same_service system.kernel.disk _ refl)

passed_disk : (p : ℕ) (kernel : Kernel) → (passed p kernel).disk ≡ kernel.disk
passed_disk p kernel = kernel_if kernel.disk (may_pass p kernel) _ _ (given_disk (console_sent p kernel) (Some p) (Some 0) kernel) refl

pub let_in_disk : (p : ℕ) (kernel : Kernel) → (let_in p kernel).disk ≡ kernel.disk
let_in_disk p kernel = kernel_if kernel.disk (is_command p kernel) _ _ (passed_disk p kernel) refl

pub passed_after_disk : (outcome : Outcome) (reply : Answer) (p : ℕ) (kernel : Kernel) → (passed_after outcome reply p kernel).disk ≡ kernel.disk
passed_after_disk Done reply p kernel = kernel_if kernel.disk (reply.hl == 0) _ _ (passed_disk p kernel) refl
passed_after_disk Held reply p kernel = refl
passed_after_disk Retry reply p kernel = refl
passed_after_disk Ended reply p kernel = refl

sent_disk : (function : ℕ) (message : List ℕ) (p : ℕ) (kernel : Kernel) → (sent function message p kernel).kernel.disk ≡ kernel.disk
unfolding sent
sent_disk function message p kernel =
    let asked_so = with_kept p (framed message (call_of kernel.dispatcher.procs p)) kernel in
    let done = called p asked_so in
    passed_after_disk done.outcome done.reply p (renamed function p done.kernel) ∙ disk_called p asked_so

called_if : (disk : DiskService) (b : Bool) (x y : Called) → x.kernel.disk ≡ disk → y.kernel.disk ≡ disk → (if b then x else y).kernel.disk ≡ disk
called_if disk true x y one other = one
called_if disk false x y one other = other

sending_disk : (interprets : Bool) (p : ℕ) (kernel : Kernel) → (sending interprets p kernel).kernel.disk ≡ kernel.disk
unfolding sending
sending_disk interprets p kernel =
    let call = call_of kernel.dispatcher.procs p in
    called_if kernel.disk (may_send interprets call kernel) _ _ (sent_disk SEND_CLI_COMMAND (in_width 130 call.bytes) p kernel) refl

chaining_disk : (interprets : Bool) (p : ℕ) (kernel : Kernel) → (chaining interprets p kernel).kernel.disk ≡ kernel.disk
unfolding chaining
chaining_disk interprets p kernel =
    called_if kernel.disk interprets _ _
    (sent_disk CHAIN_TO_PROGRAM (chained (process_in kernel.dispatcher.procs p) (call_of kernel.dispatcher.procs p).bytes) p kernel) refl

admitted_disk : (children : List NewProcess) (kernel : Kernel) → (all_admitted children kernel).disk ≡ kernel.disk
unfolding all_admitted
admitted_disk [] kernel = refl
admitted_disk (new ∷ more) kernel = admitted_disk more (dispatched (in_slot new (lowest_free kernel.dispatcher.procs)) kernel)

pub created_disk : (kernel : Kernel) (p base : ℕ) → (created kernel p base).disk ≡ kernel.disk
unfolding created
created_disk kernel p base =
    let children = children_of (process_in kernel.dispatcher.procs p) base (call_of kernel.dispatcher.procs p).bytes in
    kernel_if kernel.disk (may_create kernel children) _ _ (admitted_disk children kernel) refl

-- held calls that are completed
pub finished_disk : (seg : Option ℕ) (p : ℕ) (system : System) → (finished seg p system).kernel.disk ≡ system.kernel.disk
unfolding fulfilling answering_call recorded replied with_entry entered
finished_disk None p system = refl
finished_disk (Some seg) p system =
    kernel_if system.kernel.disk (is_entry (call_of system.kernel.dispatcher.procs p) (completion_reply system.kernel p)) _ _ refl refl

each_disk : (ps : List ℕ) (system : System) → (finishing ps system).kernel.disk ≡ system.kernel.disk
unfolding finishing
each_disk [] system = refl
each_disk (p ∷ ps) system =
    let first = finished (process_in system.kernel.dispatcher.procs p).seg p (completion_dequeued system) in
    each_disk ps first ∙ finished_disk (process_in system.kernel.dispatcher.procs p).seg p (completion_dequeued system) ∙ disk_handed_out system.kernel

pub finishing_disk : (system : System) → (all_finished system).kernel.disk ≡ system.kernel.disk
finishing_disk system = each_disk system.kernel.dispatcher.completed system

pub finishing_serves : (system : System) → ServesSame system (all_finished system)
finishing_serves system = same_service system.kernel.disk _ (finishing_disk system)

-- a process that chained isn't served
first_serves : (p : ℕ) (system : System) → (chains p system.kernel ≡ true → Unserved system p) → ServesSame system (finished_or_ended p system)
first_serves p system apart =
    either (ServesSame system) (chains p system.kernel) _ _ (λ is. end_serves p system (apart is))
    (λ _. same_service system.kernel.disk _ (finished_disk (process_in system.kernel.dispatcher.procs p).seg p system))

abbrev first_let_in : ℕ → System → System
first_let_in p system = command_let_in p (completion_dequeued system)

let_in_serves : (p : ℕ) (system : System) → (first_let_in p system).kernel.disk ≡ system.kernel.disk
let_in_serves p system = let_in_disk p (completion_dequeued system).kernel ∙ disk_handed_out system.kernel

from_serves : (o : Option ℕ) (system : System) → ((p : ℕ) → chains p (first_let_in p system).kernel ≡ true → Unserved (first_let_in p system) p)
    → ServesSame system (answered_from o system)
unfolding answered_from
from_serves None system apart = same_service system.kernel.disk system.kernel.disk refl
from_serves (Some p) system apart =
    let first = first_let_in p system in
    same_then system.kernel.disk first.kernel.disk _ (same_service system.kernel.disk first.kernel.disk (let_in_serves p system))
    (same_then first.kernel.disk (finished_or_ended p first).kernel.disk _ (first_serves p first (apart p)) (finishing_serves (finished_or_ended p first)))

pub completion_serves : (system : System) → ((p : ℕ) → chains p (first_let_in p system).kernel ≡ true → Unserved (first_let_in p system) p)
    → ServesSame system (all_answered system)
completion_serves system apart = from_serves (first_completed system.kernel.dispatcher.completed) system apart

-- all ends that are due
due_apart : (a b c : Bool) → (a && not (b || c)) ≡ true → b ≡ false
due_apart true false c due = refl
due_apart true true c due = absurd (false≢true due)
due_apart false b c due = absurd (false≢true due)

due_serves : (p : ℕ) (system : System) → ServesSame system (ended_if_due p system)
unfolding ended_if_due
due_serves p system =
    either (ServesSame system) (is_due system.kernel p) _ _
    (λ due. same_then system.kernel.disk (ended p system).kernel.disk _ (end_serves p system (due_apart _ (is_call_of p system.kernel.disk.served) _ due)) (finishing_serves (ended p system)))
    (λ _. same_service system.kernel.disk system.kernel.disk refl)

each_due_serves : (ps : List ℕ) (system : System) → ServesSame system (due_terminated ps system)
unfolding due_terminated
each_due_serves [] system = same_service system.kernel.disk system.kernel.disk refl
each_due_serves (p ∷ ps) system =
    same_then system.kernel.disk (ended_if_due p system).kernel.disk _ (due_serves p system) (each_due_serves ps (ended_if_due p system))

pub ends_serve : (system : System) → ServesSame system (with_ends system)
unfolding with_ends
ends_serve system = each_due_serves (range_with_len 0 32) system

-- a file call is concluded, at the gate or after its last turn
caller_disk : (change : CallerChange) (p : ℕ) (system : System) → (with_caller change p system).kernel.disk ≡ system.kernel.disk
unfolding with_caller
caller_disk Stays p system = refl
caller_disk (Selects drive) p system = refl
caller_disk Resets p system = refl

reply_disk : (seg : Option ℕ) (reply : Answer) (p : ℕ) (system : System) → (reply_by seg reply p system).kernel.disk ≡ system.kernel.disk
unfolding answering_call recorded replied
reply_disk None reply p system = refl
reply_disk (Some seg) reply p system = refl

replied_serves : (reply : Answer) (p : ℕ) (system : System) → ServesSame system (file_replied reply p system)
unfolding file_replied
replied_serves reply p system = same_service system.kernel.disk _ (reply_disk (process_in system.kernel.dispatcher.procs p).seg reply p system)

told_serves : (answers : Bool) (error : Extended) (reply : Answer) (p : ℕ) (system : System) → Unserved system p → ServesSame system (told_then answers error reply p system).system
unfolding told_then error_told speaking spoke
told_serves answers error reply p system none =
    either (ServesSame system) answers _ _ (λ _. replied_serves reply p (error_told error p system).system) (λ _. end_serves p (error_told error p system).system none)

met_serves : (error : Extended) (reply : Answer) (p : ℕ) (system : System) → Unserved system p → ServesSame system (error_met error reply p system).system
unfolding error_met
met_serves error reply p system none =
    let mode = (process_in system.kernel.dispatcher.procs p).error_mode in
    either (λ (c : SystemChange). ServesSame system c.system) (mode == 255) _ _
    (λ _. replied_serves reply p system) (λ _. told_serves (mode == 254) error reply p system none)

answer_serves : (error : Option Extended) (reply : Answer) (p : ℕ) (system : System) → Unserved system p → ServesSame system (answered_by error reply p system).system
answer_serves None reply p system none = replied_serves reply p system
answer_serves (Some error) reply p system none = met_serves error reply p system none

pub concluded_serves : (told : Directly) (p : ℕ) (system : System) → Unserved system p → ServesSame system (concluded told p system).system
unfolding concluded
concluded_serves told p system none =
    let changed = with_caller told.caller p system in
    let same = same_service system.kernel.disk changed.kernel.disk (caller_disk told.caller p system) in
    same_then system.kernel.disk changed.kernel.disk _ same
    (answer_serves told.extended told.answer p changed (unserved_still system changed p same none))

-- 1 to 3: an instruction, an event, and the gate step of another process
key_serves : (aborted_one : Option ℕ) (system : System) → ServesSame system (key_aborted aborted_one system)
key_serves None system = same_service system.kernel.disk system.kernel.disk refl
key_serves (Some p) system = abort_serves p (record system { kernel = abort_taken system.kernel })

unhalted_disk : (running : Option ℕ) (kernel : Kernel) → (unhalted running kernel).disk ≡ kernel.disk
unhalted_disk None kernel = refl
unhalted_disk (Some p) kernel = refl

pub event_serves : (event : Event) (system : System) → ServesSame system (interrupted event system).system
unfolding interrupted event_come
event_serves event system =
    let timed = record system { interrupts = due_taken system.steps system.interrupts } in
    let afterwards = happened_to event timed in
    same_then system.kernel.disk afterwards.kernel.disk _
    (same_service system.kernel.disk afterwards.kernel.disk
    (disk_happened event (unhalted timed.kernel.dispatcher.running timed.kernel) ∙ unhalted_disk timed.kernel.dispatcher.running timed.kernel))
    (key_serves afterwards.kernel.aborted afterwards)

this_serves : (other : Option ℕ) (p : ℕ) (system : System) → ServesSame system (aborting_this other p system).system
this_serves None p system = same_service system.kernel.disk system.kernel.disk refl
this_serves (Some other) p system =
    either (λ (d : Attended). ServesSame system d.system) (other == p && not (waits_to_end system.kernel p)) _ _
    (λ _. same_service system.kernel.disk system.kernel.disk refl) (λ _. abort_serves other system)

aborting_serves : (p : ℕ) (system : System) → ServesSame system (aborting p system).system
unfolding aborting
aborting_serves p system = this_serves (target system.kernel.dispatcher.procs p) p system

all_serves : (call : Taken) (p : ℕ) (system : System) → ServesSame system (served_to_all call p system).system
unfolding served_to_all reserving releasing
all_serves call p system =
    let P = λ (d : Attended). ServesSame system d.system in
    let none = same_service system.kernel.disk system.kernel.disk refl in
    either P (call.function == ABSOLUTE_MEMORY_REQUEST) _ _ (λ _. none)
    (λ _. either P (call.function == RELOCATABLE_MEMORY_REQUEST) _ _ (λ _. none)
    (λ _. either P (call.function == MEMORY_FREE) _ _ (λ _. none)
    (λ _. either P (call.function == SEND_CLI_COMMAND) _ _
    (λ _. same_service system.kernel.disk _ (sending_disk (has_interpreter system) p system.kernel))
    (λ _. same_service system.kernel.disk _ (disk_called p system.kernel)))))

served_serves : (call : Taken) (p : ℕ) (system : System) → ServesSame system (served call p system).system
unfolding served creating parsing
served_serves call p system =
    let P = λ (d : Attended). ServesSame system d.system in
    let none = same_service system.kernel.disk system.kernel.disk refl in
    either P (call.function == CREATE_PROCESS) _ _
    (λ _. same_service system.kernel.disk _ (created_disk system.kernel p (home_base system.memory (process_in system.kernel.dispatcher.procs p).seg)))
    (λ _. either P (call.function == ABORT_SPECIFIED_PROCESS) _ _ (λ _. aborting_serves p system)
    (λ _. either P (call.function == PARSE_FILENAME) _ _ (λ _. none)
    (λ _. either P (call.function == SYSTEM_DATA_ADDRESS) _ _ (λ _. none)
    (λ _. either P (call.function == RETURN_PROCESS_DESCRIPTOR_ADDRESS) _ _ (λ _. none)
    (λ _. either P (call.function == CHAIN_TO_PROGRAM) _ _
    (λ _. same_service system.kernel.disk _ (chaining_disk (has_interpreter system) p system.kernel)) (λ _. all_serves call p system))))))

entry_disk : (b : Bool) (p : ℕ) (kernel : Kernel) → (if b then entered p kernel else kernel).disk ≡ kernel.disk
unfolding entered
entry_disk true p kernel = refl
entry_disk false p kernel = refl

outcome_serves : (outcome : Outcome) (reply : Answer) (call : Taken) (p seg : ℕ) (system : System) → Unserved system p
    → ServesSame system (outcome_of outcome reply call p seg system).system
unfolding completing said_by speaking spoke fulfilling answering_call recorded replied with_entry popped
outcome_serves Done reply call p seg system none =
    let said = popped p seg (said_by call (string_of call seg system.memory) p system).system in
    same_service system.kernel.disk _ (entry_disk (is_entry call reply) p said.kernel)
outcome_serves Ended reply call p seg system none = end_serves p system none
outcome_serves Held reply call p seg system none = same_service system.kernel.disk system.kernel.disk refl
outcome_serves Retry reply call p seg system none = same_service system.kernel.disk system.kernel.disk refl

call_serves : (p seg : ℕ) (system : System) → Unserved system p → ServesSame system (gate_step p seg system).system
unfolding gate_step keeping
call_serves p seg system none =
    let call = asked p seg system in
    let kept = keeping p call system in
    let done = served call p kept in
    let same = served_serves call p kept in
    same_then system.kernel.disk done.system.kernel.disk _ same
    (outcome_serves done.outcome done.reply call p seg done.system (unserved_still kept done.system p same none))

executed_serves : (outcome : Option StepOutcome) (p seg : ℕ) (system : System) → Unserved system p → ServesSame system (executed outcome p seg system).system
unfolding executed illegal speaking spoke instructed
executed_serves None p seg system none =
    end_serves p (speaking (process_in system.kernel.dispatcher.procs p).console (illegal_text (process_in system.kernel.dispatcher.procs p).regs.pc) system).system none
executed_serves (Some outcome) p seg system none = same_service system.kernel.disk system.kernel.disk refl

pub gate_serves : (gate : Option Gate) (p seg : ℕ) (system : System) → Unserved system p → ServesSame system (acted_at gate p seg system).system
unfolding returning returned_from_procedure
gate_serves (Some End) p seg system none = end_serves p system none
gate_serves (Some Call) p seg system none = call_serves p seg system none
gate_serves (Some Return) p seg system none = same_service system.kernel.disk _ (disk_given_back p system.kernel)
gate_serves None p seg system none = executed_serves (instruction_at p seg system) p seg system none

-- what a resident does
native_serves : (outcome : Outcome) (reply : Answer) (call : Taken) (p : ℕ) (system : System) → Unserved system p
    → ServesSame system (native_outcome outcome reply call p system).system
unfolding said_by speaking spoke
native_serves Done reply call p system none = same_service system.kernel.disk system.kernel.disk refl
native_serves Ended reply call p system none = end_serves p system none
native_serves Held reply call p system none = same_service system.kernel.disk system.kernel.disk refl
native_serves Retry reply call p system none = same_service system.kernel.disk system.kernel.disk refl

calling_serves : (call : Taken) (p : ℕ) (system : System) → Unserved system p → ServesSame system (calling_step call p system).system
unfolding calling_step
calling_serves call p system none =
    let done = served_to_all call p system in
    let same = all_serves call p system in
    same_then system.kernel.disk done.system.kernel.disk _ same
    (native_serves done.outcome done.reply call p done.system (unserved_still system done.system p same none))

change_if : (system : System) (b : Bool) (x y : SystemChange) → ServesSame system x.system → ServesSame system y.system → ServesSame system (if b then x else y).system
change_if system true x y one other = one
change_if system false x y one other = other

telling_serves : (call : Taken) (p : ℕ) (system : System) → ServesSame system (telling_step call p system).system
unfolding telling_step speaking spoke
telling_serves call p system =
    change_if system (is_console (low_parameter call) system.kernel) _ _ (same_service system.kernel.disk system.kernel.disk refl) (same_service system.kernel.disk system.kernel.disk refl)

pub begun_for_disk : (p : ℕ) (new : NewProcess) (slot : Option ℕ) (kernel : Kernel) → (begun_for p new slot kernel).disk ≡ kernel.disk
begun_for_disk p new None kernel = refl
begun_for_disk p new (Some q) kernel = given_disk new.console (Some p) (Some q) (dispatched (admitted q new) kernel)

system_if : (system : System) (b : Bool) (x y : System) → ServesSame system x → ServesSame system y → ServesSame system (if b then x else y)
system_if system true x y one other = one
system_if system false x y one other = other

act_serves : (act : Act) (bytes : List ℕ) (p : ℕ) (system : System) → ServesSame system (handed_over act bytes p system)
act_serves Ask bytes p system = same_service system.kernel.disk system.kernel.disk refl
act_serves (PlaceBytes seg address count) bytes p system = same_service system.kernel.disk system.kernel.disk refl
act_serves (MoveCode seg address count page) bytes p system = same_service system.kernel.disk system.kernel.disk refl
act_serves (BeginProcess seg new) bytes p system =
    system_if system (begins seg new system) _ system
    (same_service system.kernel.disk _ (begun_for_disk p (record new { seg = Some seg }) (lowest_free system.kernel.dispatcher.procs) system.kernel))
    (same_service system.kernel.disk system.kernel.disk refl)
act_serves (GiveConsole console) bytes p system =
    same_service system.kernel.disk _ (kernel_if system.kernel.disk (is_console console system.kernel) _ _ (given_disk console (Some p) None system.kernel) refl)

handing_serves : (act : Act) (call : Taken) (p : ℕ) (system : System) → ServesSame system (handing_step act call p system)
unfolding handing_step
handing_serves act call p system = act_serves act call.bytes p system

native_step_serves : (act : Act) (call : Taken) (p : ℕ) (system : System) → Unserved system p → ServesSame system (native_step act call p system).system
native_step_serves Ask call p system none =
    change_if system (tells (native_in system.residents p) call) _ _ (telling_serves call p system) (calling_serves call p system none)
native_step_serves (PlaceBytes seg address count) call p system none = handing_serves (PlaceBytes seg address count) call p system
native_step_serves (MoveCode seg address count page) call p system none = handing_serves (MoveCode seg address count page) call p system
native_step_serves (BeginProcess seg new) call p system none = handing_serves (BeginProcess seg new) call p system
native_step_serves (GiveConsole console) call p system none = handing_serves (GiveConsole console) call p system

resided_serves : (native : Option Native) (p : ℕ) (system : System) → Unserved system p → ServesSame system (resided native p system).system
resided_serves None p system none = same_service system.kernel.disk system.kernel.disk refl
resided_serves (Some native) p system none = native_step_serves (native_act native) (native_call native) p (asking p (native_call native) system) none

-- what the running process does, who isn't served
acted_by_serves : (running seg : Option ℕ) (system : System) → IsSoundKernel system.kernel → system.kernel.dispatcher.running ≡ running → ServesSame system (acted_by running seg system).system
acted_by_serves None seg system s runs = same_service system.kernel.disk system.kernel.disk refl
acted_by_serves (Some p) None system s runs = resided_serves (native_in system.residents p) p system (ready_unserved system p s (s.runs p runs))
acted_by_serves (Some p) (Some seg) system s runs = gate_serves (gate_before p seg system) p seg system (ready_unserved system p s (s.runs p runs))

pub acted_serves : (system : System) → IsSoundKernel system.kernel → ServesSame system (acted system).system
unfolding acted
acted_serves system s = acted_by_serves system.kernel.dispatcher.running (running_segment system.kernel.dispatcher.running system) system s refl
