-- No part of a step counts it but its beginning; what it begins with completes one call at most.
use Rattle.std.proofs.Common.{◌≡◌, ◌∙◌, ℕ, ◌+◌, ◌≤◌, not, ◌&&◌, ◌==◌, List, [], ◌∷◌, Option, Some, None, length, refl, sym, ap, subst, arith}
use Rattle.std.specs.List.{range_with_len}
use Rattle.z80_regs.specs.Outcome.{StepOutcome}
use Rattle.mpm_base.specs.Calls.{Taken, Answer}
use Rattle.mpm_base.specs.declared.call.Outcome.{Outcome as CallOutcome}
use Rattle.mpm_base.specs.declared.call.Outcome.TheVariants.{Done, Held, Retry, Ended}
use Rattle.mpm_script.specs.declared.event.Event.{Event}
use Rattle.mpm_base.proofs.Choices.{either}
use Rattle.mpm_base.specs.declared.functions.TheConstants.{ABSOLUTE_MEMORY_REQUEST, RELOCATABLE_MEMORY_REQUEST, MEMORY_FREE, CREATE_PROCESS, CHAIN_TO_PROGRAM, SEND_CLI_COMMAND, PARSE_FILENAME, ABORT_SPECIFIED_PROCESS, SYSTEM_DATA_ADDRESS, RETURN_PROCESS_DESCRIPTOR_ADDRESS}
use Rattle.mpm_procs.specs.Table.{process_in}
use Rattle.mpm_xdos.specs.Aborting.{waits_to_end, target}
use Rattle.mpm_gate.specs.declared.gate.Gate.{Gate}
use Rattle.mpm_gate.specs.declared.gate.Gate.TheVariants.{End, Call, Return}
use Rattle.mpm_render.specs.Completions.{Completion}
use Rattle.mpm_dispatcher.specs.Dispatch.{first_completed}
use Rattle.mpm_kernel.specs.Called.{low_parameter}
use Rattle.mpm_residents.specs.declared.cli.act.Act.{Act}
use Rattle.mpm_residents.specs.declared.cli.act.Act.TheVariants.{Ask, PlaceBytes, MoveCode, BeginProcess, GiveConsole}
use Rattle.mpm_residents.specs.Natives.{native_act, native_call, native_in}
use Rattle.mpm_residents.specs.declared.native.Native.{Native}
use Rattle.mpm_interrupts.specs.Interrupts.{due_taken}
use Rattle.mpm_system.specs.declared.system.System.{System}
use Rattle.mpm_system.specs.Whole.{HasRoomForAll, SystemChange, speaking}
use Rattle.mpm_system.specs.Calling.{Served, asking}
use Rattle.mpm_system.specs.Sending.{chains}
use Rattle.mpm_system.specs.Loading.{is_console, begins, handed_over}
use Rattle.mpm_system.specs.Taking.{asked, keeping}
use Rattle.mpm_system.specs.Segments.{reserving, releasing}
use Rattle.mpm_system.specs.Parsing.{parsing}
use Rattle.mpm_system.specs.Saying.{string_of, said_by}
use Rattle.mpm_system.specs.Answering.{popped, replied, recorded, answering_call}
use Rattle.mpm_system.specs.Residents.{tells, text_told, telling_step, handing_step}
use Rattle.mpm_machine.proofs.FinishLaws.{first_finished, one_record}
use Rattle.mpm_machine.specs.Ending.{ended}
use Rattle.mpm_machine.specs.Serving.{creating, aborted, aborting_this, aborting, served_to_all, served, with_entry, reply_at_entry, fulfilling, completing, returning, outcome_of, gate_step}
use Rattle.mpm_machine.specs.Residing.{native_outcome, calling_step, native_step, resided}
use Rattle.mpm_machine.specs.Finishing.{finished, completion_dequeued, finishing, all_finished, command_let_in, finished_or_ended, answered_from, all_answered}
use Rattle.mpm_machine.specs.Due.{is_due, ended_if_due, due_terminated, with_ends}
use Rattle.mpm_machine.specs.Step.{instructed, illegal, executed, instruction_at, acted_at, gate_before, acted_by, acted, key_aborted, happened_to, event_come, interrupted, begun_by}

-- the steps, and the records of this one
pub record Tally : Type 0 where
  pub steps : ℕ
  pub records : List Completion

abbrev pub tally : System → Tally
tally system = record { steps = system.steps; records = system.records }

-- a call that is served leaves both

pub keeping_tally : (p : ℕ) (call : Taken) (system : System) → tally (keeping p call system) ≡ tally system
unfolding keeping
keeping_tally p call system = refl

aborted_tally : (named : Option ℕ) (p : ℕ) (system : System) → tally (aborting_this named p system).system ≡ tally system
unfolding aborted
aborted_tally None p system = refl
aborted_tally (Some other) p system =
    either (λ (s : Served). tally s.system ≡ tally system) (other == p && not (waits_to_end system.kernel p)) _ _ (λ _. refl) (λ _. refl)

to_all_tally : (call : Taken) (p : ℕ) (system : System) → tally (served_to_all call p system).system ≡ tally system
unfolding served_to_all reserving releasing
to_all_tally call p system =
    let f = call.function in
    let P : Served → Type 0 = λ s. tally s.system ≡ tally system in
    either P (f == ABSOLUTE_MEMORY_REQUEST) _ _ (λ _. refl)
    (λ _. either P (f == RELOCATABLE_MEMORY_REQUEST) _ _ (λ _. refl)
    (λ _. either P (f == MEMORY_FREE) _ _ (λ _. refl) (λ _. either P (f == SEND_CLI_COMMAND) _ _ (λ _. refl) (λ _. refl))))

pub served_tally : (call : Taken) (p : ℕ) (system : System) → tally (served call p system).system ≡ tally system
unfolding served creating aborting parsing
served_tally call p system =
    let f = call.function in
    let P : Served → Type 0 = λ s. tally s.system ≡ tally system in
    either P (f == CREATE_PROCESS) _ _ (λ _. refl)
    (λ _. either P (f == ABORT_SPECIFIED_PROCESS) _ _ (λ _. aborted_tally (target system.kernel.dispatcher.procs p) p system)
    (λ _. either P (f == PARSE_FILENAME) _ _ (λ _. refl)
    (λ _. either P (f == SYSTEM_DATA_ADDRESS) _ _ (λ _. refl)
    (λ _. either P (f == RETURN_PROCESS_DESCRIPTOR_ADDRESS) _ _ (λ _. refl)
    (λ _. either P (f == CHAIN_TO_PROGRAM) _ _ (λ _. refl) (λ _. to_all_tally call p system))))))

-- what a step begins with leaves the steps, and adds a record at most

pub record OneMore (old new : System) : Type 0 where
  pub steps : new.steps ≡ old.steps
  pub few : length new.records ≤ length old.records + 1

pub none_more : (old new : System) → tally new ≡ tally old → OneMore old new
none_more old new same =
    record { steps = ap (λ (t : Tally). t.steps) same; few = omega (arith, ap (λ (t : Tally). length t.records) same) }

pub one_more_behind : (old middle new : System) → tally middle ≡ tally old → OneMore middle new → OneMore old new
one_more_behind old middle new same more = record {
  steps = more.steps ∙ ap (λ (t : Tally). t.steps) same;
  few = omega (arith, more.few, ap (λ (t : Tally). length t.records) same);
}

pub answering_more : (reply : Answer) (call : Taken) (p seg : ℕ) (system : System) → OneMore system (answering_call reply call p seg system)
unfolding answering_call replied recorded
answering_more reply call p seg system = record { steps = refl; few = omega (arith, one_record call p (replied reply call p seg system)) }

entry_tally : (reply : Answer) (call : Taken) (p : ℕ) (system : System) → tally (with_entry reply call p system) ≡ tally system
unfolding with_entry
entry_tally reply call p system = refl

fulfilling_more : (reply : Answer) (call : Taken) (p seg : ℕ) (system : System) → OneMore system (fulfilling reply call p seg system)
unfolding fulfilling
fulfilling_more reply call p seg system =
    one_more_behind system (with_entry reply call p system) _ (entry_tally reply call p system)
    (answering_more (reply_at_entry reply call p system) call p seg (with_entry reply call p system))

popped_tally : (call : Taken) (string : List ℕ) (p seg : ℕ) (system : System) → tally (popped p seg (said_by call string p system).system) ≡ tally system
unfolding said_by speaking popped
popped_tally call string p seg system = refl

outcome_more : (outcome : CallOutcome) (reply : Answer) (call : Taken) (p seg : ℕ) (system : System)
    → OneMore system (outcome_of outcome reply call p seg system).system
unfolding completing popped ended
outcome_more Done reply call p seg system =
    let afterwards = popped p seg (said_by call (string_of call seg system.memory) p system).system in
    one_more_behind system afterwards _ (popped_tally call (string_of call seg system.memory) p seg system) (fulfilling_more reply call p seg afterwards)
outcome_more Ended reply call p seg system = none_more system _ refl
outcome_more Held reply call p seg system = none_more system _ refl
outcome_more Retry reply call p seg system = none_more system _ refl

gate_step_more : (p seg : ℕ) (system : System) → OneMore system (gate_step p seg system).system
unfolding gate_step
gate_step_more p seg system =
    let call = asked p seg system in
    let done = served call p (keeping p call system) in
    one_more_behind system done.system _ (served_tally call p (keeping p call system) ∙ keeping_tally p call system)
    (outcome_more done.outcome done.reply call p seg done.system)

instructed_tally : (outcome : Option StepOutcome) (p seg : ℕ) (system : System) → tally (executed outcome p seg system).system ≡ tally system
unfolding executed illegal speaking ended instructed
instructed_tally None p seg system = refl
instructed_tally (Some outcome) p seg system = refl

acted_at_more : (gate : Option Gate) (p seg : ℕ) (system : System) → OneMore system (acted_at gate p seg system).system
unfolding ended returning
acted_at_more (Some End) p seg system = none_more system _ refl
acted_at_more (Some Call) p seg system = gate_step_more p seg system
acted_at_more (Some Return) p seg system = none_more system _ refl
acted_at_more None p seg system = none_more system _ (instructed_tally (instruction_at p seg system) p seg system)

native_tally : (outcome : CallOutcome) (reply : Answer) (call : Taken) (p : ℕ) (system : System)
    → tally (native_outcome outcome reply call p system).system ≡ tally system
unfolding said_by speaking ended
native_tally Done reply call p system = refl
native_tally Ended reply call p system = refl
native_tally Held reply call p system = refl
native_tally Retry reply call p system = refl

handed_tally : (act : Act) (call : Taken) (p : ℕ) (system : System) → tally (handed_over act call.bytes p system) ≡ tally system
handed_tally Ask call p system = refl
handed_tally (PlaceBytes seg address count) call p system = refl
handed_tally (MoveCode seg address count page) call p system = refl
handed_tally (BeginProcess seg new) call p system = either (λ (s : System). tally s ≡ tally system) (begins seg new system) _ _ (λ _. refl) (λ _. refl)
handed_tally (GiveConsole console) call p system = refl

text_tally : (call : Taken) (system : System) → tally (text_told call system).system ≡ tally system
unfolding speaking
text_tally call system =
    either (λ (change : SystemChange). tally change.system ≡ tally system) (is_console (low_parameter call) system.kernel) _ _ (λ _. refl) (λ _. refl)

native_step_tally : (act : Act) (call : Taken) (p : ℕ) (system : System) → tally (native_step act call p system).system ≡ tally system
unfolding telling_step calling_step handing_step
native_step_tally Ask call p system =
    either (λ (change : SystemChange). tally change.system ≡ tally system) (tells (native_in system.residents p) call) _ _ (λ _. text_tally call system)
    (λ _. native_tally _ _ call p (served_to_all call p system).system ∙ to_all_tally call p system)
native_step_tally (PlaceBytes seg address count) call p system = refl
native_step_tally (MoveCode seg address count page) call p system = refl
native_step_tally (BeginProcess seg new) call p system = handed_tally (BeginProcess seg new) call p system
native_step_tally (GiveConsole console) call p system = refl

resided_tally : (native : Option Native) (p : ℕ) (system : System) → tally (resided native p system).system ≡ tally system
resided_tally None p system = refl
resided_tally (Some native) p system = native_step_tally (native_act native) (native_call native) p (asking p (native_call native) system)

acted_by_more : (running seg : Option ℕ) (system : System) → OneMore system (acted_by running seg system).system
acted_by_more None seg system = none_more system _ refl
acted_by_more (Some p) None system = none_more system _ (resided_tally (native_in system.residents p) p system)
acted_by_more (Some p) (Some seg) system = acted_at_more (gate_before p seg system) p seg system

key_tally : (aborts : Option ℕ) (system : System) → tally (key_aborted aborts system) ≡ tally system
unfolding aborted
key_tally None system = refl
key_tally (Some p) system = refl

pub begun_more : (event : Option Event) (system : System) → OneMore system (begun_by event system).system
unfolding acted interrupted event_come
begun_more None system = acted_by_more system.kernel.dispatcher.running _ system
begun_more (Some event) system =
    let timed = record system { interrupts = due_taken system.steps system.interrupts } in
    none_more system _ (key_tally (happened_to event timed).kernel.aborted (happened_to event timed))

-- then there is room for the records of all that it completes
pub more_have_room : (old new : System) → old.records ≡ [] → OneMore old new → HasRoomForAll (length new.records + 1)
more_have_room old new none more = omega (arith, more.few, ap length none)

pub begun_has_room : (event : Option Event) (old begun : System) → old.records ≡ [] → begun ≡ (begun_by event old).system → HasRoomForAll (length begun.records + 1)
begun_has_room event old begun none is =
    let P : System → Type 0 = λ s. HasRoomForAll (length s.records + 1) in
    subst P (sym is) (more_have_room old (begun_by event old).system none (begun_more event old))

-- what comes after it leaves the steps

finished_steps : (seg : Option ℕ) (p : ℕ) (system : System) → (finished seg p system).steps ≡ system.steps
unfolding with_entry fulfilling answering_call recorded replied
finished_steps None p system = refl
finished_steps (Some seg) p system = refl

finishing_steps : (ps : List ℕ) (system : System) → (finishing ps system).steps ≡ system.steps
unfolding finishing
finishing_steps [] system = refl
finishing_steps (p ∷ ps) system =
    finishing_steps ps (first_finished p system) ∙ finished_steps (process_in system.kernel.dispatcher.procs p).seg p (completion_dequeued system)

due_steps : (p : ℕ) (system : System) → (ended_if_due p system).steps ≡ system.steps
unfolding ended_if_due ended
due_steps p system =
    either (λ (s : System). s.steps ≡ system.steps) (is_due system.kernel p) _ _ (λ _. finishing_steps _ (ended p system)) (λ _. refl)

terminated_steps : (ps : List ℕ) (system : System) → (due_terminated ps system).steps ≡ system.steps
unfolding due_terminated
terminated_steps [] system = refl
terminated_steps (p ∷ ps) system = terminated_steps ps (ended_if_due p system) ∙ due_steps p system

first_steps : (p : ℕ) (system : System) → (finished_or_ended p system).steps ≡ system.steps
unfolding ended
first_steps p system =
    either (λ (s : System). s.steps ≡ system.steps) (chains p system.kernel) _ _ (λ _. refl)
    (λ _. finished_steps (process_in system.kernel.dispatcher.procs p).seg p system)

answered_steps : (first : Option ℕ) (system : System) → (answered_from first system).steps ≡ system.steps
unfolding answered_from
answered_steps None system = refl
answered_steps (Some p) system =
    let first = command_let_in p (completion_dequeued system) in
    finishing_steps (finished_or_ended p first).kernel.dispatcher.completed (finished_or_ended p first) ∙ first_steps p first

pub all_answered_steps : (system : System) → (all_answered system).steps ≡ system.steps
all_answered_steps system = answered_steps (first_completed system.kernel.dispatcher.completed) system

pub all_finished_steps : (system : System) → (all_finished system).steps ≡ system.steps
all_finished_steps system = finishing_steps system.kernel.dispatcher.completed system

pub ends_steps : (system : System) → (with_ends system).steps ≡ system.steps
unfolding with_ends
ends_steps system = terminated_steps (range_with_len 0 32) system
