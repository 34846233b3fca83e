-- What a step leaves of memory. It leaves each byte of a segment that is written neither by the instruction of a process that lives there
-- nor by the reply to a call of one. It leaves each byte of common memory that no instruction and no reply writes.
use Rattle.std.proofs.Common.{◌≡◌, ◌≢◌, ◌∙◌, ℕ, ◌<◌, ◌≤◌, true, false, not, ◌&&◌, List, [], ◌∷◌, length, Option, Some, None, ◌==◌, inl, inr, refl, sym, ap, subst, ◌||◌}
use Rattle.std.specs.List.{range_with_len}
use Rattle.std.proofs.lemmas.Bool.{cases_eq, false_from_ne_true}
use Rattle.z80_regs.specs.Outcome.{StepOutcome}
use Rattle.z80_ext.specs.Instruction.{actions_of}
use Rattle.mpm_base.specs.Calls.{Taken, Answer}
use Rattle.mpm_base.specs.declared.call.Outcome.{Outcome as CallOutcome}
use Rattle.mpm_base.specs.declared.call.Outcome.TheVariants.{Done, Held, Retry, Ended}
use Rattle.mpm_banks.specs.Memory.{Memory, byte_at}
use Rattle.mpm_banks.specs.MemoryLaws.{byte_at_common}
use Rattle.mpm_banks.specs.Actions.{memory_after}
use Rattle.mpm_banks.specs.Allocations.{all_released}
use Rattle.mpm_banks.specs.declared.segment.Allocation.TheVariants.{Free}
use Rattle.mpm_base.proofs.Choices.{either}
use Rattle.mpm_base.specs.declared.functions.TheConstants.{ABSOLUTE_MEMORY_REQUEST, RELOCATABLE_MEMORY_REQUEST, MEMORY_FREE, CREATE_PROCESS, CHAIN_TO_PROGRAM, SEND_CLI_COMMAND, PARSE_FILENAME, ABORT_SPECIFIED_PROCESS, SYSTEM_DATA_ADDRESS, RETURN_PROCESS_DESCRIPTOR_ADDRESS}
use Rattle.mpm_banks.proofs.SegmentLaws.{SameBytes, reads_alike, same_bytes_itself, same_bytes_both, same_bytes_allocated, same_bytes_reserved, same_bytes_released, same_bytes_all_released}
use Rattle.mpm_banks.proofs.ActionLaws.{memory_after_other_segment, memory_after_unwritten}
use Rattle.mpm_gate.specs.Replies.{placed, IsPlacedAt}
use Rattle.mpm_gate.proofs.ReplyLaws.{others_keep, segments_keep, common_keeps}
use Rattle.mpm_procs.specs.Table.{Table, Lives, process_in, call_of}
use Rattle.mpm_script.specs.declared.event.Event.{Event}
use Rattle.mpm_dispatcher.specs.Dispatch.{first_completed}
use Rattle.mpm_kernel.specs.Waiting.{completion_reply}
use Rattle.mpm_kernel.proofs.SoundLaws.{runner_lives}
use Rattle.mpm_xdos.specs.Ending.{is_home, vacated_if_empty, memory_without}
use Rattle.mpm_xdos.specs.Aborting.{waits_to_end, target, memory_after_abort}
use Rattle.mpm_gate.specs.declared.gate.Gate.{Gate}
use Rattle.mpm_gate.specs.declared.gate.Gate.TheVariants.{End, Call, Return}
use Rattle.mpm_residents.specs.declared.cli.act.Act.{Act}
use Rattle.mpm_residents.specs.declared.cli.act.Act.TheVariants.{Ask, PlaceBytes, MoveCode, BeginProcess, GiveConsole}
use Rattle.mpm_kernel.specs.Called.{low_parameter}
use Rattle.mpm_residents.specs.Natives.{native_act, native_call, native_in}
use Rattle.mpm_residents.specs.declared.native.Native.{Native}
use Rattle.mpm_kernel.specs.Consoling.{abort_taken}
use Rattle.mpm_interrupts.specs.Interrupts.{due_taken}
use Rattle.mpm_kernel.specs.Kernel.{is_resident}
use Rattle.mpm_system.specs.declared.system.System.{System}
use Rattle.mpm_system.specs.Whole.{SystemChange, IsWhole, speaking}
use Rattle.mpm_system.specs.Calling.{Served, asking}
use Rattle.mpm_system.specs.Sending.{chains}
use Rattle.mpm_system.specs.Loading.{is_console, ChangesOnly}
use Rattle.mpm_system.specs.Taking.{asked, keeping}
use Rattle.mpm_system.specs.Segments.{reserving, releasing}
use Rattle.mpm_system.specs.Parsing.{parsing}
use Rattle.mpm_system.specs.Saying.{said_by}
use Rattle.mpm_system.specs.Answering.{popped, replied, recorded, answering_call}
use Rattle.mpm_system.specs.Residents.{tells, telling_step, handing_step}
use Rattle.mpm_system.specs.Coming.{coming, counted}
use Rattle.mpm_system.proofs.LoadingLaws.{changes_placing, changes_moving, changes_beginning}
use Rattle.mpm_machine.specs.Ending.{ended}
use Rattle.mpm_machine.specs.Serving.{served_to_all, served, creating, aborted, aborting_this, aborting, with_entry, reply_at_entry, fulfilling, completing, returning, outcome_of, gate_step}
use Rattle.mpm_machine.specs.Residing.{native_outcome, calling_step, native_step, resided}
use Rattle.mpm_machine.specs.Finishing.{finished, completion_dequeued, finishing, all_finished, command_let_in, finished_or_ended, answered_from, all_answered}
use Rattle.mpm_machine.specs.Due.{is_due, ended_if_due, due_terminated, with_ends}
use Rattle.mpm_machine.specs.Step.{instructed, illegal, executed, instruction_at, acted_at, gate_before, acted_by, acted, running_segment, key_aborted, happened_to, event_come, interrupted, begun_by}
use Rattle.mpm_machine.specs.Contained.{placed_reply, PlacesAt, WritesAt, IsWritten, IsIn, HandsAt, IsHanded, Answers, AnswersAmong, AnswersOne, AnswersFrom, AnswersAtEnd, AnswersAtEnds}
use Rattle.mpm_machine.specs.Stepping.{begun_alone}
use Rattle.mpm_machine.proofs.FinishLaws.{first_finished, left_completed, home_dequeued}
use Rattle.mpm_machine.proofs.WholeStepLaws.{whole_first, whole_first_answered, lives_dequeued, lives_in_time, whole_if_due, whole_due_end}

-- an end, and a call before its reply, change no byte
vacated_alike : (memory : Memory) (procs : Table) (seg : Option ℕ) → SameBytes memory (vacated_if_empty memory procs seg)
unfolding vacated_if_empty
vacated_alike memory procs None = same_bytes_itself memory
vacated_alike memory procs (Some seg) = either (SameBytes memory) (is_home procs seg) _ _ (λ _. same_bytes_itself memory) (λ _. same_bytes_allocated memory seg Free)

pub ended_alike : (p : ℕ) (system : System) → SameBytes system.memory (ended p system).memory
unfolding ended memory_without
ended_alike p system = same_bytes_both system.memory (all_released system.memory p) _ (same_bytes_all_released system.memory p) (vacated_alike (all_released system.memory p) _ _)

aborted_alike : (p : ℕ) (system : System) → SameBytes system.memory (aborted p system).memory
unfolding aborted memory_after_abort ended
aborted_alike p system =
    either (SameBytes system.memory) (is_resident system.kernel.dispatcher.procs p || waits_to_end system.kernel p) _ _ (λ _. same_bytes_itself system.memory)
    (λ _. ended_alike p system)

aborting_alike : (named : Option ℕ) (p : ℕ) (system : System) → SameBytes system.memory (aborting_this named p system).system.memory
aborting_alike None p system = same_bytes_itself system.memory
aborting_alike (Some other) p system =
    either (λ (s : Served). SameBytes system.memory s.system.memory) (other == p && not (waits_to_end system.kernel p)) _ _
    (λ _. same_bytes_itself system.memory) (λ _. aborted_alike other system)

pub to_all_alike : (call : Taken) (p : ℕ) (system : System) → SameBytes system.memory (served_to_all call p system).system.memory
unfolding served_to_all reserving releasing
to_all_alike call p system =
    let f = call.function in
    let memory = system.memory in
    let P : Served → Type 0 = λ s. SameBytes memory s.system.memory in
    either P (f == ABSOLUTE_MEMORY_REQUEST) _ _ (λ _. same_bytes_reserved memory p _)
    (λ _. either P (f == RELOCATABLE_MEMORY_REQUEST) _ _ (λ _. same_bytes_reserved memory p _)
    (λ _. either P (f == MEMORY_FREE) _ _ (λ _. same_bytes_released memory p _)
    (λ _. either P (f == SEND_CLI_COMMAND) _ _ (λ _. same_bytes_itself memory) (λ _. same_bytes_itself memory))))

served_alike : (call : Taken) (p : ℕ) (system : System) → SameBytes system.memory (served call p system).system.memory
unfolding served creating aborting parsing
served_alike call p system =
    let f = call.function in
    let memory = system.memory in
    let P : Served → Type 0 = λ s. SameBytes memory s.system.memory in
    either P (f == CREATE_PROCESS) _ _ (λ _. same_bytes_itself memory)
    (λ _. either P (f == ABORT_SPECIFIED_PROCESS) _ _ (λ _. aborting_alike (target system.kernel.dispatcher.procs p) p system)
    (λ _. either P (f == PARSE_FILENAME) _ _ (λ _. same_bytes_itself memory)
    (λ _. either P (f == SYSTEM_DATA_ADDRESS) _ _ (λ _. same_bytes_itself memory)
    (λ _. either P (f == RETURN_PROCESS_DESCRIPTOR_ADDRESS) _ _ (λ _. same_bytes_itself memory)
    (λ _. either P (f == CHAIN_TO_PROGRAM) _ _ (λ _. same_bytes_itself memory) (λ _. to_all_alike call p system))))))

illegal_alike : (p : ℕ) (system : System) → SameBytes system.memory (illegal p system).system.memory
unfolding illegal speaking
illegal_alike p system = ended_alike p _

-- nor does a call of a resident, or a key that aborts a process

native_alike : (outcome : CallOutcome) (reply : Answer) (call : Taken) (p : ℕ) (system : System)
    → SameBytes system.memory (native_outcome outcome reply call p system).system.memory
unfolding said_by speaking
native_alike Done reply call p system = same_bytes_itself system.memory
native_alike Ended reply call p system = ended_alike p system
native_alike Held reply call p system = same_bytes_itself system.memory
native_alike Retry reply call p system = same_bytes_itself system.memory

call_alike : (call : Taken) (p : ℕ) (system : System) → SameBytes system.memory (calling_step call p system).system.memory
unfolding calling_step
call_alike call p system =
    let done = served_to_all call p system in
    same_bytes_both system.memory done.system.memory _ (to_all_alike call p system) (native_alike done.outcome done.reply call p done.system)

text_alike : (call : Taken) (p : ℕ) (system : System) → SameBytes system.memory (telling_step call p system).system.memory
unfolding telling_step speaking
text_alike call p system =
    either (λ (change : SystemChange). SameBytes system.memory change.system.memory) (is_console (low_parameter call) system.kernel) _ _
    (λ _. same_bytes_itself system.memory) (λ _. same_bytes_itself system.memory)

asked_alike : (call : Taken) (p : ℕ) (system : System) → SameBytes system.memory (native_step Ask call p system).system.memory
asked_alike call p system =
    either (λ (change : SystemChange). SameBytes system.memory change.system.memory) (tells (native_in system.residents p) call) _ _
    (λ _. text_alike call p system) (λ _. call_alike call p system)

-- what it hands over changes the bytes that it writes

changed_elsewhere : (to address count : ℕ) (old new : Memory) (seg at : ℕ) → ChangesOnly to address count old new → at < 49152
    → ((to ≡ seg) × IsIn address count at → ⊥) → byte_at new seg at ≡ byte_at old seg at
changed_elsewhere to address count old new seg at changes below none = elim (cases_eq seg to) [
  | inl same ↦
      subst (λ s. byte_at new s at ≡ byte_at old s at) (sym same) (changes.rest at (λ k less is. none (sym same, (k, less, is))))
  | inr other ↦ changes.others seg at other below
]

changed_common : (to address count : ℕ) (old new : Memory) (seg at : ℕ) → ChangesOnly to address count old new → 49152 ≤ at
    → (IsIn address count at → ⊥) → byte_at new seg at ≡ byte_at old seg at
changed_common to address count old new seg at changes above none =
    byte_at_common new seg to at above ∙ changes.rest at (λ k less is. none (k, less, is)) ∙ byte_at_common old to seg at above

act_segments : (act : Act) (call : Taken) (p : ℕ) (system : System) (seg at : ℕ) → at < 49152 → (HandsAt act (length call.bytes) seg at → ⊥)
    → byte_at (native_step act call p system).system.memory seg at ≡ byte_at system.memory seg at
unfolding handing_step
act_segments Ask call p system seg at below none = reads_alike system.memory _ (asked_alike call p system) seg at
act_segments (PlaceBytes to address count) call p system seg at below none =
    changed_elsewhere to address (length call.bytes) system.memory _ seg at (changes_placing to address call.bytes system) below none
act_segments (MoveCode to address count page) call p system seg at below none =
    changed_elsewhere to address count system.memory _ seg at (changes_moving to address count call.bytes page system) below none
act_segments (BeginProcess to new) call p system seg at below none =
    changed_elsewhere to new.sp 2 system.memory _ seg at (changes_beginning to new p system) below none
act_segments (GiveConsole console) call p system seg at below none = refl

act_common : (act : Act) (call : Taken) (p : ℕ) (system : System) (seg at : ℕ) → 49152 ≤ at → ((home : ℕ) → HandsAt act (length call.bytes) home at → ⊥)
    → byte_at (native_step act call p system).system.memory seg at ≡ byte_at system.memory seg at
unfolding handing_step
act_common Ask call p system seg at above none = reads_alike system.memory _ (asked_alike call p system) seg at
act_common (PlaceBytes to address count) call p system seg at above none =
    changed_common to address (length call.bytes) system.memory _ seg at (changes_placing to address call.bytes system) above (λ there. none to (refl, there))
act_common (MoveCode to address count page) call p system seg at above none =
    changed_common to address count system.memory _ seg at (changes_moving to address count call.bytes page system) above (λ there. none to (refl, there))
act_common (BeginProcess to new) call p system seg at above none =
    changed_common to new.sp 2 system.memory _ seg at (changes_beginning to new p system) above (λ there. none to (refl, there))
act_common (GiveConsole console) call p system seg at above none = refl

resided_segments : (native : Option Native) (p : ℕ) (system : System) (seg at : ℕ) → at < 49152
    → ((n : Native) → native ≡ Some n → HandsAt (native_act n) (length (native_call n).bytes) seg at → ⊥)
    → byte_at (resided native p system).system.memory seg at ≡ byte_at system.memory seg at
resided_segments None p system seg at below none = refl
resided_segments (Some native) p system seg at below none =
    act_segments (native_act native) (native_call native) p (asking p (native_call native) system) seg at below (none native refl)

resided_common : (native : Option Native) (p : ℕ) (system : System) (seg at : ℕ) → 49152 ≤ at
    → ((n : Native) → native ≡ Some n → (home : ℕ) → HandsAt (native_act n) (length (native_call n).bytes) home at → ⊥)
    → byte_at (resided native p system).system.memory seg at ≡ byte_at system.memory seg at
resided_common None p system seg at above none = refl
resided_common (Some native) p system seg at above none =
    act_common (native_act native) (native_call native) p (asking p (native_call native) system) seg at above (none native refl)

key_alike : (aborts : Option ℕ) (system : System) → SameBytes system.memory (key_aborted aborts system).memory
key_alike None system = same_bytes_itself system.memory
key_alike (Some p) system = aborted_alike p (record system { kernel = abort_taken system.kernel })

pub event_alike : (event : Event) (system : System) → SameBytes system.memory (interrupted event system).system.memory
unfolding interrupted event_come
event_alike event system =
    let timed = record system { interrupts = due_taken system.steps system.interrupts } in
    key_alike (happened_to event timed).kernel.aborted (happened_to event timed)

-- so a call leaves a byte where its reply does, if one is placed

outcome_leaves : (outcome : CallOutcome) (reply : Answer) (call : Taken) (p seg : ℕ) (system : System) (other at : ℕ)
    → (outcome ≡ Done → byte_at (placed (placed_reply reply call p seg system) call.word seg system.memory) other at ≡ byte_at system.memory other at)
    → byte_at (outcome_of outcome reply call p seg system).system.memory other at ≡ byte_at system.memory other at
unfolding completing popped with_entry fulfilling answering_call recorded replied said_by speaking
outcome_leaves Done reply call p seg system other at leaves = leaves refl
outcome_leaves Ended reply call p seg system other at leaves = reads_alike system.memory _ (ended_alike p system) other at
outcome_leaves Held reply call p seg system other at leaves = refl
outcome_leaves Retry reply call p seg system other at leaves = refl

call_leaves : (p seg : ℕ) (system : System) (other at : ℕ)
    → (let done = served (asked p seg system) p (keeping p (asked p seg system) system) in
    done.outcome ≡ Done
    → byte_at (placed (placed_reply done.reply (asked p seg system) p seg done.system) (asked p seg system).word seg done.system.memory) other at
    ≡ byte_at done.system.memory other at)
    → byte_at (gate_step p seg system).system.memory other at ≡ byte_at system.memory other at
unfolding gate_step keeping
call_leaves p seg system other at leaves =
    let call = asked p seg system in
    let done = served call p (keeping p call system) in
    outcome_leaves done.outcome done.reply call p seg done.system other at leaves
    ∙ reads_alike system.memory done.system.memory (served_alike call p (keeping p call system)) other at

instruction_leaves : (outcome : Option StepOutcome) (p seg : ℕ) (system : System) (other at : ℕ)
    → byte_at (memory_after (actions_of outcome) seg system.memory) other at ≡ byte_at system.memory other at
    → byte_at (executed outcome p seg system).system.memory other at ≡ byte_at system.memory other at
unfolding executed instructed
instruction_leaves None p seg system other at leaves = reads_alike system.memory _ (illegal_alike p system) other at
instruction_leaves (Some outcome) p seg system other at leaves = leaves

-- the segments of others

pub elsewhere_at : (gate : Option Gate) (p seg : ℕ) (system : System) (other at : ℕ) → other ≢ seg → at < 49152
    → byte_at (acted_at gate p seg system).system.memory other at ≡ byte_at system.memory other at
unfolding returning
elsewhere_at (Some End) p seg system other at apart below = reads_alike system.memory _ (ended_alike p system) other at
elsewhere_at (Some Call) p seg system other at apart below =
    call_leaves p seg system other at (λ done. segments_keep _ _ seg _ other at apart below)
elsewhere_at (Some Return) p seg system other at apart below = refl
elsewhere_at None p seg system other at apart below =
    instruction_leaves (instruction_at p seg system) p seg system other at (memory_after_other_segment _ seg other at system.memory apart below)

-- the bytes that it doesn't write

placed_at : (outcome : CallOutcome) (reply : Answer) (call : Taken) (p seg : ℕ) (system : System) (at : ℕ) → outcome ≡ Done
    → IsPlacedAt (placed_reply reply call p seg system) call.word at → PlacesAt outcome reply call p seg system at
placed_at outcome reply call p seg system at is placed = subst (λ (o : CallOutcome). PlacesAt o reply call p seg system at) (sym is) placed

unwritten_at : (gate : Option Gate) (p seg : ℕ) (system : System) (at : ℕ) → (WritesAt gate p seg system at → ⊥)
    → byte_at (acted_at gate p seg system).system.memory seg at ≡ byte_at system.memory seg at
unfolding returning
unwritten_at (Some End) p seg system at none = reads_alike system.memory _ (ended_alike p system) seg at
unwritten_at (Some Call) p seg system at none =
    call_leaves p seg system seg at (λ done. others_keep _ _ seg _ at (λ placed. none (placed_at _ _ _ p seg _ at done placed)))
unwritten_at (Some Return) p seg system at none = refl
unwritten_at None p seg system at none =
    instruction_leaves (instruction_at p seg system) p seg system seg at (memory_after_unwritten _ seg at system.memory (false_from_ne_true _ none))

-- what the process that runs leaves

own : (p home : ℕ) (system : System) (seg at : ℕ) → coming (counted system) ≡ None → system.kernel.dispatcher.running ≡ Some p → Lives system.kernel.dispatcher.procs p
    → (process_in system.kernel.dispatcher.procs p).seg ≡ Some home → (IsWritten system home at → ⊥)
    → byte_at (acted_at (gate_before p home system) p home (counted system)).system.memory home at ≡ byte_at system.memory home at
own p home system seg at quiet runs living there none =
    unwritten_at (gate_before p home system) p home (counted system) at
    (λ writes. none (record { quiet = quiet; who = p; runs = runs; lives = living; home = there; writes = writes }))

segments_by : (running home : Option ℕ) (system : System) (seg at : ℕ) → coming (counted system) ≡ None
    → system.kernel.dispatcher.running ≡ running → running_segment running system ≡ home
    → ((p : ℕ) → running ≡ Some p → Lives system.kernel.dispatcher.procs p) → at < 49152 → (IsWritten system seg at → ⊥) → (IsHanded system seg at → ⊥)
    → byte_at (acted_by running home (counted system)).system.memory seg at ≡ byte_at system.memory seg at
segments_by None home system seg at quiet runs there living below none nobody = refl
segments_by (Some p) None system seg at quiet runs there living below none nobody =
    resided_segments (native_in system.residents p) p (counted system) seg at below
    (λ native acts hands. nobody (record { quiet = quiet; who = p; runs = runs; resides = there; native = native; acts = acts; hands = hands }))
segments_by (Some p) (Some home) system seg at quiet runs there living below none nobody = elim (cases_eq seg home) [
  | inl same ↦
      let afterwards = (acted_at (gate_before p home system) p home (counted system)).system.memory in
      let unwritten : IsWritten system home at → ⊥ = subst (λ s. IsWritten system s at → ⊥) same none in
      subst (λ s. byte_at afterwards s at ≡ byte_at system.memory s at) (sym same) (own p home system seg at quiet runs (living p refl) there unwritten)
  | inr other ↦ elsewhere_at (gate_before p home system) p home (counted system) seg at other below
]

common_by : (running home : Option ℕ) (system : System) (seg at : ℕ) → coming (counted system) ≡ None
    → system.kernel.dispatcher.running ≡ running → running_segment running system ≡ home
    → ((p : ℕ) → running ≡ Some p → Lives system.kernel.dispatcher.procs p) → 49152 ≤ at → ((s : ℕ) → IsWritten system s at → ⊥)
    → ((s : ℕ) → IsHanded system s at → ⊥)
    → byte_at (acted_by running home (counted system)).system.memory seg at ≡ byte_at system.memory seg at
common_by None home system seg at quiet runs there living above none nobody = refl
common_by (Some p) None system seg at quiet runs there living above none nobody =
    resided_common (native_in system.residents p) p (counted system) seg at above
    (λ native acts s hands. nobody s (record { quiet = quiet; who = p; runs = runs; resides = there; native = native; acts = acts; hands = hands }))
common_by (Some p) (Some home) system seg at quiet runs there living above none nobody =
    byte_at_common (acted_at (gate_before p home system) p home (counted system)).system.memory seg home at above
    ∙ own p home system seg at quiet runs (living p refl) there (none home)
    ∙ byte_at_common system.memory home seg at above

segment_of_begun : (running : Option ℕ) (system : System) → running_segment running (counted system) ≡ running_segment running system
segment_of_begun None system = refl
segment_of_begun (Some p) system = refl

-- so does what a step begins with, and an event leaves every byte

segments_begun : (event : Option Event) (system : System) (seg at : ℕ) → IsWhole system → coming (counted system) ≡ event
    → at < 49152 → (IsWritten system seg at → ⊥) → (IsHanded system seg at → ⊥) → byte_at (begun_by event (counted system)).system.memory seg at ≡ byte_at system.memory seg at
unfolding acted
segments_begun None system seg at w quiet below none nobody =
    let running = system.kernel.dispatcher.running in
    segments_by running _ system seg at quiet refl (sym (segment_of_begun running system)) (λ p runs. runner_lives system.kernel p w.sound runs) below none nobody
segments_begun (Some event) system seg at w comes below none nobody = reads_alike system.memory _ (event_alike event (counted system)) seg at

common_begun : (event : Option Event) (system : System) (seg at : ℕ) → IsWhole system → coming (counted system) ≡ event
    → 49152 ≤ at → ((home : ℕ) → IsWritten system home at → ⊥) → ((home : ℕ) → IsHanded system home at → ⊥)
    → byte_at (begun_by event (counted system)).system.memory seg at ≡ byte_at system.memory seg at
unfolding acted
common_begun None system seg at w quiet above none nobody =
    let running = system.kernel.dispatcher.running in
    common_by running _ system seg at quiet refl (sym (segment_of_begun running system)) (λ p runs. runner_lives system.kernel p w.sound runs) above none nobody
common_begun (Some event) system seg at w comes above none nobody = reads_alike system.memory _ (event_alike event (counted system)) seg at

-- the reply to a held call that is completed leaves a byte where it isn't placed

finished_memory : (seg p : ℕ) (system : System) → (finished (Some seg) p system).memory
    ≡ placed (reply_at_entry (completion_reply system.kernel p) (call_of system.kernel.dispatcher.procs p) p system) (call_of system.kernel.dispatcher.procs p).word seg system.memory
unfolding with_entry fulfilling answering_call recorded replied
finished_memory seg p system = refl

unanswered : (p home : ℕ) (system : System) (at : ℕ) → Lives system.kernel.dispatcher.procs p → (process_in system.kernel.dispatcher.procs p).seg ≡ Some home
    → (Answers p system home at → ⊥)
    → IsPlacedAt (reply_at_entry (completion_reply system.kernel p) (call_of system.kernel.dispatcher.procs p) p system) (call_of system.kernel.dispatcher.procs p).word at → ⊥
unanswered p home system at living there none places = none (record { lives = living; home = there; places = places })

finished_segments : (home : Option ℕ) (p : ℕ) (system : System) (seg at : ℕ) → Lives system.kernel.dispatcher.procs p → (process_in system.kernel.dispatcher.procs p).seg ≡ home
    → at < 49152 → (Answers p system seg at → ⊥) → byte_at (finished home p system).memory seg at ≡ byte_at system.memory seg at
finished_segments None p system seg at living there below none = refl
finished_segments (Some home) p system seg at living there below none =
    ap (λ memory. byte_at memory seg at) (finished_memory home p system)
    ∙ elim (cases_eq seg home) [
      | inl same ↦
          let afterwards = placed (reply_at_entry (completion_reply system.kernel p) (call_of system.kernel.dispatcher.procs p) p system) (call_of system.kernel.dispatcher.procs p).word home system.memory in
          let never : Answers p system home at → ⊥ = subst (λ s. Answers p system s at → ⊥) same none in
          subst (λ s. byte_at afterwards s at ≡ byte_at system.memory s at) (sym same)
          (others_keep _ _ home system.memory at (unanswered p home system at living there never))
      | inr other ↦ segments_keep _ _ home system.memory seg at other below
    ]

finished_common : (home : Option ℕ) (p : ℕ) (system : System) (seg at : ℕ) → Lives system.kernel.dispatcher.procs p → (process_in system.kernel.dispatcher.procs p).seg ≡ home
    → 49152 ≤ at → ((s : ℕ) → Answers p system s at → ⊥) → byte_at (finished home p system).memory seg at ≡ byte_at system.memory seg at
finished_common None p system seg at living there above none = refl
finished_common (Some home) p system seg at living there above none =
    ap (λ memory. byte_at memory seg at) (finished_memory home p system)
    ∙ common_keeps _ _ home system.memory seg at above (unanswered p home system at living there (none home))

-- so do the replies to several, one after another

among_segments : (ps : List ℕ) (system : System) (seg at : ℕ) → IsWhole system → system.kernel.dispatcher.completed ≡ ps → at < 49152
    → (AnswersAmong ps system seg at → ⊥) → byte_at (finishing ps system).memory seg at ≡ byte_at system.memory seg at
unfolding finishing AnswersAmong
among_segments [] system seg at w e below none = refl
among_segments (p ∷ ps) system seg at w e below none =
    let first = ap first_completed e in
    among_segments ps (first_finished p system) seg at (whole_first p system w first) (left_completed p ps system e) below (λ later. none (inr later))
    ∙ finished_segments (process_in system.kernel.dispatcher.procs p).seg p (completion_dequeued system) seg at (lives_dequeued p system w first) (home_dequeued system p) below (λ here. none (inl here))

among_common : (ps : List ℕ) (system : System) (seg at : ℕ) → IsWhole system → system.kernel.dispatcher.completed ≡ ps → 49152 ≤ at
    → ((home : ℕ) → AnswersAmong ps system home at → ⊥) → byte_at (finishing ps system).memory seg at ≡ byte_at system.memory seg at
unfolding finishing AnswersAmong
among_common [] system seg at w e above none = refl
among_common (p ∷ ps) system seg at w e above none =
    let first = ap first_completed e in
    among_common ps (first_finished p system) seg at (whole_first p system w first) (left_completed p ps system e) above (λ home later. none home (inr later))
    ∙ finished_common (process_in system.kernel.dispatcher.procs p).seg p (completion_dequeued system) seg at (lives_dequeued p system w first) (home_dequeued system p) above (λ home here. none home (inl here))

pub answers_segments : (system : System) (seg at : ℕ) → IsWhole system → at < 49152 → (AnswersOne system seg at → ⊥)
    → byte_at (all_finished system).memory seg at ≡ byte_at system.memory seg at
answers_segments system seg at w below none = among_segments system.kernel.dispatcher.completed system seg at w refl below none

pub answers_common : (system : System) (seg at : ℕ) → IsWhole system → 49152 ≤ at → ((home : ℕ) → AnswersOne system home at → ⊥)
    → byte_at (all_finished system).memory seg at ≡ byte_at system.memory seg at
answers_common system seg at w above none = among_common system.kernel.dispatcher.completed system seg at w refl above none

-- so does the first that a step completed, and those after it

first_segments : (p : ℕ) (system : System) (seg at : ℕ) → Lives system.kernel.dispatcher.procs p → at < 49152
    → ((chains p system.kernel ≡ false) × Answers p system seg at → ⊥) → byte_at (finished_or_ended p system).memory seg at ≡ byte_at system.memory seg at
first_segments p system seg at living below none =
    either (λ (s : System). byte_at s.memory seg at ≡ byte_at system.memory seg at) (chains p system.kernel) _ _
    (λ _. reads_alike system.memory _ (ended_alike p system) seg at)
    (λ plain. finished_segments (process_in system.kernel.dispatcher.procs p).seg p system seg at living refl below (λ answers. none (plain, answers)))

first_common : (p : ℕ) (system : System) (seg at : ℕ) → Lives system.kernel.dispatcher.procs p → 49152 ≤ at
    → ((home : ℕ) → (chains p system.kernel ≡ false) × Answers p system home at → ⊥) → byte_at (finished_or_ended p system).memory seg at ≡ byte_at system.memory seg at
first_common p system seg at living above none =
    either (λ (s : System). byte_at s.memory seg at ≡ byte_at system.memory seg at) (chains p system.kernel) _ _
    (λ _. reads_alike system.memory _ (ended_alike p system) seg at)
    (λ plain. finished_common (process_in system.kernel.dispatcher.procs p).seg p system seg at living refl above (λ home answers. none home (plain, answers)))

from_segments : (first : Option ℕ) (system : System) (seg at : ℕ) → IsWhole system → first_completed system.kernel.dispatcher.completed ≡ first → at < 49152
    → (AnswersFrom first system seg at → ⊥) → byte_at (answered_from first system).memory seg at ≡ byte_at system.memory seg at
unfolding answered_from
from_segments None system seg at w e below none = refl
from_segments (Some p) system seg at w e below none =
    let first = command_let_in p (completion_dequeued system) in
    answers_segments (finished_or_ended p first) seg at (whole_first_answered p system w e) below (λ later. none (inr later))
    ∙ first_segments p first seg at (lives_in_time p system w e) below (λ here. none (inl here))

from_common : (first : Option ℕ) (system : System) (seg at : ℕ) → IsWhole system → first_completed system.kernel.dispatcher.completed ≡ first → 49152 ≤ at
    → ((home : ℕ) → AnswersFrom first system home at → ⊥) → byte_at (answered_from first system).memory seg at ≡ byte_at system.memory seg at
unfolding answered_from
from_common None system seg at w e above none = refl
from_common (Some p) system seg at w e above none =
    let first = command_let_in p (completion_dequeued system) in
    answers_common (finished_or_ended p first) seg at (whole_first_answered p system w e) above (λ home later. none home (inr later))
    ∙ first_common p first seg at (lives_in_time p system w e) above (λ home here. none home (inl here))

-- so do the ends that are due, each with the calls that it completes

whole_at_end : (p : ℕ) (system : System) → IsWhole system → is_due system.kernel p ≡ true → IsWhole (ended p system)
whole_at_end p system w due = whole_due_end system (ended p system) p w due refl

end_segments : (p : ℕ) (system : System) (seg at : ℕ) → IsWhole system → at < 49152 → (AnswersAtEnd p system seg at → ⊥)
    → byte_at (ended_if_due p system).memory seg at ≡ byte_at system.memory seg at
unfolding ended_if_due
end_segments p system seg at w below none =
    either (λ (s : System). byte_at s.memory seg at ≡ byte_at system.memory seg at) (is_due system.kernel p) _ _
    (λ due.
    answers_segments (ended p system) seg at (whole_at_end p system w due) below (λ answers. none (due, answers))
    ∙ reads_alike system.memory _ (ended_alike p system) seg at)
    (λ _. refl)

end_common : (p : ℕ) (system : System) (seg at : ℕ) → IsWhole system → 49152 ≤ at → ((home : ℕ) → AnswersAtEnd p system home at → ⊥)
    → byte_at (ended_if_due p system).memory seg at ≡ byte_at system.memory seg at
unfolding ended_if_due
end_common p system seg at w above none =
    either (λ (s : System). byte_at s.memory seg at ≡ byte_at system.memory seg at) (is_due system.kernel p) _ _
    (λ due.
    answers_common (ended p system) seg at (whole_at_end p system w due) above (λ home answers. none home (due, answers))
    ∙ reads_alike system.memory _ (ended_alike p system) seg at)
    (λ _. refl)

ends_segments : (ps : List ℕ) (system : System) (seg at : ℕ) → IsWhole system → at < 49152 → (AnswersAtEnds ps system seg at → ⊥)
    → byte_at (due_terminated ps system).memory seg at ≡ byte_at system.memory seg at
unfolding due_terminated AnswersAtEnds
ends_segments [] system seg at w below none = refl
ends_segments (p ∷ ps) system seg at w below none =
    ends_segments ps (ended_if_due p system) seg at (whole_if_due p system w) below (λ later. none (inr later))
    ∙ end_segments p system seg at w below (λ here. none (inl here))

ends_common : (ps : List ℕ) (system : System) (seg at : ℕ) → IsWhole system → 49152 ≤ at → ((home : ℕ) → AnswersAtEnds ps system home at → ⊥)
    → byte_at (due_terminated ps system).memory seg at ≡ byte_at system.memory seg at
unfolding due_terminated AnswersAtEnds
ends_common [] system seg at w above none = refl
ends_common (p ∷ ps) system seg at w above none =
    ends_common ps (ended_if_due p system) seg at (whole_if_due p system w) above (λ home later. none home (inr later))
    ∙ end_common p system seg at w above (λ home here. none home (inl here))

-- so each byte that changes is written by what a step begins with, or is of the reply to a held call

pub begun_segments : (system : System) (seg at : ℕ) → IsWhole system → at < 49152 → (IsWritten system seg at → ⊥) → (IsHanded system seg at → ⊥)
    → byte_at (begun_alone system).system.memory seg at ≡ byte_at system.memory seg at
begun_segments system seg at w below unwritten unhanded = segments_begun (coming (counted system)) system seg at w refl below unwritten unhanded

pub begun_common : (system : System) (seg at : ℕ) → IsWhole system → 49152 ≤ at → ((home : ℕ) → IsWritten system home at → ⊥)
    → ((home : ℕ) → IsHanded system home at → ⊥) → byte_at (begun_alone system).system.memory seg at ≡ byte_at system.memory seg at
begun_common system seg at w above unwritten unhanded = common_begun (coming (counted system)) system seg at w refl above unwritten unhanded

pub answered_segments : (begun : System) (seg at : ℕ) → IsWhole begun → at < 49152 → (AnswersFrom (first_completed begun.kernel.dispatcher.completed) begun seg at → ⊥)
    → byte_at (all_answered begun).memory seg at ≡ byte_at begun.memory seg at
answered_segments begun seg at w below none = from_segments (first_completed begun.kernel.dispatcher.completed) begun seg at w refl below none

pub answered_common : (begun : System) (seg at : ℕ) → IsWhole begun → 49152 ≤ at
    → ((home : ℕ) → AnswersFrom (first_completed begun.kernel.dispatcher.completed) begun home at → ⊥)
    → byte_at (all_answered begun).memory seg at ≡ byte_at begun.memory seg at
answered_common begun seg at w above none = from_common (first_completed begun.kernel.dispatcher.completed) begun seg at w refl above none

pub ending_segments : (system : System) (seg at : ℕ) → IsWhole system → at < 49152 → (AnswersAtEnds (range_with_len 0 32) system seg at → ⊥)
    → byte_at (with_ends system).memory seg at ≡ byte_at system.memory seg at
unfolding with_ends
ending_segments system seg at w below none = ends_segments (range_with_len 0 32) system seg at w below none

pub ending_common : (system : System) (seg at : ℕ) → IsWhole system → 49152 ≤ at → ((home : ℕ) → AnswersAtEnds (range_with_len 0 32) system home at → ⊥)
    → byte_at (with_ends system).memory seg at ≡ byte_at system.memory seg at
unfolding with_ends
ending_common system seg at w above none = ends_common (range_with_len 0 32) system seg at w above none
