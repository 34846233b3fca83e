-- What a step may write of memory, what a listed instruction changes, and what a call takes from memory.
use Rattle.std.specs.Prelude.{◌≡◌, ℕ, ◌+◌, ◌<◌, ◌≤◌, ◌⊎◌, ◌==◌, ◌||◌, true, false, List, [], ◌∷◌, length, Bool, Option, Some, None, IsSome, slice_index_or}
use Rattle.std.specs.List.{list_any, range_with_len}
use Rattle.z80_regs.specs.declared.regs.Regs.{Regs}
use Rattle.z80_regs.specs.Words.{onward}
use Rattle.z80_ext.specs.Instruction.{actions_of}
use Rattle.mpm_base.specs.Calls.{Taken, Answer}
use Rattle.mpm_base.specs.declared.call.Outcome.{Outcome}
use Rattle.mpm_base.specs.declared.call.Outcome.TheVariants.{Done, Held, Retry, Ended}
use Rattle.mpm_banks.specs.Memory.{Memory, byte_at, SameSegments}
use Rattle.mpm_banks.specs.Actions.{writes_to}
use Rattle.mpm_gate.specs.Replies.{IsPlacedAt}
use Rattle.mpm_procs.specs.Table.{Lives, process_in, call_of}
use Rattle.mpm_kernel.specs.Waiting.{completion_reply}
use Rattle.mpm_gate.specs.declared.gate.Gate.{Gate}
use Rattle.mpm_gate.specs.declared.gate.Gate.TheVariants.{End, Call, Return}
use Rattle.mpm_dispatcher.specs.Dispatch.{first_completed}
use Rattle.mpm_residents.specs.declared.cli.act.Act.{Act}
use Rattle.mpm_residents.specs.declared.cli.act.Act.TheVariants.{Ask, PlaceBytes, MoveCode, BeginProcess, GiveConsole}
use Rattle.mpm_residents.specs.Natives.{native_act, native_call, native_in}
use Rattle.mpm_residents.specs.declared.native.Native.{Native}
use Rattle.mpm_file_functions.specs.declared.refusals.Extended.{Extended}
use Rattle.mpm_directories.specs.Direct.{Directly}
use Rattle.mpm_system.specs.declared.system.System.{System}
use Rattle.mpm_system.specs.Calling.{Served, asking}
use Rattle.mpm_system.specs.Taking.{with_regs, asked, keeping}
use Rattle.mpm_system.specs.Saying.{string_of, said_by}
use Rattle.mpm_system.specs.Answering.{popped}
use Rattle.mpm_system.specs.Loading.{handed_over, handed_value}
use Rattle.mpm_system.specs.Sending.{chains}
use Rattle.mpm_system.specs.Whole.{silent}
use Rattle.mpm_system.specs.Coming.{coming, counted}
use Rattle.mpm_system.specs.FileCalling.{call_made}
use Rattle.mpm_machine.specs.Serving.{served, served_to_all, reply_at_entry, after_echo, outcome_of}
use Rattle.mpm_machine.specs.Residing.{native_step}
use Rattle.mpm_machine.specs.Ending.{ended}
use Rattle.mpm_machine.specs.Finishing.{finished, completion_dequeued, command_let_in, finished_or_ended, all_answered}
use Rattle.mpm_machine.specs.Due.{is_due, ended_if_due}
use Rattle.mpm_machine.specs.Step.{instruction_at, gate_before, then_also}
use Rattle.mpm_machine.specs.FileCalls.{file_caller, concluded}
use Rattle.mpm_machine.specs.DiskStep.{is_done_at_once, process_over, ready_again, step_passed}
use Rattle.mpm_machine.specs.Stepping.{Telling, begun_with, begun_as, entered_after, rest_of}

-- the reply that is placed where a call is done: for one that enters a resident procedure the gate that it pushes
abbrev pub placed_reply : Answer → Taken → ℕ → ℕ → System → Answer
placed_reply reply call p seg system = reply_at_entry reply call p (popped p seg (said_by call (string_of call seg system.memory) p system).system)

-- a call that is done places its reply's bytes; another places none
abbrev pub PlacesAt : Outcome → Answer → Taken → ℕ → ℕ → System → ℕ → Type 0
PlacesAt Done reply call p seg system at = IsPlacedAt (placed_reply reply call p seg system) call.word at
PlacesAt Ended reply call p seg system at = ⊥
PlacesAt Held reply call p seg system at = ⊥
PlacesAt Retry reply call p seg system at = ⊥

-- a process of a segment writes there: the reply to its call is placed there, or its instruction writes there
abbrev pub WritesAt : Option Gate → ℕ → ℕ → System → ℕ → Type 0
WritesAt (Some End) p seg system at = ⊥
WritesAt (Some Call) p seg system at =
    let call = asked p seg system in
    let done = served call p (keeping p call system) in
    PlacesAt done.outcome done.reply call p seg done.system at
WritesAt (Some Return) p seg system at = ⊥
WritesAt None p seg system at = list_any (writes_to at) (actions_of (instruction_at p seg system)) ≡ true

-- no event comes in this step, and the process that runs lives in that segment, and writes at the address
pub record IsWritten (system : System) (seg at : ℕ) : Type 0 where
  pub quiet : coming (counted system) ≡ None
  pub who : ℕ
  pub runs : system.kernel.dispatcher.running ≡ Some who
  pub lives : Lives system.kernel.dispatcher.procs who
  pub home : (process_in system.kernel.dispatcher.procs who).seg ≡ Some seg
  pub writes : WritesAt (gate_before who seg system) who seg (counted system) at

-- so many bytes from an address on have that one among them
abbrev pub IsIn : ℕ → ℕ → ℕ → Type 0
IsIn address count at = (k : ℕ) × (k < count) × (at ≡ onward address k)

-- what is handed over writes there: so many bytes that are placed, code that is moved, the word on a new process's stack
abbrev pub HandsAt : Act → ℕ → ℕ → ℕ → Type 0
HandsAt Ask placed seg at = ⊥
HandsAt (PlaceBytes to address count) placed seg at = (to ≡ seg) × IsIn address placed at
HandsAt (MoveCode to address count page) placed seg at = (to ≡ seg) × IsIn address count at
HandsAt (BeginProcess to new) placed seg at = (to ≡ seg) × IsIn new.sp 2 at
HandsAt (GiveConsole console) placed seg at = ⊥

-- no event comes in this step, and the process that runs is a resident, which hands over what is written to that segment at the
-- address
pub record IsHanded (system : System) (seg at : ℕ) : Type 0 where
  pub quiet : coming (counted system) ≡ None
  pub who : ℕ
  pub runs : system.kernel.dispatcher.running ≡ Some who
  pub resides : (process_in system.kernel.dispatcher.procs who).seg ≡ None
  pub native : Native
  pub acts : native_in system.residents who ≡ Some native
  pub hands : HandsAt (native_act native) (length (native_call native).bytes) seg at

-- a process lives in that segment, and the reply to its call that is completed is placed at the address
pub record Answers (p : ℕ) (system : System) (seg at : ℕ) : Type 0 where
  pub lives : Lives system.kernel.dispatcher.procs p
  pub home : (process_in system.kernel.dispatcher.procs p).seg ≡ Some seg
  pub places : IsPlacedAt (reply_at_entry (completion_reply system.kernel p) (call_of system.kernel.dispatcher.procs p) p system) (call_of system.kernel.dispatcher.procs p).word at

-- so does one of several, as they are handed out and answered one after another
unfoldable pub AnswersAmong : List ℕ → System → ℕ → ℕ → Type 0
AnswersAmong [] system seg at = ⊥
AnswersAmong (p ∷ ps) system seg at =
    Answers p (completion_dequeued system) seg at ⊎ AnswersAmong ps (finished (process_in system.kernel.dispatcher.procs p).seg p (completion_dequeued system)) seg at

-- one of those whose held calls were completed
abbrev pub AnswersOne : System → ℕ → ℕ → Type 0
AnswersOne system seg at = AnswersAmong system.kernel.dispatcher.completed system seg at

-- a process ends, as that is due, whose end completes such a call
abbrev pub AnswersAtEnd : ℕ → System → ℕ → ℕ → Type 0
AnswersAtEnd p system seg at = (is_due system.kernel p ≡ true) × AnswersOne (ended p system) seg at

-- so does the one that was completed first, unless it chained, or one of those after it
abbrev pub AnswersFrom : Option ℕ → System → ℕ → ℕ → Type 0
AnswersFrom None system seg at = ⊥
AnswersFrom (Some p) system seg at =
    let first = command_let_in p (completion_dequeued system) in
    ((chains p first.kernel ≡ false) × Answers p first seg at) ⊎ AnswersOne (finished_or_ended p first) seg at

-- so does one of several, as their ends come
unfoldable pub AnswersAtEnds : List ℕ → System → ℕ → ℕ → Type 0
AnswersAtEnds [] system seg at = ⊥
AnswersAtEnds (p ∷ ps) system seg at = AnswersAtEnd p system seg at ⊎ AnswersAtEnds ps (ended_if_due p system) seg at

-- a file call is answered, unless its extended error ends its process
abbrev pub is_answered : Option Extended → ℕ → Bool
is_answered None mode = true
is_answered (Some error) mode = mode == 255 || mode == 254

-- the reply to the file call of a process that lives in that segment is placed at the address
pub record AnswersFileCall (told : Directly) (p : ℕ) (system : System) (seg at : ℕ) : Type 0 where
  pub home : (process_in system.kernel.dispatcher.procs p).seg ≡ Some seg
  pub answers : is_answered told.extended (process_in system.kernel.dispatcher.procs p).error_mode ≡ true
  pub places : IsPlacedAt told.answer (call_of system.kernel.dispatcher.procs p).word at

-- what a step begins with writes there; a file call does that is done at once
abbrev pub IsWrittenBy : Option ℕ → Directly → System → ℕ → ℕ → Type 0
IsWrittenBy None told system seg at = IsWritten system seg at ⊎ IsHanded system seg at
IsWrittenBy (Some p) told system seg at = (is_done_at_once p (call_made p system) ≡ true) × AnswersFileCall told p (call_made p system) seg at

-- a call is over whose reply is placed there, or whose process ends, and that completes a call whose reply is
abbrev pub IsOverBy : Option ℕ → Directly → System → ℕ → ℕ → Type 0
IsOverBy None told system seg at = ⊥
IsOverBy (Some p) told system seg at =
    let passed = ready_again p (step_passed system) in AnswersFileCall told p passed seg at ⊎ AnswersOne (concluded told p passed).system seg at

-- a held call is completed by what a step begins with, or a file call is over, or a held call is completed by an end that is due
unfoldable pub IsAnsweredIn : Telling → System → ℕ → ℕ → Type 0
IsAnsweredIn telling old seg at =
    let begun = (begun_with (file_caller old) telling.at_gate old).system in
    let answered = begun_as telling.at_gate old in
    AnswersFrom (first_completed begun.kernel.dispatcher.completed) begun seg at
    ⊎ (IsOverBy (process_over answered.system) telling.at_disk answered.system seg at ⊎ AnswersAtEnds (range_with_len 0 32) (entered_after telling answered.system) seg at)

-- a byte of a segment stays unless a process that lives there writes it or has its call's reply placed there, or a resident hands over what
-- is written there. A byte of common memory, whoever reads it, stays unless some process does so
pub record IsContainedBy (telling : Telling) (old new : System) : Type 0 where
  pub segments : (seg at : ℕ) → at < 49152 → (IsWrittenBy (file_caller old) telling.at_gate old seg at → ⊥)
      → (IsAnsweredIn telling old seg at → ⊥) → byte_at new.memory seg at ≡ byte_at old.memory seg at
  pub common : (seg at : ℕ) → 49152 ≤ at → ((home : ℕ) → IsWrittenBy (file_caller old) telling.at_gate old home at → ⊥)
      → ((home : ℕ) → IsAnsweredIn telling old home at → ⊥) → byte_at new.memory seg at ≡ byte_at old.memory seg at

-- no event comes in this step, and the process that runs lives in that segment, and a listed instruction stands at its PC,
-- and no gate
pub record Instructs (system : System) (p seg : ℕ) : Type 0 where
  pub quiet : coming (counted system) ≡ None
  pub runs : system.kernel.dispatcher.running ≡ Some p
  pub home : (process_in system.kernel.dispatcher.procs p).seg ≡ Some seg
  pub no_gate : gate_before p seg system ≡ None
  pub listed : IsSome (instruction_at p seg system)

-- one step was counted, and nothing else changed but a process's registers, bytes of memory, and that devices are no longer
-- ready; then came the rest of the step
pub record OnlyInstructed (telling : Telling) (p : ℕ) (old new : System) : Type 0 where
  pub regs : Regs
  pub ready : List Bool
  pub memory : Memory
  pub clears : (device : ℕ) → slice_index_or ready device false ≡ true → slice_index_or old.kernel.devices.ready device false ≡ true
  pub bytes : SameSegments old.memory memory
  pub is : new ≡ (rest_of true telling (silent (record old {
    steps = old.steps + 1;
    kernel = with_regs (record old.kernel { devices = record old.kernel.devices { ready = ready } }) p regs;
    memory = memory;
  }))).system

-- two systems have the same kernel, the same residents, and the same segments in the same hands: their memories differ in bytes
-- alone
pub record DiffersInBytes (one other : System) : Type 0 where
  pub kernel : other.kernel ≡ one.kernel
  pub residents : other.residents ≡ one.residents
  pub segments : SameSegments one.memory other.memory

-- a call did the same in both
pub record ServedAlike (one other : Served) : Type 0 where
  pub kernel : other.system.kernel ≡ one.system.kernel
  pub segments : SameSegments one.system.memory other.system.memory
  pub outcome : other.outcome ≡ one.outcome
  pub reply : other.reply ≡ one.reply

-- no event comes in this step, and the process that runs lives in that segment, and stands at the gate of calls
pub record CallsAtGate (system : System) (p seg : ℕ) : Type 0 where
  pub quiet : coming (counted system) ≡ None
  pub runs : system.kernel.dispatcher.running ≡ Some p
  pub home : (process_in system.kernel.dispatcher.procs p).seg ≡ Some seg
  pub gate : gate_before p seg system ≡ Some Call

-- the call that a process asked was served by what it took: whatever bytes had stood in memory then, the kernel, the hands that have the
-- segments, the outcome and the reply would be the same. Its outcome followed, then what was completed was answered, and then came the rest
-- of the step
pub record ServedByValue (telling : Telling) (p seg : ℕ) (old new : System) : Type 0 where
  pub done : Served
  pub by_value : (other : System) → DiffersInBytes (keeping p (asked p seg (counted old)) (counted old)) other
      → ServedAlike done (served (asked p seg (counted old)) p other)
  pub is : new ≡ (rest_of false telling (then_also (after_echo (asked p seg (counted old)) p done.system
      (outcome_of done.outcome done.reply (asked p seg (counted old)) p seg done.system)) all_answered)).system

-- no event comes in this step, and the process that runs has no segment: a resident acts
pub record Resides (system : System) (p : ℕ) (native : Native) : Type 0 where
  pub quiet : coming (counted system) ≡ None
  pub runs : system.kernel.dispatcher.running ≡ Some p
  pub home : (process_in system.kernel.dispatcher.procs p).seg ≡ None
  pub acts : native_in system.residents p ≡ Some native

-- it did what its row says: whatever bytes had stood in memory then, its call would be served alike, and what it hands over would be
-- answered alike, and leave systems that differ in bytes alone. Then what was completed was answered, and then came the rest of the step
pub record ResidedByValue (telling : Telling) (p : ℕ) (native : Native) (old new : System) : Type 0 where
  pub call : (other : System) → DiffersInBytes (asking p (native_call native) (counted old)) other
      → ServedAlike (served_to_all (native_call native) p (asking p (native_call native) (counted old))) (served_to_all (native_call native) p other)
  pub hands : (other : System) → DiffersInBytes (asking p (native_call native) (counted old)) other
      → handed_value (native_act native) other ≡ handed_value (native_act native) (asking p (native_call native) (counted old))
  pub leaves : (other : System) → DiffersInBytes (asking p (native_call native) (counted old)) other
      → DiffersInBytes (handed_over (native_act native) (native_call native).bytes p (asking p (native_call native) (counted old)))
      (handed_over (native_act native) (native_call native).bytes p other)
  pub is : new ≡ (rest_of false telling (then_also (native_step (native_act native) (native_call native) p
      (asking p (native_call native) (counted old))) all_answered)).system
