-- The gate step of a kernel call: what it reads is taken, it is done, and its reply is placed. (MP/M II Programmer's Guide,
-- "BDOS Calling Conventions"; functions 47, chain to program; 128 to 130, memory segments; 144, create process; 150, send CLI
-- command; 151, call resident system procedure; 152, parse filename; 154, return address of system data page; 156, return process
-- descriptor address; 157, abort specified process.)
use Rattle.std.specs.Prelude.{ℕ, length, Bool, true, false, not, ◌++◌, Option, Some, None, ◌==◌, ◌&&◌, ◌||◌, if◌then◌else◌, ◌≡◌}
use Rattle.mpm_base.specs.Calls.{Taken, Answer, answering}
use Rattle.mpm_base.specs.declared.call.Outcome.{Outcome}
use Rattle.mpm_base.specs.declared.call.Outcome.TheVariants.{Done, Held, Retry, Ended}
use Rattle.mpm_base.specs.declared.functions.TheConstants.{ABSOLUTE_MEMORY_REQUEST, RELOCATABLE_MEMORY_REQUEST, MEMORY_FREE, CREATE_PROCESS, CHAIN_TO_PROGRAM, SEND_CLI_COMMAND, CALL_RESIDENT_SYSTEM_PROCEDURE, PARSE_FILENAME, ABORT_SPECIFIED_PROCESS, SYSTEM_DATA_ADDRESS, RETURN_PROCESS_DESCRIPTOR_ADDRESS}
use Rattle.mpm_procs.specs.Table.{process_in, call_of}
use Rattle.mpm_kernel.specs.Kernel.{is_resident}
use Rattle.mpm_kernel.specs.Calls.{failure_code}
use Rattle.mpm_xdos.specs.Creating.{home_base, created, create_answer}
use Rattle.mpm_xdos.specs.Aborting.{waits_to_end, target, abort_done, memory_after_abort}
use Rattle.mpm_xdos.specs.Copies.{system_answer, descriptor_answer}
use Rattle.mpm_xdos.specs.Procedures.{entered, entry_reply, returned_from_procedure}
use Rattle.mpm_output.specs.Writing.{spoken}
use Rattle.mpm_system.specs.declared.system.System.{System}
use Rattle.mpm_system.specs.Whole.{SystemChange, silent}
use Rattle.mpm_system.specs.Owing.{owing_unless}
use Rattle.mpm_system.specs.Calling.{Served, served_by, calling}
use Rattle.mpm_system.specs.Sending.{has_interpreter, sending, chaining}
use Rattle.mpm_system.specs.Taking.{asked, keeping}
use Rattle.mpm_system.specs.Segments.{reserving, releasing, base_asked}
use Rattle.mpm_system.specs.Parsing.{parsing}
use Rattle.mpm_system.specs.Saying.{string_of, said_by, echo_of}
use Rattle.mpm_system.specs.Answering.{popped, answering_call}
use Rattle.mpm_machine.specs.Ending.{ended}

-- processes are created in the caller's segment
unfoldable pub creating : ℕ → System → Served
creating p system =
    let base = home_base system.memory (process_in system.kernel.dispatcher.procs p).seg in
    record {
      system = record system { kernel = created system.kernel p base };
      outcome = Done;
      reply = answering (create_answer system.kernel p base);
    }

-- a process is aborted: it ends, or its end is put off; a resident stays
unfoldable pub aborted : ℕ → System → System
aborted p system = record system {
  kernel = abort_done system.kernel p;
  memory = memory_after_abort system.memory system.kernel p;
  abort_deferred = system.abort_deferred || waits_to_end system.kernel p;
  owed = owing_unless (is_resident system.kernel.dispatcher.procs p || waits_to_end system.kernel p) p system.owed;
}

-- the process that a call names is aborted; one that aborts itself ends as by function 143, unless its end is put off
abbrev pub aborting_this : Option ℕ → ℕ → System → Served
aborting_this None p system = record { system = system; outcome = Done; reply = answering failure_code }
aborting_this (Some other) p system =
    if other == p && not (waits_to_end system.kernel p) then record { system = system; outcome = Ended; reply = answering 0 }
    else (record { system = aborted other system; outcome = Done; reply = answering 0 })

unfoldable pub aborting : ℕ → System → Served
aborting p system = aborting_this (target system.kernel.dispatcher.procs p) p system

-- a call is answered, and nothing else becomes of it: what it tells is a copy in common memory
abbrev pub telling : Answer → System → Served
telling reply system = record { system = system; outcome = Done; reply = reply }

-- the system data page is answered, and the descriptor of the process that asks
abbrev pub telling_system : System → Served
telling_system system = telling (system_answer (length system.kernel.units.consoles) system.memory) system

abbrev pub telling_descriptor : ℕ → System → Served
telling_descriptor p system = telling (descriptor_answer p (process_in system.kernel.dispatcher.procs p)) system

-- the calls that residents make too: on memory segments, and by which a command is sent; all others are the kernel's
unfoldable pub served_to_all : Taken → ℕ → System → Served
served_to_all call p system =
    if call.function == ABSOLUTE_MEMORY_REQUEST then reserving (base_asked true call) call p system
    else (if call.function == RELOCATABLE_MEMORY_REQUEST then reserving (base_asked false call) call p system
    else (if call.function == MEMORY_FREE then releasing call p system
    else (if call.function == SEND_CLI_COMMAND then served_by (sending (has_interpreter system) p system.kernel) system
    else (calling p system))))

-- and those of programs alone: the call is done
unfoldable pub served : Taken → ℕ → System → Served
served call p system =
    if call.function == CREATE_PROCESS then creating p system
    else (if call.function == ABORT_SPECIFIED_PROCESS then aborting p system
    else (if call.function == PARSE_FILENAME then parsing call system
    else (if call.function == SYSTEM_DATA_ADDRESS then telling_system system
    else (if call.function == RETURN_PROCESS_DESCRIPTOR_ADDRESS then telling_descriptor p system
    else (if call.function == CHAIN_TO_PROGRAM then served_by (chaining (has_interpreter system) p system.kernel) system
    else (served_to_all call p system))))))

-- that comes before what else the call brings about
abbrev pub after_echo : Taken → ℕ → System → SystemChange → SystemChange
after_echo call p system change =
    record change { emitted = change.emitted ++ spoken (process_in system.kernel.dispatcher.procs p).console (echo_of call system.kernel) }

-- a call 151 got its message, since it is refused by FFFFh alone: its process enters the resident procedure
abbrev pub is_entry : Taken → Answer → Bool
is_entry call reply = call.function == CALL_RESIDENT_SYSTEM_PROCEDURE && reply.hl == 0

unfoldable pub with_entry : Answer → Taken → ℕ → System → System
with_entry reply call p system =
    record system { kernel = if is_entry call reply then entered p system.kernel else system.kernel }

-- and the reply that is placed is the gate that it pushes
unfoldable pub reply_at_entry : Answer → Taken → ℕ → System → Answer
reply_at_entry reply call p system =
    if is_entry call reply then entry_reply system.memory (process_in system.kernel.dispatcher.procs p) else reply

-- so a process enters one, or goes on without
pub record EntersIfAnswered (old_reply new_reply : Answer) (p : ℕ) (old new : System) : Type 0 where
  pub system : new ≡ with_entry old_reply (call_of old.kernel.dispatcher.procs p) p old
  pub reply : new_reply ≡ reply_at_entry old_reply (call_of old.kernel.dispatcher.procs p) p old

-- a call is fulfilled, whose return address was taken: at once, or later where it was held
unfoldable pub fulfilling : Answer → Taken → ℕ → ℕ → System → System
fulfilling reply call p seg system =
    answering_call (reply_at_entry reply call p system) call p seg (with_entry reply call p system)

-- a call that is done: its text, its reply after the return address, its record
unfoldable pub completing : Answer → Taken → ℕ → ℕ → System → SystemChange
completing reply call p seg system =
    let spoke = said_by call (string_of call seg system.memory) p system in
    record spoke { system = fulfilling reply call p seg (popped p seg spoke.system) }

-- a process leaves the resident procedure that it is in
unfoldable pub returning : ℕ → System → System
returning p system = record system { kernel = returned_from_procedure p system.kernel }

-- what a served call brings about: the return address is taken as it is done or held, and one that is to be tried again stays
-- at the gate
abbrev pub outcome_of : Outcome → Answer → Taken → ℕ → ℕ → System → SystemChange
outcome_of Done reply call p seg system = completing reply call p seg system
outcome_of Ended reply call p seg system = silent (ended p system)
outcome_of Held reply call p seg system = silent (popped p seg system)
outcome_of Retry reply call p seg system = silent system

-- the gate step of a call: it is taken, kept and served, and its outcome follows
unfoldable pub gate_step : ℕ → ℕ → System → SystemChange
gate_step p seg system =
    let call = asked p seg system in
    let done = served call p (keeping p call system) in
    after_echo call p done.system (outcome_of done.outcome done.reply call p seg done.system)
