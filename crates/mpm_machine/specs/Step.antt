-- What a step begins with in which no file call is made, and its parts.
use Rattle.std.specs.Prelude.{ℕ, Bool, true, false, List, [], ◌++◌, Option, Some, None, ◌≡◌}
use Rattle.z80_regs.specs.Outcome.{StepOutcome}
use Rattle.z80_ext.specs.Instruction.{instruction, registers_after, actions_of}
use Rattle.mpm_banks.specs.Memory.{byte_at}
use Rattle.mpm_banks.specs.Ports.{port_byte}
use Rattle.mpm_banks.specs.Actions.{memory_after, devices_after}
use Rattle.mpm_procs.specs.Table.{process_in}
use Rattle.mpm_script.specs.declared.event.Event.{Event}
use Rattle.mpm_script.specs.declared.event.Event.TheVariants.{Tick, Key, Ready, Int}
use Rattle.mpm_kernel.specs.Kernel.{Kernel, dispatched as with_dispatcher}
use Rattle.mpm_dispatcher.specs.Dispatch.{picked}
use Rattle.mpm_kernel.specs.Events.{happened}
use Rattle.mpm_kernel.specs.Consoling.{abort_taken}
use Rattle.mpm_render.specs.Outputs.{Output}
use Rattle.mpm_gate.specs.Gates.{gate_of, IsHome}
use Rattle.mpm_gate.specs.declared.gate.Gate.{Gate}
use Rattle.mpm_gate.specs.declared.gate.Gate.TheVariants.{End, Call, Return}
use Rattle.mpm_output.specs.Writing.{spoken}
use Rattle.mpm_output.specs.Texts.{illegal_text}
use Rattle.mpm_residents.specs.Natives.{native_in}
use Rattle.mpm_interrupts.specs.Interrupts.{due_taken}
use Rattle.mpm_system.specs.Procedures.{is_inside}
use Rattle.mpm_system.specs.declared.system.System.{System}
use Rattle.mpm_system.specs.Whole.{SystemChange, silent, speaking, LivesInSystem}
use Rattle.mpm_system.specs.Taking.{with_regs}
use Rattle.mpm_system.specs.Coming.{unhalted}
use Rattle.mpm_machine.specs.Ending.{ended}
use Rattle.mpm_machine.specs.Serving.{aborted, gate_step, returning}
use Rattle.mpm_machine.specs.Residing.{resided}

-- a process comes to an unlisted opcode: a text on its console, and its end
unfoldable pub illegal : ℕ → System → SystemChange
illegal p system =
    let process = process_in system.kernel.dispatcher.procs p in
    let spoke = speaking process.console (illegal_text process.regs.pc) system in
    record spoke { system = ended p spoke.system }

-- the system after an instruction of a process
unfoldable pub instructed : Option StepOutcome → ℕ → ℕ → System → System
instructed outcome p seg system =
    let polled = record system.kernel { devices = devices_after (actions_of outcome) system.kernel.devices } in
    record system {
      kernel = with_regs polled p (registers_after outcome (process_in system.kernel.dispatcher.procs p).regs);
      memory = memory_after (actions_of outcome) seg system.memory;
    }

-- an instruction of a process, where a listed one stands
unfoldable pub executed : Option StepOutcome → ℕ → ℕ → System → SystemChange
executed None p seg system = illegal p system
executed (Some outcome) p seg system = silent (instructed (Some outcome) p seg system)

-- the instruction at which a process stands
abbrev pub instruction_at : ℕ → ℕ → System → Option StepOutcome
instruction_at p seg system =
    instruction (process_in system.kernel.dispatcher.procs p).regs (byte_at system.memory seg) (port_byte system.kernel.devices)

-- what a process of a segment does: at its gates it ends, calls the kernel, or leaves its resident procedure; elsewhere an
-- instruction stands
abbrev pub acted_at : Option Gate → ℕ → ℕ → System → SystemChange
acted_at (Some End) p seg system = silent (ended p system)
acted_at (Some Call) p seg system = gate_step p seg system
acted_at (Some Return) p seg system = silent (returning p system)
acted_at None p seg system = executed (instruction_at p seg system) p seg system

-- the gate at which a process of a segment stands
abbrev pub gate_before : ℕ → ℕ → System → Option Gate
gate_before p seg system = gate_of (is_inside system.kernel.dispatcher.procs p) system.memory seg (process_in system.kernel.dispatcher.procs p).regs.pc

-- it lives there, and stands at none
pub record IsAtNoGate (p seg : ℕ) (system : System) : Type 0 where
  pub living : LivesInSystem p system
  pub home : IsHome system.memory seg
  pub gate : gate_before p seg system ≡ None

-- what the running process does: in its segment, or as a resident
abbrev pub acted_by : Option ℕ → Option ℕ → System → SystemChange
acted_by None seg system = silent system
acted_by (Some p) None system = resided (native_in system.residents p) p system
acted_by (Some p) (Some seg) system = acted_at (gate_before p seg system) p seg system

-- the segment of the running process
abbrev pub running_segment : Option ℕ → System → Option ℕ
running_segment None system = None
running_segment (Some p) system = (process_in system.kernel.dispatcher.procs p).seg

unfoldable pub acted : System → SystemChange
acted system = acted_by system.kernel.dispatcher.running (running_segment system.kernel.dispatcher.running system) system

-- there is no gate
abbrev pub is_no_gate : Option Gate → Bool
is_no_gate None = true
is_no_gate (Some gate) = false

-- what the running process does is an instruction
abbrev pub instruction_by : Option ℕ → Option ℕ → System → Bool
instruction_by None seg system = false
instruction_by (Some p) None system = false
instruction_by (Some p) (Some seg) system = is_no_gate (gate_before p seg system)

unfoldable pub at_instruction : System → Bool
at_instruction system = instruction_by system.kernel.dispatcher.running (running_segment system.kernel.dispatcher.running system) system

-- the process that a key aborts, if any: it ends, or its end is put off
abbrev pub key_aborted : Option ℕ → System → System
key_aborted None system = system
key_aborted (Some p) system = aborted p (record system { kernel = abort_taken system.kernel })

-- what the kernel itself writes to the console of a key
abbrev pub event_text : Event → Kernel → List Output
event_text Tick kernel = []
event_text (Key console byte) kernel = spoken console kernel.echo
event_text (Ready device byte) kernel = []
event_text (Int flag) kernel = []

-- an event comes, and who waits for it becomes ready
abbrev pub happened_to : Event → System → System
happened_to event system = record system { kernel = happened event (unhalted system.kernel.dispatcher.running system.kernel) }

-- the change that an event brings about
unfoldable pub event_come : Event → System → SystemChange
event_come event system =
    let afterwards = happened_to event system in
    record { system = key_aborted afterwards.kernel.aborted afterwards; emitted = event_text event afterwards.kernel }

-- the event that is due comes
unfoldable pub interrupted : Event → System → SystemChange
interrupted event system = event_come event (record system { interrupts = due_taken system.steps system.interrupts })

-- the event that comes, if one does
abbrev pub interrupted_by : Option Event → System → SystemChange
interrupted_by None system = silent system
interrupted_by (Some event) system = interrupted event system

-- what a step begins with: the event that comes, or else what the running process does
abbrev pub begun_by : Option Event → System → SystemChange
begun_by None system = acted system
begun_by (Some event) system = interrupted event system

-- that was an instruction
abbrev pub instruction_unless : Option Event → System → Bool
instruction_unless None system = at_instruction system
instruction_unless (Some event) system = false

-- the system goes on, and nothing is said
abbrev pub then_also : SystemChange → (System → System) → SystemChange
then_also change next = record change { system = next change.system }

-- and so it does where something is said
abbrev pub then_so : SystemChange → (System → SystemChange) → SystemChange
then_so first next =
    let afterwards = next first.system in
    record { system = afterwards.system; emitted = afterwards.emitted ++ first.emitted }

-- and it is picked who runs
abbrev pub runner_picked : Bool → SystemChange → SystemChange
runner_picked instruction change =
    record change { system = record change.system { kernel = with_dispatcher (picked instruction) change.system.kernel } }
