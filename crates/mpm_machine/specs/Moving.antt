-- Steps that are instructions of the running process, and what lies ahead of them.
use Rattle.std.specs.Prelude.{◌≡◌, ℕ, ◌+◌, ◌-◌, ◌*◌, ◌<◌, ◌≤◌, Bool, true, false, Option, Some, None, IfSome}
use Rattle.mpm_ready.specs.Order.{first_of}
use Rattle.mpm_ready.specs.Tables.{list_at}
use Rattle.mpm_banks.specs.Gates.{last_page, call_gate}
use Rattle.mpm_procs.specs.Table.{process_in, Lives}
use Rattle.mpm_dispatcher.specs.Dispatch.{ready}
use Rattle.mpm_service.specs.declared.service.Turn.{Turn}
use Rattle.mpm_service.specs.declared.service.Turn.TheVariants.{Idle, Passing, Work, Starts}
use Rattle.mpm_service.specs.Ahead.{passed_by}
use Rattle.mpm_processor.specs.Moving.{View, Moves}
use Rattle.mpm_interrupts.specs.Interrupts.{due}
use Rattle.mpm_system.specs.declared.system.System.{System}
use Rattle.mpm_system.specs.Whole.{NoCompletions, NobodyAborted}
use Rattle.mpm_system.specs.Procedures.{is_inside}
use Rattle.mpm_system.specs.Taking.{with_regs}
use Rattle.mpm_system.specs.Idling.{CanPass}
use Rattle.mpm_machine.specs.declared.ahead.Ahead.{Ahead}
use Rattle.mpm_script.specs.declared.line.TheConstants.{GREATEST_STEP}
use Rattle.mpm_gate.specs.Gates.{IsHome}
use Rattle.mpm_kernel.specs.Kernel.{IsSoundKernel}

-- what a process of a system sees
abbrev pub view_of : System → ℕ → View
view_of system p =
    record { regs = (process_in system.kernel.dispatcher.procs p).regs; memory = system.memory; devices = system.kernel.devices }

-- the system after n steps that left its process a view
unfoldable pub with_view : System → ℕ → View → ℕ → System
with_view system p view n = record system {
  steps = system.steps + n;
  kernel = with_regs (record system.kernel { devices = view.devices; disk = passed_by n system.kernel.disk }) p view.regs;
  memory = view.memory;
}

-- in the next n steps no interrupt is due
abbrev pub Quiet : ℕ → System → Type 0
Quiet n system = (k : ℕ) → k < n → due (system.steps + k + 1) system.interrupts ≡ None

-- a step of the disk that only passes, or in which it has no call
abbrev pub is_still : Turn → Bool
is_still Idle = true
is_still Passing = true
is_still (Work p last) = false
is_still (Starts p) = false

-- the running process, of that segment, is the first of the ready list, so that it runs on after each instruction, no completion is
-- left, and no end by an abort is put off
pub record RunsOn (system : System) (p seg : ℕ) : Type 0 where
  pub running : system.kernel.dispatcher.running ≡ Some p
  pub first : first_of (list_at system.kernel.dispatcher.lists ready) ≡ Some p
  pub home : (process_in system.kernel.dispatcher.procs p).seg ≡ Some seg
  pub no_completions : NoCompletions system
  pub none_deferred : system.abort_deferred ≡ false
  pub settled : NobodyAborted system.kernel

-- what lies ahead: who runs, and in which segment, in the steps up to the last one that is known, in which no interrupt is due and the
-- disk's only pass. Where its calls are known to be alone, no call is at the disk. The segment's gate of calls is known too
pub record RunsAhead (ahead : Ahead) (system : System) : Type 0 where
  pub on : RunsOn system ahead.p ahead.seg
  pub quiet : (step : ℕ) → step ≤ ahead.last → system.steps < step → due step system.interrupts ≡ None
  pub passing : CanPass (ahead.last - system.steps) system.kernel.disk
  pub alone : ahead.alone ≡ true → (system.kernel.disk.served ≡ None) × (first_of system.kernel.disk.waiting ≡ None)
  pub gate : ahead.gate ≡ 256 * last_page system.memory ahead.seg + call_gate

-- where calls are known to be alone, no record of them is asked for
abbrev pub IsUntraced : Option Ahead → Bool → Type 0
IsUntraced ahead traced = IfSome ahead (λ a. a.alone ≡ true → traced ≡ false)

-- a process of a segment may run so many: nothing else happens in these steps
pub record MayRunBurst (p seg most : ℕ) (system : System) : Type 0 where
  pub sound : IsSoundKernel system.kernel
  pub short : most ≤ 4294967295
  pub passing : CanPass most system.kernel.disk
  pub lives : Lives system.kernel.dispatcher.procs p
  pub home : IsHome system.memory seg
  pub room : system.steps + most ≤ GREATEST_STEP

-- a system ran n instructions of a process
pub record Moved (n p seg : ℕ) (old new : System) : Type 0 where
  pub view : View
  pub moves : Moves (is_inside old.kernel.dispatcher.procs p) n seg (view_of old p) view
  pub is : new ≡ with_view old p view n
