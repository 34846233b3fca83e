-- A step that is nothing but a call that concerns its caller alone, which the running process makes. No event comes in it, no call is at
-- the disk, no end by an abort is put off, and the process runs on. (MP/M II Programmer's Guide, functions 12 and 163, return version
-- number; 25, return current disk; 26, set DMA address; 32, set or get user code; 44, set multi-sector count; 45, set BDOS error mode.)
use Rattle.std.specs.Prelude.{◌≡◌, ℕ, ◌+◌, true, List, [], ◌∷◌, Some, None}
use Rattle.mpm_ready.specs.Order.{first_of}
use Rattle.mpm_procs.specs.Table.{process_in}
use Rattle.mpm_interrupts.specs.Interrupts.{due}
use Rattle.mpm_render.specs.Completions.{Completion}
use Rattle.mpm_render.specs.Outputs.{Output, Completed}
use Rattle.mpm_gate.specs.declared.gate.Gate.TheVariants.{Call}
use Rattle.mpm_system.specs.declared.system.System.{System}
use Rattle.mpm_system.specs.Whole.{SystemChange}
use Rattle.mpm_system.specs.Coming.{counted}
use Rattle.mpm_system.specs.Written.{with_records}
use Rattle.mpm_system.specs.OwnCalls.{is_own}
use Rattle.mpm_machine.specs.Serving.{gate_step}
use Rattle.mpm_machine.specs.Step.{gate_before}
use Rattle.mpm_machine.specs.Moving.{RunsOn}

pub record MakesOwnCall (p seg : ℕ) (system : System) : Type 0 where
  pub on : RunsOn system p seg
  pub gate : gate_before p seg system ≡ Some Call
  pub function : is_own (process_in system.kernel.dispatcher.procs p).regs.c ≡ true
  pub quiet : due (system.steps + 1) system.interrupts ≡ None
  pub idle : system.kernel.disk.served ≡ None
  pub nobody : first_of system.kernel.disk.waiting ≡ None

-- the record of one completed call, and nothing else
abbrev pub IsRecord : List Output → Type 0
IsRecord emitted = (call : Completion) × (emitted ≡ Completed call ∷ [])

-- the step is that of its gate, and its record comes out
unfoldable pub with_own_call : ℕ → ℕ → System → SystemChange
with_own_call p seg system = with_records (gate_step p seg (counted system))
