-- A call is taken at the gate: its process keeps what it asks. (MP/M II Programmer's Guide, "BDOS Calling Conventions".)
use Rattle.std.specs.Prelude.{ℕ, ◌≤◌, length, false}
use Rattle.z80_regs.specs.declared.regs.Regs.{Regs}
use Rattle.mpm_base.specs.Calls.{Taken}
use Rattle.mpm_banks.specs.Memory.{byte_at}
use Rattle.mpm_gate.specs.Calls.{taken_call}
use Rattle.mpm_gate.specs.Reads.{reads_of, most_read}
use Rattle.mpm_procs.specs.Table.{process_in}
use Rattle.mpm_kernel.specs.Kernel.{Kernel, with_changed}
use Rattle.mpm_system.specs.declared.system.System.{System}
use Rattle.mpm_system.specs.Calling.{with_kept}

-- a process with its registers changed
abbrev pub with_regs : Kernel → ℕ → Regs → Kernel
with_regs kernel p regs = with_changed kernel p (record (process_in kernel.dispatcher.procs p) { regs = regs })

-- the call that a process asks at the gate
unfoldable pub asked : ℕ → ℕ → System → Taken
asked p seg system =
    let process = process_in system.kernel.dispatcher.procs p in
    taken_call process.regs (byte_at system.memory seg) process.dma process.multi

-- a call has at most the bytes that its function reads
abbrev pub IsTaken : Taken → Type 0
IsTaken call = length call.bytes ≤ most_read (reads_of call.function) 16

-- the process keeps the call, and an EI takes effect
unfoldable pub keeping : ℕ → Taken → System → System
keeping p call system =
    let process = process_in system.kernel.dispatcher.procs p in
    let kernel = with_regs system.kernel p (record process.regs { shadow = false }) in
    record system { kernel = with_kept p call kernel }
