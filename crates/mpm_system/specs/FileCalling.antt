-- A file call is taken, and what its answer leaves of its caller. (MP/M II Programmer's Guide, "BDOS Function Calls", "BDOS Error
-- Handling"; functions 13, "Reset Disk System", and 14, "Select Disk".)
use Rattle.std.specs.Prelude.{ℕ, Option, Some, None, is_none, ◌==◌, ◌&&◌, if◌then◌else◌}
use Rattle.z80_regs.specs.Words.{word_of}
use Rattle.mpm_base.specs.Calls.{Taken, Answer}
use Rattle.mpm_base.specs.declared.functions.TheConstants.{RESET_DISK_SYSTEM, SELECT_DISK}
use Rattle.mpm_banks.specs.Memory.{Memory, segment_of}
use Rattle.mpm_procs.specs.Table.{process_in, call_of}
use Rattle.mpm_kernel.specs.Kernel.{with_changed}
use Rattle.mpm_kernel.specs.Called.{low_parameter}
use Rattle.mpm_residents.specs.Natives.{native_in}
use Rattle.mpm_output.specs.Texts.{error_text}
use Rattle.mpm_file_functions.specs.declared.refusals.Extended.{Extended}
use Rattle.mpm_directories.specs.Direct.{CallerChange, Stays, Selects, Resets}
use Rattle.mpm_system.specs.declared.system.System.{System}
use Rattle.mpm_system.specs.Whole.{SystemChange, speaking}
use Rattle.mpm_system.specs.Taking.{asked, keeping}
use Rattle.mpm_system.specs.Answering.{popped, answering_call}
use Rattle.mpm_system.specs.Residents.{asked_by, taking}
use Rattle.mpm_system.specs.Coming.{counted}

-- the call is made, and kept: what it reads is taken, and the return address from the stack
abbrev pub made_by : Option ℕ → ℕ → System → System
made_by (Some seg) p system = popped p seg (keeping p (asked p seg system) system)
made_by None p system = asked_by (native_in system.residents p) p system

unfoldable pub call_made : ℕ → System → System
call_made p system = made_by (process_in system.kernel.dispatcher.procs p).seg p (counted system)

-- the DMA address with which a process begins
abbrev pub first_dma : Memory → Option ℕ → ℕ
first_dma memory None = 0
first_dma memory (Some seg) = word_of 128 (segment_of memory seg).base

-- its caller has another drive, or the first one and its first DMA address
unfoldable pub with_caller : CallerChange → ℕ → System → System
with_caller Stays p system = system
with_caller (Selects drive) p system =
    record system { kernel = with_changed system.kernel p (record (process_in system.kernel.dispatcher.procs p) { drive = drive }) }
with_caller Resets p system =
    let process = process_in system.kernel.dispatcher.procs p in
    record system { kernel = with_changed system.kernel p (record process { drive = 0; dma = first_dma system.memory process.seg }) }

-- that is so of the call alone: 13 resets its caller in any case, and 14 selects a drive unless it is refused
unfoldable pub change_of : Taken → Option Extended → CallerChange
change_of call error =
    if call.function == RESET_DISK_SYSTEM then Resets
    else (if call.function == SELECT_DISK && is_none error then Selects (low_parameter call) else Stays)

-- the call is answered: its reply is placed, and its record joins the others; a resident takes the answer
abbrev pub reply_by : Option ℕ → Answer → ℕ → System → System
reply_by (Some seg) reply p system = answering_call reply (call_of system.kernel.dispatcher.procs p) p seg system
reply_by None reply p system = taking reply p system

unfoldable pub file_replied : Answer → ℕ → System → System
file_replied reply p system = reply_by (process_in system.kernel.dispatcher.procs p).seg reply p system

-- the text of an extended error comes to its caller's console
unfoldable pub error_told : Extended → ℕ → System → SystemChange
error_told error p system = speaking (process_in system.kernel.dispatcher.procs p).console (error_text error.code error.drive) system
