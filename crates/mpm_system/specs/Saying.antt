-- What a call writes, by its function.
use Rattle.std.specs.Prelude.{◌≡◌, ◌≢◌, Result, ℕ, ◌<◌, length, List, [], ◌∷◌, ◌==◌, ◌&&◌, nat_lt, if◌then◌else◌}
use Rattle.mpm_base.specs.Calls.{Taken}
use Rattle.mpm_base.specs.declared.functions.TheConstants.{CONSOLE_OUTPUT, LIST_OUTPUT, PRINT_STRING}
use Rattle.mpm_banks.specs.Memory.{Memory, byte_at}
use Rattle.mpm_gate.specs.Texts.{text_from}
use Rattle.mpm_gate.specs.declared.take.TextEnd.TheVariants.{Dollar}
use Rattle.mpm_procs.specs.Table.{process_in, call_of}
use Rattle.mpm_kernel.specs.Kernel.{Kernel, IsConsole}
use Rattle.mpm_kernel.specs.Calls.{does_echo}
use Rattle.mpm_kernel.specs.Columns.{column_of, expanded, tab_text, spoke}
use Rattle.mpm_kernel.specs.Called.{low_parameter}
use Rattle.mpm_kernel.specs.ConsoleInput.{writes}
use Rattle.mpm_base.specs.declared.unit.Unit.TheVariants.{Printer}
use Rattle.mpm_port.specs.declared.Failed.{Failed}
use Rattle.mpm_render.specs.Outputs.{said}
use Rattle.mpm_render.specs.Shown.{KeptLines}
use Rattle.mpm_output.specs.Writing.{spoken, WritesAlone}
use Rattle.mpm_system.specs.declared.system.System.{System}
use Rattle.mpm_system.specs.Whole.{SystemChange, speaking, LivesInSystem}

-- a console is there, and is one of the eight that there may be
pub record MayShow (n : ℕ) (kernel : Kernel) : Type 0 where
  pub console : n < 8
  pub exists : IsConsole kernel n

-- a process lives in a whole system, whose call is none of function 9
pub record MaySpeakByte (p : ℕ) (system : System) : Type 0 where
  pub process : LivesInSystem p system
  pub byte : (call_of system.kernel.dispatcher.procs p).function ≢ PRINT_STRING

-- bytes come to a console as they are: its column moves in any case, and after an error the sink failed as they came out
pub record ShowsBytes {S A : Type 0} (written : S → List ℕ) (faults : S → ℕ) (console : ℕ) (bytes : List ℕ) (old new : Kernel) (kept : KeptLines) (sink : S) (kept' : KeptLines) (sink' : S) (result : Result A Failed) : Type 0 where
  pub kernel : new ≡ spoke old console bytes
  pub wrote : WritesAlone written faults kept sink kept' sink' (spoken console bytes) result

-- what a call writes to its process's console: functions 2 and 9 with tabs expanded, the byte in E or a string, and
-- functions 4 and 6 the byte in E as it is
unfoldable pub call_text : Taken → ℕ → List ℕ → List ℕ
call_text call column string =
    if call.function == CONSOLE_OUTPUT then tab_text column (low_parameter call)
    else (if call.function == PRINT_STRING then expanded column string
    else (if writes call then low_parameter call ∷ [] else []))

-- what function 5 writes to its process's printer, where there are printers: the byte in E
abbrev pub printed : Taken → Kernel → List ℕ
printed call kernel = if call.function == LIST_OUTPUT && nat_lt 0 (length kernel.units.printers) then low_parameter call ∷ [] else []

-- the string of function 9 stands at DE, up to a dollar sign
abbrev pub string_of : Taken → ℕ → Memory → List ℕ
string_of call seg memory = text_from Dollar (byte_at memory seg) call.word 65536

-- the text of a call comes to its process's console, and its byte to its printer; a string is the one that is given
unfoldable pub said_by : Taken → List ℕ → ℕ → System → SystemChange
said_by call string p system =
    let process = process_in system.kernel.dispatcher.procs p in
    let spoke = speaking process.console (call_text call (column_of system.kernel process.console) string) system in
    record spoke { emitted = said (Printer process.printer) (printed call system.kernel) spoke.emitted }

-- what the kernel itself wrote to the console of a process in its call: the key that it took, where its function echoes it
abbrev pub echo_of : Taken → Kernel → List ℕ
echo_of call kernel = if does_echo call.function then kernel.echo else []
