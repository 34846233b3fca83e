-- What the kernel's calls do and answer, by the call that the process keeps: one table. (MP/M II Programmer's Guide, the
-- functions named.)
use Rattle.std.specs.Prelude.{ℕ, true, false, List, [], ◌∷◌}
use Rattle.mpm_base.specs.Calls.{Taken, answering}
use Rattle.mpm_base.specs.declared.call.Outcome.TheVariants.{Ended}
use Rattle.mpm_base.specs.declared.functions.TheConstants.{SYSTEM_RESET, CONSOLE_INPUT, CONSOLE_OUTPUT, RAW_CONSOLE_INPUT, RAW_CONSOLE_OUTPUT, DIRECT_CONSOLE_IO, PRINT_STRING, READ_CONSOLE_BUFFER, GET_CONSOLE_STATUS, RETURN_VERSION_NUMBER, RETURN_CURRENT_DISK, SET_DMA_ADDRESS, SET_GET_USER_CODE, SET_MULTI_SECTOR_COUNT, SET_BDOS_ERROR_MODE, SET_DATE_AND_TIME, GET_DATE_AND_TIME, SET_DEFAULT_PASSWORD, POLL, FLAG_WAIT, FLAG_SET, MAKE_QUEUE, OPEN_QUEUE, DELETE_QUEUE, READ_QUEUE, CONDITIONAL_READ_QUEUE, WRITE_QUEUE, CONDITIONAL_WRITE_QUEUE, DELAY, DISPATCH, TERMINATE_PROCESS, SET_PRIORITY, CALL_RESIDENT_SYSTEM_PROCEDURE, GET_DATE_TIME_AND_SECOND, RETURN_MPM_VERSION_NUMBER}
use Rattle.mpm_procs.specs.Table.{process_in, call_of}
use Rattle.mpm_procs.specs.declared.process.Process.{Process}
use Rattle.mpm_procs.specs.Settings.{user_value, with_user, multi_value, with_multi}
pub use Rattle.mpm_consoles.specs.Modes.{does_echo}
use Rattle.mpm_kernel.specs.Kernel.{Kernel, with_changed, call_begun, dispatched}
use Rattle.mpm_dispatcher.specs.Dispatch.{behind_equals, with_priority}
use Rattle.mpm_kernel.specs.Waiting.{polled, flag_waited, flag_set, process_delayed}
use Rattle.mpm_kernel.specs.Dates.{date_set, date_answered, time_answered}
use Rattle.mpm_kernel.specs.Consoling.{unit_rows, unit_called}
use Rattle.mpm_kernel.specs.ConsoleInput.{console_called}
use Rattle.mpm_kernel.specs.Queueing.{queue_made, queue_opened, queue_deleted, queue_read, queue_written}
use Rattle.mpm_kernel.specs.Procedures.{procedure_called}
pub use Rattle.mpm_kernel.specs.Called.{Called, valued, done, low_parameter, failure_code, CallRow, row, functions_of, done_by}
pub use Rattle.mpm_base.specs.Calls.{eight_at}

-- the version: MP/M II, whose file system is that of CP/M 3
abbrev pub version : ℕ
version = 304

-- the functions that end their process, and those that read from a console or write to it
abbrev pub ending : List ℕ
ending = SYSTEM_RESET ∷ TERMINATE_PROCESS ∷ []

abbrev pub for_console : List ℕ
for_console =
    CONSOLE_INPUT ∷ CONSOLE_OUTPUT ∷ RAW_CONSOLE_INPUT ∷ RAW_CONSOLE_OUTPUT ∷ DIRECT_CONSOLE_IO ∷ PRINT_STRING
    ∷ READ_CONSOLE_BUFFER ∷ GET_CONSOLE_STATUS ∷ []

-- the rows of the calls whose process goes on
abbrev pub going_on : List CallRow
going_on =
    row for_console (λ call p process kernel. console_called call p kernel)
    ∷ row (functions_of unit_rows) (λ call p process kernel. unit_called call p kernel)
    ∷ row (RETURN_VERSION_NUMBER ∷ RETURN_MPM_VERSION_NUMBER ∷ []) (λ call p process kernel. valued version kernel)
    ∷ row (RETURN_CURRENT_DISK ∷ []) (λ call p process kernel. valued process.drive kernel)
    ∷ row (SET_DMA_ADDRESS ∷ []) (λ call p process kernel. done (with_changed kernel p (record process { dma = call.word })))
    ∷ row (SET_GET_USER_CODE ∷ [])
    (λ call p process kernel. valued (user_value (low_parameter call) process) (with_changed kernel p (with_user (low_parameter call) process)))
    ∷ row (SET_MULTI_SECTOR_COUNT ∷ [])
    (λ call p process kernel. valued (multi_value (low_parameter call)) (with_changed kernel p (with_multi (low_parameter call) process)))
    ∷ row (SET_BDOS_ERROR_MODE ∷ [])
    (λ call p process kernel. done (with_changed kernel p (record process { error_mode = low_parameter call })))
    ∷ row (SET_DATE_AND_TIME ∷ []) (λ call p process kernel. date_set call kernel)
    ∷ row (GET_DATE_AND_TIME ∷ []) (λ call p process kernel. date_answered call kernel)
    ∷ row (SET_DEFAULT_PASSWORD ∷ []) (λ call p process kernel. done (with_changed kernel p (record process { password = eight_at call 0 })))
    ∷ row (POLL ∷ []) (λ call p process kernel. polled call p kernel)
    ∷ row (FLAG_WAIT ∷ []) (λ call p process kernel. flag_waited call p kernel)
    ∷ row (FLAG_SET ∷ []) (λ call p process kernel. flag_set call kernel)
    ∷ row (MAKE_QUEUE ∷ []) (λ call p process kernel. queue_made call kernel)
    ∷ row (OPEN_QUEUE ∷ []) (λ call p process kernel. queue_opened call kernel)
    ∷ row (DELETE_QUEUE ∷ []) (λ call p process kernel. queue_deleted call kernel)
    ∷ row (READ_QUEUE ∷ []) (λ call p process kernel. queue_read true call p kernel)
    ∷ row (CONDITIONAL_READ_QUEUE ∷ []) (λ call p process kernel. queue_read false call p kernel)
    ∷ row (WRITE_QUEUE ∷ []) (λ call p process kernel. queue_written true call p kernel)
    ∷ row (CONDITIONAL_WRITE_QUEUE ∷ []) (λ call p process kernel. queue_written false call p kernel)
    ∷ row (DELAY ∷ []) (λ call p process kernel. process_delayed call p kernel)
    ∷ row (DISPATCH ∷ []) (λ call p process kernel. done (dispatched (behind_equals p) kernel))
    ∷ row (SET_PRIORITY ∷ []) (λ call p process kernel. done (dispatched (with_priority p (low_parameter call)) kernel))
    ∷ row (CALL_RESIDENT_SYSTEM_PROCEDURE ∷ []) (λ call p process kernel. procedure_called call p kernel)
    ∷ row (GET_DATE_TIME_AND_SECOND ∷ []) (λ call p process kernel. time_answered call kernel)
    ∷ []

-- the table
abbrev pub table : List CallRow
table =
    row ending (λ call p process kernel. record { kernel = kernel; outcome = Ended; reply = answering 0 }) ∷ going_on

-- the call of a process, which it keeps
unfoldable pub call_done : Taken → ℕ → Process → Kernel → Called
call_done call p process kernel = done_by table call p process kernel

-- the call that a process keeps is done
abbrev pub called : ℕ → Kernel → Called
called p kernel =
    call_done (call_of kernel.dispatcher.procs p) p (process_in kernel.dispatcher.procs p)
    (call_begun (does_echo (call_of kernel.dispatcher.procs p).function) kernel)
