-- What the calls on a console make of it, by their functions. (MP/M II Programmer's Guide, "Function 1: Console Input",
-- "Function 2: Console Output", "Function 3: Raw Console Input", "Function 4: Raw Console Output", "Function 6: Direct Console
-- I/O", "Function 9: Print String", "Function 10: Read Console Buffer".)
use Rattle.std.specs.Prelude.{ℕ, ◌%◌, Bool, ◌&&◌, ◌||◌, ◌==◌, nat_lt}
use Rattle.mpm_base.specs.Calls.{Taken}
use Rattle.mpm_base.specs.declared.functions.TheConstants.{CONSOLE_INPUT, CONSOLE_OUTPUT, RAW_CONSOLE_INPUT, RAW_CONSOLE_OUTPUT, DIRECT_CONSOLE_IO, PRINT_STRING, READ_CONSOLE_BUFFER}
use Rattle.mpm_consoles.specs.declared.modes.TheConstants.{AWAIT_KEY}

-- the functions that make a console not raw, those that make it raw, and those that echo the keys that they take
abbrev pub is_cooked : ℕ → Bool
is_cooked function = function == CONSOLE_INPUT || (function == CONSOLE_OUTPUT || (function == PRINT_STRING || function == READ_CONSOLE_BUFFER))

abbrev pub is_raw : ℕ → Bool
is_raw function = function == RAW_CONSOLE_INPUT || (function == RAW_CONSOLE_OUTPUT || function == DIRECT_CONSOLE_IO)

abbrev pub does_echo : ℕ → Bool
does_echo function = function == CONSOLE_INPUT || function == READ_CONSOLE_BUFFER

-- the calls that write and therefore wait while output is stopped: function 6 writes a byte below those by which it asks
unfoldable pub writes : Taken → Bool
writes call =
    call.function == CONSOLE_OUTPUT || (call.function == RAW_CONSOLE_OUTPUT || (call.function == PRINT_STRING || (call.function == DIRECT_CONSOLE_IO && nat_lt (call.word % 256) AWAIT_KEY)))
