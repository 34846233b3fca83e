-- What a held call answers as it is completed. (MP/M II Programmer's Guide, "Function 131: Poll", "Function 132: Flag Wait",
-- "Function 137: Read Queue", "Function 139: Write Queue", "Function 141: Delay", "Function 150: Send CLI Command", "Function
-- 151: Call Resident System Procedure".)
use Rattle.std.specs.Prelude.{ℕ, ◌||◌, ◌==◌, drop, if◌then◌else◌}
use Rattle.mpm_base.specs.Calls.{Taken, Answer, answering, word_at}
use Rattle.mpm_base.specs.declared.functions.TheConstants.{POLL, FLAG_WAIT, READ_QUEUE, WRITE_QUEUE, DELAY, SEND_CLI_COMMAND, CALL_RESIDENT_SYSTEM_PROCEDURE}
use Rattle.mpm_queues.specs.Queue.{block_size}

-- the value, by the call's function. A reader's message has no such value, and a chaining process ends: no other call is held, so that
-- FFFFh is never answered
abbrev pub completion_value : ℕ → ℕ
completion_value function =
    if function == POLL || (function == FLAG_WAIT || (function == WRITE_QUEUE || (function == DELAY || (function == SEND_CLI_COMMAND || function == CALL_RESIDENT_SYSTEM_PROCEDURE)))) then 0
    else 65535

-- the reply: a reader's message follows the block that it read
unfoldable pub completion_of : Taken → Answer
completion_of call =
    if call.function == READ_QUEUE then record (answering 0) { at = word_at call 2; bytes = drop block_size call.bytes }
    else (answering (completion_value call.function))
