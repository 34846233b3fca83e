-- A file name is parsed. (MP/M II Programmer's Guide, "Function 152: Parse Filename".)
use Rattle.std.specs.Prelude.{ℕ, Option, Some, None, drop}
use Rattle.z80_regs.specs.Words.{onward}
use Rattle.mpm_base.specs.Calls.{Taken, Answer, answering, word_at}
use Rattle.mpm_base.specs.declared.call.Outcome.TheVariants.{Done}
use Rattle.mpm_names.specs.Spellings.{parsed}
use Rattle.mpm_names.specs.declared.file_name.Parsed.{Parsed}
use Rattle.mpm_command.specs.FileBlocks.{file_block}
use Rattle.mpm_system.specs.declared.system.System.{System}
use Rattle.mpm_system.specs.Calling.{Served}

-- a file name is parsed: the call's first word is the address of its text, and its second that at which the file control block
-- comes. The value is the address of what follows the name, 0 where nothing does, and FFFFh where there is no name
abbrev pub address_of_next : ℕ → Option ℕ → ℕ
address_of_next address None = 0
address_of_next address (Some place) = onward address place

abbrev pub parse_reply : Taken → Option Parsed → Answer
parse_reply call None = answering 65535
parse_reply call (Some name) =
    record (answering (address_of_next (word_at call 0) name.next)) { at = word_at call 2; bytes = file_block name }

unfoldable pub parsing : Taken → System → Served
parsing call system = record { system = system; outcome = Done; reply = parse_reply call (parsed (drop 4 call.bytes)) }
