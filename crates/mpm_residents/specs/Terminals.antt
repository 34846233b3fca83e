-- A terminal message processor: the call that it makes in each row of its table, and where it goes by the answer. (MP/M II
-- User's Guide, "Terminal Message Processor"; Programmer's Guide, "Function 146: Attach Console", "Function 150: Send CLI
-- Command", "Function 9: Print String", "Function 10: Read Console Buffer", "Function 14: Select Disk", "Function 32: Set/Get
-- User Code".)
use Rattle.std.specs.Prelude.{ℕ, ◌+◌, ◌*◌, ◌%◌, ◌<◌, ◌==◌, if◌then◌else◌, List, [], ◌∷◌, ◌++◌, take, drop, slice_index_or, codes, decimal}
use Rattle.mpm_base.specs.Calls.{Taken, Answer, asking}
use Rattle.mpm_base.specs.declared.functions.TheConstants.{CONSOLE_OUTPUT, PRINT_STRING, READ_CONSOLE_BUFFER, SELECT_DISK, SET_GET_USER_CODE, ATTACH_CONSOLE, SEND_CLI_COMMAND}
use Rattle.mpm_residents.specs.Lines.{form_of, command_text}
use Rattle.mpm_residents.specs.declared.tmp.line.LineForm.{LineForm}
use Rattle.mpm_residents.specs.declared.tmp.line.LineForm.TheVariants.{Empty, Drive, User, Command}
use Rattle.mpm_residents.specs.declared.tmp.Row.{Row}
use Rattle.mpm_residents.specs.declared.tmp.Row.TheVariants.{Attach, Prompt, ReadLine, NewLine, SelectDrive, SetUser, SendCommand, NoDrive}

-- a processor: the console that it was started for, its user and drive, its row, and the line that it read last
pub record Terminal : Type 0 where
  pub console : ℕ
  pub user : ℕ
  pub drive : ℕ
  pub row : Row
  pub line : List ℕ

-- it begins as user 0 on drive A
unfoldable pub opening : ℕ → Terminal
opening console = record { console = console; user = 0; drive = 0; row = Attach; line = [] }

-- the user's number, the drive's letter and `>`
abbrev pub prompt : Terminal → List ℕ
prompt tmp = decimal tmp.user ++ (65 + tmp.drive) ∷ 62 ∷ []

-- what function 150 is sent: the user and the drive in one byte, the console, and the command
abbrev pub command_of : Terminal → List ℕ
command_of tmp = (16 * tmp.user + tmp.drive % 16) ∷ tmp.console ∷ command_text tmp.line

-- the call of each row
abbrev pub call_at : Row → Terminal → Taken
call_at Attach tmp = asking ATTACH_CONSOLE 0 []
call_at Prompt tmp = asking PRINT_STRING 0 (prompt tmp)
call_at ReadLine tmp = asking READ_CONSOLE_BUFFER 0 (127 ∷ [])
call_at NewLine tmp = asking CONSOLE_OUTPUT 10 []
call_at (SelectDrive drive) tmp = asking SELECT_DISK drive []
call_at (SetUser user) tmp = asking SET_GET_USER_CODE user []
call_at SendCommand tmp = asking SEND_CLI_COMMAND 0 (command_of tmp)
call_at NoDrive tmp = asking PRINT_STRING 0 (codes "No drive" ++ 13 ∷ 10 ∷ [])

unfoldable pub next_call : Terminal → Taken
next_call tmp = call_at tmp.row tmp

-- the line that function 10 answers: its length, and then its bytes
abbrev pub line_length : Answer → ℕ
line_length reply = slice_index_or reply.bytes 0 0

abbrev pub line_in : Answer → List ℕ
line_in reply = take (line_length reply) (drop 1 reply.bytes)

-- the row after a line
abbrev pub row_after : LineForm → Row
row_after Empty = Attach
row_after (Drive drive) = SelectDrive drive
row_after (User user) = SetUser user
row_after Command = SendCommand

-- the processor after the answer to a row's call
abbrev pub took_at : Row → Terminal → Answer → Terminal
took_at Attach tmp reply = record tmp { row = Prompt }
took_at Prompt tmp reply = record tmp { row = ReadLine }
took_at ReadLine tmp reply = record tmp { row = NewLine; line = line_in reply }
took_at NewLine tmp reply = record tmp { row = row_after (form_of tmp.line) }
took_at (SelectDrive drive) tmp reply =
    if reply.hl == 0 then record tmp { row = Attach; drive = drive } else record tmp { row = NoDrive }
took_at (SetUser user) tmp reply = record tmp { row = Attach; user = user }
took_at SendCommand tmp reply = record tmp { row = Attach }
took_at NoDrive tmp reply = record tmp { row = Attach }

unfoldable pub took : Terminal → Answer → Terminal
took tmp reply = took_at tmp.row tmp reply

-- the drives of a row have letters, and its users are 0 to 15
abbrev pub IsTerminalRow : Row → Type 0
IsTerminalRow (SelectDrive drive) = drive < 26
IsTerminalRow (SetUser user) = user < 16
IsTerminalRow _ = Unit {0}
