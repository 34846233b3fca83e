-- What a message of the command queue asks for. (MP/M II Programmer's Guide, "Function 150: Send CLI Command"; User's Guide,
-- "Command Line Interpreter".)
use Rattle.std.specs.Prelude.{ℕ, ◌-◌, ◌<◌, ◌/◌, ◌%◌, ◌==◌, not, if◌then◌else◌, List, take, drop, slice_index, Option, Some, None}
use Rattle.mpm_names.specs.Spellings.{parsed}
use Rattle.mpm_names.specs.declared.file_name.Parsed.{Parsed}
use Rattle.mpm_command.specs.Texts.{run_of, behind_run}
use Rattle.mpm_command.specs.declared.text.Run.TheVariants.{Text, Word}
use Rattle.mpm_command.specs.declared.command.Command.{Command}

-- the console from which it comes
abbrev pub console_in : List ℕ → ℕ
console_in message = slice_index message 1

-- its text, after user, drive and console, up to 00h or CR
unfoldable pub text_of : List ℕ → List ℕ
text_of message = run_of Text (drop 2 message)

-- the tail of the command: the text from its first space on
unfoldable pub tail_in : List ℕ → List ℕ
tail_in message = behind_run Word (text_of message)

-- the drive on which the program is sought, and on which it begins: the one that is named, from 1 on, or else the current one
abbrev pub program_drive : ℕ → ℕ → ℕ
program_drive current drive = if drive == 0 then current else (drive - 1)

-- the command of a name, whose type doesn't count
abbrev pub command_named : List ℕ → Parsed → Command
command_named message name = record {
  user = slice_index message 0 / 16;
  drive = program_drive (slice_index message 0 % 16) name.drive;
  names_drive = not (name.drive == 0);
  name = record { 0 = take 8 name.name };
  password = name.password;
}

abbrev pub command_or_none : List ℕ → Option Parsed → Option Command
command_or_none message None = None
command_or_none message (Some name) = Some (command_named message name)

-- the command is the text up to the first space, in the form of a file name
unfoldable pub command_in : List ℕ → Option Command
command_in message = command_or_none message (parsed (run_of Word (text_of message)))

-- a user and a drive that there can be
pub record IsCommand (command : Command) : Type 0 where
  pub user : command.user < 16
  pub drive : command.drive < 16
