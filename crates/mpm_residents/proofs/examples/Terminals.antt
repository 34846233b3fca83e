-- Worked examples of lines that are typed, and of a terminal message processor's table, row by row. It serves user 5 on drive C at
-- console 1.
use Rattle.std.proofs.Common.{◌≡◌, [], ◌∷◌, ◌++◌, refl}
use Rattle.std.specs.Prelude.{⊤, List, ℕ, codes}
use Rattle.std.specs.Fmt.{digits}
use Rattle.mpm_base.specs.Calls.{asking, answering}
use Rattle.mpm_messages.specs.Texts.{stripped}
use Rattle.mpm_residents.specs.Lines.{user_number, user_of, text_form, form_of, command_text}
use Rattle.mpm_residents.specs.Terminals.{Terminal, opening, prompt, next_call, took}
use Rattle.mpm_residents.specs.declared.tmp.line.LineForm.TheVariants.{Empty, Drive, User, Command}
use Rattle.mpm_residents.specs.declared.tmp.Row.{Row}
use Rattle.mpm_residents.specs.declared.tmp.Row.TheVariants.{Attach, Prompt, ReadLine, NewLine, SelectDrive, SetUser, SendCommand, NoDrive}

-- what they unfold
unfoldable pub terminals : ⊤
unfolding stripped user_number user_of text_form digits command_text opening next_call took
terminals = tt

pub form_of_nothing : form_of (codes "   ") ≡ Empty
unfolding terminals
form_of_nothing = refl

pub form_of_drive : form_of (codes " q:") ≡ Drive 16
unfolding terminals
form_of_drive = refl

pub form_of_user : form_of (codes "UsEr   15 ") ≡ User 15
unfolding terminals
form_of_user = refl

pub form_of_sixteen : form_of (codes "user 16") ≡ Command
unfolding terminals
form_of_sixteen = refl

pub form_of_leading_zero : form_of (codes "user 03") ≡ Command
unfolding terminals
form_of_leading_zero = refl

-- `USER` alone, and a number right after it, are commands too, and so is a drive with a name
pub form_of_user_alone : form_of (codes "user ") ≡ Command
unfolding terminals
form_of_user_alone = refl

pub form_of_user_5 : form_of (codes "user5") ≡ Command
unfolding terminals
form_of_user_5 = refl

pub form_of_drive_and_name : form_of (codes "b:x") ≡ Command
unfolding terminals
form_of_drive_and_name = refl

-- user 15 on drive P
pub prompt_of_fifteen : prompt (record { console = 0; user = 15; drive = 15; row = Prompt; line = [] }) ≡ codes "15P>"
unfolding terminals
prompt_of_fifteen = refl

-- the processor in a row, with the line that it read last
abbrev behind_line : Row → List ℕ → Terminal
behind_line row line = record { console = 1; user = 5; drive = 2; row = row; line = line }

abbrev at_row : Row → Terminal
at_row row = behind_line row []

-- it begins as user 0 on drive A
pub begins : opening 1 ≡ record (at_row Attach) { user = 0; drive = 0 }
unfolding terminals
begins = refl

-- it attaches its console
pub attaches : next_call (at_row Attach) ≡ asking 146 0 []
unfolding terminals
attaches = refl

pub attached : took (at_row Attach) (answering 0) ≡ at_row Prompt
unfolding terminals
attached = refl

-- it prompts
pub prompts : next_call (at_row Prompt) ≡ asking 9 0 (codes "5C>")
unfolding terminals
prompts = refl

pub prompted : took (at_row Prompt) (answering 0) ≡ at_row ReadLine
unfolding terminals
prompted = refl

-- it reads a line of 127 bytes at most
pub reads : next_call (at_row ReadLine) ≡ asking 10 0 (127 ∷ [])
unfolding terminals
reads = refl

pub line_is_read : took (at_row ReadLine) (record (answering 0) { bytes = 3 ∷ codes "dir" }) ≡ behind_line NewLine (codes "dir")
unfolding terminals
line_is_read = refl

-- it ends the line, and does what the line asks for
pub ends_line : next_call (behind_line NewLine (codes "dir")) ≡ asking 2 10 []
unfolding terminals
ends_line = refl

pub nothing_typed : took (behind_line NewLine (codes "  ")) (answering 0) ≡ behind_line Attach (codes "  ")
unfolding terminals
nothing_typed = refl

pub drive_typed : took (behind_line NewLine (codes "b:")) (answering 0) ≡ behind_line (SelectDrive 1) (codes "b:")
unfolding terminals
drive_typed = refl

pub user_typed : took (behind_line NewLine (codes "USER 7")) (answering 0) ≡ behind_line (SetUser 7) (codes "USER 7")
unfolding terminals
user_typed = refl

pub command_typed : took (behind_line NewLine (codes "dir")) (answering 0) ≡ behind_line SendCommand (codes "dir")
unfolding terminals
command_typed = refl

-- it selects a drive, or tells that there is none
pub selects : next_call (at_row (SelectDrive 1)) ≡ asking 14 1 []
unfolding terminals
selects = refl

pub drive_is_selected : took (at_row (SelectDrive 1)) (answering 0) ≡ record (at_row Attach) { drive = 1 }
unfolding terminals
drive_is_selected = refl

pub drive_is_not_mounted : took (at_row (SelectDrive 1)) (answering 0x04FF) ≡ at_row NoDrive
unfolding terminals
drive_is_not_mounted = refl

pub tells_no_drive : next_call (at_row NoDrive) ≡ asking 9 0 (codes "No drive" ++ (13 ∷ 10 ∷ []))
unfolding terminals
tells_no_drive = refl

pub no_drive_is_told : took (at_row NoDrive) (answering 0) ≡ at_row Attach
unfolding terminals
no_drive_is_told = refl

-- it becomes another user
pub sets_user : next_call (at_row (SetUser 7)) ≡ asking 32 7 []
unfolding terminals
sets_user = refl

pub user_is_set : took (at_row (SetUser 7)) (answering 0) ≡ record (at_row Attach) { user = 7 }
unfolding terminals
user_is_set = refl

-- it sends a command, without the spaces around it and up to 00h: user 5 and drive 2 are one byte
pub sends : next_call (behind_line SendCommand (codes " dir " ++ (0 ∷ codes "x"))) ≡ asking 150 0 (0x52 ∷ 1 ∷ codes "dir ")
unfolding terminals
sends = refl

pub sent : took (behind_line SendCommand (codes "dir")) (answering 0) ≡ behind_line Attach (codes "dir")
unfolding terminals
sent = refl
