-- Worked examples of the interpreter's table, row by row: what it does, and where it goes by the answer. User 3 has typed `stat x` on
-- drive A of console 1.
use Rattle.std.proofs.Common.{refl}
use Rattle.std.specs.Prelude.{◌≡◌, ℕ, List, [], ◌∷◌, ◌++◌, ⊤, Some, true, false, replicate, codes}
use Rattle.mpm_base.specs.Lists.{zeros, in_width}
use Rattle.mpm_base.specs.Calls.{Answer, asking, answering}
use Rattle.mpm_names.specs.Characters.{is_delimiter, is_character}
use Rattle.mpm_names.specs.Spellings.{parsed, spelling, drive_of, marked, filled, kept_at, next_of}
use Rattle.mpm_command.specs.Commands.{text_of, tail_in, command_in}
use Rattle.mpm_command.specs.declared.command.Command.{Command}
use Rattle.mpm_loader.specs.Plans.{relocatable_plan, absolute_plan, plan_of, pages_of}
use Rattle.mpm_loader.specs.Pieces.{Loading, part, begun, with_piece, nothing}
use Rattle.mpm_residents.specs.declared.cli.act.Act.TheVariants.{PlaceBytes, MoveCode, BeginProcess, GiveConsole}
use Rattle.mpm_residents.specs.declared.cli.table.Message.TheVariants.{NotFound, BadLoad, NoMemory, NoProcess, QueueFull}
use Rattle.mpm_residents.specs.declared.cli.table.Row.{Row}
use Rattle.mpm_residents.specs.declared.cli.table.Row.TheVariants.{ReadCommand, OpenQueue, WriteQueue, SetUser, OpenRelocatable, OpenAbsolute, ReadHeader, ComputeSize, SetUserZero, Reserve, Place, Patch, ReadOn, Free, CloseAfter, Close, Tell, Give, PlaceBasePage, Begin}
use Rattle.mpm_residents.specs.Interpreters.{Interpreter, opening, next_call, next_act, process_of, took, row_for_memory, row_behind_marks, row_behind_code, row_for_piece}

-- what they unfold
unfoldable pub interpreting : ⊤
unfolding opening next_call next_act process_of took row_for_memory row_behind_marks row_behind_code row_for_piece text_of tail_in command_in parsed spelling drive_of marked filled kept_at next_of is_delimiter is_character relocatable_plan absolute_plan plan_of pages_of part begun with_piece nothing zeros in_width
interpreting = tt

-- the command, and the interpreter in a row of its table, with a file of which this has come in
abbrev stat : Command
stat = record { user = 3; drive = 0; names_drive = false; name = record { 0 = codes "STAT    " }; password = replicate 8 0 }

abbrev fcb : List ℕ
fcb = 1 ∷ (codes "STAT" ++ (32 ∷ 160 ∷ 32 ∷ 32 ∷ codes "PRL")) ++ replicate 24 0

abbrev no_load : Loading
no_load = record { plan = record { start = 0; length = 0; room = 0; bits = 0 }; before = 0; piece = [] }

abbrev in_row : Row → Loading → Interpreter
in_row row load = record {
  consoles = 2;
  row = row;
  console = 1;
  command = stat;
  tail = codes " x";
  pointer = 5;
  fcb = fcb;
  load = load;
  seg = 4;
  spec = record { base = 64; pages = 4 };
}

abbrev at_row : Row → Interpreter
at_row row = in_row row no_load

-- an answer with bytes
abbrev with_bytes : ℕ → List ℕ → Answer
with_bytes value bytes = record (answering value) { bytes = bytes }

-- 1: it reads the command queue; a command goes to a queue of its name first
pub reads_commands : next_call (opening 2) ≡ asking 137 0 (1 ∷ 0 ∷ 0 ∷ 0 ∷ codes "CliQ    ")
unfolding interpreting
reads_commands = refl

pub command_comes : took (opening 2) (with_bytes 0 (0x30 ∷ 1 ∷ codes "stat x"))
    ≡ record (opening 2) { row = OpenQueue; console = 1; command = stat; tail = codes " x" }
unfolding interpreting
command_comes = refl

-- one that names its drive goes to a program at once
pub drive_is_named : took (opening 2) (with_bytes 0 (0x30 ∷ 1 ∷ codes "b:stat;key"))
    ≡ record (opening 2) {
      row = SetUser;
      console = 1;
      command = record stat { drive = 1; names_drive = true; password = codes "KEY     " };
    }
unfolding interpreting
drive_is_named = refl

-- one that is no name is reported, and one of a console that isn't there is dropped
pub no_command_comes : took (opening 2) (with_bytes 0 (0x30 ∷ 1 ∷ codes "a.b.c x")) ≡ record (opening 2) { row = Tell BadLoad; console = 1 }
unfolding interpreting
no_command_comes = refl

pub console_out_of_range : took (opening 2) (with_bytes 0 (0x30 ∷ 2 ∷ codes "stat x")) ≡ opening 2
unfolding interpreting
console_out_of_range = refl

-- 2: it asks for a queue of that name
pub opens_queue : next_call (at_row OpenQueue) ≡ asking 135 0 (0 ∷ 0 ∷ 0 ∷ 0 ∷ codes "STAT    ")
unfolding interpreting
opens_queue = refl

pub queue_is_there : took (at_row OpenQueue) (with_bytes 0 (9 ∷ 0 ∷ [])) ≡ record (at_row WriteQueue) { pointer = 9 }
unfolding interpreting
queue_is_there = refl

pub queue_is_missing : took (at_row OpenQueue) (answering 0x00FF) ≡ at_row SetUser
unfolding interpreting
queue_is_missing = refl

-- 3: it writes the tail, whose case stays, or tells that the queue is full
pub writes_tail : next_call (at_row WriteQueue) ≡ asking 140 0 (5 ∷ 0 ∷ 0 ∷ 0 ∷ codes "STAT     x")
unfolding interpreting
writes_tail = refl

pub tail_is_written : took (at_row WriteQueue) (answering 0) ≡ at_row Give
unfolding interpreting
tail_is_written = refl

pub queue_is_full : took (at_row WriteQueue) (answering 0x00FF) ≡ at_row (Tell QueueFull)
unfolding interpreting
queue_is_full = refl

-- 4: it becomes the command's user
pub becomes_user : next_call (at_row SetUser) ≡ asking 32 3 []
unfolding interpreting
becomes_user = refl

pub user_is_set : took (at_row SetUser) (answering 0) ≡ at_row OpenRelocatable
unfolding interpreting
user_is_set = refl

-- 5: it opens STAT.PRL on drive A, read-only, by F6'
pub opens_prl : next_call (at_row OpenRelocatable) ≡ record { function = 15; word = 0; dma = 0; fcb = fcb; bytes = replicate 8 0 }
unfolding interpreting
opens_prl = refl

abbrev handle : List ℕ
handle = replicate 36 7

pub prl_is_open : took (at_row OpenRelocatable) (record (answering 0) { fcb = Some handle }) ≡ record (at_row ReadHeader) { fcb = handle }
unfolding interpreting
prl_is_open = refl

pub prl_is_missing : took (at_row OpenRelocatable) (answering 0x00FF) ≡ at_row OpenAbsolute
unfolding interpreting
prl_is_missing = refl

pub prl_is_refused : took (at_row OpenRelocatable) (answering 0x07FF) ≡ at_row (Tell BadLoad)
unfolding interpreting
prl_is_refused = refl

-- 6: and STAT.COM likewise
pub opens_com : next_call (at_row OpenAbsolute)
    ≡ record { function = 15; word = 0; dma = 0; fcb = 1 ∷ (codes "STAT" ++ (32 ∷ 160 ∷ 32 ∷ 32 ∷ codes "COM")) ++ replicate 24 0; bytes = replicate 8 0 }
unfolding interpreting
opens_com = refl

pub com_is_open : took (at_row OpenAbsolute) (record (answering 0) { fcb = Some handle }) ≡ record (at_row ComputeSize) { fcb = handle }
unfolding interpreting
com_is_open = refl

pub com_is_missing : took (at_row OpenAbsolute) (answering 0x00FF) ≡ at_row (Tell NotFound)
unfolding interpreting
com_is_missing = refl

pub com_is_refused : took (at_row OpenAbsolute) (answering 0x05FF) ≡ at_row (Tell BadLoad)
unfolding interpreting
com_is_refused = refl

-- 7: a header asks for 200 bytes of code and 56 after it, which take 4 pages; the four records have the bits too
abbrev program : List ℕ
program = 0 ∷ 200 ∷ 0 ∷ 0 ∷ 56 ∷ 0 ∷ replicate 506 9

abbrev loaded : List ℕ → Loading
loaded piece = record { plan = record { start = 256; length = 200; room = 256; bits = 25 }; before = 0; piece = piece }

pub reads_header : next_call (at_row ReadHeader) ≡ record { function = 20; word = 0; dma = 0; fcb = fcb; bytes = [] }
unfolding interpreting
reads_header = refl

pub header_is_read : took (at_row ReadHeader) (with_bytes 0 program) ≡ in_row (Reserve true 4) (loaded program)
unfolding interpreting
header_is_read = refl

-- one record isn't enough, nor is a header of a program without code
pub header_is_short : took (at_row ReadHeader) (with_bytes 0x1001 (replicate 128 9)) ≡ at_row (CloseAfter BadLoad)
unfolding interpreting
header_is_short = refl

pub header_has_no_code : took (at_row ReadHeader) (with_bytes 0 (replicate 256 0)) ≡ at_row (CloseAfter BadLoad)
unfolding interpreting
header_has_no_code = refl

-- 253 pages of code, the stack, the base page and the last page are more than 255 pages: none are asked for
pub program_is_too_long : (took (at_row ReadHeader) (with_bytes 0 (0 ∷ 0 ∷ 253 ∷ replicate 253 0))).row ≡ CloseAfter NoMemory
unfolding interpreting
program_is_too_long = refl

-- 8: a file of two records; where it isn't found it is user 0's
pub asks_size : next_call (at_row ComputeSize) ≡ record { function = 35; word = 0; dma = 0; fcb = fcb; bytes = [] }
unfolding interpreting
asks_size = refl

pub size_is_told : (took (at_row ComputeSize) (record (answering 0) { fcb = Some (replicate 33 7 ++ (2 ∷ 0 ∷ 0 ∷ [])) })).row ≡ Reserve false 4
unfolding interpreting
size_is_told = refl

pub file_of_user_0 : took (at_row ComputeSize) (answering 0x00FF) ≡ at_row SetUserZero
unfolding interpreting
file_of_user_0 = refl

pub becomes_user_0 : next_call (at_row SetUserZero) ≡ asking 32 0 []
unfolding interpreting
becomes_user_0 = refl

pub asks_size_again : took (at_row SetUserZero) (answering 0) ≡ at_row ComputeSize
unfolding interpreting
asks_size_again = refl

-- 9: it reserves memory anywhere, or at page 0
pub reserves_anywhere : next_call (at_row (Reserve true 4)) ≡ asking 129 0 (0 ∷ 4 ∷ 0 ∷ 0 ∷ [])
unfolding interpreting
reserves_anywhere = refl

pub reserves_page_0 : next_call (at_row (Reserve false 4)) ≡ asking 128 0 (0 ∷ 4 ∷ 0 ∷ 0 ∷ [])
unfolding interpreting
reserves_page_0 = refl

pub memory_is_reserved : took (in_row (Reserve true 4) (loaded program)) (with_bytes 0 (32 ∷ 6 ∷ 0x80 ∷ 2 ∷ []))
    ≡ record (in_row Place (loaded program)) { seg = 2; spec = record { base = 32; pages = 6 } }
unfolding interpreting
memory_is_reserved = refl

pub memory_is_refused : took (in_row (Reserve true 4) (loaded program)) (answering 0x00FF) ≡ in_row (CloseAfter NoMemory) (loaded program)
unfolding interpreting
memory_is_refused = refl

-- 10: the code is placed after the base page, at 4100h
pub places_code : next_act (in_row Place (loaded program)) ≡ PlaceBytes 4 0x4100 200
unfolding interpreting
places_code = refl

pub code_is_placed : took (in_row Place (loaded program)) (answering 0) ≡ in_row Patch (loaded program)
unfolding interpreting
code_is_placed = refl

-- 11: and moved to page 40h; all of the file has come
pub moves_code : next_act (in_row Patch (loaded program)) ≡ MoveCode 4 0x4100 200 64
unfolding interpreting
moves_code = refl

pub code_is_moved : took (in_row Patch (loaded program)) (answering 0) ≡ in_row Close (loaded program)
unfolding interpreting
code_is_moved = refl

-- of three records the first 128 bytes of code have come, and no bits
abbrev front : List ℕ
front = 0 ∷ 200 ∷ 0 ∷ 0 ∷ 56 ∷ 0 ∷ replicate 378 9

pub front_is_placed : took (in_row Place (loaded front)) (answering 0) ≡ in_row ReadOn (loaded front)
unfolding interpreting
front_is_placed = refl

-- 12: the next record has the other 72 and the bits; or there is none
pub rest_is_read : took (in_row ReadOn (loaded front)) (with_bytes 0x1001 (replicate 128 9))
    ≡ in_row Place (record (loaded (replicate 128 9)) { before = 384 })
unfolding interpreting
rest_is_read = refl

pub places_rest : next_act (in_row Place (record (loaded (replicate 128 9)) { before = 384 })) ≡ PlaceBytes 4 0x4180 72
unfolding interpreting
places_rest = refl

pub file_is_short : took (in_row ReadOn (loaded front)) (answering 1) ≡ in_row (Free BadLoad) (loaded front)
unfolding interpreting
file_is_short = refl

-- 13: the segment is freed, and then the file closed
pub frees_segment : next_call (at_row (Free BadLoad)) ≡ asking 130 0 (64 ∷ 4 ∷ 0x80 ∷ 4 ∷ [])
unfolding interpreting
frees_segment = refl

pub segment_is_freed : took (at_row (Free BadLoad)) (answering 0) ≡ at_row (CloseAfter BadLoad)
unfolding interpreting
segment_is_freed = refl

-- 14: closed, the text is written, or, where there is none, the base page placed
pub closes_file : next_call (at_row Close) ≡ record { function = 16; word = 0; dma = 0; fcb = fcb; bytes = [] }
unfolding interpreting
closes_file = refl

pub closed_to_tell : took (at_row (CloseAfter NoMemory)) (answering 0x00FF) ≡ at_row (Tell NoMemory)
unfolding interpreting
closed_to_tell = refl

pub closed_to_begin : took (at_row Close) (answering 0) ≡ at_row PlaceBasePage
unfolding interpreting
closed_to_begin = refl

-- 15: it tells the text on the command's console
pub tells_text : next_call (at_row (Tell NotFound)) ≡ asking 9 1 (codes "Command not found" ++ (13 ∷ 10 ∷ []))
unfolding interpreting
tells_text = refl

pub text_is_told : took (at_row (Tell NotFound)) (answering 0) ≡ at_row Give
unfolding interpreting
text_is_told = refl

-- 16: it gives the console back, and reads the next command
pub gives_console : next_act (at_row Give) ≡ GiveConsole 1
unfolding interpreting
gives_console = refl

pub console_is_given : took (at_row Give) (answering 0) ≡ at_row ReadCommand
unfolding interpreting
console_is_given = refl

-- 17: the base page comes to 4000h
pub places_base_page : next_act (at_row PlaceBasePage) ≡ PlaceBytes 4 0x4000 256
unfolding interpreting
places_base_page = refl

pub base_page_is_placed : took (at_row PlaceBasePage) (answering 0) ≡ at_row Begin
unfolding interpreting
base_page_is_placed = refl

-- 18: the process begins at 4100h, its stack ends below the last page, 43h; or no process is left
pub begins_process : next_act (at_row Begin)
    ≡ BeginProcess 4 (record {
      name = record { 0 = codes "STAT    " };
      priority = 200;
      console = 1;
      seg = Some 4;
      pc = 0x4100;
      sp = 0x42FE;
      dma = 0x4080;
      user = 3;
      drive = 0;
    })
unfolding interpreting
begins_process = refl

pub process_begins : took (at_row Begin) (answering 0) ≡ at_row ReadCommand
unfolding interpreting
process_begins = refl

pub no_process_is_left : took (at_row Begin) (answering 0x00FF) ≡ at_row (Free NoProcess)
unfolding interpreting
no_process_is_left = refl
