-- The command line interpreter: what it does in each row of its table, and where it goes by the answer. (MP/M II User's
-- Guide, "Command Line Interpreter"; System Guide, "Page Relocatable Programs"; Programmer's Guide, "Function 150: Send CLI
-- Command", and those of the functions that it calls.)
use Rattle.std.specs.Prelude.{ℕ, ◌+◌, ◌-◌, ◌*◌, ◌%◌, ◌<◌, ◌≤◌, ◌≡◌, ◌==◌, ◌&&◌, Bool, true, false, nat_lt, nat_le, if◌then◌else◌, List, [], ◌∷◌, ◌++◌, length, take, codes, slice_index, slice_index_or, slice_set, bit_or, Option, Some, None}
use Rattle.z80_regs.specs.Words.{low, high, word_of}
use Rattle.mpm_base.specs.Lists.{zeros, in_width}
use Rattle.mpm_base.specs.Calls.{Taken, Answer}
pub use Rattle.mpm_base.specs.Calls.{asking}
pub use Rattle.mpm_messages.specs.Asking.{asking_file, block_after}
use Rattle.mpm_base.specs.declared.functions.TheConstants.{PRINT_STRING, OPEN_FILE, CLOSE_FILE, READ_SEQUENTIAL, SET_GET_USER_CODE, COMPUTE_FILE_SIZE, ABSOLUTE_MEMORY_REQUEST, RELOCATABLE_MEMORY_REQUEST, MEMORY_FREE, OPEN_QUEUE, READ_QUEUE, CONDITIONAL_WRITE_QUEUE}
use Rattle.mpm_base.specs.declared.segment.SegmentSpec.{SegmentSpec}
use Rattle.mpm_procs.specs.declared.process.NewProcess.{NewProcess}
use Rattle.mpm_command.specs.Commands.{command_in, console_in, tail_in}
use Rattle.mpm_command.specs.BasePages.{base_page}
use Rattle.mpm_command.specs.declared.command.Command.{Command}
use Rattle.mpm_loader.specs.Plans.{pages_of, absolute_plan}
use Rattle.mpm_loader.specs.Pieces.{Loading, nothing, begun, with_piece, has_all, code_in, code_place, marks_in, marked_place, marked_length}
use Rattle.mpm_residents.specs.Messages.{message_of}
use Rattle.mpm_residents.specs.declared.cli.act.Act.{Act}
use Rattle.mpm_residents.specs.declared.cli.act.Act.TheVariants.{Ask, PlaceBytes, MoveCode, BeginProcess, GiveConsole}
use Rattle.mpm_residents.specs.declared.cli.table.Message.TheVariants.{NotFound, BadLoad, NoMemory, NoProcess, QueueFull}
use Rattle.mpm_residents.specs.declared.cli.table.Row.{Row}
use Rattle.mpm_residents.specs.declared.cli.table.Row.TheVariants.{ReadCommand, OpenQueue, WriteQueue, SetUser, OpenRelocatable, OpenAbsolute, ReadHeader, ComputeSize, SetUserZero, Reserve, Place, Patch, ReadOn, Free, CloseAfter, Close, Tell, Give, PlaceBasePage, Begin}

-- an interpreter: how many consoles there are, its row, the console, the command and the tail that it follows, the pointer of the queue of
-- that name, and the file control block of the program's file. It has the file as it comes in, and the segment that it reserved, which lies
-- there
pub record Interpreter : Type 0 where
  pub consoles : ℕ
  pub row : Row
  pub console : ℕ
  pub command : Command
  pub tail : List ℕ
  pub pointer : ℕ
  pub fcb : List ℕ
  pub load : Loading
  pub seg : ℕ
  pub spec : SegmentSpec

-- no command
abbrev pub no_command : Command
no_command = record { user = 0; drive = 0; names_drive = false; name = record { 0 = zeros 8 }; password = zeros 8 }

-- it begins to read commands; of a segment it has none yet, and this one is any that programs can have
unfoldable pub opening : ℕ → Interpreter
opening consoles = record {
  consoles = consoles;
  row = ReadCommand;
  console = 0;
  command = no_command;
  tail = [];
  pointer = 0;
  fcb = zeros 36;
  load = nothing;
  seg = 0;
  spec = record { base = 0; pages = 2 };
}

-- bytes to place or to move code by, and no call
abbrev pub handing : List ℕ → Taken
handing bytes = asking 0 0 bytes

-- the user queue control block of the queue of commands, which is queue 0, so that its pointer is 1
abbrev pub command_block : List ℕ
command_block = 1 ∷ 0 ∷ 0 ∷ 0 ∷ codes "CliQ    "

-- that of the queue of the command's name
abbrev pub queue_block : ℕ → Command → List ℕ
queue_block pointer command = low pointer ∷ high pointer ∷ 0 ∷ 0 ∷ command.name.0

-- the file control block with which a program is opened, read-only: F6' is set
abbrev pub read_only : List ℕ → List ℕ
read_only name = slice_set name 5 (bit_or (slice_index name 5) 128)

abbrev pub file_block : Command → List ℕ → List ℕ
file_block command kind = (command.drive + 1) ∷ (read_only command.name.0 ++ (kind ++ zeros 24))

-- the function that reserves memory: any segment, or one that lies at page 0
abbrev pub request : Bool → ℕ
request true = RELOCATABLE_MEMORY_REQUEST
request false = ABSOLUTE_MEMORY_REQUEST

-- the descriptor of the segment that is reserved
abbrev pub descriptor : SegmentSpec → ℕ → List ℕ
descriptor spec seg = spec.base ∷ spec.pages ∷ 128 ∷ seg ∷ []

abbrev pub last_page : SegmentSpec → ℕ
last_page spec = spec.base + spec.pages - 1

-- the call of each row, or the bytes that it hands over
abbrev pub call_at : Row → Interpreter → Taken
call_at ReadCommand cli = asking READ_QUEUE 0 command_block
call_at OpenQueue cli = asking OPEN_QUEUE 0 (queue_block 0 cli.command)
call_at WriteQueue cli = asking CONDITIONAL_WRITE_QUEUE 0 (queue_block cli.pointer cli.command ++ cli.tail)
call_at SetUser cli = asking SET_GET_USER_CODE cli.command.user []
call_at OpenRelocatable cli = asking_file OPEN_FILE (file_block cli.command (codes "PRL")) cli.command.password
call_at OpenAbsolute cli = asking_file OPEN_FILE (file_block cli.command (codes "COM")) cli.command.password
call_at ReadHeader cli = asking_file READ_SEQUENTIAL cli.fcb []
call_at ComputeSize cli = asking_file COMPUTE_FILE_SIZE cli.fcb []
call_at SetUserZero cli = asking SET_GET_USER_CODE 0 []
call_at (Reserve relocatable pages) cli = asking (request relocatable) 0 (0 ∷ pages ∷ 0 ∷ 0 ∷ [])
call_at Place cli = handing (code_in cli.load)
call_at Patch cli = handing (marks_in cli.load)
call_at ReadOn cli = asking_file READ_SEQUENTIAL cli.fcb []
call_at (Free message) cli = asking MEMORY_FREE 0 (descriptor cli.spec cli.seg)
call_at (CloseAfter message) cli = asking_file CLOSE_FILE cli.fcb []
call_at Close cli = asking_file CLOSE_FILE cli.fcb []
call_at (Tell message) cli = asking PRINT_STRING cli.console (message_of message)
call_at Give cli = handing []
call_at PlaceBasePage cli = handing (base_page (last_page cli.spec) cli.tail)
call_at Begin cli = handing []

unfoldable pub next_call : Interpreter → Taken
next_call cli = call_at cli.row cli

-- the address of a byte of code, which begins after the base page; addresses go on from FFFFh to 0000h
abbrev pub code_address : SegmentSpec → ℕ → ℕ
code_address spec place = (256 * spec.base + 256 + place) % 65536

-- the process of the program: it begins after the base page, with the word below the last page on its stack
unfoldable pub process_of : Interpreter → NewProcess
process_of cli = record {
  name = cli.command.name;
  priority = 200;
  console = cli.console;
  seg = Some cli.seg;
  pc = 256 * cli.spec.base + 256;
  sp = 256 * last_page cli.spec - 2;
  dma = 256 * cli.spec.base + 128;
  user = cli.command.user;
  drive = cli.command.drive;
}

-- what it does in each row
abbrev pub act_at : Row → Interpreter → Act
act_at Place cli = PlaceBytes cli.seg (code_address cli.spec (code_place cli.load)) (length (code_in cli.load))
act_at Patch cli = MoveCode cli.seg (code_address cli.spec (marked_place cli.load)) (marked_length cli.load) cli.spec.base
act_at PlaceBasePage cli = PlaceBytes cli.seg (256 * cli.spec.base) 256
act_at Begin cli = BeginProcess cli.seg (process_of cli)
act_at Give cli = GiveConsole cli.console
act_at _ cli = Ask

unfoldable pub next_act : Interpreter → Act
next_act cli = act_at cli.row cli

-- the process that begins has a console, a user and a drive that there can be, and a console that is given back is there
pub record IsNew (consoles : ℕ) (new : NewProcess) : Type 0 where
  pub console : new.console < consoles
  pub user : new.user < 16
  pub drive : new.drive < 16

abbrev pub IsAct : ℕ → Act → Type 0
IsAct consoles (BeginProcess seg new) = IsNew consoles new
IsAct consoles (GiveConsole console) = console < consoles
IsAct consoles _ = Unit {0}

-- what it does goes by the bytes that it filled in: as many are placed as there are, and there is code to move, with a mark for
-- each byte
abbrev pub CountsBytes : List ℕ → Act → Type 0
CountsBytes bytes (PlaceBytes seg address count) = count ≡ length bytes
CountsBytes bytes (MoveCode seg address count page) = (0 < count) × (count ≤ 8 * length bytes)
CountsBytes bytes _ = Unit {0}

-- by its row it fills in a call and acts: within the bounds of its acts, by the bytes that it filled in
pub record ActsBy {A : Type 0} (call_of : A → Taken) (act_of : A → Act) (IsItsAct : Act → Type 0) (resident : A) (filled : Taken) (done : Act) : Type 0 where
  pub call : filled ≡ call_of resident
  pub act : done ≡ act_of resident
  pub bounds : IsItsAct done
  pub counts : CountsBytes filled.bytes done

-- a file that isn't found
abbrev pub not_found : ℕ
not_found = 255

-- a command comes: it goes to a queue of its name, or, where it names a drive, to a program at once
abbrev pub followed : Option Command → List ℕ → Interpreter → Interpreter
followed None message cli = record cli { row = Tell BadLoad; console = console_in message }
followed (Some command) message cli = record cli {
  row = if command.names_drive then SetUser else OpenQueue;
  console = console_in message;
  command = command;
  tail = tail_in message;
}

-- the message of a command, 130 bytes; one from a console that isn't there is dropped
abbrev pub message_in : List ℕ → List ℕ
message_in bytes = in_width 130 bytes

abbrev pub commanded : List ℕ → Interpreter → Interpreter
commanded message cli = if nat_lt (console_in message) cli.consoles then followed (command_in message) message cli else cli

-- by the answer of function 15: the file is open, or it isn't there, or it was refused
abbrev pub after_open : ℕ → Row → Row → Row
after_open hl opened absent = if hl == 0 then opened else (if hl == not_found then absent else Tell BadLoad)

-- a segment is reserved, where the program fits into one
unfoldable pub row_for_memory : Bool → Loading → Row
row_for_memory relocatable load = if nat_lt 255 (pages_of load.plan) then CloseAfter NoMemory else Reserve relocatable (pages_of load.plan)

-- what becomes of a piece: its code is placed, then code is moved by what it has of the marks, then the next piece is read, if
-- one is left; what isn't there takes no step
unfoldable pub row_behind_marks : Loading → Row
row_behind_marks load = if has_all load then Close else ReadOn

unfoldable pub row_behind_code : Loading → Row
row_behind_code load = if nat_lt 0 (length (marks_in load)) then Patch else row_behind_marks load

unfoldable pub row_for_piece : Loading → Row
row_for_piece load = if nat_lt 0 (length (code_in load)) then Place else row_behind_code load

-- the first records of a page relocatable program
abbrev pub headed : Option Loading → Interpreter → Interpreter
headed None cli = record cli { row = CloseAfter BadLoad }
headed (Some load) cli = record cli { row = row_for_memory true load; load = load }

-- the records that came, sixteen at most
abbrev pub records_in : Answer → List ℕ
records_in reply = take 2048 reply.bytes

-- the number of a file's records, in bytes 33 to 35 of its control block
abbrev pub size_in : List ℕ → ℕ
size_in fcb = slice_index fcb 33 + 256 * slice_index fcb 34 + 65536 * slice_index fcb 35

-- a program for page 0, of so many records
abbrev pub absolute : ℕ → Loading
absolute records = record { plan = absolute_plan records; before = 0; piece = [] }

abbrev pub sized : ℕ → Interpreter → Interpreter
sized hl cli =
    if hl == 0 then record cli { row = row_for_memory false (absolute (size_in cli.fcb)); load = absolute (size_in cli.fcb) }
    else record cli { row = if hl == not_found then SetUserZero else CloseAfter BadLoad }

-- the segment of a descriptor that was answered
abbrev pub byte_at : Answer → ℕ → ℕ
byte_at reply place = slice_index_or reply.bytes place 0

-- whether that is one of sixteen segments, with the pages that were asked for, which ends below common memory
abbrev pub is_segment_of : ℕ → Answer → Bool
is_segment_of pages reply = nat_lt (byte_at reply 3) 16 && (nat_le pages (byte_at reply 1) && nat_le (byte_at reply 0 + byte_at reply 1) 192)

-- then its bounds hold
pub record IsSegmentOf (pages : ℕ) (reply : Answer) : Type 0 where
  pub seg : byte_at reply 3 < 16
  pub enough : pages ≤ byte_at reply 1
  pub below : byte_at reply 0 + byte_at reply 1 ≤ 192

-- a segment is reserved, or none is there; a descriptor off these bounds can't come from functions 128 and 129, and counts as none
abbrev pub reserved : ℕ → Answer → Interpreter → Interpreter
reserved pages reply cli =
    if reply.hl == 0 && is_segment_of pages reply then record cli { row = row_for_piece cli.load; seg = byte_at reply 3; spec = record { base = byte_at reply 0; pages = byte_at reply 1 } }
    else record cli { row = CloseAfter NoMemory }

-- the next records of the file, where there are some
abbrev pub read_on : List ℕ → Interpreter → Interpreter
read_on piece cli =
    if length piece == 0 then record cli { row = Free BadLoad }
    else record cli { row = row_for_piece (with_piece piece cli.load); load = with_piece piece cli.load }

-- with the file control block that was answered
abbrev pub with_block : Answer → Interpreter → Interpreter
with_block reply cli = record cli { fcb = block_after reply.fcb cli.fcb }

-- the interpreter after the answer to a row
abbrev pub took_at : Row → Interpreter → Answer → Interpreter
took_at ReadCommand cli reply = commanded (message_in reply.bytes) cli
took_at OpenQueue cli reply =
    if reply.hl == 0 then record cli { row = WriteQueue; pointer = word_of (byte_at reply 0) (byte_at reply 1) } else record cli { row = SetUser }
took_at WriteQueue cli reply = record cli { row = if reply.hl == 0 then Give else Tell QueueFull }
took_at SetUser cli reply = record cli { row = OpenRelocatable }
took_at OpenRelocatable cli reply = record (with_block reply cli) { row = after_open reply.hl ReadHeader OpenAbsolute }
took_at OpenAbsolute cli reply = record (with_block reply cli) { row = after_open reply.hl ComputeSize (Tell NotFound) }
took_at ReadHeader cli reply = headed (begun (records_in reply)) (with_block reply cli)
took_at ComputeSize cli reply = sized reply.hl (with_block reply cli)
took_at SetUserZero cli reply = record cli { row = ComputeSize }
took_at (Reserve relocatable pages) cli reply = reserved pages reply cli
took_at Place cli reply = record cli { row = row_behind_code cli.load }
took_at Patch cli reply = record cli { row = row_behind_marks cli.load }
took_at ReadOn cli reply = read_on (records_in reply) (with_block reply cli)
took_at (Free message) cli reply = record cli { row = CloseAfter message }
took_at (CloseAfter message) cli reply = record cli { row = Tell message }
took_at Close cli reply = record cli { row = PlaceBasePage }
took_at (Tell message) cli reply = record cli { row = Give }
took_at Give cli reply = record cli { row = ReadCommand }
took_at PlaceBasePage cli reply = record cli { row = Begin }
took_at Begin cli reply = record cli { row = if reply.hl == 0 then ReadCommand else Free NoProcess }

unfoldable pub took : Interpreter → Answer → Interpreter
took cli reply = took_at cli.row cli reply

-- what is so in a row. The pages that the file takes are asked for, two at least. Where it places code the piece has some, where it moves
-- code it has marks, and where it reads on something is left
abbrev pub IsInterpreterRow : Row → Loading → Type 0
IsInterpreterRow (Reserve relocatable pages) load = (2 ≤ pages) × (pages ≡ pages_of load.plan)
IsInterpreterRow Place load = 0 < length (code_in load)
IsInterpreterRow Patch load = 0 < length (marks_in load)
IsInterpreterRow ReadOn load = has_all load ≡ false
IsInterpreterRow _ load = Unit {0}

-- the base page that is placed has 256 bytes
abbrev pub IsFilled : Row → List ℕ → Type 0
IsFilled PlaceBasePage bytes = length bytes ≡ 256
IsFilled _ bytes = Unit {0}

-- a segment that programs can have: it ends below common memory
pub record IsProgramSegment (spec : SegmentSpec) : Type 0 where
  pub two : 2 ≤ spec.pages
  pub below : spec.base + spec.pages ≤ 192
