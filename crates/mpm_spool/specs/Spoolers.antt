-- The spooler: the call that it makes in each row of its table, and where it goes by the answer. (MP/M II User's Guide, "SPOOL",
-- "STOPSPLR"; Programmer's Guide, "Function 137: Read Queue", "Function 15: Open File", "Function 158: Attach List", "Function 138:
-- Conditional Read Queue", "Function 20: Read Sequential", "Function 5: List Output", "Function 159: Detach List", "Function 16: Close
-- File", "Function 19: Delete File".)
use Rattle.std.specs.Prelude.{◌<◌, ℕ, ◌+◌, ◌-◌, ◌^◌, Bool, true, false, not, ◌==◌, ◌&&◌, min, nat_lt, if◌then◌else◌, List, [], ◌∷◌, ◌++◌, codes, bit_or, drop, slice_index, slice_set, slice_get, Option, Some, None}
use Rattle.mpm_base.specs.Lists.{zeros, in_width}
use Rattle.mpm_base.specs.Calls.{Taken, Answer, asking}
use Rattle.mpm_base.specs.declared.functions.TheConstants.{READ_QUEUE, OPEN_FILE, ATTACH_LIST, CONDITIONAL_READ_QUEUE, READ_SEQUENTIAL, LIST_OUTPUT, DETACH_LIST, CLOSE_FILE, DELETE_FILE}
pub use Rattle.mpm_messages.specs.Asking.{asking_file, block_after}
use Rattle.mpm_spool.specs.SpoolLists.{list_of, no_item}
use Rattle.mpm_spool.specs.declared.list.SpoolItem.{SpoolItem}
use Rattle.mpm_spool.specs.declared.table.Row.{Row}
use Rattle.mpm_spool.specs.declared.table.Row.TheVariants.{ReadList, Open, Attach, AskStop, Read, Print, Detach, Close, Delete}

-- a spooler: its row, the items of its list that are yet to be opened, the one that it prints, and the file's control block. It has the
-- record that it read last and the place in it of the next byte, how many bytes it has printed, and whether the file isn't printed to its
-- end
pub record Spooler : Type 0 where
  pub row : Row
  pub left : List SpoolItem
  pub item : SpoolItem
  pub fcb : List ℕ
  pub bytes : List ℕ
  pub place : ℕ
  pub printed : ℕ
  pub is_unprinted : Bool

unfoldable pub opening : Spooler
opening = record { row = ReadList; left = []; item = no_item; fcb = zeros 36; bytes = zeros 128; place = 0; printed = 0; is_unprinted = false }

-- the user queue control blocks of its queues, which are queues 1 and 2, so that their pointers are 2 and 3
abbrev pub spool_block : List ℕ
spool_block = 2 ∷ 0 ∷ 0 ∷ 0 ∷ codes "SPOOL   "

abbrev pub stop_block : List ℕ
stop_block = 3 ∷ 0 ∷ 0 ∷ 0 ∷ codes "STOPSPLR"

-- the file control block of a file, and the one with which it is opened, read-only: F6' is set
abbrev pub file_block : SpoolItem → List ℕ
file_block item = item.drive ∷ (item.name ++ zeros 24)

abbrev pub read_only : List ℕ → List ℕ
read_only block = slice_set block 6 (bit_or (slice_index block 6) 128)

abbrev pub read_only_block : SpoolItem → List ℕ
read_only_block item = read_only (file_block item)

-- the call of each row
abbrev pub call_at : Row → Spooler → Taken
call_at ReadList s = asking READ_QUEUE 0 spool_block
call_at Open s = asking_file OPEN_FILE (read_only_block s.item) s.item.password
call_at Attach s = asking ATTACH_LIST 0 []
call_at AskStop s = asking CONDITIONAL_READ_QUEUE 0 stop_block
call_at Read s = asking_file READ_SEQUENTIAL s.fcb []
call_at Print s = asking LIST_OUTPUT (slice_index s.bytes s.place) []
call_at Detach s = asking DETACH_LIST 0 []
call_at Close s = asking_file CLOSE_FILE s.fcb []
call_at Delete s = asking_file DELETE_FILE (file_block s.item) s.item.password

unfoldable pub next_call : Spooler → Taken
next_call s = call_at s.row s

-- the next file of the list, of which nothing is printed yet, or else the next list
abbrev pub begun_with : Option SpoolItem → Spooler → Spooler
begun_with None s = record s { row = ReadList }
begun_with (Some item) s = record s { row = Open; item = item; printed = 0; is_unprinted = false }

unfoldable pub begun_next : Spooler → Spooler
begun_next s = begun_with (slice_get s.left 0) (record s { left = drop 1 s.left })

-- a list of files, or none
abbrev pub with_list : Option (List SpoolItem) → Spooler → Spooler
with_list None s = s
with_list (Some items) s = begun_next (record s { left = items })

-- with the file control block that was answered
abbrev pub with_block : Answer → Spooler → Spooler
with_block reply s = record s { fcb = block_after reply.fcb s.fcb }

-- the record that was read, 128 bytes; after its last byte it looks whether it is to stop, and 1Ah ends the text
abbrev pub record_in : Answer → List ℕ
record_in reply = in_width 128 reply.bytes

abbrev pub row_at : List ℕ → ℕ → Row
row_at bytes place = if nat_lt place 128 then (if slice_index bytes place == 26 then Detach else Print) else AskStop

-- a record came, or there is none: answer 1; any other answer leaves the file unprinted
abbrev pub with_record : Answer → Spooler → Spooler
with_record reply s =
    if reply.hl == 0 then record s { row = row_at (record_in reply) 0; bytes = record_in reply; place = 0 }
    else (if reply.hl == 1 then record s { row = Detach } else record s { row = Detach; is_unprinted = true })

-- one byte more; the count stays at its last value
abbrev pub counted : ℕ → ℕ
counted printed = min (printed + 1) (2 ^ 64 - 1)

-- the spooler after the answer to a row
abbrev pub took_at : Row → Spooler → Answer → Spooler
took_at ReadList s reply = with_list (list_of (in_width 128 reply.bytes)) s
took_at Open s reply = if reply.hl == 0 then record (with_block reply s) { row = Attach } else begun_next s
took_at Attach s reply = if reply.hl == 0 then record s { row = AskStop } else record s { row = Close; is_unprinted = true }
took_at AskStop s reply = if reply.hl == 0 then record s { row = Detach; left = []; is_unprinted = true } else record s { row = Read }
took_at Read s reply = with_record reply (with_block reply s)
took_at Print s reply = record s { row = row_at s.bytes (s.place + 1); place = s.place + 1; printed = counted s.printed }
took_at Detach s reply = record s { row = Close }
took_at Close s reply = if s.item.delete && not s.is_unprinted then record s { row = Delete } else begun_next s
took_at Delete s reply = begun_next s

unfoldable pub took : Spooler → Answer → Spooler
took s reply = took_at s.row s reply

-- where it prints a byte, the record has one
abbrev pub IsSpoolerRow : Row → ℕ → Type 0
IsSpoolerRow Print place = place < 128
IsSpoolerRow _ place = Unit {0}

-- after some answers, the last one first
unfoldable pub after : List Answer → Spooler
after [] = opening
after (reply ∷ earlier) = took (after earlier) reply

-- the functions that it called for them, and the one that it calls next, the last one first
unfoldable pub called : List Answer → List ℕ
called [] = (next_call opening).function ∷ []
called (reply ∷ earlier) = (next_call (after (reply ∷ earlier))).function ∷ called earlier
