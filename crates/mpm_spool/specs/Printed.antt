-- What the spooler has read of its file since it opened it, and what it has given to the printer of that, by the answers that it took.
-- (MP/M II User's Guide, "SPOOL"; Programmer's Guide, "Function 5: List Output".)
use Rattle.std.specs.Prelude.{◌≡◌, ℕ, ◌<◌, ◌%◌, ◌^◌, Bool, true, false, ◌==◌, if◌then◌else◌, List, [], ◌∷◌, ◌++◌, length, map}
use Rattle.std.specs.List.{before_first}
use Rattle.mpm_base.specs.Calls.{Answer, Taken}
use Rattle.mpm_base.specs.declared.functions.TheConstants.{LIST_OUTPUT, CLOSE_FILE, DELETE_FILE}
use Rattle.mpm_port.specs.Texts.{Begins}
use Rattle.mpm_spool.specs.Spoolers.{Spooler, next_call, record_in, after}
use Rattle.mpm_spool.specs.SpoolLists.{no_item}
use Rattle.mpm_spool.specs.declared.list.SpoolItem.{SpoolItem}
use Rattle.mpm_spool.specs.declared.table.Row.{Row}
use Rattle.mpm_spool.specs.declared.table.Row.TheVariants.{Open, Attach, AskStop, Read, Print, Detach, Close, Delete}

-- the text of a file: its bytes before the first 1Ah
unfoldable pub text_of : List ℕ → List ℕ
text_of bytes = before_first (λ byte. byte == 26) bytes

-- as a printer gets bytes: function 5 takes each from one register
unfoldable pub to_printer : List ℕ → List ℕ
to_printer bytes = map (λ byte. byte % 256) bytes

-- the bytes of the records that it has read since it opened its file, by the row in which an answer came
abbrev pub read_by : Row → Answer → List ℕ → List ℕ
read_by Open reply bytes = []
read_by Read reply bytes = if reply.hl == 0 then bytes ++ record_in reply else bytes
read_by _ reply bytes = bytes

unfoldable pub read_in : List Answer → List ℕ
read_in [] = []
read_in (reply ∷ earlier) = read_by (after earlier).row reply (read_in earlier)

-- whether the last answer to function 20, since the file was opened, was that there is no more to read
abbrev pub ended_by : Row → Answer → Bool → Bool
ended_by Open reply ended = false
ended_by Read reply ended = reply.hl == 1
ended_by _ reply ended = ended

unfoldable pub ended_in : List Answer → Bool
ended_in [] = false
ended_in (reply ∷ earlier) = ended_by (after earlier).row reply (ended_in earlier)

-- and those with which it has called function 5 since
abbrev pub printed_by : Row → Taken → List ℕ → List ℕ
printed_by Open call bytes = []
printed_by _ call bytes = if call.function == LIST_OUTPUT then bytes ++ call.word % 256 ∷ [] else bytes

unfoldable pub printed_in : List Answer → List ℕ
printed_in [] = []
printed_in (reply ∷ earlier) = printed_by (after earlier).row (next_call (after earlier)) (printed_in earlier)

-- the item whose file it opened last
abbrev pub item_by : Row → SpoolItem → SpoolItem → SpoolItem
item_by Open item earlier = item
item_by _ item earlier = earlier

unfoldable pub item_in : List Answer → SpoolItem
item_in [] = no_item
item_in (reply ∷ earlier) = item_by (after earlier).row (after earlier).item (item_in earlier)

-- the rows in which it has its file open, in which the printer is its own, and in which it has come to the end of the file
abbrev pub has_file : Row → Bool
has_file Attach = true
has_file AskStop = true
has_file Read = true
has_file Print = true
has_file Detach = true
has_file Close = true
has_file _ = false

abbrev pub has_printer : Row → Bool
has_printer AskStop = true
has_printer Read = true
has_printer Print = true
has_printer Detach = true
has_printer _ = false

abbrev pub has_ended : Row → Bool
has_ended Detach = true
has_ended Close = true
has_ended Delete = true
has_ended _ = false

-- what it has printed is a first part of the text of what it has read, as many bytes as it counts, and all of that text where it has come
-- to the end and hasn't left the file unprinted. It asks for a deletion only then, and for a byte's printing only in a row of `has_printer`:
-- its table comes to these rows by the answer 0 to function 158, and leaves them by function 159
pub record PrintsText (s : Spooler) (read printed : List ℕ) : Type 0 where
  pub begins : has_file s.row ≡ true → Begins printed (to_printer (text_of read))
  pub count : has_file s.row ≡ true → length printed < 2 ^ 64 → s.printed ≡ length printed
  pub whole : has_ended s.row ≡ true → s.is_unprinted ≡ false → printed ≡ to_printer (text_of read)
  pub deletes : (next_call s).function ≡ DELETE_FILE → (s.is_unprinted ≡ false) × (printed ≡ to_printer (text_of read))
  pub prints : (next_call s).function ≡ LIST_OUTPUT → has_printer s.row ≡ true

-- an answer is taken: after any that came before, what the spooler has printed is still such a part of what it has read. Where it then asks
-- for a deletion, that was the answer to its closing the file
pub record GoesOnPrinting (old new : Spooler) (reply : Answer) : Type 0 where
  pub prints : (earlier : List Answer) → old ≡ after earlier → PrintsText new (read_in (reply ∷ earlier)) (printed_in (reply ∷ earlier))
  pub deletes : (next_call new).function ≡ DELETE_FILE → (next_call old).function ≡ CLOSE_FILE
