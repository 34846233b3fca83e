-- The file that the spooler prints: the records that it has read are those of the file that it has open, from the first on, so that its printer
-- has a first part of the file's text. (MP/M II User's Guide, "SPOOL"; Programmer's Guide, "Function 15: Open File", "Function 20: Read
-- Sequential".)
use Rattle.std.specs.Prelude.{◌≡◌, ℕ, zero, suc, ◌-◌, ◌<◌, ◌^◌, ◌==◌, ◌⊎◌, if◌then◌else◌, Bool, true, false, List, [], ◌++◌, reverse, Option, Some, None, is_some, unwrap_or, length, ⊤}
use Rattle.mpm_base.specs.Calls.{Answer}
use Rattle.mpm_base.specs.declared.functions.TheConstants.{DELETE_FILE}
use Rattle.mpm_base.specs.Lists.{in_width}
use Rattle.mpm_bdos.specs.OpenToRead.{drive_or_blank, HasFile}
use Rattle.mpm_dirent.specs.Names.{plain}
use Rattle.mpm_fcb.specs.Blocks.{block_of}
use Rattle.mpm_fcb.specs.Names.{drive_of, has_f5}
use Rattle.mpm_fcb.specs.Opening.{item_of}
use Rattle.mpm_fcb.specs.Positions.{sequential_record}
use Rattle.mpm_file_functions.specs.Functions.{function_of}
use Rattle.mpm_mount.specs.Drives.{visible_of}
use Rattle.mpm_opens.specs.Opens.{AreOpen, HasNone, HasOne}
use Rattle.mpm_opens.specs.declared.kinds.FileKey.{FileKey}
use Rattle.mpm_port.specs.Texts.{Begins}
use Rattle.mpm_refusals.specs.Filing.{Filing, Situation}
use Rattle.mpm_refusals.specs.Subjects.{file_of}
use Rattle.mpm_residents.specs.Natives.{native_in}
use Rattle.mpm_residents.specs.declared.native.Native.{Native}
use Rattle.mpm_residents.specs.declared.native.Native.TheVariants.{Spool}
use Rattle.mpm_service.specs.Disk.{DiskService}
use Rattle.mpm_service.specs.Places.{at_disk}
use Rattle.mpm_service.specs.declared.service.Served.{Served}
use Rattle.mpm_spool.specs.Spoolers.{Spooler, next_call, after}
use Rattle.mpm_spool.specs.declared.list.SpoolItem.{SpoolItem}
use Rattle.mpm_spool.specs.declared.table.Row.{Row}
use Rattle.mpm_spool.specs.declared.table.Row.TheVariants.{Detach, Close, Delete}
use Rattle.mpm_system.specs.declared.system.System.{System}
use Rattle.mpm_machine.specs.Files.{FilesInService, Between, Within, filing_in}
use Rattle.mpm_machine.specs.Holding.{AreFiled}
use Rattle.mpm_spool.specs.Printed.{text_of, to_printer, read_in, ended_in, printed_in, item_in, has_file, PrintsText}
use Rattle.mpm_machine.specs.Printed.{bytes_to}
use Rattle.mpm_machine.specs.Spooling.{Includes, IsSpooling}
use Rattle.mpm_machine.specs.State.{State}

-- the bytes of the first records of a file, of 128 bytes each
unfoldable pub first_bytes : (ℕ → Option (List ℕ)) → ℕ → List ℕ
first_bytes seen zero = []
first_bytes seen (suc n) = first_bytes seen n ++ in_width 128 (unwrap_or (seen n) [])

-- the text of a file is that of its records up to the first that isn't visible
pub record HasText (seen : ℕ → Option (List ℕ)) (text : List ℕ) : Type 0 where
  pub count : ℕ
  pub visible : (n : ℕ) → n < count → is_some (seen n) ≡ true
  pub last : seen count ≡ None
  pub text_is : text ≡ text_of (first_bytes seen count)

-- the file that an item of a list names: a file of user 0, on drive A where the item names none
abbrev pub key_of_spool_item : SpoolItem → FileKey
key_of_spool_item item = record { drive = if item.drive == 0 then 0 else item.drive - 1; user = 0; name = plain item.name }

-- the file that a call's control block names
abbrev pub NamesFile : List ℕ → FileKey → Type 0
NamesFile fcb key = (drive_of 0 (block_of fcb) ≡ key.drive) × (plain (block_of fcb).name ≡ key.name)

-- its records, as far as they are visible on its drive
abbrev pub seen_in : Filing → FileKey → ℕ → Option (List ℕ)
seen_in filing key = visible_of (drive_or_blank filing key.drive) (file_of key)

-- the spooler has its file open, once, which nobody can change, and nothing else; its control block names it, without F5', and stands at a
-- record; what it has read are the records before that, and where no more came, that record isn't visible
pub record ReadsFile (q : ℕ) (s : Spooler) (read : List ℕ) (ended : Bool) (filing : Filing) : Type 0 where
  pub number : ℕ
  pub has : HasFile q (key_of_spool_item s.item) number filing
  pub one : HasOne q number filing.opens
  pub f5 : has_f5 (block_of s.fcb) ≡ false
  pub size : length s.fcb ≡ 36
  pub named : item_of (block_of s.fcb) ≡ Some number
  pub drive : drive_of 0 (block_of s.fcb) ≡ (key_of_spool_item s.item).drive
  pub name : plain (block_of s.fcb).name ≡ (key_of_spool_item s.item).name
  pub visible : (n : ℕ) → n < sequential_record (block_of s.fcb) → is_some (seen_in filing (key_of_spool_item s.item) n) ≡ true
  pub read_is : read ≡ first_bytes (seen_in filing (key_of_spool_item s.item)) (sequential_record (block_of s.fcb))
  pub none : ended ≡ true → seen_in filing (key_of_spool_item s.item) (sequential_record (block_of s.fcb)) ≡ None

-- files are within a call where the disk serves one, and that is its process's
abbrev pub ServedBy : Option Served → FilesInService → Type 0
ServedBy None (Between filing) = ⊤
ServedBy None (Within s) = ⊥
ServedBy (Some call) (Between filing) = ⊥
ServedBy (Some call) (Within s) = call.p ≡ s.caller.process

-- a call is at the disk only where turns have steps
abbrev pub HasTurns : DiskService → Type 0
HasTurns disk = (p : ℕ) → 0 < at_disk disk p → 0 < disk.turn_steps

-- where the call in service is the spooler's, it is the call of its row, of drive A, of user 0 and of one record
pub record IsItsCall (answers : List Answer) (s : Situation) : Type 0 where
  pub function : function_of (next_call (after answers)).function ≡ Some s.function
  pub block : s.call.fcb ≡ (next_call (after answers)).fcb
  pub drive : s.caller.drive ≡ 0
  pub user : s.caller.user ≡ 0
  pub multi : s.caller.multi ≡ 1

abbrev pub IfItsCall : ℕ → List Answer → FilesInService → Type 0
IfItsCall q answers (Between filing) = ⊤
IfItsCall q answers (Within s) = s.caller.process ≡ q → IsItsCall answers s

-- so it has its file in the rows in which that is open, and has nothing open in the others, where items and locks are sound
pub record ReadsOpenFile (q : ℕ) (answers : List Answer) (files : FilesInService) : Type 0 where
  pub opens : AreOpen (filing_in files).opens
  pub its_call : IfItsCall q answers files
  pub file : has_file (after answers).row ≡ true → ReadsFile q (after answers) (read_in answers) (ended_in answers) (filing_in files)
  pub without : has_file (after answers).row ≡ false → HasNone q (filing_in files).opens

-- the rows in which it goes on with a file that it has come to the end of
abbrev pub has_closing : Row → Bool
has_closing Detach = true
has_closing Close = true
has_closing _ = false

-- so what it has printed, as many bytes as it counts, is a first part of the file's text on the state's drive, and all of it where it comes
-- to the end and hasn't left the file unprinted. Only then it asks for a deletion, and that is of the file which it opened
pub record PrintsFile (answers : List Answer) (filing : Filing) : Type 0 where
  pub read : PrintsText (after answers) (read_in answers) (printed_in answers)
  pub item : has_file (after answers).row ≡ true → (after answers).item ≡ item_in answers
  pub begins : has_file (after answers).row ≡ true → (text : List ℕ) → HasText (seen_in filing (key_of_spool_item (after answers).item)) text → Begins (printed_in answers) (to_printer text)
  pub count : has_file (after answers).row ≡ true → (text : List ℕ) → HasText (seen_in filing (key_of_spool_item (after answers).item)) text → length text < 2 ^ 64
      → (after answers).printed ≡ length (printed_in answers)
  pub whole : has_closing (after answers).row ≡ true → (after answers).is_unprinted ≡ false
      → (text : List ℕ) → HasText (seen_in filing (key_of_spool_item (after answers).item)) text → printed_in answers ≡ to_printer text
  pub deletes : (next_call (after answers)).function ≡ DELETE_FILE → NamesFile (next_call (after answers)).fcb (key_of_spool_item (item_in answers))

-- a spooler acts in a slot of a state, and prints its file
pub record IsPrinting (q : ℕ) (s : State) : Type 0 where
  pub spooling : IsSpooling q s.system s.outputs
  pub filed : AreFiled s.system.kernel
  pub turns : HasTurns s.system.kernel.disk
  pub served : ServedBy s.system.kernel.disk.served s.files
  pub reads : ReadsOpenFile q spooling.answers s.files
  pub prints : PrintsFile spooling.answers (filing_in s.files)

-- a spooler asks for a deletion, which it hadn't asked for before this step. In the step it closed its file, the one that the deletion names.
-- What it had printed of that file is all of the text that the file has on the state's drive, and that came to printer 0 in one piece. Nothing
-- else of the spooler has changed
pub record ClosedPrinted (q : ℕ) (s : State) (p : IsPrinting q s) (asks : Spooler) : Type 0 where
  pub before : Spooler
  pub acts : native_in s.system.residents q ≡ Some (Spool before)
  pub closes : before.row ≡ Close
  pub printed : before.is_unprinted ≡ false
  pub whole : (text : List ℕ) → HasText (seen_in (filing_in s.files) (key_of_spool_item before.item)) text → printed_in p.spooling.answers ≡ to_printer text
  pub came : Includes (reverse (printed_in p.spooling.answers)) (bytes_to 0 s.outputs)
  pub names : NamesFile (next_call asks).fcb (key_of_spool_item before.item)
  pub same : asks ≡ record before { row = Delete }

-- a spooler that asks for a deletion after a step asked for it before the step, or closed its file in the step, wholly printed
abbrev pub DeletesPrinted : (q : ℕ) (s : State) → IsPrinting q s → List Native → Type 0
DeletesPrinted q s p new =
    (asks : Spooler) → native_in new q ≡ Some (Spool asks) → (next_call asks).function ≡ DELETE_FILE → (native_in s.system.residents q ≡ Some (Spool asks)) ⊎ ClosedPrinted q s p asks

-- a state in which nothing has come out yet, between two calls
abbrev pub at_beginning : Filing → System → State
at_beginning filing system = record { system = system; outputs = []; files = Between filing }
