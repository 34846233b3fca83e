-- The text of the file that the spooler has open: what of it is printed in a state, and that it stays the same. (MP/M II User's Guide,
-- "SPOOL".)
use Rattle.std.specs.Prelude.{◌≡◌, ℕ, ◌^◌, ◌≤◌, true, false, List, reverse, take, Option, Some, None, unwrap_or, slice_index_or, length}
use Rattle.mpm_base.specs.Calls.{Answer}
use Rattle.mpm_mount.specs.Drives.{Drive, visible_of}
use Rattle.mpm_opens.specs.declared.kinds.FileKey.{FileKey}
use Rattle.mpm_port.specs.Texts.{Begins}
use Rattle.mpm_refusals.specs.Filing.{Filing}
use Rattle.mpm_refusals.specs.Subjects.{blank_drive, file_of}
use Rattle.mpm_residents.specs.Natives.{native_in}
use Rattle.mpm_residents.specs.declared.native.Native.TheVariants.{Spool}
use Rattle.mpm_spool.specs.Spoolers.{Spooler, after}
use Rattle.mpm_machine.specs.Files.{filing_in, drives_in}
use Rattle.mpm_spool.specs.Printed.{to_printer, printed_in, has_file, has_printer}
use Rattle.mpm_machine.specs.Printed.{bytes_to}
use Rattle.mpm_machine.specs.Printing.{HasText, key_of_spool_item, seen_in, has_closing}
use Rattle.mpm_machine.specs.State.{State}

-- the records of a file, as far as they are visible on some drives
abbrev pub seen_on : List (Option Drive) → FileKey → ℕ → Option (List ℕ)
seen_on drives key = visible_of (unwrap_or (slice_index_or drives key.drive None) blank_drive) (file_of key)

-- what a spooler has printed, as many bytes as it counts, is a first part of a text, and all of it where it comes to the end and hasn't left
-- the file unprinted; it stands last on its printer. The text is its file's, and so it is on the drives for which the images stand, also while
-- a call is in service
pub record HasPrintedOf (answers : List Answer) (s : State) (text : List ℕ) : Type 0 where
  pub has : HasText (seen_in (filing_in s.files) (key_of_spool_item (after answers).item)) text
  pub shown : HasText (seen_on (drives_in s.system.kernel.disk.served s.files) (key_of_spool_item (after answers).item)) text
  pub short : length text ≤ 2 ^ 25
  pub begins : Begins (printed_in answers) (to_printer text)
  pub count : (after answers).printed ≡ length (printed_in answers)
  pub whole : has_closing (after answers).row ≡ true → (after answers).is_unprinted ≡ false → printed_in answers ≡ to_printer text
  pub last : has_printer (after answers).row ≡ true → take (after answers).printed (bytes_to 0 s.outputs) ≡ reverse (take (after answers).printed (to_printer text))

-- the spooler of a slot has its file open
pub record HasFileOpen (q : ℕ) (s : State) : Type 0 where
  pub spooler : Spooler
  pub acts : native_in s.system.residents q ≡ Some (Spool spooler)
  pub file : has_file spooler.row ≡ true

-- before and after, it has the same file open, whose records and text on the drives are the same
pub record KeepsText (old new : Spooler) (before now : Filing) : Type 0 where
  pub item : new.item ≡ old.item
  pub records : (n : ℕ) → seen_in now (key_of_spool_item old.item) n ≡ seen_in before (key_of_spool_item old.item) n
  pub text : (text : List ℕ) → HasText (seen_in before (key_of_spool_item old.item)) text → HasText (seen_in now (key_of_spool_item new.item)) text
