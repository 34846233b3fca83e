-- A file that a process has open to read: it stays as it is, whatever other processes call. (MP/M II Programmer's Guide, "Function
-- 15: Open File".)
use Rattle.std.specs.Prelude.{◌≡◌, ℕ, ◌+◌, ◌*◌, ◌%◌, true, false, List, Some, length, unwrap_or}
use Rattle.mpm_dirent.specs.Names.{plain}
use Rattle.mpm_mount.specs.Drives.{Drive, visible_of}
use Rattle.mpm_opens.specs.declared.kinds.FileKey.{FileKey}
use Rattle.mpm_opens.specs.declared.kinds.Item.{Item}
use Rattle.mpm_opens.specs.declared.kinds.Mode.TheVariants.{ReadOnly}
use Rattle.mpm_opens.specs.Items.{place_at}
use Rattle.mpm_opens.specs.Opens.{HasNone, HasOne}
use Rattle.mpm_fcb.specs.Blocks.{block_of}
use Rattle.mpm_fcb.specs.Names.{has_f5}
use Rattle.mpm_fcb.specs.Opening.{item_of}
use Rattle.mpm_fcb.specs.Positions.{sequential_record}
use Rattle.mpm_refusals.specs.Filing.{Filing, Situation, block}
use Rattle.mpm_refusals.specs.Subjects.{mounted, blank_drive, is_there, drive_number, own_file, key_of, file_of}
use Rattle.mpm_bdos.specs.Outcomes.{file_call}

-- a drive by its number; where it isn't mounted, one that stands for nothing
abbrev pub drive_or_blank : Filing → ℕ → Drive
drive_or_blank filing drive = unwrap_or (mounted filing drive) blank_drive

-- a process has a file open in read-only mode, by the number of its open file, and the file is on its drive
pub record HasFile (q : ℕ) (key : FileKey) (number : ℕ) (filing : Filing) : Type 0 where
  pub item : Item
  pub placed : place_at filing.opens.items number ≡ Some item
  pub its_process : item.process ≡ q
  pub its_file : item.file ≡ key
  pub its_mode : item.mode ≡ ReadOnly
  pub there : is_there (drive_or_blank filing key.drive) (file_of key) ≡ true

-- what is open by that number stays, and so do the records of a file, as far as they are visible
pub record KeepsFile (key : FileKey) (number : ℕ) (old new : Filing) : Type 0 where
  pub placed : place_at new.opens.items number ≡ place_at old.opens.items number
  pub there : is_there (drive_or_blank new key.drive) (file_of key) ≡ is_there (drive_or_blank old key.drive) (file_of key)
  pub records : (n : ℕ) → visible_of (drive_or_blank new key.drive) (file_of key) n ≡ visible_of (drive_or_blank old key.drive) (file_of key) n

-- a call has opened its caller's file in that mode: its block is written back, names the open file by its number, has no F5', and stands at
-- the record of the extent that EX asks, and at CR. A caller that had nothing open has this file alone
pub record OpensToRead (s : Situation) : Type 0 where
  pub number : ℕ
  pub fcb : List ℕ
  pub answered : (file_call s).answer.fcb ≡ Some fcb
  pub size : length fcb ≡ 36
  pub has : HasFile s.caller.process (key_of (drive_number s) (own_file s)) number (file_call s).filing
  pub named : item_of (block_of fcb) ≡ Some number
  pub drive : (block_of fcb).drive ≡ (block s).drive
  pub name : plain (block_of fcb).name ≡ plain (block s).name
  pub f5 : has_f5 (block_of fcb) ≡ false
  pub one : HasNone s.caller.process s.filing.opens → HasOne s.caller.process number (file_call s).filing.opens
  pub first : sequential_record (block_of fcb) ≡ 128 * ((block s).ex % 32) + (block s).cr
