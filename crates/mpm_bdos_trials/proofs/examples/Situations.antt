-- The situations of the worked examples: a floppy disk in drive A, files, what is open, and who calls.
use Rattle.std.specs.Prelude.{◌≡◌, ℕ, ◌+◌, ◌/◌, ◌%◌, List, [], ◌∷◌, ◌++◌, Option, Some, None, Bool, true, false, map, option_map, replicate}
use Rattle.std.specs.List.{range_with_len}
use Rattle.std.specs.FinMap.{FinMap, entries}
use Rattle.mpm_base.specs.Calls.{answering}
use Rattle.mpm_base.specs.declared.kind.Kind.TheVariants.{Ibm3740}
use Rattle.mpm_mount.specs.Drives.{FileName, entry_cmp, file_cmp, PhysicalExtent, Protection, DirectoryLabel, Drive, with_extent, without_extent}
use Rattle.mpm_opens.specs.declared.kinds.Mode.{Mode}
use Rattle.mpm_opens.specs.declared.kinds.Mode.TheVariants.{Locked, Unlocked}
use Rattle.mpm_opens.specs.declared.kinds.Item.{Item}
use Rattle.mpm_opens.specs.declared.kinds.FileKey.{FileKey}
use Rattle.mpm_opens.specs.declared.kinds.RecordLock.{RecordLock}
use Rattle.mpm_opens.specs.Opens.{OpenFiles}
use Rattle.mpm_fcb.specs.declared.block.ControlBlock.{ControlBlock}
use Rattle.mpm_fcb.specs.Blocks.{bytes_of}
use Rattle.mpm_file_functions.specs.declared.functions.FileFunction.{FileFunction}
use Rattle.mpm_refusals.specs.Filing.{Filing, Situation}
use Rattle.mpm_directories.specs.Direct.{Stays}
use Rattle.mpm_bdos.specs.Outcomes.{FileOutcome}

-- the directory entries of files, and the XFCBs, of a drive
abbrev pub Extents : Type 0
Extents = FinMap entry_cmp PhysicalExtent

abbrev pub Xfcbs : Type 0
Xfcbs = FinMap file_cmp Protection

-- the names `A` and `B`, and all names, as a pattern
abbrev pub name_a : List ℕ
name_a = 65 ∷ replicate 10 32

abbrev pub name_b : List ℕ
name_b = 66 ∷ replicate 10 32

abbrev pub any_name : List ℕ
any_name = replicate 11 63

-- A with F5', and with F6'
abbrev pub name_with_f5 : List ℕ
name_with_f5 = 65 ∷ 32 ∷ 32 ∷ 32 ∷ 160 ∷ replicate 6 32

abbrev pub name_with_f6 : List ℕ
name_with_f6 = 65 ∷ 32 ∷ 32 ∷ 32 ∷ 32 ∷ 160 ∷ replicate 5 32

-- a file of user 0, and that file on drive A
abbrev pub file_of : List ℕ → FileName
file_of name = record { user = 0; name = name }

abbrev pub key_of : List ℕ → FileKey
key_of name = record { drive = 0; user = 0; name = name }

-- a file control block with a name and zeros; and that of an open file, with the handle of the first item
abbrev pub block_of_name : List ℕ → ControlBlock
block_of_name name = record {
  drive = 0;
  name = name;
  ex = 0;
  s1 = 0;
  s2 = 0;
  rc = 0;
  map = replicate 16 0;
  cr = 0;
  random = replicate 3 0;
}

abbrev pub block_a : ControlBlock
block_a = block_of_name name_a

abbrev pub with_handle : ℕ → ControlBlock → ControlBlock
with_handle number b = record b { map = number ∷ replicate 15 0 }

abbrev pub open_a : ControlBlock
open_a = with_handle 1 block_a

-- that of a renaming: the new name follows byte 16
abbrev pub renaming : List ℕ → List ℕ → ControlBlock
renaming old new = record (block_of_name old) { map = 0 ∷ (new ++ replicate 4 0) }

-- with a random record
abbrev pub at_random : ℕ → ControlBlock → ControlBlock
at_random low b = record b { random = low ∷ 0 ∷ 0 ∷ [] }

-- a record of zeros, and one of other bytes
abbrev pub zeros_128 : List ℕ
zeros_128 = replicate 128 0

abbrev pub ones_128 : List ℕ
ones_128 = replicate 128 1

-- an extent without attributes, of so many records, with blocks of eight records
abbrev pub none_set : List Bool
none_set = replicate 11 false

abbrev pub extent_of : ℕ → ℕ → List (Option (List (List ℕ))) → PhysicalExtent
extent_of last count blocks = record { attributes = none_set; last = last; count = count; blocks = blocks }

abbrev pub empty_block : Option (List (List ℕ))
empty_block = Some (replicate 8 zeros_128)

abbrev pub no_records : PhysicalExtent
no_records = extent_of 0 0 (replicate 16 None)

abbrev pub records_of_10 : PhysicalExtent
records_of_10 = extent_of 0 10 (empty_block ∷ (empty_block ∷ replicate 14 None))

-- it is read-only: T1' is set
abbrev pub read_only_records : PhysicalExtent
read_only_records = record records_of_10 { attributes = replicate 8 false ++ (true ∷ false ∷ false ∷ []) }

-- record 0 is written, in a block of its own
abbrev pub with_record_0 : PhysicalExtent
with_record_0 = extent_of 0 1 (Some (ones_128 ∷ replicate 7 zeros_128) ∷ replicate 15 None)

-- it is a system file: T2' is set
abbrev pub system_file : PhysicalExtent
system_file = record records_of_10 { attributes = replicate 9 false ++ (true ∷ false ∷ []) }

-- the password SECRET, and an XFCB with it, of mode 80h; and a label of a data byte, without a password
abbrev pub secret : List ℕ
secret = 83 ∷ 69 ∷ 67 ∷ 82 ∷ 69 ∷ 84 ∷ 32 ∷ 32 ∷ []

abbrev pub guarded : Protection
guarded = record {
  mode = 0x80;
  decode = 6;
  password = 0x26 ∷ 0x26 ∷ 0x52 ∷ 0x43 ∷ 0x54 ∷ 0x45 ∷ 0x43 ∷ 0x55 ∷ [];
  first = replicate 4 0;
  second = replicate 4 0;
}

abbrev pub protected_by : ℕ → Protection
protected_by mode = record { mode = mode; decode = 0; password = replicate 8 0; first = replicate 4 0; second = replicate 4 0 }

abbrev pub label_with : ℕ → DirectoryLabel
label_with mode = record { name = name_a; protection = protected_by mode }

-- the directory has one file, with one entry, or two such files
abbrev pub HasFile : Extents → List ℕ → PhysicalExtent → Type 0
HasFile m name extent = entries m ≡ (record { user = 0; name = name; number = 0 }, extent) ∷ []

abbrev pub HasTwo : Extents → List ℕ → PhysicalExtent → List ℕ → PhysicalExtent → Type 0
HasTwo m name extent other its_extent =
    entries m ≡ (record { user = 0; name = name; number = 0 }, extent) ∷ ((record { user = 0; name = other; number = 0 }, its_extent) ∷ [])

-- a floppy disk in drive A, which alone is mounted
abbrev pub floppy : Extents → Xfcbs → Option DirectoryLabel → Drive
floppy extents xfcbs label = record { kind = Ibm3740; extents = extents; xfcbs = xfcbs; label = label; kept = 0 }

-- its directory has room for 64 entries, so many of which are of some other sort
abbrev pub with_kept : ℕ → Drive → Drive
with_kept kept drive = record drive { kept = kept }

-- with a file of one entry in place of what has its name, or without it
abbrev pub with_file : Drive → List ℕ → PhysicalExtent → Drive
with_file drive name extent = with_extent drive (record { user = 0; name = name; number = 0 }) extent

abbrev pub without_file : Drive → List ℕ → Drive
without_file drive name = without_extent drive (record { user = 0; name = name; number = 0 })

abbrev pub drive_a : Drive → List (Option Drive)
drive_a drive = Some drive ∷ replicate 15 None

abbrev pub filing_of : Drive → OpenFiles → Filing
filing_of drive opens = record {
  drives = drive_a drive;
  protected = replicate 16 false;
  opens = opens;
  marks = replicate 32 0;
  searches = replicate 32 None;
}

-- protected from writing
abbrev pub a_protected : List Bool
a_protected = true ∷ replicate 15 false

abbrev pub with_protected : List Bool → Filing → Filing
with_protected protected filing = record filing { protected = protected }

-- what is open: nothing; one file or two, and no locks; and some locks
abbrev pub nothing_open : OpenFiles
nothing_open = record { items = replicate 64 None; locks = [] }

abbrev pub item_of : ℕ → List ℕ → Mode → ℕ → Option Item
item_of process name mode count = Some (record { process = process; file = key_of name; mode = mode; count = count; has_written = false })

-- one by way of which a record was written
abbrev pub wrote_of : ℕ → List ℕ → Mode → ℕ → Option Item
wrote_of process name mode count = Some (record { process = process; file = key_of name; mode = mode; count = count; has_written = true })

abbrev pub one_open : Option Item → OpenFiles
one_open item = record { items = item ∷ replicate 63 None; locks = [] }

abbrev pub two_open : Option Item → Option Item → OpenFiles
two_open one other = record { items = one ∷ (other ∷ replicate 62 None); locks = [] }

-- A is open by process 1 in locked mode, or by both processes 1 and 2 in unlocked mode, as the first and the second item
abbrev pub open_by_1 : OpenFiles
open_by_1 = one_open (item_of 1 name_a Locked 1)

abbrev pub open_by_both : OpenFiles
open_by_both = two_open (item_of 1 name_a Unlocked 1) (item_of 2 name_a Unlocked 1)

-- so many files are open, sixteen by each process from one on, and so many places are free
abbrev pub nth_open : ℕ → ℕ → Option Item
nth_open first n = item_of (first + n / 16) ((97 + n % 16) ∷ replicate 10 32) Locked 1

abbrev pub many_open : ℕ → ℕ → ℕ → OpenFiles
many_open first count free = record { items = map (nth_open first) (range_with_len 0 count) ++ replicate free None; locks = [] }

abbrev pub lock_of : ℕ → List ℕ → ℕ → RecordLock
lock_of owner name number = record { owner = owner; file = key_of name; number = number }

abbrev pub with_locks : List RecordLock → OpenFiles → OpenFiles
with_locks locks opens = record opens { locks = locks }

-- who calls: a process of user 0 on drive A, with a multi-sector count, without a default password
abbrev pub call_by : ℕ → ℕ → Filing → FileFunction → ControlBlock → List ℕ → Situation
call_by process multi filing function b bytes = record {
  filing = filing;
  caller = record { process = process; user = 0; drive = 0; multi = multi; password = replicate 8 0 };
  function = function;
  call = record { function = 0; word = 0; dma = 0x80; fcb = bytes_of b; bytes = bytes };
  moment = 0x10 ∷ 0x20 ∷ 0x12 ∷ 0x34 ∷ [];
}

-- process 1, for one record
abbrev pub call : Filing → FileFunction → ControlBlock → List ℕ → Situation
call filing function b bytes = call_by 1 1 filing function b bytes

-- for several records
abbrev pub call_for : ℕ → Filing → FileFunction → ControlBlock → List ℕ → Situation
call_for multi filing function b bytes = call_by 1 multi filing function b bytes

-- with a word in DE that is a drive or a mask of drives
abbrev pub call_on : Filing → FileFunction → ℕ → Situation
call_on filing function word = record (call filing function block_a []) {
  call = record { function = 0; word = word; dma = 0x80; fcb = bytes_of block_a; bytes = [] };
}

-- with a default password
abbrev pub knowing : List ℕ → Situation → Situation
knowing password s = record s { caller = record { process = 1; user = 0; drive = 0; multi = 1; password = password } }

-- a call that is refused changes nothing: its value, and perhaps an extended error on a drive
abbrev pub fails : Situation → ℕ → FileOutcome
fails s value = record { filing = s.filing; caller = Stays; answer = answering value; extended = None }

abbrev pub fails_on : Situation → ℕ → ℕ → ℕ → FileOutcome
fails_on s drive code value =
    record { filing = s.filing; caller = Stays; answer = answering value; extended = Some (record { code = code; drive = drive }) }

-- one that isn't: its value, what it leaves, its control block where that has changed, and bytes at the DMA address
abbrev pub tells : ℕ → Filing → Option ControlBlock → List ℕ → FileOutcome
tells value filing b bytes = record {
  filing = filing;
  caller = Stays;
  answer = record { hl = value; fcb = option_map bytes_of b; at = 0x80; bytes = bytes };
  extended = None;
}

abbrev pub done : Filing → FileOutcome
done filing = tells 0 filing None []

-- none of its records is done
abbrev pub ends : Situation → ℕ → FileOutcome
ends s value = tells value s.filing None []
