-- What a file call names: its drive, its file, its open file, its records, its password, the files of a pattern, the drives of a
-- mask. (MP/M II Programmer's Guide, "File Control Block Definition", and the functions.)
use Rattle.std.specs.Prelude.{ℕ, ◌%◌, ◌==◌, ◌&&◌, ◌||◌, not, Bool, true, false, List, [], Option, Some, None, is_some, option_map, option_and_then, unwrap_or, map, filter, find, slice_index_or, if◌then◌else◌}
use Rattle.std.specs.Ordering.{is_lt}
use Rattle.std.specs.FinMap.{get, empty}
use Rattle.mpm_base.specs.declared.kind.Kind.{Kind}
use Rattle.mpm_base.specs.declared.kind.Kind.TheVariants.{Ibm3740}
use Rattle.mpm_base.specs.Calls.{word_at, eight_at}
use Rattle.mpm_dirent.specs.declared.kinds.XfcbEntry.{XfcbEntry}
use Rattle.mpm_dirent.specs.Names.{plain}
use Rattle.mpm_opens.specs.declared.kinds.FileKey.{FileKey}
use Rattle.mpm_opens.specs.declared.kinds.Mode.{Mode}
use Rattle.mpm_opens.specs.declared.kinds.Mode.TheVariants.{ReadOnly}
use Rattle.mpm_opens.specs.Items.{file_named}
use Rattle.mpm_opens.specs.Opens.{item_of}
use Rattle.mpm_file_functions.specs.declared.functions.FileFunction.{FileFunction}
use Rattle.mpm_file_functions.specs.declared.functions.FileFunction.TheVariants.{ResetDisks, OpenFile, CloseFile, SearchFirst, SearchNext, ReadSequential, WriteSequential, MakeFile, ProtectDisk, ReadRandom, WriteRandom, ResetDrives, AccessDrives, FreeDrives, TestAndWrite, LockRecord, UnlockRecord, FreeSpace, FlushBuffers, LabelData}
use Rattle.mpm_mount.specs.Drives.{FileName, Protection, Drive, entry_cmp, entry_number}
use Rattle.mpm_mount.specs.Looking.{data_byte, file_attributes}
use Rattle.mpm_mount.specs.Files.{entries_named, is_fitting}
use Rattle.mpm_guard.specs.Passwords.{is_admitted}
use Rattle.mpm_fcb.specs.declared.block.ControlBlock.{ControlBlock}
use Rattle.mpm_fcb.specs.Names.{drive_of, new_name_of}
use Rattle.mpm_fcb.specs.Positions.{sequential_record, random_record}
use Rattle.mpm_fcb.specs.Opening as fcb
use Rattle.mpm_marks.specs.Busy.{names}
use Rattle.mpm_refusals.specs.Filing.{LastSearch, Filing, Situation, block}

-- the caller's last search
abbrev pub last_search : Situation → Option LastSearch
last_search s = slice_index_or s.filing.searches s.caller.process None

-- the drive that a call names, from 0, if it names one: that of the search that goes on, that in E, or that of the control block
unfoldable pub drive_by : Option LastSearch → ℕ → ℕ → ControlBlock → FileFunction → Option ℕ
drive_by search own word b SearchNext = option_map (λ search. search.drive) search
drive_by search own word b FreeSpace = Some (word % 256)
drive_by search own word b LabelData = Some (word % 256)
drive_by search own word b ResetDisks = None
drive_by search own word b ProtectDisk = None
drive_by search own word b ResetDrives = None
drive_by search own word b AccessDrives = None
drive_by search own word b FreeDrives = None
drive_by search own word b FlushBuffers = None
drive_by search own word b function = Some (drive_of own b)

abbrev pub drive_named : Situation → Option ℕ
drive_named s = drive_by (last_search s) s.caller.drive s.call.word (block s) s.function

abbrev pub drive_number : Situation → ℕ
drive_number s = unwrap_or (drive_named s) s.caller.drive

-- a drive, where it is mounted; none above the sixteenth is
abbrev pub mounted : Filing → ℕ → Option Drive
mounted filing drive = slice_index_or filing.drives drive None

abbrev pub is_mounted : Filing → ℕ → Bool
is_mounted filing drive = is_some (mounted filing drive)

-- the drive that a call names; where it isn't mounted, one that stands for nothing
abbrev pub blank_drive : Drive
blank_drive = record { kind = Ibm3740; extents = empty; xfcbs = empty; label = None; kept = 0 }

unfoldable pub drive_at : Situation → Drive
drive_at s = unwrap_or (mounted s.filing (drive_number s)) blank_drive

abbrev pub is_protected : Situation → Bool
is_protected s = slice_index_or s.filing.protected (drive_number s) false

-- the caller's file of the block's name, and in a renaming of its new name
abbrev pub own_file : Situation → FileName
own_file s = record { user = s.caller.user; name = plain (block s).name }

abbrev pub new_file : Situation → FileName
new_file s = record { user = s.caller.user; name = plain (new_name_of (block s)) }

-- whether a file is there, and one of its attributes, by its place among F1' to F8' and T1' to T3'
abbrev pub is_there : Drive → FileName → Bool
is_there drive file = is_some (file_attributes drive file)

abbrev pub is_set : Option (List Bool) → ℕ → Bool
is_set attributes place = slice_index_or (unwrap_or attributes []) place false

abbrev pub has_attribute : Drive → FileName → ℕ → Bool
has_attribute drive file place = is_set (file_attributes drive file) place

-- a file that the user lacks is opened in user 0, where it is a system file, with T2'
abbrev pub shared_file : FileName → FileName
shared_file file = record file { user = 0 }

abbrev pub shared_by : Option (List Bool) → Option (List Bool) → Bool
shared_by (Some attributes) shared = false
shared_by None None = false
shared_by None (Some attributes) = is_set (Some attributes) 9

unfoldable pub is_shared : Drive → FileName → Bool
is_shared drive file = shared_by (file_attributes drive file) (file_attributes drive (shared_file file))

unfoldable pub opened_in : Drive → FileName → FileName
opened_in drive file = if is_shared drive file then shared_file file else file

-- the open file that a call names by its number, as record locks have it at the DMA address and others in the handle
unfoldable pub number_by : ℕ → ControlBlock → FileFunction → Option ℕ
number_by word b LockRecord = fcb.item_numbered word
number_by word b UnlockRecord = fcb.item_numbered word
number_by word b function = fcb.item_of b

abbrev pub item_number : Situation → Option ℕ
item_number s = number_by (word_at s.call 0) (block s) s.function

-- that is the caller's own of the drive and the name that the call names, whatever user's
abbrev pub key_named : Situation → ℕ → Option FileKey
key_named s number = file_named s.filing.opens.items s.caller.process number (drive_number s) (plain (block s).name)

unfoldable pub open_key : Situation → Option FileKey
open_key s = option_and_then (key_named s) (item_number s)

-- in which mode it is open, and whether a record was written by way of it
abbrev pub open_mode : Situation → Mode
open_mode s = (item_of s.filing.opens (unwrap_or (item_number s) 0)).mode

abbrev pub mode_if_open : Situation → Option Mode
mode_if_open s = option_map (λ key. open_mode s) (open_key s)

abbrev pub has_written : Situation → Bool
has_written s = is_some (open_key s) && (item_of s.filing.opens (unwrap_or (item_number s) 0)).has_written

-- files by drive and without it
abbrev pub key_of : ℕ → FileName → FileKey
key_of drive file = record { drive = drive; user = file.user; name = file.name }

abbrev pub file_of : FileKey → FileName
file_of key = record { user = key.user; name = key.name }

abbrev pub open_file : FileName → Option FileKey → FileName
open_file own key = unwrap_or (option_map file_of key) own

-- the file that a call is about
unfoldable pub subject_by : Drive → FileName → Option FileKey → FileFunction → FileName
subject_by drive own key OpenFile = opened_in drive own
subject_by drive own key CloseFile = open_file own key
subject_by drive own key ReadSequential = open_file own key
subject_by drive own key WriteSequential = open_file own key
subject_by drive own key ReadRandom = open_file own key
subject_by drive own key WriteRandom = open_file own key
subject_by drive own key TestAndWrite = open_file own key
subject_by drive own key LockRecord = open_file own key
subject_by drive own key UnlockRecord = open_file own key
subject_by drive own key function = own

abbrev pub subject : Situation → FileName
subject s = subject_by (drive_at s) (own_file s) (open_key s) s.function

abbrev pub subject_key : Situation → FileKey
subject_key s = key_of (drive_number s) (subject s)

-- the first of its records
abbrev pub first_by : ControlBlock → FileFunction → ℕ
first_by b ReadSequential = sequential_record b
first_by b WriteSequential = sequential_record b
first_by b function = random_record b

unfoldable pub first_record : Situation → ℕ
first_record s = first_by (block s) s.function

-- the password that a call gives, and whom an XFCB lets in by it
abbrev pub given_password : Situation → List ℕ
given_password s = eight_at s.call 0

abbrev pub entry_of_xfcb : FileName → Protection → XfcbEntry
entry_of_xfcb file xfcb = record {
  user = file.user;
  name = file.name;
  mode = xfcb.mode;
  decode = xfcb.decode;
  password = xfcb.password;
  first = xfcb.first;
  second = xfcb.second;
}

abbrev pub xfcb_admits : ℕ → FileName → ℕ → List ℕ → List ℕ → Option Protection → Bool
xfcb_admits label file need given default None = true
xfcb_admits label file need given default (Some xfcb) = is_admitted label (entry_of_xfcb file xfcb) need given default

unfoldable pub file_admits : Drive → FileName → ℕ → List ℕ → List ℕ → Bool
file_admits drive file need given default = xfcb_admits (data_byte drive) file need given default (get drive.xfcbs file)

-- the mode in which an opening asks for its file: read-only for a shared one, and without the password of one that is guarded
-- against writing
unfoldable pub mode_asked : Drive → FileName → ControlBlock → List ℕ → List ℕ → Mode
mode_asked drive file b given default =
    if is_shared drive file || not (file_admits drive (opened_in drive file) 0x40 given default) then ReadOnly else (fcb.open_mode b)

abbrev pub mode_in : Drive → FileName → ControlBlock → List ℕ → List ℕ → FileFunction → Mode
mode_in drive file b given default MakeFile = fcb.made_mode b
mode_in drive file b given default function = mode_asked drive file b given default

unfoldable pub mode_by : Situation → FileFunction → Mode
mode_by s function = mode_in (drive_at s) (own_file s) (block s) (given_password s) s.caller.password function

-- the first directory entry of the user after the last, whose name fits and that passes a test; what a search finds covers its
-- extent, or is any where that is `?`
abbrev pub is_behind : Option (FileName × ℕ) → (FileName × ℕ) → Bool
is_behind None entry = true
is_behind (Some last) entry =
    is_lt (entry_cmp (record { user = last.0.user; name = last.0.name; number = last.1 }) (record { user = entry.0.user; name = entry.0.name; number = entry.1 }))

abbrev pub is_next : ℕ → List ℕ → ((FileName × ℕ) → Bool) → Option (FileName × ℕ) → (FileName × ℕ) → Bool
is_next user pattern test last entry = is_fitting user pattern entry.0 && (test entry && is_behind last entry)

abbrev pub next_in : Drive → ℕ → List ℕ → ((FileName × ℕ) → Bool) → Option (FileName × ℕ) → Option (FileName × ℕ)
next_in drive user pattern test last = find (is_next user pattern test last) (entries_named drive)

abbrev pub is_of_extent : Kind → ℕ → (FileName × ℕ) → Bool
is_of_extent kind extent entry = (extent == 63) || (entry.1 == entry_number kind extent)

unfoldable pub found_in : Drive → ℕ → List ℕ → ℕ → Option (FileName × ℕ) → Option (FileName × ℕ)
found_in drive user pattern extent last = next_in drive user pattern (is_of_extent drive.kind extent) last

abbrev pub found_behind : Drive → LastSearch → Option (FileName × ℕ)
found_behind drive search = found_in drive search.user search.pattern search.extent (Some search.found)

unfoldable pub found_by : Drive → ℕ → ControlBlock → Option LastSearch → FileFunction → Option (FileName × ℕ)
found_by drive user b search SearchFirst = found_in drive user (plain b.name) b.ex None
found_by drive user b search SearchNext = option_and_then (found_behind drive) search
found_by drive user b search function = None

abbrev pub found : Situation → Option (FileName × ℕ)
found s = found_by (drive_at s) s.caller.user (block s) (last_search s) s.function

-- the files that a deletion names, by name, each once for each of its directory entries
abbrev pub fits : ℕ → List ℕ → (FileName × ℕ) → Bool
fits user pattern entry = is_fitting user pattern entry.0

abbrev pub deleted_in : Drive → ℕ → List ℕ → List FileName
deleted_in drive user pattern = map (λ entry. entry.0) (filter (fits user pattern) (entries_named drive))

unfoldable pub deleted_files : Situation → List FileName
deleted_files s = deleted_in (drive_at s) s.caller.user (block s).name

abbrev pub names_drive : Situation → FileFunction → ℕ → Bool
names_drive s function drive = names function s.caller.drive s.call.word drive
