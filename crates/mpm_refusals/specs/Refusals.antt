-- When each refusal applies to a file call. The first that applies, in the order of the table of mpm_file_functions, is answered. (MP/M II Programmer's Guide, "BDOS Error Handling", and the functions.)
use Rattle.std.specs.Option.{option_or}
use Rattle.std.specs.Prelude.{ℕ, ◌+◌, ◌==◌, ◌&&◌, ◌||◌, not, Bool, true, false, List, [], ◌∷◌, ◌++◌, Option, Some, None, is_some, option_map, length, map, find, nat_lt, if◌then◌else◌}
use Rattle.std.specs.List.{flat_map}
use Rattle.std.specs.FinMap.{get}
use Rattle.mpm_base.specs.Counts.{one_if}
use Rattle.mpm_dirent.specs.declared.kinds.LabelEntry.{LabelEntry}
use Rattle.mpm_dirent.specs.Names.{plain}
use Rattle.mpm_opens.specs.declared.kinds.Mode.{Mode}
use Rattle.mpm_opens.specs.declared.kinds.Mode.TheVariants.{ReadOnly}
use Rattle.mpm_opens.specs.declared.kinds.OpenRefused.{OpenRefused}
use Rattle.mpm_opens.specs.declared.kinds.OpenRefused.TheVariants as opening
use Rattle.mpm_opens.specs.Kinds.{is_same_mode}
use Rattle.mpm_opens.specs.Items as items
use Rattle.mpm_opens.specs.Opens.{OpenFiles}
use Rattle.mpm_file_functions.specs.declared.functions.FileFunction.{FileFunction}
use Rattle.mpm_file_functions.specs.declared.functions.FileFunction.TheVariants.{OpenFile, CloseFile, SearchFirst, SearchNext, DeleteFile, MakeFile, RenameFile, SetLabel}
use Rattle.mpm_file_functions.specs.declared.refusals.Refusal.{Refusal}
use Rattle.mpm_file_functions.specs.declared.refusals.Refusal.TheVariants.{NotMounted, Ambiguous, NotOpen, NotOpenToLock, BeyondFile, NotFound, ProtectedDrive, ReadOnlyFile, FileExists, WrongPassword, InUse, FileLimit, ListFull, DirectoryFull, Busy}
use Rattle.mpm_file_functions.specs.Refusals.{refusals_of, refusals_of_each}
use Rattle.mpm_mount.specs.Drives.{FileName, DirectoryLabel, Drive, free_entries}
use Rattle.mpm_guard.specs.Passwords.{has_bit, is_label_admitted}
use Rattle.mpm_fcb.specs.declared.block.ControlBlock.{ControlBlock}
use Rattle.mpm_fcb.specs.Names.{new_name_of, is_ambiguous, has_f6}
use Rattle.mpm_fcb.specs.Positions.{are_beyond}
use Rattle.mpm_marks.specs.Busy.{are_busy}
use Rattle.mpm_refusals.specs.declared.deleting.Deleter.{Deleter}
use Rattle.mpm_refusals.specs.Filing.{Situation, block}
use Rattle.mpm_mount.specs.Looking.{extent_count, data_byte}
use Rattle.mpm_refusals.specs.Subjects.{drive_named, drive_number, drive_at, is_mounted, is_protected, is_there, has_attribute, subject, open_key, mode_if_open, first_record, file_admits, given_password, mode_by, found, deleted_in, deleted_files, key_of}

-- the named drive isn't mounted
abbrev pub is_unmounted : Situation → Option ℕ → Bool
is_unmounted s None = false
is_unmounted s (Some drive) = not (is_mounted s.filing drive)

-- a `?` where one name is meant; a renaming has two
abbrev pub has_question : ControlBlock → FileFunction → Bool
has_question b RenameFile = is_ambiguous b.name || is_ambiguous (new_name_of b)
has_question b function = is_ambiguous b.name

-- nothing is found: no extent of the file that is opened, no open file that is closed, no entry that is sought, no file that a
-- pattern fits, no file
abbrev pub is_missing_in : Drive → FileName → ℕ → ControlBlock → Bool → Bool → FileFunction → Bool
is_missing_in drive file user b is_open is_found OpenFile = not (is_some (extent_count drive file b.ex))
is_missing_in drive file user b is_open is_found CloseFile = not is_open
is_missing_in drive file user b is_open is_found SearchFirst = not is_found
is_missing_in drive file user b is_open is_found SearchNext = not is_found
is_missing_in drive file user b is_open is_found DeleteFile = length (deleted_in drive user b.name) == 0
is_missing_in drive file user b is_open is_found function = not (is_there drive file)

abbrev pub is_missing : Situation → FileName → FileFunction → Bool
is_missing s file function = is_missing_in (drive_at s) file s.caller.user (block s) (is_some (open_key s)) (is_some (found s)) function

-- the open file is in read-only mode; a call that names none is asked for its file alone
abbrev pub is_mode : Mode → Option Mode → Bool
is_mode mode None = false
is_mode mode (Some other) = is_same_mode other mode

abbrev pub is_open_read_only : Option Mode → FileFunction → Bool
is_open_read_only mode DeleteFile = false
is_open_read_only mode RenameFile = false
is_open_read_only mode function = is_mode ReadOnly mode

-- the file that must not be there
abbrev pub existing_name : ControlBlock → FileFunction → List ℕ
existing_name b RenameFile = new_name_of b
existing_name b function = b.name

abbrev pub existing_file : Situation → FileFunction → FileName
existing_file s function = record { user = s.caller.user; name = plain (existing_name (block s) function) }

-- without the password: an opening needs it where 80h of the mode guards, the label where it has one itself, and all others where
-- any bit guards
abbrev pub label_entry : DirectoryLabel → LabelEntry
label_entry label = record {
  name = label.name;
  mode = label.protection.mode;
  decode = label.protection.decode;
  password = label.protection.password;
  first = label.protection.first;
  second = label.protection.second;
}

abbrev pub label_admits : List ℕ → List ℕ → Option DirectoryLabel → Bool
label_admits given default None = true
label_admits given default (Some label) = is_label_admitted (label_entry label) given default

abbrev pub need_of : FileFunction → ℕ
need_of OpenFile = 0x80
need_of function = 0xFF

abbrev pub is_of_label : FileFunction → Bool
is_of_label SetLabel = true
is_of_label function = false

unfoldable pub lacks_password : Drive → FileName → FileFunction → List ℕ → List ℕ → Bool
lacks_password drive file function given default =
    if is_of_label function then not (label_admits given default drive.label) else (not (file_admits drive file (need_of function) given default))

-- what the list of open files refuses an opening or a making for
unfoldable pub opening_refusal : Situation → FileName → Option OpenRefused
opening_refusal s file = items.refusal_of s.filing.opens.items s.caller.process (key_of (drive_number s) file) (mode_by s s.function)

abbrev pub is_same_reason : OpenRefused → OpenRefused → Bool
is_same_reason opening.Incompatible opening.Incompatible = true
is_same_reason opening.ProcessLimit opening.ProcessLimit = true
is_same_reason opening.NoRoom opening.NoRoom = true
is_same_reason a b = false

abbrev pub is_refused_for : OpenRefused → Option OpenRefused → Bool
is_refused_for reason None = false
is_refused_for reason (Some refusal) = is_same_reason refusal reason

abbrev pub is_used : Option OpenRefused → Bool → FileFunction → Bool
is_used refusal have_others OpenFile = is_refused_for opening.Incompatible refusal
is_used refusal have_others function = have_others

abbrev pub is_in_use : Situation → FileName → FileFunction → Bool
is_in_use s file function =
    is_used (opening_refusal s file) (items.have_others s.filing.opens.items s.caller.process (key_of (drive_number s) file)) function

-- a file that is deleted is refused for the first of these that applies to it, by who deletes it
abbrev pub refuses_deleted : Drive → OpenFiles → Deleter → FileName → Refusal → Bool
refuses_deleted drive opens by file ReadOnlyFile = has_attribute drive file 8
refuses_deleted drive opens by file WrongPassword = lacks_password drive file DeleteFile by.given by.default
refuses_deleted drive opens by file InUse = items.have_others opens.items by.process (key_of by.drive file)
refuses_deleted drive opens by file refusal = false

unfoldable pub file_refusal : Drive → OpenFiles → Deleter → FileName → Option Refusal
file_refusal drive opens by file = find (refuses_deleted drive opens by file) (refusals_of_each DeleteFile)

-- and files one after the other
abbrev pub first_refused : (FileName → Option Refusal) → List FileName → Option Refusal
first_refused refusal [] = None
first_refused refusal (file ∷ files) = option_or (refusal file) (first_refused refusal files)

unfoldable pub deletion_refusal : Drive → OpenFiles → Deleter → List ℕ → Option Refusal
deletion_refusal drive opens by pattern = first_refused (file_refusal drive opens by) (deleted_in drive by.user pattern)

-- a making makes an XFCB too where the label has 10h, or where it has 80h and a password is given
abbrev pub makes_xfcb : ℕ → ControlBlock → Bool
makes_xfcb label b = has_bit 0x10 label || (has_bit 0x80 label && has_f6 b)

abbrev pub lacks_xfcb : Drive → FileName → Bool
lacks_xfcb drive file = not (is_some (get drive.xfcbs file))

abbrev pub lacks_label : Drive → Bool
lacks_label drive = not (is_some drive.label)

-- how many directory entries a call needs, and whether as many are free
unfoldable pub needed_by : FileFunction → Bool → Bool → Bool → ℕ
needed_by MakeFile makes no_xfcb no_label = 1 + one_if (makes && no_xfcb)
needed_by SetLabel makes no_xfcb no_label = one_if no_label
needed_by function makes no_xfcb no_label = one_if no_xfcb

abbrev pub entries_needed : Drive → FileName → ControlBlock → FileFunction → ℕ
entries_needed drive file b function = needed_by function (makes_xfcb (data_byte drive) b) (lacks_xfcb drive file) (lacks_label drive)

unfoldable pub is_directory_full : Drive → FileName → ControlBlock → FileFunction → Bool
is_directory_full drive file b function = nat_lt (free_entries drive) (entries_needed drive file b function)

-- whether a refusal applies to a file of a call
unfoldable pub applies : Situation → FileName → Refusal → Bool
applies s file NotMounted = is_unmounted s (drive_named s)
applies s file Ambiguous = has_question (block s) s.function
applies s file NotOpen = not (is_some (open_key s))
applies s file NotOpenToLock = not (is_some (open_key s))
applies s file BeyondFile = are_beyond (first_record s) s.caller.multi
applies s file NotFound = is_missing s file s.function
applies s file ProtectedDrive = is_protected s
applies s file ReadOnlyFile = has_attribute (drive_at s) file 8 || is_open_read_only (mode_if_open s) s.function
applies s file FileExists = is_there (drive_at s) (existing_file s s.function)
applies s file WrongPassword = lacks_password (drive_at s) file s.function (given_password s) s.caller.password
applies s file InUse = is_in_use s file s.function
applies s file FileLimit = is_refused_for opening.ProcessLimit (opening_refusal s file)
applies s file ListFull = is_refused_for opening.NoRoom (opening_refusal s file)
applies s file DirectoryFull = is_directory_full (drive_at s) file (block s) s.function
applies s file Busy = are_busy s.filing.opens s.filing.marks s.caller.process s.function s.caller.drive s.call.word

-- a refusal that is asked, of a file
pub record RefusalTest : Type 0 where
  pub refusal : Refusal
  pub file : FileName

abbrev pub tests_for : List Refusal → FileName → List RefusalTest
tests_for refusals file = map (λ refusal. record { refusal = refusal; file = file }) refusals

-- file by file; nothing where a call has no refusals of this kind, whatever its files
abbrev pub tests_each : List Refusal → List FileName → List RefusalTest
tests_each [] files = []
tests_each (refusal ∷ refusals) files = flat_map (tests_for (refusal ∷ refusals)) files

-- all that a call is asked, in order
unfoldable pub tests_of : Situation → List RefusalTest
tests_of s = tests_for (refusals_of s.function) (subject s) ++ tests_each (refusals_of_each s.function) (deleted_files s)

abbrev pub does_apply : Situation → RefusalTest → Bool
does_apply s test = applies s test.file test.refusal

-- the refusal of a call: the first that applies
unfoldable pub refusal_of : Situation → Option Refusal
refusal_of s = option_map (λ test. test.refusal) (find (does_apply s) (tests_of s))
