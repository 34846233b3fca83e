-- What a call names, looked up once: its open file, by number; what its search finds; and all by which its refusals are asked
-- where its drive is mounted (`asks`: the same as the rule `applies` in Refusals.antt, which looks it up itself).
use Rattle.std.specs.Option.{option_or}
use Rattle.std.specs.Prelude.{ℕ, ◌||◌, not, Bool, false, List, Option, Some, None, is_some, option_map, option_and_then, find, if◌then◌else◌, ◌≡◌, ⊤}
use Rattle.mpm_base.specs.declared.kind.Kind.{Kind}
use Rattle.mpm_base.specs.Calls.{Taken}
use Rattle.mpm_dirent.specs.Names.{plain}
use Rattle.mpm_opens.specs.declared.kinds.FileKey.{FileKey}
use Rattle.mpm_opens.specs.declared.kinds.Mode.{Mode}
use Rattle.mpm_opens.specs.declared.kinds.OpenRefused.{OpenRefused}
use Rattle.mpm_opens.specs.declared.kinds.OpenRefused.TheVariants as opening
use Rattle.mpm_opens.specs.Items as items
use Rattle.mpm_opens.specs.Opens.{OpenFiles, item_of, IsItemOf}
use Rattle.mpm_file_functions.specs.declared.functions.FileFunction.{FileFunction}
use Rattle.mpm_file_functions.specs.declared.functions.FileFunction.TheVariants.{ResetDisks, SearchNext, DeleteFile, ProtectDisk, ResetDrives}
use Rattle.mpm_file_functions.specs.declared.refusals.Refusal.{Refusal}
use Rattle.mpm_file_functions.specs.declared.refusals.Refusal.TheVariants.{NotMounted, Ambiguous, NotOpen, NotOpenToLock, BeyondFile, NotFound, ProtectedDrive, ReadOnlyFile, FileExists, WrongPassword, InUse, FileLimit, ListFull, DirectoryFull, Busy}
use Rattle.mpm_file_functions.specs.Refusals.{refusals_of}
use Rattle.mpm_mount.specs.Drives.{FileName, Drive}
use Rattle.mpm_mount.specs.Directories.{Directory, Stands}
use Rattle.mpm_fcb.specs.Positions.{are_beyond}
use Rattle.mpm_marks.specs.Busy.{are_busy}
use Rattle.mpm_refusals.specs.declared.asking.Asked.{Asked}
use Rattle.mpm_refusals.specs.declared.caller.Caller.{Caller}
use Rattle.mpm_refusals.specs.declared.deleting.Deleter.{Deleter}
use Rattle.mpm_refusals.specs.declared.finding.FoundEntry.{FoundEntry}
use Rattle.mpm_refusals.specs.declared.subjects.OpenItem.{OpenItem}
use Rattle.mpm_refusals.specs.Filing.{LastSearch, Situation, block}
use Rattle.mpm_refusals.specs.Looking.{entry_found}
use Rattle.mpm_refusals.specs.Subjects.{mounted, drive_number, is_protected, is_there, has_attribute, item_number, key_named, key_of, subject, first_by, given_password, mode_in, found}
use Rattle.mpm_refusals.specs.Refusals.{has_question, is_missing_in, is_open_read_only, existing_name, lacks_password, is_refused_for, is_used, is_directory_full, deletion_refusal}

-- the image of a drive that is mounted, with its directory, stands for a drive, and the directory is of that drive's number; where
-- none is mounted there is none
pub record StandsAt (number : ℕ) (image : List ℕ) (directory : Directory) (drive : Drive) : Type 0 where
  pub number_is : directory.drive ≡ number
  pub stands : Stands image directory drive

abbrev pub StandsWhere : ℕ → List ℕ → Option Directory → Option Drive → Type 0
StandsWhere number image None None = ⊤
StandsWhere number image (Some directory) (Some drive) = StandsAt number image directory drive
StandsWhere number image (Some directory) None = ⊥
StandsWhere number image None (Some drive) = ⊥

-- an open file by its number
abbrev pub opened_as : OpenFiles → ℕ → FileKey → OpenItem
opened_as opens number key = record { number = number; file = key; mode = (item_of opens number).mode }

abbrev pub key_of_item : OpenItem → FileKey
key_of_item item = item.file

abbrev pub mode_of_item : OpenItem → Mode
mode_of_item item = item.mode

-- that which a call names, if the caller has it open
abbrev pub open_item : Situation → Option OpenItem
open_item s = option_and_then (λ number. option_map (opened_as s.filing.opens number) (key_named s number)) (item_number s)

-- what a search found, with its user
abbrev pub found_as : Kind → FoundEntry → (FileName × ℕ)
found_as kind entry = entry_found kind entry.user entry.found

-- a call of a caller, upon what is kept
abbrev pub called : List (Option Drive) → List Bool → OpenFiles → List ℕ → List (Option LastSearch) → Caller → FileFunction → Taken → List ℕ → Situation
called drives protected opens marks searches caller function call moment = record {
  filing = record { drives = drives; protected = protected; opens = opens; marks = marks; searches = searches };
  caller = caller;
  function = function;
  call = call;
  moment = moment;
}

-- the directory of the drive that it names, or else of its caller's, stands with an image for what is there
abbrev pub StandsForDirectory : List ℕ → Option Directory → Situation → Type 0
StandsForDirectory image directory s = StandsWhere (drive_number s) image directory (mounted s.filing (drive_number s))

-- all by which the refusals of a call are asked
abbrev pub asked_of : Situation → Asked
asked_of s = record {
  caller = s.caller;
  function = s.function;
  block = block s;
  word = s.call.word;
  given = given_password s;
  drive = drive_number s;
  is_protected = is_protected s;
  item = open_item s;
  owner = (subject s).user;
  is_found = is_some (found s);
}

-- the file that it is about, and that of the caller
abbrev pub file_asked : Asked → FileName
file_asked a = record { user = a.owner; name = plain a.block.name }

abbrev pub own_asked : Asked → FileName
own_asked a = record { user = a.caller.user; name = plain a.block.name }

abbrev pub key_asked : Asked → FileKey
key_asked a = key_of a.drive (file_asked a)

-- the tests, by that, on a drive that is mounted
abbrev pub mode_needed : Drive → Asked → Mode
mode_needed drive a = mode_in drive (own_asked a) a.block a.given a.caller.password a.function

abbrev pub opening_asked : Drive → OpenFiles → Asked → Option OpenRefused
opening_asked drive opens a = items.refusal_of opens.items a.caller.process (key_asked a) (mode_needed drive a)

abbrev pub is_missing_asked : Drive → Asked → Bool
is_missing_asked drive a = is_missing_in drive (file_asked a) a.caller.user a.block (is_some a.item) a.is_found a.function

abbrev pub is_read_only_asked : Drive → Asked → Bool
is_read_only_asked drive a = has_attribute drive (file_asked a) 8 || is_open_read_only (option_map mode_of_item a.item) a.function

abbrev pub is_beyond_asked : Asked → Bool
is_beyond_asked a = are_beyond (first_by a.block a.function) a.caller.multi

abbrev pub have_others_asked : OpenFiles → Asked → Bool
have_others_asked opens a = items.have_others opens.items a.caller.process (key_asked a)

abbrev pub is_used_asked : Drive → OpenFiles → Asked → Bool
is_used_asked drive opens a = is_used (opening_asked drive opens a) (have_others_asked opens a) a.function

abbrev pub asks : Drive → OpenFiles → List ℕ → Asked → Refusal → Bool
asks drive opens marks a NotMounted = false
asks drive opens marks a Ambiguous = has_question a.block a.function
asks drive opens marks a NotOpen = not (is_some a.item)
asks drive opens marks a NotOpenToLock = not (is_some a.item)
asks drive opens marks a BeyondFile = is_beyond_asked a
asks drive opens marks a NotFound = is_missing_asked drive a
asks drive opens marks a ProtectedDrive = a.is_protected
asks drive opens marks a ReadOnlyFile = is_read_only_asked drive a
asks drive opens marks a FileExists = is_there drive (record { user = a.caller.user; name = plain (existing_name a.block a.function) })
asks drive opens marks a WrongPassword = lacks_password drive (file_asked a) a.function a.given a.caller.password
asks drive opens marks a InUse = is_used_asked drive opens a
asks drive opens marks a FileLimit = is_refused_for opening.ProcessLimit (opening_asked drive opens a)
asks drive opens marks a ListFull = is_refused_for opening.NoRoom (opening_asked drive opens a)
asks drive opens marks a DirectoryFull = is_directory_full drive (file_asked a) a.block a.function
asks drive opens marks a Busy = are_busy opens marks a.caller.process a.function a.caller.drive a.word

-- the refusal of the files that a call names, of which a deletion alone has any
abbrev pub deleter_asked : Asked → Deleter
deleter_asked a =
    record { process = a.caller.process; user = a.caller.user; drive = a.drive; given = a.given; default = a.caller.password }

abbrev pub where_deleted : Option Refusal → FileFunction → Option Refusal
where_deleted refusal DeleteFile = refusal
where_deleted refusal function = None

abbrev pub each_asked : Drive → OpenFiles → Asked → Option Refusal
each_asked drive opens a = where_deleted (deletion_refusal drive opens (deleter_asked a) a.block.name) a.function

abbrev pub refused_asked : Drive → OpenFiles → List ℕ → Asked → Option Refusal
refused_asked drive opens marks a = option_or (find (asks drive opens marks a) (refusals_of a.function)) (each_asked drive opens a)

-- the refusal of a call whose drive isn't mounted, or that names none
abbrev pub unnamed_refusal : Bool → FileFunction → Option Refusal
unnamed_refusal busy ResetDisks = if busy then Some Busy else None
unnamed_refusal busy ProtectDisk = if busy then Some Busy else None
unnamed_refusal busy ResetDrives = if busy then Some Busy else None
unnamed_refusal busy SearchNext = Some NotFound
unnamed_refusal busy function = None

abbrev pub unmounted_refusal : Option ℕ → Option Refusal → Option Refusal
unmounted_refusal None refusal = refusal
unmounted_refusal (Some drive) refusal = Some NotMounted

-- an open file is a process's own, of a name without attributes
pub record IsOwnItem (opens : OpenFiles) (p : ℕ) (item : OpenItem) : Type 0 where
  pub its : IsItemOf opens p item.file item.number
  pub named : plain item.file.name ≡ item.file.name
