-- By what was looked up of a call, its refusals are those of the table.
use Rattle.std.proofs.Common.{◌≡◌, ◌∙◌, ℕ, ◌==◌, ◌&&◌, ◌||◌, Bool, true, false, not, cond, List, Option, Some, None, IfSome, sym, refl, ap, subst}
use Rattle.std.specs.Option.{option_or}
use Rattle.std.specs.Prelude.{is_some, option_map, option_and_then, unwrap_or, find, bytes_eq}
use Rattle.std.specs.Cmp.Lexicographic.{bytes_decides}
use Rattle.std.proofs.lemmas.Bool.{and_parts}
use Rattle.std.proofs.lemmas.Option.{same_Some}
use Rattle.mpm_base.proofs.Options.{still_some}
use Rattle.mpm_dirent.specs.Names.{plain}
use Rattle.mpm_mount.specs.Drives.{FileName, Drive}
use Rattle.mpm_opens.specs.declared.kinds.OpenRefused.TheVariants as opening
use Rattle.mpm_opens.specs.declared.kinds.FileKey.{FileKey}
use Rattle.mpm_opens.specs.Items as items
use Rattle.mpm_opens.specs.Opens.{OpenFiles, item_of}
use Rattle.mpm_mount.proofs.Lowest.{found_same}
use Rattle.mpm_file_functions.specs.declared.functions.FileFunction.{FileFunction}
use Rattle.mpm_file_functions.specs.declared.functions.FileFunction.TheVariants.{ResetDisks, OpenFile, CloseFile, SearchFirst, SearchNext, DeleteFile, ReadSequential, WriteSequential, MakeFile, RenameFile, ProtectDisk, SetAttributes, ReadRandom, WriteRandom, FileSize, ResetDrives, AccessDrives, FreeDrives, TestAndWrite, LockRecord, UnlockRecord, FreeSpace, FlushBuffers, SetLabel, LabelData, ReadXfcb, WriteXfcb}
use Rattle.mpm_file_functions.specs.declared.refusals.Refusal.{Refusal}
use Rattle.mpm_file_functions.specs.declared.refusals.Refusal.TheVariants.{NotMounted, Ambiguous, NotOpen, NotOpenToLock, BeyondFile, NotFound, ProtectedDrive, ReadOnlyFile, FileExists, WrongPassword, InUse, FileLimit, ListFull, DirectoryFull, Busy}
use Rattle.mpm_refusals.specs.Filing.{Situation, block}
use Rattle.mpm_refusals.specs.Subjects.{drive_named, drive_number, drive_at, own_file, has_attribute, shared_file, is_shared, opened_in, item_number, key_named, open_key, mode_if_open, key_of, open_file, subject_by, subject, given_password, found, mode_by, first_record, deleted_files}
use Rattle.mpm_file_functions.specs.Refusals.{refusals_of, refusals_of_each}
use Rattle.mpm_refusals.specs.Refusals.{is_unmounted, is_missing_in, is_open_read_only, lacks_password, opening_refusal, is_refused_for, is_used, is_directory_full, deletion_refusal, RefusalTest, tests_each, tests_of, applies, does_apply, refusal_of}
use Rattle.mpm_refusals.specs.Asking.{opened_as, key_of_item, mode_of_item, open_item, asked_of, file_asked, mode_needed, asks, where_deleted, each_asked, refused_asked}
use Rattle.mpm_refusals.proofs.Deleted.{deleter, tests_step, deletion_as_table}

-- the open file that a call names has the name of its block
found_where : {X K : Type 0} (place : Option X) (f : Option X → Option K) (test : X → Bool) (file : X → K) (P : K → Type 0) → f None ≡ None
    → ((x : X) → f (Some x) ≡ cond (test x) (Some (file x)) None) → ((x : X) → test x ≡ true → P (file x)) → (k : K) → f place ≡ Some k → P k
found_where None f test file P none some so k is = absurd (cc)
found_where (Some x) f test file P none some so k is = by_test (test x) refl
  where
    by_test : (b : Bool) → test x ≡ b → P k
    by_test true e = subst P (same_Some (file x) k (sym (some x ∙ ap (λ b. cond b (Some (file x)) None) e) ∙ is)) (so x e)
    by_test false e =
        let none : None ≡ Some k = sym (some x ∙ ap (λ b. cond b (Some (file x)) None) e) ∙ is in
        absurd (cc)

named_so : (opens : OpenFiles) (p number drive : ℕ) (name : List ℕ) (key : FileKey) → items.file_named opens.items p number drive name ≡ Some key → key.name ≡ name
unfolding items.file_named
named_so opens p number drive name key is =
    found_where (items.place_at opens.items number) (items.file_where (items.is_named p drive name)) (items.is_named p drive name) (λ item. item.file) (λ (k : FileKey). k.name ≡ name) refl
    (λ item. refl)
    (λ item e. (bytes_decides item.file.name name).0
    (and_parts (item.file.drive == drive) (bytes_eq item.file.name name) (and_parts (item.process == p) ((item.file.drive == drive) && bytes_eq item.file.name name) e).1).1)
    key is

key_so : (s : Situation) (number : ℕ) (found : Option FileKey) → key_named s number ≡ found → IfSome found (λ (key : FileKey). key.name ≡ plain (block s).name)
key_so s number None is = tt
key_so s number (Some key) is = named_so s.filing.opens s.caller.process number (drive_number s) (plain (block s).name) key is

keys_so : (s : Situation) (number : Option ℕ) → IfSome (option_and_then (key_named s) number) (λ (key : FileKey). key.name ≡ plain (block s).name)
keys_so s None = tt
keys_so s (Some number) = key_so s number (key_named s number) refl

pub open_so : (s : Situation) → IfSome (open_key s) (λ (key : FileKey). key.name ≡ (own_file s).name)
unfolding open_key
open_so s = keys_so s (item_number s)

-- so has the file that it is about
opened_named : (own : FileName) (shared : Bool) → (cond shared (shared_file own) own).name ≡ own.name
opened_named own true = refl
opened_named own false = refl

open_named : (own : FileName) (key : Option FileKey) → IfSome key (λ (k : FileKey). k.name ≡ own.name) → (open_file own key).name ≡ own.name
open_named own None h = refl
open_named own (Some key) h = h

subject_named : (drive : Drive) (own : FileName) (key : Option FileKey) (function : FileFunction) → IfSome key (λ (k : FileKey). k.name ≡ own.name) → (subject_by drive own key function).name ≡ own.name
unfolding subject_by opened_in
subject_named drive own key ResetDisks h = refl
subject_named drive own key OpenFile h = opened_named own (is_shared drive own)
subject_named drive own key CloseFile h = open_named own key h
subject_named drive own key SearchFirst h = refl
subject_named drive own key SearchNext h = refl
subject_named drive own key DeleteFile h = refl
subject_named drive own key ReadSequential h = open_named own key h
subject_named drive own key WriteSequential h = open_named own key h
subject_named drive own key MakeFile h = refl
subject_named drive own key RenameFile h = refl
subject_named drive own key ProtectDisk h = refl
subject_named drive own key SetAttributes h = refl
subject_named drive own key ReadRandom h = open_named own key h
subject_named drive own key WriteRandom h = open_named own key h
subject_named drive own key FileSize h = refl
subject_named drive own key ResetDrives h = refl
subject_named drive own key AccessDrives h = refl
subject_named drive own key FreeDrives h = refl
subject_named drive own key TestAndWrite h = open_named own key h
subject_named drive own key LockRecord h = open_named own key h
subject_named drive own key UnlockRecord h = open_named own key h
subject_named drive own key FreeSpace h = refl
subject_named drive own key FlushBuffers h = refl
subject_named drive own key SetLabel h = refl
subject_named drive own key LabelData h = refl
subject_named drive own key ReadXfcb h = refl
subject_named drive own key WriteXfcb h = refl

pub file_is : (s : Situation) → file_asked (asked_of s) ≡ subject s
file_is s = λ i. record { user = (subject s).user; name = sym (subject_named (drive_at s) (own_file s) (open_key s) s.function (open_so s)) i }

-- the open file by its number is that of its key, in its mode
keyed_one : (opens : OpenFiles) (number : ℕ) (key : Option FileKey) → option_map key_of_item (option_map (opened_as opens number) key) ≡ key
keyed_one opens number None = refl
keyed_one opens number (Some key) = refl

keyed : (opens : OpenFiles) (f : ℕ → Option FileKey) (number : Option ℕ)
    → option_map key_of_item (option_and_then (λ n. option_map (opened_as opens n) (f n)) number) ≡ option_and_then f number
keyed opens f None = refl
keyed opens f (Some number) = keyed_one opens number (f number)

pub item_key : (s : Situation) → option_map key_of_item (open_item s) ≡ open_key s
unfolding open_key
item_key s = keyed s.filing.opens (key_named s) (item_number s)

moded_one : (opens : OpenFiles) (number : ℕ) (key : Option FileKey)
    → option_map mode_of_item (option_map (opened_as opens number) key) ≡ option_map (λ (k : FileKey). (item_of opens number).mode) key
moded_one opens number None = refl
moded_one opens number (Some key) = refl

moded : (opens : OpenFiles) (f : ℕ → Option FileKey) (number : Option ℕ)
    → option_map mode_of_item (option_and_then (λ n. option_map (opened_as opens n) (f n)) number)
    ≡ option_map (λ (k : FileKey). (item_of opens (unwrap_or number 0)).mode) (option_and_then f number)
moded opens f None = refl
moded opens f (Some number) = moded_one opens number (f number)

pub item_mode : (s : Situation) → option_map mode_of_item (open_item s) ≡ mode_if_open s
unfolding open_key
item_mode s = moded s.filing.opens (key_named s) (item_number s)

is_open : (s : Situation) → is_some (open_item s) ≡ is_some (open_key s)
is_open s = sym (still_some (open_item s) key_of_item) ∙ ap is_some (item_key s)

-- each test is that of the table
asks_so : (s : Situation) → is_unmounted s (drive_named s) ≡ false → (refusal : Refusal)
    → asks (drive_at s) s.filing.opens s.filing.marks (asked_of s) refusal ≡ applies s (subject s) refusal
unfolding applies first_record opening_refusal mode_by
asks_so s there NotMounted = sym there
asks_so s there Ambiguous = refl
asks_so s there NotOpen = ap not (is_open s)
asks_so s there NotOpenToLock = ap not (is_open s)
asks_so s there BeyondFile = refl
asks_so s there NotFound = λ i. is_missing_in (drive_at s) (file_is s i) s.caller.user (block s) (is_open s i) (is_some (found s)) s.function
asks_so s there ProtectedDrive = refl
asks_so s there ReadOnlyFile = λ i. has_attribute (drive_at s) (file_is s i) 8 || is_open_read_only (item_mode s i) s.function
asks_so s there FileExists = refl
asks_so s there WrongPassword = λ i. lacks_password (drive_at s) (file_is s i) s.function (given_password s) s.caller.password
asks_so s there InUse = λ i.
    is_used (items.refusal_of s.filing.opens.items s.caller.process (key_of (drive_number s) (file_is s i)) (mode_needed (drive_at s) (asked_of s)))
    (items.have_others s.filing.opens.items s.caller.process (key_of (drive_number s) (file_is s i))) s.function
asks_so s there FileLimit = λ i.
    is_refused_for opening.ProcessLimit (items.refusal_of s.filing.opens.items s.caller.process (key_of (drive_number s) (file_is s i)) (mode_needed (drive_at s) (asked_of s)))
asks_so s there ListFull = λ i.
    is_refused_for opening.NoRoom (items.refusal_of s.filing.opens.items s.caller.process (key_of (drive_number s) (file_is s i)) (mode_needed (drive_at s) (asked_of s)))
asks_so s there DirectoryFull = λ i. is_directory_full (drive_at s) (file_is s i) (block s) s.function
asks_so s there Busy = refl

-- a call is refused by its row, and then by the files that it names
each_so : (s : Situation) (function : FileFunction) → s.function ≡ function
    → option_map (λ (t : RefusalTest). t.refusal) (find (does_apply s) (tests_each (refusals_of_each function) (deleted_files s)))
    ≡ where_deleted (deletion_refusal (drive_at s) s.filing.opens (deleter s) (block s).name) function
unfolding refusals_of_each
each_so s ResetDisks is = refl
each_so s OpenFile is = refl
each_so s CloseFile is = refl
each_so s SearchFirst is = refl
each_so s SearchNext is = refl
each_so s DeleteFile is = deletion_as_table s is
each_so s ReadSequential is = refl
each_so s WriteSequential is = refl
each_so s MakeFile is = refl
each_so s RenameFile is = refl
each_so s ProtectDisk is = refl
each_so s SetAttributes is = refl
each_so s ReadRandom is = refl
each_so s WriteRandom is = refl
each_so s FileSize is = refl
each_so s ResetDrives is = refl
each_so s AccessDrives is = refl
each_so s FreeDrives is = refl
each_so s TestAndWrite is = refl
each_so s LockRecord is = refl
each_so s UnlockRecord is = refl
each_so s FreeSpace is = refl
each_so s FlushBuffers is = refl
each_so s SetLabel is = refl
each_so s LabelData is = refl
each_so s ReadXfcb is = refl
each_so s WriteXfcb is = refl

pub refusal_parts : (s : Situation) → refusal_of s
    ≡ option_or (find (applies s (subject s)) (refusals_of s.function)) (where_deleted (deletion_refusal (drive_at s) s.filing.opens (deleter s) (block s).name) s.function)
unfolding refusal_of tests_of
refusal_parts s =
    tests_step s (subject s) (tests_each (refusals_of_each s.function) (deleted_files s)) (refusals_of s.function)
    ∙ ap (option_or (find (applies s (subject s)) (refusals_of s.function))) (each_so s s.function refl)

pub asked_refusal : (s : Situation) → is_unmounted s (drive_named s) ≡ false → refused_asked (drive_at s) s.filing.opens s.filing.marks (asked_of s) ≡ refusal_of s
asked_refusal s there =
    ap (λ r. option_or r (each_asked (drive_at s) s.filing.opens (asked_of s)))
    (found_same (asks (drive_at s) s.filing.opens s.filing.marks (asked_of s)) (applies s (subject s)) (refusals_of s.function) (asks_so s there))
    ∙ sym (refusal_parts s)
