-- The file that a call is about: its user is 0 to 15, its name that of the block.
use Rattle.std.proofs.Common.{◌≡◌, ℕ, ◌<◌, Bool, true, false, cond, List, Option, Some, None, IfSome, sym, refl, ap, subst, arith}
use Rattle.std.specs.Prelude.{option_and_then}
use Rattle.std.proofs.lemmas.Option.{same_Some}
use Rattle.mpm_base.proofs.Choices.{either}
use Rattle.mpm_dirent.specs.Names.{plain}
use Rattle.mpm_mount.specs.Drives.{FileName, Drive}
use Rattle.mpm_opens.specs.declared.kinds.FileKey.{FileKey}
use Rattle.mpm_opens.specs.Items.{place_at, is_named, file_where, file_named}
use Rattle.mpm_opens.specs.Opens.{OpenFiles}
use Rattle.mpm_file_functions.specs.declared.functions.FileFunction.{FileFunction}
use Rattle.mpm_file_functions.specs.declared.functions.FileFunction.TheVariants.{ResetDisks, OpenFile, CloseFile, SearchFirst, SearchNext, DeleteFile, ReadSequential, WriteSequential, MakeFile, RenameFile, ProtectDisk, SetAttributes, ReadRandom, WriteRandom, FileSize, ResetDrives, AccessDrives, FreeDrives, TestAndWrite, LockRecord, UnlockRecord, FreeSpace, FlushBuffers, SetLabel, LabelData, ReadXfcb, WriteXfcb}
use Rattle.mpm_refusals.specs.Filing.{Situation, block, HaveUsers}
use Rattle.mpm_refusals.specs.Subjects.{drive_number, drive_at, own_file, shared_file, is_shared, opened_in, item_number, key_named, open_key, open_file, subject_by, subject}
use Rattle.mpm_refusals.proofs.AskedLaws.{file_is}

-- an item that a call names has a user as each item has
chosen_user : (b : Bool) (file key : FileKey) → file.user < 16 → cond b (Some file) None ≡ Some key → key.user < 16
chosen_user true file key user e = subst (λ (k : FileKey). k.user < 16) (same_Some file key e) user
chosen_user false file key user e = absurd (cc)

named_user : (opens : OpenFiles) (p number drive : ℕ) (name : List ℕ) (key : FileKey) → HaveUsers opens → file_named opens.items p number drive name ≡ Some key → key.user < 16
unfolding file_named
named_user opens p number drive name key users is =
    elim (place_at opens.items number) as (λ place. IfSome place (λ item. item.file.user < 16) → file_where (is_named p drive name) place ≡ Some key → key.user < 16) [
      | None ↦ λ user e. absurd (cc)
      | Some item ↦ λ user e. chosen_user (is_named p drive name item) item.file key user e
    ] (users number) is

key_user : (s : Situation) (number : Option ℕ) (key : FileKey) → HaveUsers s.filing.opens → option_and_then (key_named s) number ≡ Some key → key.user < 16
key_user s None key users is = absurd (cc)
key_user s (Some number) key users is = named_user s.filing.opens s.caller.process number (drive_number s) (plain (block s).name) key users is

open_by : (s : Situation) (key : Option FileKey) → s.caller.user < 16 → HaveUsers s.filing.opens → open_key s ≡ key → (open_file (own_file s) key).user < 16
unfolding open_key
open_by s None own users is = own
open_by s (Some key) own users is = key_user s (item_number s) key users is

open_user : (s : Situation) → s.caller.user < 16 → HaveUsers s.filing.opens → (open_file (own_file s) (open_key s)).user < 16
open_user s own users = open_by s (open_key s) own users refl

-- a file that is opened is the user's own, or user 0's
opened_user : (drive : Drive) (file : FileName) → file.user < 16 → (opened_in drive file).user < 16
unfolding opened_in
opened_user drive file user = either (λ (f : FileName). f.user < 16) (is_shared drive file) (shared_file file) file (λ _. omega arith) (λ _. user)

pub subject_name : (s : Situation) → (subject s).name ≡ plain (block s).name
subject_name s = ap (λ (file : FileName). file.name) (sym (file_is s))

user_by : (s : Situation) (function : FileFunction) → s.caller.user < 16 → HaveUsers s.filing.opens
    → (subject_by (drive_at s) (own_file s) (open_key s) function).user < 16
unfolding subject_by
user_by s OpenFile own users = opened_user (drive_at s) (own_file s) own
user_by s CloseFile own users = open_user s own users
user_by s ReadSequential own users = open_user s own users
user_by s WriteSequential own users = open_user s own users
user_by s ReadRandom own users = open_user s own users
user_by s WriteRandom own users = open_user s own users
user_by s TestAndWrite own users = open_user s own users
user_by s LockRecord own users = open_user s own users
user_by s UnlockRecord own users = open_user s own users
user_by s ResetDisks own users = own
user_by s SearchFirst own users = own
user_by s SearchNext own users = own
user_by s DeleteFile own users = own
user_by s MakeFile own users = own
user_by s RenameFile own users = own
user_by s ProtectDisk own users = own
user_by s SetAttributes own users = own
user_by s FileSize own users = own
user_by s ResetDrives own users = own
user_by s AccessDrives own users = own
user_by s FreeDrives own users = own
user_by s FreeSpace own users = own
user_by s FlushBuffers own users = own
user_by s SetLabel own users = own
user_by s LabelData own users = own
user_by s ReadXfcb own users = own
user_by s WriteXfcb own users = own

pub subject_user : (s : Situation) → s.caller.user < 16 → HaveUsers s.filing.opens → (subject s).user < 16
subject_user s own users = user_by s s.function own users
