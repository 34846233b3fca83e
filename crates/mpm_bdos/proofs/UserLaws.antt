-- Open files stay those of users 0 to 15.
use Rattle.std.proofs.Common.{◌≡◌, ℕ, zero, suc, ◌<◌, ◌==◌, Bool, true, false, cond, List, [], ◌∷◌, Option, Some, None, sym, subst}
use Rattle.std.specs.Prelude.{nat_lt, slice_set}
use Rattle.mpm_opens.specs.declared.kinds.FileKey.{FileKey}
use Rattle.mpm_opens.specs.declared.kinds.Item.{Item}
use Rattle.mpm_opens.specs.declared.kinds.Mode.{Mode}
use Rattle.mpm_opens.specs.declared.kinds.OpenRefused.{OpenRefused}
use Rattle.mpm_opens.specs.Kinds.{is_file}
use Rattle.mpm_opens.specs.Items.{place_at, with_changed, opened_again, closed_once, that_wrote, new_item, first_free, number_of, refusal_of, opened_at, opened, where_granted, items_added, items_without}
use Rattle.mpm_opens.specs.Opens.{OpenFiles, item_of, process_of, file_of, added, given_back, with_its_item, closed_at, closed, written_at, written}
use Rattle.mpm_opens.proofs.ItemLaws.{place_left, so_of_left}
use Rattle.mpm_file_functions.specs.declared.functions.FileFunction.{FileFunction}
use Rattle.mpm_file_functions.specs.declared.functions.FileFunction.TheVariants.{ResetDisks, OpenFile, CloseFile, SearchFirst, SearchNext, DeleteFile, ReadSequential, WriteSequential, MakeFile, RenameFile, ProtectDisk, SetAttributes, ReadRandom, WriteRandom, FileSize, ResetDrives, AccessDrives, FreeDrives, TestAndWrite, LockRecord, UnlockRecord, FreeSpace, FlushBuffers, SetLabel, LabelData, ReadXfcb, WriteXfcb}
use Rattle.mpm_fcb.specs.Names.{has_f5}
use Rattle.mpm_marks.specs.Marks.{is_bit}
use Rattle.mpm_marks.specs.Driving.{freed_by}
use Rattle.mpm_refusals.specs.declared.asking.Asked.{Asked}
use Rattle.mpm_refusals.specs.declared.subjects.OpenItem.{OpenItem}
use Rattle.mpm_refusals.specs.Subjects.{first_by}
use Rattle.mpm_refusals.specs.Filing.{HaveUsers}
use Rattle.mpm_refusals.proofs.OwnItems.{HasUser, user_at}
use Rattle.mpm_locks.specs.Locks.{unlocking}
use Rattle.mpm_bdos.specs.Changes.{is_among}
use Rattle.mpm_bdos.specs.Leaving.{unlocked_where, left_by}

-- an item that is put in a place
user_put : (items : List (Option Item)) (i : ℕ) (item : Item) → item.file.user < 16 → (k : ℕ) → HasUser (place_at items k) → HasUser (place_at (slice_set items i (Some item)) k)
user_put [] i item low k so = so
user_put (place ∷ items) zero item low zero so = low
user_put (place ∷ items) zero item low (suc k) so = so
user_put (place ∷ items) (suc i) item low zero so = so
user_put (place ∷ items) (suc i) item low (suc k) so = user_put items i item low k so

-- items that are given back
pub users_given : (opens : OpenFiles) (p : ℕ) (among : FileKey → Bool) → HaveUsers opens → HaveUsers (given_back opens p among)
unfolding given_back items_without
users_given opens p among users number =
    subst HasUser (sym (place_left opens.items p among number)) (so_of_left HasUser p among (place_at opens.items number) tt (users number))

-- a file that is closed
closed_by : (b : Bool) (opens : OpenFiles) (number : ℕ) → HaveUsers opens
    → HaveUsers (cond b (record opens { items = with_changed closed_once opens.items number }) (given_back opens (process_of opens number) (is_file (file_of opens number))))
closed_by true opens number users k = user_put opens.items number (closed_once (item_of opens number)) (user_at opens number users) k (users k)
closed_by false opens number users k = users_given opens (process_of opens number) (is_file (file_of opens number)) users k

users_closed_at : (opens : OpenFiles) (number : ℕ) → HaveUsers opens → HaveUsers (closed_at opens number)
unfolding closed_at
users_closed_at opens number users = closed_by (nat_lt 1 (item_of opens number).count) opens number users

users_written_at : (opens : OpenFiles) (number : ℕ) → HaveUsers opens → HaveUsers (written_at opens number)
unfolding written_at
users_written_at opens number users k = user_put opens.items number (that_wrote (item_of opens number)) (user_at opens number users) k (users k)

users_changed : (change : OpenFiles → ℕ → OpenFiles) (opens : OpenFiles) (number : Option ℕ) → ((n : ℕ) → HaveUsers (change opens n)) → HaveUsers opens
    → HaveUsers (with_its_item change opens number)
users_changed change opens None so users = users
users_changed change opens (Some number) so users = so number

users_closed : (opens : OpenFiles) (p : ℕ) (file : FileKey) → HaveUsers opens → HaveUsers (closed opens p file)
unfolding closed
users_closed opens p file users = users_changed closed_at opens (number_of opens.items p file) (λ n. users_closed_at opens n users) users

closed_unless : (b : Bool) (opens : OpenFiles) (p : ℕ) (file : FileKey) → HaveUsers opens → HaveUsers (cond b opens (closed opens p file))
closed_unless true opens p file users = users
closed_unless false opens p file users = users_closed opens p file users

-- a file that was written
users_written : (opens : OpenFiles) (p : ℕ) (file : FileKey) → HaveUsers opens → HaveUsers (written opens p file)
unfolding written
users_written opens p file users = users_changed written_at opens (number_of opens.items p file) (λ n. users_written_at opens n users) users

written_unless : (b : Bool) (opens : OpenFiles) (p : ℕ) (file : FileKey) → HaveUsers opens → HaveUsers (cond b opens (written opens p file))
written_unless true opens p file users = users
written_unless false opens p file users = users_written opens p file users

-- records that are freed
users_unlocking : (opens : OpenFiles) (p : ℕ) (file : FileKey) (n count : ℕ) → HaveUsers opens → HaveUsers (unlocking opens p file n count)
unfolding unlocking
users_unlocking opens p file n count users = users

users_unlocked : (opens : OpenFiles) (p first count : ℕ) (item : Option OpenItem) → HaveUsers opens → HaveUsers (unlocked_where opens p first count item)
users_unlocked opens p first count None users = users
users_unlocked opens p first count (Some item) users = users_unlocking opens p item.file first count users

-- a file that is opened
opened_users : (opens : OpenFiles) (p : ℕ) (file : FileKey) (mode : Mode) (number : Option ℕ) → HaveUsers opens → file.user < 16
    → HaveUsers (record opens { items = opened_at opens.items p file mode number })
opened_users opens p file mode None users low k = user_put opens.items (first_free opens.items) (new_item p file mode) low k (users k)
opened_users opens p file mode (Some number) users low k = user_put opens.items number (opened_again (item_of opens number)) (user_at opens number users) k (users k)

granted_users : (opens : OpenFiles) (items : List (Option Item)) (refusal : Option OpenRefused) → HaveUsers opens → HaveUsers (record opens { items = items })
    → HaveUsers (record opens { items = where_granted refusal items opens.items })
granted_users opens items None users so = so
granted_users opens items (Some refusal) users so = users

pub users_added : (opens : OpenFiles) (p : ℕ) (file : FileKey) (mode : Mode) → HaveUsers opens → file.user < 16 → HaveUsers (added opens p file mode)
unfolding added items_added opened
users_added opens p file mode users low =
    granted_users opens (opened opens.items p file mode) (refusal_of opens.items p file mode) users
    (opened_users opens p file mode (number_of opens.items p file) users low)

-- all that a call leaves
users_after : (opens : OpenFiles) (a : Asked) (file : FileKey) (moved : ℕ) (deleted : List (Option FileKey)) (f : FileFunction) → HaveUsers opens → HaveUsers (left_by opens a file moved deleted f)
unfolding left_by
users_after opens a file moved deleted ResetDisks users = users
users_after opens a file moved deleted OpenFile users = users
users_after opens a file moved deleted CloseFile users = closed_unless (has_f5 a.block) opens a.caller.process file users
users_after opens a file moved deleted SearchFirst users = users
users_after opens a file moved deleted SearchNext users = users
users_after opens a file moved deleted DeleteFile users = users_given opens a.caller.process (is_among deleted) users
users_after opens a file moved deleted ReadSequential users = users
users_after opens a file moved deleted WriteSequential users = written_unless (moved == 0) opens a.caller.process file users
users_after opens a file moved deleted MakeFile users = users
users_after opens a file moved deleted RenameFile users = users_given opens a.caller.process (is_file file) users
users_after opens a file moved deleted ProtectDisk users = users
users_after opens a file moved deleted SetAttributes users = users
users_after opens a file moved deleted ReadRandom users = users
users_after opens a file moved deleted WriteRandom users = written_unless (moved == 0) opens a.caller.process file users
users_after opens a file moved deleted FileSize users = users
users_after opens a file moved deleted ResetDrives users = users
users_after opens a file moved deleted AccessDrives users = users
users_after opens a file moved deleted FreeDrives users = users
users_after opens a file moved deleted TestAndWrite users = written_unless (moved == 0) opens a.caller.process file users
users_after opens a file moved deleted LockRecord users = users
users_after opens a file moved deleted UnlockRecord users = users_unlocked opens a.caller.process (first_by a.block UnlockRecord) a.caller.multi a.item users
users_after opens a file moved deleted FreeSpace users = users
users_after opens a file moved deleted FlushBuffers users = users
users_after opens a file moved deleted SetLabel users = users
users_after opens a file moved deleted LabelData users = users
users_after opens a file moved deleted ReadXfcb users = users
users_after opens a file moved deleted WriteXfcb users = users

pub users_kept : (opens new : OpenFiles) (a : Asked) (file : FileKey) (moved : ℕ) (deleted : List (Option FileKey)) → new ≡ left_by opens a file moved deleted a.function → HaveUsers opens → HaveUsers new
users_kept opens new a file moved deleted is users = subst HaveUsers (sym is) (users_after opens a file moved deleted a.function users)

users_freed_by : (opens : OpenFiles) (p mask : ℕ) (f : FileFunction) → HaveUsers opens → HaveUsers (freed_by opens p mask f)
users_freed_by opens p mask ResetDisks users = users
users_freed_by opens p mask OpenFile users = users
users_freed_by opens p mask CloseFile users = users
users_freed_by opens p mask SearchFirst users = users
users_freed_by opens p mask SearchNext users = users
users_freed_by opens p mask DeleteFile users = users
users_freed_by opens p mask ReadSequential users = users
users_freed_by opens p mask WriteSequential users = users
users_freed_by opens p mask MakeFile users = users
users_freed_by opens p mask RenameFile users = users
users_freed_by opens p mask ProtectDisk users = users
users_freed_by opens p mask SetAttributes users = users
users_freed_by opens p mask ReadRandom users = users
users_freed_by opens p mask WriteRandom users = users
users_freed_by opens p mask FileSize users = users
users_freed_by opens p mask ResetDrives users = users
users_freed_by opens p mask AccessDrives users = users
users_freed_by opens p mask FreeDrives users = users_given opens p (λ key. is_bit mask key.drive) users
users_freed_by opens p mask TestAndWrite users = users
users_freed_by opens p mask LockRecord users = users
users_freed_by opens p mask UnlockRecord users = users
users_freed_by opens p mask FreeSpace users = users
users_freed_by opens p mask FlushBuffers users = users
users_freed_by opens p mask SetLabel users = users
users_freed_by opens p mask LabelData users = users
users_freed_by opens p mask ReadXfcb users = users
users_freed_by opens p mask WriteXfcb users = users

pub users_driven : (old new : OpenFiles) (p mask : ℕ) (f : FileFunction) → new ≡ freed_by old p mask f → HaveUsers old → HaveUsers new
users_driven old new p mask f is users = subst HaveUsers (sym is) (users_freed_by old p mask f users)

pub users_same : (old new : OpenFiles) → new.items ≡ old.items → HaveUsers old → HaveUsers new
users_same old new same users = subst (λ (items : List (Option Item)). (k : ℕ) → HasUser (place_at items k)) (sym same) users

pub users_opened : (old new : OpenFiles) (p : ℕ) (file : FileKey) (mode : Mode) → new ≡ added old p file mode → HaveUsers old → file.user < 16 → HaveUsers new
users_opened old new p file mode is users low = subst HaveUsers (sym is) (users_added old p file mode users low)
