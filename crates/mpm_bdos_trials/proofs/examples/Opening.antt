-- Worked examples of the calls that open, make and close files: functions 15, 22 and 16.
use Rattle.std.proofs.Common.{refl}
use Rattle.std.specs.Prelude.{◌≡◌, [], ◌∷◌, ◌++◌, Some, None, replicate}
use Rattle.std.specs.FinMap.{entries, get-entries, len-entries, get-insert, entries-insert}
use Rattle.mpm_base.specs.Calls.{answering}
use Rattle.mpm_mount.specs.Drives.{PhysicalExtent, with_xfcb}
use Rattle.mpm_mount.proofs.Orders.{entry_total}
use Rattle.mpm_opens.specs.declared.kinds.Mode.TheVariants.{Locked, Unlocked, ReadOnly}
use Rattle.mpm_file_functions.specs.declared.functions.FileFunction.TheVariants.{OpenFile, CloseFile, MakeFile}
use Rattle.mpm_refusals.specs.Filing.{Situation}
use Rattle.mpm_bdos.specs.Outcomes.{file_call}
use Rattle.mpm_bdos_trials.proofs.examples.Computing.{file_calls}
use Rattle.mpm_bdos_trials.proofs.examples.Situations.{Extents, Xfcbs, HasFile, name_a, any_name, file_of, block_of_name, block_a, open_a, with_handle, no_records, records_of_10, secret, guarded, label_with, floppy, with_kept, with_file, filing_of, nothing_open, item_of, one_open, two_open, lock_of, with_locks, call, knowing, fails, fails_on, tells, done, name_with_f5, name_with_f6, many_open, system_file}

-- 15: a pattern names no one file
pub pattern_not_opened : (m : Extents) (x : Xfcbs)
    → file_call (call (filing_of (floppy m x None) nothing_open) OpenFile (block_of_name any_name) (replicate 8 0))
    ≡ fails_on (call (filing_of (floppy m x None) nothing_open) OpenFile (block_of_name any_name) (replicate 8 0)) 0 9 0x09FF
unfolding file_calls
pattern_not_opened m x = refl

-- an XFCB of mode 80h guards A: with other bytes than its password it isn't opened, with the default password it is
pub password_is_missing : (m : Extents) (x : Xfcbs)
    → HasFile m name_a no_records
    → entries x ≡ (file_of name_a, guarded) ∷ []
    → file_call (call (filing_of (floppy m x (Some (label_with 0x81))) nothing_open) OpenFile block_a (replicate 8 0))
    ≡ fails_on (call (filing_of (floppy m x (Some (label_with 0x81))) nothing_open) OpenFile block_a (replicate 8 0)) 0 7 0x07FF
unfolding file_calls
password_is_missing m x e f = simp (get-entries, e, f) refl

pub default_password_opens : (m : Extents) (x : Xfcbs)
    → HasFile m name_a no_records
    → entries x ≡ (file_of name_a, guarded) ∷ []
    → (file_call (knowing secret (call (filing_of (floppy m x (Some (label_with 0x81))) nothing_open) OpenFile block_a (replicate 8 0)))).answer.hl ≡ 0
unfolding file_calls
default_password_opens m x e f = simp (get-entries, e, f) refl

-- process 2 has A open in locked mode
pub open_by_another : (m : Extents) (x : Xfcbs)
    → HasFile m name_a no_records
    → entries x ≡ []
    → file_call (call (filing_of (floppy m x None) (one_open (item_of 2 name_a Locked 1))) OpenFile block_a (replicate 8 0))
    ≡ fails_on (call (filing_of (floppy m x None) (one_open (item_of 2 name_a Locked 1))) OpenFile block_a (replicate 8 0)) 0 5 0x05FF
unfolding file_calls
open_by_another m x e f = simp (get-entries, e, f) refl

-- in unlocked mode: read-only mode doesn't go with it
pub open_in_unlocked_mode : (m : Extents) (x : Xfcbs)
    → HasFile m name_a no_records
    → entries x ≡ []
    → file_call (call (filing_of (floppy m x None) (one_open (item_of 2 name_a Unlocked 1))) OpenFile (block_of_name name_with_f6) (replicate 8 0))
    ≡ fails_on (call (filing_of (floppy m x None) (one_open (item_of 2 name_a Unlocked 1))) OpenFile (block_of_name name_with_f6) (replicate 8 0)) 0 5 0x05FF
unfolding file_calls
open_in_unlocked_mode m x e f = simp (get-entries, e, f) refl

-- unlocked mode does: the new item has the next number
pub opened_beside_another : (m : Extents) (x : Xfcbs)
    → HasFile m name_a records_of_10
    → entries x ≡ []
    → file_call (call (filing_of (floppy m x None) (one_open (item_of 2 name_a Unlocked 1))) OpenFile (block_of_name name_with_f5) (replicate 8 0))
    ≡ tells 0 (filing_of (floppy m x None) (two_open (item_of 2 name_a Unlocked 1) (item_of 1 name_a Unlocked 1)))
    (Some (record (with_handle 2 block_a) { rc = 10; random = 2 ∷ 0 ∷ 0 ∷ [] })) []
unfolding file_calls
opened_beside_another m x e f = simp (get-entries, e, f) refl

-- the caller itself has it open: in another mode it isn't opened, in the same one it is counted, up to 255 times
pub open_in_another_mode : (m : Extents) (x : Xfcbs)
    → HasFile m name_a no_records
    → entries x ≡ []
    → file_call (call (filing_of (floppy m x None) (one_open (item_of 1 name_a Locked 1))) OpenFile (block_of_name name_with_f5) (replicate 8 0))
    ≡ fails_on (call (filing_of (floppy m x None) (one_open (item_of 1 name_a Locked 1))) OpenFile (block_of_name name_with_f5) (replicate 8 0)) 0 5 0x05FF
unfolding file_calls
open_in_another_mode m x e f = simp (get-entries, e, f) refl

pub opened_again : (m : Extents) (x : Xfcbs)
    → HasFile m name_a records_of_10
    → entries x ≡ []
    → file_call (call (filing_of (floppy m x None) (one_open (item_of 1 name_a Locked 1))) OpenFile block_a (replicate 8 0))
    ≡ tells 0 (filing_of (floppy m x None) (one_open (item_of 1 name_a Locked 2))) (Some (record open_a { rc = 10 })) []
unfolding file_calls
opened_again m x e f = simp (get-entries, e, f) refl

pub opened_too_often : (m : Extents) (x : Xfcbs)
    → HasFile m name_a no_records
    → entries x ≡ []
    → file_call (call (filing_of (floppy m x None) (one_open (item_of 1 name_a Locked 255))) OpenFile block_a (replicate 8 0))
    ≡ fails_on (call (filing_of (floppy m x None) (one_open (item_of 1 name_a Locked 255))) OpenFile block_a (replicate 8 0)) 0 10 0x0AFF
unfolding file_calls
opened_too_often m x e f = simp (get-entries, e, f) refl

-- it has 16 files open: extended error 10
pub sixteen_open : (m : Extents) (x : Xfcbs)
    → HasFile m name_a no_records
    → entries x ≡ []
    → file_call (call (filing_of (floppy m x None) (many_open 1 16 48)) OpenFile block_a (replicate 8 0))
    ≡ fails_on (call (filing_of (floppy m x None) (many_open 1 16 48)) OpenFile block_a (replicate 8 0)) 0 10 0x0AFF
unfolding file_calls
sixteen_open m x e f = simp (get-entries, e, f) refl

-- the processes 2 to 5 have 64 together: extended error 11
pub all_items_open : (m : Extents) (x : Xfcbs)
    → HasFile m name_a no_records
    → entries x ≡ []
    → file_call (call (filing_of (floppy m x None) (many_open 2 64 0)) OpenFile block_a (replicate 8 0))
    ≡ fails_on (call (filing_of (floppy m x None) (many_open 2 64 0)) OpenFile block_a (replicate 8 0)) 0 11 0x0BFF
unfolding file_calls
all_items_open m x e f = simp (get-entries, e, f) refl

-- in unlocked mode the block has the handle, and the number in R0 and R1; S1 and S2 are zero, F5' is taken off, and R2 stays
pub opened_unlocked : (m : Extents) (x : Xfcbs)
    → HasFile m name_a records_of_10
    → entries x ≡ []
    → file_call (call (filing_of (floppy m x None) nothing_open) OpenFile (record (block_of_name name_with_f5) { s1 = 7; s2 = 7; random = replicate 3 7 }) (replicate 8 0))
    ≡ tells 0 (filing_of (floppy m x None) (one_open (item_of 1 name_a Unlocked 1))) (Some (record open_a { rc = 10; random = 1 ∷ 0 ∷ 7 ∷ [] })) []
unfolding file_calls
opened_unlocked m x e f = simp (get-entries, e, f) refl

-- process 1 opens as user 3 the system file A of user 0: it is open in read-only mode, and shows T2'
abbrev as_user_3 : Situation → Situation
as_user_3 s = record s { caller = record { process = 1; user = 3; drive = 0; multi = 1; password = replicate 8 0 } }

pub shared_file_opened : (m : Extents) (x : Xfcbs)
    → HasFile m name_a system_file
    → entries x ≡ []
    → file_call (as_user_3 (call (filing_of (floppy m x None) nothing_open) OpenFile block_a (replicate 8 0)))
    ≡ tells 0 (filing_of (floppy m x None) (one_open (item_of 1 name_a ReadOnly 1))) (Some (record open_a { name = 65 ∷ (replicate 8 32 ++ (160 ∷ 32 ∷ [])); rc = 10 })) []
unfolding file_calls
shared_file_opened m x e f = simp (get-entries, e, f) refl

-- one that isn't a system file isn't found
pub not_shared : (m : Extents) (x : Xfcbs)
    → HasFile m name_a records_of_10
    → (file_call (as_user_3 (call (filing_of (floppy m x None) nothing_open) OpenFile block_a (replicate 8 0)))).answer ≡ answering 0x00FF
unfolding file_calls
not_shared m x e = simp (get-entries, e) refl

-- 22: A is there already: extended error 8
pub name_is_taken : (m : Extents) (x : Xfcbs)
    → HasFile m name_a records_of_10
    → file_call (call (filing_of (floppy m x None) nothing_open) MakeFile block_a (replicate 9 0))
    ≡ fails_on (call (filing_of (floppy m x None) nothing_open) MakeFile block_a (replicate 9 0)) 0 8 0x08FF
unfolding file_calls
name_is_taken m x e = simp (e) refl

-- all 64 directory entries are used
pub no_entry_for_file : (m : Extents) (x : Xfcbs)
    → entries m ≡ []
    → entries x ≡ []
    → file_call (call (filing_of (with_kept 64 (floppy m x None)) nothing_open) MakeFile block_a (replicate 9 0))
    ≡ fails (call (filing_of (with_kept 64 (floppy m x None)) nothing_open) MakeFile block_a (replicate 9 0)) 0x00FF
unfolding file_calls
no_entry_for_file m x e f = simp (len-entries, e, f) refl

-- one is free, but with its XFCB, for which the label asks by 10h, the file needs two
pub no_entry_for_xfcb : (m : Extents) (x : Xfcbs)
    → entries m ≡ []
    → entries x ≡ []
    → file_call (call (filing_of (with_kept 62 (floppy m x (Some (label_with 0x11)))) nothing_open) MakeFile block_a (replicate 9 0))
    ≡ fails (call (filing_of (with_kept 62 (floppy m x (Some (label_with 0x11)))) nothing_open) MakeFile block_a (replicate 9 0)) 0x00FF
unfolding file_calls
no_entry_for_xfcb m x e f = simp (get-entries, len-entries, e, f) refl

-- A is made in unlocked mode: EX, CR and R2 stay
pub made_unlocked : (m : Extents) (x : Xfcbs)
    → entries m ≡ []
    → entries x ≡ []
    → file_call (call (filing_of (floppy m x None) nothing_open) MakeFile (record (block_of_name name_with_f5) { s1 = 7; s2 = 7; rc = 7; cr = 7; random = replicate 3 7 }) (replicate 9 0))
    ≡ tells 0 (filing_of (with_file (floppy m x None) name_a no_records) (one_open (item_of 1 name_a Unlocked 1))) (Some (record open_a { cr = 7; random = 1 ∷ 0 ∷ 7 ∷ [] })) []
unfolding file_calls
made_unlocked m x e f = simp (get-insert {X = PhysicalExtent} entry_total, entries-insert {X = PhysicalExtent} entry_total, len-entries, e, f) refl

-- with F6' and a label of 80h it gets an XFCB with the password and the mode of the call
pub made_with_password : (m : Extents) (x : Xfcbs)
    → entries m ≡ []
    → entries x ≡ []
    → (file_call (call (filing_of (floppy m x (Some (label_with 0x81))) nothing_open) MakeFile (block_of_name name_with_f6) (secret ++ (0x80 ∷ [])))).filing
    ≡ filing_of (with_xfcb (with_file (floppy m x (Some (label_with 0x81))) name_a no_records) (file_of name_a) guarded) (one_open (item_of 1 name_a Locked 1))
unfolding file_calls
made_with_password m x e f = simp (get-entries, len-entries, e, f) refl

-- 16: without its handle no file is closed
pub no_handle_to_close : (m : Extents) (x : Xfcbs)
    → file_call (call (filing_of (floppy m x None) (one_open (item_of 1 name_a Locked 1))) CloseFile block_a [])
    ≡ fails (call (filing_of (floppy m x None) (one_open (item_of 1 name_a Locked 1))) CloseFile block_a []) 0x00FF
unfolding file_calls
no_handle_to_close m x = refl

-- a file that was opened twice stays open
pub closed_once : (m : Extents) (x : Xfcbs)
    → file_call (call (filing_of (floppy m x None) (one_open (item_of 1 name_a Locked 2))) CloseFile open_a [])
    ≡ done (filing_of (floppy m x None) (one_open (item_of 1 name_a Locked 1)))
unfolding file_calls
closed_once m x = refl

-- closed for the last time it gives back its locks, those of process 1 alone
pub closed_with_locks : (m : Extents) (x : Xfcbs)
    → (file_call (call
    (filing_of (floppy m x None) (with_locks (lock_of 1 name_a 5 ∷ (lock_of 2 name_a 6 ∷ [])) (two_open (item_of 1 name_a Unlocked 1) (item_of 2 name_a Unlocked 1))))
    CloseFile open_a [])).filing.opens
    ≡ with_locks (lock_of 2 name_a 6 ∷ []) (two_open None (item_of 2 name_a Unlocked 1))
unfolding file_calls
closed_with_locks m x = refl

-- with F5' nothing is done
pub closed_in_part : (m : Extents) (x : Xfcbs)
    → file_call (call (filing_of (floppy m x None) (one_open (item_of 1 name_a Locked 1))) CloseFile (record open_a { name = name_with_f5 }) [])
    ≡ done (filing_of (floppy m x None) (one_open (item_of 1 name_a Locked 1)))
unfolding file_calls
closed_in_part m x = refl
