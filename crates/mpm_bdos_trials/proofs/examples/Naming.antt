-- Worked examples of the calls that change files by their names: functions 19, 23 and 30.
use Rattle.std.proofs.Common.{refl}
use Rattle.std.specs.Prelude.{◌≡◌, ℕ, List, [], ◌∷◌, ◌++◌, Some, None, true, false, replicate}
use Rattle.std.specs.FinMap.{get-entries, entries}
use Rattle.mpm_mount.specs.Drives.{PhysicalExtent, with_xfcb, without_xfcb}
use Rattle.mpm_opens.specs.declared.kinds.Mode.TheVariants.{Locked}
use Rattle.mpm_fcb.specs.declared.block.ControlBlock.{ControlBlock}
use Rattle.mpm_file_functions.specs.declared.functions.FileFunction.TheVariants.{DeleteFile, RenameFile, SetAttributes}
use Rattle.mpm_refusals.specs.Filing.{Filing}
use Rattle.mpm_bdos.specs.Outcomes.{file_call}
use Rattle.mpm_bdos_trials.proofs.examples.Computing.{file_calls}
use Rattle.mpm_bdos_trials.proofs.examples.Situations.{Extents, Xfcbs, HasFile, HasTwo, name_a, name_b, any_name, file_of, block_of_name, block_a, records_of_10, read_only_records, guarded, label_with, floppy, with_file, without_file, filing_of, a_protected, with_protected, nothing_open, item_of, one_open, call, fails, fails_on, done, system_file, renaming}

abbrev closed : Extents → Xfcbs → Filing
closed m x = filing_of (floppy m x None) nothing_open

abbrev open_by : ℕ → Extents → Xfcbs → Filing
open_by process m x = filing_of (floppy m x None) (one_open (item_of process name_a Locked 1))

abbrev guarding : Extents → Xfcbs → Filing
guarding m x = filing_of (floppy m x (Some (label_with 0x81))) nothing_open

abbrev no_password : List ℕ
no_password = replicate 8 0

abbrev any_block : ControlBlock
any_block = block_of_name any_name

-- 19: no name fits
pub nothing_to_delete : (m : Extents) (x : Xfcbs)
    → HasFile m name_a records_of_10
    → file_call (call (closed m x) DeleteFile (block_of_name name_b) no_password) ≡ fails (call (closed m x) DeleteFile (block_of_name name_b) no_password) 0x00FF
unfolding file_calls
nothing_to_delete m x e = simp (e) refl

-- of the files that are deleted the first by name that is refused decides: A, which process 2 has open
pub open_file_before_read_only : (m : Extents) (x : Xfcbs)
    → HasTwo m name_a records_of_10 name_b read_only_records
    → entries x ≡ []
    → file_call (call (open_by 2 m x) DeleteFile any_block no_password) ≡ fails_on (call (open_by 2 m x) DeleteFile any_block no_password) 0 5 0x05FF
unfolding file_calls
open_file_before_read_only m x e f = simp (get-entries, e, f) refl

-- where it has not, B, which is read-only
pub read_only_file_decides : (m : Extents) (x : Xfcbs)
    → HasTwo m name_a records_of_10 name_b read_only_records
    → entries x ≡ []
    → file_call (call (closed m x) DeleteFile any_block no_password) ≡ fails_on (call (closed m x) DeleteFile any_block no_password) 0 3 0x03FF
unfolding file_calls
read_only_file_decides m x e f = simp (get-entries, e, f) refl

-- on a protected drive that comes before both
pub protected_drive_first : (m : Extents) (x : Xfcbs)
    → HasTwo m name_a records_of_10 name_b read_only_records
    → file_call (call (with_protected a_protected (open_by 2 m x)) DeleteFile any_block no_password)
    ≡ fails_on (call (with_protected a_protected (open_by 2 m x)) DeleteFile any_block no_password) 0 2 0x02FF
unfolding file_calls
protected_drive_first m x e = simp (e) refl

-- A is deleted with its XFCB, and given back where the caller had it open; without a label its password doesn't hold
pub file_deleted : (m : Extents) (x : Xfcbs)
    → HasTwo m name_a records_of_10 name_b read_only_records
    → entries x ≡ (file_of name_a, guarded) ∷ []
    → file_call (call (open_by 1 m x) DeleteFile block_a no_password)
    ≡ done (filing_of (without_xfcb (without_file (floppy m x None) name_a) (file_of name_a)) nothing_open)
unfolding file_calls
file_deleted m x e f = simp (get-entries, e, f) refl

-- both are
pub files_deleted : (m : Extents) (x : Xfcbs)
    → HasTwo m name_a records_of_10 name_b records_of_10
    → entries x ≡ []
    → file_call (call (closed m x) DeleteFile any_block no_password) ≡ done (filing_of (without_file (without_file (floppy m x None) name_a) name_b) nothing_open)
unfolding file_calls
files_deleted m x e f = simp (get-entries, e, f) refl

-- 23: a pattern is no new name
pub pattern_as_new_name : (m : Extents) (x : Xfcbs)
    → file_call (call (closed m x) RenameFile (renaming name_a any_name) no_password) ≡ fails_on (call (closed m x) RenameFile (renaming name_a any_name) no_password) 0 9 0x09FF
unfolding file_calls
pattern_as_new_name m x = refl

-- nothing is renamed that isn't there
pub nothing_to_rename : (m : Extents) (x : Xfcbs)
    → HasFile m name_b records_of_10
    → file_call (call (closed m x) RenameFile (renaming name_a name_b) no_password) ≡ fails (call (closed m x) RenameFile (renaming name_a name_b) no_password) 0x00FF
unfolding file_calls
nothing_to_rename m x e = simp (e) refl

-- B is there: that comes before the password that A lacks
pub new_name_is_taken : (m : Extents) (x : Xfcbs)
    → HasTwo m name_a records_of_10 name_b records_of_10
    → entries x ≡ (file_of name_a, guarded) ∷ []
    → file_call (call (guarding m x) RenameFile (renaming name_a name_b) no_password) ≡ fails_on (call (guarding m x) RenameFile (renaming name_a name_b) no_password) 0 8 0x08FF
unfolding file_calls
new_name_is_taken m x e f = simp (e) refl

-- and its own name is there too
pub own_name_is_taken : (m : Extents) (x : Xfcbs)
    → HasFile m name_a records_of_10
    → file_call (call (closed m x) RenameFile (renaming name_a name_a) no_password) ≡ fails_on (call (closed m x) RenameFile (renaming name_a name_a) no_password) 0 8 0x08FF
unfolding file_calls
own_name_is_taken m x e = simp (e) refl

-- process 2 has A open
pub open_file_renamed : (m : Extents) (x : Xfcbs)
    → HasFile m name_a records_of_10
    → entries x ≡ []
    → file_call (call (open_by 2 m x) RenameFile (renaming name_a name_b) no_password) ≡ fails_on (call (open_by 2 m x) RenameFile (renaming name_a name_b) no_password) 0 5 0x05FF
unfolding file_calls
open_file_renamed m x e f = simp (get-entries, e, f) refl

-- A becomes B with its attributes and its XFCB, whatever the bits 7 of the new name, and is given back
pub file_renamed : (m : Extents) (x : Xfcbs)
    → HasFile m name_a system_file
    → entries x ≡ (file_of name_a, guarded) ∷ []
    → file_call (call (open_by 1 m x) RenameFile (renaming name_a (66 ∷ (replicate 7 32 ++ (160 ∷ 32 ∷ 32 ∷ [])))) no_password)
    ≡ done
    (filing_of
    (with_xfcb (without_xfcb (with_file (without_file (floppy m x None) name_a) name_b system_file) (file_of name_a)) (file_of name_b) guarded)
    nothing_open)
unfolding file_calls
file_renamed m x e f = simp (get-entries, e, f) refl

-- 30: F1', F5' and T1' are in the control block, F6' is the entry's own
abbrev marked_name : List ℕ
marked_name = 193 ∷ 32 ∷ 32 ∷ 32 ∷ 160 ∷ 32 ∷ 32 ∷ 32 ∷ 160 ∷ 32 ∷ 32 ∷ []

abbrev with_f6 : PhysicalExtent
with_f6 = record records_of_10 { attributes = replicate 5 false ++ (true ∷ replicate 5 false) }

-- a pattern names no one file
pub pattern_not_changed : (m : Extents) (x : Xfcbs)
    → file_call (call (closed m x) SetAttributes any_block no_password) ≡ fails_on (call (closed m x) SetAttributes any_block no_password) 0 9 0x09FF
unfolding file_calls
pattern_not_changed m x = refl

-- a password holds
pub attributes_without_password : (m : Extents) (x : Xfcbs)
    → HasFile m name_a with_f6
    → entries x ≡ (file_of name_a, guarded) ∷ []
    → file_call (call (guarding m x) SetAttributes (block_of_name marked_name) no_password)
    ≡ fails_on (call (guarding m x) SetAttributes (block_of_name marked_name) no_password) 0 7 0x07FF
unfolding file_calls
attributes_without_password m x e f = simp (get-entries, e, f) refl

-- process 2 has A open
pub attributes_of_open_file : (m : Extents) (x : Xfcbs)
    → HasFile m name_a with_f6
    → entries x ≡ []
    → file_call (call (open_by 2 m x) SetAttributes (block_of_name marked_name) no_password)
    ≡ fails_on (call (open_by 2 m x) SetAttributes (block_of_name marked_name) no_password) 0 5 0x05FF
unfolding file_calls
attributes_of_open_file m x e f = simp (get-entries, e, f) refl

-- F1' to F4' and T1' to T3' become those of the control block, F5' to F8' stay; and the caller's file stays open
pub attributes_set : (m : Extents) (x : Xfcbs)
    → HasFile m name_a with_f6
    → entries x ≡ []
    → file_call (call (open_by 1 m x) SetAttributes (block_of_name marked_name) no_password)
    ≡ done
    (filing_of
    (with_file (floppy m x None) name_a (record records_of_10 {
      attributes = true ∷ false ∷ false ∷ false ∷ false ∷ true ∷ false ∷ false ∷ true ∷ false ∷ false ∷ [];
    }))
    (one_open (item_of 1 name_a Locked 1)))
unfolding file_calls
attributes_set m x e f = simp (get-entries, e, f) refl
