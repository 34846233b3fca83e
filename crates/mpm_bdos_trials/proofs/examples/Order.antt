-- Worked examples of calls that would be refused for several things: the value of each is that of the first, in one order for all
-- calls. Of the calls of each example the next lacks what the one before it was refused for.
use Rattle.std.proofs.Common.{refl}
use Rattle.std.specs.Prelude.{◌≡◌, ℕ, List, [], ◌∷◌, ◌++◌, Some, map, replicate}
use Rattle.std.specs.FinMap.{get-entries, len-entries, entries}
use Rattle.mpm_opens.specs.declared.kinds.Mode.TheVariants.{Locked}
use Rattle.mpm_opens.specs.Opens.{OpenFiles}
use Rattle.mpm_fcb.specs.declared.block.ControlBlock.{ControlBlock}
use Rattle.mpm_file_functions.specs.declared.functions.FileFunction.{FileFunction}
use Rattle.mpm_file_functions.specs.declared.functions.FileFunction.TheVariants.{OpenFile, WriteSequential, MakeFile, RenameFile, SetAttributes, WriteXfcb}
use Rattle.mpm_refusals.specs.Filing.{Filing}
use Rattle.mpm_bdos.specs.Outcomes.{file_call}
use Rattle.mpm_bdos_trials.proofs.examples.Computing.{file_calls}
use Rattle.mpm_bdos_trials.proofs.examples.Situations.{Extents, Xfcbs, HasTwo, name_a, name_b, any_name, file_of, block_of_name, ones_128, records_of_10, read_only_records, secret, guarded, label_with, floppy, with_kept, filing_of, a_protected, with_protected, nothing_open, item_of, two_open, call, many_open, open_by_1, renaming}

-- A is read-only; where both A and B have a password, no entry of the directory is free
abbrev name_c : List ℕ
name_c = 67 ∷ replicate 10 32

abbrev filing : Extents → Xfcbs → OpenFiles → Filing
filing m x opens = filing_of (with_kept 59 (floppy m x (Some (label_with 0x81)))) opens

abbrev protecting : Extents → Xfcbs → OpenFiles → Filing
protecting m x opens = with_protected a_protected (filing m x opens)

abbrev no_password : List ℕ
no_password = replicate 16 0

-- process 2 has both open
abbrev both_open : OpenFiles
both_open = two_open (item_of 2 name_a Locked 1) (item_of 2 name_b Locked 1)

-- 64 files are open by the processes from one on, sixteen by each
abbrev all_open : ℕ → OpenFiles
all_open first = many_open first 64 0

-- 15: a pattern, no file, no password, open in locked mode by process 2, 16 files of process 1 of 64, 64 files of others
pub order_of_opening : (m : Extents) (x : Xfcbs)
    → HasTwo m name_a read_only_records name_b records_of_10
    → entries x ≡ (file_of name_a, guarded) ∷ []
    → ((file_call (call (filing m x both_open) OpenFile (block_of_name any_name) no_password)).answer.hl ≡ 0x09FF)
    × ((file_call (call (filing m x both_open) OpenFile (block_of_name name_c) no_password)).answer.hl ≡ 0x00FF)
    × ((file_call (call (filing m x both_open) OpenFile (block_of_name name_a) no_password)).answer.hl ≡ 0x07FF)
    × ((file_call (call (filing m x both_open) OpenFile (block_of_name name_a) secret)).answer.hl ≡ 0x05FF)
    × ((file_call (call (filing m x (all_open 1)) OpenFile (block_of_name name_a) secret)).answer.hl ≡ 0x0AFF)
    × ((file_call (call (filing m x (all_open 2)) OpenFile (block_of_name name_a) secret)).answer.hl ≡ 0x0BFF)
    × ((file_call (call (filing m x nothing_open) OpenFile (block_of_name name_a) secret)).answer.hl ≡ 0)
unfolding file_calls
order_of_opening m x e f = (refl, simp (get-entries, e) refl, simp (get-entries, e, f) refl, simp (get-entries, e, f) refl, simp (get-entries, e, f) refl, simp (get-entries, e, f) refl, simp (get-entries, e, f) refl)

-- 22: a pattern, a protected drive, a file of that name, 16 files of process 1 of 64, 64 files of others, no free entry
pub order_of_making : (m : Extents) (x : Xfcbs)
    → HasTwo m name_a read_only_records name_b records_of_10
    → entries x ≡ (file_of name_a, guarded) ∷ ((file_of name_b, guarded) ∷ [])
    → ((file_call (call (protecting m x (all_open 1)) MakeFile (block_of_name any_name) no_password)).answer.hl ≡ 0x09FF)
    × ((file_call (call (protecting m x (all_open 1)) MakeFile (block_of_name name_a) no_password)).answer.hl ≡ 0x02FF)
    × ((file_call (call (filing m x (all_open 1)) MakeFile (block_of_name name_a) no_password)).answer.hl ≡ 0x08FF)
    × ((file_call (call (filing m x (all_open 1)) MakeFile (block_of_name name_c) no_password)).answer.hl ≡ 0x0AFF)
    × ((file_call (call (filing m x (all_open 2)) MakeFile (block_of_name name_c) no_password)).answer.hl ≡ 0x0BFF)
    × ((file_call (call (filing m x nothing_open) MakeFile (block_of_name name_c) no_password)).answer.hl ≡ 0x00FF)
unfolding file_calls
order_of_making m x e f = (refl, refl, simp (e) refl, simp (e) refl, simp (e) refl, simp (len-entries, e, f) refl)

-- 23: a pattern, no file, a protected drive, a read-only file, a file of the new name, no password, open by process 2
pub order_of_renaming : (m : Extents) (x : Xfcbs)
    → HasTwo m name_a read_only_records name_b records_of_10
    → entries x ≡ (file_of name_a, guarded) ∷ ((file_of name_b, guarded) ∷ [])
    → ((file_call (call (protecting m x both_open) RenameFile (renaming name_c any_name) no_password)).answer.hl ≡ 0x09FF)
    × ((file_call (call (protecting m x both_open) RenameFile (renaming name_c name_b) no_password)).answer.hl ≡ 0x00FF)
    × ((file_call (call (protecting m x both_open) RenameFile (renaming name_a name_b) no_password)).answer.hl ≡ 0x02FF)
    × ((file_call (call (filing m x both_open) RenameFile (renaming name_a name_b) no_password)).answer.hl ≡ 0x03FF)
    × ((file_call (call (filing m x both_open) RenameFile (renaming name_b name_a) no_password)).answer.hl ≡ 0x08FF)
    × ((file_call (call (filing m x both_open) RenameFile (renaming name_b name_c) no_password)).answer.hl ≡ 0x07FF)
    × ((file_call (call (filing m x both_open) RenameFile (renaming name_b name_c) secret)).answer.hl ≡ 0x05FF)
unfolding file_calls
order_of_renaming m x e f = (refl, simp (e) refl, simp (e) refl, simp (e) refl, simp (e) refl, simp (get-entries, e, f) refl, simp (get-entries, e, f) refl)

-- 30 and 103: a pattern, no file, a protected drive, no password, open by process 2
abbrev OrderOfFive : Extents → Xfcbs → FileFunction → Type 0
OrderOfFive m x function =
    ((file_call (call (protecting m x both_open) function (block_of_name any_name) no_password)).answer.hl ≡ 0x09FF)
    × ((file_call (call (protecting m x both_open) function (block_of_name name_c) no_password)).answer.hl ≡ 0x00FF)
    × ((file_call (call (protecting m x both_open) function (block_of_name name_b) no_password)).answer.hl ≡ 0x02FF)
    × ((file_call (call (filing m x both_open) function (block_of_name name_b) no_password)).answer.hl ≡ 0x07FF)
    × ((file_call (call (filing m x both_open) function (block_of_name name_b) (secret ++ secret))).answer.hl ≡ 0x05FF)

pub order_of_attributes : (m : Extents) (x : Xfcbs)
    → HasTwo m name_a read_only_records name_b records_of_10
    → entries x ≡ (file_of name_a, guarded) ∷ ((file_of name_b, guarded) ∷ [])
    → OrderOfFive m x SetAttributes
unfolding file_calls
order_of_attributes m x e f = (refl, simp (e) refl, simp (e) refl, simp (get-entries, e, f) refl, simp (get-entries, e, f) refl)

pub order_of_xfcb : (m : Extents) (x : Xfcbs)
    → HasTwo m name_a read_only_records name_b records_of_10
    → entries x ≡ (file_of name_a, guarded) ∷ ((file_of name_b, guarded) ∷ [])
    → OrderOfFive m x WriteXfcb
unfolding file_calls
order_of_xfcb m x e f = (refl, simp (e) refl, simp (e) refl, simp (get-entries, e, f) refl, simp (get-entries, e, f) refl)

-- 21: no handle, a position beyond the greatest, a protected drive, a read-only file
abbrev at_end : ℕ → ControlBlock
at_end handle = record (block_of_name name_a) { ex = 31; s2 = 63; cr = 128; map = handle ∷ replicate 15 0 }

abbrev at_start : ControlBlock
at_start = record (block_of_name name_a) { map = 1 ∷ replicate 15 0 }

pub order_of_writing : (m : Extents) (x : Xfcbs)
    → HasTwo m name_a read_only_records name_b records_of_10
    → ((file_call (call (protecting m x open_by_1) WriteSequential (at_end 0) ones_128)).answer.hl ≡ 10)
    × ((file_call (call (protecting m x open_by_1) WriteSequential (at_end 1) ones_128)).answer.hl ≡ 6)
    × ((file_call (call (protecting m x open_by_1) WriteSequential at_start ones_128)).answer.hl ≡ 0x02FF)
    × ((file_call (call (filing m x open_by_1) WriteSequential at_start ones_128)).answer.hl ≡ 0x03FF)
unfolding file_calls
order_of_writing m x e = (refl, refl, refl, simp (e) refl)
