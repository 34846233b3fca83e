-- Worked examples of the calls that read records: functions 20 and 33. Process 1 has A open in locked mode.
use Rattle.std.proofs.Common.{refl}
use Rattle.std.specs.Prelude.{◌≡◌, ℕ, List, [], ◌∷◌, ◌++◌, Some, None, replicate}
use Rattle.std.specs.FinMap.{get-entries, entries}
use Rattle.mpm_opens.specs.declared.kinds.Mode.TheVariants.{Locked}
use Rattle.mpm_fcb.specs.declared.block.ControlBlock.{ControlBlock}
use Rattle.mpm_file_functions.specs.declared.functions.FileFunction.TheVariants.{ReadSequential, ReadRandom}
use Rattle.mpm_refusals.specs.Filing.{Filing}
use Rattle.mpm_bdos.specs.Outcomes.{file_call}
use Rattle.mpm_bdos_trials.proofs.examples.Computing.{file_calls}
use Rattle.mpm_bdos_trials.proofs.examples.Situations.{Extents, Xfcbs, HasFile, name_a, open_a, with_handle, at_random, zeros_128, extent_of, empty_block, records_of_10, floppy, filing_of, item_of, one_open, call, call_for, fails, tells, ends}

abbrev filing : Extents → Xfcbs → Filing
filing m x = filing_of (floppy m x None) (one_open (item_of 1 name_a Locked 1))

-- two extents: the first is full, the second has one record
abbrev HasRecords129 : Extents → List ℕ → Type 0
HasRecords129 m bytes =
    entries m
    ≡ (record { user = 0; name = name_a; number = 0 }, extent_of 0 128 (replicate 16 empty_block))
    ∷ ((record { user = 0; name = name_a; number = 1 }, extent_of 1 1 (Some (bytes ∷ replicate 7 zeros_128) ∷ replicate 15 None)) ∷ [])

-- 20: a handle with another byte names no open file
pub another_byte_in_the_handle : (m : Extents) (x : Xfcbs)
    → file_call (call (filing m x) ReadSequential (with_handle 2 open_a) []) ≡ fails (call (filing m x) ReadSequential (with_handle 2 open_a) []) 10
unfolding file_calls
another_byte_in_the_handle m x = refl

-- the 129th record is read: it stands in extent 1, which has a record, and the position is after it
pub last_record_read : (m : Extents) (x : Xfcbs) (bytes : List ℕ)
    → HasRecords129 m bytes
    → file_call (call (filing m x) ReadSequential (record open_a { cr = 128 }) [])
    ≡ tells 0 (filing m x) (Some (record open_a { ex = 1; rc = 1; cr = 1 })) (bytes ++ [])
unfolding file_calls
last_record_read m x bytes e = simp (get-entries, e) refl

-- the next one isn't there
pub record_behind_the_last : (m : Extents) (x : Xfcbs) (bytes : List ℕ)
    → HasRecords129 m bytes
    → file_call (call (filing m x) ReadSequential (record open_a { ex = 1; rc = 1; cr = 1 }) [])
    ≡ ends (call (filing m x) ReadSequential (record open_a { ex = 1; rc = 1; cr = 1 }) []) 1
unfolding file_calls
record_behind_the_last m x bytes e = simp (get-entries, e) refl

-- of two records, the 128th and the 129th, each stands in an extent of its own
pub records_of_two_extents_read : (m : Extents) (x : Xfcbs) (bytes : List ℕ)
    → HasRecords129 m bytes
    → file_call (call_for 2 (filing m x) ReadSequential (record open_a { rc = 128; cr = 127 }) [])
    ≡ tells 0 (filing m x) (Some (record open_a { ex = 1; rc = 1; cr = 1 })) (zeros_128 ++ (bytes ++ []))
unfolding file_calls
records_of_two_extents_read m x bytes e = simp (get-entries, e) refl

-- of two records from the tenth of ten on one is read: it is placed, and counts in the answer and in the position
pub one_of_two_read : (m : Extents) (x : Xfcbs)
    → HasFile m name_a records_of_10
    → file_call (call_for 2 (filing m x) ReadSequential (record open_a { rc = 10; cr = 9 }) [])
    ≡ tells 0x1001 (filing m x) (Some (record open_a { rc = 10; cr = 10 })) zeros_128
unfolding file_calls
one_of_two_read m x e = simp (get-entries, e) refl

-- 33: no open file comes before a record that no file can have: byte 35 is 4
abbrev beyond : ControlBlock
beyond = record open_a { random = 0 ∷ 0 ∷ 4 ∷ [] }

pub random_without_handle : (m : Extents) (x : Xfcbs)
    → file_call (call (filing m x) ReadRandom (with_handle 0 beyond) []) ≡ fails (call (filing m x) ReadRandom (with_handle 0 beyond) []) 10
unfolding file_calls
random_without_handle m x = refl

pub record_beyond : (m : Extents) (x : Xfcbs)
    → file_call (call (filing m x) ReadRandom beyond []) ≡ fails (call (filing m x) ReadRandom beyond []) 6
unfolding file_calls
record_beyond m x = refl

-- the last record that a file can have, and the one after it
pub second_record_beyond : (m : Extents) (x : Xfcbs)
    → file_call (call_for 2 (filing m x) ReadRandom (record open_a { random = 255 ∷ 255 ∷ 3 ∷ [] }) [])
    ≡ fails (call_for 2 (filing m x) ReadRandom (record open_a { random = 255 ∷ 255 ∷ 3 ∷ [] }) []) 6
unfolding file_calls
second_record_beyond m x = refl

-- record 128 is of extent 1, which isn't there
pub extent_is_missing : (m : Extents) (x : Xfcbs)
    → HasFile m name_a records_of_10
    → file_call (call (filing m x) ReadRandom (at_random 128 open_a) []) ≡ ends (call (filing m x) ReadRandom (at_random 128 open_a) []) 4
unfolding file_calls
extent_is_missing m x e = simp (get-entries, e) refl

-- record 10 isn't there either, but its extent is
pub record_is_missing : (m : Extents) (x : Xfcbs)
    → HasFile m name_a records_of_10
    → file_call (call (filing m x) ReadRandom (at_random 10 open_a) []) ≡ ends (call (filing m x) ReadRandom (at_random 10 open_a) []) 1
unfolding file_calls
record_is_missing m x e = simp (get-entries, e) refl

-- record 5 is read, and is the position then
pub record_5_read : (m : Extents) (x : Xfcbs)
    → HasFile m name_a records_of_10
    → file_call (call (filing m x) ReadRandom (at_random 5 open_a) []) ≡ tells 0 (filing m x) (Some (record (at_random 5 open_a) { rc = 10; cr = 5 })) zeros_128
unfolding file_calls
record_5_read m x e = simp (get-entries, e) refl

-- of two records from record 9 on one is read; the position is the random record, whatever was read
pub one_of_two_read_at_random : (m : Extents) (x : Xfcbs)
    → HasFile m name_a records_of_10
    → file_call (call_for 2 (filing m x) ReadRandom (at_random 9 open_a) [])
    ≡ tells 0x1001 (filing m x) (Some (record (at_random 9 open_a) { rc = 10; cr = 9 })) zeros_128
unfolding file_calls
one_of_two_read_at_random m x e = simp (get-entries, e) refl
