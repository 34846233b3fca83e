-- Worked examples of the calls that write records: functions 21, 34 (and 40, which is the same) and 41.
use Rattle.std.proofs.Common.{refl}
use Rattle.std.specs.Prelude.{◌≡◌, [], ◌∷◌, ◌++◌, Some, None, replicate}
use Rattle.std.specs.FinMap.{get-entries, get-insert, entries-insert, len-entries, entries}
use Rattle.mpm_mount.specs.Drives.{PhysicalExtent}
use Rattle.mpm_mount.proofs.Orders.{entry_total}
use Rattle.mpm_opens.specs.declared.kinds.Mode.TheVariants.{Locked, Unlocked, ReadOnly}
use Rattle.mpm_opens.specs.Opens.{OpenFiles}
use Rattle.mpm_fcb.specs.declared.block.ControlBlock.{ControlBlock}
use Rattle.mpm_file_functions.specs.declared.functions.FileFunction.TheVariants.{WriteSequential, WriteRandom, TestAndWrite}
use Rattle.mpm_refusals.specs.Filing.{Filing}
use Rattle.mpm_bdos.specs.Outcomes.{file_call}
use Rattle.mpm_bdos_trials.proofs.examples.Computing.{file_calls}
use Rattle.mpm_bdos_trials.proofs.examples.Situations.{Extents, Xfcbs, HasFile, HasTwo, name_a, name_b, open_a, at_random, zeros_128, ones_128, extent_of, empty_block, no_records, records_of_10, read_only_records, floppy, with_kept, with_file, filing_of, a_protected, with_protected, item_of, wrote_of, one_open, two_open, lock_of, with_locks, call, call_for, fails, fails_on, tells, ends, with_record_0, open_by_1, open_by_both}

-- process 1 has written by way of the file
abbrev written_by_1 : OpenFiles
written_by_1 = one_open (wrote_of 1 name_a Locked 1)

abbrev filing : Extents → Xfcbs → Filing
filing m x = filing_of (floppy m x None) open_by_1

-- 21: the position is past the last record that a file can have
abbrev at_end : ControlBlock
at_end = record open_a { ex = 31; s2 = 63; cr = 128 }

pub position_beyond : (m : Extents) (x : Xfcbs)
    → file_call (call (filing m x) WriteSequential at_end ones_128) ≡ fails (call (filing m x) WriteSequential at_end ones_128) 6
unfolding file_calls
position_beyond m x = refl

-- a drive that is protected comes before a file that is read-only, as T1' or as it was opened
pub write_on_protected_drive : (m : Extents) (x : Xfcbs)
    → file_call (call (with_protected a_protected (filing m x)) WriteSequential open_a ones_128)
    ≡ fails_on (call (with_protected a_protected (filing m x)) WriteSequential open_a ones_128) 0 2 0x02FF
unfolding file_calls
write_on_protected_drive m x = refl

pub write_to_read_only_file : (m : Extents) (x : Xfcbs)
    → HasFile m name_a read_only_records
    → file_call (call (filing m x) WriteSequential open_a ones_128) ≡ fails_on (call (filing m x) WriteSequential open_a ones_128) 0 3 0x03FF
unfolding file_calls
write_to_read_only_file m x e = simp (e) refl

pub write_by_read_only_item : (m : Extents) (x : Xfcbs)
    → HasFile m name_a records_of_10
    → (file_call (call (filing_of (floppy m x None) (one_open (item_of 1 name_a ReadOnly 1))) WriteSequential open_a ones_128)).answer.hl ≡ 0x03FF
unfolding file_calls
write_by_read_only_item m x e = simp (e) refl

-- of three records from record 4 on the second is locked by process 2: one is written
abbrev locked_by_2 : OpenFiles → OpenFiles
locked_by_2 opens = with_locks (lock_of 2 name_a 5 ∷ []) opens

abbrev with_record_4 : PhysicalExtent
with_record_4 = extent_of 0 10 (Some (replicate 4 zeros_128 ++ (ones_128 ∷ replicate 3 zeros_128)) ∷ (empty_block ∷ replicate 14 None))

pub record_locked_by_another : (m : Extents) (x : Xfcbs)
    → HasFile m name_a records_of_10
    → file_call (call_for 3
    (filing_of (floppy m x None) (locked_by_2 (two_open (item_of 1 name_a Unlocked 1) (item_of 2 name_a Unlocked 1))))
    WriteSequential (record open_a { cr = 4 }) (replicate 384 1))
    ≡ tells 0x1008
    (filing_of (with_file (floppy m x None) name_a with_record_4) (locked_by_2 (two_open (wrote_of 1 name_a Unlocked 1) (item_of 2 name_a Unlocked 1))))
    (Some (record open_a { rc = 10; cr = 5 })) []
unfolding file_calls
record_locked_by_another m x e = simp (get-insert {X = PhysicalExtent} entry_total, get-entries, e) refl

-- record 128 needs an entry for extent 1, and none of 64 is free
abbrev full_directory : Extents → Xfcbs → Filing
full_directory m x = filing_of (with_kept 63 (floppy m x None)) open_by_1

pub no_entry_in_sequence : (m : Extents) (x : Xfcbs)
    → HasFile m name_a (extent_of 0 128 (replicate 16 empty_block))
    → entries x ≡ []
    → file_call (call (full_directory m x) WriteSequential (record open_a { rc = 128; cr = 128 }) ones_128)
    ≡ ends (call (full_directory m x) WriteSequential (record open_a { rc = 128; cr = 128 }) ones_128) 1
unfolding file_calls
no_entry_in_sequence m x e f = simp (get-entries, len-entries, e, f) refl

-- of three records from record 6 on two are in the one block that is free, and the third needs another
pub disk_is_full : (m : Extents) (x : Xfcbs) (extent : PhysicalExtent)
    → HasTwo m name_a no_records name_b (record extent { blocks = replicate 240 (Some []) })
    → (file_call (call_for 3 (filing m x) WriteSequential (record open_a { cr = 6 }) (replicate 384 1))).answer.hl ≡ 0x2002
unfolding file_calls
disk_is_full m x extent e = simp (get-insert {X = PhysicalExtent} entry_total, entries-insert {X = PhysicalExtent} entry_total, get-entries, e) refl

-- record 0 of an empty file is written: it takes a block, whose other records are zeros, and the position is after it
pub first_record_written : (m : Extents) (x : Xfcbs)
    → HasFile m name_a no_records
    → file_call (call (filing m x) WriteSequential open_a ones_128)
    ≡ tells 0
    (filing_of (with_file (floppy m x None) name_a with_record_0) written_by_1)
    (Some (record open_a { rc = 1; cr = 1 })) []
unfolding file_calls
first_record_written m x e = simp (get-insert {X = PhysicalExtent} entry_total, get-entries, e) refl

-- 34: a full directory is code 5 here
pub no_entry_at_random : (m : Extents) (x : Xfcbs)
    → HasFile m name_a records_of_10
    → entries x ≡ []
    → file_call (call (full_directory m x) WriteRandom (at_random 128 open_a) ones_128)
    ≡ ends (call (full_directory m x) WriteRandom (at_random 128 open_a) ones_128) 5
unfolding file_calls
no_entry_at_random m x e f = simp (get-entries, len-entries, e, f) refl

-- and no block is free
pub no_block_at_random : (m : Extents) (x : Xfcbs) (extent : PhysicalExtent)
    → HasTwo m name_a no_records name_b (record extent { blocks = replicate 241 (Some []) })
    → file_call (call (filing m x) WriteRandom open_a ones_128) ≡ ends (call (filing m x) WriteRandom open_a ones_128) 2
unfolding file_calls
no_block_at_random m x extent e = simp (get-entries, e) refl

-- record 20 of an empty file is written, and is the position then; records 0 to 19 are below the record count, without blocks, or zeros
pub record_20_written : (m : Extents) (x : Xfcbs)
    → HasFile m name_a no_records
    → file_call (call (filing m x) WriteRandom (at_random 20 open_a) ones_128)
    ≡ tells 0
    (filing_of
    (with_file (floppy m x None) name_a (extent_of 0 21 (None ∷ (None ∷ (Some (replicate 4 zeros_128 ++ (ones_128 ∷ replicate 3 zeros_128)) ∷ replicate 13 None)))))
    written_by_1)
    (Some (record (at_random 20 open_a) { rc = 21; cr = 20 })) []
unfolding file_calls
record_20_written m x e = simp (get-insert {X = PhysicalExtent} entry_total, get-entries, e) refl

-- 41: record 5 is zeros, and not what is named
abbrev shared : Extents → Xfcbs → Filing
shared m x = filing_of (floppy m x None) open_by_both

pub record_has_other_bytes : (m : Extents) (x : Xfcbs)
    → HasFile m name_a records_of_10
    → file_call (call (shared m x) TestAndWrite (at_random 5 open_a) (ones_128 ++ replicate 128 2))
    ≡ ends (call (shared m x) TestAndWrite (at_random 5 open_a) (ones_128 ++ replicate 128 2)) 7
unfolding file_calls
record_has_other_bytes m x e = simp (get-entries, e) refl

-- zeros are named: it is replaced, and is the position then
abbrev with_record_5 : PhysicalExtent
with_record_5 = extent_of 0 10 (Some (replicate 5 zeros_128 ++ (ones_128 ∷ replicate 2 zeros_128)) ∷ (empty_block ∷ replicate 14 None))

abbrev shared_with_record_5 : Extents → Xfcbs → Filing
shared_with_record_5 m x =
    filing_of (with_file (floppy m x None) name_a with_record_5) (two_open (wrote_of 1 name_a Unlocked 1) (item_of 2 name_a Unlocked 1))

pub record_5_replaced : (m : Extents) (x : Xfcbs)
    → HasFile m name_a records_of_10
    → file_call (call (shared m x) TestAndWrite (at_random 5 open_a) (zeros_128 ++ ones_128))
    ≡ tells 0 (shared_with_record_5 m x) (Some (record (at_random 5 open_a) { rc = 10; cr = 5 })) []
unfolding file_calls
record_5_replaced m x e = simp (get-insert {X = PhysicalExtent} entry_total, get-entries, e) refl

-- of two records, 5 and 6, the old bytes stand before the new ones; the second has others, so that one is replaced
pub one_of_two_replaced : (m : Extents) (x : Xfcbs)
    → HasFile m name_a records_of_10
    → file_call (call_for 2 (shared m x) TestAndWrite (at_random 5 open_a) (zeros_128 ++ (replicate 128 2 ++ replicate 256 1)))
    ≡ tells 0x1007 (shared_with_record_5 m x) (Some (record (at_random 5 open_a) { rc = 10; cr = 5 })) []
unfolding file_calls
one_of_two_replaced m x e = simp (get-insert {X = PhysicalExtent} entry_total, get-entries, e) refl

-- record 5 of another process is locked
pub test_of_locked_record : (m : Extents) (x : Xfcbs)
    → HasFile m name_a records_of_10
    → file_call (call (filing_of (floppy m x None) (locked_by_2 open_by_both)) TestAndWrite (at_random 5 open_a) (ones_128 ++ replicate 128 2))
    ≡ ends (call (filing_of (floppy m x None) (locked_by_2 open_by_both)) TestAndWrite (at_random 5 open_a) (ones_128 ++ replicate 128 2)) 8
unfolding file_calls
test_of_locked_record m x e = simp (get-entries, e) refl
