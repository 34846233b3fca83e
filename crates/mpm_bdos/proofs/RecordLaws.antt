-- A call on records that is cut before the first record that another process has locked ends, with its job, exactly as the table of
-- its function says.
use Rattle.std.proofs.Common.{◌≡◌, ◌∙◌, ℕ, zero, suc, ◌+◌, ◌/◌, Bool, true, false, not, ◌&&◌, cond, List, [], ◌∷◌, ◌++◌, Option, Some, None, length, take, refl, ap, arith}
use Rattle.std.specs.Prelude.{nat_eq, nat_lt, sum_by, is_some}
use Rattle.std.proofs.lemmas.Bool.Decides.{nat_tests}
use Rattle.std.proofs.lemmas.List.Sums.{sum_by-append}
use Rattle.mpm_mount.specs.Drives.{Drive, extent_at, visible_of, free_records, free_entries}
use Rattle.mpm_opens.specs.declared.kinds.FileKey.{FileKey}
use Rattle.mpm_opens.specs.Opens.{OpenFiles}
use Rattle.mpm_file_functions.specs.declared.errors.RecordError.TheVariants.{UnwrittenExtent, UnwrittenData, NoDirectorySpace, NoDataBlock}
use Rattle.mpm_files.specs.Units.{FileUnit, ReadsRecord, AddsEntry, ClearsBlock, WritesRecord, all_applied}
use Rattle.mpm_files.specs.Plans.{CallPlan, behind, unless_failing, when, clears_blocks, needs_entry, needs_block, write_units, reading, writing}
use Rattle.mpm_files.specs.Serving.{records_moved}
use Rattle.mpm_file_functions.specs.declared.ends.Ended.{Ended}
use Rattle.mpm_file_functions.specs.declared.ends.RecordEnd.TheVariants.{Failing, LockedOff}
use Rattle.mpm_file_functions.specs.declared.functions.FileFunction.TheVariants.{ReadSequential, WriteSequential, ReadRandom, WriteRandom}
use Rattle.mpm_refusals.specs.Subjects.{file_of}
use Rattle.mpm_locks.specs.Locks.{is_locked_off, count_until}
use Rattle.mpm_bdos.specs.Records.{ends, end_of, one_done, ended_by, writing_ended, reading_ended}
use Rattle.mpm_file_functions.specs.Ends.{ends_of, end_by}

-- what a plan comes to whose records were cut, or not
abbrev pub planned : CallPlan → Bool → Ended
planned plan cut = record { moved = sum_by records_moved plan.units; end = end_by plan.error cut }

-- one record is one that is moved
pub one_written : (entry clears : Bool) (a b c : FileUnit) → records_moved a ≡ 0 → records_moved b ≡ 0 → records_moved c ≡ 1
    → sum_by records_moved (when entry a ++ (when clears b ++ (c ∷ []))) ≡ 1
one_written true true a b c is_a is_b is_c = omega (arith, is_a, is_b, is_c)
one_written true false a b c is_a is_b is_c = omega (arith, is_a, is_c)
one_written false true a b c is_a is_b is_c = omega (arith, is_b, is_c)
one_written false false a b c is_a is_b is_c = omega (arith, is_c)

plus_one : (units rest : ℕ) → units ≡ 1 → units + rest ≡ rest + 1
plus_one units rest is = omega arith

pub one_more : (units : List FileUnit) (plan : CallPlan) (k count : ℕ) → sum_by records_moved units ≡ 1
    → planned (behind units plan) (nat_lt (suc k) (suc count)) ≡ one_done (planned plan (nat_lt k count))
one_more units plan k count one =
    ap (λ moved. record { moved = moved; end = end_by plan.error (nat_lt (suc k) (suc count)) })
    (sum_by-append records_moved units plan.units ∙ plus_one (sum_by records_moved units) (sum_by records_moved plan.units) one)
    ∙ ap (λ cut. record { moved = sum_by records_moved plan.units + 1; end = end_by plan.error cut }) (grind (arith, nat_tests))

-- a record by what keeps it from being written, and all others
unless_done : (no_entry no_block : Bool) (units : List FileUnit) (plan : CallPlan) (k count : ℕ) (rest : Ended) → sum_by records_moved units ≡ 1
    → planned plan (nat_lt k count) ≡ rest
    → planned (unless_failing (cond no_entry (Some NoDirectorySpace) (cond no_block (Some NoDataBlock) None)) (behind units plan)) (nat_lt (suc k) (suc count))
    ≡ ended_by (cond no_entry (Some (Failing NoDirectorySpace)) (cond no_block (Some (Failing NoDataBlock)) None)) rest
unless_done true no_block units plan k count rest one so = refl
unless_done false true units plan k count rest one so = refl
unless_done false false units plan k count rest one so = one_more units plan k count one ∙ ap one_done so

pub is_cut : (count : ℕ) → nat_lt 0 (suc count) ≡ true
is_cut count = grind (arith, nat_tests)

abbrev pub cut_writing : OpenFiles → ℕ → FileKey → Drive → ℕ → List (List ℕ) → Option (List ℕ) → ℕ → Ended
cut_writing opens p file drive n records stamp k = planned (writing drive (file_of file) n (take k records) stamp) (nat_lt k (length records))

abbrev ended_at : OpenFiles → ℕ → FileKey → Drive → ℕ → Bool → Ended → Ended
ended_at opens p file drive n locked rest =
    ended_by (cond locked (Some LockedOff)
    (cond (needs_entry drive (file_of file) n && nat_eq (free_entries drive) 0) (Some (Failing NoDirectorySpace))
    (cond (needs_block drive (file_of file) n && nat_eq (free_records drive) 0) (Some (Failing NoDataBlock)) None))) rest

unless_locked : (opens : OpenFiles) (p : ℕ) (file : FileKey) (drive : Drive) (n : ℕ) (bytes : List ℕ) (records : List (List ℕ)) (stamp : Option (List ℕ)) (locked : Bool) (k : ℕ) (rest : Ended)
    → cut_writing opens p file (all_applied drive (write_units drive false (file_of file) n bytes stamp)) (n + 1) records None k ≡ rest
    → cut_writing opens p file drive n (bytes ∷ records) stamp (cond locked 0 (suc k)) ≡ ended_at opens p file drive n locked rest
unfolding writing
unless_locked opens p file drive n bytes records stamp true k rest so = ap (λ cut. record { moved = 0; end = end_by None cut }) (is_cut (length records))
unless_locked opens p file drive n bytes records stamp false k rest so =
    unless_done (needs_entry drive (file_of file) n && nat_eq (free_entries drive) 0) (needs_block drive (file_of file) n && nat_eq (free_records drive) 0)
    (write_units drive false (file_of file) n bytes stamp)
    (writing (all_applied drive (write_units drive false (file_of file) n bytes stamp)) (file_of file) (n + 1) (take k records) None) k (length records) rest
    (one_written (needs_entry drive (file_of file) n) (clears_blocks drive.kind && (needs_block drive (file_of file) n && true)) (AddsEntry (file_of file) (n / 128)) (ClearsBlock (file_of file) n)
    (WritesRecord (file_of file) n bytes stamp) refl refl refl) so

-- function 21, and function 34
pub writing_ends : (opens : OpenFiles) (p : ℕ) (file : FileKey) (drive : Drive) (n : ℕ) (records : List (List ℕ)) (stamp : Option (List ℕ))
    → cut_writing opens p file drive n records stamp (count_until (is_locked_off opens p file) n (length records)) ≡ writing_ended WriteSequential opens p file drive n records stamp
unfolding writing count_until writing_ended end_of ends ends_of
writing_ends opens p file drive n [] stamp = refl
writing_ends opens p file drive n (bytes ∷ records) stamp =
    unless_locked opens p file drive n bytes records stamp (is_locked_off opens p file n) (count_until (is_locked_off opens p file) (n + 1) (length records))
    (writing_ended WriteSequential opens p file (all_applied drive (write_units drive false (file_of file) n bytes stamp)) (n + 1) records None)
    (writing_ends opens p file (all_applied drive (write_units drive false (file_of file) n bytes stamp)) (n + 1) records None)

pub random_writing_ends : (opens : OpenFiles) (p : ℕ) (file : FileKey) (drive : Drive) (n : ℕ) (records : List (List ℕ)) (stamp : Option (List ℕ))
    → cut_writing opens p file drive n records stamp (count_until (is_locked_off opens p file) n (length records)) ≡ writing_ended WriteRandom opens p file drive n records stamp
unfolding writing count_until writing_ended end_of ends ends_of
random_writing_ends opens p file drive n [] stamp = refl
random_writing_ends opens p file drive n (bytes ∷ records) stamp =
    unless_locked opens p file drive n bytes records stamp (is_locked_off opens p file n) (count_until (is_locked_off opens p file) (n + 1) (length records))
    (writing_ended WriteRandom opens p file (all_applied drive (write_units drive false (file_of file) n bytes stamp)) (n + 1) records None)
    (random_writing_ends opens p file (all_applied drive (write_units drive false (file_of file) n bytes stamp)) (n + 1) records None)

-- functions 20 and 33
unless_read : (no_extent no_data : Bool) (unit : FileUnit) (plan : CallPlan) (rest : Ended) → records_moved unit ≡ 1 → planned plan false ≡ rest
    → planned (unless_failing (cond no_extent (Some UnwrittenExtent) (cond no_data (Some UnwrittenData) None)) (behind (unit ∷ []) plan)) false
    ≡ ended_by (cond no_extent (Some (Failing UnwrittenExtent)) (cond no_data (Some (Failing UnwrittenData)) None)) rest
unless_read true no_data unit plan rest one so = refl
unless_read false true unit plan rest one so = refl
unless_read false false unit plan rest one so =
    ap (λ moved. record { moved = moved; end = end_by plan.error false })
    (sum_by-append records_moved (unit ∷ []) plan.units ∙ plus_one (sum_by records_moved (unit ∷ [])) (sum_by records_moved plan.units) (omega (arith, one)))
    ∙ ap one_done so

pub reading_ends : (opens : OpenFiles) (p : ℕ) (file : FileKey) (drive : Drive) (n count : ℕ)
    → planned (reading drive (file_of file) n count) false ≡ reading_ended ReadSequential opens p file drive n count
unfolding reading reading_ended end_of ends ends_of
reading_ends opens p file drive n zero = refl
reading_ends opens p file drive n (suc count) =
    unless_read (not (is_some (extent_at drive (file_of file) (n / 128)))) (not (is_some (visible_of drive (file_of file) n))) (ReadsRecord (file_of file) n)
    (reading drive (file_of file) (n + 1) count) (reading_ended ReadSequential opens p file drive (n + 1) count) refl (reading_ends opens p file drive (n + 1) count)

pub random_reading_ends : (opens : OpenFiles) (p : ℕ) (file : FileKey) (drive : Drive) (n count : ℕ)
    → planned (reading drive (file_of file) n count) false ≡ reading_ended ReadRandom opens p file drive n count
unfolding reading reading_ended end_of ends ends_of
random_reading_ends opens p file drive n zero = refl
random_reading_ends opens p file drive n (suc count) =
    unless_read (not (is_some (extent_at drive (file_of file) (n / 128)))) (not (is_some (visible_of drive (file_of file) n))) (ReadsRecord (file_of file) n)
    (reading drive (file_of file) (n + 1) count) (reading_ended ReadRandom opens p file drive (n + 1) count) refl (random_reading_ends opens p file drive (n + 1) count)
