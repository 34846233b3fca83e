-- Worked examples on a drive of kind hd8, whose directory entries cover two extents, with blocks of 32 records. Process 1 has A open in
-- locked mode.
use Rattle.std.proofs.Common.{refl}
use Rattle.std.specs.Prelude.{◌≡◌, [], ◌∷◌, ◌++◌, Some, None, replicate}
use Rattle.std.specs.FinMap.{get-entries, get-insert, entries}
use Rattle.mpm_base.specs.declared.kind.Kind.TheVariants.{Hd8}
use Rattle.mpm_mount.specs.Drives.{PhysicalExtent, Drive}
use Rattle.mpm_mount.proofs.Orders.{entry_total}
use Rattle.mpm_opens.specs.declared.kinds.Mode.TheVariants.{Locked}
use Rattle.mpm_file_functions.specs.declared.functions.FileFunction.TheVariants.{OpenFile, SearchFirst, ReadRandom, WriteRandom, FileSize, FreeSpace}
use Rattle.mpm_refusals.specs.Filing.{Filing, LastSearch}
use Rattle.mpm_bdos.specs.Jobs.{call_turns}
use Rattle.mpm_bdos.specs.Outcomes.{file_call}
use Rattle.mpm_bdos_trials.proofs.examples.Computing.{file_calls}
use Rattle.mpm_bdos_trials.proofs.examples.Situations.{Extents, Xfcbs, HasFile, name_a, file_of, block_a, open_a, at_random, zeros_128, ones_128, extent_of, floppy, with_file, filing_of, nothing_open, item_of, wrote_of, one_open, call, call_for, call_on, fails, tells, ends}

abbrev hard : Extents → Xfcbs → Drive
hard m x = record (floppy m x None) { kind = Hd8 }

abbrev closed : Extents → Xfcbs → Filing
closed m x = filing_of (hard m x) nothing_open

abbrev filing : Extents → Xfcbs → Filing
filing m x = filing_of (hard m x) (one_open (item_of 1 name_a Locked 1))

-- an empty disk has 2,044 blocks: 65,408 records
pub free_of_empty : (m : Extents) (x : Xfcbs)
    → entries m ≡ []
    → file_call (call_on (closed m x) FreeSpace 0) ≡ tells 0 (closed m x) None (0x80 ∷ 0xFF ∷ 0 ∷ [])
unfolding file_calls
free_of_empty m x e = simp (e) refl

-- A has an entry without blocks, and record 130 is written: the last extent of the entry is 1 then, its record count 3, and the block
-- is its fifth. That takes two turns, of which the first clears the block
abbrev without_records : PhysicalExtent
without_records = extent_of 0 0 (replicate 8 None)

abbrev with_record_130 : PhysicalExtent
with_record_130 = extent_of 1 3 (replicate 4 None ++ (Some (zeros_128 ∷ (zeros_128 ∷ (ones_128 ∷ replicate 29 zeros_128))) ∷ replicate 3 None))

pub record_130_written : (m : Extents) (x : Xfcbs)
    → HasFile m name_a without_records
    → file_call (call (filing m x) WriteRandom (at_random 130 open_a) ones_128)
    ≡ tells 0 (filing_of (with_file (hard m x) name_a with_record_130) (one_open (wrote_of 1 name_a Locked 1)))
    (Some (record (at_random 130 open_a) { ex = 1; rc = 3; cr = 2 })) []
unfolding file_calls
record_130_written m x e = simp (get-insert {X = PhysicalExtent} entry_total, get-entries, e) refl

pub two_turns_of_record_130 : (m : Extents) (x : Xfcbs)
    → HasFile m name_a without_records
    → call_turns (call (filing m x) WriteRandom (at_random 130 open_a) ones_128) ≡ 2
unfolding file_calls
two_turns_of_record_130 m x e = simp (get-entries, e) refl

-- one block less is free
pub free_behind_record_130 : (m : Extents) (x : Xfcbs)
    → HasFile m name_a with_record_130
    → file_call (call_on (closed m x) FreeSpace 0) ≡ tells 0 (closed m x) None (0x60 ∷ 0xFF ∷ 0 ∷ [])
unfolding file_calls
free_behind_record_130 m x e = simp (e) refl

-- the file ends after record 130
pub size_of_131 : (m : Extents) (x : Xfcbs)
    → HasFile m name_a with_record_130
    → file_call (call (closed m x) FileSize block_a []) ≡ tells 0 (closed m x) (Some (at_random 131 block_a)) []
unfolding file_calls
size_of_131 m x e = simp (e) refl

-- records 128 and 129 are zeros
pub records_of_cleared_block : (m : Extents) (x : Xfcbs)
    → HasFile m name_a with_record_130
    → file_call (call_for 2 (filing m x) ReadRandom (at_random 128 open_a) [])
    ≡ tells 0 (filing m x) (Some (record (at_random 128 open_a) { ex = 1; rc = 3 })) (replicate 256 0)
unfolding file_calls
records_of_cleared_block m x e = simp (get-entries, e) refl

-- record 0 has no block, though its extent is there, as is each up to the last
pub record_without_block : (m : Extents) (x : Xfcbs)
    → HasFile m name_a with_record_130
    → file_call (call (filing m x) ReadRandom (at_random 0 open_a) []) ≡ ends (call (filing m x) ReadRandom (at_random 0 open_a) []) 1
unfolding file_calls
record_without_block m x e = simp (get-entries, e) refl

-- record 256 is of extent 2, which isn't
pub extent_of_no_entry : (m : Extents) (x : Xfcbs)
    → HasFile m name_a with_record_130
    → file_call (call (filing m x) ReadRandom (record open_a { random = 0 ∷ 1 ∷ 0 ∷ [] }) [])
    ≡ ends (call (filing m x) ReadRandom (record open_a { random = 0 ∷ 1 ∷ 0 ∷ [] }) []) 4
unfolding file_calls
extent_of_no_entry m x e = simp (get-entries, e) refl

-- an extent below the last has 128 records, the last as many as the entry says, and none is above it
pub opened_at_extent_0 : (m : Extents) (x : Xfcbs)
    → HasFile m name_a with_record_130
    → entries x ≡ []
    → file_call (call (closed m x) OpenFile block_a (replicate 8 0)) ≡ tells 0 (filing m x) (Some (record open_a { rc = 128 })) []
unfolding file_calls
opened_at_extent_0 m x e f = simp (get-entries, e, f) refl

pub opened_at_extent_1 : (m : Extents) (x : Xfcbs)
    → HasFile m name_a with_record_130
    → entries x ≡ []
    → file_call (call (closed m x) OpenFile (record block_a { ex = 1 }) (replicate 8 0)) ≡ tells 0 (filing m x) (Some (record open_a { ex = 1; rc = 3 })) []
unfolding file_calls
opened_at_extent_1 m x e f = simp (get-entries, e, f) refl

pub opened_at_no_extent : (m : Extents) (x : Xfcbs)
    → HasFile m name_a without_records
    → file_call (call (closed m x) OpenFile (record block_a { ex = 1 }) (replicate 8 0))
    ≡ fails (call (closed m x) OpenFile (record block_a { ex = 1 }) (replicate 8 0)) 0x00FF
unfolding file_calls
opened_at_no_extent m x e = simp (get-entries, e) refl

-- but a search for extent 1 finds the entry that covers it, which is answered with its last extent, 0
abbrev sought : LastSearch
sought = record { drive = 0; user = 0; pattern = name_a; extent = 1; found = (file_of name_a, 0) }

abbrev searched : Filing → Filing
searched filing = record filing { searches = None ∷ (Some sought ∷ replicate 30 None) }

pub covered_extent_found : (m : Extents) (x : Xfcbs)
    → HasFile m name_a without_records
    → file_call (call (closed m x) SearchFirst (record block_a { ex = 1 }) [])
    ≡ tells 0 (searched (closed m x)) None (0 ∷ (name_a ++ (replicate 20 0 ++ replicate 96 0xE5)))
unfolding file_calls
covered_extent_found m x e = simp (get-entries, e) refl

-- a file of ten records whose last extent is raised shows all that its blocks hold
abbrev raised : PhysicalExtent
raised = extent_of 1 1 (Some (replicate 32 zeros_128) ∷ (None ∷ (None ∷ (None ∷ (Some (ones_128 ∷ replicate 31 zeros_128) ∷ replicate 3 None)))))

abbrev records_of_10 : PhysicalExtent
records_of_10 = extent_of 0 10 (Some (replicate 32 zeros_128) ∷ replicate 7 None)

pub last_extent_raised : (m : Extents) (x : Xfcbs)
    → HasFile m name_a records_of_10
    → file_call (call (filing m x) WriteRandom (at_random 128 open_a) ones_128)
    ≡ tells 0 (filing_of (with_file (hard m x) name_a raised) (one_open (wrote_of 1 name_a Locked 1)))
    (Some (record (at_random 128 open_a) { ex = 1; rc = 1 })) []
unfolding file_calls
last_extent_raised m x e = simp (get-insert {X = PhysicalExtent} entry_total, get-entries, e) refl

pub record_31_was_hidden : (m : Extents) (x : Xfcbs)
    → HasFile m name_a records_of_10
    → (file_call (call (filing m x) ReadRandom (at_random 31 open_a) [])).answer.hl ≡ 1
unfolding file_calls
record_31_was_hidden m x e = simp (get-entries, e) refl

pub record_31_is_shown : (m : Extents) (x : Xfcbs)
    → HasFile m name_a raised
    → file_call (call (filing m x) ReadRandom (at_random 31 open_a) []) ≡ tells 0 (filing m x) (Some (record (at_random 31 open_a) { rc = 128; cr = 31 })) zeros_128
unfolding file_calls
record_31_is_shown m x e = simp (get-entries, e) refl
