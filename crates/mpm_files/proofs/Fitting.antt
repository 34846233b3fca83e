-- Each unit of a plan can be done: what it needs is free, or there, on the drive that those before it left.
use Rattle.std.proofs.Common.{◌≡◌, ◌≢◌, ℕ, zero, suc, ◌+◌, ◌-◌, ◌*◌, ◌/◌, ◌<◌, Bool, true, false, not, ◌&&◌, ◌==◌, List, [], ◌∷◌, ◌++◌, Option, Some, None, take, length, refl, sym, ap, ◌∙◌, arith, add-zero}
use Rattle.std.specs.Prelude.{is_some, slice_index_or, if◌then◌else◌}
use Rattle.std.specs.FinMap.{get, len}
use Rattle.std.proofs.lemmas.Bool.{true≢false}
use Rattle.mpm_blocks.specs.Geometries.{geometry_of, last_block, block_records}
use Rattle.mpm_mount.specs.Drives.{FileName, PhysicalExtent, Drive, places, entry_number, entry_name, free_records, free_entries}
use Rattle.mpm_mount.proofs.Still.{nonzero}
use Rattle.mpm_file_functions.specs.declared.errors.RecordError.{RecordError}
use Rattle.mpm_file_functions.specs.declared.errors.RecordError.TheVariants.{Mismatch, NoDirectorySpace, NoDataBlock}
use Rattle.mpm_files.specs.Units.{FileUnit, Idles, ReadsRecord, PassesRecord, AddsEntry, ClearsBlock, WritesRecord, RemovesEntry, SetsAttributes, RenamesEntry, PutsXfcb, RemovesXfcb, RenamesXfcb, PutsLabel, new_entry, stages, last_of, applied, all_applied}
use Rattle.mpm_files.specs.Plans.{CallPlan, TestedRecord, failing, behind, unless_failing, reading, needs_entry, has_block, needs_block, clears_blocks, write_error, write_units, writing, has_record, passing, testing, when}
use Rattle.mpm_mount.specs.Records.{read_error}
use Rattle.mpm_files.proofs.Recorded.{held, put_new, none_held}

-- a property of each unit and the drive that those before it left
unfoldable pub AllSo : (Drive → FileUnit → Type 0) → Drive → List FileUnit → Type 0
AllSo P drive [] = Unit {0}
AllSo P drive (unit ∷ units) = P drive unit × AllSo P (applied drive unit) units

pub so_at : (P : Drive → FileUnit → Type 0) (us : List FileUnit) (j : ℕ) (other : FileUnit) (drive : Drive) → AllSo P drive us → j < length us
    → P (all_applied drive (take j us)) (slice_index_or us j other)
unfolding AllSo all_applied
so_at P [] j other drive all h = absurd (omega arith)
so_at P (u ∷ us) zero other drive all h = all.0
so_at P (u ∷ us) (suc j) other drive all h = so_at P us j other (applied drive u) all.1 (omega arith)

all_so_both : (P : Drive → FileUnit → Type 0) (us vs : List FileUnit) (drive : Drive) → AllSo P drive us → AllSo P (all_applied drive us) vs → AllSo P drive (us ++ vs)
unfolding AllSo all_applied
all_so_both P [] vs drive one other = other
all_so_both P (u ∷ us) vs drive one other = (one.0, all_so_both P us vs (applied drive u) one.1 other)

pub unless_so : (P : Drive → FileUnit → Type 0) (drive : Drive) (error : Option RecordError) (plan : CallPlan) → (error ≡ None → AllSo P drive plan.units)
    → AllSo P drive (unless_failing error plan).units
unfolding AllSo
unless_so P drive None plan so = so refl
unless_so P drive (Some error) plan so = tt

-- what a unit of a call that writes needs
abbrev pub Fits : Drive → FileUnit → Type 0
Fits drive (AddsEntry file extent) = free_entries drive ≢ 0
Fits drive (ClearsBlock file n) = free_records drive ≢ 0
Fits drive (WritesRecord file n bytes stamp) = needs_block drive file n ≡ true → free_records drive ≢ 0
Fits drive (Idles file stamp) = Unit {0}
Fits drive (ReadsRecord file n) = Unit {0}
Fits drive (PassesRecord file n) = Unit {0}
Fits drive (RemovesEntry file number) = Unit {0}
Fits drive (SetsAttributes file number attributes) = Unit {0}
Fits drive (RenamesEntry file number other) = Unit {0}
Fits drive (PutsXfcb file xfcb) = Unit {0}
Fits drive (RemovesXfcb file) = Unit {0}
Fits drive (RenamesXfcb file other) = Unit {0}
Fits drive (PutsLabel label) = Unit {0}

-- of a call that reads, or tests and writes: its record is there
abbrev pub IsThere : Drive → FileUnit → Type 0
IsThere drive (ReadsRecord file n) = read_error drive file n ≡ None
IsThere drive (WritesRecord file n bytes stamp) = read_error drive file n ≡ None
IsThere drive (PassesRecord file n) = read_error drive file n ≡ None
IsThere drive (AddsEntry file extent) = Unit {0}
IsThere drive (ClearsBlock file n) = Unit {0}
IsThere drive (Idles file stamp) = Unit {0}
IsThere drive (RemovesEntry file number) = Unit {0}
IsThere drive (SetsAttributes file number attributes) = Unit {0}
IsThere drive (RenamesEntry file number other) = Unit {0}
IsThere drive (PutsXfcb file xfcb) = Unit {0}
IsThere drive (RemovesXfcb file) = Unit {0}
IsThere drive (RenamesXfcb file other) = Unit {0}
IsThere drive (PutsLabel label) = Unit {0}

-- an entry that comes takes one of the free ones, and no block
no_block_held : (drive : Drive) (file : FileName) (extent : ℕ) → get drive.extents (entry_name drive.kind file extent) ≡ None
    → held (applied drive (AddsEntry file extent)) ≡ held drive + 0
unfolding applied stages last_of new_entry
no_block_held drive file extent none = (put_new drive file (entry_number drive.kind extent) (new_entry drive file extent) none (none_held (places drive.kind))).blocks

pub added_records : (drive : Drive) (file : FileName) (extent : ℕ) → get drive.extents (entry_name drive.kind file extent) ≡ None
    → free_records (applied drive (AddsEntry file extent)) ≡ free_records drive
unfolding free_records applied stages last_of
added_records drive file extent none =
    ap (λ (n : ℕ). (last_block drive.kind + 1 - (geometry_of drive.kind).directory_blocks - n) * block_records drive.kind) (no_block_held drive file extent none ∙ add-zero (held drive))

one_fewer : (a e x l k : ℕ) → a - (e + 1 + x + l + k) ≡ a - (e + x + l + k) - 1
one_fewer a e x l k = omega arith

pub added_entries : (drive : Drive) (file : FileName) (extent : ℕ) → get drive.extents (entry_name drive.kind file extent) ≡ None
    → free_entries (applied drive (AddsEntry file extent)) ≡ free_entries drive - 1
unfolding free_entries applied stages last_of new_entry
added_entries drive file extent none =
    let puts = put_new drive file (entry_number drive.kind extent) (new_entry drive file extent) none (none_held (places drive.kind)) in
    ap (λ (n : ℕ). (geometry_of drive.kind).drm + 1 - (n + len drive.xfcbs + (if is_some drive.label then 1 else 0) + drive.kept)) puts.counted
    ∙ one_fewer ((geometry_of drive.kind).drm + 1) (len drive.extents) (len drive.xfcbs) (if is_some drive.label then 1 else 0) drive.kept

-- where a record isn't refused, there is what it needs
not_refused : (a b c e : Bool) (one other : RecordError) → (if a && b then Some one else (if c && e then Some other else None)) ≡ None → (a ≡ true → b ≡ false) × (c ≡ true → e ≡ false)
not_refused true true c e one other none = absurd (true≢false (ap is_some none))
not_refused true false true true one other none = absurd (true≢false (ap is_some none))
not_refused true false true false one other none = (λ is. refl, λ is. refl)
not_refused true false false e one other none = (λ is. refl, λ is. absurd (true≢false (sym is)))
not_refused false b true true one other none = absurd (true≢false (ap is_some none))
not_refused false b true false one other none = (λ is. absurd (true≢false (sym is)), λ is. refl)
not_refused false b false e one other none = (λ is. absurd (true≢false (sym is)), λ is. absurd (true≢false (sym is)))

pub record RoomFor (drive : Drive) (file : FileName) (n : ℕ) : Type 0 where
  pub entry : needs_entry drive file n ≡ true → free_entries drive ≢ 0
  pub block : needs_block drive file n ≡ true → free_records drive ≢ 0

room_for : (drive : Drive) (file : FileName) (n : ℕ) → write_error drive file n ≡ None → RoomFor drive file n
room_for drive file n none =
    let both = not_refused (needs_entry drive file n) (free_entries drive == 0) (needs_block drive file n) (free_records drive == 0) NoDirectorySpace NoDataBlock none in
    record { entry = λ is. nonzero (free_entries drive) (both.0 is); block = λ is. nonzero (free_records drive) (both.1 is) }

-- the units of a record fit
needed_none : (o : Option PhysicalExtent) → not (is_some o) ≡ true → o ≡ None
needed_none None is = refl
needed_none (Some entry) is = absurd (true≢false (sym is))

both_true : (a b c : Bool) → (a && (b && c)) ≡ true → b ≡ true
both_true true true c is = refl
both_true true false c is = is
both_true false b c is = absurd (true≢false (sym is))

cleared_fits : (d : Drive) (file : FileName) (n : ℕ) (bytes : List ℕ) (stamp : Option (List ℕ)) → (needs_block d file n ≡ true → free_records d ≢ 0)
    → Fits (applied d (ClearsBlock file n)) (WritesRecord file n bytes stamp)
unfolding applied stages last_of
cleared_fits d file n bytes stamp so = so

block_fits : (d : Drive) (file : FileName) (n : ℕ) (bytes : List ℕ) (stamp : Option (List ℕ)) (c : Bool) → free_records d ≢ 0
    → AllSo Fits d (when c (ClearsBlock file n) ++ (WritesRecord file n bytes stamp ∷ []))
unfolding AllSo
block_fits d file n bytes stamp true some = (some, (cleared_fits d file n bytes stamp (λ needs. some), tt))
block_fits d file n bytes stamp false some = (λ needs. some, tt)

record_fits : (drive : Drive) (file : FileName) (n : ℕ) (bytes : List ℕ) (stamp : Option (List ℕ)) (a b : Bool) → needs_entry drive file n ≡ a
    → (clears_blocks drive.kind && (needs_block drive file n && not false)) ≡ b → RoomFor drive file n
    → AllSo Fits drive (when a (AddsEntry file (n / 128)) ++ (when b (ClearsBlock file n) ++ (WritesRecord file n bytes stamp ∷ [])))
unfolding AllSo
record_fits drive file n bytes stamp true b is clears room =
    let none = needed_none (get drive.extents (entry_name drive.kind file (n / 128))) is in
    let needs : needs_block drive file n ≡ true = ap (λ o. not (has_block drive.kind n o)) none in
    let after : Drive = applied drive (AddsEntry file (n / 128)) in
    let some : free_records after ≢ 0 = λ zero_left. room.block needs (sym (added_records drive file (n / 128) none) ∙ zero_left) in
    (room.entry is, block_fits after file n bytes stamp b some)
record_fits drive file n bytes stamp false true is clears room =
    (room.block (both_true (clears_blocks drive.kind) (needs_block drive file n) true clears), (cleared_fits drive file n bytes stamp room.block, tt))
record_fits drive file n bytes stamp false false is clears room = (room.block, tt)

pub writing_fits : (records : List (List ℕ)) (drive : Drive) (file : FileName) (n : ℕ) (stamp : Option (List ℕ)) → AllSo Fits drive (writing drive file n records stamp).units
unfolding writing AllSo
writing_fits [] drive file n stamp = tt
writing_fits (bytes ∷ records) drive file n stamp =
    let units : List FileUnit = write_units drive false file n bytes stamp in
    let rest : CallPlan = writing (all_applied drive units) file (n + 1) records None in
    unless_so Fits drive (write_error drive file n) (behind units rest) (λ none.
    all_so_both Fits units rest.units drive
    (record_fits drive file n bytes stamp (needs_entry drive file n) (clears_blocks drive.kind && (needs_block drive file n && not false)) refl refl (room_for drive file n none))
    (writing_fits records (all_applied drive units) file (n + 1) None))

-- records that are read, or tested and written, are there
pub reading_there : (count : ℕ) (drive : Drive) (file : FileName) (n : ℕ) → AllSo IsThere drive (reading drive file n count).units
unfolding reading AllSo applied stages last_of
reading_there zero drive file n = tt
reading_there (suc count) drive file n =
    unless_so IsThere drive (read_error drive file n) (behind (ReadsRecord file n ∷ []) (reading drive file (n + 1) count)) (λ none.
    (none, reading_there count drive file (n + 1)))

passed_there : (drive : Drive) (file : FileName) (n : ℕ) (plan : CallPlan) (error : Option RecordError) → read_error drive file n ≡ error → AllSo IsThere drive plan.units
    → AllSo IsThere drive (if is_some error then failing Mismatch else behind (PassesRecord file n ∷ []) plan).units
unfolding AllSo applied stages last_of
passed_there drive file n plan (Some error) is there = tt
passed_there drive file n plan None is there = (is, there)

passing_there : (tests : List TestedRecord) (drive : Drive) (file : FileName) (n : ℕ) → AllSo IsThere drive (passing drive file n tests).units
unfolding passing AllSo applied stages last_of
passing_there [] drive file n = tt
passing_there (test ∷ tests) drive file n =
    passed_there drive file n (passing drive file (n + 1) tests) (read_error drive file n) refl (passing_there tests drive file (n + 1))

tested_there : (drive : Drive) (file : FileName) (n : ℕ) (bytes : List ℕ) (stamp : Option (List ℕ)) (plan other : CallPlan) (b : Bool) → read_error drive file n ≡ None
    → AllSo IsThere (applied drive (WritesRecord file n bytes stamp)) plan.units → AllSo IsThere drive other.units
    → AllSo IsThere drive (if b then behind (WritesRecord file n bytes stamp ∷ []) plan else other).units
unfolding AllSo
tested_there drive file n bytes stamp plan other true none there passed = (none, there)
tested_there drive file n bytes stamp plan other false none there passed = passed

pub testing_there : (tests : List TestedRecord) (drive : Drive) (file : FileName) (n : ℕ) (stamp : Option (List ℕ)) → AllSo IsThere drive (testing drive file n tests stamp).units
unfolding testing AllSo
testing_there [] drive file n stamp = tt
testing_there (test ∷ tests) drive file n stamp =
    let unit : FileUnit = WritesRecord file n test.bytes stamp in
    unless_so IsThere drive (read_error drive file n)
    (if has_record drive file n test.expected then behind (unit ∷ []) (testing (applied drive unit) file (n + 1) tests None) else passing drive file n (test ∷ tests)) (λ none.
    tested_there drive file n test.bytes stamp (testing (applied drive unit) file (n + 1) tests None) (passing drive file n (test ∷ tests)) (has_record drive file n test.expected) none
    (testing_there tests (applied drive unit) file (n + 1) None) (passing_there (test ∷ tests) drive file n))
