-- A job that begins: how many units it has, and what is left of it.
use Rattle.std.proofs.Common.{◌≡◌, ℕ, zero, suc, ◌+◌, ◌-◌, Bool, true, false, ◌==◌, ◌&&◌, not, List, [], ◌∷◌, ◌++◌, Option, Some, None, map, length, refl, sym, ap, subst, ◌∙◌, arith, add-zero}
use Rattle.std.specs.Prelude.{is_some, if◌then◌else◌}
use Rattle.std.specs.List.{filter}
use Rattle.std.proofs.lemmas.List.{append-nil}
use Rattle.std.proofs.lemmas.Simd.{map-map}
use Rattle.std.proofs.lemmas.List.FromFn.{length-map-range_with_len}
use Rattle.std.proofs.lemmas.Bool.{true≢false}
use Rattle.mpm_base.specs.declared.kind.Kind.{Kind}
use Rattle.mpm_base.specs.Counts.{one_if}
use Rattle.mpm_blocks.specs.Geometries.{block_records}
use Rattle.mpm_mount.specs.Drives.{FileName, Drive, extents_of, free_records, free_entries}
use Rattle.mpm_mount.specs.Directories.{Directory, Stands, free_records_in, free_entries_in}
use Rattle.mpm_mount.specs.Attributes.{attributes_in}
use Rattle.mpm_mount.proofs.FreeEntries.{free_entries_same}
use Rattle.mpm_mount.proofs.FreeRecords.{free_records_same}
use Rattle.mpm_mount.proofs.LookedUp.{kind_of}
use Rattle.mpm_file_functions.specs.declared.errors.RecordError.{RecordError}
use Rattle.mpm_jobs.specs.declared.jobs.JobKind.{JobKind}
use Rattle.mpm_jobs.specs.declared.jobs.JobKind.TheVariants.{Read, Write, TestWrite, Make, Delete, Rename, Attributes, Label, Xfcb, Nothing}
use Rattle.mpm_jobs.specs.declared.jobs.Job.{Job}
use Rattle.mpm_files.specs.declared.counting.Count.{Count}
use Rattle.mpm_files.specs.Units.{FileUnit, AddsEntry, ReadsRecord, PassesRecord, WritesRecord, SetsAttributes, PutsXfcb, applied, all_applied}
use Rattle.mpm_files.specs.Plans.{CallPlan, TestedRecord, behind, unless_failing, when, file_of_job, new_file_of_job, record_at, reading, needs_entry, needs_block, has_record, passing, testing, test_at, each, of_entries, protection_in, records_of_job, tests_of_job, plan_by, plan_of}
use Rattle.mpm_mount.specs.Records.{read_error, record_error}
use Rattle.mpm_files.specs.Counting.{unless_refused, same_entry, same_block, entry_more, block_more, room_error, record_units, read_count, write_count, lacks_entry, lacks_block, unit_count_by, unit_count}
use Rattle.mpm_files.specs.Serving.{Follows, all_read, left_writing, left_reading, left_passing, left_testing, is_later, left_setting, left_by, left_of, untested_by, untested_plan, with_records, missed_by, IsServingJob, IsInService, begun}
use Rattle.mpm_files.proofs.Left.{writing_first}
use Rattle.mpm_files.proofs.WriteCounts.{count_of, counted_writing}
use Rattle.mpm_files.proofs.Tied.{entry_needed, block_needed, image_whole}
use Rattle.mpm_mount.proofs.ReadErrors.{read_error_same}
use Rattle.mpm_files.proofs.Tested.{counted_reading, reads_alike, testing_counted}
use Rattle.mpm_files.proofs.CountedEntries.{entries_counted, renaming_counted, deletion_counted}

-- records that are written are counted alike by tests that agree
writes_alike : (count : ℕ) (kind : Kind) (entries blocks others more : ℕ → Bool) (free_e free_r : ℕ) (later : Bool) (n : ℕ) → ((m : ℕ) → entries m ≡ others m) → ((m : ℕ) → blocks m ≡ more m)
    → write_count kind entries blocks free_e free_r later n count ≡ write_count kind others more free_e free_r later n count
unfolding write_count
writes_alike zero kind entries blocks others more free_e free_r later n one two = refl
writes_alike (suc count) kind entries blocks others more free_e free_r later n one two =
    let e : entry_more kind entries later n ≡ entry_more kind others later n = ap (λ b. b && not (later && same_entry kind n (n - 1))) (one n) in
    let b : block_more kind blocks later n ≡ block_more kind more later n = ap (λ b. b && not (later && same_block kind n (n - 1))) (two n) in
    let of : Bool → Bool → Count = λ x y. unless_refused (room_error x y free_e free_r) (record_units kind x y)
    (write_count kind entries blocks (free_e - one_if x) (free_r - (if y then block_records kind else 0)) true (n + 1) count) in
    let x : Bool = entry_more kind others later n in
    let y : Bool = block_more kind more later n in
    ap (λ q. of q (block_more kind blocks later n)) e ∙ ap (of x) b
    ∙ ap (unless_refused (room_error x y free_e free_r) (record_units kind x y))
    (writes_alike count kind entries blocks others more (free_e - one_if x) (free_r - (if y then block_records kind else 0)) true (n + 1) one two)

-- how many units
abbrev counts : Drive → Job → JobKind → Count
counts files job kind = record { units = length (plan_by files job kind).units; error = (untested_by files job kind).error }

reading_planned : (image : List ℕ) (d : Directory) (files : Drive) (job : Job) → Stands image d files
    → count_of (reading files (file_of_job job) job.first job.count) ≡ read_count (record_error d (file_of_job job)) job.first job.count
reading_planned image d files job stands =
    counted_reading job.count files (file_of_job job) job.first
    ∙ reads_alike job.count (read_error files (file_of_job job)) (record_error d (file_of_job job)) job.first (λ m. read_error_same image d files (file_of_job job) m stands)

writing_planned : (image : List ℕ) (d : Directory) (files : Drive) (job : Job) → Stands image d files → counts files job Write ≡ unit_count_by d job Write
writing_planned image d files job stands =
    let file : FileName = file_of_job job in
    counted_writing files file job.first (records_of_job job) job.stamp (image_whole image d files file stands)
    ∙ ap (λ k. write_count k (needs_entry files file) (needs_block files file) (free_entries files) (free_records files) false job.first (length (records_of_job job))) (kind_of image d files stands)
    ∙ ap (write_count d.kind (needs_entry files file) (needs_block files file) (free_entries files) (free_records files) false job.first)
    (length-map-range_with_len (record_at job.bytes) 0 job.count)
    ∙ ap (λ q. write_count d.kind (needs_entry files file) (needs_block files file) q (free_records files) false job.first job.count) (sym (free_entries_same image d files stands))
    ∙ ap (λ q. write_count d.kind (needs_entry files file) (needs_block files file) (free_entries_in d) q false job.first job.count) (sym (free_records_same image d files stands))
    ∙ writes_alike job.count d.kind (needs_entry files file) (needs_block files file) (lacks_entry d file) (lacks_block d file) (free_entries_in d) (free_records_in d) false job.first
    (λ m. entry_needed image d files file m stands) (λ m. block_needed image d files file m stands)

testing_planned : (image : List ℕ) (d : Directory) (files : Drive) (job : Job) → Stands image d files → counts files job TestWrite ≡ unit_count_by d job TestWrite
testing_planned image d files job stands =
    let file : FileName = file_of_job job in
    let plan : CallPlan = reading files file job.first job.count in
    ap (λ n. record { units = n; error = plan.error })
    (testing_counted (tests_of_job job) files file job.first job.stamp (image_whole image d files file stands)
    ∙ ap (λ n. (read_count (read_error files file) job.first n).units) (length-map-range_with_len (test_at job.bytes job.count) 0 job.count)
    ∙ sym (ap (λ (c : Count). c.units) (counted_reading job.count files file job.first)))
    ∙ reading_planned image d files job stands

making_size : (b : Bool) (one other : FileUnit) → length (one ∷ when b other) ≡ 1 + one_if b
making_size true one other = refl
making_size false one other = refl

units_alone : (n m : ℕ) → n ≡ m → ◌≡◌ {A = Count} (record { units = n; error = None }) (record { units = m; error = None })
units_alone n m same = ap (λ u. record { units = u; error = None }) same

counted_by_kind : (image : List ℕ) (d : Directory) (files : Drive) (job : Job) (kind : JobKind) → Stands image d files → counts files job kind ≡ unit_count_by d job kind
counted_by_kind image d files job Read stands = reading_planned image d files job stands
counted_by_kind image d files job Write stands = writing_planned image d files job stands
counted_by_kind image d files job TestWrite stands = testing_planned image d files job stands
counted_by_kind image d files job Make stands =
    units_alone _ _ (making_size (not (job.count == 0)) (AddsEntry (file_of_job job) 0) (PutsXfcb (file_of_job job) (protection_in job)))
counted_by_kind image d files job Delete stands = units_alone _ _ (deletion_counted image d files job.user job.name stands)
counted_by_kind image d files job Rename stands = units_alone _ _ (renaming_counted image d files (file_of_job job) (new_file_of_job job) stands)
counted_by_kind image d files job Attributes stands =
    units_alone _ _ (entries_counted image d files (file_of_job job) (λ number. SetsAttributes (file_of_job job) number (attributes_in job.name)) stands)
counted_by_kind image d files job Label stands = refl
counted_by_kind image d files job Xfcb stands = refl
counted_by_kind image d files job Nothing stands = refl

-- what is left at the beginning
all_left : (units : List FileUnit) → Follows units 0 units
all_left units = record { rest = []; same = append-nil units }

one_ahead : (error : Option RecordError) (unit : FileUnit) (plan : CallPlan) (left : List FileUnit) → Follows plan.units 0 left
    → Follows (unless_failing error (behind (unit ∷ []) plan)).units 0 (unit ∷ left)
one_ahead None unit plan left first = record { rest = first.rest; same = ap (λ l. unit ∷ l) first.same }
one_ahead (Some error) unit plan left first = record { rest = unit ∷ left; same = refl }

reading_first : (count : ℕ) (files : Drive) (file : FileName) (n : ℕ) → Follows (reading files file n count).units 0 (left_reading file n count)
unfolding reading
reading_first zero files file n = record { rest = []; same = refl }
reading_first (suc count) files file n = one_ahead (read_error files file n) (ReadsRecord file n) (reading files file (n + 1) count) (left_reading file (n + 1) count) (reading_first count files file (n + 1))

passing_by : (failed : Bool) (unit : FileUnit) (plan none : CallPlan) (left : List FileUnit) → Follows plan.units 0 left → none.units ≡ []
    → Follows (if failed then none else (behind (unit ∷ []) plan)).units 0 (unit ∷ left)
passing_by true unit plan none left first empty = record { rest = unit ∷ left; same = ap (λ l. l ++ (unit ∷ left)) empty }
passing_by false unit plan none left first empty = record { rest = first.rest; same = ap (λ l. unit ∷ l) first.same }

passing_first : (tests : List TestedRecord) (files : Drive) (file : FileName) (n : ℕ) → Follows (passing files file n tests).units 0 (left_passing file n (length tests))
unfolding passing
passing_first [] files file n = record { rest = []; same = refl }
passing_first (test ∷ tests) files file n =
    passing_by (is_some (read_error files file n)) (PassesRecord file n) (passing files file (n + 1) tests) _ (left_passing file (n + 1) (length tests)) (passing_first tests files file (n + 1)) refl

testing_by : (error : Option RecordError) (b : Bool) (unit : FileUnit) (plan other : CallPlan) (left more : List FileUnit) → Follows plan.units 0 left → Follows other.units 0 more
    → Follows (unless_failing error (if b then behind (unit ∷ []) plan else other)).units 0 (if b then unit ∷ left else more)
testing_by (Some error) b unit plan other left more first second = record { rest = if b then unit ∷ left else more; same = refl }
testing_by None true unit plan other left more first second = record { rest = first.rest; same = ap (λ l. unit ∷ l) first.same }
testing_by None false unit plan other left more first second = second

testing_first : (tests : List TestedRecord) (files : Drive) (file : FileName) (n : ℕ) (stamp : Option (List ℕ)) → Follows (testing files file n tests stamp).units 0 (left_testing files file n tests stamp)
unfolding testing left_testing
testing_first [] files file n stamp = record { rest = []; same = refl }
testing_first (test ∷ tests) files file n stamp =
    let unit : FileUnit = WritesRecord file n test.bytes stamp in
    testing_by (read_error files file n) (has_record files file n test.expected) unit (testing (applied files unit) file (n + 1) tests None) (passing files file n (test ∷ tests))
    (left_testing (applied files unit) file (n + 1) tests None) (left_passing file n (suc (length tests)))
    (testing_first tests (applied files unit) file (n + 1) None) (passing_first (test ∷ tests) files file n)

all_later : (kind : Kind) (numbers : List ℕ) → filter (is_later kind None) numbers ≡ numbers
all_later kind [] = refl
all_later kind (n ∷ numbers) = ap (λ l. n ∷ l) (all_later kind numbers)

setting_first : (files : Drive) (file : FileName) (attributes : List Bool)
    → of_entries files file (λ number. SetsAttributes file number attributes) ≡ left_setting files file attributes None
setting_first files file attributes =
    sym (ap (map (λ number. SetsAttributes file number attributes)) (all_later files.kind (each (extents_of files file) (λ entry. entry.0.number)))
    ∙ map-map (λ number. SetsAttributes file number attributes) (λ entry. entry.0.number) (extents_of files file))

all_of : (n : ℕ) → n ≡ n - 0
all_of n = omega arith

left_by_kind : (files : Drive) (job : Job) (count : Count) (kind : JobKind) → Follows (plan_by files job kind).units 0 (left_by files (begun job count) kind)
left_by_kind files job count Read =
    subst (λ c. Follows (plan_by files job Read).units 0 (left_reading (file_of_job job) (job.first + 0) c)) (all_of job.count)
    (subst (λ n. Follows (plan_by files job Read).units 0 (left_reading (file_of_job job) n job.count)) (sym (add-zero job.first))
    (reading_first job.count files (file_of_job job) job.first))
left_by_kind files job count Write =
    subst (λ n. Follows (plan_by files job Write).units 0 (left_writing files false (file_of_job job) n (records_of_job job) job.stamp)) (sym (add-zero job.first))
    (writing_first (records_of_job job) files (file_of_job job) job.first job.stamp)
left_by_kind files job count TestWrite =
    subst (λ n. Follows (plan_by files job TestWrite).units 0 (left_testing files (file_of_job job) n (tests_of_job job) job.stamp)) (sym (add-zero job.first))
    (testing_first (tests_of_job job) files (file_of_job job) job.first job.stamp)
left_by_kind files job count Make = all_left (plan_by files job Make).units
left_by_kind files job count Delete = all_left (plan_by files job Delete).units
left_by_kind files job count Rename = all_left (plan_by files job Rename).units
left_by_kind files job count Attributes =
    subst (Follows (plan_by files job Attributes).units 0) (setting_first files (file_of_job job) (attributes_in job.name)) (all_left (plan_by files job Attributes).units)
left_by_kind files job count Label = all_left (plan_by files job Label).units
left_by_kind files job count Xfcb = all_left (plan_by files job Xfcb).units
left_by_kind files job count Nothing = all_left (plan_by files job Nothing).units

-- a job that is begun is in service, with no turn ended
none_missed : (before : Drive) (job : Job) (kind : JobKind) → false ≡ missed_by before job 0 kind
none_missed before job TestWrite = refl
none_missed before job Read = refl
none_missed before job Write = refl
none_missed before job Make = refl
none_missed before job Delete = refl
none_missed before job Rename = refl
none_missed before job Attributes = refl
none_missed before job Label = refl
none_missed before job Xfcb = refl
none_missed before job Nothing = refl

no_records : (job : Job) → job ≡ with_records job []
no_records job = refl

serving_begins : (image : List ℕ) (d : Directory) (before : Drive) (job : Job) (count : Count) → Stands image d before → count ≡ unit_count d job
    → IsServingJob before job 0 (begun job count)
unfolding unit_count plan_of untested_plan left_of all_applied all_read
serving_begins image d before job count stands is =
    let same : counts before job job.kind ≡ count = counted_by_kind image d before job job.kind stands ∙ sym is in
    record {
      job_is = no_records job;
      units = ap (λ (c : Count). c.units) (sym same);
      ended = refl;
      moved = refl;
      error = ap (λ (c : Count). c.error) (sym same);
      missed = none_missed before job job.kind;
      left = left_by_kind before job count job.kind;
    }

pub service_begins : (image : List ℕ) (d : Directory) (before : Drive) (job : Job) (count : Count) → Stands image d before → count ≡ unit_count d job
    → IsInService image d before job 0 (begun job count)
unfolding all_applied
service_begins image d before job count stands is = record { stands = stands; serving = serving_begins image d before job count stands is; cleared = tt; entered = λ some. absurd (true≢false (sym some)) }
