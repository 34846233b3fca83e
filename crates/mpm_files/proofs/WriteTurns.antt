-- The turns of a job that writes records.
use Rattle.std.proofs.Common.{◌≡◌, ◌≢◌, ◌⊎◌, inl, inr, ℕ, suc, ◌+◌, ◌/◌, ◌≤◌, ◌<◌, Bool, true, false, ◌&&◌, not, List, [], ◌∷◌, Option, Some, None, drop, length, refl, sym, ap, subst, ◌∙◌, arith, ne_eqb}
use Rattle.std.specs.Prelude.{is_some, IfSome, if◌then◌else◌}
use Rattle.std.proofs.lemmas.Bool.{true≢false, false_from_ne_true, cases_lt}
use Rattle.std.proofs.lemmas.List.{append-nil, drop_all}
use Rattle.std.proofs.lemmas.List.FromFn.{length-map-range_with_len}
use Rattle.mpm_mount.specs.Drives.{FileName, Drive, free_records, free_entries}
use Rattle.mpm_mount.specs.Directories.{Directory, Stands, free_block}
use Rattle.mpm_mount.proofs.FreeRecords.{no_free_block}
use Rattle.mpm_jobs.specs.declared.jobs.JobKind.TheVariants.{Write}
use Rattle.mpm_jobs.specs.declared.jobs.Job.{Job}
use Rattle.mpm_files.specs.declared.moving.Step.{Step}
use Rattle.mpm_files.specs.declared.moving.Step.TheVariants.{Entry, Block, Record}
use Rattle.mpm_files.specs.declared.work.Work.{Work}
use Rattle.mpm_files.specs.Stepping.{step_by, step_of, record_next}
use Rattle.mpm_files.proofs.Tied.{entry_needed, block_needed}
use Rattle.mpm_dirent.specs.declared.limits.TheConstants.{LAST_EXTENT, LAST_NAMED, LAST_RECORD}
use Rattle.mpm_blocks.specs.Sectors.{Sectors, sectors_of}
use Rattle.mpm_mount.proofs.LookedUp.{kind_of}
use Rattle.mpm_files.specs.Counting.{lacks_entry, lacks_block}
use Rattle.mpm_files.specs.Standing.{HasFreshBlock}
use Rattle.mpm_files.specs.Units.{FileUnit, Idles, AddsEntry, ClearsBlock, WritesRecord, stages, last_of, applied}
use Rattle.mpm_files.specs.Plans.{file_of_job, record_at, records_of_job, needs_entry, needs_block, clears_blocks, plan_by, plan_of, unit_at}
use Rattle.mpm_files.specs.Serving.{units_done, records_after, with_records, missed_by, has_missed, left_writing, stamp_left, Follows, IsServingJob, IsCleared, IsInService}
use Rattle.mpm_files.specs.Turning.{SuitsKind, Suits, one_ended}
use Rattle.mpm_files.proofs.NextUnits.{items_left, entry_next, clearing_next, writing_next}
use Rattle.mpm_files.proofs.Served.{left_as, serves_on, serves_quietly}
use Rattle.mpm_files.proofs.NextDone.{IsDone}
use Rattle.mpm_files.proofs.DeleteTurns.{never_empty}
use Rattle.mpm_files.proofs.Fitting.{AllSo, Fits, so_at, writing_fits}

kind_is : (before : Drive) (job : Job) (j : ℕ) (work : Work) → IsServingJob before job j work → work.job.kind ≡ Write → job.kind ≡ Write
kind_is before job j work serving is = sym (ap (λ (q : Job). q.kind) serving.job_is) ∙ is

quiet : (before : Drive) (job : Job) (j k : ℕ) → job.kind ≡ Write → has_missed before job k ≡ has_missed before job j
quiet before job j k is = ap (missed_by before job k) is ∙ sym (ap (missed_by before job j) is)

-- the unit of a turn has what it needs
pub unit_fits : (before : Drive) (job : Job) (j : ℕ) (unit : FileUnit) → job.kind ≡ Write → j < length (plan_of before job).units → unit_at before job j ≡ unit → Fits (units_done before job j) unit
unfolding plan_of
unit_fits before job j unit kind h is =
    subst (Fits (units_done before job j)) is
    (so_at Fits (plan_of before job).units j (Idles (file_of_job job) None) before
    (subst (λ k. AllSo Fits before (plan_by before job k).units) (sym kind) (writing_fits (records_of_job job) before (file_of_job job) job.first job.stamp)) h)

-- the record that is next, and those after it
abbrev pub bytes_now : Work → List ℕ
bytes_now work = record_at work.job.bytes work.moved

abbrev pub stamp_now : Work → Option (List ℕ)
stamp_now work = stamp_left work.job.stamp work.moved

abbrev later_records : Work → List (List ℕ)
later_records work = drop (work.moved + 1) (records_of_job work.job)

no_records : (files : Drive) (cleared : Bool) (file : FileName) (n : ℕ) (records : List (List ℕ)) (stamp : Option (List ℕ)) → records ≡ [] → left_writing files cleared file n records stamp ≡ []
unfolding left_writing
no_records files cleared file n [] stamp none = refl
no_records files cleared file n (bytes ∷ records) stamp none = absurd (omega (arith, ap length none))

pub records_left : (before : Drive) (job : Job) (j : ℕ) (work : Work) → IsServingJob before job j work → work.job.kind ≡ Write → j < length (plan_of before job).units → work.moved < work.job.count
records_left before job j work serving is h = by_size (cases_lt work.moved work.job.count)
  where
    by_size : (work.moved < work.job.count) ⊎ (work.job.count ≤ work.moved) → work.moved < work.job.count
    by_size (inl less) = less
    by_size (inr over) =
        absurd (never_empty (plan_of before job).units j _ (subst (Follows (plan_of before job).units j) (left_as (units_done before job j) work Write is) serving.left)
        (no_records (units_done before job j) (is_some work.cleared) (file_of_job work.job) (record_next work) (drop work.moved (records_of_job work.job)) (stamp_now work)
        (drop_all work.moved (records_of_job work.job) (omega (arith, over, length-map-range_with_len (record_at work.job.bytes) 0 work.job.count)))) h)

left_now : (before : Drive) (job : Job) (j : ℕ) (work : Work) → IsServingJob before job j work → work.job.kind ≡ Write → j < length (plan_of before job).units
    → Follows (plan_of before job).units j
    (left_writing (units_done before job j) (is_some work.cleared) (file_of_job work.job) (record_next work) (bytes_now work ∷ later_records work) (stamp_now work))
left_now before job j work serving is h =
    subst (Follows (plan_of before job).units j)
    (left_as (units_done before job j) work Write is
    ∙ ap (λ rs. left_writing (units_done before job j) (is_some work.cleared) (file_of_job work.job) (record_next work) rs (stamp_now work))
    (items_left (record_at work.job.bytes) work.moved work.job.count (records_left before job j work serving is h)))
    serving.left

-- its directory entry is added
pub entry_written : (before : Drive) (job : Job) (j : ℕ) (work : Work) → IsServingJob before job j work → work.job.kind ≡ Write → j < length (plan_of before job).units
    → (is_some work.cleared ≡ true → needs_entry (units_done before job j) (file_of_job work.job) (record_next work) ≡ false)
    → needs_entry (units_done before job j) (file_of_job work.job) (record_next work) ≡ true
    → IsDone before job j (record work { cleared = None }) (AddsEntry (file_of_job work.job) (record_next work / 128))
entry_written before job j work serving is h entered needs =
    let us : List FileUnit = (plan_of before job).units in
    let files : Drive = units_done before job j in
    let file : FileName = file_of_job work.job in
    let unit : FileUnit = AddsEntry file (record_next work / 128) in
    let new : Work = record work { cleared = None } in
    let none : is_some work.cleared ≡ false = false_from_ne_true (is_some work.cleared) (λ some. true≢false (sym needs ∙ entered some)) in
    let next = entry_next us j files false file (record_next work) (bytes_now work) (later_records work) (stamp_now work) (Idles (file_of_job job) None)
    (subst (λ c. Follows us j (left_writing files c file (record_next work) (bytes_now work ∷ later_records work) (stamp_now work))) none (left_now before job j work serving is h)) needs h in
    record {
      unit_is = next.0;
      serving = serves_quietly before job j work new unit serving h next.0 refl refl refl refl refl refl refl refl (quiet before job j (suc j) (kind_is before job j work serving is))
          (subst (Follows us (suc j))
          (sym (left_as (applied files unit) (one_ended new) Write is
          ∙ ap (λ rs. left_writing (applied files unit) false file (record_next work) rs (stamp_now work)) (items_left (record_at work.job.bytes) work.moved work.job.count (records_left before job j work serving is h))))
          next.1);
    }

-- a block is cleared for it
pub cleared_same : (files : Drive) (file : FileName) (n : ℕ) → applied files (ClearsBlock file n) ≡ files
unfolding applied stages last_of
cleared_same files file n = refl

pub block_cleared : (before : Drive) (job : Job) (j : ℕ) (work : Work) (block : ℕ) → IsServingJob before job j work → work.job.kind ≡ Write → j < length (plan_of before job).units
    → is_some work.cleared ≡ false → needs_entry (units_done before job j) (file_of_job work.job) (record_next work) ≡ false
    → (clears_blocks (units_done before job j).kind && (needs_block (units_done before job j) (file_of_job work.job) (record_next work) && not false)) ≡ true
    → IsDone before job j (record work { cleared = Some block }) (ClearsBlock (file_of_job work.job) (record_next work))
block_cleared before job j work block serving is h none no_entry clears =
    let us : List FileUnit = (plan_of before job).units in
    let files : Drive = units_done before job j in
    let file : FileName = file_of_job work.job in
    let unit : FileUnit = ClearsBlock file (record_next work) in
    let new : Work = record work { cleared = Some block } in
    let next = clearing_next us j files file (record_next work) (bytes_now work) (later_records work) (stamp_now work) (Idles (file_of_job job) None)
    (subst (λ c. Follows us j (left_writing files c file (record_next work) (bytes_now work ∷ later_records work) (stamp_now work))) none (left_now before job j work serving is h)) no_entry clears h in
    record {
      unit_is = next.0;
      serving = serves_quietly before job j work new unit serving h next.0 refl refl refl refl refl refl refl refl (quiet before job j (suc j) (kind_is before job j work serving is))
          (subst (Follows us (suc j))
          (sym (left_as (applied files unit) (one_ended new) Write is
          ∙ ap (λ rs. left_writing (applied files unit) true file (record_next work) rs (stamp_now work)) (items_left (record_at work.job.bytes) work.moved work.job.count (records_left before job j work serving is h))
          ∙ ap (λ (drive : Drive). left_writing drive true file (record_next work) (bytes_now work ∷ later_records work) (stamp_now work)) (cleared_same files file (record_next work))))
          next.1);
    }

-- the record is written
pub next_number : (first moved : ℕ) → first + moved + 1 ≡ first + (moved + 1)
next_number first moved = omega arith

pub no_stamp : (stamp : Option (List ℕ)) (moved : ℕ) → stamp_left stamp (moved + 1) ≡ None
no_stamp stamp moved = ap (λ b. if b then stamp else None) (ne_eqb (moved + 1) 0 (λ none. omega arith))

pub record_written : (before : Drive) (job : Job) (j : ℕ) (work : Work) → IsServingJob before job j work → work.job.kind ≡ Write → j < length (plan_of before job).units
    → needs_entry (units_done before job j) (file_of_job work.job) (record_next work) ≡ false
    → (clears_blocks (units_done before job j).kind && (needs_block (units_done before job j) (file_of_job work.job) (record_next work) && not (is_some work.cleared))) ≡ false
    → IsDone before job j (record work { moved = work.moved + 1; cleared = None }) (WritesRecord (file_of_job work.job) (record_next work) (bytes_now work) (stamp_now work))
record_written before job j work serving is h no_entry no_block =
    let us : List FileUnit = (plan_of before job).units in
    let files : Drive = units_done before job j in
    let file : FileName = file_of_job work.job in
    let unit : FileUnit = WritesRecord file (record_next work) (bytes_now work) (stamp_now work) in
    let new : Work = record work { moved = work.moved + 1; cleared = None } in
    let next = writing_next us j files (is_some work.cleared) file (record_next work) (bytes_now work) (later_records work) (stamp_now work) (Idles (file_of_job job) None)
    (left_now before job j work serving is h) no_entry no_block h in
    record {
      unit_is = next.0;
      serving = serves_on before job j work new unit serving h next.0
          (serving.job_is ∙ ap (with_records job) (sym (append-nil (records_after before job j)))) refl refl refl refl
          (serving.missed ∙ sym (quiet before job j (suc j) (kind_is before job j work serving is)))
          (subst (Follows us (suc j))
          (sym (left_as (applied files unit) (one_ended new) Write is
          ∙ ap (λ n. left_writing (applied files unit) false file n (later_records work) (stamp_left work.job.stamp (work.moved + 1))) (sym (next_number work.job.first work.moved))
          ∙ ap (left_writing (applied files unit) false file (record_next work + 1) (later_records work)) (no_stamp work.job.stamp work.moved)))
          next.1);
    }

-- what each step asks of the directory, and what it finds there
pub may_write : (before : Drive) (job : Job) (j : ℕ) (work : Work) → IsServingJob before job j work → work.job.kind ≡ Write → Suits before job → job.first + job.count ≤ LAST_RECORD + 1
may_write before job j work serving is suits = subst (SuitsKind before job) (kind_is before job j work serving is) suits.kind

pub extent_small : (before : Drive) (job : Job) (j : ℕ) (work : Work) → IsServingJob before job j work → work.job.kind ≡ Write → j < length (plan_of before job).units → Suits before job
    → record_next work / 128 ≤ LAST_EXTENT
extent_small before job j work serving is h suits =
    omega (arith, records_left before job j work serving is h, ap (λ (q : Job). q.first) serving.job_is, ap (λ (q : Job). q.count) serving.job_is, may_write before job j work serving is suits)

pub number_small : (before : Drive) (job : Job) (j : ℕ) (work : Work) → IsServingJob before job j work → work.job.kind ≡ Write → j < length (plan_of before job).units → Suits before job
    → record_next work ≤ LAST_NAMED
number_small before job j work serving is h suits =
    omega (arith, records_left before job j work serving is h, ap (λ (q : Job). q.first) serving.job_is, ap (λ (q : Job). q.count) serving.job_is, suits.first, suits.count)

pub few_moved : (before : Drive) (job : Job) (j : ℕ) (work : Work) → IsServingJob before job j work → work.job.kind ≡ Write → j < length (plan_of before job).units → Suits before job
    → work.moved < 16
few_moved before job j work serving is h suits = omega (arith, records_left before job j work serving is h, ap (λ (q : Job). q.count) serving.job_is, suits.count)

-- the lowest free block is there where a block is needed
pub block_free : (image : List ℕ) (d : Directory) (before : Drive) (job : Job) (j : ℕ) → Stands image d (units_done before job j) → free_records (units_done before job j) ≢ 0 → is_some (free_block d) ≡ true
block_free image d before job j stands some = by_block (free_block d) refl
  where
    by_block : (o : Option ℕ) → free_block d ≡ o → is_some o ≡ true
    by_block (Some block) is = refl
    by_block None is = absurd (some (no_free_block image d (units_done before job j) stands is))

-- what comes next of a record, by the drive
is_entry : Step → Bool
is_entry Entry = true
is_entry Block = false
is_entry Record = false

pub step_entry : (a b : Bool) → step_by a b ≡ Entry → a ≡ true
unfolding is_entry
step_entry true b is = refl
step_entry false true is = absurd (true≢false (sym (ap is_entry is)))
step_entry false false is = absurd (true≢false (sym (ap is_entry is)))

pub entry_missing : (image : List ℕ) (d : Directory) (before : Drive) (job : Job) (j : ℕ) (work : Work) → Stands image d (units_done before job j) → step_of d work (record_next work) ≡ Entry
    → needs_entry (units_done before job j) (file_of_job work.job) (record_next work) ≡ true
entry_missing image d before job j work stands is =
    entry_needed image d (units_done before job j) (file_of_job work.job) (record_next work) stands ∙ step_entry _ _ is

-- the unit that adds an entry has a free one
pub entry_room : (before : Drive) (job : Job) (j : ℕ) (work : Work) (extent : ℕ) → IsServingJob before job j work → work.job.kind ≡ Write → j < length (plan_of before job).units
    → unit_at before job j ≡ AddsEntry (file_of_job work.job) extent → free_entries (units_done before job j) ≢ 0
entry_room before job j work extent serving is h unit = unit_fits before job j (AddsEntry (file_of_job work.job) extent) (kind_is before job j work serving is) h unit

is_block : Step → Bool
is_block Entry = false
is_block Block = true
is_block Record = false

step_block : (a b : Bool) → step_by a b ≡ Block → (a ≡ false) × (b ≡ true)
unfolding is_block
step_block true b is = absurd (true≢false (sym (ap is_block is)))
step_block false true is = (refl, refl)
step_block false false is = absurd (true≢false (sym (ap is_block is)))

-- the clearing of its block is next, and a free block is there
pub entry_entered : (image : List ℕ) (d : Directory) (before : Drive) (job : Job) (j : ℕ) (work : Work) → Stands image d (units_done before job j) → step_of d work (record_next work) ≡ Block
    → needs_entry (units_done before job j) (file_of_job work.job) (record_next work) ≡ false
entry_entered image d before job j work stands is =
    entry_needed image d (units_done before job j) (file_of_job work.job) (record_next work) stands ∙ (step_block _ _ is).0

is_to_clear : (a b c : Bool) → (a && (b && not c)) ≡ true → (a ≡ true) × (c ≡ false)
is_to_clear true true true is = absurd (true≢false (sym is))
is_to_clear true true false is = (refl, refl)
is_to_clear true false c is = absurd (true≢false (sym is))
is_to_clear false b c is = absurd (true≢false (sym is))

pub block_ready : (image : List ℕ) (d : Directory) (before : Drive) (job : Job) (j : ℕ) (work : Work) (block : ℕ) → IsInService image d before job j work → work.job.kind ≡ Write
    → j < length (plan_of before job).units → step_of d work (record_next work) ≡ Block
    → IsDone before job j (record work { cleared = Some block }) (ClearsBlock (file_of_job work.job) (record_next work))
block_ready image d before job j work block service kind h is =
    let files : Drive = units_done before job j in
    let file : FileName = file_of_job work.job in
    let tests = (step_block _ _ is).1 in
    let clears = is_to_clear (clears_blocks d.kind) (lacks_block d file (record_next work)) (is_some work.cleared) tests in
    block_cleared before job j work block service.serving kind h clears.1 (entry_entered image d before job j work service.stands is)
    (ap (λ k. clears_blocks k && (needs_block files file (record_next work) && not false)) (kind_of image d files service.stands)
    ∙ ap (λ b. clears_blocks d.kind && (b && not false)) (block_needed image d files file (record_next work) service.stands)
    ∙ ap (λ c. clears_blocks d.kind && (lacks_block d file (record_next work) && not c)) (sym clears.1) ∙ tests)

pub block_to_clear : (image : List ℕ) (d : Directory) (before : Drive) (job : Job) (j : ℕ) (work : Work) → IsInService image d before job j work → work.job.kind ≡ Write
    → j < length (plan_of before job).units → step_of d work (record_next work) ≡ Block → (clears_blocks d.kind ≡ true) × (is_some (free_block d) ≡ true)
block_to_clear image d before job j work service kind h is = (
  (is_to_clear (clears_blocks d.kind) (lacks_block d (file_of_job work.job) (record_next work)) (is_some work.cleared) (step_block _ _ is).1).0,
  block_free image d before job j service.stands
      (unit_fits before job j (ClearsBlock (file_of_job work.job) (record_next work)) (kind_is before job j work service.serving kind) h (block_ready image d before job j work 0 service kind h is).unit_is),
)

is_record : Step → Bool
is_record Entry = false
is_record Block = false
is_record Record = true

pub step_record : (a b : Bool) → step_by a b ≡ Record → (a ≡ false) × (b ≡ false)
unfolding is_record
step_record true b is = absurd (true≢false (sym (ap is_record is)))
step_record false true is = absurd (true≢false (sym (ap is_record is)))
step_record false false is = (refl, refl)

-- the record is next
pub record_ready : (image : List ℕ) (d : Directory) (before : Drive) (job : Job) (j : ℕ) (work : Work) → Stands image d (units_done before job j) → IsServingJob before job j work
    → work.job.kind ≡ Write → j < length (plan_of before job).units → step_of d work (record_next work) ≡ Record
    → IsDone before job j (record work { moved = work.moved + 1; cleared = None }) (WritesRecord (file_of_job work.job) (record_next work) (bytes_now work) (stamp_now work))
record_ready image d before job j work stands serving kind h is =
    let files : Drive = units_done before job j in
    let parts = step_record _ _ is in
    record_written before job j work serving kind h (entry_needed image d files (file_of_job work.job) (record_next work) stands ∙ parts.0)
    (ap (λ k. clears_blocks k && (needs_block files (file_of_job work.job) (record_next work) && not (is_some work.cleared))) (kind_of image d files stands)
    ∙ ap (λ b. clears_blocks d.kind && (b && not (is_some work.cleared))) (block_needed image d files (file_of_job work.job) (record_next work) stands) ∙ parts.1)

-- a fresh block for it is there
fresh_by : (c lacks : Bool) (sectors : Sectors) (d : Directory) (cleared : Option ℕ) → (c && (lacks && not (is_some cleared))) ≡ false → lacks ≡ true → IfSome cleared (IsCleared sectors d)
    → is_some (free_block d) ≡ true → HasFreshBlock c sectors d cleared
fresh_by true true sectors d (Some block) none e given free = given
fresh_by true true sectors d None none e given free = absurd (true≢false none)
fresh_by true false sectors d cleared none e given free = absurd (true≢false (sym e))
fresh_by false lacks sectors d cleared none e given free = free

pub fresh_ready : (image : List ℕ) (d : Directory) (before : Drive) (job : Job) (j : ℕ) (work : Work) → IsInService image d before job j work → work.job.kind ≡ Write → j < length (plan_of before job).units
    → step_of d work (record_next work) ≡ Record → lacks_block d (file_of_job work.job) (record_next work) ≡ true → HasFreshBlock (clears_blocks d.kind) (sectors_of image d.kind) d work.cleared
fresh_ready image d before job j work service kind h is lacks =
    let files : Drive = units_done before job j in
    let unit : FileUnit = WritesRecord (file_of_job work.job) (record_next work) (bytes_now work) (stamp_now work) in
    let fits : Fits files unit = unit_fits before job j unit (kind_is before job j work service.serving kind) h (record_ready image d before job j work service.stands service.serving kind h is).unit_is in
    fresh_by (clears_blocks d.kind) (lacks_block d (file_of_job work.job) (record_next work)) (sectors_of image d.kind) d work.cleared ((step_record _ _ is).1) lacks service.cleared
    (block_free image d before job j service.stands (fits (block_needed image d files (file_of_job work.job) (record_next work) service.stands ∙ lacks)))

pub entry_there : (d : Directory) (work : Work) → step_of d work (record_next work) ≡ Record → lacks_entry d (file_of_job work.job) (record_next work) ≡ false
entry_there d work is = (step_record _ _ is).0
