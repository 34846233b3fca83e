-- The turns of a job whose units don't depend on the drive: that makes a file, or puts an XFCB, the label or a stamp.
use Rattle.std.proofs.Common.{◌≡◌, ◌≢◌, ◌⊎◌, inl, inr, ℕ, zero, suc, ◌+◌, ◌≤◌, ◌<◌, Bool, true, false, not, ◌==◌, List, [], ◌∷◌, None, drop, length, refl, sym, ap, subst, ◌∙◌, arith}
use Rattle.std.specs.Prelude.{is_some, slice_index_or}
use Rattle.std.specs.FinMap.{get}
use Rattle.std.proofs.lemmas.List.{drop_all}
use Rattle.std.proofs.lemmas.Bool.{cases_lt}
use Rattle.mpm_base.specs.Counts.{one_if}
use Rattle.mpm_mount.specs.Drives.{Drive, free_entries}
use Rattle.mpm_jobs.specs.declared.jobs.JobKind.{JobKind}
use Rattle.mpm_jobs.specs.declared.jobs.JobKind.TheVariants.{Make, Label, Xfcb, Nothing}
use Rattle.mpm_jobs.specs.declared.jobs.Job.{Job}
use Rattle.mpm_files.specs.declared.work.Work.{Work}
use Rattle.mpm_files.specs.Units.{FileUnit, Idles, PutsXfcb, PutsLabel, AddsEntry, applied}
use Rattle.mpm_files.specs.Plans.{plan_by, plan_of, file_of_job, protection_in, making, when}
use Rattle.mpm_files.specs.Serving.{units_done, records_moved, record_read, missed_by, left_by, Follows, IsServingJob}
use Rattle.mpm_files.specs.Turning.{SuitsKind, Suits, one_ended}
use Rattle.mpm_files.proofs.TurnLaws.{no_turn}
use Rattle.mpm_files.proofs.NextUnits.{units_left, next_of}
use Rattle.mpm_files.proofs.Served.{left_as, serves_quietly}
use Rattle.mpm_files.proofs.NextDone.{IsDone}
use Rattle.mpm_files.proofs.DeleteTurns.{never_empty}

-- what is left of these units isn't nothing
some_left : (units fixed : List FileUnit) (j k : ℕ) → Follows units j (drop k fixed) → j < length units → k < length fixed
some_left units fixed j k follows h = by_size (cases_lt k (length fixed))
  where
    by_size : (k < length fixed) ⊎ (length fixed ≤ k) → k < length fixed
    by_size (inl less) = less
    by_size (inr over) = absurd (never_empty units j (drop k fixed) follows (drop_all k fixed over) h)

-- the next of them is done
pub fixed_done : (before : Drive) (job : Job) (j : ℕ) (work : Work) (kind : JobKind) (fixed : List FileUnit) → IsServingJob before job j work → work.job.kind ≡ kind
    → ((drive : Drive) (w : Work) → w.job ≡ work.job → left_by drive w kind ≡ drop w.ended fixed)
    → ((k : ℕ) → missed_by before job k kind ≡ missed_by before job j kind)
    → ((k : ℕ) → k < length fixed → (records_moved (slice_index_or fixed k (Idles (file_of_job job) None)) ≡ 0)
    × ((drive : Drive) → record_read drive (slice_index_or fixed k (Idles (file_of_job job) None)) ≡ []))
    → j < length (plan_of before job).units
    → (work.ended < length fixed) × IsDone before job j (record work { cleared = None }) (slice_index_or fixed work.ended (Idles (file_of_job job) None))
fixed_done before job j work kind fixed serving is left misses still h =
    let us : List FileUnit = (plan_of before job).units in
    let files : Drive = units_done before job j in
    let other : FileUnit = Idles (file_of_job job) None in
    let unit : FileUnit = slice_index_or fixed work.ended other in
    let new : Work = record work { cleared = None } in
    let follows : Follows us j (drop work.ended fixed) = subst (Follows us j) (left_as files work kind is ∙ left files work refl) serving.left in
    let less : work.ended < length fixed = some_left us fixed j work.ended follows h in
    let next = next_of us j unit other (drop (work.ended + 1) fixed) (drop work.ended fixed) follows (units_left fixed work.ended other less) h in
    let of_kind : job.kind ≡ kind = sym (ap (λ (q : Job). q.kind) serving.job_is) ∙ is in
    let quiet = still work.ended less in (
      less,
      record {
        unit_is = next.0;
        serving = serves_quietly before job j work new unit serving h next.0 quiet.0 (quiet.1 files) refl refl refl refl refl refl
            (ap (missed_by before job (suc j)) of_kind ∙ misses (suc j) ∙ sym (ap (missed_by before job j) of_kind))
            (subst (Follows us (suc j)) (sym (left_as (applied files unit) (one_ended new) kind is ∙ left (applied files unit) (one_ended new) refl)) next.1);
      },
    )

-- jobs of one unit
only_first : (unit other : FileUnit) (k : ℕ) → k < length (unit ∷ []) → slice_index_or (unit ∷ []) k other ≡ unit
only_first unit other zero h = refl
only_first unit other (suc k) h = absurd (omega arith)

one_done : (before : Drive) (job : Job) (j : ℕ) (work : Work) (kind : JobKind) (unit : FileUnit) → IsServingJob before job j work → work.job.kind ≡ kind
    → ((drive : Drive) (w : Work) → w.job ≡ work.job → left_by drive w kind ≡ drop w.ended (unit ∷ []))
    → ((k : ℕ) → missed_by before job k kind ≡ missed_by before job j kind) → records_moved unit ≡ 0 → ((drive : Drive) → record_read drive unit ≡ [])
    → j < length (plan_of before job).units → IsDone before job j (record work { cleared = None }) unit
one_done before job j work kind unit serving is left misses moves reads h =
    let other : FileUnit = Idles (file_of_job job) None in
    let done = fixed_done before job j work kind (unit ∷ []) serving is left misses
    (λ k less. (ap records_moved (only_first unit other k less) ∙ moves, λ drive. ap (record_read drive) (only_first unit other k less) ∙ reads drive)) h in
    subst (IsDone before job j (record work { cleared = None })) (only_first unit other work.ended done.0) done.1

pub label_done : (before : Drive) (job : Job) (j : ℕ) (work : Work) → IsServingJob before job j work → work.job.kind ≡ Label → j < length (plan_of before job).units
    → IsDone before job j (record work { cleared = None }) (PutsLabel (record { name = work.job.new_name; protection = protection_in work.job }))
label_done before job j work serving is h =
    one_done before job j work Label (PutsLabel (record { name = work.job.new_name; protection = protection_in work.job })) serving is
    (λ drive w same. ap (λ (q : Job). drop w.ended (PutsLabel (record { name = q.new_name; protection = protection_in q }) ∷ [])) same)
    (λ k. refl) refl (λ drive. refl) h

pub xfcb_done : (before : Drive) (job : Job) (j : ℕ) (work : Work) → IsServingJob before job j work → work.job.kind ≡ Xfcb → j < length (plan_of before job).units
    → IsDone before job j (record work { cleared = None }) (PutsXfcb (file_of_job work.job) (protection_in work.job))
xfcb_done before job j work serving is h =
    one_done before job j work Xfcb (PutsXfcb (file_of_job work.job) (protection_in work.job)) serving is
    (λ drive w same. ap (λ (q : Job). drop w.ended (PutsXfcb (file_of_job q) (protection_in q) ∷ [])) same) (λ k. refl) refl (λ drive. refl) h

pub idle_done : (before : Drive) (job : Job) (j : ℕ) (work : Work) → IsServingJob before job j work → work.job.kind ≡ Nothing → j < length (plan_of before job).units
    → IsDone before job j (record work { cleared = None }) (Idles (file_of_job work.job) work.job.stamp)
idle_done before job j work serving is h =
    one_done before job j work Nothing (Idles (file_of_job work.job) work.job.stamp) serving is
    (λ drive w same. ap (λ (q : Job). drop w.ended (Idles (file_of_job q) q.stamp ∷ [])) same) (λ k. refl) refl (λ drive. refl) h

-- a file is made: its entry, and then its XFCB
making_at : (job : Job) (b : Bool) (other : FileUnit) (k : ℕ) → k < length (AddsEntry (file_of_job job) 0 ∷ when b (PutsXfcb (file_of_job job) (protection_in job)))
    → (records_moved (slice_index_or (AddsEntry (file_of_job job) 0 ∷ when b (PutsXfcb (file_of_job job) (protection_in job))) k other) ≡ 0)
    × ((drive : Drive) → record_read drive (slice_index_or (AddsEntry (file_of_job job) 0 ∷ when b (PutsXfcb (file_of_job job) (protection_in job))) k other) ≡ [])
making_at job b other zero h = (refl, λ drive. refl)
making_at job true other (suc zero) h = (refl, λ drive. refl)
making_at job true other (suc (suc k)) h = absurd (omega arith)
making_at job false other (suc k) h = absurd (omega arith)

made : (before : Drive) (job : Job) (j : ℕ) (work : Work) → IsServingJob before job j work → work.job.kind ≡ Make → j < length (plan_of before job).units
    → (work.ended < length (making work.job)) × IsDone before job j (record work { cleared = None }) (slice_index_or (making work.job) work.ended (Idles (file_of_job job) None))
made before job j work serving is h =
    fixed_done before job j work Make (making work.job) serving is (λ drive w same. ap (λ (q : Job). drop w.ended (making q)) same) (λ k. refl)
    (making_at work.job (not (work.job.count == 0)) (Idles (file_of_job job) None)) h

pub entry_made : (before : Drive) (job : Job) (j : ℕ) (work : Work) → IsServingJob before job j work → work.job.kind ≡ Make → j < length (plan_of before job).units → work.ended ≡ 0
    → IsDone before job j (record work { cleared = None }) (AddsEntry (file_of_job work.job) 0)
entry_made before job j work serving is h none =
    subst (λ k. IsDone before job j (record work { cleared = None }) (slice_index_or (making work.job) k (Idles (file_of_job job) None))) none (made before job j work serving is h).1

-- the second unit is there where an XFCB is to come
second_made : (job : Job) (b : Bool) (other : FileUnit) (k : ℕ) → k < length (AddsEntry (file_of_job job) 0 ∷ when b (PutsXfcb (file_of_job job) (protection_in job))) → k ≢ 0
    → (b ≡ true) × ((k ≡ 1) × (slice_index_or (AddsEntry (file_of_job job) 0 ∷ when b (PutsXfcb (file_of_job job) (protection_in job))) k other ≡ PutsXfcb (file_of_job job) (protection_in job)))
second_made job b other zero h some = absurd (some refl)
second_made job true other (suc zero) h some = (refl, (refl, refl))
second_made job true other (suc (suc k)) h some = absurd (omega arith)
second_made job false other (suc k) h some = absurd (omega arith)

pub record XfcbMade (before : Drive) (job : Job) (j : ℕ) (work : Work) : Type 0 where
  pub done : IsDone before job j (record work { cleared = None }) (PutsXfcb (file_of_job work.job) (protection_in work.job))
  pub wanted : not (work.job.count == 0) ≡ true
  pub second : work.ended ≡ 1

pub xfcb_made : (before : Drive) (job : Job) (j : ℕ) (work : Work) → IsServingJob before job j work → work.job.kind ≡ Make → j < length (plan_of before job).units → work.ended ≢ 0
    → XfcbMade before job j work
xfcb_made before job j work serving is h some =
    let done = made before job j work serving is h in
    let second = second_made work.job (not (work.job.count == 0)) (Idles (file_of_job job) None) work.ended done.0 some in
    record {
      done = subst (IsDone before job j (record work { cleared = None })) second.1.1 done.1;
      wanted = second.0;
      second = second.1.0;
    }

-- an XFCB or a label that may come has room
one_unit : (us : List FileUnit) (j : ℕ) → length us ≡ 1 → j < length us → j ≡ 0
one_unit us j size h = omega (arith, size, h)

at_first : (before : Drive) (job : Job) (j : ℕ) (kind : JobKind) → job.kind ≡ kind → length (plan_by before job kind).units ≡ 1 → j < length (plan_of before job).units
    → before ≡ units_done before job j
unfolding plan_of
at_first before job j kind is size h =
    sym (no_turn before job)
    ∙ ap (units_done before job) (sym (one_unit (plan_of before job).units j (ap (λ k. length (plan_by before job k).units) is ∙ size) h))

pub label_room : (before : Drive) (job : Job) (j : ℕ) (work : Work) → IsServingJob before job j work → work.job.kind ≡ Label → Suits before job → j < length (plan_of before job).units
    → one_if (not (is_some (units_done before job j).label)) ≤ free_entries (units_done before job j)
label_room before job j work serving is suits h =
    let kind : job.kind ≡ Label = sym (ap (λ (q : Job). q.kind) serving.job_is) ∙ is in
    subst (λ (d : Drive). one_if (not (is_some d.label)) ≤ free_entries d) (at_first before job j Label kind refl h) (subst (SuitsKind before job) kind suits.kind)

pub xfcb_room : (before : Drive) (job : Job) (j : ℕ) (work : Work) → IsServingJob before job j work → work.job.kind ≡ Xfcb → Suits before job → j < length (plan_of before job).units
    → one_if (not (is_some (get (units_done before job j).xfcbs (file_of_job work.job)))) ≤ free_entries (units_done before job j)
xfcb_room before job j work serving is suits h =
    let kind : job.kind ≡ Xfcb = sym (ap (λ (q : Job). q.kind) serving.job_is) ∙ is in
    subst (λ (q : Job). one_if (not (is_some (get (units_done before job j).xfcbs (file_of_job q)))) ≤ free_entries (units_done before job j)) (sym serving.job_is)
    (subst (λ (d : Drive). one_if (not (is_some (get d.xfcbs (file_of_job job)))) ≤ free_entries d) (at_first before job j Xfcb kind refl h) (subst (SuitsKind before job) kind suits.kind))
