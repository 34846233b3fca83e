-- A file that may be made has what its units need.
use Rattle.std.proofs.Common.{◌≡◌, ◌≢◌, ℕ, suc, ◌-◌, ◌≤◌, Bool, true, not, ◌==◌, ◌&&◌, None, refl, sym, ap, subst, ◌∙◌, arith}
use Rattle.std.specs.Prelude.{is_some, slice_index_or}
use Rattle.std.specs.FinMap.{get}
use Rattle.mpm_base.specs.Counts.{one_if}
use Rattle.mpm_mount.specs.Drives.{Drive, entry_number, entry_name, free_entries}
use Rattle.mpm_jobs.specs.declared.jobs.JobKind.TheVariants.{Make}
use Rattle.mpm_jobs.specs.declared.jobs.Job.{Job}
use Rattle.mpm_files.specs.declared.work.Work.{Work}
use Rattle.mpm_files.specs.Units.{Idles, AddsEntry, stages, last_of, applied}
use Rattle.mpm_files.specs.Plans.{plan_of, plan_by, file_of_job, unit_at}
use Rattle.mpm_files.specs.Serving.{units_done, records_after, with_records, IsServingJob}
use Rattle.mpm_files.specs.Turning.{MayMake, SuitsKind, Suits}
use Rattle.mpm_files.proofs.TurnLaws.{one_turn, no_turn}
use Rattle.mpm_files.proofs.NoFile.{no_entry}
use Rattle.mpm_files.proofs.Fitting.{added_entries}

pub may_make : (before : Drive) (job : Job) (j : ℕ) (work : Work) → IsServingJob before job j work → work.job.kind ≡ Make → Suits before job → MayMake before job
may_make before job j work serving is suits = subst (SuitsKind before job) (sym (ap (λ (q : Job). q.kind) serving.job_is) ∙ is) suits.kind

-- its entry
pub record EntryFits (files : Drive) (job : Job) : Type 0 where
  pub none : get files.extents (entry_name files.kind (file_of_job job) 0) ≡ None
  pub room : free_entries files ≢ 0

some_left : (n m : ℕ) → suc m ≤ n → n ≢ 0
some_left n m h none = omega (arith, h, none)

pub made_entry_fits : (before : Drive) (job : Job) (j : ℕ) (work : Work) → IsServingJob before job j work → work.job.kind ≡ Make → Suits before job → work.ended ≡ 0
    → EntryFits (units_done before job j) work.job
made_entry_fits before job j work serving is suits first =
    let may = may_make before job j work serving is suits in
    let at_first : before ≡ units_done before job j = sym (no_turn before job) ∙ ap (units_done before job) (sym first ∙ serving.ended) in
    let now : Job = with_records job (records_after before job j) in
    subst (λ (q : Job). EntryFits (units_done before job j) q) (sym serving.job_is)
    (subst (λ (d : Drive). EntryFits d now) at_first (record {
      none = no_entry before (file_of_job job) (entry_number before.kind 0) may.none;
      room = some_left (free_entries before) (one_if (not (job.count == 0) && not (is_some (get before.xfcbs (file_of_job job))))) may.room;
    }))

-- its XFCB
first_unit : (before : Drive) (job : Job) → job.kind ≡ Make → unit_at before job 0 ≡ AddsEntry (file_of_job job) 0
unfolding plan_of
first_unit before job is = ap (λ k. slice_index_or (plan_by before job k).units 0 (Idles (file_of_job job) None)) is

entry_beside : (before : Drive) (job : Job) → (applied before (AddsEntry (file_of_job job) 0)).xfcbs ≡ before.xfcbs
unfolding applied stages last_of
entry_beside before job = refl

pub made_xfcb_fits : (before : Drive) (job : Job) (j : ℕ) (work : Work) → IsServingJob before job j work → work.job.kind ≡ Make → Suits before job → work.ended ≡ 1
    → not (work.job.count == 0) ≡ true → one_if (not (is_some (get (units_done before job j).xfcbs (file_of_job work.job)))) ≤ free_entries (units_done before job j)
made_xfcb_fits before job j work serving is suits second wanted =
    let may = may_make before job j work serving is suits in
    let kind : job.kind ≡ Make = sym (ap (λ (q : Job). q.kind) serving.job_is) ∙ is in
    let added : units_done before job j ≡ applied before (AddsEntry (file_of_job job) 0) =
    ap (units_done before job) (sym serving.ended ∙ second) ∙ one_turn before job 0 ∙ ap (λ (d : Drive). applied d (unit_at before job 0)) (no_turn before job) ∙ ap (applied before) (first_unit before job kind) in
    let left : free_entries (units_done before job j) ≡ free_entries before - 1 =
    ap free_entries added ∙ added_entries before (file_of_job job) 0 (no_entry before (file_of_job job) (entry_number before.kind 0) may.none) in
    let held : Bool = is_some (get before.xfcbs (file_of_job job)) in
    let comes : not (job.count == 0) ≡ true = ap (λ (q : Job). not (q.count == 0)) (sym serving.job_is) ∙ wanted in
    let room : suc (one_if (not held)) ≤ free_entries before = subst (λ (b : Bool). suc (one_if (b && not held)) ≤ free_entries before) comes may.room in
    let still : is_some (get (units_done before job j).xfcbs (file_of_job work.job)) ≡ held =
    ap (λ (d : Drive). is_some (get d.xfcbs (file_of_job work.job))) added
    ∙ ap (λ xfcbs. is_some (get xfcbs (file_of_job work.job))) (entry_beside before job)
    ∙ ap (λ (q : Job). is_some (get before.xfcbs (file_of_job q))) serving.job_is in
    subst (λ (b : Bool). one_if (not b) ≤ free_entries (units_done before job j)) (sym still) (omega (arith, left, room))
