-- A unit more is done: a cursor that was moved on serves its job still.
use Rattle.std.proofs.Common.{◌≡◌, ℕ, zero, suc, ◌+◌, ◌≤◌, ◌<◌, List, [], ◌∷◌, ◌++◌, None, take, drop, length, refl, sym, ap, subst, ◌∙◌, arith, add-zero, take_all}
use Rattle.std.specs.Prelude.{sum_by, slice_index_or}
use Rattle.std.specs.List.{list_any}
use Rattle.std.proofs.lemmas.List.{append-nil, append_assoc, nil_from_length}
use Rattle.std.proofs.lemmas.List.Sums.{sum_by-cons, sum_by-append}
use Rattle.mpm_mount.specs.Drives.{Drive}
use Rattle.mpm_jobs.specs.declared.jobs.JobKind.{JobKind}
use Rattle.mpm_jobs.specs.declared.jobs.JobKind.TheVariants.{Read, Write, TestWrite, Make, Delete, Rename, Attributes, Label, Xfcb, Nothing}
use Rattle.mpm_jobs.specs.declared.jobs.Job.{Job}
use Rattle.mpm_files.specs.declared.work.Work.{Work}
use Rattle.mpm_files.specs.Units.{FileUnit, Idles, applied, all_applied}
use Rattle.mpm_files.specs.Plans.{plan_of, file_of_job, unit_at, turns_of}
use Rattle.mpm_files.specs.Serving.{units_done, records_moved, record_read, all_read, records_after, with_records, is_passing, missed_by, has_missed, left_by, left_of, Follows, IsServingJob}
use Rattle.mpm_files.specs.Turning.{one_ended}
use Rattle.mpm_files.proofs.TurnLaws.{one_turn}

-- one unit more
pub take_more : (us : List FileUnit) (j : ℕ) (other : FileUnit) → j < length us → take (suc j) us ≡ take j us ++ (slice_index_or us j other ∷ [])
take_more [] j other h = absurd (omega arith)
take_more (u ∷ us) zero other h = refl
take_more (u ∷ us) (suc j) other h = ap (λ l. u ∷ l) (take_more us j other (omega arith))

pub read_more : (us : List FileUnit) (u : FileUnit) (drive : Drive) → all_read drive (us ++ (u ∷ [])) ≡ all_read drive us ++ record_read (all_applied drive us) u
unfolding all_read all_applied
read_more [] u drive = append-nil (record_read drive u)
read_more (v ∷ us) u drive =
    ap (λ l. record_read drive v ++ l) (read_more us u (applied drive v))
    ∙ sym (append_assoc (record_read drive v) (all_read (applied drive v) us) (record_read (all_applied (applied drive v) us) u))

one_sum : (u : FileUnit) → sum_by records_moved (u ∷ []) ≡ records_moved u
one_sum u = sum_by-cons records_moved u [] ∙ omega arith

records_more : (before : Drive) (job : Job) (j : ℕ) → j < length (plan_of before job).units
    → records_after before job (suc j) ≡ records_after before job j ++ record_read (units_done before job j) (unit_at before job j)
records_more before job j h =
    let us : List FileUnit = (plan_of before job).units in
    ap (all_read before) (take_more us j (Idles (file_of_job job) None) h) ∙ read_more (take j us) (unit_at before job j) before

moved_more : (us : List FileUnit) (j : ℕ) (other : FileUnit) → j < length us
    → sum_by records_moved (take (suc j) us) ≡ sum_by records_moved (take j us) + records_moved (slice_index_or us j other)
moved_more us j other h =
    ap (sum_by records_moved) (take_more us j other h) ∙ sum_by-append records_moved (take j us) (slice_index_or us j other ∷ [])
    ∙ ap (λ n. sum_by records_moved (take j us) + n) (one_sum (slice_index_or us j other))

-- what is left by a cursor, by the sort of its job
pub left_as : (drive : Drive) (work : Work) (kind : JobKind) → work.job.kind ≡ kind → left_of drive work ≡ left_by drive work kind
unfolding left_of
left_as drive work kind is = ap (left_by drive work) is

-- a unit was done, and the cursor says so
pub serves_on : (before : Drive) (job : Job) (j : ℕ) (work new : Work) (unit : FileUnit) → IsServingJob before job j work → j < length (plan_of before job).units
    → unit_at before job j ≡ unit → new.job ≡ with_records job (records_after before job j ++ record_read (units_done before job j) unit)
    → new.units ≡ work.units → new.ended ≡ work.ended → new.moved ≡ work.moved + records_moved unit → new.error ≡ work.error → new.has_missed ≡ has_missed before job (suc j)
    → Follows (plan_of before job).units (suc j) (left_of (applied (units_done before job j) unit) (one_ended new))
    → IsServingJob before job (suc j) (one_ended new)
serves_on before job j work new unit serving h is records units ended moved error missed left =
    let us : List FileUnit = (plan_of before job).units in
    let other : FileUnit = Idles (file_of_job job) None in
    let next : units_done before job (suc j) ≡ applied (units_done before job j) unit = one_turn before job j ∙ ap (applied (units_done before job j)) is in
    record {
      job_is = records
          ∙ ap (λ u. with_records job (records_after before job j ++ record_read (units_done before job j) u)) (sym is)
          ∙ ap (with_records job) (sym (records_more before job j h));
      units = units ∙ serving.units;
      ended = ap (λ n. n + 1) (ended ∙ serving.ended) ∙ omega arith;
      moved = moved ∙ ap (λ n. n + records_moved unit) serving.moved ∙ sym (moved_more us j other h ∙ ap (λ u. sum_by records_moved (take j us) + records_moved u) is);
      error = error ∙ serving.error;
      missed = missed;
      left = subst (λ drive. Follows us (suc j) (left_of drive (one_ended new))) (sym next) left;
    }

-- the same, where the unit neither moves nor reads a record
pub serves_quietly : (before : Drive) (job : Job) (j : ℕ) (work new : Work) (unit : FileUnit) → IsServingJob before job j work → j < length (plan_of before job).units
    → unit_at before job j ≡ unit → records_moved unit ≡ 0 → record_read (units_done before job j) unit ≡ []
    → new.job ≡ work.job → new.units ≡ work.units → new.ended ≡ work.ended → new.moved ≡ work.moved → new.error ≡ work.error → new.has_missed ≡ work.has_missed
    → has_missed before job (suc j) ≡ has_missed before job j
    → Follows (plan_of before job).units (suc j) (left_of (applied (units_done before job j) unit) (one_ended new))
    → IsServingJob before job (suc j) (one_ended new)
serves_quietly before job j work new unit serving h is moves reads job_is units ended moved error missed misses left =
    serves_on before job j work new unit serving h is
    (job_is ∙ serving.job_is ∙ ap (with_records job) (sym (append-nil (records_after before job j)) ∙ ap (λ l. records_after before job j ++ l) (sym reads)))
    units ended (moved ∙ sym (add-zero work.moved) ∙ ap (λ n. work.moved + n) (sym moves)) error (missed ∙ serving.missed ∙ sym misses) left

-- a job without units has one turn, in which nothing is done

pub missed_alike : (before : Drive) (job : Job) (j k : ℕ) (kind : JobKind) → take k (plan_of before job).units ≡ take j (plan_of before job).units
    → missed_by before job k kind ≡ missed_by before job j kind
missed_alike before job j k TestWrite same = ap (list_any is_passing) same
missed_alike before job j k Read same = refl
missed_alike before job j k Write same = refl
missed_alike before job j k Make same = refl
missed_alike before job j k Delete same = refl
missed_alike before job j k Rename same = refl
missed_alike before job j k Attributes same = refl
missed_alike before job j k Label same = refl
missed_alike before job j k Xfcb same = refl
missed_alike before job j k Nothing same = refl

nothing_done : (before : Drive) (job : Job) (k : ℕ) → (plan_of before job).units ≡ [] → take k (plan_of before job).units ≡ []
nothing_done before job k none = take_none k (plan_of before job).units none
  where
    take_none : (i : ℕ) (us : List FileUnit) → us ≡ [] → take i us ≡ []
    take_none i [] e = take_all i [] (omega arith)
    take_none i (u ∷ us) e = absurd (omega (arith, ap length e))

pub done_idly : (before : Drive) (job : Job) (j : ℕ) → j < turns_of before job → length (plan_of before job).units ≤ j → units_done before job (suc j) ≡ units_done before job j
done_idly before job j turn over =
    let none : (plan_of before job).units ≡ [] = nil_from_length (plan_of before job).units (omega arith) in
    ap (all_applied before) (nothing_done before job (suc j) none ∙ sym (nothing_done before job j none))

pub serves_idly : (before : Drive) (job : Job) (j : ℕ) (work : Work) → IsServingJob before job j work → j < turns_of before job → length (plan_of before job).units ≤ j
    → IsServingJob before job (suc j) (one_ended work)
unfolding all_applied all_read
serves_idly before job j work serving turn over =
    let us : List FileUnit = (plan_of before job).units in
    let none : us ≡ [] = nil_from_length us (omega arith) in
    let same : take (suc j) us ≡ take j us = nothing_done before job (suc j) none ∙ sym (nothing_done before job j none) in
    record {
      job_is = serving.job_is ∙ ap (λ l. with_records job (all_read before l)) (sym same);
      units = serving.units;
      ended = ap (λ n. n + 1) serving.ended ∙ omega arith;
      moved = serving.moved ∙ ap (sum_by records_moved) (sym same);
      error = serving.error;
      missed = serving.missed ∙ sym (missed_alike before job j (suc j) job.kind same);
      left = record { rest = left_of (units_done before job (suc j)) (one_ended work); same = ap (λ l. l ++ left_of (units_done before job (suc j)) (one_ended work)) (no_rest us (suc j) none) };
    }
  where
    no_rest : (l : List FileUnit) (i : ℕ) → l ≡ [] → drop i l ≡ []
    no_rest [] zero e = refl
    no_rest [] (suc i) e = refl
    no_rest (u ∷ l) i e = absurd (omega (arith, ap length e))
