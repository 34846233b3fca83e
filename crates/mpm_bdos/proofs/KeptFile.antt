-- A file that a process has open in read-only mode stays as it is in each call of another process, and as another process ends.
use Rattle.std.proofs.Common.{◌≡◌, ◌≢◌, ◌∙◌, inl, inr, ℕ, ◌&&◌, false, List, Option, Some, None, length, refl, sym, ap, subst}
use Rattle.std.specs.Prelude.{slice_set, slice_index_or, unwrap_or}
use Rattle.std.proofs.lemmas.Bool.{cases_eq, cases_lt}
use Rattle.std.proofs.lemmas.List.{get_or-set_same, get_or-set_other, set_past}
use Rattle.mpm_mount.specs.Drives.{FileName, Drive}
use Rattle.mpm_opens.specs.declared.kinds.FileKey.{FileKey}
use Rattle.mpm_opens.specs.Items.{place_at}
use Rattle.mpm_opens.specs.Opens.{AreOpen}
use Rattle.mpm_file_functions.specs.declared.functions.FileFunction.TheVariants.{ReadSequential}
use Rattle.mpm_file_functions.specs.declared.refusals.Refusal.{Refusal}
use Rattle.mpm_jobs.specs.declared.jobs.Job.{Job}
use Rattle.mpm_files.specs.Serving.{units_done}
use Rattle.mpm_files.specs.Containment.{names, changes_entries, KeepsEntries}
use Rattle.mpm_files.proofs.KeptEntries.{entries_stay, entries_same, records_stay}
use Rattle.mpm_refusals.specs.Filing.{Filing, Situation}
use Rattle.mpm_refusals.specs.Subjects.{drive_number, blank_drive, drive_at, is_there, file_of}
use Rattle.mpm_refusals.specs.Refusals.{refusal_of}
use Rattle.mpm_bdos.specs.Jobs.{reading_job, job_by, job_of, call_turns, turned}
use Rattle.mpm_bdos.specs.Changes.{opens_by, filing_after}
use Rattle.mpm_bdos.specs.Outcomes.{outcome_by, file_call, drives_after, left_by, without_search}
use Rattle.mpm_bdos.specs.OpenToRead.{drive_or_blank, HasFile, KeepsFile}
use Rattle.mpm_bdos.proofs.EndingLaws.{own_job}
use Rattle.mpm_bdos.proofs.NextTurns.{job_drives, idle_drives}
use Rattle.mpm_bdos.proofs.OthersItems.{call_leaves, end_leaves}
use Rattle.mpm_bdos.proofs.OtherFiles.{IsHeld, job_leaves}
use Rattle.mpm_bdos.proofs.ThereLaws.{there_stays}

-- a drive among others, where one of them is another
abbrev drive_of : List (Option Drive) → ℕ → Drive
drive_of drives number = unwrap_or (slice_index_or drives number None) blank_drive

put_there : (file : FileName) (drives : List (Option Drive)) (number : ℕ) (new : Drive) → KeepsEntries file (drive_of drives number) new
    → KeepsEntries file (drive_of drives number) (drive_of (slice_set drives number (Some new)) number)
put_there file drives number new keeps =
    elim (cases_lt number (length drives)) [
      | inl within ↦ subst (λ place. KeepsEntries file (drive_of drives number) (unwrap_or place blank_drive)) (sym (get_or-set_same drives number (Some new) None within)) keeps
      | inr past ↦ subst (λ now. KeepsEntries file (drive_of drives number) (drive_of now number)) (sym (set_past drives number (Some new) past)) (entries_same file (drive_of drives number))
    ]

put_somewhere : (file : FileName) (drives : List (Option Drive)) (number other : ℕ) (new : Drive) → (other ≡ number → KeepsEntries file (drive_of drives number) new)
    → KeepsEntries file (drive_of drives other) (drive_of (slice_set drives number (Some new)) other)
put_somewhere file drives number other new keeps =
    elim (cases_eq other number) [
      | inl same ↦ subst (λ k. KeepsEntries file (drive_of drives k) (drive_of (slice_set drives number (Some new)) k)) (sym same) (put_there file drives number new (keeps same))
      | inr apart ↦ subst (λ place. KeepsEntries file (drive_of drives other) (unwrap_or place blank_drive)) (sym (get_or-set_other drives number other (Some new) None apart))
          (entries_same file (drive_of drives other))
    ]

-- the file is none that the call changes
held : (s : Situation) (q : ℕ) (key : FileKey) (number : ℕ) → s.caller.process ≢ q → (has : HasFile q key number s.filing) → key.drive ≡ drive_number s → IsHeld s key number has.item
unfolding drive_at
held s q key number apart has same = record {
  placed = has.placed;
  other = λ e. apart (sym e ∙ has.its_process);
  file = has.its_file;
  mode = has.its_mode;
  drive = same;
  there = ap (λ d. is_there (drive_or_blank s.filing d) (file_of key)) (sym same) ∙ has.there;
}

job_keeps : (s : Situation) (q : ℕ) (key : FileKey) (number : ℕ) (job : Job) (j : ℕ) → s.caller.process ≢ q → AreOpen s.filing.opens → HasFile q key number s.filing
    → refusal_of s ≡ None → job_of s ≡ Some job
    → KeepsEntries (file_of key) (drive_or_blank s.filing key.drive) (drive_of (slice_set s.filing.drives (drive_number s) (Some (units_done (drive_at s) job j))) key.drive)
unfolding drive_at
job_keeps s q key number job j apart sound has none is =
    put_somewhere (file_of key) s.filing.drives (drive_number s) key.drive (units_done (drive_at s) job j)
    (λ same. entries_stay (drive_at s) job j (file_of key)
    (job_leaves s key number has.item (held s q key number apart has same) sound.items none s.function refl job (sym (own_job s none) ∙ is)))

-- while it is in service, with so many turns ended, and after it
pub turns_keep_file : (s : Situation) (q : ℕ) (key : FileKey) (number j : ℕ) → s.caller.process ≢ q → AreOpen s.filing.opens → HasFile q key number s.filing → refusal_of s ≡ None
    → KeepsEntries (file_of key) (drive_or_blank s.filing key.drive) (drive_of (drives_after s j) key.drive)
turns_keep_file s q key number j apart sound has none = by_job (job_of s) refl
  where
    old : Drive
    old = drive_or_blank s.filing key.drive

    by_job : (job : Option Job) → job_of s ≡ job → KeepsEntries (file_of key) old (drive_of (drives_after s j) key.drive)
    by_job None is = subst (λ drives. KeepsEntries (file_of key) old (drive_of drives key.drive)) (sym (idle_drives s j is)) (entries_same (file_of key) old)
    by_job (Some job) is =
        subst (λ drives. KeepsEntries (file_of key) old (drive_of drives key.drive)) (sym (job_drives s job j is)) (job_keeps s q key number job j apart sound has none is)

-- a call whose job changes none
idle_keeps : (s : Situation) (key : FileKey) (job : Job) → refusal_of s ≡ None → job_by s s.function ≡ Some job → changes_entries job.kind ≡ false
    → KeepsEntries (file_of key) (drive_or_blank s.filing key.drive) (drive_of (drives_after s (call_turns s)) key.drive)
unfolding drive_at
idle_keeps s key job none is idle =
    let j : ℕ = call_turns s in
    subst (λ drives. KeepsEntries (file_of key) (drive_or_blank s.filing key.drive) (drive_of drives key.drive)) (sym (job_drives s job j (own_job s none ∙ is)))
    (put_somewhere (file_of key) s.filing.drives (drive_number s) key.drive (units_done (drive_at s) job j)
    (λ same. entries_stay (drive_at s) job j (file_of key) (ap (λ b. b && names (drive_at s) job (file_of key)) idle)))

pub idle_call_keeps : (s : Situation) (key : FileKey) (job : Job) → refusal_of s ≡ None → job_by s s.function ≡ Some job → changes_entries job.kind ≡ false
    → KeepsEntries (file_of key) (drive_or_blank s.filing key.drive) (drive_or_blank (file_call s).filing key.drive)
unfolding file_call filing_after drives_after
idle_call_keeps s key job none is idle =
    subst (λ refusal. KeepsEntries (file_of key) (drive_or_blank s.filing key.drive) (drive_or_blank (outcome_by s (turned s (call_turns s)) refusal).filing key.drive)) (sym none)
    (idle_keeps s key job none is idle)

call_keeps : (s : Situation) (q : ℕ) (key : FileKey) (number : ℕ) → s.caller.process ≢ q → AreOpen s.filing.opens → HasFile q key number s.filing
    → KeepsEntries (file_of key) (drive_or_blank s.filing key.drive) (drive_or_blank (file_call s).filing key.drive)
unfolding file_call filing_after drives_after
call_keeps s q key number apart sound has = by_refusal (refusal_of s) refl
  where
    by_refusal : (refusal : Option Refusal) → refusal_of s ≡ refusal
        → KeepsEntries (file_of key) (drive_or_blank s.filing key.drive) (drive_or_blank (outcome_by s (turned s (call_turns s)) refusal).filing key.drive)
    by_refusal None is = turns_keep_file s q key number (call_turns s) apart sound has is
    by_refusal (Some refusal) is = entries_same (file_of key) (drive_or_blank s.filing key.drive)

pub kept_by_others : (s : Situation) (q : ℕ) (key : FileKey) (number : ℕ) → s.caller.process ≢ q → AreOpen s.filing.opens → HasFile q key number s.filing
    → KeepsFile key number s.filing (file_call s).filing
kept_by_others s q key number apart sound has =
    let keeps = call_keeps s q key number apart sound has in
    record {
      placed = (call_leaves s).stays number has.item has.placed (λ e. apart (sym e ∙ has.its_process)) ∙ sym has.placed;
      there = there_stays (file_of key) (drive_or_blank s.filing key.drive) (drive_or_blank (file_call s).filing key.drive) keeps has.there ∙ sym has.there;
      records = λ n. records_stay (file_of key) (drive_or_blank s.filing key.drive) (drive_or_blank (file_call s).filing key.drive) n keeps;
    }

pub kept_as_left : (filing : Filing) (p q : ℕ) (key : FileKey) (number : ℕ) → p ≢ q → HasFile q key number filing
    → KeepsFile key number filing (without_search (left_by filing p) p)
unfolding left_by without_search
kept_as_left filing p q key number apart has = record {
  placed = (end_leaves filing p).stays number has.item has.placed (λ e. apart (sym e ∙ has.its_process)) ∙ sym has.placed;
  there = refl;
  records = λ n. refl;
}

-- a call that reads changes no file, and nothing that is open
reads_open : (s : Situation) (number : ℕ) → s.function ≡ ReadSequential → (refusal : Option Refusal)
    → place_at (outcome_by s (turned s (call_turns s)) refusal).filing.opens.items number ≡ place_at s.filing.opens.items number
unfolding filing_after opens_by
reads_open s number is None = ap (λ f. place_at (opens_by s (turned s (call_turns s)) f).items number) is
reads_open s number is (Some refusal) = refl

pub reads_place : (s : Situation) (number : ℕ) → s.function ≡ ReadSequential → place_at (file_call s).filing.opens.items number ≡ place_at s.filing.opens.items number
unfolding file_call
reads_place s number is = reads_open s number is (refusal_of s)

reads_keep : (s : Situation) (key : FileKey) → s.function ≡ ReadSequential → KeepsEntries (file_of key) (drive_or_blank s.filing key.drive) (drive_or_blank (file_call s).filing key.drive)
unfolding file_call job_by
reads_keep s key is = by_refusal (refusal_of s) refl
  where
    by_refusal : (refusal : Option Refusal) → refusal_of s ≡ refusal → KeepsEntries (file_of key) (drive_or_blank s.filing key.drive) (drive_or_blank (file_call s).filing key.drive)
    by_refusal None none = idle_call_keeps s key (reading_job s) none (ap (job_by s) is) refl
    by_refusal (Some refusal) refused =
        subst (λ r. KeepsEntries (file_of key) (drive_or_blank s.filing key.drive) (drive_or_blank (outcome_by s (turned s (call_turns s)) r).filing key.drive)) (sym refused)
        (entries_same (file_of key) (drive_or_blank s.filing key.drive))

pub kept_by_reading : (s : Situation) (q : ℕ) (key : FileKey) (number : ℕ) → s.function ≡ ReadSequential → HasFile q key number s.filing
    → KeepsFile key number s.filing (file_call s).filing
kept_by_reading s q key number is has =
    let keeps = reads_keep s key is in
    record {
      placed = reads_place s number is;
      there = there_stays (file_of key) (drive_or_blank s.filing key.drive) (drive_or_blank (file_call s).filing key.drive) keeps has.there ∙ sym has.there;
      records = λ n. records_stay (file_of key) (drive_or_blank s.filing key.drive) (drive_or_blank (file_call s).filing key.drive) n keeps;
    }

-- it is so after one change and another, and the file is open as it was
pub kept_same : (key : FileKey) (number : ℕ) (filing : Filing) → KeepsFile key number filing filing
kept_same key number filing = record { placed = refl; there = refl; records = λ n. refl }

pub kept_after : (key : FileKey) (number : ℕ) (a b c : Filing) → KeepsFile key number a b → KeepsFile key number b c → KeepsFile key number a c
kept_after key number a b c first second =
    record { placed = second.placed ∙ first.placed; there = second.there ∙ first.there; records = λ n. second.records n ∙ first.records n }

pub has_still : (q : ℕ) (key : FileKey) (number : ℕ) (old new : Filing) → HasFile q key number old → KeepsFile key number old new → HasFile q key number new
has_still q key number old new has keeps = record {
  item = has.item;
  placed = keeps.placed ∙ has.placed;
  its_process = has.its_process;
  its_file = has.its_file;
  its_mode = has.its_mode;
  there = keeps.there ∙ has.there;
}
