-- After any number of turns of a job each record of each file is seen as before it, as after it, or as the zeros of a block that it brings.
use Rattle.std.proofs.Common.{◌≡◌, ◌∙◌, inl, inr, ℕ, Bool, true, false, ◌&&◌, refl, sym, ap, subst}
use Rattle.mpm_mount.specs.Drives.{FileName, Drive}
use Rattle.mpm_mount.specs.Files.{is_same_file}
use Rattle.mpm_mount.proofs.Names.{one_file, same_back}
use Rattle.mpm_jobs.specs.declared.jobs.JobKind.{JobKind}
use Rattle.mpm_jobs.specs.declared.jobs.JobKind.TheVariants.{Read, Write, TestWrite, Make, Delete, Rename, Attributes, Label, Xfcb, Nothing}
use Rattle.mpm_jobs.specs.declared.jobs.Job.{Job}
use Rattle.mpm_files.specs.Plans.{file_of_job, new_file_of_job, turns_of}
use Rattle.mpm_files.specs.Serving.{units_done}
use Rattle.mpm_files.specs.Turning.{Suits, SuitsKind}
use Rattle.mpm_files.specs.Containment.{names_by, names, changes_entries, IsShown}
use Rattle.mpm_files.proofs.Needs.{IsWhole}
use Rattle.mpm_files.proofs.KeptEntries.{entries_stay, records_stay}
use Rattle.mpm_files.proofs.Settled.{ChangesEntries, Makes, Deletes, Renames, Sets, entries_shown}
use Rattle.mpm_files.proofs.TestedRecords.{records_shown}

-- a record of a file whose entries stay
shown_still : (before : Drive) (job : Job) (j : ℕ) (file : FileName) (n : ℕ) → (changes_entries job.kind && names before job file) ≡ false
    → IsShown before (units_done before job (turns_of before job)) (units_done before job j) file n
shown_still before job j file n none = inl (records_stay file before (units_done before job j) n (entries_stay before job j file none))

-- where the job changes no directory entry
shown_unchanged : (before : Drive) (job : Job) (j : ℕ) (file : FileName) (n : ℕ) (kind : JobKind) → job.kind ≡ kind → changes_entries kind ≡ false
    → IsShown before (units_done before job (turns_of before job)) (units_done before job j) file n
shown_unchanged before job j file n kind is none =
    shown_still before job j file n (ap (λ b. b && names before job file) (ap changes_entries is ∙ none))

-- where it changes entries alone
shown_entries : (before : Drive) (job : Job) (j : ℕ) (file : FileName) (n : ℕ) → ChangesEntries job
    → IsShown before (units_done before job (turns_of before job)) (units_done before job j) file n
shown_entries before job j file n changes = elim (entries_shown before job j file n changes) [
  | inl same ↦ inl same
  | inr done ↦ inr (inl done)
]

-- where it writes: of its own file, and of others
named_alone : (before : Drive) (job : Job) (file : FileName) (kind : JobKind) → job.kind ≡ kind → ((other : FileName) → names_by before job other kind ≡ is_same_file other (file_of_job job))
    → is_same_file file (file_of_job job) ≡ false → names before job file ≡ false
unfolding names
named_alone before job file kind is by other = ap (names_by before job file) is ∙ by file ∙ other

none_both : (a b : Bool) → b ≡ false → (a && b) ≡ false
none_both true b none = none
none_both false b none = refl

shown_written : (before : Drive) (job : Job) (j : ℕ) (file : FileName) (n : ℕ) (b : Bool) → is_same_file file (file_of_job job) ≡ b → (b ≡ false → names before job file ≡ false)
    → ((m : ℕ) → IsShown before (units_done before job (turns_of before job)) (units_done before job j) (file_of_job job) m)
    → IsShown before (units_done before job (turns_of before job)) (units_done before job j) file n
shown_written before job j file n true same named shown =
    subst (λ f. IsShown before (units_done before job (turns_of before job)) (units_done before job j) f n) (sym (one_file file (file_of_job job) same)) (shown n)
shown_written before job j file n false same named shown = shown_still before job j file n (none_both (changes_entries job.kind) (names before job file) (named refl))

by_kind : (before : Drive) (job : Job) (j : ℕ) (file : FileName) (n : ℕ) (kind : JobKind) → job.kind ≡ kind → SuitsKind before job kind → IsWhole (file_of_job job) before
    → IsShown before (units_done before job (turns_of before job)) (units_done before job j) file n
by_kind before job j file n Read is suits whole = shown_unchanged before job j file n Read is refl
by_kind before job j file n Write is suits whole =
    shown_written before job j file n (is_same_file file (file_of_job job)) refl (named_alone before job file Write is (λ other. refl)) (λ m. records_shown before job j m (inl is) whole)
by_kind before job j file n TestWrite is suits whole =
    shown_written before job j file n (is_same_file file (file_of_job job)) refl (named_alone before job file TestWrite is (λ other. refl)) (λ m. records_shown before job j m (inr is) whole)
by_kind before job j file n Make is suits whole = shown_entries before job j file n (Makes is)
by_kind before job j file n Delete is suits whole = shown_entries before job j file n (Deletes is)
by_kind before job j file n Rename is suits whole =
    shown_entries before job j file n (Renames is (same_back (file_of_job job) (new_file_of_job job) ∙ suits.other))
by_kind before job j file n Attributes is suits whole = shown_entries before job j file n (Sets is)
by_kind before job j file n Label is suits whole = shown_unchanged before job j file n Label is refl
by_kind before job j file n Xfcb is suits whole = shown_unchanged before job j file n Xfcb is refl
by_kind before job j file n Nothing is suits whole = shown_unchanged before job j file n Nothing is refl

pub turns_shown : (before : Drive) (job : Job) (j : ℕ) (file : FileName) (n : ℕ) → Suits before job → IsWhole (file_of_job job) before
    → IsShown before (units_done before job (turns_of before job)) (units_done before job j) file n
turns_shown before job j file n suits whole = by_kind before job j file n job.kind refl suits.kind whole
