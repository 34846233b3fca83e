-- While a call is in service: what calls that no disk serves answer, and the situation in which it entered.
use Rattle.std.proofs.Common.{◌≡◌, ◌∙◌, ℕ, zero, suc, true, false, List, [], ◌∷◌, Option, Some, None, IfSome, sym, refl, ap, subst}
use Rattle.std.specs.Prelude.{is_some, option_map, slice_index_or, slice_set, unwrap_or}
use Rattle.std.proofs.Math.Path.{fun_ext}
use Rattle.std.proofs.lemmas.Bool.{true≢false}
use Rattle.std.proofs.lemmas.List.{set-set}
use Rattle.std.proofs.lemmas.Option.{none-some}
use Rattle.mpm_base.specs.Calls.{Taken}
use Rattle.mpm_mount.specs.Directories.{Directory}
use Rattle.mpm_mount.specs.Drives.{Drive}
use Rattle.mpm_jobs.specs.declared.jobs.Job.{Job}
use Rattle.mpm_files.specs.Serving.{units_done}
use Rattle.mpm_files.proofs.Contained.{turns_keep}
use Rattle.mpm_refusals.specs.declared.caller.Caller.{Caller}
use Rattle.mpm_file_functions.specs.declared.functions.DirectFunction.{DirectFunction}
use Rattle.mpm_file_functions.specs.declared.functions.FileFunction.{FileFunction}
use Rattle.mpm_file_functions.specs.declared.refusals.Refusal.{Refusal}
use Rattle.mpm_directories.specs.Direct.{Directly, direct_by, is_protected}
use Rattle.mpm_bdos.specs.Direct.{direct, kind_of}
use Rattle.mpm_refusals.specs.Filing.{Filing, Situation}
use Rattle.mpm_bdos.specs.Jobs.{job_by, unless_refused, job_of}
use Rattle.mpm_bdos.specs.Outcomes.{drives_after}
use Rattle.mpm_refusals.specs.Refusals.{refusal_of}
use Rattle.mpm_bdos.specs.Serving.{Kept, StandEach, Serves, WorksOn, filing_of}
use Rattle.mpm_directories.specs.Places.{directory_at}
use Rattle.mpm_bdos.specs.Starting.{entering}
use Rattle.mpm_refusals.specs.Subjects.{mounted, blank_drive, drive_number, drive_at}
use Rattle.mpm_bdos.specs.Turns.{TurnKeeps, IsIdleWithoutDrives, has_work, drive_and_kind}
use Rattle.mpm_bdos.proofs.NextTurns.{idle_drives, job_drives}
use Rattle.mpm_bdos.proofs.Started.{unmounted_begins}

-- a call that has a job names a drive that is mounted
mounted_by : (s : Situation) (job : Job) (m : Option Drive) (refusal : Option Refusal) → job_of s ≡ Some job → mounted s.filing (drive_number s) ≡ m → refusal_of s ≡ refusal
    → is_some m ≡ true
unfolding job_of
mounted_by s job (Some drive) refusal is at refused = refl
mounted_by s job None (Some refusal) is at refused = absurd (none-some job (sym (ap (λ r. unless_refused r (job_by s s.function)) refused) ∙ is))
mounted_by s job None None is at refused =
    absurd (subst (λ found. WorksOn [] None (drive_at s) found 0 None) is (unmounted_begins [] s refused at).works)

pub job_mounted : (s : Situation) (job : Job) → job_of s ≡ Some job → is_some (mounted s.filing (drive_number s)) ≡ true
job_mounted s job is = mounted_by s job (mounted s.filing (drive_number s)) (refusal_of s) is refl refl

-- so many turns leave each drive's kind
kinds_set : (drives : List (Option Drive)) (n : ℕ) (drive new : Drive) → slice_index_or drives n None ≡ Some drive → new.kind ≡ drive.kind → (number : ℕ)
    → option_map (λ (d : Drive). d.kind) (slice_index_or (slice_set drives n (Some new)) number None) ≡ option_map (λ (d : Drive). d.kind) (slice_index_or drives number None)
kinds_set [] n drive new at same number = absurd (none-some drive at)
kinds_set (d ∷ drives) zero drive new at same zero = ap Some same ∙ sym (ap (option_map (λ (d : Drive). d.kind)) at)
kinds_set (d ∷ drives) zero drive new at same (suc number) = refl
kinds_set (d ∷ drives) (suc n) drive new at same zero = refl
kinds_set (d ∷ drives) (suc n) drive new at same (suc number) = kinds_set drives n drive new at same number

kind_there : (s : Situation) (drive : Drive) → mounted s.filing (drive_number s) ≡ Some drive → (drive_at s).kind ≡ drive.kind
unfolding drive_at
kind_there s drive at = ap (λ (m : Option Drive). (unwrap_or m blank_drive).kind) at

kinds_worked : (s : Situation) (j : ℕ) (job : Job) (m : Option Drive) → job_of s ≡ Some job → mounted s.filing (drive_number s) ≡ m → (number : ℕ)
    → kind_of (record s.filing { drives = slice_set s.filing.drives (drive_number s) (Some (units_done (drive_at s) job j)) }) number ≡ kind_of s.filing number
kinds_worked s j job None is at number = absurd (true≢false (sym (job_mounted s job is) ∙ ap is_some at))
kinds_worked s j job (Some drive) is at number =
    kinds_set s.filing.drives (drive_number s) drive (units_done (drive_at s) job j) at ((turns_keep (drive_at s) job j).kind ∙ kind_there s drive at) number

kinds_after : (s : Situation) (j : ℕ) (job : Option Job) → job_of s ≡ job → (number : ℕ)
    → kind_of (record s.filing { drives = drives_after s j }) number ≡ kind_of s.filing number
kinds_after s j None is number = ap (λ (drives : List (Option Drive)). kind_of (record s.filing { drives = drives }) number) (idle_drives s j is)
kinds_after s j (Some job) is number =
    ap (λ (drives : List (Option Drive)). kind_of (record s.filing { drives = drives }) number) (job_drives s job j is)
    ∙ kinds_worked s j job (mounted s.filing (drive_number s)) is refl number

pub kinds_within : (s : Situation) (j number : ℕ) → kind_of (record s.filing { drives = drives_after s j }) number ≡ kind_of s.filing number
kinds_within s j number = kinds_after s j (job_of s) refl number

-- and another drive in the place of the call's is that in the place of the one that it found
pub set_within : (s : Situation) (j : ℕ) (drive : Option Drive) → slice_set (drives_after s j) (drive_number s) drive ≡ slice_set s.filing.drives (drive_number s) drive
set_within s j drive = by_job (job_of s) refl
  where
    by_job : (job : Option Job) → job_of s ≡ job → slice_set (drives_after s j) (drive_number s) drive ≡ slice_set s.filing.drives (drive_number s) drive
    by_job None is = ap (λ drives. slice_set drives (drive_number s) drive) (idle_drives s j is)
    by_job (Some job) is =
        ap (λ drives. slice_set drives (drive_number s) drive) (job_drives s job j is)
        ∙ set-set s.filing.drives (drive_number s) (Some (units_done (drive_at s) job j)) drive

-- so a call that no disk serves answers then what it would have answered before
pub direct_within : (s : Situation) (j drive : ℕ) (call : Taken) (function : DirectFunction)
    → direct (record s.filing { drives = drives_after s j }) drive call function ≡ direct s.filing drive call function
unfolding direct
direct_within s j drive call function =
    ap (λ kinds. direct_by kinds (is_protected s.filing.protected) drive call function) (fun_ext (kinds_within s j))

pub direct_served : (images : ℕ → List ℕ) (kept : Kept) (s : Situation) (j drive : ℕ) (call : Taken) (function : DirectFunction) → Serves images kept s j
    → direct (filing_of kept (drives_after s j)) drive call function ≡ direct s.filing drive call function
direct_served images kept s j drive call function serves =
    ap (λ (filing : Filing). direct (record filing { drives = drives_after s j }) drive call function) serves.same ∙ direct_within s j drive call function

-- a part of what it comes to, by its number
pub part_served : {X : Type 0} (part : Directly → X) (kept : Kept) (drive : ℕ) (call : Taken) (found : Option DirectFunction) (value : X)
    → ((images : ℕ → List ℕ) (drives : List (Option Drive)) → StandEach images kept.mounted drives → IfSome found (λ one. value ≡ part (direct (filing_of kept drives) drive call one)))
    → (images : ℕ → List ℕ) (s : Situation) (j : ℕ) → Serves images kept s j → IfSome found (λ one. value ≡ part (direct s.filing drive call one))
part_served part kept drive call None value told images s j serves = tt
part_served part kept drive call (Some function) value told images s j serves =
    told images (drives_after s j) serves.stand ∙ ap part (direct_served images kept s j drive call function serves)

-- what a call finds as it enters service is what there is
pub finds : (kept : Kept) (filing : Filing) (caller : Caller) (function : FileFunction) (call : Taken) (moment : List ℕ) → filing_of kept filing.drives ≡ filing
    → entering kept filing.drives caller function call moment ≡ record { filing = filing; caller = caller; function = function; call = call; moment = moment }
finds kept filing caller function call moment is =
    ap (λ (f : Filing). let s : Situation = record { filing = f; caller = caller; function = function; call = call; moment = moment } in s) is

-- that no call has work where no drive is mounted stays so as one enters, and after a turn
pub starts_on_drives : (old new : Kept) (function : Option FileFunction) → (function ≡ None → new ≡ old)
    → (is_some function ≡ true → ((number : ℕ) → directory_at old.mounted number ≡ None) → has_work new.service ≡ false)
    → new ≡ record old { service = new.service } → IsIdleWithoutDrives old → IsIdleWithoutDrives new
starts_on_drives old new None other workless kept before = λ none.
    ap (λ (k : Kept). has_work k.service) (other refl) ∙ before (λ number. ap (λ (k : Kept). directory_at k.mounted number) (sym (other refl)) ∙ none number)
starts_on_drives old new (Some function) other workless kept before = λ none.
    workless refl (λ number. ap (λ (k : Kept). directory_at k.mounted number) (sym kept) ∙ none number)

pub none_before : (one other : Option Directory) → option_map drive_and_kind other ≡ option_map drive_and_kind one → other ≡ None → one ≡ None
none_before None other same none = refl
none_before (Some directory) other same none = absurd (none-some (drive_and_kind directory) (sym (ap (option_map drive_and_kind) none) ∙ same))

pub turns_on_drives : (old new : Kept) → TurnKeeps old new → has_work new.service ≡ has_work old.service → IsIdleWithoutDrives old → IsIdleWithoutDrives new
turns_on_drives old new kept still before = λ none.
    still ∙ before (λ number. none_before (directory_at old.mounted number) (directory_at new.mounted number) (kept.labels number) (none number))
