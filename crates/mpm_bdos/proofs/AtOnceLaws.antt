-- A call's turns one after another, and what it comes to with them.
use Rattle.std.proofs.Common.{◌≡◌, ◌≤◌, ◌+◌, ℕ, suc, Bool, List, [], true, false, Option, Some, None, Result, Ok, Err, refl, sym, ap, subst, ◌∙◌, arith}
use Rattle.std.specs.Prelude.{is_some, is_err, option_map}
use Rattle.std.proofs.lemmas.Bool.{true≢false}
use Rattle.mpm_port.specs.Causes.{Rose, HasCause}
use Rattle.mpm_port.specs.Disks.{Disks, ToldImage}
use Rattle.mpm_mount.specs.Drives.{Drive}
use Rattle.mpm_mount.specs.Directories.{Directory}
use Rattle.mpm_jobs.specs.declared.jobs.Job.{Job}
use Rattle.mpm_files.specs.declared.work.Work.{Work}
use Rattle.mpm_bdos.proofs.Fitting.{there_label, stays_same, stays_again, told_same, told_again, unsynced_same}
use Rattle.mpm_base.specs.Calls.{Taken}
use Rattle.mpm_refusals.specs.declared.caller.Caller.{Caller}
use Rattle.mpm_file_functions.specs.declared.functions.FileFunction.{FileFunction}
use Rattle.mpm_refusals.specs.Filing.{Situation}
use Rattle.mpm_file_functions.specs.Functions.{function_of}
use Rattle.mpm_bdos.specs.Starting.{entering}
use Rattle.mpm_refusals.specs.Subjects.{drive_number, drive_at}
use Rattle.mpm_file_functions.specs.declared.functions.FileFunction.TheVariants.{ResetDisks, OpenFile, CloseFile, SearchFirst, SearchNext, DeleteFile, ReadSequential, WriteSequential, MakeFile, RenameFile, ProtectDisk, SetAttributes, ReadRandom, WriteRandom, FileSize, ResetDrives, AccessDrives, FreeDrives, TestAndWrite, LockRecord, UnlockRecord, FreeSpace, FlushBuffers, SetLabel, LabelData, ReadXfcb, WriteXfcb}
use Rattle.mpm_file_functions.specs.declared.refusals.Refusal.{Refusal}
use Rattle.mpm_refusals.specs.Refusals.{refusal_of}
use Rattle.mpm_bdos.specs.Jobs.{job_by, unless_refused, job_of}
use Rattle.mpm_bdos.specs.Serving.{InService, Kept, Serves, WorksOn, StandEach}
use Rattle.mpm_directories.specs.Places.{directory_at}
use Rattle.mpm_refusals.specs.Asking.{StandsWhere}
use Rattle.mpm_bdos.specs.Turns.{FitsDrives, IsDiskIdle, KeepsImages, KeepsUnsynced, TurnKeeps, drive_served, has_work, drive_and_kind, without_work}
use Rattle.mpm_bdos.specs.AtOnce.{TurnsLeave, ChangesAlone, IsAtRest, has_job}

-- a turn leaves the drive in service
its_drive : (service : Option InService) → drive_served (option_map without_work service) ≡ drive_served service
its_drive None = refl
its_drive (Some service) = refl

pub same_drive : (one other : Option InService) → option_map without_work other ≡ option_map without_work one → drive_served other ≡ drive_served one
same_drive one other same = sym (its_drive other) ∙ ap drive_served same ∙ its_drive one

pub still_there : (one other : Option Directory) → option_map drive_and_kind other ≡ option_map drive_and_kind one → is_some other ≡ is_some one
still_there one other same = sym (there_label other) ∙ ap is_some same ∙ there_label one

-- and so it stays in service
pub same_there : (one other : Option InService) → option_map without_work other ≡ option_map without_work one → is_some other ≡ is_some one
same_there one other same = sym (there_still other) ∙ ap is_some same ∙ there_still one
  where
    there_still : (service : Option InService) → is_some (option_map without_work service) ≡ is_some service
    there_still None = refl
    there_still (Some service) = refl

pub still_served : (old new : Kept) → TurnKeeps old new → is_some old.service ≡ true → is_some new.service ≡ true
still_served old new kept served = same_there old.service new.service kept.service ∙ served

-- what is kept, after some turns and one more
kept_again : (old mid new : Kept) → TurnKeeps old mid → TurnKeeps mid new → TurnKeeps old new
kept_again old mid new first next = record {
  rest = next.rest ∙ ap (λ (k : Kept). record k { mounted = new.mounted; cached = new.cached; service = new.service }) first.rest;
  service = next.service ∙ first.service;
  places = λ number apart. next.places number (λ same. apart (sym (same_drive old.service mid.service first.service) ∙ same)) ∙ first.places number apart;
  labels = λ number. next.labels number ∙ first.labels number;
}

images_again : (old mid : Kept) (disks later now : Disks) → TurnKeeps old mid → KeepsImages (drive_served old.service) old.mounted disks later → KeepsImages (drive_served mid.service) mid.mounted later now
    → KeepsImages (drive_served old.service) old.mounted disks now
images_again old mid disks later now kept first next = λ number apart there.
    next number (λ same. apart (sym (same_drive old.service mid.service kept.service) ∙ same))
    (still_there (directory_at old.mounted number) (directory_at mid.mounted number) (kept.labels number) ∙ there)
    ∙ first number apart there

unsynced_again : (old mid : Kept) (before later now : ℕ → Bool) → TurnKeeps old mid → KeepsUnsynced (drive_served old.service) before later → KeepsUnsynced (drive_served mid.service) later now
    → KeepsUnsynced (drive_served old.service) before now
unsynced_again old mid before later now kept first next = record {
  beside = λ other apart. next.beside other (λ same. apart (sym (same_drive old.service mid.service kept.service) ∙ same)) ∙ first.beside other apart;
  owed = λ number was. next.owed number (first.owed number was);
}

-- how many have ended, with none more and with one more

pub one_more : (ended turn : ℕ) → suc (ended + turn) ≡ ended + (turn + 1)
one_more ended turn = omega arith

pub no_turns : {D : Type 0} (disks : D → Disks) (told : D → List ℕ → ToldImage) (failed : D → List (List ℕ)) (unsynced : D → ℕ → Bool) (kept : Kept) (drives : D) → FitsDrives disks kept.mounted kept.cached drives
    → TurnsLeave disks told failed unsynced kept kept drives drives
no_turns disks told failed unsynced kept drives fits = record {
  kept = record { rest = refl; service = refl; places = λ number apart. refl; labels = λ number. refl };
  fits = fits;
  images = λ number apart there. refl;
  beside = stays_same kept.mounted (disks drives);
  told_are = told_same kept.mounted (disks drives) (told drives);
  names = refl;
  kept_unsynced = unsynced_same (drive_served kept.service) (unsynced drives);
}

pub one_more_turn : {D : Type 0} (disks : D → Disks) (told : D → List ℕ → ToldImage) (failed : D → List (List ℕ)) (unsynced : D → ℕ → Bool) (old mid new : Kept) (drives later now : D)
    → TurnsLeave disks told failed unsynced old mid drives later → TurnsLeave disks told failed unsynced mid new later now → TurnsLeave disks told failed unsynced old new drives now
one_more_turn disks told failed unsynced old mid new drives later now first next = record {
  kept = kept_again old mid new first.kept next.kept;
  fits = next.fits;
  images = images_again old mid (disks drives) (disks later) (disks now) first.kept first.images next.images;
  beside = stays_again old.mounted mid.mounted (disks drives) (disks later) (disks now)
      (λ number. still_there (directory_at old.mounted number) (directory_at mid.mounted number) (first.kept.labels number)) first.beside next.beside;
  told_are = told_again old.mounted mid.mounted (disks drives) (disks later) (told drives) (told later) (told now)
      (λ number. still_there (directory_at old.mounted number) (directory_at mid.mounted number) (first.kept.labels number)) first.beside first.told_are next.told_are;
  names = next.names ∙ first.names;
  kept_unsynced = unsynced_again old mid (unsynced drives) (unsynced later) (unsynced now) first.kept first.kept_unsynced next.kept_unsynced;
}

-- where the call in service has no work, nothing is done in some turns, and in one more
pub rests_again : {D : Type 0} (old mid new : Kept) (drives later now : D) (steps between behind : ℕ) → IsAtRest old mid drives later steps between → TurnKeeps mid new
    → IsDiskIdle mid.service new.service mid.mounted new.mounted mid.cached new.cached later now between behind → IsAtRest old new drives now steps behind
rests_again old mid new drives later now steps between behind first kept idle = record {
  kept = kept.rest ∙ (λ i. record mid { mounted = idle.directories i; cached = idle.cache i; service = idle.call i }) ∙ first.kept;
  device = idle.drives ∙ first.device;
  calls = idle.calls ∙ first.calls;
}

pub still_none : (old now : Kept) → now ≡ old → has_work old.service ≡ false → has_work now.service ≡ false
still_none old now same none = ap (λ (kept : Kept). has_work kept.service) same ∙ none

-- a call that is refused has no job, nor has one of a function without
pub refused_is_jobless : (s : Situation) (refusal : Refusal) → refusal_of s ≡ Some refusal → job_of s ≡ None
unfolding job_of
refused_is_jobless s refusal is = ap (λ found. unless_refused found (job_by s s.function)) is

pub is_jobless : (s : Situation) → has_job s.function ≡ false → job_of s ≡ None
unfolding job_of job_by
is_jobless s none = ap (unless_refused (refusal_of s)) (by_function s.function none) ∙ nothing (refusal_of s)
  where
    nothing : (refusal : Option Refusal) → unless_refused refusal None ≡ None
    nothing None = refl
    nothing (Some refusal) = refl

    by_function : (f : FileFunction) → has_job f ≡ false → job_by s f ≡ None
    by_function OpenFile is = absurd (true≢false is)
    by_function DeleteFile is = absurd (true≢false is)
    by_function ReadSequential is = absurd (true≢false is)
    by_function WriteSequential is = absurd (true≢false is)
    by_function MakeFile is = absurd (true≢false is)
    by_function RenameFile is = absurd (true≢false is)
    by_function SetAttributes is = absurd (true≢false is)
    by_function ReadRandom is = absurd (true≢false is)
    by_function WriteRandom is = absurd (true≢false is)
    by_function TestAndWrite is = absurd (true≢false is)
    by_function SetLabel is = absurd (true≢false is)
    by_function WriteXfcb is = absurd (true≢false is)
    by_function ResetDisks is = refl
    by_function CloseFile is = refl
    by_function SearchFirst is = refl
    by_function SearchNext is = refl
    by_function ProtectDisk is = refl
    by_function FileSize is = refl
    by_function ResetDrives is = refl
    by_function AccessDrives is = refl
    by_function FreeDrives is = refl
    by_function LockRecord is = refl
    by_function UnlockRecord is = refl
    by_function FreeSpace is = refl
    by_function FlushBuffers is = refl
    by_function LabelData is = refl
    by_function ReadXfcb is = refl

-- the drive of a call in service is the one that its turns change
pub changes_alone : {D : Type 0} (disks : D → Disks) (told : D → List ℕ → ToldImage) (failed : D → List (List ℕ)) (unsynced : D → ℕ → Bool) (old new : Kept) (drives now : D) (drive : ℕ)
    → drive_served old.service ≡ Some drive → TurnsLeave disks told failed unsynced old new drives now → ChangesAlone drive old.mounted new.mounted (disks drives) (disks now)
changes_alone disks told failed unsynced old new drives now drive served left = record {
  places = λ number apart. left.kept.places number (λ same. apart (sym served ∙ same));
  images = λ number apart there. left.images number (λ same. apart (sym served ∙ same)) there;
}

pub alone_still : (drive : ℕ) (first one other last : List (Option Directory)) (disks now : Disks) → one ≡ first → last ≡ other → ChangesAlone drive one other disks now → ChangesAlone drive first last disks now
alone_still drive first one other last disks now same still alone =
    subst (λ mounted. ChangesAlone drive mounted last disks now) same (subst (λ mounted. ChangesAlone drive one mounted disks now) (sym still) alone)

-- where the count of faults stood until a device failed
pub cause_since : {A E : Type 0} {error : E} (first before now : ℕ) → before ≡ first → before ≤ now → Rose before now → HasCause {A = A} first now (Err error)
cause_since first before now same later rose = record {
  later = subst (λ count. count ≤ now) same later;
  stays = tt;
  failed = subst (λ count. Rose count now) same rose;
}

-- a call doesn't both fail and end well
pub is_ok_or_err : {A E : Type 0} (result : Result A E) (answer : A) (error : E) → result ≡ Err error → result ≡ Ok answer → ⊥
is_ok_or_err result answer error failed went = err_ok answer error (sym failed ∙ went)
  where
    err_ok : {A E : Type 0} (answer : A) (error : E) → Err error ≡ Ok answer → ⊥
    err_ok answer error same = true≢false (ap is_err same)

-- where no drive is mounted, a call has no work
no_place : (image : List ℕ) (before : Drive) (job : Option Job) (j : ℕ) (work : Option Work) → WorksOn image None before job j work → is_some work ≡ false
no_place image before None j None works = refl
no_place image before (Some job) j None works = absurd works
no_place image before None j (Some work) works = absurd works
no_place image before (Some job) j (Some work) works = absurd works

pub no_work_there : (images : ℕ → List ℕ) (kept : Kept) (s : Situation) (j : ℕ) → ((number : ℕ) → directory_at kept.mounted number ≡ None) → Serves images kept s j → has_work kept.service ≡ false
no_work_there images kept s j none serves =
    ap has_work serves.there
    ∙ no_place (images (drive_number s)) (drive_at s) (job_of s) j serves.service.work
    (subst (λ directory. WorksOn (images (drive_number s)) directory (drive_at s) (job_of s) j serves.service.work) (none (drive_number s)) serves.works)

-- any images stand for no drives where none is mounted
pub none_stand : (mounted : List (Option Directory)) → ((number : ℕ) → directory_at mounted number ≡ None) → StandEach (λ _. []) mounted []
none_stand mounted none = record { each = λ number. subst (λ directory. StandsWhere number [] directory None) (sym (none number)) tt }

-- so it is where one has entered service
pub nothing_to_do : (old new : Kept) (caller : Caller) (call : Taken) (moment : List ℕ) → is_some (function_of call.function) ≡ true
    → ((images : ℕ → List ℕ) (drives : List (Option Drive)) (function : FileFunction) → function_of call.function ≡ Some function → StandEach images old.mounted drives
    → Serves images new (entering old drives caller function call moment) 0)
    → new ≡ record old { service = new.service } → ((number : ℕ) → directory_at old.mounted number ≡ None) → has_work new.service ≡ false
nothing_to_do old new caller call moment is serves kept none = by_function (function_of call.function) refl is
  where
    by_function : (function : Option FileFunction) → function_of call.function ≡ function → is_some function ≡ true → has_work new.service ≡ false
    by_function None same is = absurd (true≢false (sym is))
    by_function (Some function) same is =
        no_work_there (λ _. []) new (entering old [] caller function call moment) 0 (λ number. ap (λ (k : Kept). directory_at k.mounted number) kept ∙ none number)
        (serves (λ _. []) [] function same (none_stand old.mounted none))
