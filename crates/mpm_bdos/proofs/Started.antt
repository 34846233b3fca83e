-- A call that enters service.
use Rattle.std.proofs.Common.{◌≡◌, ◌∙◌, ℕ, ◌≤◌, ◌<◌, true, false, List, Option, Some, None, IfSome, sym, refl, ap, subst, arith}
use Rattle.std.specs.Prelude.{is_some, max, length, unwrap_or, slice_index_or, slice_set}
use Rattle.std.proofs.lemmas.List.{set-get_or}
use Rattle.std.proofs.lemmas.Option.{none-some}
use Rattle.std.proofs.Math.Nat.{min-eq_left}
use Rattle.mpm_base.specs.Calls.{Taken}
use Rattle.std.specs.FinMap.{get-empty}
use Rattle.mpm_dirent.specs.Names.{plain}
use Rattle.mpm_dirent.specs.declared.limits.TheConstants.{LAST_POSITION}
use Rattle.mpm_dirent.proofs.PlainNames.{plain_twice}
use Rattle.mpm_mount.specs.Drives.{Drive, IsOfImage, entry_cmp}
use Rattle.mpm_mount.proofs.InSlots.{extent_of_image}
use Rattle.mpm_mount.specs.Directories.{Directory, Stands}
use Rattle.mpm_mount.proofs.LookedUp.{kind_of}
use Rattle.mpm_fcb.specs.declared.block.ControlBlock.{ControlBlock}
use Rattle.mpm_fcb.specs.Positions.{sequential_record}
use Rattle.mpm_jobs.specs.declared.jobs.Job.{Job}
use Rattle.mpm_files.specs.declared.work.Work.{Work}
use Rattle.mpm_files.specs.Units.{all_applied}
use Rattle.mpm_files.specs.Plans.{plan_of}
use Rattle.mpm_files.specs.Turning.{Suits}
use Rattle.mpm_refusals.specs.declared.caller.Caller.{Caller}
use Rattle.mpm_file_functions.specs.declared.functions.FileFunction.{FileFunction}
use Rattle.mpm_file_functions.specs.declared.functions.FileFunction.TheVariants.{ResetDisks, OpenFile, CloseFile, SearchFirst, SearchNext, DeleteFile, ReadSequential, WriteSequential, MakeFile, RenameFile, ProtectDisk, SetAttributes, ReadRandom, WriteRandom, FileSize, ResetDrives, AccessDrives, FreeDrives, TestAndWrite, LockRecord, UnlockRecord, FreeSpace, FlushBuffers, SetLabel, LabelData, ReadXfcb, WriteXfcb}
use Rattle.mpm_bdos.specs.declared.planning.About.{About}
use Rattle.mpm_file_functions.specs.declared.refusals.Refusal.{Refusal}
use Rattle.mpm_refusals.specs.Filing.{Situation, block, HaveUsers}
use Rattle.mpm_refusals.specs.Subjects.{last_search, drive_by, drive_named, drive_number, mounted, blank_drive, drive_at, item_number, open_key, subject, first_record}
use Rattle.mpm_refusals.specs.Refusals.{refusal_of}
use Rattle.mpm_bdos.specs.Jobs.{job_by, unless_refused, job_of, turns_by, call_turns, turned_by, turned}
use Rattle.mpm_bdos.specs.Changes.{drives_by}
use Rattle.mpm_bdos.specs.Outcomes.{drives_after}
use Rattle.mpm_bdos.specs.Ending.{IsSoundDrive}
use Rattle.mpm_bdos.specs.Planning.{IsAbout}
use Rattle.mpm_refusals.specs.Asking.{StandsForDirectory, unnamed_refusal, StandsWhere}
use Rattle.mpm_bdos.specs.Serving.{IsCaller, InService, Kept, StandEach, WorksOn, Serves}
use Rattle.mpm_directories.specs.Places.{directory_at}
use Rattle.mpm_bdos.specs.Starting.{entering, about_in, BeginsJob, Enters, EntersAmong, turns_where}
use Rattle.mpm_bdos.proofs.NamedFiles.{subject_name}
use Rattle.mpm_bdos.proofs.Suited.{IsCall, each_suits, low_first}
use Rattle.mpm_refusals.proofs.UnmountedLaws.{unmounted_so}
use Rattle.mpm_bdos.proofs.OnDrives.{no_drive}
use Rattle.mpm_bdos.proofs.EndingLaws.{own_job}

pub plain_again : (name other : List ℕ) → name ≡ plain other → plain name ≡ name
plain_again name other e = ap plain e ∙ plain_twice other ∙ sym e

-- what was looked up of a call
abbrev about_call : Situation → About
about_call s = about_in s.filing.opens s.caller.process (block s) s.function (drive_number s) (subject s).user (item_number s)

about_is : (image : List ℕ) (d : Directory) (s : Situation) → IsCall s → Stands image d (drive_at s) → refusal_of s ≡ None → IsAbout image d (about_call s) s
unfolding open_key first_record
about_is image d s call stands none = record {
  stands = stands;
  file = λ i. record { drive = drive_number s; user = (subject s).user; name = (sym (subject_name s)) i };
  first = λ has. min-eq_left (low_first s s.function call none refl has);
  has_written = refl;
}

-- a call is what its block, its drive, its user and its number say
pub about_so : (image : List ℕ) (d : Directory) (s : Situation) (about : About) (b : ControlBlock) (drive owner : ℕ) (number : Option ℕ) → IsCall s → Stands image d (drive_at s) → refusal_of s ≡ None
    → about ≡ about_in s.filing.opens s.caller.process b s.function drive owner number → b ≡ block s → drive ≡ drive_number s → owner ≡ (subject s).user → number ≡ item_number s
    → IsAbout image d about s
about_so image d s about b drive owner number call stands none is e f g h =
    let same : about ≡ about_call s = is ∙ (λ i. about_in s.filing.opens s.caller.process (e i) s.function (f i) (g i) (h i)) in
    subst (λ a. IsAbout image d a s) (sym same) (about_is image d s call stands none)

-- what is so of a call, by its block as it is read
pub is_call : (s : Situation) → IsCaller s.caller → HaveUsers s.filing.opens → length s.call.fcb ≡ 36 → (b : ControlBlock) → b ≡ block s → sequential_record b ≤ LAST_POSITION → IsCall s
is_call s caller users size b is low = record { caller = caller; users = users; size = size; low = subst (λ (c : ControlBlock). sequential_record c ≤ LAST_POSITION) is low }

-- nothing refuses a call for which nothing was found that does
pub nothing_refuses : (s : Situation) (refusal : Option Refusal) → refusal ≡ refusal_of s → is_some refusal ≡ false → refusal_of s ≡ None
nothing_refuses s refusal e none = sym e ∙ is_none refusal none
  where
    is_none : (o : Option Refusal) → is_some o ≡ false → o ≡ None
    is_none None e = refl
    is_none (Some r) e = absurd (cc)

-- of a call that isn't refused the job is that of its function
pub begins : (image : List ℕ) (d : Directory) (s : Situation) (job : Option Job) (work : Option Work) → IsCall s → refusal_of s ≡ None → job ≡ job_by s s.function
    → (IfSome job (Suits (drive_at s)) → WorksOn image (Some d) (drive_at s) job 0 work) → BeginsJob image (Some d) s work
begins image d s job work call none is works =
    let same : job ≡ job_of s = is ∙ sym (own_job s none) in
    let suits : IfSome (job_of s) (Suits (drive_at s)) = each_suits s (job_of s) call refl in
    record {
      suits = suits;
      works = subst (λ j. WorksOn image (Some d) (drive_at s) j 0 work) same (works (subst (λ j. IfSome j (Suits (drive_at s))) (sym same) suits));
    }

-- one that is refused, or whose drive isn't mounted, has none
begins_none : (image : List ℕ) (directory : Option Directory) (s : Situation) → job_of s ≡ None → BeginsJob image directory s None
begins_none image directory s none = record {
  suits = subst (λ j. IfSome j (Suits (drive_at s))) (sym none) tt;
  works = subst (λ j. WorksOn image directory (drive_at s) j 0 None) (sym none) tt;
}

refused_job : (s : Situation) (refusal : Option Refusal) → is_some refusal ≡ true → unless_refused refusal (job_by s s.function) ≡ None
refused_job s None is = absurd (cc)
refused_job s (Some refusal) is = refl

pub refused_begins : (image : List ℕ) (directory : Option Directory) (s : Situation) (refusal : Option Refusal) → refusal ≡ refusal_of s → is_some refusal ≡ true → BeginsJob image directory s None
unfolding job_of
refused_begins image directory s refusal e is = begins_none image directory s (ap (λ r. unless_refused r (job_by s s.function)) (sym e) ∙ refused_job s refusal is)

without_drive : (s : Situation) (function : FileFunction) → drive_by (last_search s) s.caller.drive s.call.word (block s) function ≡ None → job_by s function ≡ None
unfolding drive_by job_by
without_drive s OpenFile none = absurd (cc)
without_drive s DeleteFile none = absurd (cc)
without_drive s ReadSequential none = absurd (cc)
without_drive s WriteSequential none = absurd (cc)
without_drive s MakeFile none = absurd (cc)
without_drive s RenameFile none = absurd (cc)
without_drive s SetAttributes none = absurd (cc)
without_drive s ReadRandom none = absurd (cc)
without_drive s WriteRandom none = absurd (cc)
without_drive s TestAndWrite none = absurd (cc)
without_drive s SetLabel none = absurd (cc)
without_drive s WriteXfcb none = absurd (cc)
without_drive s ResetDisks none = refl
without_drive s CloseFile none = refl
without_drive s SearchFirst none = refl
without_drive s SearchNext none = refl
without_drive s ProtectDisk none = refl
without_drive s FileSize none = refl
without_drive s ResetDrives none = refl
without_drive s AccessDrives none = refl
without_drive s FreeDrives none = refl
without_drive s LockRecord none = refl
without_drive s UnlockRecord none = refl
without_drive s FreeSpace none = refl
without_drive s FlushBuffers none = refl
without_drive s LabelData none = refl
without_drive s ReadXfcb none = refl

pub unmounted_begins : (image : List ℕ) (s : Situation) → refusal_of s ≡ None → mounted s.filing (drive_number s) ≡ None → BeginsJob image None s None
unmounted_begins image s none not_mounted =
    let named : drive_named s ≡ None = no_drive s (drive_named s) (unnamed_refusal _ s.function) (sym (unmounted_so s not_mounted) ∙ none) in
    begins_none image None s (own_job s none ∙ without_drive s s.function named)

-- as many turns
as_many : (units : ℕ) (n : ℕ) → units ≡ n → max units 1 ≡ max 1 n
as_many units n e = omega (arith, e)

pub begun_turns : (image : List ℕ) (directory : Option Directory) (drive : Drive) (job : Option Job) (work : Option Work) → WorksOn image directory drive job 0 work
    → turns_where work ≡ turns_by drive job
begun_turns image directory drive None None works = refl
begun_turns image directory drive None (Some work) works = absurd works
begun_turns image directory drive (Some job) None works = absurd works
begun_turns image None drive (Some job) (Some work) works = absurd works
begun_turns image (Some d) drive (Some job) (Some work) works = as_many work.units (length (plan_of drive job).units) works.serving.units

-- at least one
pub some_turns : (work : Option Work) (turns : ℕ) → turns ≡ turns_where work → 0 < turns
some_turns None turns is = omega (arith, is)
some_turns (Some work) turns is = omega (arith, is)

-- before the first turn the drives are as they were
put_back : (drives : List (Option Drive)) (number : ℕ) (drive : Drive) → slice_index_or drives number None ≡ Some drive → slice_set drives number (Some drive) ≡ drives
put_back drives number drive at = ap (slice_set drives number) (sym at) ∙ set-get_or drives number None

drive_there : (s : Situation) (drive : Drive) → mounted s.filing (drive_number s) ≡ Some drive → mounted s.filing (drive_number s) ≡ Some (drive_at s)
unfolding drive_at
drive_there s drive at = at ∙ sym (ap (λ m. Some (unwrap_or m blank_drive)) at)

by_job : (image : List ℕ) (directory : Option Directory) (s : Situation) (job : Option Job) (work : Option Work) (m : Option Drive) → mounted s.filing (drive_number s) ≡ m
    → StandsWhere (drive_number s) image directory m → WorksOn image directory (drive_at s) job 0 work → drives_by s (turned_by (drive_at s) 0 job).drive job ≡ s.filing.drives
unfolding all_applied
by_job image directory s None work m at stands works = refl
by_job image directory s (Some job) None m at stands works = absurd works
by_job image None s (Some job) (Some work) m at stands works = absurd works
by_job image (Some d) s (Some job) (Some work) None at stands works = absurd stands
by_job image (Some d) s (Some job) (Some work) (Some drive) at stands works = put_back s.filing.drives (drive_number s) (drive_at s) (drive_there s drive at)

drives_at_first : (image : List ℕ) (directory : Option Directory) (s : Situation) (work : Option Work) → StandsForDirectory image directory s → WorksOn image directory (drive_at s) (job_of s) 0 work
    → drives_after s 0 ≡ s.filing.drives
unfolding drives_after turned
drives_at_first image directory s work stands works = by_job image directory s (job_of s) work (mounted s.filing (drive_number s)) refl stands works

-- its drive is that of an image, or there is none
sound_there : (image : List ℕ) (d : Directory) (drive : Drive) → Stands image d drive → IsSoundDrive drive
sound_there image d drive stands = record {
  each = λ file number extent is. subst (λ kind. IsOfImage kind (record { user = file.user; name = file.name; number = number }) extent) (sym (kind_of image d drive stands))
      (extent_of_image image d drive (record { user = file.user; name = file.name; number = number }) extent stands is);
}

sound_nowhere : IsSoundDrive blank_drive
sound_nowhere = record {
  each = λ file number extent is.
      absurd (none-some extent (sym (get-empty entry_cmp (record { user = file.user; name = file.name; number = number })) ∙ is));
}

sound_drive : (image : List ℕ) (directory : Option Directory) (s : Situation) (m : Option Drive) → mounted s.filing (drive_number s) ≡ m → StandsWhere (drive_number s) image directory m → IsSoundDrive (drive_at s)
unfolding drive_at
sound_drive image directory s None at stands = subst (λ (m : Option Drive). IsSoundDrive (unwrap_or m blank_drive)) (sym at) sound_nowhere
sound_drive image None s (Some drive) at stands = absurd stands
sound_drive image (Some d) s (Some drive) at stands = subst (λ (m : Option Drive). IsSoundDrive (unwrap_or m blank_drive)) (sym at) (sound_there image d drive stands.stands)

-- it is in service
pub in_service : (images : ℕ → List ℕ) (kept : Kept) (drives : List (Option Drive)) (caller : Caller) (function : FileFunction) (call : Taken) (moment : List ℕ) (service : InService)
    → StandEach images kept.mounted drives
    → Enters (images (drive_number (entering kept drives caller function call moment))) (directory_at kept.mounted (drive_number (entering kept drives caller function call moment))) (entering kept drives caller function call moment) service
    → Serves images (record kept { service = Some service }) (entering kept drives caller function call moment) 0
in_service images kept drives caller function call moment service stand enters =
    let s : Situation = entering kept drives caller function call moment in
    let number : ℕ = drive_number s in
    record {
      service = service;
      there = refl;
      is = enters.is;
      sound = sound_drive (images number) (directory_at kept.mounted number) s (mounted s.filing number) refl (stand.each number);
      suits = enters.begins.suits;
      works = enters.begins.works;
      same = refl;
      stand = subst (StandEach images kept.mounted) (sym (drives_at_first (images number) (directory_at kept.mounted number) s service.work (stand.each number) enters.begins.works)) stand;
    }

pub its_turns : (image : List ℕ) (directory : Option Directory) (s : Situation) (service : InService) → Enters image directory s service → turns_where service.work ≡ call_turns s
unfolding call_turns
its_turns image directory s service enters = begun_turns image directory (drive_at s) (job_of s) service.work enters.begins.works

-- the call of a process, as it was made of what is known of it
pub entered_so : (images : ℕ → List ℕ) (kept : Kept) (drives : List (Option Drive)) (caller its_caller : Caller) (function its_function : FileFunction) (call : Taken) (moment its_moment : List ℕ) (service : InService)
    → caller ≡ its_caller → function ≡ its_function → moment ≡ its_moment → StandEach images kept.mounted drives
    → EntersAmong images kept.mounted (entering kept drives caller function call moment) service
    → Serves images (record kept { service = Some service }) (entering kept drives its_caller its_function call its_moment) 0
entered_so images kept drives caller its_caller function its_function call moment its_moment service e f g stand among =
    let same : entering kept drives caller function call moment ≡ entering kept drives its_caller its_function call its_moment = λ i. entering kept drives (e i) (f i) call (g i) in
    subst (λ s. Serves images (record kept { service = Some service }) s 0) same (in_service images kept drives caller function call moment service stand among.enters)

pub entered_turns : (images : ℕ → List ℕ) (kept : Kept) (drives : List (Option Drive)) (caller its_caller : Caller) (function its_function : FileFunction) (call : Taken) (moment its_moment : List ℕ) (service : InService)
    → caller ≡ its_caller → function ≡ its_function → moment ≡ its_moment → EntersAmong images kept.mounted (entering kept drives caller function call moment) service
    → turns_where service.work ≡ call_turns (entering kept drives its_caller its_function call its_moment)
entered_turns images kept drives caller its_caller function its_function call moment its_moment service e f g among =
    its_turns _ _ (entering kept drives caller function call moment) service among.enters ∙ (λ i. call_turns (entering kept drives (e i) (f i) call (g i)))
