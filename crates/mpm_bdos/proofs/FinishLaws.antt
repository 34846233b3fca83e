-- A call after its turns comes to its outcome.
use Rattle.std.proofs.Common.{◌≡◌, ◌∙◌, ℕ, ◌≤◌, Bool, true, false, cond, List, [], Option, Some, None, length, refl, sym, ap, subst}
use Rattle.std.specs.Prelude.{is_some, slice_index_or}
use Rattle.std.proofs.lemmas.Bool.{true≢false}
use Rattle.std.proofs.lemmas.Option.{same_Some}
use Rattle.std.proofs.lemmas.Slice.Eq.{bytes_eq-Decides}
use Rattle.mpm_dirent.specs.declared.limits.TheConstants.{LAST_POSITION}
use Rattle.mpm_base.specs.Calls.{Taken, Answer, answering}
use Rattle.mpm_cache.specs.declared.cache.SectorPlace.{SectorPlace}
use Rattle.mpm_mount.specs.Drives.{Drive}
use Rattle.mpm_mount.specs.Directories.{Directory, Stands}
use Rattle.mpm_opens.specs.Opens.{OpenFiles}
use Rattle.mpm_fcb.specs.Blocks.{block_of, bytes_of}
use Rattle.mpm_fcb.specs.Positions.{sequential_record}
use Rattle.mpm_fcb.proofs.Back.{bytes_back}
use Rattle.mpm_jobs.specs.declared.jobs.Job.{Job}
use Rattle.mpm_files.specs.declared.work.Work.{Work}
use Rattle.mpm_files.specs.Serving.{units_done}
use Rattle.mpm_refusals.specs.declared.caller.Caller.{Caller}
use Rattle.mpm_file_entries.specs.declared.granting.Granted.{Granted}
use Rattle.mpm_file_functions.specs.declared.refusals.Refusal.{Refusal}
use Rattle.mpm_file_functions.specs.declared.refusals.Extended.{Extended}
use Rattle.mpm_refusals.specs.Filing.{LastSearch, Filing, Situation, block, HaveUsers}
use Rattle.mpm_refusals.specs.Subjects.{last_search, drive_number, mounted, is_mounted, drive_at, found}
use Rattle.mpm_file_functions.specs.Refusals.{answered, refused_value, refused_extended}
use Rattle.mpm_refusals.specs.Refusals.{refusal_of}
use Rattle.mpm_bdos.specs.Jobs.{job_of, call_turns, Turned, turned_by, turned}
use Rattle.mpm_marks.specs.Driving.{protected_by, marks_by, freed_by}
use Rattle.mpm_bdos.specs.Changes.{protected_then, search_of_call, filing_after}
use Rattle.mpm_refusals.specs.Searches.{searches_by}
use Rattle.mpm_bdos.specs.Replies.{granted_of, bytes_by, answer_after}
use Rattle.mpm_directories.specs.Direct.{where_changed}
use Rattle.mpm_file_entries.specs.Granting.{value_by, block_by}
use Rattle.mpm_bdos.specs.Outcomes.{FileOutcome, refused_outcome, granted_outcome, outcome_by, file_call}
use Rattle.mpm_refusals.specs.Asking.{called, StandsForDirectory, StandsWhere}
use Rattle.mpm_bdos.specs.Serving.{IsCaller, InService, Kept, StandEach, WorksOn, IsCallOf, Serves, filing_of}
use Rattle.mpm_directories.specs.Places.{directory_at}
use Rattle.mpm_bdos.specs.Replying.{is_on_drives, IsAnswering, IsReplied}
use Rattle.mpm_bdos.specs.Finishing.{serving, IsFinished, ComesTo}
use Rattle.mpm_bdos.proofs.EndingLaws.{own_job}
use Rattle.mpm_refusals.proofs.UnmountedLaws.{is_there, is_not_there}
use Rattle.mpm_bdos.proofs.OnDrives.{stays_on, keeps_drives, unmounted_on_drives}
use Rattle.mpm_bdos.proofs.NextTurns.{idle_drives}
use Rattle.mpm_bdos.proofs.ServingLaws.{stand_at_last}

-- a call on drives answers nothing but that it is done
no_turns : (s : Situation) → refusal_of s ≡ None → is_on_drives s.function ≡ true → job_of s ≡ None
no_turns s none on = own_job s none ∙ (stays_on s (turned s (call_turns s)) s.function on).job

pub unchanged : (bytes : List ℕ) → where_changed bytes bytes ≡ None
unchanged bytes = ap (λ b. cond b None (Some bytes)) ((bytes_eq-Decides bytes bytes).1 refl)

drives_answer : (s : Situation) → refusal_of s ≡ None → is_on_drives s.function ≡ true → length s.call.fcb ≡ 36
    → answer_after s (turned s (call_turns s)) ≡ record { hl = 0; fcb = None; at = s.call.dma; bytes = [] }
unfolding answer_after granted_of
drives_answer s none on size =
    let t : Turned = turned s (call_turns s) in
    let g : Granted = granted_of s t in
    let stays = stays_on s t s.function on in
    let value : value_by t.drive g s.function ≡ 0 = stays.value t.drive g in
    let same : bytes_of (block_by t.drive g s.function) ≡ s.call.fcb = ap bytes_of (stays.block t.drive g) ∙ bytes_back s.call.fcb (block s) refl size in
    let fcb : where_changed s.call.fcb (bytes_of (block_by t.drive g s.function)) ≡ None = ap (where_changed s.call.fcb) same ∙ unchanged s.call.fcb in
    let bytes : bytes_by t.drive t.records (found s) s.function ≡ [] = stays.bytes t.drive t.records (found s) in
    (λ i. record { hl = value i; fcb = fcb i; at = s.call.dma; bytes = bytes i })

finished_on_drives : (s : Situation) (answer : Answer) (protected : List Bool) (opens : OpenFiles) (marks : List ℕ) (searches : List (Option LastSearch))
    → refusal_of s ≡ None → is_on_drives s.function ≡ true → length s.call.fcb ≡ 36
    → answer ≡ record { hl = 0; fcb = None; at = s.call.dma; bytes = [] }
    → protected ≡ protected_by s.filing.protected (is_mounted s.filing s.caller.drive) s.caller.drive s.call.word s.function
    → opens ≡ freed_by s.filing.opens s.caller.process s.call.word s.function
    → marks ≡ marks_by s.filing.marks s.caller.process s.call.word s.function → searches ≡ s.filing.searches → IsFinished s answer protected opens marks searches
unfolding protected_then
finished_on_drives s answer protected opens marks searches none on size a p o m q =
    let stays = stays_on s (turned s (call_turns s)) s.function on in
    record {
      answer_is = a ∙ sym (drives_answer s none on size);
      protected_are = p;
      opens_are = o ∙ sym stays.opens;
      marks_are = m;
      searches_are = q ∙ sym (ap (searches_by s.filing.searches s.caller.process (search_of_call s)) (stays.found (drive_at s) s.caller.user (block s) (last_search s)));
    }

-- a drive is mounted where its directory is there
as_mounted : (number : ℕ) (image : List ℕ) (directory : Option Directory) (drive : Option Drive) → StandsWhere number image directory drive → is_some directory ≡ is_some drive
as_mounted number image None None stands = refl
as_mounted number image None (Some drive) stands = absurd stands
as_mounted number image (Some d) None stands = absurd stands
as_mounted number image (Some d) (Some drive) stands = refl

-- what is kept of a call is of the situation in which it entered
pub call_kept : (images : ℕ → List ℕ) (kept : Kept) (service : InService) (s : Situation) (t : ℕ) → kept.service ≡ Some service → Serves images kept s t → IsCallOf service s
call_kept images kept service s t is serves = subst (λ one. IsCallOf one s) (same_Some serves.service service (sym serves.there ∙ is)) serves.is

work_kept : (images : ℕ → List ℕ) (kept : Kept) (service : InService) (s : Situation) (t : ℕ) → kept.service ≡ Some service → Serves images kept s t
    → WorksOn (images (drive_number s)) (directory_at kept.mounted (drive_number s)) (drive_at s) (job_of s) t service.work
work_kept images kept service s t is serves =
    subst (λ (one : InService). WorksOn (images (drive_number s)) (directory_at kept.mounted (drive_number s)) (drive_at s) (job_of s) t one.work)
    (same_Some serves.service service (sym serves.there ∙ is)) serves.works

pub situation_kept : (kept : Kept) (service : InService) (s : Situation) → IsCallOf service s → filing_of kept s.filing.drives ≡ s.filing
    → called s.filing.drives kept.protected kept.opens kept.marks kept.searches service.caller service.function service.call service.moment ≡ s
situation_kept kept service s is same =
    (λ i. record { filing = same i; caller = is.caller i; function = is.function i; call = is.call i; moment = is.moment i })

pub granted_on_drives : (images : ℕ → List ℕ) (kept : Kept) (service : InService) (s : Situation) (has : Bool) (answer : Answer) (protected : List Bool) (opens : OpenFiles) (marks : List ℕ)
    → kept.service ≡ Some service → Serves images kept s (call_turns s) → refusal_of s ≡ None → is_on_drives service.function ≡ true → length service.call.fcb ≡ 36
    → has ≡ is_some (directory_at kept.mounted service.caller.drive)
    → answer ≡ record { hl = 0; fcb = None; at = service.call.dma; bytes = [] }
    → protected ≡ protected_by kept.protected has service.caller.drive service.call.word service.function
    → opens ≡ freed_by kept.opens service.caller.process service.call.word service.function
    → marks ≡ marks_by kept.marks service.caller.process service.call.word service.function → IsFinished s answer protected opens marks kept.searches
granted_on_drives images kept service s has answer protected opens marks of_it serves none on size there a p o m =
    let is = call_kept images kept service s (call_turns s) of_it serves in
    let same = serves.same in
    let driven : is_on_drives s.function ≡ true = sym (ap is_on_drives is.function) ∙ on in
    let own : ℕ = service.caller.drive in
    let stands = subst (λ drives. StandsWhere own (images own) (directory_at kept.mounted own) (slice_index_or drives own None)) (idle_drives s (call_turns s) (no_turns s none driven)) (serves.stand.each own) in
    let mounted_is : has ≡ is_mounted s.filing s.caller.drive =
    there ∙ as_mounted own (images own) (directory_at kept.mounted own) (slice_index_or s.filing.drives own None) stands
    ∙ ap (λ (c : Caller). is_mounted s.filing c.drive) is.caller
    in
    finished_on_drives s answer protected opens marks kept.searches none driven (subst (λ (c : Taken). length c.fcb ≡ 36) is.call size)
    (a ∙ ap (λ (c : Taken). record { hl = 0; fcb = None; at = c.dma; bytes = [] }) is.call)
    (p ∙ (λ i. protected_by (same i).protected (mounted_is i) (is.caller i).drive (is.call i).word (is.function i)))
    (o ∙ (λ i. freed_by (same i).opens (is.caller i).process (is.call i).word (is.function i)))
    (m ∙ (λ i. marks_by (same i).marks (is.caller i).process (is.call i).word (is.function i)))
    (ap (λ (f : Filing). f.searches) same)

-- the drive that a call names, which isn't refused, is mounted; and image and directory stand for what its turns have come to
none_works : (image : List ℕ) (before : Drive) (job : Job) (t : ℕ) (work : Option Work) → WorksOn image None before (Some job) t work → ⊥
none_works image before job t None works = works
none_works image before job t (Some work) works = works

nowhere : (images : ℕ → List ℕ) (kept : Kept) (s : Situation) → Serves images kept s (call_turns s) → refusal_of s ≡ None → directory_at kept.mounted (drive_number s) ≡ None
    → is_on_drives s.function ≡ true
nowhere images kept s serves none there = by_job (job_of s) refl
  where
    by_job : (job : Option Job) → job_of s ≡ job → is_on_drives s.function ≡ true
    by_job None is =
        unmounted_on_drives s (is_not_there s (images (drive_number s))
        (subst (λ directory. StandsForDirectory (images (drive_number s)) directory s) there
        (subst (λ drives. StandsWhere (drive_number s) (images (drive_number s)) (directory_at kept.mounted (drive_number s)) (slice_index_or drives (drive_number s) None)) (idle_drives s (call_turns s) is)
        (serves.stand.each (drive_number s))))) none
    by_job (Some job) is =
        absurd (none_works (images (drive_number s)) (drive_at s) job (call_turns s) serves.service.work
        (subst (λ j. WorksOn (images (drive_number s)) None (drive_at s) j (call_turns s) serves.service.work) is
        (subst (λ directory. WorksOn (images (drive_number s)) directory (drive_at s) (job_of s) (call_turns s) serves.service.work) there serves.works)))

pub mounted_there : (images : ℕ → List ℕ) (kept : Kept) (s : Situation) → Serves images kept s (call_turns s) → refusal_of s ≡ None → is_on_drives s.function ≡ false
    → (d : Directory) × (directory_at kept.mounted (drive_number s) ≡ Some d)
mounted_there images kept s serves none names = by_place (directory_at kept.mounted (drive_number s)) refl
  where
    by_place : (directory : Option Directory) → directory_at kept.mounted (drive_number s) ≡ directory → (d : Directory) × (directory_at kept.mounted (drive_number s) ≡ Some d)
    by_place None is = absurd (true≢false (sym (nowhere images kept s serves none is) ∙ names))
    by_place (Some d) is = (d, is)

works_stand : (image : List ℕ) (d : Directory) (before : Drive) (job : Job) (t : ℕ) (work : Option Work) → WorksOn image (Some d) before (Some job) t work → Stands image d (units_done before job t)
works_stand image d before job t None works = absurd works
works_stand image d before job t (Some work) works = works.stands

stands_at_last : (images : ℕ → List ℕ) (kept : Kept) (s : Situation) (d : Directory) → Serves images kept s (call_turns s) → directory_at kept.mounted (drive_number s) ≡ Some d
    → Stands (images (drive_number s)) d (turned s (call_turns s)).drive
unfolding turned
stands_at_last images kept s d serves there = by_job (job_of s) refl
  where
    by_job : (job : Option Job) → job_of s ≡ job → Stands (images (drive_number s)) d (turned_by (drive_at s) (call_turns s) (job_of s)).drive
    by_job None is =
        subst (λ j. Stands (images (drive_number s)) d (turned_by (drive_at s) (call_turns s) j).drive) (sym is)
        (is_there s (images (drive_number s)) d
        (subst (λ directory. StandsForDirectory (images (drive_number s)) directory s) there
        (subst (λ drives. StandsWhere (drive_number s) (images (drive_number s)) (directory_at kept.mounted (drive_number s)) (slice_index_or drives (drive_number s) None)) (idle_drives s (call_turns s) is)
        (serves.stand.each (drive_number s))))).stands
    by_job (Some job) is =
        subst (λ j. Stands (images (drive_number s)) d (turned_by (drive_at s) (call_turns s) j).drive) (sym is)
        (works_stand (images (drive_number s)) d (drive_at s) job (call_turns s) serves.service.work
        (subst (λ j. WorksOn (images (drive_number s)) (Some d) (drive_at s) j (call_turns s) serves.service.work) is
        (subst (λ directory. WorksOn (images (drive_number s)) directory (drive_at s) (job_of s) (call_turns s) serves.service.work) there serves.works)))

pub is_answering : (images : ℕ → List ℕ) (kept : Kept) (service : InService) (s : Situation) (d : Directory)
    → kept.service ≡ Some service → Serves images kept s (call_turns s) → refusal_of s ≡ None → is_on_drives s.function ≡ false
    → IsCaller service.caller → HaveUsers kept.opens → length service.call.fcb ≡ 36 → sequential_record (block_of service.call.fcb) ≤ LAST_POSITION
    → directory_at kept.mounted (drive_number s) ≡ Some d → IsAnswering s (images (drive_number s)) d service.work service.deleted
is_answering images kept service s d of_it serves none names caller users size low there =
    let is = call_kept images kept service s (call_turns s) of_it serves in
    record {
      served = record {
        none = none;
        caller = subst (λ (c : Caller). IsCaller c) is.caller caller;
        users = subst (λ (f : Filing). HaveUsers f.opens) serves.same users;
        size = subst (λ (c : Taken). length c.fcb ≡ 36) is.call size;
        low = subst (λ (c : Taken). sequential_record (block_of c.fcb) ≤ LAST_POSITION) is.call low;
        sound = serves.sound;
        suits = serves.suits;
        works = subst (λ directory. WorksOn (images (drive_number s)) directory (drive_at s) (job_of s) (call_turns s) service.work) there
            (work_kept images kept service s (call_turns s) of_it serves);
      };
      stands = stands_at_last images kept s d serves there;
      deleted_is = is.deleted none;
      names = names;
    }

finished_replied : (s : Situation) (answer : Answer) (protected : List Bool) (opens : OpenFiles) (marks : List ℕ) (searches : List (Option LastSearch)) → is_on_drives s.function ≡ false
    → IsReplied s answer opens searches → protected ≡ s.filing.protected → marks ≡ s.filing.marks → IsFinished s answer protected opens marks searches
unfolding protected_then
finished_replied s answer protected opens marks searches names replied p m =
    let keeps = keeps_drives s.function names in
    record {
      answer_is = replied.answer_is;
      protected_are = p ∙ sym (keeps.protected s.filing.protected (is_mounted s.filing s.caller.drive) s.caller.drive s.call.word);
      opens_are = replied.opens_are;
      marks_are = m ∙ sym (keeps.marks s.filing.marks s.caller.process s.call.word);
      searches_are = replied.searches_are;
    }

-- a call on the drive that it names
pub granted_named : (images : ℕ → List ℕ) (kept : Kept) (service : InService) (s : Situation) (place : Option Directory) (answer : Answer) (opens : OpenFiles) (searches : List (Option LastSearch))
    → kept.service ≡ Some service → Serves images kept s (call_turns s) → refusal_of s ≡ None → is_on_drives service.function ≡ false
    → IsCaller service.caller → HaveUsers kept.opens → length service.call.fcb ≡ 36 → sequential_record (block_of service.call.fcb) ≤ LAST_POSITION
    → place ≡ directory_at kept.mounted service.drive
    → ((image : List ℕ) (d : Directory) → place ≡ Some d
    → IsAnswering (called s.filing.drives kept.protected kept.opens kept.marks kept.searches service.caller service.function service.call service.moment) image d service.work service.deleted
    → IsReplied (called s.filing.drives kept.protected kept.opens kept.marks kept.searches service.caller service.function service.call service.moment) answer opens searches)
    → IsFinished s answer kept.protected opens kept.marks searches
granted_named images kept service s place answer opens searches of_it serves none on caller users size low at replies =
    let is = call_kept images kept service s (call_turns s) of_it serves in
    let names : is_on_drives s.function ≡ false = sym (ap is_on_drives is.function) ∙ on in
    let there = mounted_there images kept s serves none names in
    let same = situation_kept kept service s is serves.same in
    let answering_it = is_answering images kept service s there.0 of_it serves none names caller users size low there.1 in
    let replied = subst (λ (one : Situation). IsReplied one answer opens searches) same
    (replies (images (drive_number s)) there.0 (at ∙ ap (directory_at kept.mounted) is.drive ∙ there.1)
    (subst (λ (one : Situation). IsAnswering one (images (drive_number s)) there.0 service.work service.deleted) (sym same) answering_it)) in
    finished_replied s answer kept.protected opens kept.marks searches names replied (ap (λ (f : Filing). f.protected) serves.same) (ap (λ (f : Filing). f.marks) serves.same)

-- what is cached isn't looked at
pub uncached : (images : ℕ → List ℕ) (kept : Kept) (service : InService) (s : Situation) (t : ℕ) → kept.service ≡ Some service → Serves images kept s t
    → Serves images (serving kept.mounted kept.protected kept.opens kept.marks kept.searches service) s t
uncached images kept service s t is serves = record {
  service = service;
  there = refl;
  is = call_kept images kept service s t is serves;
  sound = serves.sound;
  suits = serves.suits;
  works = work_kept images kept service s t is serves;
  same = serves.same;
  stand = serves.stand;
}

-- the outcome of a call that isn't refused
pub granted_comes : (images : ℕ → List ℕ) (kept new : Kept) (s : Situation) (answer : Answer) → Serves images kept s (call_turns s) → refusal_of s ≡ None
    → IsFinished s answer new.protected new.opens new.marks new.searches → new.mounted ≡ kept.mounted → ComesTo images s new answer None
unfolding file_call filing_after
granted_comes images kept new s answer serves none finished mounted_is =
    let same : file_call s ≡ granted_outcome s (turned s (call_turns s)) = ap (outcome_by s (turned s (call_turns s))) none in
    record {
      answer_is = finished.answer_is ∙ sym (ap (λ (o : FileOutcome). o.answer) same);
      extended_is = sym (ap (λ (o : FileOutcome). o.extended) same);
      filing_is = (λ i. record {
        drives = (file_call s).filing.drives;
        protected = finished.protected_are i;
        opens = finished.opens_are i;
        marks = finished.marks_are i;
        searches = finished.searches_are i;
      })
          ∙ ap (λ (o : FileOutcome). record (filing_after s (turned s (call_turns s))) { drives = o.filing.drives }) same ∙ sym (ap (λ (o : FileOutcome). o.filing) same);
      stand = subst (λ directories. StandEach images directories (file_call s).filing.drives) (sym mounted_is) (stand_at_last images kept s serves);
    }

-- and of one that is
pub refused_comes : (images : ℕ → List ℕ) (kept : Kept) (service : InService) (s : Situation) (refusal : Refusal) (answer : Answer) (extended : Option Extended)
    → kept.service ≡ Some service → Serves images kept s (call_turns s) → service.refusal ≡ Some refusal
    → answer ≡ answering (refused_value (answered refusal)) → extended ≡ refused_extended service.drive (answered refusal) → ComesTo images s kept answer extended
unfolding file_call
refused_comes images kept service s refusal answer extended of_it serves refuses a e =
    let is = call_kept images kept service s (call_turns s) of_it serves in
    let same : file_call s ≡ refused_outcome s refusal = ap (outcome_by s (turned s (call_turns s))) (sym is.refusal ∙ refuses) in
    record {
      answer_is = a ∙ sym (ap (λ (o : FileOutcome). o.answer) same);
      extended_is = e ∙ ap (λ drive. refused_extended drive (answered refusal)) is.drive ∙ sym (ap (λ (o : FileOutcome). o.extended) same);
      filing_is = ap (λ (o : FileOutcome). filing_of kept o.filing.drives) same ∙ serves.same ∙ sym (ap (λ (o : FileOutcome). o.filing) same);
      stand = stand_at_last images kept s serves;
    }

pub none_refuses : (images : ℕ → List ℕ) (kept : Kept) (service : InService) (s : Situation) (t : ℕ) → kept.service ≡ Some service → Serves images kept s t → service.refusal ≡ None
    → refusal_of s ≡ None
none_refuses images kept service s t of_it serves none = sym (call_kept images kept service s t of_it serves).refusal ∙ none

pub comes_still : (images : ℕ → List ℕ) (mounted : List (Option Directory)) (cached : List (SectorPlace × List ℕ)) (protected : List Bool) (opens : OpenFiles) (marks : List ℕ) (searches : List (Option LastSearch))
    (service : InService) (other : Option InService) (s : Situation) (answer : Answer) (extended : Option Extended)
    → ComesTo images s (serving mounted protected opens marks searches service) answer extended
    → ComesTo images s (record { mounted = mounted; cached = cached; protected = protected; opens = opens; marks = marks; searches = searches; service = other }) answer extended
comes_still images mounted cached protected opens marks searches service other s answer extended comes = record {
  answer_is = comes.answer_is;
  extended_is = comes.extended_is;
  filing_is = comes.filing_is;
  stand = comes.stand;
}
