-- A turn of the call in service, by the situation in which the call entered.
use Rattle.std.proofs.Common.{◌≡◌, ◌≢◌, ℕ, zero, suc, ◌<◌, ◌⊎◌, Bool, true, false, List, [], ◌∷◌, Option, Some, None, Result, Ok, IfSome, refl, sym, ap, subst, ◌∙◌, arith, length, inl, inr}
use Rattle.std.specs.Prelude.{IfOk, OnOk, OnErr, is_some, option_map, unwrap_or, nat_lt, slice_set, slice_index_or, if◌then◌else◌}
use Rattle.std.proofs.lemmas.Bool.{true≢false, cases_eq}
use Rattle.std.proofs.lemmas.Bool.Decides.{nat_tests}
use Rattle.std.proofs.lemmas.Result.{on_ok_weaker, on_err_weaker}
use Rattle.mpm_base.proofs.Results.{on_ok}
use Rattle.std.proofs.lemmas.Option.{same_Some}
use Rattle.mpm_base.specs.declared.kind.Kind.{Kind}
use Rattle.mpm_base.specs.declared.kind.Kind.TheVariants.{Ibm3740, Hd4, Hd8}
use Rattle.mpm_port.specs.Disks.{Disks}
use Rattle.mpm_blocks.specs.Geometries.{geometry_of}
use Rattle.mpm_mount.specs.Drives.{Drive}
use Rattle.mpm_mount.specs.Directories.{Directory}
use Rattle.mpm_jobs.specs.declared.jobs.Job.{Job}
use Rattle.mpm_files.specs.declared.turning.Progress.{Progress}
use Rattle.mpm_files.specs.declared.turning.Progress.TheVariants.{Again, Done}
use Rattle.mpm_files.specs.declared.work.Work.{Work}
use Rattle.mpm_files.specs.Plans.{turns_of}
use Rattle.mpm_files.specs.Serving.{units_done, IsInService}
use Rattle.mpm_files.specs.Turning.{Suits, Contained}
use Rattle.mpm_bdos.proofs.Fitting.{by_label}
use Rattle.mpm_refusals.specs.Filing.{Situation}
use Rattle.mpm_refusals.specs.Subjects.{drive_number, drive_at}
use Rattle.mpm_bdos.specs.Jobs.{job_of, turns_by, call_turns, turned_by, turned}
use Rattle.mpm_bdos.specs.Changes.{drives_by}
use Rattle.mpm_bdos.specs.Outcomes.{drives_after}
use Rattle.mpm_bdos.specs.Serving.{InService, Kept, StandEach, WorksOn, IsCallOf, Serves, filing_of}
use Rattle.mpm_directories.specs.Places.{directory_at}
use Rattle.mpm_refusals.specs.Asking.{StandsWhere}
use Rattle.mpm_bdos.specs.Turns.{IsWorkingOn, IsServing, IsContainedAt, IsServiceContained, TurnKeeps, KeepsImages, StopsWithin, IsDiskIdle, images_of, progress_after, drive_served, has_work, has_directory, without_work}

-- a drive upon whose image a directory stands has that image
some_bytes : (kind : Kind) → 0 < (geometry_of kind).bytes
some_bytes Ibm3740 = omega arith
some_bytes Hd4 = omega arith
some_bytes Hd8 = omega arith

bytes_of_some : (image : Option (List ℕ)) (bytes : ℕ) → length (unwrap_or image []) ≡ bytes → 0 < bytes → image ≡ Some (unwrap_or image [])
bytes_of_some None bytes size some = absurd (omega (arith, size, some))
bytes_of_some (Some image) bytes size some = refl

pub image_told : (disks : Disks) (number : ℕ) (kind : Kind) → length (images_of disks number) ≡ (geometry_of kind).bytes → disks.image number ≡ Some (images_of disks number)
unfolding images_of
image_told disks number kind size = bytes_of_some (disks.image number) (geometry_of kind).bytes size (some_bytes kind)

pub told_is : (disks : Disks) (number : ℕ) (image : List ℕ) → disks.image number ≡ Some image → image ≡ images_of disks number
unfolding images_of
told_is disks number image told = sym (ap (λ found. unwrap_or found []) told)

-- the work of a job by the images, and on the image that its drive has
pub works_told : (disks : Disks) (number : ℕ) (directory : Option Directory) (before : Drive) (job : Job) (j : ℕ) (work : Option Work) → IfSome directory (λ d. d.drive ≡ number)
    → WorksOn (images_of disks number) directory before (Some job) j work → IsWorkingOn disks directory before job j work
works_told disks number directory before job j None its works = absurd works
works_told disks number None before job j (Some work) its works = absurd works
works_told disks number (Some d) before job j (Some work) its works = record {
  image = images_of disks number;
  told = ap (disks.image) its ∙ image_told disks number d.kind works.stands.size;
  service = works;
}

told_works : (disks : Disks) (number : ℕ) (directory : Option Directory) (before : Drive) (job : Job) (j : ℕ) (work : Option Work) → IfSome directory (λ d. d.drive ≡ number)
    → IsWorkingOn disks directory before job j work → WorksOn (images_of disks number) directory before (Some job) j work
told_works disks number directory before job j None its works = absurd works
told_works disks number None before job j (Some work) its works = absurd works
told_works disks number (Some d) before job j (Some work) its works =
    subst (λ image. IsInService image d before job j work) (told_is disks number works.image (sym (ap (disks.image) its) ∙ works.told)) works.service

-- no work, no job
no_work : (image : List ℕ) (directory : Option Directory) (before : Drive) (j : ℕ) (work : Option Work) → WorksOn image directory before None j work → is_some work ≡ false
no_work image directory before j None works = refl
no_work image directory before j (Some work) works = absurd works

idle_works : (image now : List ℕ) (directory new : Option Directory) (before : Drive) (j k : ℕ) (work : Option Work) → WorksOn image directory before None j work → WorksOn now new before None k work
idle_works image now directory new before j k None works = tt
idle_works image now directory new before j k (Some work) works = absurd works

-- what a situation's drives are, with so many turns of its job ended
pub job_drives : (s : Situation) (job : Job) (j : ℕ) → job_of s ≡ Some job → drives_after s j ≡ slice_set s.filing.drives (drive_number s) (Some (units_done (drive_at s) job j))
unfolding drives_after turned
job_drives s job j is = ap (λ found. drives_by s (turned_by (drive_at s) j found).drive found) is

pub idle_drives : (s : Situation) (j : ℕ) → job_of s ≡ None → drives_after s j ≡ s.filing.drives
unfolding drives_after turned
idle_drives s j is = ap (λ found. drives_by s (turned_by (drive_at s) j found).drive found) is

pub job_turns : (s : Situation) (job : Job) → job_of s ≡ Some job → call_turns s ≡ turns_of (drive_at s) job
unfolding call_turns
job_turns s job is = ap (turns_by (drive_at s)) is

idle_turns : (s : Situation) → job_of s ≡ None → call_turns s ≡ 1
unfolding call_turns
idle_turns s is = ap (turns_by (drive_at s)) is

-- a drive in its place among the drives
set_at : {X : Type 0} (xs : List (Option X)) (n : ℕ) (x y : X) → is_some (slice_index_or (slice_set xs n (Some x)) n None) ≡ true → slice_index_or (slice_set xs n (Some y)) n None ≡ Some y
set_at [] n x y there = absurd (true≢false (sym there))
set_at (z ∷ zs) zero x y there = refl
set_at (z ∷ zs) (suc n) x y there = set_at zs n x y there

set_beside : {X : Type 0} (xs : List (Option X)) (n m : ℕ) (x y : Option X) → m ≢ n → slice_index_or (slice_set xs n x) m None ≡ slice_index_or (slice_set xs n y) m None
set_beside [] n m x y apart = refl
set_beside (z ∷ zs) zero zero x y apart = absurd (apart refl)
set_beside (z ∷ zs) zero (suc m) x y apart = refl
set_beside (z ∷ zs) (suc n) zero x y apart = refl
set_beside (z ∷ zs) (suc n) (suc m) x y apart = set_beside zs n m x y (λ same. apart (ap (λ k. suc k) same))

-- a drive that is mounted is there
drive_there : (number : ℕ) (image : List ℕ) (directory : Option Directory) (drive : Option Drive) → is_some directory ≡ true → StandsWhere number image directory drive → is_some drive ≡ true
drive_there number image None drive there stands = absurd (true≢false (sym there))
drive_there number image (Some d) None there stands = absurd stands
drive_there number image (Some d) (Some drive) there stands = refl

working_there : (disks : Disks) (directory : Option Directory) (before : Drive) (job : Job) (j : ℕ) (work : Option Work) → IsWorkingOn disks directory before job j work → is_some directory ≡ true
working_there disks directory before job j None works = absurd works
working_there disks None before job j (Some work) works = absurd works
working_there disks (Some d) before job j (Some work) works = refl

-- the drive of the job, and each other one
stands_working : (number : ℕ) (image : List ℕ) (directory : Option Directory) (before : Drive) (job : Job) (j : ℕ) (work : Option Work) → IfSome directory (λ d. d.drive ≡ number)
    → WorksOn image directory before (Some job) j work → StandsWhere number image directory (Some (units_done before job j))
stands_working number image directory before job j None its works = absurd works
stands_working number image None before job j (Some work) its works = absurd works
stands_working number image (Some d) before job j (Some work) its works = record { number_is = its; stands = works.stands }

pub stands_still : (number : ℕ) (image now : List ℕ) (directory : Option Directory) (drive : Option Drive) → (is_some directory ≡ true → now ≡ image) → StandsWhere number image directory drive → StandsWhere number now directory drive
stands_still number image now None None same stands = tt
stands_still number image now None (Some drive) same stands = absurd stands
stands_still number image now (Some d) None same stands = absurd stands
stands_still number image now (Some d) (Some drive) same stands = subst (λ one. StandsWhere number one (Some d) (Some drive)) (sym (same refl)) stands

-- a directory that stands for a drive is that drive's
its_number : (number : ℕ) (image : List ℕ) (directory : Option Directory) (drive : Option Drive) → StandsWhere number image directory drive → IfSome directory (λ d. d.drive ≡ number)
its_number number image None drive stands = tt
its_number number image (Some d) None stands = absurd stands
its_number number image (Some d) (Some drive) stands = stands.number_is

-- the work of the job of a call in service
its_work : (disks : Disks) (kept : Kept) (s : Situation) (j : ℕ) (job : Job) → job_of s ≡ Some job → (serves : Serves (images_of disks) kept s j)
    → IsWorkingOn disks (directory_at kept.mounted (drive_number s)) (drive_at s) job j serves.service.work
its_work disks kept s j job is serves =
    let number : ℕ = drive_number s in
    works_told disks number (directory_at kept.mounted number) (drive_at s) job j serves.service.work
    (its_number number (images_of disks number) (directory_at kept.mounted number) (slice_index_or (drives_after s j) number None) (serves.stand.each number))
    (subst (λ found. WorksOn (images_of disks number) (directory_at kept.mounted number) (drive_at s) found j serves.service.work) is serves.works)

pub serving_told : (disks : Disks) (kept : Kept) (s : Situation) (j : ℕ) (job : Job) → job_of s ≡ Some job → Serves (images_of disks) kept s j
    → IsServing disks kept.mounted (drive_at s) job j kept.service
serving_told disks kept s j job is serves =
    subst (IsServing disks kept.mounted (drive_at s) job j) (sym serves.there)
    (subst (λ drive. IsWorkingOn disks (directory_at kept.mounted drive) (drive_at s) job j serves.service.work) (sym serves.is.drive) (its_work disks kept s j job is serves))

pub its_suits : (images : ℕ → List ℕ) (kept : Kept) (s : Situation) (j : ℕ) (job : Job) → job_of s ≡ Some job → Serves images kept s j → Suits (drive_at s) job
its_suits images kept s j job is serves = subst (λ found. IfSome found (Suits (drive_at s))) is serves.suits

-- the call in service is the same, but for its work
kept_call : (service other : InService) (s : Situation) → without_work other ≡ without_work service → IsCallOf service s → IsCallOf other s
kept_call service other s same is = record {
  caller = ap (λ (call : InService). call.caller) same ∙ is.caller;
  function = ap (λ (call : InService). call.function) same ∙ is.function;
  drive = ap (λ (call : InService). call.drive) same ∙ is.drive;
  call = ap (λ (call : InService). call.call) same ∙ is.call;
  moment = ap (λ (call : InService). call.moment) same ∙ is.moment;
  refusal = ap (λ (call : InService). call.refusal) same ∙ is.refusal;
  deleted = λ none. ap (λ (call : InService). call.deleted) same ∙ is.deleted none;
}

-- it is there, by its work
record Found (service : Option InService) (disks : Disks) (mounted : List (Option Directory)) (before : Drive) (job : Job) (j : ℕ) : Type 0 where
  pub one : InService
  pub there : service ≡ Some one
  pub works : IsWorkingOn disks (directory_at mounted one.drive) before job j one.work

found_by : (service : Option InService) (disks : Disks) (mounted : List (Option Directory)) (before : Drive) (job : Job) (j : ℕ) → IsServing disks mounted before job j service
    → Found service disks mounted before job j
found_by None disks mounted before job j serving = absurd serving
found_by (Some one) disks mounted before job j serving = record { one = one; there = refl; works = serving }

-- the drive of the job, with one turn more
stands_next : (images now : ℕ → List ℕ) (old : List (Option Directory)) (directory : Option Directory) (s : Situation) (j : ℕ) (job : Job) (work : Option Work) → job_of s ≡ Some job
    → IfSome directory (λ d. d.drive ≡ drive_number s) → has_directory old (drive_number s) ≡ true → StandEach images old (drives_after s j)
    → WorksOn (now (drive_number s)) directory (drive_at s) (Some job) (suc j) work
    → StandsWhere (drive_number s) (now (drive_number s)) directory (slice_index_or (drives_after s (suc j)) (drive_number s) None)
stands_next images now old directory s j job work is its there stand works =
    let number : ℕ = drive_number s in
    let mounted : is_some (slice_index_or (slice_set s.filing.drives number (Some (units_done (drive_at s) job j))) number None) ≡ true =
    subst (λ drives. is_some (slice_index_or drives number None) ≡ true) (job_drives s job j is)
    (drive_there number (images number) (directory_at old number) (slice_index_or (drives_after s j) number None) there (stand.each number)) in
    subst (StandsWhere number (now number) directory)
    (sym (ap (λ drives. slice_index_or drives number None) (job_drives s job (suc j) is)
    ∙ set_at s.filing.drives number (units_done (drive_at s) job j) (units_done (drive_at s) job (suc j)) mounted))
    (stands_working number (now number) directory (drive_at s) job (suc j) work its works)

-- each other one
drive_beside : (s : Situation) (j : ℕ) (job : Job) (number : ℕ) → job_of s ≡ Some job → number ≢ drive_number s
    → slice_index_or (drives_after s (suc j)) number None ≡ slice_index_or (drives_after s j) number None
drive_beside s j job number is apart =
    ap (λ drives. slice_index_or drives number None) (job_drives s job (suc j) is)
    ∙ set_beside s.filing.drives (drive_number s) number (Some (units_done (drive_at s) job (suc j))) (Some (units_done (drive_at s) job j)) apart
    ∙ sym (ap (λ drives. slice_index_or drives number None) (job_drives s job j is))

stands_beside : (images now : ℕ → List ℕ) (old new : List (Option Directory)) (s : Situation) (j : ℕ) (job : Job) (number : ℕ) → job_of s ≡ Some job → number ≢ drive_number s
    → directory_at new number ≡ directory_at old number → (has_directory old number ≡ true → now number ≡ images number)
    → StandEach images old (drives_after s j)
    → StandsWhere number (now number) (directory_at new number) (slice_index_or (drives_after s (suc j)) number None)
stands_beside images now old new s j job number is apart place image stand =
    subst (λ directory. StandsWhere number (now number) directory (slice_index_or (drives_after s (suc j)) number None)) (sym place)
    (subst (StandsWhere number (now number) (directory_at old number)) (sym (drive_beside s j job number is apart))
    (stands_still number (images number) (now number) (directory_at old number) (slice_index_or (drives_after s j) number None) image (stand.each number)))

-- where its drive isn't this one
served_elsewhere : (images : ℕ → List ℕ) (kept : Kept) (s : Situation) (j number : ℕ) → Serves images kept s j → number ≢ drive_number s → drive_served kept.service ≢ Some number
served_elsewhere images kept s j number serves apart = λ same.
    apart (sym (same_Some (drive_number s) number (sym (ap drive_served serves.there ∙ ap (λ n. Some n) serves.is.drive) ∙ same)))

pub same_images : (disks now : Disks) (number : ℕ) → now.image number ≡ disks.image number → images_of now number ≡ images_of disks number
unfolding images_of
same_images disks now number same = ap (λ image. unwrap_or image []) same

-- a turn of a job has ended
serves_more : (disks now : Disks) (old new : Kept) (s : Situation) (j : ℕ) (job : Job) → job_of s ≡ Some job → TurnKeeps old new → KeepsImages (drive_served old.service) old.mounted disks now
    → Serves (images_of disks) old s j → IsServing now new.mounted (drive_at s) job (suc j) new.service → Serves (images_of now) new s (suc j)
serves_more disks now old new s j job is kept images serves serving =
    let number : ℕ = drive_number s in
    let call = found_by new.service now new.mounted (drive_at s) job (suc j) serving in
    let same : without_work call.one ≡ without_work serves.service =
    same_Some (without_work call.one) (without_work serves.service) (sym (ap (option_map without_work) call.there) ∙ kept.service ∙ ap (option_map without_work) serves.there) in
    let served = kept_call serves.service call.one s same serves.is in
    let its : IfSome (directory_at new.mounted number) (λ d. d.drive ≡ number) =
    by_label (λ label. label.0 ≡ number) (directory_at old.mounted number) (directory_at new.mounted number) (kept.labels number)
    (its_number number (images_of disks number) (directory_at old.mounted number) (slice_index_or (drives_after s j) number None) (serves.stand.each number)) in
    let works : WorksOn (images_of now number) (directory_at new.mounted number) (drive_at s) (Some job) (suc j) call.one.work =
    told_works now number (directory_at new.mounted number) (drive_at s) job (suc j) call.one.work its
    (subst (λ drive. IsWorkingOn now (directory_at new.mounted drive) (drive_at s) job (suc j) call.one.work) served.drive call.works) in
    let there : has_directory old.mounted number ≡ true = working_there disks (directory_at old.mounted number) (drive_at s) job j serves.service.work (its_work disks old s j job is serves) in
    record {
      service = call.one;
      there = call.there;
      is = served;
      sound = serves.sound;
      suits = serves.suits;
      works = subst (λ found. WorksOn (images_of now number) (directory_at new.mounted number) (drive_at s) found (suc j) call.one.work) (sym is) works;
      same = ap (λ one. filing_of one s.filing.drives) kept.rest ∙ serves.same;
      stand = record {
        each = λ other. stands_each other (cases_eq other number) call works its there;
      };
    }
  where
    stands_each : (other : ℕ) → (other ≡ drive_number s) ⊎ (other ≢ drive_number s) → (call : Found new.service now new.mounted (drive_at s) job (suc j))
        → WorksOn (images_of now (drive_number s)) (directory_at new.mounted (drive_number s)) (drive_at s) (Some job) (suc j) call.one.work
        → IfSome (directory_at new.mounted (drive_number s)) (λ d. d.drive ≡ drive_number s) → has_directory old.mounted (drive_number s) ≡ true
        → StandsWhere other (images_of now other) (directory_at new.mounted other) (slice_index_or (drives_after s (suc j)) other None)
    stands_each other (inl here) call works its there =
        subst (λ n. StandsWhere n (images_of now n) (directory_at new.mounted n) (slice_index_or (drives_after s (suc j)) n None)) (sym here)
        (stands_next (images_of disks) (images_of now) old.mounted (directory_at new.mounted (drive_number s)) s j job call.one.work is its there serves.stand works)
    stands_each other (inr apart) call works its there =
        stands_beside (images_of disks) (images_of now) old.mounted new.mounted s j job other is apart
        (kept.places other (served_elsewhere (images_of disks) old s j other serves apart))
        (λ mounted. same_images disks now other (images other (served_elsewhere (images_of disks) old s j other serves apart) mounted)) serves.stand

-- a call without a job: nothing is done in its turn
serves_idly : (images : ℕ → List ℕ) (old new : Kept) (s : Situation) (j : ℕ) → job_of s ≡ None → TurnKeeps old new → new.service ≡ old.service → new.mounted ≡ old.mounted
    → Serves images old s j → Serves images new s (suc j)
serves_idly images old new s j is kept service mounted serves = record {
  service = serves.service;
  there = service ∙ serves.there;
  is = serves.is;
  sound = serves.sound;
  suits = serves.suits;
  works = works;
  same = ap (λ one. filing_of one s.filing.drives) kept.rest ∙ serves.same;
  stand = subst (λ directories. StandEach images directories (drives_after s (suc j))) (sym mounted)
      (subst (StandEach images old.mounted) (idle_drives s j is ∙ sym (idle_drives s (suc j) is)) serves.stand);
}
  where
    works : WorksOn (images (drive_number s)) (directory_at new.mounted (drive_number s)) (drive_at s) (job_of s) (suc j) serves.service.work
    works = subst (λ found. WorksOn (images (drive_number s)) (directory_at new.mounted (drive_number s)) (drive_at s) found (suc j) serves.service.work) (sym is)
        (idle_works (images (drive_number s)) (images (drive_number s)) (directory_at old.mounted (drive_number s)) (directory_at new.mounted (drive_number s)) (drive_at s) j (suc j) serves.service.work
        (subst (λ found. WorksOn (images (drive_number s)) (directory_at old.mounted (drive_number s)) (drive_at s) found j serves.service.work) is serves.works))

-- likewise after all of its turns, of which there is one
pub served_idly : (images : ℕ → List ℕ) (kept : Kept) (s : Situation) → job_of s ≡ None → Serves images kept s 0 → Serves images kept s (call_turns s)
served_idly images kept s is serves =
    subst (Serves images kept s) (sym (idle_turns s is))
    (serves_idly images kept kept s 0 is (record { rest = refl; service = refl; places = λ number apart. refl; labels = λ number. refl }) refl refl serves)

pub idle_work : (images : ℕ → List ℕ) (kept : Kept) (s : Situation) (j : ℕ) → job_of s ≡ None → Serves images kept s j → has_work kept.service ≡ false
idle_work images kept s j is serves =
    ap has_work serves.there
    ∙ no_work (images (drive_number s)) (directory_at kept.mounted (drive_number s)) (drive_at s) j serves.service.work
    (subst (λ found. WorksOn (images (drive_number s)) (directory_at kept.mounted (drive_number s)) (drive_at s) found j serves.service.work) is serves.works)

-- the turn of a call in service, by whether it has a job
pub next_served : {D E : Type 0} (disks : D → Disks) (old new : Kept) (drives now : D) (s : Situation) (j steps later : ℕ) (result : Result Progress E)
    → ((before : Drive) (job : Job) (k : ℕ) → Suits before job → IsServing (disks drives) old.mounted before job k old.service → k < turns_of before job
    → OnOk result (IsServing (disks now) new.mounted before job (suc k) new.service))
    → (has_work old.service ≡ false → IsDiskIdle old.service new.service old.mounted new.mounted old.cached new.cached drives now steps later)
    → TurnKeeps old new → KeepsImages (drive_served old.service) old.mounted (disks drives) (disks now)
    → Serves (images_of (disks drives)) old s j → j < call_turns s → OnOk result (Serves (images_of (disks now)) new s (suc j))
next_served {D} {E} disks old new drives now s j steps later result ok idle kept images serves turn = by_job (job_of s) refl
  where
    by_job : (job : Option Job) → job_of s ≡ job → OnOk result (Serves (images_of (disks now)) new s (suc j))
    by_job None is =
        let still = idle (idle_work (images_of (disks drives)) old s j is serves) in
        on_ok result (subst (λ device. Serves (images_of (disks device)) new s (suc j)) (sym still.drives)
        (serves_idly (images_of (disks drives)) old new s j is kept still.call still.directories serves))
    by_job (Some job) is = on_ok_weaker result (serves_more (disks drives) (disks now) old new s j job is kept images serves)
        (ok (drive_at s) job j (its_suits (images_of (disks drives)) old s j job is serves) (serving_told (disks drives) old s j job is serves)
        (subst (λ turns. j < turns) (job_turns s job is) turn))

-- where its drive failed, that is the job's
contained_at : (disks : Disks) (number : ℕ) (directory : Option Directory) (before : Drive) (job : Job) (j : ℕ) → IfSome directory (λ d. d.drive ≡ number)
    → IsContainedAt disks directory before job j → Contained disks number before job j
contained_at disks number None before job j its contained = absurd contained
contained_at disks number (Some d) before job j its contained = subst (λ drive. Contained disks drive before job j) its contained

stopped_within : (disks now : Disks) (kept : Kept) (s : Situation) (j : ℕ) (job : Job) → job_of s ≡ Some job → Serves (images_of disks) kept s j
    → IsServiceContained now kept.mounted (drive_at s) job j kept.service → StopsWithin now s j
stopped_within disks now kept s j job is serves contained = record {
  job = job;
  its = is;
  contained = contained_at now (drive_number s) (directory_at kept.mounted (drive_number s)) (drive_at s) job j
      (its_number (drive_number s) (images_of disks (drive_number s)) (directory_at kept.mounted (drive_number s)) (slice_index_or (drives_after s j) (drive_number s) None) (serves.stand.each (drive_number s)))
      (subst (λ drive. IsContainedAt now (directory_at kept.mounted drive) (drive_at s) job j) serves.is.drive
      (subst (IsServiceContained now kept.mounted (drive_at s) job j) serves.there contained));
}

pub next_stopped : {E : Type 0} (disks now : Disks) (kept : Kept) (s : Situation) (j : ℕ) (result : Result Progress E)
    → ((before : Drive) (job : Job) (k : ℕ) → Suits before job → IsServing disks kept.mounted before job k kept.service → k < turns_of before job
    → OnErr result (IsServiceContained now kept.mounted before job k kept.service))
    → (has_work kept.service ≡ false → result ≡ Ok Done)
    → Serves (images_of disks) kept s j → j < call_turns s → OnErr result (StopsWithin now s j)
next_stopped {E} disks now kept s j result err idle serves turn = by_job (job_of s) refl
  where
    by_job : (job : Option Job) → job_of s ≡ job → OnErr result (StopsWithin now s j)
    by_job None is = subst (λ told. OnErr told (StopsWithin now s j)) (sym (idle (idle_work (images_of disks) kept s j is serves))) tt
    by_job (Some job) is = on_err_weaker result (stopped_within disks now kept s j job is serves)
        (err (drive_at s) job j (its_suits (images_of disks) kept s j job is serves) (serving_told disks kept s j job is serves)
        (subst (λ turns. j < turns) (job_turns s job is) turn))

-- whether turns are left
abbrev told_by : Bool → Progress
told_by test = if test then Again else Done

one_turn : (j : ℕ) → nat_lt (suc j) 1 ≡ false
one_turn j = grind (arith, nat_tests)

pub next_progress : {E : Type 0} (disks : Disks) (kept : Kept) (s : Situation) (j : ℕ) (result : Result Progress E)
    → ((before : Drive) (job : Job) (k : ℕ) → IsServing disks kept.mounted before job k kept.service → IfOk result (λ told. told ≡ progress_after (suc k) (turns_of before job)))
    → (has_work kept.service ≡ false → result ≡ Ok Done)
    → Serves (images_of disks) kept s j → IfOk result (λ told. told ≡ progress_after (suc j) (call_turns s))
next_progress {E} disks kept s j result progress idle serves = by_job (job_of s) refl
  where
    by_job : (job : Option Job) → job_of s ≡ job → IfOk result (λ told. told ≡ progress_after (suc j) (call_turns s))
    by_job None is =
        subst (λ answer. IfOk answer (λ told. told ≡ progress_after (suc j) (call_turns s))) (sym (idle (idle_work (images_of disks) kept s j is serves)))
        (subst (λ turns. Done ≡ progress_after (suc j) turns) (sym (idle_turns s is)) (sym (ap told_by (one_turn j))))
    by_job (Some job) is =
        subst (λ turns. IfOk result (λ told. told ≡ progress_after (suc j) turns)) (sym (job_turns s job is))
        (progress (drive_at s) job j (serving_told disks kept s j job is serves))
