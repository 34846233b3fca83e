-- That a turn is left of the work of the call in service, by its situation; and what is mounted where one is.
use Rattle.std.proofs.Common.{◌≡◌, ◌≤◌, ◌<◌, ℕ, zero, suc, ◌+◌, Bool, true, false, List, [], ◌∷◌, Option, Some, None, IfSome, refl, sym, subst, ◌∙◌, arith, length}
use Rattle.std.specs.Prelude.{is_some}
use Rattle.std.proofs.lemmas.Bool.{true≢false}
use Rattle.mpm_port.specs.Disks.{Disks, size_of}
use Rattle.mpm_blocks.specs.Geometries.{geometry_of}
use Rattle.mpm_cache.specs.declared.cache.SectorPlace.{SectorPlace}
use Rattle.mpm_base.specs.Calls.{Taken}
use Rattle.mpm_clock.specs.declared.moment.Moment.{Moment}
use Rattle.mpm_procs.specs.declared.process.Process.{Process}
use Rattle.mpm_file_functions.specs.declared.functions.FileFunction.{FileFunction}
use Rattle.mpm_file_functions.specs.Functions.{function_of}
use Rattle.mpm_mount.specs.Drives.{Drive}
use Rattle.mpm_mount.specs.Directories.{Directory}
use Rattle.mpm_jobs.specs.declared.jobs.Job.{Job}
use Rattle.mpm_files.specs.declared.work.Work.{Work}
use Rattle.mpm_files.specs.Plans.{turns_of}
use Rattle.mpm_files.specs.Turning.{Suits}
use Rattle.mpm_refusals.specs.Filing.{Situation}
use Rattle.mpm_refusals.specs.Subjects.{drive_at}
use Rattle.mpm_directories.specs.Places.{directory_at, AreInPlace}
use Rattle.mpm_bdos.specs.Jobs.{call_turns, job_of}
use Rattle.mpm_bdos.specs.Serving.{InService, Kept, Serves}
use Rattle.mpm_bdos.specs.Turns.{FitsDrives, IsWorkingOn, IsServing, has_work, images_of}
use Rattle.mpm_bdos.specs.Starting.{entering_at}
use Rattle.mpm_bdos.specs.WholeCalls.{StartsService}
use Rattle.mpm_bdos.specs.Asking.{HasTurnAt, HasTurnIfWork, HasTurnHeld, HasCallTurns, MayDoTurns, MayTurnPlace, StandForSome}
use Rattle.mpm_bdos.proofs.Fitting.{its_number, is_there}
use Rattle.mpm_bdos.proofs.NextTurns.{idle_work, its_suits, job_turns, serving_told}

-- where a turn is left on the drive of a number, it has a place
within : (disks : Disks) (mounted : List (Option Directory)) (number : ℕ) (work : Work) → HasTurnAt disks (directory_at mounted number) work → number < length mounted
within disks [] number work left = absurd left
within disks (d ∷ ds) zero work left = omega arith
within disks (d ∷ ds) (suc number) work left = let below = within disks ds number work left in omega (arith, below)

pub place_within : (disks : Disks) (mounted now : List (Option Directory)) (place number : ℕ) (work : Work) → mounted ≡ now → place ≡ number → HasTurnAt disks (directory_at now number) work
    → place < length mounted
place_within disks mounted now place number work same here left =
    within disks mounted place work (subst (λ directory. HasTurnAt disks directory work) (λ i. directory_at (sym same i) (sym here i)) left)

-- its place may be turned
pub may_turn_at : {D : Type 0} (disks : D → Disks) (mounted : List (Option Directory)) (place : ℕ) (directory : Option Directory) (cached : List (SectorPlace × List ℕ)) (work : Work) (drives : D)
    → AreInPlace mounted → directory_at mounted place ≡ directory → FitsDrives disks mounted cached drives → HasTurnAt (disks drives) directory work → MayTurnPlace (disks drives) directory cached work
may_turn_at disks mounted place None cached work drives placed is fits left = absurd left
may_turn_at disks mounted place (Some d) cached work drives placed is fits left =
    let its = its_number mounted place d placed is in
    record {
      size = subst (λ n. size_of (disks drives) n ≡ Some (geometry_of d.kind).bytes) (sym its)
          (subst (λ found. IfSome found (λ (one : Directory). size_of (disks drives) place ≡ Some (geometry_of one.kind).bytes)) is (fits.sizes place));
      coherent = fits.coherent;
      apart = fits.apart.alone d.drive (is_there mounted place d placed is);
      left = left;
    }

-- a job in service, whose turns aren't all over
left_of : (disks : Disks) (directory : Option Directory) (before : Drive) (job : Job) (j : ℕ) (work : Option Work) → Suits before job → j < turns_of before job
    → IsWorkingOn disks directory before job j work → IfSome work (HasTurnAt disks directory)
left_of disks directory before job j None suits left works = tt
left_of disks None before job j (Some work) suits left works = absurd works
left_of disks (Some d) before job j (Some work) suits left works = record { before = before; job = job; ended = j; suits = suits; service = works; left = left }

left_by : (disks : Disks) (mounted : List (Option Directory)) (before : Drive) (job : Job) (j : ℕ) (service : Option InService) → Suits before job → j < turns_of before job
    → IsServing disks mounted before job j service → IfSome service (HasTurnIfWork disks mounted)
left_by disks mounted before job j None suits left serves = tt
left_by disks mounted before job j (Some service) suits left serves = left_of disks (directory_at mounted service.drive) before job j service.work suits left serves

-- a call without work
none_of : (disks : Disks) (directory : Option Directory) (work : Option Work) → is_some work ≡ false → IfSome work (HasTurnAt disks directory)
none_of disks directory None none = tt
none_of disks directory (Some work) none = absurd (true≢false none)

none_by : (disks : Disks) (mounted : List (Option Directory)) (service : Option InService) → has_work service ≡ false → IfSome service (HasTurnIfWork disks mounted)
none_by disks mounted None none = tt
none_by disks mounted (Some service) none = none_of disks (directory_at mounted service.drive) service.work none

serves_turn : (disks : Disks) (kept : Kept) (s : Situation) (j : ℕ) → Serves (images_of disks) kept s j → j < call_turns s → IfSome kept.service (HasTurnIfWork disks kept.mounted)
serves_turn disks kept s j serves turn = by_job (job_of s) refl
  where
    by_job : (job : Option Job) → job_of s ≡ job → IfSome kept.service (HasTurnIfWork disks kept.mounted)
    by_job None is = none_by disks kept.mounted kept.service (idle_work (images_of disks) kept s j is serves)
    by_job (Some job) is =
        left_by disks kept.mounted (drive_at s) job j kept.service (its_suits (images_of disks) kept s j job is serves) (subst (λ turns. j < turns) (job_turns s job is) turn)
        (serving_told disks kept s j job is serves)

held : (disks : Disks) (mounted : List (Option Directory)) (service : Option InService) → is_some service ≡ true → IfSome service (HasTurnIfWork disks mounted) → HasTurnHeld disks mounted service
held disks mounted None served left = absurd (true≢false (sym served))
held disks mounted (Some service) served left = left

-- one more may be done of the call in service
pub turn_left : {D : Type 0} (disks : D → Disks) (kept : Kept) (drives : D) → MayDoTurns disks 1 kept drives → HasTurnHeld (disks drives) kept.mounted kept.service
turn_left disks kept drives may = held (disks drives) kept.mounted kept.service may.served (by_work (has_work kept.service) refl)
  where
    by_work : (works : Bool) → has_work kept.service ≡ works → IfSome kept.service (HasTurnIfWork (disks drives) kept.mounted)
    by_work false none = none_by (disks drives) kept.mounted kept.service none
    by_work true is = let left = may.left is in serves_turn (disks drives) kept left.situation left.ended left.serves (omega (arith, left.left))

-- after some turns, one of those that were left
pub left_after : {D : Type 0} (disks : D → Disks) (old now : Kept) (drives later : D) (turn turns : ℕ) → MayDoTurns disks turns old drives → turn < turns → has_work now.service ≡ has_work old.service
    → ((s : Situation) (ended : ℕ) → Serves (images_of (disks drives)) old s ended → ended + turn ≤ call_turns s → Serves (images_of (disks later)) now s (ended + turn))
    → has_work now.service ≡ true → HasCallTurns (images_of (disks later)) now 1
left_after disks old now drives later turn turns may below still serves is =
    let left = may.left (sym still ∙ is) in
    record {
      situation = left.situation;
      ended = left.ended + turn;
      serves = serves left.situation left.ended left.serves (omega (arith, left.left, below));
      left = omega (arith, left.left, below);
    }

-- a call on files that has entered service upon some drives has all its turns left
pub begun_turns : (images : ℕ → List ℕ) (old new : Kept) (p : ℕ) (process : Process) (call : Taken) (now : Moment) (turns : ℕ) → is_some (function_of call.function) ≡ true
    → StandForSome images old.mounted → StartsService old new p process call now turns → HasCallTurns images new turns
begun_turns images old new p process call now turns file stand starts = by_function (function_of call.function) refl file
  where
    by_function : (function : Option FileFunction) → function_of call.function ≡ function → is_some function ≡ true → HasCallTurns images new turns
    by_function None is some = absurd (true≢false (sym some))
    by_function (Some function) is some =
        let all = starts.turns images stand.drives function is stand.stand in
        record {
          situation = entering_at old p process call now stand.drives function;
          ended = 0;
          serves = starts.serves images stand.drives function is stand.stand;
          left = omega (arith, all);
        }
