-- What the images stand for where a step stopped.
use Rattle.std.proofs.Common.{◌≡◌, ◌≢◌, ◌<◌, ◌≤◌, ◌+◌, ◌*◌, ◌∙◌, ℕ, zero, suc, true, List, [], ◌∷◌, Option, Some, None, Result, inl, inr, refl, sym, ap, subst, arith, get_or-set_other}
use Rattle.std.specs.Prelude.{◌⊎◌, OnErr, is_some, option_map, unwrap_or, slice_index_or, slice_set}
use Rattle.std.proofs.lemmas.Bool.{false≢true, cases_eq}
use Rattle.std.proofs.lemmas.Result.{on_err_weaker}
use Rattle.std.proofs.lemmas.Option.{same_Some}
use Rattle.mpm_base.specs.Calls.{Taken}
use Rattle.mpm_port.specs.Disks.{Disks}
use Rattle.mpm_clock.specs.declared.moment.Moment.{Moment}
use Rattle.mpm_clock.specs.Times.{moment_of}
use Rattle.mpm_clock.specs.PackedDecimal.{stamp}
use Rattle.mpm_procs.specs.Table.{process_in, call_of}
use Rattle.mpm_procs.specs.declared.process.Process.{Process}
use Rattle.mpm_mount.specs.Drives.{Drive}
use Rattle.mpm_mount.specs.Directories.{Directory, Stands}
use Rattle.mpm_jobs.specs.declared.jobs.Job.{Job}
use Rattle.mpm_files.specs.Units.{stages}
use Rattle.mpm_files.specs.Plans.{unit_at}
use Rattle.mpm_files.specs.Serving.{units_done}
use Rattle.mpm_files.specs.Containment.{IsContained}
use Rattle.mpm_files.proofs.Contained.{turn_contained}
use Rattle.mpm_files.proofs.StandingLaws.{among_all}
use Rattle.mpm_file_functions.specs.declared.functions.FileFunction.{FileFunction}
use Rattle.mpm_file_functions.specs.Functions.{function_of}
use Rattle.mpm_refusals.specs.Filing.{Filing, Situation}
use Rattle.mpm_refusals.specs.Subjects.{drive_number, blank_drive, drive_at}
use Rattle.mpm_bdos.specs.Jobs.{call_turns, job_of}
use Rattle.mpm_bdos.specs.Outcomes.{drives_after}
use Rattle.mpm_bdos.specs.Serving.{Kept, Serves, StandEach}
use Rattle.mpm_directories.specs.Places.{directory_at}
use Rattle.mpm_refusals.specs.Asking.{StandsWhere}
use Rattle.mpm_bdos.specs.Starting.{caller_of, entering as entering_here}
use Rattle.mpm_bdos.specs.Turns.{KeepsImages, StopsWithin, drive_served, drive_and_kind, images_of, has_directory}
use Rattle.mpm_bdos.specs.AtOnce.{FailsSince, FailsIn, ChangesAlone}
use Rattle.mpm_bdos.proofs.ServedLaws.{job_mounted, kinds_within, set_within}
use Rattle.mpm_bdos.proofs.Fitting.{there_label}
use Rattle.mpm_bdos.proofs.NextTurns.{stands_still, same_images, told_is}
use Rattle.mpm_render.specs.Shown.{KeptLines}
use Rattle.mpm_mount.proofs.LookedUp.{kind_of}
use Rattle.mpm_system.specs.declared.system.System.{System}
use Rattle.mpm_machine.specs.declared.machine.Machine.{Machine}
use Rattle.mpm_machine.specs.declared.machine.StepFault.{StepFault}
use Rattle.mpm_machine.specs.Files.{FilesInService, StandsBetween, StandsForFiles}
use Rattle.mpm_machine.specs.State.{State, StandsWithDrives}
use Rattle.mpm_machine.specs.FileCalls.{looked_at, situation_of}
use Rattle.mpm_machine.specs.Failing.{working_at_once, working_if, turns_done, HaveImages, HaveImagesOf, IsWithinTurns, FailsWithin, StopsOn, StopsWithImages}
use Rattle.mpm_machine.proofs.FilingLaws.{named_by, situation_is}

-- the call's drive within a turn: what the call doesn't name is as before it, and records are seen as some number of its units leaves them,
-- no fewer than had ended
pub within_contained : (call : Situation) (ended most : ℕ) (files : Drive) (within : IsWithinTurns call ended most files) → IsContained (drive_at call) within.job ended files
within_contained call ended most files within =
    among_all (IsContained (drive_at call) within.job ended) (units_done (drive_at call) within.job within.turn)
    (stages (unit_at (drive_at call) within.job within.turn) (units_done (drive_at call) within.job within.turn)) files
    (turn_contained (drive_at call) within.job ended within.turn within.since) within.among

-- a place, and each other one

set_here : {X : Type 0} (xs : List (Option X)) (n : ℕ) (x : X) → is_some (slice_index_or xs n None) ≡ true → slice_index_or (slice_set xs n (Some x)) n None ≡ Some x
set_here [] n x there = absurd (false≢true there)
set_here (y ∷ ys) zero x there = refl
set_here (y ∷ ys) (suc n) x there = set_here ys n x there

label_there : (number : ℕ) (image : List ℕ) (directory : Option Directory) (drive : Option Drive) → is_some drive ≡ true → StandsWhere number image directory drive
    → option_map drive_and_kind directory ≡ Some (number, (unwrap_or drive blank_drive).kind)
label_there number image directory None there stands = absurd (false≢true there)
label_there number image None (Some drive) there stands = absurd stands
label_there number image (Some d) (Some drive) there stands =
    ap (λ n. Some (n, d.kind)) stands.number_is ∙ ap (λ k. Some (number, k)) (sym (kind_of image d drive stands.stands))

-- the image of one drive stands for other files, with its directory, and each other image is as it was
record Changes (disks now : Disks) (old new : List (Option Directory)) (drives : List (Option Drive)) (number : ℕ) (d : Directory) (files : Drive) : Type 0 where
  pub label : option_map drive_and_kind (directory_at old number) ≡ Some (drive_and_kind d)
  pub here : d.drive ≡ number
  pub stands : Stands (images_of now number) d files
  pub there : is_some (slice_index_or drives number None) ≡ true
  pub images : (other : ℕ) → other ≢ number → has_directory old other ≡ true → now.image other ≡ disks.image other
  pub labels : (other : ℕ) → option_map drive_and_kind (directory_at new other) ≡ option_map drive_and_kind (directory_at old other)
  pub stand : StandEach (images_of disks) old drives

has_directory_there : (old : List (Option Directory)) (number : ℕ) (d : Directory) → option_map drive_and_kind (directory_at old number) ≡ Some (drive_and_kind d) → is_some (directory_at old number) ≡ true
has_directory_there old number d label = sym (there_label (directory_at old number)) ∙ ap is_some label

changed_label : (disks now : Disks) (old new : List (Option Directory)) (drives : List (Option Drive)) (number : ℕ) (d : Directory) (files : Drive) → Changes disks now old new drives number d files
    → (other : ℕ) → (other ≡ number) ⊎ (other ≢ number) → option_map drive_and_kind (directory_at (slice_set old number (Some d)) other) ≡ option_map drive_and_kind (directory_at new other)
changed_label disks now old new drives number d files c other (inl same) =
    subst (λ n. option_map drive_and_kind (directory_at (slice_set old number (Some d)) n) ≡ option_map drive_and_kind (directory_at new n)) (sym same)
    (ap (option_map drive_and_kind) (set_here old number d (has_directory_there old number d c.label)) ∙ sym (c.labels number ∙ c.label))
changed_label disks now old new drives number d files c other (inr apart) =
    ap (option_map drive_and_kind) (get_or-set_other old number other (Some d) None apart) ∙ sym (c.labels other)

changed_stands : (disks now : Disks) (old new : List (Option Directory)) (drives : List (Option Drive)) (number : ℕ) (d : Directory) (files : Drive) → Changes disks now old new drives number d files
    → (other : ℕ) → (other ≡ number) ⊎ (other ≢ number)
    → StandsWhere other (images_of now other) (directory_at (slice_set old number (Some d)) other) (slice_index_or (slice_set drives number (Some files)) other None)
changed_stands disks now old new drives number d files c other (inl same) =
    subst (λ n. StandsWhere n (images_of now n) (directory_at (slice_set old number (Some d)) n) (slice_index_or (slice_set drives number (Some files)) n None)) (sym same)
    (subst (λ place. StandsWhere number (images_of now number) place (slice_index_or (slice_set drives number (Some files)) number None))
    (sym (set_here old number d (has_directory_there old number d c.label)))
    (subst (λ place. StandsWhere number (images_of now number) (Some d) place) (sym (set_here drives number files c.there))
    (record { number_is = c.here; stands = c.stands })))
changed_stands disks now old new drives number d files c other (inr apart) =
    subst (λ place. StandsWhere other (images_of now other) place (slice_index_or (slice_set drives number (Some files)) other None))
    (sym (get_or-set_other old number other (Some d) None apart))
    (subst (λ place. StandsWhere other (images_of now other) (directory_at old other) place) (sym (get_or-set_other drives number other (Some files) None apart))
    (stands_still other (images_of disks other) (images_of now other) (directory_at old other) (slice_index_or drives other None)
    (λ some. same_images disks now other (c.images other apart some)) (c.stand.each other)))

have_changed : (disks now : Disks) (old new : List (Option Directory)) (drives : List (Option Drive)) (number : ℕ) (d : Directory) (files : Drive) → Changes disks now old new drives number d files
    → HaveImages now new (slice_set drives number (Some files))
have_changed disks now old new drives number d files c = record {
  directories = slice_set old number (Some d);
  labels = λ other. changed_label disks now old new drives number d files c other (cases_eq other number);
  stand = record { each = λ other. changed_stands disks now old new drives number d files c other (cases_eq other number) };
}

-- where a device failed in a call, its drive is within a turn

-- drives among which the call's is of its kind, and each other one is as the call found it
pub record AreBehind (call : Situation) (drives : List (Option Drive)) : Type 0 where
  pub there : is_some (slice_index_or drives (drive_number call) None) ≡ true
  pub kind : (unwrap_or (slice_index_or drives (drive_number call) None) blank_drive).kind ≡ (drive_at call).kind
  pub set : (drive : Option Drive) → slice_set drives (drive_number call) drive ≡ slice_set call.filing.drives (drive_number call) drive

pub behind_nothing : (call : Situation) (job : Job) → job_of call ≡ Some job → AreBehind call call.filing.drives
unfolding drive_at
behind_nothing call job is = record { there = job_mounted call job is; kind = refl; set = λ drive. refl }

same_kind_there : (one other : Option Drive) → option_map (λ (d : Drive). d.kind) one ≡ option_map (λ (d : Drive). d.kind) other → is_some other ≡ true
    → (is_some one ≡ true) × ((unwrap_or one blank_drive).kind ≡ (unwrap_or other blank_drive).kind)
same_kind_there None None same some = absurd (false≢true some)
same_kind_there None (Some d) same some = absurd (cc)
same_kind_there (Some d) None same some = absurd (false≢true some)
same_kind_there (Some d) (Some e) same some = (refl, cc)

pub behind_turns : (call : Situation) (j : ℕ) (job : Job) → job_of call ≡ Some job → AreBehind call (drives_after call j)
unfolding drive_at
behind_turns call j job is =
    let number = drive_number call in
    let both = same_kind_there (slice_index_or (drives_after call j) number None) (slice_index_or call.filing.drives number None) (kinds_within call j number) (job_mounted call job is) in
    record { there = both.0; kind = both.1; set = set_within call j }

call_label : (images : ℕ → List ℕ) (mounted : List (Option Directory)) (call : Situation) (drives : List (Option Drive)) → AreBehind call drives
    → StandEach images mounted drives → option_map drive_and_kind (directory_at mounted (drive_number call)) ≡ Some (drive_number call, (drive_at call).kind)
call_label images mounted call drives behind stand =
    let number = drive_number call in
    label_there number (images number) (directory_at mounted number) (slice_index_or drives number None) behind.there (stand.each number)
    ∙ ap (λ k. Some (number, k)) behind.kind

fails_stand : (disks now : Disks) (old new : List (Option Directory)) (call : Situation) (drives : List (Option Drive)) (ended most : ℕ) → AreBehind call drives
    → (fails : FailsSince now call ended) → fails.turn < ended + most → KeepsImages (Some (drive_number call)) old disks now
    → ((number : ℕ) → option_map drive_and_kind (directory_at new number) ≡ option_map drive_and_kind (directory_at old number)) → StandEach (images_of disks) old drives
    → HaveImagesOf (FailsWithin (Some (record { call = call; ended = ended; most = most }))) now new
fails_stand disks now old new call drives ended most behind fails before images labels stand =
    let stops = fails.stops in
    let found = stops.contained.within in
    let number = drive_number call in
    let d = found.directory in
    let within : IsWithinTurns call ended most found.files =
    record { job = stops.job; its = stops.its; turn = fails.turn; since = fails.since; before = before; among = found.among } in
    let kind : (drive_at call).kind ≡ d.kind = sym (within_contained call ended most found.files within).keeps.kind ∙ kind_of found.stands.image d found.files found.stands.stands in
    let told : now.image number ≡ Some found.stands.image = ap (now.image) (sym found.here) ∙ found.stands.told in
    let changes : Changes disks now old new drives number d found.files = record {
      label = call_label (images_of disks) old call drives behind stand ∙ ap (λ n. Some (n, (drive_at call).kind)) (sym found.here) ∙ ap (λ k. Some (d.drive, k)) kind;
      here = found.here;
      stands = subst (λ image. Stands image d found.files) (told_is now number found.stands.image told) found.stands.stands;
      there = behind.there;
      images = λ other apart some. images other (λ same. apart (sym (same_Some number other same))) some;
      labels = labels;
      stand = stand;
    } in
    record {
      drives = slice_set drives number (Some found.files);
      are = record { found = record { call = call; ended = ended; most = most }; is = refl; files = found.files; within = within; drives_are = behind.set (Some found.files) };
      images = have_changed disks now old new drives number d found.files changes;
    }

-- one that is done at once
at_once_fails : (disks now : Disks) (old new : List (Option Directory)) (call : Situation) → FailsIn now call → ChangesAlone (drive_number call) old new disks now
    → ((number : ℕ) → option_map drive_and_kind (directory_at new number) ≡ option_map drive_and_kind (directory_at old number)) → StandEach (images_of disks) old call.filing.drives
    → HaveImagesOf (FailsWithin (Some (working_at_once call))) now new
at_once_fails disks now old new call fails alone labels stand =
    fails_stand disks now old new call call.filing.drives 0 (call_turns call) (behind_nothing call fails.stops.job fails.stops.its) fails (omega (arith, fails.its)) alone.images labels stand

-- and one in service, in its turns from one on
pub turns_fail : (disks now : Disks) (old : Kept) (new : List (Option Directory)) (call : Situation) (ended most : ℕ) → Serves (images_of disks) old call ended
    → (fails : FailsSince now call ended) → fails.turn < ended + most
    → KeepsImages (drive_served old.service) old.mounted disks now
    → ((number : ℕ) → option_map drive_and_kind (directory_at new number) ≡ option_map drive_and_kind (directory_at old.mounted number))
    → HaveImagesOf (FailsWithin (Some (record { call = call; ended = ended; most = most }))) now new
turns_fail disks now old new call ended most serves fails before images labels =
    let on : drive_served old.service ≡ Some (drive_number call) = ap drive_served serves.there ∙ ap (λ n. Some n) serves.is.drive in
    fails_stand disks now old.mounted new call (drives_after call ended) ended most (behind_turns call ended fails.stops.job fails.stops.its) fails before
    (subst (λ drive. KeepsImages drive old.mounted disks now) on images) labels serves.stand

pub turn_fails : (disks now : Disks) (old : Kept) (new : List (Option Directory)) (call : Situation) (j : ℕ) → Serves (images_of disks) old call j → j < call_turns call
    → StopsWithin now call j → KeepsImages (drive_served old.service) old.mounted disks now
    → ((number : ℕ) → option_map drive_and_kind (directory_at new number) ≡ option_map drive_and_kind (directory_at old.mounted number))
    → HaveImagesOf (FailsWithin (Some (record { call = call; ended = j; most = 1 }))) now new
turn_fails disks now old new call j serves below stops images labels =
    let next : j < j + 1 = omega arith in
    turns_fail disks now old new call j 1 serves (record { turn = j; since = omega arith; its = below; stops = stops }) next images labels

-- a call that a process keeps

found_is : (filing : Filing) (function : FileFunction) (p : ℕ) (system : System) → function_of (call_of system.kernel.dispatcher.procs p).function ≡ Some function
    → working_if true filing p system ≡ Some (working_at_once (situation_of filing function p system))
found_is filing function p system is = ap (option_map (λ f. working_at_once (situation_of filing f p system))) is

pub disk_fails : {A E : Type 0} (disks now : Disks) (filing : Filing) (p : ℕ) (system : System) (kept new : Kept) (caller process : Process) (call : Taken) (moment : Moment) (result : Result A E)
    → caller ≡ looked_at process → process ≡ process_in system.kernel.dispatcher.procs p → call ≡ call_of system.kernel.dispatcher.procs p → moment ≡ moment_of system.kernel.clock
    → is_some (function_of (call_of system.kernel.dispatcher.procs p).function) ≡ true → StandsBetween kept disks filing
    → ((before : List (Option Drive)) (function : FileFunction) → function_of call.function ≡ Some function → StandEach (images_of disks) kept.mounted before
    → OnErr result (FailsIn now (entering_here kept before (caller_of p caller) function call (stamp moment))))
    → ((before : List (Option Drive)) (function : FileFunction) → function_of call.function ≡ Some function
    → ChangesAlone (drive_number (entering_here kept before (caller_of p caller) function call (stamp moment))) kept.mounted new.mounted disks now)
    → ((number : ℕ) → option_map drive_and_kind (directory_at new.mounted number) ≡ option_map drive_and_kind (directory_at kept.mounted number))
    → OnErr result (HaveImagesOf (FailsWithin (working_if true filing p system)) now new.mounted)
disk_fails disks now filing p system kept new caller process call moment result looks lives calls at some stands fails alone labels =
    let named = named_by (function_of (call_of system.kernel.dispatcher.procs p).function) some in
    let function = named.0 in
    let s = entering_here kept filing.drives (caller_of p caller) function call (stamp moment) in
    let its : function_of call.function ≡ Some function = ap (λ (c : Taken). function_of c.function) calls ∙ named.1 in
    let is : s ≡ situation_of filing function p system = situation_is filing p system kept function caller process call moment stands.filing_is looks lives calls at in
    let found : working_if true filing p system ≡ Some (working_at_once s) = found_is filing function p system named.1 ∙ ap (λ c. Some (working_at_once c)) (sym is) in
    on_err_weaker result (λ (failed : FailsIn now s). subst (λ c. HaveImagesOf (FailsWithin c) now new.mounted) (sym found)
    (at_once_fails disks now kept.mounted new.mounted s failed (alone filing.drives function its) labels stands.stand))
    (fails filing.drives function its stands.stand)

-- how often it calls its drive

pub disk_calls : (disks : Disks) (filing : Filing) (p : ℕ) (system : System) (kept : Kept) (caller process : Process) (call : Taken) (moment : Moment) (before behind : ℕ)
    → caller ≡ looked_at process → process ≡ process_in system.kernel.dispatcher.procs p → call ≡ call_of system.kernel.dispatcher.procs p → moment ≡ moment_of system.kernel.clock
    → is_some (function_of (call_of system.kernel.dispatcher.procs p).function) ≡ true → StandsBetween kept disks filing
    → ((drives : List (Option Drive)) (function : FileFunction) → function_of call.function ≡ Some function → StandEach (images_of disks) kept.mounted drives
    → behind ≤ before + 20 * call_turns (entering_here kept drives (caller_of p caller) function call (stamp moment)))
    → behind ≤ before + 20 * turns_done (working_if true filing p system)
disk_calls disks filing p system kept caller process call moment before behind looks lives calls at some stands bound =
    let named = named_by (function_of (call_of system.kernel.dispatcher.procs p).function) some in
    let function = named.0 in
    let s = entering_here kept filing.drives (caller_of p caller) function call (stamp moment) in
    let its : function_of call.function ≡ Some function = ap (λ (c : Taken). function_of c.function) calls ∙ named.1 in
    let is : s ≡ situation_of filing function p system = situation_is filing p system kept function caller process call moment stands.filing_is looks lives calls at in
    let found : working_if true filing p system ≡ Some (working_at_once s) = found_is filing function p system named.1 ∙ ap (λ c. Some (working_at_once c)) (sym is) in
    subst (λ c. behind ≤ before + 20 * turns_done c) (sym found) (bound filing.drives function its stands.stand)

-- the step of a state

pub step_leaves : (old : Machine) (disks now : Disks) (mounted : List (Option Directory)) (fault : StepFault) (kept : KeptLines) (written : List ℕ) (s : State) (first : List ℕ)
    → ((files : FilesInService) → StandsForFiles old.system.kernel.disk old.bdos disks files → HaveImagesOf (StopsOn fault old.system files) now mounted)
    → StandsWithDrives old kept written disks s first → StopsWithImages fault now mounted s
step_leaves old disks now mounted fault kept written s first leaves stands =
    subst (λ system. HaveImagesOf (StopsOn fault system s.files) now mounted) stands.system.parts (leaves s.files stands.files)
