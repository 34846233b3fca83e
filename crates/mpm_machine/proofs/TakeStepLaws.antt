-- A step as the code makes it: the disk's work, what it begins with, and the rest of it. Which of them works on a drive, and for which
-- drives the images stand where one stopped.
use Rattle.std.proofs.Common.{◌≡◌, ◌∙◌, ℕ, ◌+◌, ◌*◌, ◌<◌, ◌≤◌, ◌==◌, ◌&&◌, ◌||◌, Bool, true, false, List, Option, Some, None, Result, Ok, Err, refl, sym, ap, subst, arith}
use Rattle.std.specs.Prelude.{is_some, is_none}
use Rattle.std.proofs.lemmas.Bool.{and_parts, false≢true, or_parts, true_from_ne_false}
use Rattle.std.proofs.lemmas.Bool.Decides.{nat_tests}
use Rattle.std.proofs.lemmas.Option.{none-some}
use Rattle.mpm_port.specs.Disks.{Disks}
use Rattle.mpm_port.specs.Causes.{Rose, HasCause}
use Rattle.mpm_procs.specs.Table.{call_of}
use Rattle.mpm_service.specs.Disk.{turn_answer, HasBegun}
use Rattle.mpm_service.specs.declared.service.Served.{Served}
use Rattle.mpm_mount.specs.Directories.{Directory}
use Rattle.mpm_kernel.specs.Kernel.{Kernel}
use Rattle.mpm_file_functions.specs.declared.functions.FileFunction.{FileFunction}
use Rattle.mpm_file_functions.specs.Functions.{function_of}
use Rattle.mpm_bdos.specs.Serving.{Kept}
use Rattle.mpm_directories.specs.Places.{directory_at}
use Rattle.mpm_bdos.specs.Turns.{FitsDrives, has_work}
use Rattle.mpm_system.specs.declared.system.System.{System}
use Rattle.mpm_system.specs.Whole.{IsWhole, silent}
use Rattle.mpm_system.specs.FileCalling.{call_made}
use Rattle.mpm_machine.specs.declared.machine.StepFault.{StepFault}
use Rattle.mpm_machine.specs.declared.machine.StepFault.TheVariants.{DiskFault, WriteFault}
use Rattle.mpm_machine.specs.Faults.{FailureCounts, HasFailed, HaveCause, itself, OnDiskFault, OnWriteFault}
use Rattle.mpm_machine.specs.Files.{FilesInService, Between, Within, StandsServed, StandsForFiles, StandsWorked, drives_in}
use Rattle.mpm_machine.specs.FileCalls.{file_caller}
use Rattle.mpm_machine.specs.Stepping.{is_instruction, nothing_told, told_first, before_disk, files_begun, telling_then, files_rest, rest_of}
use Rattle.mpm_machine.specs.Holding.{AreFiled, OwnsService, HoldsKept}
use Rattle.mpm_machine.specs.Mounting.{HasNoDrive}
use Rattle.mpm_machine.specs.Failing.{HaveImages, HaveImagesOf, FailsWithin, StopsOn, is_work, turns_done, working_turn, working_in, working_turn_of, works_at_once, works_in_turn, does_work}
use Rattle.mpm_machine.specs.After.{EndKeeps}
use Rattle.mpm_machine.proofs.TurnLaws.{worked_on}
use Rattle.mpm_machine.proofs.WorkLaws.{its_working}
use Rattle.mpm_machine.proofs.BehindLaws.{rest_images}
use Rattle.mpm_machine.proofs.BegunLaws.{made_serves, begun_as_serves}
use Rattle.mpm_machine.proofs.FilesStepLaws.{stepped_drives}

-- a step that works on no drive does in no part of it
pub does_nothing : (system : System) → does_work system ≡ false → (works_at_once (file_caller system) system ≡ false) × (works_in_turn system ≡ false)
unfolding does_work
does_nothing system none = or_parts (works_at_once (file_caller system) system) (works_in_turn system) none

-- nor does one in which no call is in service end a turn
pub no_turn : (system : System) → system.kernel.disk.served ≡ None → works_in_turn system ≡ false
no_turn system none = ap (λ (call : Option Served). is_some call && is_work (turn_answer system.kernel.disk)) none

-- and one that fails does

pub no_sink : DiskFault ≡ WriteFault → ⊥
no_sink is = absurd (cc)

-- what it begins with fails only where the disk has no work

-- where turns have steps no call is done on a drive as it is made

directly_alone : (found : Option FileFunction) (b : Bool) → b ≡ false → (is_some found && (is_none found || b)) ≡ false
directly_alone None b none = refl
directly_alone (Some function) b none = none

steps_some : (n : ℕ) → 0 < n → (n == 0) ≡ false
steps_some n some = grind (arith, nat_tests, some)

waits_by : (caller : Option ℕ) (system : System) → 0 < system.kernel.disk.turn_steps → works_at_once caller system ≡ false
waits_by None system some = refl
waits_by (Some p) system some =
    let made = call_made p system in
    directly_alone (function_of (call_of made.kernel.dispatcher.procs p).function) (made.kernel.disk.turn_steps == 0)
    (ap (λ (n : ℕ). n == 0) (made_serves p system).steps ∙ steps_some system.kernel.disk.turn_steps some)

pub not_at_once : (system : System) → 0 < system.kernel.disk.turn_steps → works_at_once (file_caller system) system ≡ false
not_at_once system some = waits_by (file_caller system) system some

-- where a call is in service, its turn is the one that is done

pub in_service : (system : System) → works_in_turn system ≡ true → is_some system.kernel.disk.served ≡ true
in_service system works = (and_parts (is_some system.kernel.disk.served) _ works).0

done_by : (served : Option Served) (system : System) (kept : Kept) (disks : Disks) (files : FilesInService) → system.kernel.disk.served ≡ served → is_some served ≡ true
    → is_work (turn_answer system.kernel.disk) ≡ true → StandsServed served kept disks files → turns_done (working_in system files) ≡ 1
unfolding working_in
done_by None system kept disks files is some works stands = absurd (false≢true some)
done_by (Some call) system kept disks (Between filing) is some works stands = absurd stands
done_by (Some call) system kept disks (Within s) is some works stands =
    ap (λ (served : Option Served). turns_done (working_turn served (turn_answer system.kernel.disk) s)) is
    ∙ ap turns_done (its_working call (turn_answer system.kernel.disk) s works)

pub turn_done : (system : System) (kept : Kept) (disks : Disks) (files : FilesInService) → StandsForFiles system.kernel.disk kept disks files → works_in_turn system ≡ true
    → turns_done (working_in system files) ≡ 1
turn_done system kept disks files stands works =
    let both = and_parts (is_some system.kernel.disk.served) _ works in done_by system.kernel.disk.served system kept disks files refl both.0 both.1 stands.stands

-- how often a step calls its drive, by how often its parts do

calls_by : (b : Bool) (before middle behind done : ℕ) → (b ≡ true → done ≡ 1) → middle ≤ before + 20 → (b ≡ false → middle ≡ before) → (b ≡ true → behind ≡ middle)
    → behind ≤ middle + 20 * done → behind ≤ before + 20 * done
calls_by true before middle behind done one few same apart bound = omega (arith, one refl, few, apart refl)
calls_by false before middle behind done one few same apart bound = omega (arith, same refl, bound)

pub step_calls : (system : System) (kept : Kept) (disks : Disks) (files : FilesInService) (before middle behind : ℕ) → StandsForFiles system.kernel.disk kept disks files
    → middle ≤ before + 20 → (works_in_turn system ≡ false → middle ≡ before) → (is_some system.kernel.disk.served ≡ true → behind ≡ middle)
    → behind ≤ middle + 20 * turns_done (working_in system files) → behind ≤ before + 20 * turns_done (working_in system files)
step_calls system kept disks files before middle behind stands few same apart bound =
    calls_by (works_in_turn system) before middle behind (turns_done (working_in system files)) (turn_done system kept disks files stands) few same
    (λ works. apart (in_service system works)) bound

-- a turn that failed
pub turn_calls : (system : System) (kept : Kept) (disks : Disks) (files : FilesInService) (before behind : ℕ) → StandsForFiles system.kernel.disk kept disks files
    → (works_in_turn system ≡ false → ⊥) → behind ≤ before + 20 → behind ≤ before + 20 * turns_done (working_in system files)
turn_calls system kept disks files before behind stands never few =
    let one = turn_done system kept disks files stands (true_from_ne_false (works_in_turn system) never) in omega (arith, one, few)

pub turn_fails_so : (system : System) (disks : Disks) (files : FilesInService) (mounted : List (Option Directory))
    → HaveImagesOf (FailsWithin (working_turn_of system files)) disks mounted → HaveImagesOf (FailsWithin (working_in system files)) disks mounted
unfolding working_in
turn_fails_so system disks (Within s) mounted have = have
turn_fails_so system disks (Between filing) mounted have = absurd (none-some have.are.found have.are.is)

-- for which drives the images stand where the sink failed: in what the step begins with, or after it

pub write_stops : (instruction : Bool) (files : FilesInService) (old middle : System) (disks : Disks) (mounted : List (Option Directory))
    → instruction ≡ is_instruction (file_caller old) old → middle ≡ (before_disk old files).system
    → HaveImages disks mounted
    (drives_in (rest_of instruction (telling_then nothing_told middle (files_begun old files)) (silent middle)).system.kernel.disk.served (files_rest middle (files_begun old files)))
    → HaveImagesOf (StopsOn WriteFault old files) disks mounted
write_stops instruction files old middle disks mounted i is have =
    record { drives = _; are = stepped_drives instruction files old middle i is; images = have }

before_is : (old : System) (files : FilesInService) → IsWhole old → AreFiled old.kernel
    → ((before_disk old files).system.kernel.disk.served ≡ old.kernel.disk.served) × ((before_disk old files).system.kernel.disk.turn_steps ≡ old.kernel.disk.turn_steps)
unfolding before_disk
before_is old files w filed = let same = begun_as_serves (told_first old files) old w filed in (same.served, same.steps)

begun_images : (old : System) (kept : Kept) (disks : Disks) (files : FilesInService) → IsWhole old → AreFiled old.kernel
    → StandsWorked old.kernel.disk kept disks (files_begun old files) → HaveImagesOf (StopsOn WriteFault old files) disks kept.mounted
begun_images old kept disks files w filed stands =
    let middle = (before_disk old files).system in
    let same = before_is old files w filed in
    let i = is_instruction (file_caller old) old in
    write_stops i files old middle disks kept.mounted refl refl
    (rest_images i middle kept kept disks (files_begun old files) refl
    (worked_on old.kernel.disk middle.kernel.disk kept disks (files_begun old files) same.0 same.1 stands))

pub begun_stops_on : (fault : StepFault) (old : System) (kept : Kept) (disks : Disks) (files : FilesInService) → IsWhole old → AreFiled old.kernel
    → OnDiskFault fault (HaveImagesOf (FailsWithin (working_in old files)) disks kept.mounted)
    → OnWriteFault fault (StandsWorked old.kernel.disk kept disks (files_begun old files)) → HaveImagesOf (StopsOn fault old files) disks kept.mounted
begun_stops_on DiskFault old kept disks files w filed images stands = images
begun_stops_on WriteFault old kept disks files w filed images stands = begun_images old kept disks files w filed stands

-- which device failed

pub work_cause : {A B E : Type 0} (x : E) (sink before behind : ℕ) → HasCause {A = A} before behind (Err x)
    → HaveCause {A = B} itself (record { sink = sink; drives = before }) (record { sink = sink; drives = behind }) (Err DiskFault)
work_cause x sink before behind cause = record { stays = tt; failed = (cause.failed, refl) }

pub begun_cause : {A B E : Type 0} (x : A) (r : Result B StepFault) (one two before middle behind : ℕ) → HasCause {E = E} before middle (Ok x)
    → HaveCause itself (record { sink = one; drives = middle }) (record { sink = two; drives = behind }) r
    → HaveCause itself (record { sink = one; drives = before }) (record { sink = two; drives = behind }) r
begun_cause x r one two before middle behind first cause =
    subst (λ (d : ℕ). HaveCause itself (record { sink = one; drives = d }) (record { sink = two; drives = behind }) r) first.stays cause

pub begun_fails : {A B C E : Type 0} (x : A) (fault : StepFault) (one two before middle behind : ℕ) → HasCause {E = E} before middle (Ok x)
    → HaveCause {A = B} itself (record { sink = one; drives = middle }) (record { sink = two; drives = behind }) (Err fault)
    → HaveCause {A = C} itself (record { sink = one; drives = before }) (record { sink = two; drives = behind }) (Err fault)
begun_fails x fault one two before middle behind first cause = record {
  stays = tt;
  failed = subst (λ (d : ℕ). HasFailed fault (record { sink = one; drives = d }) (record { sink = two; drives = behind })) first.stays cause.failed;
}

pub ended_fails : {A B X E : Type 0} (x : A) (e : E) (one two three before behind : ℕ)
    → HaveCause itself (record { sink = one; drives = before }) (record { sink = two; drives = behind }) (Ok x) → HasCause {A = X} two three (Err e)
    → HaveCause {A = B} itself (record { sink = one; drives = before }) (record { sink = three; drives = behind }) (Err WriteFault)
ended_fails x e one two three before behind first cause = record {
  stays = tt;
  failed = (subst (λ (n : ℕ). Rose n three) (ap (λ (c : FailureCounts). c.sink) first.stays) cause.failed, ap (λ (c : FailureCounts). c.drives) first.stays);
}

pub ended_stays : {A B X E : Type 0} (x : A) (y : B) (z : X) (one two three before behind : ℕ)
    → HaveCause itself (record { sink = one; drives = before }) (record { sink = two; drives = behind }) (Ok x) → HasCause {E = E} two three (Ok z)
    → HaveCause itself (record { sink = one; drives = before }) (record { sink = three; drives = behind }) (Ok y)
ended_stays x y z one two three before behind first cause = record {
  stays = ap (λ (n : ℕ). let c : FailureCounts = record { sink = n; drives = behind } in c) cause.stays ∙ first.stays;
  failed = tt;
}

-- what holds of drives after the rest of a step

pub holds_ended : {D : Type 0} (disks : D → Disks) (old new : Kernel) (kept kept' : Kept) (drives : D) → HoldsKept disks old kept drives
    → AreFiled new → OwnsService new kept'.service → HasBegun new.disk → EndKeeps kept kept'
    → (HasNoDrive kept.mounted → has_work kept.service ≡ false → has_work kept'.service ≡ false) → HoldsKept disks new kept' drives
holds_ended disks old new kept kept' drives holds filed own begun keeps workless =
    let mounted = ap (λ (k : Kept). k.mounted) keeps in
    let cached = ap (λ (k : Kept). k.cached) keeps in
    record {
      filed = filed;
      own = own;
      begun = begun;
      fits = subst (λ (m : List (Option Directory)). FitsDrives disks m kept'.cached drives) (sym mounted)
          (subst (λ cache. FitsDrives disks kept.mounted cache drives) (sym cached) holds.fits);
      workless = λ none.
          let bare : HasNoDrive kept.mounted = λ number. ap (λ (m : List (Option Directory)). directory_at m number) (sym mounted) ∙ none number in
          workless bare (holds.workless bare);
    }
