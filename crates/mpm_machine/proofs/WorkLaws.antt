-- What the disk's work is in a step, where it failed, and what those who ended give back.
use Rattle.std.proofs.Common.{◌≡◌, ◌∙◌, ℕ, ◌<◌, Bool, true, false, not, ◌&&◌, List, Option, Some, None, is_some, option_map, IfSome, refl, sym, ap, subst, arith}
use Rattle.std.proofs.lemmas.Bool.{false≢true}
use Rattle.mpm_base.specs.Calls.{Taken}
use Rattle.mpm_file_functions.specs.declared.functions.FileFunction.{FileFunction}
use Rattle.mpm_refusals.specs.declared.caller.Caller.{Caller}
use Rattle.mpm_bdos.specs.Starting.{IsCallBy, HasBegunService}
use Rattle.std.proofs.lemmas.Option.{none-some, same_Some}
use Rattle.mpm_port.specs.Disks.{Disks}
use Rattle.mpm_ready.specs.Order.{first_of}
use Rattle.mpm_service.specs.Disk.{DiskService, answer_by, turn_answer, served_process}
use Rattle.mpm_service.specs.declared.service.Served.{Served}
use Rattle.mpm_service.specs.declared.service.Turn.{Turn}
use Rattle.mpm_service.specs.declared.service.Turn.TheVariants.{Idle, Passing, Work, Starts}
use Rattle.mpm_mount.specs.Directories.{Directory}
use Rattle.mpm_refusals.specs.Filing.{Filing, Situation}
use Rattle.mpm_bdos.specs.Jobs.{call_turns}
use Rattle.mpm_bdos.specs.Serving.{Kept, InService, Serves}
use Rattle.mpm_directories.specs.Places.{directory_at}
use Rattle.mpm_base.proofs.Options.{none_there}
use Rattle.mpm_procs.specs.Table.{Table, call_of}
use Rattle.mpm_kernel.specs.Kernel.{Kernel}
use Rattle.mpm_bdos.specs.Turns.{FitsDrives, KeepsImages, StopsWithin, TurnKeeps, drive_served, has_work, drive_and_kind, images_of, without_work}
use Rattle.mpm_bdos.specs.Asking.{HasCallTurns, StandForSome}
use Rattle.mpm_bdos.proofs.ServedLaws.{none_before}
use Rattle.mpm_system.specs.declared.system.System.{System}
use Rattle.mpm_system.specs.Owing.{nobody_owes}
use Rattle.mpm_machine.specs.Files.{FilesInService, Between, Within, turns_ended, StandsServed, StandsForFiles, StandsWorkedBy, StandsWorked}
use Rattle.mpm_machine.specs.Holding.{IsOwnCall, OwnsService, HoldsKept}
use Rattle.mpm_machine.specs.DiskStep.{owed_then, all_paid}
use Rattle.mpm_machine.specs.Failing.{Working, is_work, working_turn, working_turn_of, works_in_turn, HaveImagesOf, FailsWithin}
use Rattle.mpm_machine.proofs.FailingLaws.{turn_fails}
use Rattle.mpm_machine.proofs.TurnLaws.{none_works}

-- whether a call is in service, as it is asked
nobody_by : (served : Option Served) (result : Bool) → is_some (option_map (λ (call : Served). call.p) served) ≡ not result → result ≡ true → served ≡ None
nobody_by None result e is = refl
nobody_by (Some call) result e is = absurd (false≢true (sym (e ∙ ap not is)))

pub nobody_served : (service : DiskService) (found : Option ℕ) (result : Bool) → found ≡ served_process service → is_some found ≡ not result → result ≡ true → service.served ≡ None
unfolding served_process
nobody_served service found result is e none = nobody_by service.served result (ap is_some (sym is) ∙ e) none

somebody_by : (served : Option Served) (result : Bool) → is_some (option_map (λ (call : Served). call.p) served) ≡ not result → result ≡ false → is_some served ≡ true
somebody_by None result e is = absurd (false≢true (e ∙ ap not is))
somebody_by (Some call) result e is = refl

pub somebody_served : (service : DiskService) (found : Option ℕ) (result : Bool) → found ≡ served_process service → is_some found ≡ not result → result ≡ false
    → is_some service.served ≡ true
unfolding served_process
somebody_served service found result is e some = somebody_by service.served result (ap is_some (sym is) ∙ e) some

some_by : (served : Option Served) (result : Bool) → is_some (option_map (λ (call : Served). call.p) served) ≡ result → is_some served ≡ result
some_by None result e = e
some_by (Some call) result e = e

pub served_by_some : (service : DiskService) (found : Option ℕ) (result : Bool) → found ≡ served_process service → result ≡ is_some found → result ≡ true → is_some service.served ≡ true
unfolding served_process
served_by_some service found result is e some = some_by service.served result (ap is_some (sym is) ∙ sym e) ∙ some

pub unserved_by_some : (service : DiskService) (found : Option ℕ) (result : Bool) → found ≡ served_process service → result ≡ is_some found → result ≡ false → service.served ≡ None
unfolding served_process
unserved_by_some service found result is e none = none_there service.served (some_by service.served result (ap is_some (sym is) ∙ sym e) ∙ none)

pub not_both : (served : Option Served) → served ≡ None → is_some served ≡ true → ⊥
not_both served none some = false≢true (sym (ap is_some none) ∙ some)

-- what is owed then

pub paid_for : (system : System) (owed : List Bool) → system.kernel.disk.served ≡ None → owed ≡ nobody_owes → record system { owed = owed } ≡ all_paid system
unfolding all_paid
paid_for system owed none is =
    ap (λ (o : List Bool). record system { owed = o }) is ∙ sym (ap (λ (o : Option Served). record system { owed = owed_then o system.owed }) none)

still_owed : (served : Option Served) (owed : List Bool) → is_some served ≡ true → owed ≡ owed_then served owed
still_owed None owed some = absurd (false≢true some)
still_owed (Some call) owed some = refl

pub unpaid : (system : System) → is_some system.kernel.disk.served ≡ true → system ≡ all_paid system
unfolding all_paid
unpaid system some = ap (λ (o : List Bool). record system { owed = o }) (still_owed system.kernel.disk.served system.owed some)

-- whether it has work, as it is asked

pub works_here : (disk : DiskService) (answer turn : Turn) (b : Bool) → answer ≡ turn_answer disk → answer ≡ turn → is_work turn ≡ b → is_work (turn_answer disk) ≡ b
works_here disk answer turn b is at so = ap is_work (sym is) ∙ ap is_work at ∙ so

idle_answer : (answer : Turn) → ((p : ℕ) (last : Bool) → answer ≡ Work p last → ⊥) → is_work answer ≡ false
idle_answer Idle never = refl
idle_answer Passing never = refl
idle_answer (Starts p) never = refl
idle_answer (Work p last) never = absurd (never p last refl)

pub no_work_here : (disk : DiskService) (answer : Turn) → answer ≡ turn_answer disk → ((p : ℕ) (last : Bool) → answer ≡ Work p last → ⊥)
    → is_work (turn_answer disk) ≡ false
no_work_here disk answer is never = ap is_work (sym is) ∙ idle_answer answer never

-- where a drive failed in it

pub its_working : (call : Served) (turn : Turn) (s : Situation) → is_work turn ≡ true → working_turn (Some call) turn s ≡ Some (record { call = s; ended = turns_ended call s; most = 1 })
its_working call Idle s some = absurd (false≢true some)
its_working call Passing s some = absurd (false≢true some)
its_working call (Starts p) s some = absurd (false≢true some)
its_working call (Work p last) s some = refl

failed_by : (turn_steps : ℕ) (served : Option Served) (first : Option ℕ) (disks now : Disks) (old : Kept) (new : List (Option Directory)) (s : Situation)
    → is_work (answer_by turn_steps served first) ≡ true → StandsServed served old disks (Within s)
    → ((j : ℕ) → Serves (images_of disks) old s j → j < call_turns s → StopsWithin now s j)
    → KeepsImages (drive_served old.service) old.mounted disks now
    → ((number : ℕ) → option_map drive_and_kind (directory_at new number) ≡ option_map drive_and_kind (directory_at old.mounted number))
    → HaveImagesOf (FailsWithin (working_turn served (answer_by turn_steps served first) s)) now new
failed_by turn_steps None first disks now old new s some stands stops images labels = absurd stands
failed_by turn_steps (Some call) first disks now old new s some stands stops images labels =
    let below : stands.turns < call_turns s = omega (arith, stands.left, stands.some) in
    let ended : stands.turns ≡ turns_ended call s = omega (arith, stands.left) in
    subst (λ (w : Option Working). HaveImagesOf (FailsWithin w) now new) (sym (its_working call (answer_by turn_steps (Some call) first) s some))
    (subst (λ (n : ℕ). HaveImagesOf (FailsWithin (Some (record { call = s; ended = n; most = 1 }))) now new) ended
    (turn_fails disks now old new s stands.turns stands.serves below (stops stands.turns stands.serves below) images labels))

never_between : (turn_steps : ℕ) (served : Option Served) (first : Option ℕ) (disks : Disks) (old : Kept) (filing : Filing) → is_work (answer_by turn_steps served first) ≡ true
    → StandsServed served old disks (Between filing) → ⊥
never_between turn_steps None first disks old filing some stands = none_works first turn_steps some
never_between turn_steps (Some call) first disks old filing some stands = stands

pub turn_failed : (disks now : Disks) (system : System) (old : Kept) (new : List (Option Directory)) (files : FilesInService) → is_work (turn_answer system.kernel.disk) ≡ true
    → StandsForFiles system.kernel.disk old disks files
    → ((s : Situation) (j : ℕ) → Serves (images_of disks) old s j → j < call_turns s → StopsWithin now s j)
    → KeepsImages (drive_served old.service) old.mounted disks now
    → ((number : ℕ) → option_map drive_and_kind (directory_at new number) ≡ option_map drive_and_kind (directory_at old.mounted number))
    → HaveImagesOf (FailsWithin (working_turn_of system files)) now new
unfolding turn_answer
turn_failed disks now system old new (Between filing) some stands stops images labels =
    absurd (never_between system.kernel.disk.turn_steps system.kernel.disk.served (first_of system.kernel.disk.waiting) disks old filing some stands.stands)
turn_failed disks now system old new (Within s) some stands stops images labels =
    failed_by system.kernel.disk.turn_steps system.kernel.disk.served (first_of system.kernel.disk.waiting) disks now old new s some stands.stands (stops s) images labels

-- it works in a turn exactly where its step has work

works_by : (turn_steps : ℕ) (served : Option Served) (first : Option ℕ) → is_work (answer_by turn_steps served first) ≡ true → is_some served ≡ true
works_by turn_steps None first some = absurd (none_works first turn_steps some)
works_by turn_steps (Some call) first some = refl

pub has_served : (disk : DiskService) → is_work (turn_answer disk) ≡ true → is_some disk.served ≡ true
unfolding turn_answer
has_served disk some = works_by disk.turn_steps disk.served (first_of disk.waiting) some

pub works_in : (system : System) → is_work (turn_answer system.kernel.disk) ≡ true → works_in_turn system ≡ true
works_in system some = ap (λ b. b && is_work (turn_answer system.kernel.disk)) (has_served system.kernel.disk some) ∙ some

-- what holds of drives does so as a turn's work is done

same_entered : (caller : Caller) (function : FileFunction) (call : Taken) (one other : InService) → without_work other ≡ without_work one → IsCallBy caller function call one
    → IsCallBy caller function call other
same_entered caller function call one other same is = record {
  caller_is = ap (λ (s : InService). s.caller) same ∙ is.caller_is;
  function_is = ap (λ (s : InService). s.function) same ∙ is.function_is;
  call_is = ap (λ (s : InService). s.call) same ∙ is.call_is;
}

still_entered : (caller : Caller) (function : FileFunction) (call : Taken) (one other : Option InService) → option_map without_work other ≡ option_map without_work one
    → HasBegunService caller function call one → HasBegunService caller function call other
still_entered caller function call None other same is = absurd is
still_entered caller function call (Some one) None same is = absurd (none-some (without_work one) same)
still_entered caller function call (Some one) (Some other) same is = same_entered caller function call one other (same_Some (without_work other) (without_work one) same) is

own_still : (served : Option Served) (procs : Table) (old new : Option InService) → option_map without_work new ≡ option_map without_work old
    → IfSome served (λ (call : Served). IsOwnCall procs call.p old) → IfSome served (λ (call : Served). IsOwnCall procs call.p new)
own_still None procs old new is own = tt
own_still (Some call) procs old new is own = record {
  function = own.function;
  its = own.its;
  caller = own.caller;
  multi = own.multi;
  entered = still_entered own.caller own.function (call_of procs call.p) old new is own.entered;
}

pub holds_worked : {D : Type 0} (disks : D → Disks) (kernel : Kernel) (old new : Kept) (before behind : D)
    → HoldsKept disks kernel old before → TurnKeeps old new → has_work new.service ≡ has_work old.service
    → FitsDrives disks new.mounted new.cached behind → HoldsKept disks kernel new behind
holds_worked disks kernel old new before behind holds keeps still fits = record {
  filed = holds.filed;
  own = own_still kernel.disk.served kernel.dispatcher.procs old.service new.service keeps.service holds.own;
  begun = holds.begun;
  fits = fits;
  workless = λ none. still ∙ holds.workless (λ number. none_before (directory_at old.mounted number) (directory_at new.mounted number) (keeps.labels number) (none number));
}

-- where the disk serves a call, what is kept has it in service
begun_there : (caller : Caller) (function : FileFunction) (call : Taken) (service : Option InService) → HasBegunService caller function call service → is_some service ≡ true
begun_there caller function call None begun = absurd begun
begun_there caller function call (Some service) begun = refl

owned_by : (served : Option Served) (procs : Table) (service : Option InService) → is_some served ≡ true → IfSome served (λ (call : Served). IsOwnCall procs call.p service) → is_some service ≡ true
owned_by None procs service some own = absurd (false≢true some)
owned_by (Some call) procs service some own = begun_there own.caller own.function (call_of procs call.p) service own.entered

pub is_held : (kernel : Kernel) (service : Option InService) → is_some kernel.disk.served ≡ true → OwnsService kernel service → is_some service ≡ true
is_held kernel service some own = owned_by kernel.disk.served kernel.dispatcher.procs service some own

-- where the call in service has work, the files for which all stands have a turn of it left
turn_served : (served : Option Served) (kept : Kept) (disks : Disks) (files : FilesInService) → StandsServed served kept disks files → has_work kept.service ≡ true
    → HasCallTurns (images_of disks) kept 1
turn_served None kept disks (Between filing) stands works = absurd (false≢true (sym (ap has_work stands.idle) ∙ works))
turn_served None kept disks (Within s) stands works = absurd stands
turn_served (Some call) kept disks (Between filing) stands works = absurd stands
turn_served (Some call) kept disks (Within s) stands works = record { situation = s; ended = stands.turns; serves = stands.serves; left = omega (arith, stands.left, stands.some) }

pub turn_to_do : (disk : DiskService) (kept : Kept) (disks : Disks) (files : FilesInService) → StandsForFiles disk kept disks files → has_work kept.service ≡ true
    → HasCallTurns (images_of disks) kept 1
turn_to_do disk kept disks files stands works = turn_served disk.served kept disks files stands.stands works

-- where no call is in service, the images stand for the drives that the files have
stand_unserved : (turn_steps : ℕ) (served : Option Served) (kept : Kept) (disks : Disks) (files : FilesInService) → served ≡ None → StandsWorkedBy turn_steps served kept disks files
    → StandForSome (images_of disks) kept.mounted
stand_unserved turn_steps None kept disks (Between filing) none stands = record { drives = filing.drives; stand = stands.stand }
stand_unserved turn_steps None kept disks (Within s) none stands = absurd stands
stand_unserved turn_steps (Some call) kept disks files none stands = absurd (none-some call (sym none))

none_while : (served : Option Served) (function : Option FileFunction) → (is_some served ≡ true → function ≡ None) → is_some function ≡ true → served ≡ None
none_while None function apart file = refl
none_while (Some call) function apart file = absurd (false≢true (sym (ap is_some (apart refl)) ∙ file))

pub stand_at_once : (disk : DiskService) (function : Option FileFunction) (kept : Kept) (disks : Disks) (files : FilesInService) → (is_some disk.served ≡ true → function ≡ None)
    → StandsWorked disk kept disks files → is_some function ≡ true → StandForSome (images_of disks) kept.mounted
stand_at_once disk function kept disks files apart stands file =
    stand_unserved disk.turn_steps disk.served kept disks files (none_while disk.served function apart file) stands.stands
