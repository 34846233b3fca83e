-- A file call in a step: what becomes of its caller, what it comes to, and what those leave who end in the step.
use Rattle.std.proofs.Common.{◌≡◌, ◌∙◌, ℕ, suc, ◌+◌, ◌-◌, ◌<◌, ◌==◌, ◌&&◌, Bool, true, false, List, [], ◌∷◌, Option, Some, None, IsSome, IfSome, Result, Ok, Err, IfOk, if◌then◌else◌, refl, ap, sym, subst, arith, eqb-true}
use Rattle.std.specs.Prelude.{is_none, find, option_map}
use Rattle.std.specs.List.{AllByRecursion, range_with_len}
use Rattle.mpm_base.specs.Calls.{Taken, Answer, answering}
use Rattle.mpm_port.specs.Disks.{Disks}
use Rattle.mpm_procs.specs.Table.{lives, process_in, call_of}
use Rattle.mpm_procs.specs.declared.process.Process.{Process}
use Rattle.mpm_clock.specs.declared.moment.Moment.{Moment}
use Rattle.mpm_clock.specs.Times.{moment_of}
use Rattle.mpm_clock.specs.PackedDecimal.{stamp}
use Rattle.mpm_kernel.specs.Called.{low_parameter}
use Rattle.mpm_mount.specs.Drives.{Drive}
use Rattle.mpm_file_functions.specs.declared.functions.FileFunction.{FileFunction}
use Rattle.mpm_file_functions.specs.declared.functions.FileFunction.TheVariants.{ResetDisks}
use Rattle.mpm_file_functions.specs.declared.functions.DirectFunction.{DirectFunction}
use Rattle.mpm_file_functions.specs.declared.functions.DirectFunction.TheVariants.{SelectDisk, LoginVector, ReadOnlyVector, DiskParameters, SetRandomRecord}
use Rattle.mpm_file_functions.specs.declared.refusals.Refusal.{Refusal}
use Rattle.mpm_file_functions.specs.declared.refusals.Extended.{Extended}
use Rattle.mpm_file_functions.specs.Functions.{numbers, function_of, direct_numbers, direct_of}
use Rattle.mpm_refusals.specs.Filing.{Filing, Situation}
use Rattle.mpm_bdos.specs.Finishing.{ComesTo}
use Rattle.mpm_bdos.specs.Jobs.{turned, call_turns}
use Rattle.mpm_directories.specs.Direct.{CallerChange, Stays, Selects, Resets, Directly, parameters_told, direct_by, is_protected, where_mounted, selected}
use Rattle.mpm_bdos.specs.Outcomes.{caller_by, file_call, outcome_by as served_by}
use Rattle.mpm_refusals.specs.Refusals.{refusal_of}
use Rattle.mpm_bdos.specs.Direct.{direct, kind_of}
use Rattle.mpm_bdos.specs.Serving.{Kept, InService, StandEach, Serves, filing_of}
use Rattle.mpm_directories.specs.Places.{directory_at}
use Rattle.mpm_bdos.specs.Starting.{HasBegunService}
use Rattle.mpm_bdos.specs.Starting.{caller_of, entering as entering_here}
use Rattle.mpm_bdos.specs.Turns.{KeepsUnsynced, drive_and_kind, images_of}
use Rattle.mpm_base.specs.declared.kind.Kind.{Kind}
use Rattle.mpm_mount.specs.Directories.{Directory}
use Rattle.mpm_system.specs.declared.system.System.{System}
use Rattle.mpm_system.specs.FileCalling.{change_of}
use Rattle.mpm_machine.specs.Files.{StandsBetween, owes, all_left}
use Rattle.mpm_machine.specs.Mounting.{HasNoDrive}
use Rattle.mpm_machine.specs.Filed.{IsOutcome, left_if}
use Rattle.mpm_machine.specs.FileCalls.{looked_at, entering, situation_of, outcome_by, outcome_in, told_by, told_of}
use Rattle.mpm_machine.proofs.LeftLaws.{left_each, all_left_each}

-- a row of a table of numbers
row_by : {X : Type 0} (P : ℕ → X → Type 0) (row : ℕ × X) (rest : Option (ℕ × X)) (number : ℕ) (x : X) (b : Bool) → (row.0 == number) ≡ b → P row.0 row.1
    → (option_map (λ r. r.1) rest ≡ Some x → P number x) → option_map (λ r. r.1) (if b then Some row else rest) ≡ Some x → P number x
row_by P row rest number x true same here others is =
    let value : row.1 ≡ x = cc in
    subst (P number) value (subst (λ n. P n row.1) (eqb-true row.0 number same) here)
row_by P row rest number x false same here others is = others is

row_found : {X : Type 0} (P : ℕ → X → Type 0) (rows : List (ℕ × X)) (number : ℕ) (x : X) → AllByRecursion (λ row. P row.0 row.1) rows
    → option_map (λ row. row.1) (find (λ row. row.0 == number) rows) ≡ Some x → P number x
row_found P [] number x all is = absurd (cc)
row_found P (row ∷ rows) number x all is =
    row_by P row (find (λ r. r.0 == number) rows) number x (row.0 == number) refl all.0 (row_found P rows number x all.1) is

-- the change of a call's caller is that of its number and its extended error

abbrev ChangesBy : CallerChange → ℕ → Type 0
ChangesBy change number = (word : ℕ) (error : Option Extended)
    → change ≡ (if number == 13 then Resets else (if number == 14 && is_none error then Selects word else Stays))

file_rows : AllByRecursion (λ (row : ℕ × FileFunction). ChangesBy (caller_by row.1) row.0) numbers
file_rows =
    (λ w e. refl, (λ w e. refl, (λ w e. refl, (λ w e. refl, (λ w e. refl, (λ w e. refl, (λ w e. refl, (λ w e. refl, (λ w e. refl, (λ w e. refl, (λ w e. refl, (λ w e. refl, (λ w e. refl, (λ w e. refl, (λ w e. refl, (λ w e. refl, (λ w e. refl, (λ w e. refl, (λ w e. refl, (λ w e. refl, (λ w e. refl, (λ w e. refl, (λ w e. refl, (λ w e. refl, (λ w e. refl, (λ w e. refl, (λ w e. refl, (λ w e. refl, tt))))))))))))))))))))))))))))

file_change : (number : ℕ) (function : FileFunction) → function_of number ≡ Some function → ChangesBy (caller_by function) number
unfolding function_of
file_change number function is = row_found (λ n f. ChangesBy (caller_by f) n) numbers number function file_rows is

served_change : (s : Situation) (refusal : Option Refusal) (call : Taken) → ChangesBy (caller_by s.function) call.function
    → (served_by s (turned s (call_turns s)) refusal).caller ≡ change_of call (served_by s (turned s (call_turns s)) refusal).extended
unfolding change_of
served_change s None call changes = changes (low_parameter call) None
served_change s (Some refusal) call changes = changes (low_parameter call) (served_by s (turned s (call_turns s)) (Some refusal)).extended

call_change : (s : Situation) (call : Taken) → ChangesBy (caller_by s.function) call.function → (file_call s).caller ≡ change_of call (file_call s).extended
unfolding file_call
call_change s call changes = served_change s (refusal_of s) call changes

-- of a call that no disk serves

abbrev IsNumbered : ℕ → DirectFunction → Type 0
IsNumbered number SelectDisk = number ≡ 14
IsNumbered number LoginVector = number ≡ 24
IsNumbered number ReadOnlyVector = number ≡ 29
IsNumbered number DiskParameters = number ≡ 31
IsNumbered number SetRandomRecord = number ≡ 36

direct_rows : AllByRecursion (λ (row : ℕ × DirectFunction). IsNumbered row.0 row.1) direct_numbers
direct_rows = (refl, (refl, (refl, (refl, (refl, tt)))))

numbered : (number : ℕ) (function : DirectFunction) → direct_of number ≡ Some function → IsNumbered number function
unfolding direct_of
numbered number function is = row_found IsNumbered direct_numbers number function direct_rows is

plain_change : (call : Taken) (error : Option Extended) (number : ℕ) → call.function ≡ number → (number == 13) ≡ false → (number == 14) ≡ false → Stays ≡ change_of call error
unfolding change_of
plain_change call error number is one other =
    sym (ap (λ n. if n == 13 then Resets else (if n == 14 && is_none error then Selects (low_parameter call) else Stays)) is
    ∙ ap (λ b. if b then Resets else (if number == 14 && is_none error then Selects (low_parameter call) else Stays)) one
    ∙ ap (λ b. if b && is_none error then Selects (low_parameter call) else Stays) other)

selected_change : (call : Taken) (kinds : ℕ → Option Kind) (kind : Option Kind) → call.function ≡ 14 → kinds (low_parameter call) ≡ kind
    → (selected kinds call).caller ≡ change_of call (selected kinds call).extended
unfolding change_of
selected_change call kinds None is e =
    let n = low_parameter call in
    ap (λ (k : Option Kind). (where_mounted n k (λ kind. record { caller = Selects n; answer = answering 0; extended = None })).caller) e
    ∙ sym (ap (λ (k : Option Kind). change_of call (where_mounted n k (λ kind. record { caller = Selects n; answer = answering 0; extended = None })).extended) e
    ∙ ap (λ f. if f == 13 then Resets else (if f == 14 && false then Selects n else Stays)) is)
selected_change call kinds (Some kind) is e =
    let n = low_parameter call in
    ap (λ (k : Option Kind). (where_mounted n k (λ kind. record { caller = Selects n; answer = answering 0; extended = None })).caller) e
    ∙ sym (ap (λ (k : Option Kind). change_of call (where_mounted n k (λ kind. record { caller = Selects n; answer = answering 0; extended = None })).extended) e
    ∙ ap (λ f. if f == 13 then Resets else (if f == 14 && true then Selects n else Stays)) is)

parameters_change : (call : Taken) (drive : ℕ) (kind : Option Kind) (kinds : ℕ → Option Kind) (protected : ℕ → Bool) → kinds drive ≡ kind
    → (direct_by kinds protected drive call DiskParameters).caller ≡ Stays
unfolding direct_by
parameters_change call drive None kinds protected e = ap (λ (k : Option Kind). (where_mounted drive k parameters_told).caller) e
parameters_change call drive (Some kind) kinds protected e = ap (λ (k : Option Kind). (where_mounted drive k parameters_told).caller) e

direct_change : (filing : Filing) (drive : ℕ) (call : Taken) (function : DirectFunction) → IsNumbered call.function function
    → (direct filing drive call function).caller ≡ change_of call (direct filing drive call function).extended
unfolding direct direct_by
direct_change filing drive call SelectDisk is = selected_change call (kind_of filing) (kind_of filing (low_parameter call)) is refl
direct_change filing drive call LoginVector is = plain_change call None 24 is refl refl
direct_change filing drive call ReadOnlyVector is = plain_change call None 29 is refl refl
direct_change filing drive call DiskParameters is =
    parameters_change call drive (kind_of filing drive) (kind_of filing) (is_protected filing.protected) refl
    ∙ plain_change call (direct_by (kind_of filing) (is_protected filing.protected) drive call DiskParameters).extended 31 is refl refl
direct_change filing drive call SetRandomRecord is = plain_change call None 36 is refl refl

-- of neither

some_reset : function_of 13 ≡ Some ResetDisks
unfolding function_of
some_reset = refl

some_select : direct_of 14 ≡ Some SelectDisk
unfolding direct_of
some_select = refl

neither_reset : (number : ℕ) (b : Bool) → (number == 13) ≡ b → function_of number ≡ None → b ≡ false
neither_reset number true is none = absurd (never (sym some_reset ∙ ap function_of (sym (eqb-true number 13 is)) ∙ none))
  where
    never : {X : Type 0} {x : X} → Some x ≡ None → ⊥
    never e = cc
neither_reset number false is none = refl

neither_select : (number : ℕ) (b : Bool) → (number == 14) ≡ b → direct_of number ≡ None → b ≡ false
neither_select number true is none = absurd (never (sym some_select ∙ ap direct_of (sym (eqb-true number 14 is)) ∙ none))
  where
    never : {X : Type 0} {x : X} → Some x ≡ None → ⊥
    never e = cc
neither_select number false is none = refl

changed_by : (served : Option FileFunction) (straight : Option DirectFunction) (filing : Filing) (p : ℕ) (system : System)
    → function_of (call_of system.kernel.dispatcher.procs p).function ≡ served → direct_of (call_of system.kernel.dispatcher.procs p).function ≡ straight
    → (outcome_by served straight filing p system).caller ≡ change_of (call_of system.kernel.dispatcher.procs p) (outcome_by served straight filing p system).extended
changed_by (Some function) straight filing p system is other =
    call_change (situation_of filing function p system) (call_of system.kernel.dispatcher.procs p) (file_change (call_of system.kernel.dispatcher.procs p).function function is)
changed_by None (Some function) filing p system none is =
    direct_change filing (process_in system.kernel.dispatcher.procs p).drive (call_of system.kernel.dispatcher.procs p) function
    (numbered (call_of system.kernel.dispatcher.procs p).function function is)
changed_by None None filing p system none other =
    let number = (call_of system.kernel.dispatcher.procs p).function in
    plain_change (call_of system.kernel.dispatcher.procs p) None number refl (neither_reset number (number == 13) refl none) (neither_select number (number == 14) refl other)

pub caller_changed : (filing : Filing) (p : ℕ) (system : System)
    → (outcome_in filing p system).caller ≡ change_of (call_of system.kernel.dispatcher.procs p) (outcome_in filing p system).extended
unfolding outcome_in
caller_changed filing p system =
    let number = (call_of system.kernel.dispatcher.procs p).function in
    changed_by (function_of number) (direct_of number) filing p system refl refl

-- so what is answered is all that its caller sees
pub told_all : (filing : Filing) (p : ℕ) (system : System)
    → told_of (call_of system.kernel.dispatcher.procs p) (outcome_in filing p system).answer (outcome_in filing p system).extended ≡ told_by (outcome_in filing p system)
told_all filing p system =
    let outcome = outcome_in filing p system in
    ap (λ (c : CallerChange). let told : Directly = record { caller = c; answer = outcome.answer; extended = outcome.extended } in told) (sym (caller_changed filing p system))

-- a call that no disk serves: what it answers, and that it leaves files as they are

directly_by : (found : Option DirectFunction) (filing : Filing) (p : ℕ) (system : System) (answer : Answer) (extended : Option Extended)
    → IfSome found (λ function. answer ≡ (direct filing (process_in system.kernel.dispatcher.procs p).drive (call_of system.kernel.dispatcher.procs p) function).answer)
    → IfSome found (λ function. extended ≡ (direct filing (process_in system.kernel.dispatcher.procs p).drive (call_of system.kernel.dispatcher.procs p) function).extended)
    → (found ≡ None → answer ≡ answering 0) → (found ≡ None → extended ≡ None)
    → (answer ≡ (outcome_by None found filing p system).answer) × (extended ≡ (outcome_by None found filing p system).extended)
directly_by None filing p system answer extended a e empty mute = (empty refl, mute refl)
directly_by (Some function) filing p system answer extended a e empty mute = (a, e)

pub directly_answered : (filing : Filing) (p : ℕ) (system : System) (call : Taken) (process : Process) (before answer : Answer) (extended : Option Extended)
    → call ≡ call_of system.kernel.dispatcher.procs p → process ≡ process_in system.kernel.dispatcher.procs p
    → function_of (call_of system.kernel.dispatcher.procs p).function ≡ None → before ≡ answering 0
    → IfSome (direct_of call.function) (λ function. answer ≡ (direct filing process.drive call function).answer)
    → IfSome (direct_of call.function) (λ function. extended ≡ (direct filing process.drive call function).extended)
    → (direct_of call.function ≡ None → answer ≡ before) → (direct_of call.function ≡ None → extended ≡ None)
    → (answer ≡ (outcome_in filing p system).answer) × (extended ≡ (outcome_in filing p system).extended)
unfolding outcome_in
directly_answered filing p system call process before answer extended calls lives none empty a e other unanswered =
    let number = (call_of system.kernel.dispatcher.procs p).function in
    let A : ℕ → Taken → Type 0 = λ drive c. IfSome (direct_of c.function) (λ function. answer ≡ (direct filing drive c function).answer) in
    let E : ℕ → Taken → Type 0 = λ drive c. IfSome (direct_of c.function) (λ function. extended ≡ (direct filing drive c function).extended) in
    let drive : process.drive ≡ (process_in system.kernel.dispatcher.procs p).drive = ap (λ (x : Process). x.drive) lives in
    let answers : A (process_in system.kernel.dispatcher.procs p).drive (call_of system.kernel.dispatcher.procs p) =
    subst (A (process_in system.kernel.dispatcher.procs p).drive) calls (subst (λ d. A d call) drive a) in
    let errs : E (process_in system.kernel.dispatcher.procs p).drive (call_of system.kernel.dispatcher.procs p) =
    subst (E (process_in system.kernel.dispatcher.procs p).drive) calls (subst (λ d. E d call) drive e) in
    let at : direct_of call.function ≡ direct_of number = ap (λ (c : Taken). direct_of c.function) calls in
    subst (λ (served : Option FileFunction). (answer ≡ (outcome_by served (direct_of number) filing p system).answer) × (extended ≡ (outcome_by served (direct_of number) filing p system).extended))
    (sym none) (directly_by (direct_of number) filing p system answer extended answers errs (λ nothing. other (at ∙ nothing) ∙ empty) (λ nothing. unanswered (at ∙ nothing)))

same_filing : (found : Option DirectFunction) (filing : Filing) (p : ℕ) (system : System) → (outcome_by None found filing p system).filing ≡ filing
same_filing None filing p system = refl
same_filing (Some function) filing p system = refl

pub filing_stays : (filing : Filing) (p : ℕ) (system : System) → function_of (call_of system.kernel.dispatcher.procs p).function ≡ None → (outcome_in filing p system).filing ≡ filing
unfolding outcome_in
filing_stays filing p system none =
    let number = (call_of system.kernel.dispatcher.procs p).function in
    ap (λ (served : Option FileFunction). (outcome_by served (direct_of number) filing p system).filing) none ∙ same_filing (direct_of number) filing p system

pub directly_is : (disks : Disks) (filing : Filing) (p : ℕ) (system : System) (kept : Kept) (call : Taken) (process : Process) (before answer : Answer) (extended : Option Extended)
    → call ≡ call_of system.kernel.dispatcher.procs p → process ≡ process_in system.kernel.dispatcher.procs p
    → function_of (call_of system.kernel.dispatcher.procs p).function ≡ None → StandsBetween kept disks filing → before ≡ answering 0
    → ((images : ℕ → List ℕ) (drives : List (Option Drive)) → StandEach images kept.mounted drives
    → IfSome (direct_of call.function) (λ function. answer ≡ (direct (filing_of kept drives) process.drive call function).answer))
    → ((images : ℕ → List ℕ) (drives : List (Option Drive)) → StandEach images kept.mounted drives
    → IfSome (direct_of call.function) (λ function. extended ≡ (direct (filing_of kept drives) process.drive call function).extended))
    → (direct_of call.function ≡ None → answer ≡ before) → (direct_of call.function ≡ None → extended ≡ None)
    → IsOutcome disks (outcome_in filing p system) kept answer extended
directly_is disks filing p system kept call process before answer extended calls lives none stands empty a e other unanswered =
    let A : Filing → Type 0 = λ f. IfSome (direct_of call.function) (λ function. answer ≡ (direct f process.drive call function).answer) in
    let E : Filing → Type 0 = λ f. IfSome (direct_of call.function) (λ function. extended ≡ (direct f process.drive call function).extended) in
    let so = directly_answered filing p system call process before answer extended calls lives none empty
    (subst A stands.filing_is (a (images_of disks) filing.drives stands.stand)) (subst E stands.filing_is (e (images_of disks) filing.drives stands.stand)) other unanswered in
    record { answer_is = so.0; extended_is = so.1; files = subst (StandsBetween kept disks) (sym (filing_stays filing p system none)) stands }

-- a call that the disk serves

comes_to : (disks : Disks) (filing : Filing) (p : ℕ) (system : System) (new : Kept) (s : Situation) (function : FileFunction) (answer : Answer) (extended : Option Extended)
    → s ≡ situation_of filing function p system → function_of (call_of system.kernel.dispatcher.procs p).function ≡ Some function → new.service ≡ None
    → ComesTo (images_of disks) s new answer extended → IsOutcome disks (outcome_in filing p system) new answer extended
unfolding outcome_in
comes_to disks filing p system new s function answer extended is named idle comes =
    let P : Situation → Type 0 = λ t. IsOutcome disks (file_call t) new answer extended in
    let here : P s = record {
      answer_is = comes.answer_is;
      extended_is = comes.extended_is;
      files = record { idle = idle; filing_is = comes.filing_is; stand = comes.stand };
    } in
    subst (λ (served : Option FileFunction). IsOutcome disks (outcome_by served (direct_of (call_of system.kernel.dispatcher.procs p).function) filing p system) new answer extended) (sym named)
    (subst P is here)

pub situation_is : (filing : Filing) (p : ℕ) (system : System) (kept : Kept) (function : FileFunction) (caller process : Process) (call : Taken) (now : Moment)
    → filing_of kept filing.drives ≡ filing → caller ≡ looked_at process → process ≡ process_in system.kernel.dispatcher.procs p
    → call ≡ call_of system.kernel.dispatcher.procs p → now ≡ moment_of system.kernel.clock
    → entering_here kept filing.drives (caller_of p caller) function call (stamp now) ≡ situation_of filing function p system
situation_is filing p system kept function caller process call now filed looks lives calls at =
    ap (λ (f : Filing). let s : Situation = record { filing = f; caller = caller_of p caller; function = function; call = call; moment = stamp now } in s) filed
    ∙ ap (λ (x : Process). let s : Situation = record { filing = filing; caller = caller_of p x; function = function; call = call; moment = stamp now } in s) looks
    ∙ ap (λ (x : Process). entering filing function p x call now) lives
    ∙ ap (λ (c : Taken). entering filing function p (process_in system.kernel.dispatcher.procs p) c now) calls
    ∙ ap (λ (m : Moment). entering filing function p (process_in system.kernel.dispatcher.procs p) (call_of system.kernel.dispatcher.procs p) m) at

pub named_by : (found : Option FileFunction) → IsSome found → (function : FileFunction) × (found ≡ Some function)
named_by None some = absurd (cc)
named_by (Some function) some = (function, refl)

ok_by : {A E : Type 0} (P Q : A → Type 0) (r : Result A E) → ((a : A) → P a → Q a) → IfOk r P → IfOk r Q
ok_by P Q (Ok a) so is = so a is
ok_by P Q (Err e) so is = tt

pub disk_is : {E : Type 0} (disks now : Disks) (filing : Filing) (p : ℕ) (system : System) (kept new : Kept) (caller process : Process) (call : Taken) (moment : Moment)
    (answer : Answer) (result : Result (Option Extended) E)
    → caller ≡ looked_at process → process ≡ process_in system.kernel.dispatcher.procs p → call ≡ call_of system.kernel.dispatcher.procs p → moment ≡ moment_of system.kernel.clock
    → IsSome (function_of (call_of system.kernel.dispatcher.procs p).function) → StandsBetween kept disks filing
    → ((function : FileFunction) → function_of call.function ≡ Some function → new.service ≡ None)
    → ((before : List (Option Drive)) (function : FileFunction) → function_of call.function ≡ Some function → StandEach (images_of disks) kept.mounted before
    → IfOk result (ComesTo (images_of now) (entering_here kept before (caller_of p caller) function call (stamp moment)) new answer))
    → IfOk result (IsOutcome now (outcome_in filing p system) new answer)
disk_is disks now filing p system kept new caller process call moment answer result looks lives calls at some stands idle ok =
    let found = named_by (function_of (call_of system.kernel.dispatcher.procs p).function) some in
    let function = found.0 in
    let its : function_of call.function ≡ Some function = ap (λ (c : Taken). function_of c.function) calls ∙ found.1 in
    let s = entering_here kept filing.drives (caller_of p caller) function call (stamp moment) in
    let is = situation_is filing p system kept function caller process call moment stands.filing_is looks lives calls at in
    ok_by (ComesTo (images_of now) s new answer) (IsOutcome now (outcome_in filing p system) new answer) result
    (λ extended comes. comes_to now filing p system new s function answer extended is found.1 (idle function its) comes)
    (ok filing.drives function its stands.stand)

-- after it no call is in service
pub at_once_idle : (call kept : Taken) {service : Option InService} → call ≡ kept → IsSome (function_of kept.function)
    → ((function : FileFunction) → function_of call.function ≡ Some function → service ≡ None) → service ≡ None
at_once_idle call kept calls some idle =
    let found = named_by (function_of kept.function) some in idle found.0 (ap (λ (c : Taken). function_of c.function) calls ∙ found.1)

-- no drive is synced, whichever it was of
pub at_once_owed : (call kept : Taken) (drive : List (Option Drive) → FileFunction → Option ℕ) (before now : ℕ → Bool) → call ≡ kept → IsSome (function_of kept.function)
    → ((drives : List (Option Drive)) (function : FileFunction) → function_of call.function ≡ Some function → KeepsUnsynced (drive drives function) before now)
    → (number : ℕ) → before number ≡ true → now number ≡ true
at_once_owed call kept drive before now calls some keeps =
    let found = named_by (function_of kept.function) some in (keeps [] found.0 (ap (λ (c : Taken). function_of c.function) calls ∙ found.1)).owed

-- a call that enters service, in the situation of this moment
pub turns_are : (images : ℕ → List ℕ) (filing : Filing) (p : ℕ) (system : System) (kept : Kept) (function : FileFunction) (caller process : Process) (call : Taken) (moment : Moment) (turns : ℕ)
    → caller ≡ looked_at process → process ≡ process_in system.kernel.dispatcher.procs p → call ≡ call_of system.kernel.dispatcher.procs p → moment ≡ moment_of system.kernel.clock
    → function_of (call_of system.kernel.dispatcher.procs p).function ≡ Some function → filing_of kept filing.drives ≡ filing → StandEach images kept.mounted filing.drives
    → ((shown : ℕ → List ℕ) (drives : List (Option Drive)) (named : FileFunction) → function_of call.function ≡ Some named → StandEach shown kept.mounted drives
    → turns ≡ call_turns (entering_here kept drives (caller_of p caller) named call (stamp moment)))
    → turns ≡ call_turns (situation_of filing function p system)
turns_are images filing p system kept function caller process call moment turns looks lives calls at is filed stand each =
    each images filing.drives function (ap (λ (c : Taken). function_of c.function) calls ∙ is) stand
    ∙ ap call_turns (situation_is filing p system kept function caller process call moment filed looks lives calls at)

pub serves_at_entry : (images : ℕ → List ℕ) (drives : List (Option Drive)) (p : ℕ) (system : System) (kept new : Kept) (function : FileFunction) (caller process : Process) (call : Taken) (moment : Moment)
    → caller ≡ looked_at process → process ≡ process_in system.kernel.dispatcher.procs p → call ≡ call_of system.kernel.dispatcher.procs p → moment ≡ moment_of system.kernel.clock
    → function_of (call_of system.kernel.dispatcher.procs p).function ≡ Some function → StandEach images kept.mounted drives
    → ((images : ℕ → List ℕ) (drives : List (Option Drive)) (named : FileFunction) → function_of call.function ≡ Some named → StandEach images kept.mounted drives
    → Serves images new (entering_here kept drives (caller_of p caller) named call (stamp moment)) 0)
    → Serves images new (situation_of (filing_of kept drives) function p system) 0
serves_at_entry images drives p system kept new function caller process call moment looks lives calls at is stand each =
    subst (λ (s : Situation). Serves images new s 0) (situation_is (filing_of kept drives) p system kept function caller process call moment refl looks lives calls at)
    (each images drives function (ap (λ (c : Taken). function_of c.function) calls ∙ is) stand)

pub entered_as : (p : ℕ) (caller process : Process) (call : Taken) (system : System) (service : Option InService) (function : FileFunction)
    → caller ≡ looked_at process → process ≡ process_in system.kernel.dispatcher.procs p → call ≡ call_of system.kernel.dispatcher.procs p
    → function_of (call_of system.kernel.dispatcher.procs p).function ≡ Some function
    → ((named : FileFunction) → function_of call.function ≡ Some named → HasBegunService (caller_of p caller) named call service)
    → HasBegunService (caller_of p (looked_at (process_in system.kernel.dispatcher.procs p))) function (call_of system.kernel.dispatcher.procs p) service
entered_as p caller process call system service function looks lives calls is entered =
    subst (λ (x : Process). HasBegunService (caller_of p x) function (call_of system.kernel.dispatcher.procs p) service) (looks ∙ ap looked_at lives)
    (subst (λ (c : Taken). HasBegunService (caller_of p caller) function c service) calls (entered function (ap (λ (c : Taken). function_of c.function) calls ∙ is)))

-- and who left

pub leaves_first : (owed : List Bool) (filing : Filing) → left_each (owes owed) (range_with_len 0 (32 - 0)) filing ≡ all_left owed filing
leaves_first owed filing = sym (all_left_each owed filing)

leaves_one : (gone : ℕ → Bool) (p : ℕ) (ps : List ℕ) (filing : Filing) → left_each gone (p ∷ ps) filing ≡ left_each gone ps (left_if (gone p) p filing)
unfolding left_each
leaves_one gone p ps filing = refl

pub leaves_more : (owed : List Bool) (number : ℕ) (gone : Bool) (before now whole : Filing) → number < 32
    → gone ≡ owes owed number → now ≡ left_if gone number before
    → left_each (owes owed) (range_with_len number (32 - number)) before ≡ whole
    → left_each (owes owed) (range_with_len (number + 1) (32 - (number + 1))) now ≡ whole
leaves_more owed number gone before now whole below is leaves so =
    let left : 32 - number ≡ suc (32 - (number + 1)) = omega (arith, below) in
    let ps = range_with_len (number + 1) (32 - (number + 1)) in
    ap (left_each (owes owed) ps) (leaves ∙ ap (λ b. left_if b number before) is)
    ∙ sym (leaves_one (owes owed) number ps before)
    ∙ ap (λ n. left_each (owes owed) (range_with_len number n) before) (sym left)
    ∙ so

nobody_left : (gone : ℕ → Bool) (filing : Filing) → left_each gone [] filing ≡ filing
unfolding left_each
nobody_left gone filing = refl

pub leaves_last : (owed : List Bool) (number : ℕ) (filing whole : Filing) → number ≡ 32 → left_each (owes owed) (range_with_len number (32 - number)) filing ≡ whole
    → filing ≡ whole
leaves_last owed number filing whole all so =
    sym (nobody_left (owes owed) filing) ∙ ap (λ n. left_each (owes owed) (range_with_len n (32 - n)) filing) (sym all) ∙ so

-- where no drive is mounted, none is

pub label_none : (d e : Option Directory) → option_map drive_and_kind e ≡ option_map drive_and_kind d → d ≡ None → e ≡ None
label_none None None same none = refl
label_none None (Some e) same none = absurd (cc)
label_none (Some d) e same none = absurd (cc)

pub bare_still : (old new : List (Option Directory)) → ((number : ℕ) → option_map drive_and_kind (directory_at new number) ≡ option_map drive_and_kind (directory_at old number))
    → HasNoDrive old → HasNoDrive new
bare_still old new same none = λ number. label_none (directory_at old number) (directory_at new number) (same number) (none number)
