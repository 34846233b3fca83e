-- A call in service is the one that the disk serves, in each step, and who is at the disk keeps a file call.
use Rattle.std.proofs.Common.{◌≡◌, ◌∙◌, ℕ, ◌+◌, ◌-◌, ◌==◌, ◌<◌, Bool, true, false, List, Option, Some, None, is_some, inl, inr, if◌then◌else◌, refl, sym, ap, subst}
use Rattle.std.specs.Prelude.{IfSome}
use Rattle.std.proofs.lemmas.Bool.{false≢true}
use Rattle.mpm_base.proofs.Choices.{either}
use Rattle.mpm_procs.specs.Table.{Lives, call_of}
use Rattle.mpm_ready.specs.Order.{first_of}
use Rattle.mpm_service.specs.Disk.{DiskService, is_last_step, after_step, step_answer, answer_by, served_after, turned, turn_answer, begun}
use Rattle.mpm_service.specs.declared.service.Served.{Served}
use Rattle.mpm_service.specs.declared.service.Turn.{Turn}
use Rattle.mpm_service.specs.declared.service.Turn.TheVariants.{Idle, Passing, Work, Starts}
use Rattle.mpm_dispatcher.specs.Dispatch.{IsReady}
use Rattle.mpm_kernel.specs.Kernel.{Kernel}
use Rattle.mpm_kernel.specs.Disk.{waiting_for_disk}
use Rattle.mpm_file_functions.specs.declared.functions.FileFunction.{FileFunction}
use Rattle.mpm_file_functions.specs.Functions.{function_of}
use Rattle.mpm_directories.specs.Direct.{Directly}
use Rattle.mpm_refusals.specs.Filing.{Filing, Situation}
use Rattle.mpm_bdos.specs.Outcomes.{file_call}
use Rattle.mpm_system.specs.declared.system.System.{System}
use Rattle.mpm_system.specs.Whole.{SystemChange, IsWhole, silent}
use Rattle.mpm_system.specs.FileCalling.{call_made}
use Rattle.mpm_machine.specs.State.{State}
use Rattle.mpm_machine.specs.Files.{FilesInService, Between, Within, given_back}
use Rattle.mpm_machine.specs.FileCalls.{file_caller, situation_of, concluded}
use Rattle.mpm_machine.specs.DiskStep.{is_done_at_once, with_kernel, file_called, disk_served, step_passed, done_at_once, files_called, files_served, all_paid, entered_by, call_entered, within_call, files_entered}
use Rattle.mpm_machine.specs.Due.{with_ends}
use Rattle.mpm_machine.specs.Finishing.{all_answered}
use Rattle.mpm_machine.specs.Holding.{AreFiled}
use Rattle.mpm_machine.specs.Stepping.{Telling, begun_alone, begun_with, begun_as, is_instruction, told_first, files_begun_by, files_begun, before_disk, told_within, paid_after, entered_after, ended_after, rest_of, step_with, telling_then, telling_of, files_paid, files_then, files_rest, stepped}
use Rattle.mpm_machine.specs.After.{next}
use Rattle.mpm_machine.specs.Printing.{ServedBy, HasTurns}
use Rattle.mpm_machine.proofs.FileLaws.{makes}
use Rattle.mpm_machine.proofs.FilingLaws.{named_by}
use Rattle.mpm_machine.proofs.FiledLaws.{caller_lives, caller_ready, whole_begun_as}
use Rattle.mpm_machine.proofs.DiskStepLaws.{whole_file_called}
use Rattle.mpm_machine.proofs.AtGateLaws.{waits_steps}
use Rattle.mpm_machine.proofs.KeepingLaws.{ready_unserved, concluded_serves, ends_serve}
use Rattle.mpm_machine.proofs.CallsLaws.{KeepsCalls, SystemKeepsCalls, calls_same, calls_then, calls_concluded, calls_with_ends, calls_disk_served}
use Rattle.mpm_machine.proofs.HoldingLaws.{filed_still}
use Rattle.mpm_machine.proofs.RestLaws.{whole_entered_after}
use Rattle.mpm_machine.proofs.TurnLaws.{entered_first}
use Rattle.mpm_machine.proofs.ServeLaws.{IsNotLast, over_served, over_files, over_serves, silent_served, same_served, none_behind}
use Rattle.mpm_machine.proofs.EnterLaws.{starts_at, entered_so, files_so, nobody_turned, nobody_enters, files_stay, none_served, files_kept, calls_entered_after}
use Rattle.mpm_machine.proofs.BegunLaws.{KeepsDisk, keeps_answered, keeps_alone, keeps_made, filed_called, waiting_serves, begun_as_serves}
use Rattle.mpm_machine.proofs.BehindLaws.{none_or, last_or_not}

-- what a step begins with
stays_served : (served : Option Served) (p : ℕ) (system : System) (files : FilesInService) → ServedBy served files → ServedBy served (done_at_once p system files)
stays_served None p system (Between filing) is = tt
stays_served None p system (Within s) is = is
stays_served (Some call) p system (Between filing) is = is
stays_served (Some call) p system (Within s) is = is

called_served : (served : Option Served) (p : ℕ) (system : System) (files : FilesInService) → ServedBy served files → ServedBy served (files_called p system files)
unfolding files_called
called_served served p system files is =
    either (ServedBy served) (is_done_at_once p system) (done_at_once p system files) files (λ _. stays_served served p system files is) (λ _. is)

begun_served_by : (caller : Option ℕ) (served : Option Served) (system : System) (files : FilesInService) → ServedBy served files → ServedBy served (files_begun_by caller system files)
begun_served_by None served system files is = is
begun_served_by (Some p) served system files is = called_served served p (call_made p system) files is

begun_served : (served : Option Served) (system : System) (files : FilesInService) → ServedBy served files → ServedBy served (files_begun system files)
unfolding files_begun
begun_served served system files is = begun_served_by (file_caller system) served system files is

pub served_first : (s : State) → IsWhole s.system → AreFiled s.system.kernel → ServedBy s.system.kernel.disk.served s.files
    → ServedBy (before_disk s.system s.files).system.kernel.disk.served (files_begun s.system s.files)
unfolding before_disk
served_first s w filed is =
    subst (λ served. ServedBy served (files_begun s.system s.files)) (sym (begun_as_serves (told_first s.system s.files) s.system w filed).served)
    (begun_served s.system.kernel.disk.served s.system s.files is)

-- the step of the disk
by_turn : (last none : Bool) (call : Served) (s : Situation) → ((p : ℕ) → (if last then Work call.p none else Passing) ≡ Work p true → ⊥) → call.p ≡ s.caller.process
    → ServedBy (if last then (if none then None else (Some (record call { left = call.left - 1; passed = 0 }))) else (Some (record call { passed = call.passed + 1 }))) (Within s)
by_turn true true call s more is = absurd (more call.p refl)
by_turn true false call s more is = is
by_turn false none call s more is = is

goes_on_by : (turn_steps : ℕ) (served : Option Served) (first : Option ℕ) (s : Situation) → is_some served ≡ true → IsNotLast (answer_by turn_steps served first) → ServedBy served (Within s)
    → ServedBy (served_after turn_steps served first) (Within s)
unfolding IsNotLast step_answer after_step
goes_on_by turn_steps None first s some more is = absurd (false≢true some)
goes_on_by turn_steps (Some call) first s some more is = by_turn (is_last_step turn_steps call) (call.left == 1) call s more is

goes_on : (disk : DiskService) (s : Situation) → is_some disk.served ≡ true → IsNotLast (turn_answer disk) → ServedBy disk.served (Within s) → ServedBy (turned disk).served (Within s)
unfolding turn_answer turned
goes_on disk s some more is = goes_on_by disk.turn_steps disk.served (first_of disk.waiting) s some more is

never_between : (served : Option Served) (filing : Filing) → is_some served ≡ true → ServedBy served (Between filing) → ⊥
never_between None filing some is = false≢true some
never_between (Some call) filing some is = is

-- after the last turn nobody is served
over_by_last : (told : Directly) (old : System) (files : FilesInService) (p : ℕ) → is_some old.kernel.disk.served ≡ true → turn_answer old.kernel.disk ≡ Work p true
    → ServedBy old.kernel.disk.served files → ServedBy (disk_served told old).system.kernel.disk.served (files_served old files)
over_by_last told old (Between filing) p some works is = absurd (never_between old.kernel.disk.served filing some is)
over_by_last told old (Within s) p some works is =
    let nobody : (disk_served told old).system.kernel.disk.served ≡ None =
    ap (λ (c : SystemChange). c.system.kernel.disk.served) (over_served told old p works)
    ∙ (over_serves told p (step_passed old) (none_behind old.kernel.disk p works)).served ∙ none_behind old.kernel.disk p works in
    subst (λ files. ServedBy (disk_served told old).system.kernel.disk.served files) (sym (over_files old (Within s) p works))
    (subst (λ served. ServedBy served (Between (file_call s).filing)) (sym nobody) tt)

more_turns : (told : Directly) (old : System) (files : FilesInService) → is_some old.kernel.disk.served ≡ true → IsNotLast (turn_answer old.kernel.disk)
    → ServedBy old.kernel.disk.served files → ServedBy (disk_served told old).system.kernel.disk.served (files_served old files)
more_turns told old (Between filing) some more is = absurd (never_between old.kernel.disk.served filing some is)
more_turns told old (Within s) some more is =
    subst (λ files. ServedBy (disk_served told old).system.kernel.disk.served files) (sym (same_served old s some more))
    (subst (λ (c : SystemChange). ServedBy c.system.kernel.disk.served (Within s)) (sym (silent_served told old some more)) (goes_on old.kernel.disk s some more is))

none_still : (told : Directly) (old : System) (files : FilesInService) → old.kernel.disk.served ≡ None → ServedBy old.kernel.disk.served files
    → ServedBy (disk_served told old).system.kernel.disk.served (files_served old files)
none_still told old files none is =
    subst (λ f. ServedBy (disk_served told old).system.kernel.disk.served f) (sym (files_kept old files none))
    (subst (λ (c : SystemChange). ServedBy c.system.kernel.disk.served files) (sym (none_served told old none)) is)

disk_serves : (told : Directly) (old : System) (files : FilesInService) → ServedBy old.kernel.disk.served files
    → ServedBy (disk_served told old).system.kernel.disk.served (files_served old files)
disk_serves told old files is = elim (none_or old.kernel.disk.served) [
  | inl none ↦ none_still told old files none is
  | inr some ↦ elim (last_or_not (turn_answer old.kernel.disk)) [
    | inl last ↦ over_by_last told old files last.0 some last.1 is
    | inr more ↦ more_turns told old files some more is
  ]
]

-- those who ended give back, and the first that waits enters
given_served : (owed : List Bool) (served : Option Served) (files : FilesInService) → ServedBy served files → ServedBy served (given_back owed files)
given_served owed None (Between filing) is = tt
given_served owed None (Within s) is = is
given_served owed (Some call) (Between filing) is = is
given_served owed (Some call) (Within s) is = is

nobody_waits : (turns : ℕ) (system : System) (filing : Filing) → system.kernel.disk.served ≡ None → first_of system.kernel.disk.waiting ≡ None
    → ServedBy (call_entered turns system).kernel.disk.served (files_entered system (Between filing))
unfolding turn_answer
nobody_waits turns system filing none first =
    let disk : DiskService = system.kernel.disk in
    let idle : turn_answer disk ≡ Idle = ap (λ served. answer_by disk.turn_steps served (first_of disk.waiting)) none ∙ ap (answer_by disk.turn_steps None) first in
    subst (λ files. ServedBy (call_entered turns system).kernel.disk.served files) (sym (files_so system (Between filing) Idle none idle))
    (subst (λ (x : System). ServedBy x.kernel.disk.served (Between filing)) (sym (entered_so turns system Idle none idle))
    (subst (λ served. ServedBy served (Between filing)) (sym (nobody_turned disk none idle)) tt))

first_enters : (turns : ℕ) (system : System) (filing : Filing) (p : ℕ) → AreFiled system.kernel → system.kernel.disk.served ≡ None → first_of system.kernel.disk.waiting ≡ Some p
    → ServedBy (call_entered turns system).kernel.disk.served (files_entered system (Between filing))
unfolding turn_answer turned begun
first_enters turns system filing p filed none first =
    let disk : DiskService = system.kernel.disk in
    let starts : turn_answer disk ≡ Starts p = ap (λ served. answer_by disk.turn_steps served (first_of disk.waiting)) none ∙ ap (answer_by disk.turn_steps None) first in
    let its = named_by (function_of (call_of system.kernel.dispatcher.procs p).function) (filed p (starts_at disk p starts)) in
    subst (λ files. ServedBy (call_entered turns system).kernel.disk.served files)
    (sym (files_so system (Between filing) (Starts p) none starts ∙ ap (λ (named : Option FileFunction). within_call named filing p system) its.1))
    (subst (λ (x : System). ServedBy x.kernel.disk.served (Within (situation_of filing its.0 p system))) (sym (entered_so turns system (Starts p) none starts))
    (subst (λ served. ServedBy served (Within (situation_of filing its.0 p system)))
    (sym (entered_first disk.turn_steps disk.served (first_of disk.waiting) p turns none starts)) refl))

enters : (turns : ℕ) (system : System) (files : FilesInService) → AreFiled system.kernel → system.kernel.disk.served ≡ None → ServedBy system.kernel.disk.served files
    → ServedBy (call_entered turns system).kernel.disk.served (files_entered system files)
enters turns system (Within s) filed none is = absurd (subst (λ served. ServedBy served (Within s)) none is)
enters turns system (Between filing) filed none is = by_first (first_of system.kernel.disk.waiting) refl
  where
    by_first : (first : Option ℕ) → first_of system.kernel.disk.waiting ≡ first → ServedBy (call_entered turns system).kernel.disk.served (files_entered system (Between filing))
    by_first None first = nobody_waits turns system filing none first
    by_first (Some p) first = first_enters turns system filing p filed none first

entered_serves : (turns : ℕ) (system : System) (files : FilesInService) → AreFiled system.kernel → ServedBy system.kernel.disk.served files
    → ServedBy (call_entered turns system).kernel.disk.served (files_entered system files)
entered_serves turns system files filed is = elim (none_or system.kernel.disk.served) [
  | inl none ↦ enters turns system files filed none is
  | inr some ↦ subst (λ f. ServedBy (call_entered turns system).kernel.disk.served f) (sym (files_stay system files some))
      (subst (λ (x : System). ServedBy x.kernel.disk.served files) (sym (nobody_enters turns system some)) is)
]

-- who is at the disk keeps a file call
with_filed : (caller : Option ℕ) (told : Directly) (system : System) → IsWhole system → AreFiled system.kernel → IfSome caller (λ p. Lives system.kernel.dispatcher.procs p)
    → IfSome caller (λ p. IsReady system.kernel.dispatcher p) → AreFiled (all_answered (begun_with caller told system).system).kernel
with_filed None told system w filed h is_ready =
    filed_still system.kernel (all_answered (begun_alone system).system).kernel (keeps_alone system (all_answered (begun_alone system).system) w filed refl).calls filed
with_filed (Some p) told system w filed h is_ready =
    let made = call_made p system in
    let makes_call = makes p system w h in
    let called = (file_called told p made).system in
    let filed_then = filed_called told p made makes_call.whole makes_call.lives (filed_still system.kernel made.kernel (keeps_made p system made w.sound is_ready refl).calls filed) in
    filed_still called.kernel (all_answered called).kernel
    (keeps_answered called (whole_file_called told p made makes_call.whole makes_call.lives (makes_call.ready is_ready)) filed_then).calls filed_then

pub filed_first : (told : Directly) (system : System) → IsWhole system → AreFiled system.kernel → AreFiled (begun_as told system).system.kernel
unfolding begun_as
filed_first told system w filed = with_filed (file_caller system) told system w filed (caller_lives system w) (caller_ready system w)

rest_calls : (instruction : Bool) (telling : Telling) (begun : SystemChange) → IsWhole begun.system → SystemKeepsCalls begun.system (rest_of instruction telling begun).system
unfolding rest_of ended_after all_paid
rest_calls instruction telling begun w =
    let entered = entered_after telling begun.system in
    let new : Kernel = (rest_of instruction telling begun).system.kernel in
    calls_then begun.system.kernel entered.kernel new (calls_entered_after telling begun.system w)
    (calls_then entered.kernel (with_ends entered).kernel new (calls_with_ends entered (whole_entered_after telling begun.system w)) (calls_same (with_ends entered).kernel new refl refl))

-- in the rest of a step
rest_serves : (instruction : Bool) (telling : Telling) (begun : SystemChange)
    → (rest_of instruction telling begun).system.kernel.disk.served ≡ (entered_after telling begun.system).kernel.disk.served
unfolding rest_of ended_after all_paid
rest_serves instruction telling begun = (ends_serve (entered_after telling begun.system)).served

then_serves : (at_gate : Directly) (system : System) (files : FilesInService) → IsWhole system → AreFiled system.kernel → ServedBy system.kernel.disk.served files
    → ServedBy (entered_after (telling_then at_gate system files) system).kernel.disk.served (files_then system files)
unfolding entered_after telling_then files_then files_paid all_paid
then_serves at_gate system files w filed is =
    let told = told_within files system in
    let served : System = (disk_served told system).system in
    entered_serves (telling_then at_gate system files).turns (paid_after told system) (given_back served.owed (files_served system files))
    (filed_still system.kernel served.kernel (calls_disk_served told system w) filed)
    (given_served served.owed served.kernel.disk.served (files_served system files) (disk_serves told system files is))

served_rest : (instruction : Bool) (at_gate : Directly) (begun : SystemChange) (files : FilesInService) → IsWhole begun.system → AreFiled begun.system.kernel
    → ServedBy begun.system.kernel.disk.served files
    → ServedBy (rest_of instruction (telling_then at_gate begun.system files) begun).system.kernel.disk.served (files_rest begun.system files)
unfolding files_rest
served_rest instruction at_gate begun files w filed is =
    subst (λ served. ServedBy served (files_rest begun.system files)) (sym (rest_serves instruction (telling_then at_gate begun.system files) begun))
    (given_served _ (entered_after (telling_then at_gate begun.system files) begun.system).kernel.disk.served (files_then begun.system files)
    (then_serves at_gate begun.system files w filed is))

-- and in a step
pub served_next : (s : State) → IsWhole s.system → AreFiled s.system.kernel → ServedBy s.system.kernel.disk.served s.files → ServedBy (next s).system.kernel.disk.served (next s).files
unfolding next stepped step_with telling_of telling_then before_disk
served_next s w filed is =
    let told = told_first s.system s.files in
    served_rest (is_instruction (file_caller s.system) s.system) told (begun_as told s.system) (files_begun s.system s.files) (whole_begun_as told s.system w)
    (filed_first told s.system w filed) (served_first s w filed is)

pub filed_next : (s : State) → IsWhole s.system → AreFiled s.system.kernel → AreFiled (next s).system.kernel
unfolding next stepped step_with telling_of telling_then before_disk
filed_next s w filed =
    let told = told_first s.system s.files in
    filed_still (begun_as told s.system).system.kernel (next s).system.kernel
    (rest_calls (is_instruction (file_caller s.system) s.system) (telling_of s.system s.files) (begun_as told s.system) (whole_begun_as told s.system w))
    (filed_first told s.system w filed)

-- who is at the disk is so where turns have steps
turns_still : (old new : Kernel) → KeepsCalls old new → new.disk.turn_steps ≡ old.disk.turn_steps → HasTurns old.disk → HasTurns new.disk
turns_still old new keeps same turns = λ p at. subst (λ n. 0 < n) (sym same) (turns p (keeps.was p at))

turns_keep : (old new : System) → KeepsDisk old new → HasTurns old.kernel.disk → HasTurns new.kernel.disk
turns_keep old new keeps turns = turns_still old.kernel new.kernel keeps.calls keeps.serves.steps turns

turns_called : (told : Directly) (p : ℕ) (system : System) → IsWhole system → Lives system.kernel.dispatcher.procs p → IsReady system.kernel.dispatcher p
    → HasTurns system.kernel.disk → HasTurns (file_called told p system).system.kernel.disk
unfolding file_called
turns_called told p system w h is_ready turns =
    either (λ (c : SystemChange). HasTurns c.system.kernel.disk) (is_done_at_once p system) (concluded told p system) (silent (with_kernel (waiting_for_disk p) system))
    (λ _. turns_still system.kernel (concluded told p system).system.kernel (calls_concluded told p system w h) (concluded_serves told p system (ready_unserved system p w.sound is_ready)).steps turns)
    (λ waits q at. subst (λ n. 0 < n) (sym (waiting_serves p system.kernel).steps) (waits_steps p system waits))

with_turns : (caller : Option ℕ) (told : Directly) (system : System) → IsWhole system → AreFiled system.kernel → IfSome caller (λ p. Lives system.kernel.dispatcher.procs p)
    → IfSome caller (λ p. IsReady system.kernel.dispatcher p) → HasTurns system.kernel.disk → HasTurns (all_answered (begun_with caller told system).system).kernel.disk
with_turns None told system w filed h is_ready turns =
    turns_keep system (all_answered (begun_alone system).system) (keeps_alone system (all_answered (begun_alone system).system) w filed refl) turns
with_turns (Some p) told system w filed h is_ready turns =
    let made = call_made p system in
    let makes_call = makes p system w h in
    let keeps = keeps_made p system made w.sound is_ready refl in
    let called = (file_called told p made).system in
    let filed_then = filed_called told p made makes_call.whole makes_call.lives (filed_still system.kernel made.kernel keeps.calls filed) in
    turns_keep called (all_answered called)
    (keeps_answered called (whole_file_called told p made makes_call.whole makes_call.lives (makes_call.ready is_ready)) filed_then)
    (turns_called told p made makes_call.whole makes_call.lives (makes_call.ready is_ready) (turns_keep system made keeps turns))

pub turns_first : (told : Directly) (system : System) → IsWhole system → AreFiled system.kernel → HasTurns system.kernel.disk → HasTurns (begun_as told system).system.kernel.disk
unfolding begun_as
turns_first told system w filed turns = with_turns (file_caller system) told system w filed (caller_lives system w) (caller_ready system w) turns

same_steps : (told : Directly) (old : System) → (disk_served told old).system.kernel.disk.turn_steps ≡ old.kernel.disk.turn_steps
unfolding turned
same_steps told old = elim (none_or old.kernel.disk.served) [
  | inl none ↦ ap (λ (c : SystemChange). c.system.kernel.disk.turn_steps) (none_served told old none)
  | inr some ↦ elim (last_or_not (turn_answer old.kernel.disk)) [
    | inl last ↦ ap (λ (c : SystemChange). c.system.kernel.disk.turn_steps) (over_served told old last.0 last.1)
        ∙ (over_serves told last.0 (step_passed old) (none_behind old.kernel.disk last.0 last.1)).steps
    | inr more ↦ ap (λ (c : SystemChange). c.system.kernel.disk.turn_steps) (silent_served told old some more)
  ]
]

entry_steps : (turn : Turn) (turns : ℕ) (system : System) → (entered_by turn turns (step_passed system)).kernel.disk.turn_steps ≡ system.kernel.disk.turn_steps
unfolding turned begun
entry_steps Idle turns system = refl
entry_steps Passing turns system = refl
entry_steps (Work p last) turns system = refl
entry_steps (Starts p) turns system = refl

entered_steps : (turns : ℕ) (system : System) → (call_entered turns system).kernel.disk.turn_steps ≡ system.kernel.disk.turn_steps
entered_steps turns system = elim (none_or system.kernel.disk.served) [
  | inl none ↦ ap (λ (x : System). x.kernel.disk.turn_steps) (entered_so turns system (turn_answer system.kernel.disk) none refl)
      ∙ entry_steps (turn_answer system.kernel.disk) turns system
  | inr some ↦ ap (λ (x : System). x.kernel.disk.turn_steps) (nobody_enters turns system some)
]

rest_steps : (instruction : Bool) (telling : Telling) (begun : SystemChange) → (rest_of instruction telling begun).system.kernel.disk.turn_steps ≡ begun.system.kernel.disk.turn_steps
unfolding rest_of ended_after entered_after all_paid
rest_steps instruction telling begun =
    (ends_serve (entered_after telling begun.system)).steps ∙ entered_steps telling.turns (paid_after telling.at_disk begun.system) ∙ same_steps telling.at_disk begun.system

pub turns_next : (s : State) → IsWhole s.system → AreFiled s.system.kernel → HasTurns s.system.kernel.disk → HasTurns (next s).system.kernel.disk
unfolding next stepped step_with telling_of telling_then before_disk
turns_next s w filed turns =
    let told = told_first s.system s.files in
    let begun = begun_as told s.system in
    let instruction : Bool = is_instruction (file_caller s.system) s.system in
    turns_still begun.system.kernel (next s).system.kernel (rest_calls instruction (telling_of s.system s.files) begun (whole_begun_as told s.system w))
    (rest_steps instruction (telling_of s.system s.files) begun) (turns_first told s.system w filed turns)
