-- Steps of the disk that only pass one of a turn, or in which it has no call: how many there are, and what a step with one of them is.
use Rattle.std.proofs.Common.{◌≡◌, ◌∙◌, ℕ, ◌+◌, ◌-◌, ◌<◌, ◌==◌, Bool, true, false, List, [], ◌++◌, Option, Some, None, IfSome, if◌then◌else◌, option_map, refl, sym, ap, arith}
use Rattle.std.proofs.lemmas.Bool.{false≢true}
use Rattle.std.proofs.lemmas.Bool.Decides.{nat_tests}
use Rattle.mpm_ready.specs.Order.{Member, first_of}
use Rattle.mpm_service.specs.Disk.{DiskService, served_process, is_last_step, after_step, step_answer, answer_by, served_after, waiting_after, starting, turned, turn_answer}
use Rattle.mpm_service.specs.Ahead.{passed_on, passed_by}
use Rattle.mpm_service.specs.declared.service.Served.{Served}
use Rattle.mpm_service.specs.declared.service.Turn.TheVariants.{Passing, Work}
use Rattle.mpm_render.specs.Outputs.{Output}
use Rattle.mpm_directories.specs.Direct.{Directly}
use Rattle.mpm_system.specs.declared.system.System.{System}
use Rattle.mpm_system.specs.Owing.{nobody_owes}
use Rattle.mpm_system.specs.Whole.{SystemChange, silent, NoCompletions, NobodyAborted}
use Rattle.mpm_system.specs.Written.{with_records, records_out}
use Rattle.mpm_system.specs.Idling.{CanPass}
use Rattle.mpm_machine.specs.Due.{with_ends}
use Rattle.mpm_machine.specs.Files.{FilesInService, Between, Within, AreWithin}
use Rattle.mpm_machine.specs.Step.{runner_picked}
use Rattle.mpm_machine.specs.DiskStep.{step_passed, disk_served, owed_then, all_paid, call_entered}
use Rattle.mpm_machine.specs.Stepping.{Telling, entered_after, ended_after, rest_of}
use Rattle.mpm_machine.specs.Moving.{is_still}
use Rattle.mpm_machine.proofs.DueLaws.{no_ends, nothing_out}
use Rattle.mpm_machine.proofs.QuietLaws.{served_still, served_nobody, entered_nobody, entered_served}

-- one more of them, by the call in service
not_last : (turn_steps passed : ℕ) → passed + 1 < turn_steps → (passed + 1 == turn_steps) ≡ false
not_last turn_steps passed below = grind (arith, nat_tests, below)

still_by : (served : Option Served) (first : Option ℕ) (turn_steps n : ℕ) → IfSome served (λ call. call.passed + (n + 1) < turn_steps) → (served ≡ None → first ≡ None)
    → is_still (answer_by turn_steps (option_map (passed_on n) served) first) ≡ true
unfolding step_answer
still_by None first turn_steps n within nobody = ap (λ (o : Option ℕ). is_still (answer_by turn_steps None o)) (nobody refl)
still_by (Some call) first turn_steps n within nobody =
    ap (λ (b : Bool). is_still (if b then Work call.p (call.left == 1) else Passing)) (not_last turn_steps (call.passed + n) (omega (arith, within)))

pub still_ahead : (n : ℕ) (disk : DiskService) → CanPass (n + 1) disk → is_still (turn_answer (passed_by n disk)) ≡ true
unfolding turn_answer passed_by
still_ahead n disk can = still_by disk.served (first_of disk.waiting) disk.turn_steps n can.within (can.nobody (omega arith))

passed_more : (call : Served) (n : ℕ) → Some (record (passed_on n call) { passed = call.passed + n + 1 }) ≡ Some (passed_on (n + 1) call)
passed_more call n = ap (λ (k : ℕ). Some (record call { passed = k })) (omega arith)

served_on : (served : Option Served) (first : Option ℕ) (turn_steps n : ℕ) → IfSome served (λ call. call.passed + (n + 1) < turn_steps) → (served ≡ None → first ≡ None)
    → served_after turn_steps (option_map (passed_on n) served) first ≡ option_map (passed_on (n + 1)) served
unfolding after_step
served_on None first turn_steps n within nobody = ap (option_map starting) (nobody refl)
served_on (Some call) first turn_steps n within nobody =
    ap (λ (b : Bool). if b then (if call.left == 1 then None else (Some (record call { left = call.left - 1; passed = 0 }))) else (Some (record call { passed = call.passed + n + 1 })))
    (not_last turn_steps (call.passed + n) (omega (arith, within)))
    ∙ passed_more call n

waiting_on : (served : Option Served) (first : Option ℕ) (waiting : List Member) (n : ℕ) → (served ≡ None → first ≡ None)
    → waiting_after (option_map (passed_on n) served) first waiting ≡ waiting
waiting_on None first waiting n nobody = ap (λ (o : Option ℕ). waiting_after None o waiting) (nobody refl)
waiting_on (Some call) first waiting n nobody = refl

pub passes_on : (n : ℕ) (disk : DiskService) → CanPass (n + 1) disk → turned (passed_by n disk) ≡ passed_by (n + 1) disk
unfolding turned passed_by
passes_on n disk can =
    let none = can.nobody (omega arith) in
    ap (λ (o : Option Served). record disk { waiting = waiting_after (option_map (passed_on n) disk.served) (first_of disk.waiting) disk.waiting; served = o })
    (served_on disk.served (first_of disk.waiting) disk.turn_steps n can.within none)
    ∙ ap (λ (waiting : List Member). record disk { waiting = waiting; served = option_map (passed_on (n + 1)) disk.served })
    (waiting_on disk.served (first_of disk.waiting) disk.waiting n none)

pub passes_nothing : (disk : DiskService) → passed_by 0 disk ≡ disk
unfolding passed_by
passes_nothing disk = ap (λ (o : Option Served). record disk { served = o }) (none_passed disk.served)
  where
    none_passed : (served : Option Served) → option_map (passed_on 0) served ≡ served
    none_passed None = refl
    none_passed (Some call) = ap (λ (k : ℕ). Some (record call { passed = k })) (omega arith)

pub fewer_pass : (n : ℕ) (disk : DiskService) → CanPass (n + 1) disk → CanPass n disk
fewer_pass n disk can = record { within = fewer disk.served disk.turn_steps n can.within; nobody = λ some. can.nobody (omega arith) }
  where
    fewer : (served : Option Served) (turn_steps n : ℕ) → IfSome served (λ call. call.passed + (n + 1) < turn_steps) → IfSome served (λ call. call.passed + n < turn_steps)
    fewer None turn_steps n within = tt
    fewer (Some call) turn_steps n within = omega (arith, within)

-- the rest of a step in which the disk does nothing else, nobody's end is due, and nothing is to be given back

pub paid_now : (system : System) (served : Option Served) → system.kernel.disk.served ≡ served → (served ≡ None → system.owed ≡ nobody_owes) → all_paid system ≡ system
unfolding all_paid
paid_now system None is nobody =
    ap (λ (o : Option Served). record system { owed = owed_then o system.owed }) is ∙ ap (λ (owed : List Bool). record system { owed = owed }) (sym (nobody refl))
paid_now system (Some call) is nobody = ap (λ (o : Option Served). record system { owed = owed_then o system.owed }) is

pub still_served : (served : Option Served) (first : Option ℕ) (turn_steps : ℕ) → is_still (answer_by turn_steps served first) ≡ true
    → served_after turn_steps served first ≡ None → served ≡ None
unfolding step_answer after_step
still_served None first turn_steps still none = refl
still_served (Some call) first turn_steps still none = absurd (never (is_last_step turn_steps call) call still none)
  where
    never : (b : Bool) (call : Served) → is_still (if b then Work call.p (call.left == 1) else Passing) ≡ true
        → (if b then (if call.left == 1 then None else (Some (record call { left = call.left - 1; passed = 0 }))) else (Some (record call { passed = call.passed + 1 }))) ≡ None → ⊥
    never true call still none = false≢true still
    never false call still none = cc

-- where no call is in service, nobody owes anything
abbrev pub IsPaid : System → Type 0
IsPaid system = system.kernel.disk.served ≡ None → system.owed ≡ nobody_owes

pub paid_passed : (system : System) → IsPaid system → is_still (turn_answer system.kernel.disk) ≡ true → all_paid (step_passed system) ≡ step_passed system
unfolding turn_answer turned
paid_passed system paid still =
    paid_now (step_passed system) (step_passed system).kernel.disk.served refl (λ idle.
    paid (still_served system.kernel.disk.served (first_of system.kernel.disk.waiting) system.kernel.disk.turn_steps still idle))

pub paid_already : (system : System) → IsPaid system → all_paid system ≡ system
paid_already system paid = paid_now system system.kernel.disk.served refl paid

-- whose call is served then
serves_on : (served : Option Served) (first : Option ℕ) (turn_steps p : ℕ) → is_still (answer_by turn_steps served first) ≡ true → option_map (λ call. call.p) served ≡ Some p
    → option_map (λ call. call.p) (served_after turn_steps served first) ≡ Some p
unfolding step_answer after_step
serves_on None first turn_steps p still is = absurd (cc)
serves_on (Some call) first turn_steps p still is = on (is_last_step turn_steps call) call p still is
  where
    on : (b : Bool) (call : Served) (p : ℕ) → is_still (if b then Work call.p (call.left == 1) else Passing) ≡ true → Some call.p ≡ Some p
        → option_map (λ (c : Served). c.p) (if b then (if call.left == 1 then None else (Some (record call { left = call.left - 1; passed = 0 }))) else (Some (record call { passed = call.passed + 1 }))) ≡ Some p
    on true call p still is = absurd (false≢true still)
    on false call p still is = is

pub still_serves : (disk : DiskService) (p : ℕ) → is_still (turn_answer disk) ≡ true → served_process disk ≡ Some p → served_process (turned disk) ≡ Some p
unfolding turn_answer turned served_process
still_serves disk p still is = serves_on disk.served (first_of disk.waiting) disk.turn_steps p still is

entered_by_whom : (whom : Option ℕ) (telling : Telling) (system : System) → IsPaid system → served_process system.kernel.disk ≡ whom → is_still (turn_answer system.kernel.disk) ≡ true
    → entered_after telling system ≡ step_passed system
unfolding entered_after
entered_by_whom None telling system paid is still =
    ap (λ (c : System). call_entered telling.turns (all_paid c)) (ap (λ c. c.system) (served_nobody telling.at_disk system is))
    ∙ ap (call_entered telling.turns) (paid_already system paid)
    ∙ entered_nobody telling.turns system is still
entered_by_whom (Some p) telling system paid is still =
    ap (λ (c : System). call_entered telling.turns (all_paid c)) (ap (λ c. c.system) (served_still telling.at_disk p system is still))
    ∙ ap (call_entered telling.turns) (paid_passed system paid still)
    ∙ entered_served telling.turns p (step_passed system) (still_serves system.kernel.disk p still is)

pub entered_still : (telling : Telling) (system : System) → IsPaid system → is_still (turn_answer system.kernel.disk) ≡ true
    → entered_after telling system ≡ step_passed system
entered_still telling system paid still = entered_by_whom (served_process system.kernel.disk) telling system paid refl still

says_by_whom : (whom : Option ℕ) (told : Directly) (system : System) → served_process system.kernel.disk ≡ whom → is_still (turn_answer system.kernel.disk) ≡ true
    → (disk_served told system).emitted ≡ []
says_by_whom None told system is still = ap (λ c. c.emitted) (served_nobody told system is)
says_by_whom (Some p) told system is still = ap (λ c. c.emitted) (served_still told p system is still)

pub ended_still : (telling : Telling) (system : System) → IsPaid system → NobodyAborted system.kernel → system.abort_deferred ≡ false
    → is_still (turn_answer system.kernel.disk) ≡ true → ended_after telling system ≡ step_passed system
unfolding ended_after
ended_still telling system paid nobody off still = ap with_ends (entered_still telling system paid still) ∙ no_ends (step_passed system) nobody off

-- the records of the calls that it began with come out
pub rest_recorded : (instruction : Bool) (telling : Telling) (system : System) → IsPaid system → NobodyAborted system.kernel → system.abort_deferred ≡ false
    → is_still (turn_answer system.kernel.disk) ≡ true → rest_of instruction telling (silent system) ≡ runner_picked instruction (records_out (step_passed system))
unfolding rest_of
rest_recorded instruction telling system paid nobody off still =
    let passed = step_passed system in
    let F : System → List Output → SystemChange = λ ended said. runner_picked instruction (with_records (record { system = ended; emitted = said ++ [] })) in
    let ended : all_paid (ended_after telling system) ≡ passed = ap all_paid (ended_still telling system paid nobody off still) ∙ paid_passed system paid still in
    ap (λ (s : System). F s (disk_served telling.at_disk system).emitted) ended
    ∙ ap (F passed) (says_by_whom (served_process system.kernel.disk) telling.at_disk system refl still)

-- or nothing does
pub rest_still : (instruction : Bool) (telling : Telling) (system : System) → NoCompletions system → NobodyAborted system.kernel → system.abort_deferred ≡ false
    → is_still (turn_answer system.kernel.disk) ≡ true → rest_of instruction telling (silent system) ≡ runner_picked instruction (silent (step_passed system))
rest_still instruction telling system none nobody off still =
    rest_recorded instruction telling system none.paid nobody off still ∙ ap (runner_picked instruction) (nothing_out (step_passed system) none.written)

-- a call that is in service goes on so, and none begins; and files are within one as they were

pub none_before : (served : Option Served) (n : ℕ) → option_map (passed_on n) served ≡ None → served ≡ None
none_before None n is = refl
none_before (Some call) n is = absurd (cc)

-- after some of them the others can pass
pub can_pass_on : (n m : ℕ) (disk : DiskService) → CanPass (n + m) disk → CanPass m (passed_by n disk)
unfolding passed_by
can_pass_on n m disk can = record {
  within = rest disk.served disk.turn_steps n m can.within;
  nobody = λ some idle. can.nobody (omega (arith, some)) (none_before disk.served n idle);
}
  where
    rest : (served : Option Served) (turn_steps n m : ℕ) → IfSome served (λ call. call.passed + (n + m) < turn_steps)
        → IfSome (option_map (passed_on n) served) (λ call. call.passed + m < turn_steps)
    rest None turn_steps n m within = tt
    rest (Some call) turn_steps n m within = omega (arith, within)

pub within_on : (served : Option Served) (files : FilesInService) (n : ℕ) → AreWithin served files → AreWithin (option_map (passed_on n) served) files
within_on None (Between filing) n within = tt
within_on None (Within s) n within = absurd within
within_on (Some call) (Between filing) n within = absurd within
within_on (Some call) (Within s) n within = tt
