-- What the rest of a step leaves of processes and memory, where no call is over in it and nobody's end is due: all of it.
use Rattle.std.proofs.Common.{◌≡◌, ◌∙◌, ℕ, ◌+◌, ◌-◌, ◌==◌, Bool, true, false, not, ◌&&◌, ◌||◌, if◌then◌else◌, List, [], ◌∷◌, Option, Some, None, is_some, option_map, refl, sym, ap, subst}
use Rattle.std.specs.Prelude.{option_and_then}
use Rattle.std.specs.List.{range_with_len}
use Rattle.std.proofs.lemmas.Bool.{false≢true}
use Rattle.mpm_ready.specs.Order.{first_of}
use Rattle.mpm_procs.specs.Table.{Table}
use Rattle.mpm_queues.specs.Queues.{Queues, lowest_held}
use Rattle.mpm_service.specs.Places.{is_call_of}
use Rattle.mpm_service.specs.Disk.{DiskService, served_process, turn_answer, step_answer, answer_by, after_step, served_after, turned, is_last_step, begun}
use Rattle.mpm_service.specs.declared.service.Served.{Served}
use Rattle.mpm_service.specs.declared.service.Turn.{Turn}
use Rattle.mpm_service.specs.declared.service.Turn.TheVariants.{Idle, Passing, Work, Starts}
use Rattle.mpm_kernel.specs.Kernel.{is_aborted}
use Rattle.mpm_kernel.specs.Disk.{is_served, with_disk}
use Rattle.mpm_xdos.specs.Aborting.{waits_to_end}
use Rattle.mpm_directories.specs.Direct.{Directly}
use Rattle.mpm_system.specs.declared.system.System.{System}
use Rattle.mpm_system.specs.Whole.{silent}
use Rattle.mpm_machine.specs.Ending.{ended}
use Rattle.mpm_machine.specs.Finishing.{all_finished}
use Rattle.mpm_machine.specs.Due.{is_due, NobodyDue, ended_if_due, due_terminated, all_due_terminated, with_ends}
use Rattle.mpm_machine.specs.DiskStep.{with_kernel, step_passed, over_after, over_by, served_by, disk_served, process_over, all_paid, entered_by, entered_unless, call_entered}
use Rattle.mpm_machine.specs.Stepping.{Telling, entered_after, ended_after, rest_of}

-- processes, queues and memory are the same, and whose call was in service has it still
pub record SameView (old new : System) : Type 0 where
  pub memory : new.memory ≡ old.memory
  pub procs : new.kernel.dispatcher.procs ≡ old.kernel.dispatcher.procs
  pub queues : new.kernel.queues ≡ old.kernel.queues
  pub serves : (p : ℕ) → is_served old.kernel p ≡ true → is_served new.kernel p ≡ true

same_itself : (system : System) → SameView system system
same_itself system = record { memory = refl; procs = refl; queues = refl; serves = λ p h. h }

same_then : (a b c : System) → SameView a b → SameView b c → SameView a c
same_then a b c first last = record {
  memory = last.memory ∙ first.memory;
  procs = last.procs ∙ first.procs;
  queues = last.queues ∙ first.queues;
  serves = λ p h. last.serves p (first.serves p h);
}

same_is : (a b c : System) → b ≡ c → SameView a c → SameView a b
same_is a b c is same = subst (λ (s : System). SameView a s) (sym is) same

-- the disk's step, whose last turn isn't over

kept_by : (last one : Bool) (p left passed : ℕ) (q : ℕ) → over_by (if last then Work p one else Passing) ≡ None → (p == q) ≡ true
    → is_call_of q (if last then (if one then None else (Some (record { p = p; left = left - 1; passed = 0 }))) else (Some (record { p = p; left = left; passed = passed }))) ≡ true
kept_by true true p left passed q none is = absurd (cc none)
kept_by true false p left passed q none is = is
kept_by false one p left passed q none is = is

keeps_served : (turn_steps : ℕ) (served : Option Served) (first : Option ℕ) (q : ℕ) → over_by (answer_by turn_steps served first) ≡ None → is_call_of q served ≡ true
    → is_call_of q (served_after turn_steps served first) ≡ true
unfolding step_answer after_step
keeps_served turn_steps None first q none is = absurd (false≢true is)
keeps_served turn_steps (Some call) first q none is =
    kept_by (is_last_step turn_steps call) (call.left == 1) call.p call.left (call.passed + 1) q none is

passes : (system : System) → over_by (turn_answer system.kernel.disk) ≡ None → SameView system (step_passed system)
unfolding turned turn_answer
passes system none =
    let disk = system.kernel.disk in
    record { memory = refl; procs = refl; queues = refl; serves = λ q h. keeps_served disk.turn_steps disk.served (first_of disk.waiting) q none h }

not_over : (turn : Turn) (told : Directly) (passed : System) → over_by turn ≡ None → (over_after turn told passed).system ≡ passed
not_over Idle told passed none = refl
not_over Passing told passed none = refl
not_over (Starts p) told passed none = refl
not_over (Work p true) told passed none = absurd (cc none)
not_over (Work p false) told passed none = refl

served_same_by : (serves : Option ℕ) (told : Directly) (system : System) → option_and_then (λ (p : ℕ). over_by (turn_answer system.kernel.disk)) serves ≡ None
    → SameView system (served_by serves told system).system
served_same_by None told system none = same_itself system
served_same_by (Some p) told system none =
    same_is system _ (step_passed system) (not_over (turn_answer system.kernel.disk) told (step_passed system) none) (passes system none)

served_same : (told : Directly) (system : System) → process_over system ≡ None → SameView system (disk_served told system).system
unfolding disk_served process_over
served_same told system none = served_same_by (served_process system.kernel.disk) told system none

paid_same : (system : System) → SameView system (all_paid system)
unfolding all_paid
paid_same system = record { memory = refl; procs = refl; queues = refl; serves = λ p h. h }

-- a call enters service

nobody_is : (served : Option Served) (q : ℕ) → option_map (λ (call : Served). call.p) served ≡ None → is_call_of q served ≡ false
nobody_is None q none = refl
nobody_is (Some call) q none = absurd (cc none)

nobody_served : (disk : DiskService) (q : ℕ) → served_process disk ≡ None → is_call_of q disk.served ≡ false
unfolding served_process
nobody_served disk q none = nobody_is disk.served q none

any_same : (system : System) (f : DiskService → DiskService) → served_process system.kernel.disk ≡ None → SameView system (with_kernel (with_disk f) system)
any_same system f none =
    record { memory = refl; procs = refl; queues = refl; serves = λ q h. absurd (false≢true (sym (nobody_served system.kernel.disk q none) ∙ h)) }

enters_same : (turn : Turn) (turns : ℕ) (system : System) → served_process system.kernel.disk ≡ None → SameView system (entered_by turn turns (step_passed system))
enters_same Idle turns system none = any_same system turned none
enters_same Passing turns system none = any_same system turned none
enters_same (Work p last) turns system none = any_same system turned none
enters_same (Starts p) turns system none = any_same system (λ disk. begun (turned disk) turns) none

entered_same_by : (serves : Option ℕ) (turns : ℕ) (system : System) → served_process system.kernel.disk ≡ serves → SameView system (entered_unless serves turns system)
entered_same_by None turns system none = enters_same (turn_answer system.kernel.disk) turns system none
entered_same_by (Some p) turns system serves = same_itself system

entered_same : (turns : ℕ) (system : System) → SameView system (call_entered turns system)
unfolding call_entered
entered_same turns system = entered_same_by (served_process system.kernel.disk) turns system refl

behind_disk : (telling : Telling) (system : System) → process_over system ≡ None → SameView system (entered_after telling system)
unfolding entered_after
behind_disk telling system none =
    let served = (disk_served telling.at_disk system).system in
    same_then system served _ (served_same telling.at_disk system none)
    (same_then served (all_paid served) _ (paid_same served) (entered_same telling.turns (all_paid served)))

-- nobody's end is due then either

still_waits : (aborted was is holds : Bool) → (was ≡ true → is ≡ true) → (aborted && not (was || holds)) ≡ false → (aborted && not (is || holds)) ≡ false
still_waits false was is holds serves none = refl
still_waits true true true holds serves none = refl
still_waits true true false holds serves none = absurd (false≢true (serves refl))
still_waits true false true holds serves none = refl
still_waits true false false holds serves none = none

not_due : (old new : System) → NobodyDue old.kernel → SameView old new → NobodyDue new.kernel
unfolding NobodyDue
not_due old new none same = λ q.
    ap (λ (procs : Table). is_aborted procs q && not (waits_to_end new.kernel q)) same.procs
    ∙ ap (λ (queues : Queues). is_aborted old.kernel.dispatcher.procs q && not (is_served new.kernel q || is_some (lowest_held queues q))) same.queues
    ∙ still_waits (is_aborted old.kernel.dispatcher.procs q) (is_served old.kernel q) (is_served new.kernel q) (is_some (lowest_held old.kernel.queues q)) (same.serves q) (none q)

stays_if : (p : ℕ) (system : System) → is_due system.kernel p ≡ false → ended_if_due p system ≡ system
unfolding ended_if_due
stays_if p system off = ap (λ (b : Bool). if b then all_finished (ended p system) else system) off

nobody_ends : (ps : List ℕ) (system : System) → ((p : ℕ) → is_due system.kernel p ≡ false) → due_terminated ps system ≡ system
unfolding due_terminated
nobody_ends [] system none = refl
nobody_ends (p ∷ ps) system none = ap (due_terminated ps) (stays_if p system (none p)) ∙ nobody_ends ps system none

ends_same : (system : System) → NobodyDue system.kernel → SameView system (with_ends system)
unfolding with_ends NobodyDue
ends_same system none =
    let all = all_due_terminated system in
    let stays : all ≡ system = nobody_ends (range_with_len 0 32) system none in
    subst (λ (s : System). SameView s (with_ends system)) stays (record { memory = refl; procs = refl; queues = refl; serves = λ p h. h })

-- so the whole rest leaves them
pub rest_same : (instruction : Bool) (telling : Telling) (system : System) → process_over system ≡ None → NobodyDue system.kernel
    → SameView system (rest_of instruction telling (silent system)).system
unfolding rest_of ended_after
rest_same instruction telling system none due =
    let entered = entered_after telling system in
    let before = behind_disk telling system none in
    let ends = with_ends entered in
    same_then system entered _ before
    (same_then entered ends _ (ends_same entered (not_due system entered due before))
    (same_then ends (all_paid ends) _ (paid_same ends) (record { memory = refl; procs = refl; queues = refl; serves = λ p h. h })))
