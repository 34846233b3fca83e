-- Held calls that are completed, answered one after another.
use Rattle.std.proofs.Common.{◌≡◌, ◌∙◌, ℕ, suc, ◌+◌, ◌<◌, ◌≤◌, ◌==◌, Bool, true, false, if◌then◌else◌, List, [], ◌∷◌, length, Option, Some, None, drop, arith, refl, sym, ap}
use Rattle.std.proofs.lemmas.Bool.{eq-eqb}
use Rattle.std.proofs.lemmas.List.{length-append}
use Rattle.mpm_base.proofs.Choices.{either}
use Rattle.mpm_base.proofs.CountLaws.{count_cons, one_if_true}
use Rattle.mpm_base.specs.Calls.{Taken}
use Rattle.mpm_procs.specs.Table.{Lives, process_in, call_of}
use Rattle.mpm_dispatcher.specs.Dispatch.{with_completed, first_completed}
use Rattle.mpm_kernel.specs.Kernel.{Kernel, dispatched}
use Rattle.mpm_kernel.specs.Awaiting.{completions}
use Rattle.mpm_kernel.specs.Completion.{completion_of}
use Rattle.mpm_kernel.specs.Waiting.{completion_reply}
use Rattle.mpm_kernel.specs.Events.{with_first, handed_out}
use Rattle.mpm_kernel.proofs.HomeLaws.{lives_handed_out, call_handed_out, seg_handed_out, completed_handed_out}
use Rattle.mpm_system.specs.declared.system.System.{System}
use Rattle.mpm_system.specs.Whole.{most_records, HasRoom, HasRoomForAll}
use Rattle.mpm_system.specs.Sending.{chains}
use Rattle.mpm_system.specs.Answering.{completion, recorded, answering_call, replied}
use Rattle.mpm_machine.specs.Ending.{ended}
use Rattle.mpm_machine.specs.Serving.{is_entry, with_entry, reply_at_entry, fulfilling}
use Rattle.mpm_machine.specs.Finishing.{finished, completion_dequeued, finishing, all_finished, command_let_in, finished_or_ended, answered_from, all_answered}
use Rattle.mpm_machine.proofs.EntryLaws.{completed_entered}

-- who is completed first, and the others
pub completed_first : (ps : List ℕ) (p : ℕ) → first_completed ps ≡ Some p → ps ≡ p ∷ drop 1 ps
completed_first [] p e = absurd (cc)
completed_first (q ∷ ps) p e = cc

pub completed_none : (ps : List ℕ) → first_completed ps ≡ None → ps ≡ []
completed_none [] e = refl
completed_none (q ∷ ps) e = absurd (cc)

-- a reply completes nobody, and adds a record at most
pub same_completed : (seg : Option ℕ) (p : ℕ) (system : System) → (finished seg p system).kernel.dispatcher.completed ≡ system.kernel.dispatcher.completed
unfolding with_entry fulfilling answering_call recorded replied
same_completed None p system = refl
same_completed (Some seg) p system =
    either (λ (k : Kernel). k.dispatcher.completed ≡ system.kernel.dispatcher.completed) (is_entry (call_of system.kernel.dispatcher.procs p) (completion_reply system.kernel p)) _ system.kernel
    (λ _. completed_entered p system.kernel) (λ _. refl)

pub one_record : (call : Taken) (p : ℕ) (system : System) → length (recorded call p system).records ≡ length system.records + 1
unfolding recorded
one_record call p system = length-append system.records (completion call p system ∷ [])

finished_records : (seg : Option ℕ) (p : ℕ) (system : System) → length (finished seg p system).records ≤ length system.records + 1
unfolding with_entry fulfilling answering_call replied
finished_records None p system = omega arith
finished_records (Some seg) p system =
    let call = call_of system.kernel.dispatcher.procs p in
    let reply = completion_reply system.kernel p in
    omega (arith, one_record call p (replied (reply_at_entry reply call p system) call p seg (with_entry reply call p system)))

-- the first of them is answered, and the others remain
abbrev pub first_finished : ℕ → System → System
first_finished p system = finished (process_in system.kernel.dispatcher.procs p).seg p (completion_dequeued system)

all_one : (ps : List ℕ) (p : ℕ) (system : System) → finishing (p ∷ ps) system ≡ finishing ps (first_finished p system)
unfolding finishing
all_one ps p system = refl

pub left_completed : (p : ℕ) (ps : List ℕ) (system : System) → system.kernel.dispatcher.completed ≡ p ∷ ps → (first_finished p system).kernel.dispatcher.completed ≡ ps
left_completed p ps system e =
    same_completed (process_in system.kernel.dispatcher.procs p).seg p (completion_dequeued system) ∙ completed_handed_out system.kernel ∙ ap (drop 1) e

-- the next process is handed out

pub dequeued_nobody : (system : System) → first_completed system.kernel.dispatcher.completed ≡ None → completion_dequeued system ≡ system
unfolding handed_out
dequeued_nobody system none =
    let e = completed_none system.kernel.dispatcher.completed none in
    let left = dispatched (with_completed (drop 1 system.kernel.dispatcher.completed)) system.kernel in
    ap (λ (first : Option ℕ). record system { kernel = with_first first left }) none
    ∙ ap (λ ps. record system { kernel = record system.kernel { dispatcher = record system.kernel.dispatcher { completed = ps } } }) (ap (drop 1) e ∙ sym e)

pub dequeued_lives : (kernel : Kernel) (p : ℕ) → Lives kernel.dispatcher.procs p → Lives (handed_out kernel).dispatcher.procs p
dequeued_lives kernel p h = lives_handed_out kernel p ∙ h

pub dequeued_reply : (kernel : Kernel) (p : ℕ) → completion_reply (handed_out kernel) p ≡ completion_reply kernel p
dequeued_reply kernel p = ap completion_of (call_handed_out kernel p)

pub home_dequeued : (system : System) (p : ℕ) → (process_in (completion_dequeued system).kernel.dispatcher.procs p).seg ≡ (process_in system.kernel.dispatcher.procs p).seg
home_dequeued system p = seg_handed_out system.kernel p

-- the system after its answer
pub finished_first : (now next new : System) (p : ℕ) → next ≡ completion_dequeued now → new ≡ finished (process_in next.kernel.dispatcher.procs p).seg p next
    → new ≡ first_finished p now
finished_first now next new p is was =
    was ∙ ap (λ (s : System). finished (process_in s.kernel.dispatcher.procs p).seg p s) is ∙ ap (λ seg. finished seg p (completion_dequeued now)) (home_dequeued now p)

-- some were answered: all that were completed at the start are answered as what is left of them is
pub finished_more : (start now next : System) (p : ℕ) → all_finished start ≡ all_finished now → first_completed now.kernel.dispatcher.completed ≡ Some p
    → next ≡ first_finished p now → all_finished start ≡ all_finished next
finished_more start now next p so first is =
    let ps = drop 1 now.kernel.dispatcher.completed in
    let whole = completed_first now.kernel.dispatcher.completed p first in
    let left : next.kernel.dispatcher.completed ≡ ps = ap (λ (s : System). s.kernel.dispatcher.completed) is ∙ left_completed p ps now whole in
    so ∙ ap (λ qs. finishing qs now) whole ∙ all_one ps p now ∙ ap (finishing ps) (sym is) ∙ ap (λ qs. finishing qs next) (sym left)

-- all were answered

nothing_left : (system : System) → system.kernel.dispatcher.completed ≡ [] → all_finished system ≡ system
unfolding finishing
nothing_left system e = ap (λ qs. finishing qs system) e

pub finished_nobody : (system : System) → system.kernel.dispatcher.completed ≡ [] → system ≡ all_finished system
finished_nobody system e = sym (nothing_left system e)

pub finished_system : (start now : System) → all_finished start ≡ all_finished now → now.kernel.dispatcher.completed ≡ [] → now ≡ all_finished start
finished_system start now so e = sym (so ∙ nothing_left now e)

-- nobody is left after it
pub no_completions_finished : (ps : List ℕ) (system : System) → system.kernel.dispatcher.completed ≡ ps → (finishing ps system).kernel.dispatcher.completed ≡ []
unfolding finishing
no_completions_finished [] system e = e
no_completions_finished (p ∷ ps) system e = no_completions_finished ps (first_finished p system) (left_completed p ps system e)

-- fewer are left, and there is room for the records of all

more_than_rest : (ps : List ℕ) (p : ℕ) → first_completed ps ≡ Some p → suc (length (drop 1 ps)) ≤ length ps
more_than_rest [] p e = absurd (cc)
more_than_rest (q ∷ ps) p e = omega arith

pub fewer_left : (now new : System) (p : ℕ) → first_completed now.kernel.dispatcher.completed ≡ Some p → new ≡ first_finished p now
    → suc (length new.kernel.dispatcher.completed) ≤ length now.kernel.dispatcher.completed
fewer_left now new p first is =
    let ps = drop 1 now.kernel.dispatcher.completed in
    let left : new.kernel.dispatcher.completed ≡ ps =
    ap (λ (s : System). s.kernel.dispatcher.completed) is ∙ left_completed p ps now (completed_first now.kernel.dispatcher.completed p first) in
    omega (arith, more_than_rest now.kernel.dispatcher.completed p first, ap length left)

abbrev pub AllHaveRoom : System → Type 0
AllHaveRoom system = length system.records + length system.kernel.dispatcher.completed ≤ most_records

pub has_room : (now next : System) (p : ℕ) → AllHaveRoom now → first_completed now.kernel.dispatcher.completed ≡ Some p → next ≡ completion_dequeued now → HasRoom next
has_room now next p room first is =
    omega (arith, room, more_than_rest now.kernel.dispatcher.completed p first, ap (λ (s : System). length s.records) is)

pub others_have_room : (now new : System) (p : ℕ) → AllHaveRoom now → first_completed now.kernel.dispatcher.completed ≡ Some p → new ≡ first_finished p now → AllHaveRoom new
others_have_room now new p room first is =
    omega (
      arith,
      room,
      fewer_left now new p first is,
      ap (λ (s : System). length s.records) is,
      finished_records (process_in now.kernel.dispatcher.procs p).seg p (completion_dequeued now),
    )

-- as many more records there are then, at most
finishing_few : (ps : List ℕ) (system : System) → length (finishing ps system).records ≤ length system.records + length ps
unfolding finishing
finishing_few [] system = omega arith
finishing_few (p ∷ ps) system =
    let seg = (process_in system.kernel.dispatcher.procs p).seg in
    omega (arith, finishing_few ps (finished seg p (completion_dequeued system)), finished_records seg p (completion_dequeued system))

pub finished_few : (system new : System) → new ≡ all_finished system → length system.kernel.dispatcher.completed ≤ 64 → length new.records ≤ length system.records + 64
finished_few system new is few = omega (arith, ap (λ (s : System). length s.records) is, finishing_few system.kernel.dispatcher.completed system, few)

-- the first of those that a step completed was answered, and then the others

pub answered_system : (p : ℕ) (old handed first new : System) → first_completed old.kernel.dispatcher.completed ≡ Some p → handed ≡ completion_dequeued old
    → first ≡ finished_or_ended p (command_let_in p handed) → new ≡ all_finished first → new ≡ all_answered old
unfolding answered_from
answered_system p old handed first new is out done all =
    all ∙ ap all_finished (done ∙ ap (λ (s : System). finished_or_ended p (command_let_in p s)) out) ∙ sym (ap (λ o. answered_from o old) is)

pub answered_nobody : (system : System) → first_completed system.kernel.dispatcher.completed ≡ None → all_answered system ≡ system
unfolding answered_from
answered_nobody system none = ap (λ o. answered_from o system) none

pub answered_none : (system : System) → system.kernel.dispatcher.completed ≡ [] → system ≡ all_answered system
answered_none system e = sym (answered_nobody system (ap first_completed e))

first_records : (p : ℕ) (system : System) → length (finished_or_ended p system).records ≤ length system.records + 1
unfolding ended
first_records p system =
    either (λ (s : System). length s.records ≤ length system.records + 1) (chains p system.kernel) _ _ (λ _. omega arith)
    (λ _. finished_records (process_in system.kernel.dispatcher.procs p).seg p system)

pub first_has_room : (old handed : System) → HasRoomForAll (length old.records + 1) → handed ≡ completion_dequeued old → HasRoom handed
first_has_room old handed room out = omega (arith, room, ap (λ (s : System). length s.records) out)

pub answered_few : (p : ℕ) (old handed first new : System) → handed ≡ completion_dequeued old → first ≡ finished_or_ended p (command_let_in p handed)
    → length new.records ≤ length first.records + 64 → length new.records ≤ length old.records + 65
answered_few p old handed first new out done few =
    omega (
      arith,
      few,
      ap (λ (s : System). length s.records) done,
      first_records p (command_let_in p handed),
      ap (λ (s : System). length s.records) out,
    )

pub rest_have_room : (p : ℕ) (old handed first : System) → HasRoomForAll (length old.records + 1) → handed ≡ completion_dequeued old
    → first ≡ finished_or_ended p (command_let_in p handed) → HasRoomForAll (length first.records)
rest_have_room p old handed first room out done =
    omega (
      arith,
      room,
      ap (λ (s : System). length s.records) done,
      first_records p (command_let_in p handed),
      ap (λ (s : System). length s.records) out,
    )

-- who is handed out first is among the completed
pub some_first : (q : ℕ) (completed : List ℕ) → first_completed completed ≡ Some q → 0 < completions q completed
some_first q [] first = absurd (cc)
some_first q (p ∷ ps) first =
    let same : p ≡ q = cc in
    omega (arith, count_cons (λ x. x == q) p ps, one_if_true (p == q) (eq-eqb p q same))

pub few_awaited : (b : Bool) (places : ℕ) → places ≤ 1 → (if b then 1 else places) ≤ 1
few_awaited true places few = omega arith
few_awaited false places few = few
