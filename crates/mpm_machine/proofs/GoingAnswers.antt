-- The command line interpreter goes on with the segment that it has reserved: through the event that comes, the answers to held calls,
-- and the ends that are due.
use Rattle.std.proofs.Common.{ℕ, zero, suc, [], ◌≡◌, ◌≢◌, ◌∙◌, true, false, List, ◌∷◌, length, Option, Some, None, IfSome, refl, sym, ap, subst, arith}
use Rattle.std.proofs.lemmas.Bool.{and_parts, false≢true}
use Rattle.std.specs.List.{range_with_len}
use Rattle.mpm_base.proofs.Choices.{either}
use Rattle.mpm_residents.specs.Interpreters.{Interpreter}
use Rattle.mpm_residents.specs.declared.cli.table.Row.{Row}
use Rattle.mpm_residents.specs.declared.cli.table.Row.TheVariants.{ReadCommand, OpenQueue, WriteQueue, SetUser, OpenRelocatable, OpenAbsolute, ReadHeader, ComputeSize, SetUserZero, Reserve, Place, Patch, ReadOn, Free, CloseAfter, Close, Tell, Give, PlaceBasePage, Begin}
use Rattle.mpm_consoles.specs.Consoles.{Consoles}
use Rattle.mpm_dispatcher.specs.Dispatch.{first_completed}
use Rattle.mpm_interrupts.specs.Interrupts.{due_taken}
use Rattle.mpm_kernel.proofs.AwaitingEnds.{awaits_happened, awaits_handed_out, awaits_answered, none_handed_out}
use Rattle.mpm_kernel.proofs.DiskLaws.{ready_not_at_disk}
use Rattle.mpm_kernel.proofs.DiskStays.{disk_happened, disk_handed_out}
use Rattle.mpm_kernel.proofs.HomeLaws.{beside_happened, consoles_happened, beside_handed_out, units_handed_out}
use Rattle.mpm_kernel.specs.Awaiting.{AwaitsIn}
use Rattle.mpm_kernel.specs.Consoling.{abort_taken}
use Rattle.mpm_kernel.specs.Events.{MayCome, happened, handed_out}
use Rattle.mpm_kernel.specs.Kernel.{Kernel, is_aborted}
use Rattle.mpm_procs.specs.Table.{lives, Lives, process_in}
use Rattle.mpm_script.specs.declared.event.Event.{Event}
use Rattle.mpm_service.specs.Places.{at_disk}
use Rattle.mpm_system.specs.Sending.{chains, is_command}
use Rattle.mpm_system.specs.Whole.{IsWhole}
use Rattle.mpm_system.specs.Coming.{unhalted}
use Rattle.mpm_system.specs.declared.system.System.{System}
use Rattle.mpm_machine.proofs.FinishLaws.{some_first, few_awaited, first_finished, left_completed}
use Rattle.mpm_machine.proofs.GoingOn.{not_chaining}
use Rattle.mpm_machine.proofs.GoingOwn.{same_interpreter, goes_acted}
use Rattle.mpm_machine.proofs.GoingParts.{same_place, goes_aborted, goes_ended, goes_fulfilling, goes_kernel, goes_passed, goes_regs, goes_same, none_passed}
use Rattle.mpm_machine.proofs.OwnLaws.{AwaitsNothing, is_reserving, interprets_taken, interprets_another}
use Rattle.mpm_machine.proofs.SendingLaws.{lets_in as lets_command_in}
use Rattle.mpm_machine.proofs.WholeLaws.{whole_ended}
use Rattle.mpm_machine.proofs.WholeStepLaws.{whole_unhalted, aborted_lives, due_lives, lives_in_time, whole_abort_taken, whole_dequeued, whole_due, whole_first, whole_first_answered, whole_happened, whole_if_due}
use Rattle.mpm_machine.specs.Due.{due_terminated, ended_if_due, is_due, with_ends}
use Rattle.mpm_machine.specs.Ending.{ended}
use Rattle.mpm_machine.specs.Finishing.{all_answered, all_finished, answered_from, command_let_in, completion_dequeued, finished, finished_or_ended, finishing}
use Rattle.mpm_machine.specs.Interpreting.{Interprets, IsActing, is_reading, awaited}
use Rattle.mpm_machine.specs.Step.{begun_by, event_come, happened_to, interrupted, key_aborted}

-- slot 0 awaits no answer, and what it does doesn't go by one that reserves
pub record IsHandedOut (system : System) (i : Interprets system) : Type 0 where
  pub other : is_reserving i.acting.cli.row ≡ false
  pub none : AwaitsNothing system.kernel

-- an event comes

goes_unhalted : (running : Option ℕ) (system : System) → Interprets system → Interprets (record system { kernel = unhalted running system.kernel })
goes_unhalted None system a = a
goes_unhalted (Some p) system a = goes_regs p (record (process_in system.kernel.dispatcher.procs p).regs { halted = false }) system a

goes_happened : (event : Event) (system : System) → IsWhole system → Interprets system → Interprets (record system { kernel = happened event system.kernel })
goes_happened event system w a =
    goes_kernel system _ (beside_happened event 0 system.kernel) (consoles_happened event system.kernel)
    (same_place system.kernel (happened event system.kernel) (disk_happened event system.kernel)) (λ k x. awaits_happened k 0 event system.kernel w.sound x) a

goes_key_aborted : (aborts : Option ℕ) (system : System) → IsWhole system → IfSome aborts (λ p. Lives system.kernel.dispatcher.procs p) → Interprets system
    → Interprets (key_aborted aborts system)
goes_key_aborted None system w living a = a
goes_key_aborted (Some p) system w living a =
    goes_aborted p (record system { kernel = abort_taken system.kernel }) (whole_abort_taken system w) living (goes_same system _ refl refl refl refl refl refl refl a)

goes_event_come : (event : Event) (system : System) → MayCome event → IsWhole system → Interprets system → Interprets (event_come event system).system
unfolding event_come
goes_event_come event system may w a =
    let before = record system { kernel = unhalted system.kernel.dispatcher.running system.kernel } in
    goes_key_aborted (happened_to event system).kernel.aborted (happened_to event system)
    (whole_happened event system before (happened event before.kernel) may w refl refl)
    (aborted_lives event system before (happened event before.kernel) w refl refl)
    (goes_happened event before (whole_unhalted system.kernel.dispatcher.running system w refl) (goes_unhalted system.kernel.dispatcher.running system a))

goes_interrupted : (event : Event) (system : System) → MayCome event → IsWhole system → Interprets system → Interprets (interrupted event system).system
unfolding interrupted
goes_interrupted event system may w a =
    let taken = due_taken system.steps system.interrupts in
    goes_event_come event (record system { interrupts = taken }) may (whole_due system taken w refl) (goes_same system _ refl refl refl refl refl refl refl a)

pub goes_begun : (event : Option Event) (system : System) → IfSome event MayCome → IsWhole system → Interprets system → Interprets (begun_by event system).system
goes_begun None system may w a = goes_acted system w a
goes_begun (Some event) system may w a = goes_interrupted event system may w a

-- the held calls that were completed are answered: a process in slot 0 that is handed out read a command

pub goes_finished : (seg : Option ℕ) (p : ℕ) (system : System) (i : Interprets system) → (0 ≡ p → IsHandedOut system i) → Interprets (finished seg p system)
goes_finished None zero system i out = (let handed = out refl in interprets_taken system _ i handed.other handed.none)
goes_finished None (suc q) system i out = interprets_another system _ q i
goes_finished (Some seg) p system i out = goes_fulfilling _ _ p seg system i

pub goes_dequeued : (system : System) → Interprets system → Interprets (completion_dequeued system)
goes_dequeued system i =
    goes_kernel system _ (beside_handed_out 0 system.kernel) (ap (λ (u : Consoles). length u.consoles) (units_handed_out system.kernel))
    (same_place system.kernel (handed_out system.kernel) (disk_handed_out system.kernel)) (λ k x. awaits_handed_out k 0 system.kernel x) i

-- who is handed out is ready, and so not at the disk
pub handed_out_gone : (system : System) → IsWhole system → (i : Interprets system) → first_completed system.kernel.dispatcher.completed ≡ Some 0 → at_disk system.kernel.disk 0 ≡ 0
handed_out_gone system w i first =
    let few = few_awaited (is_reading i.acting.cli.row) (at_disk system.kernel.disk 0) (omega (arith, w.sound.once 0)) in
    ready_not_at_disk system.kernel 0 w.sound (i.awaits.at_once (omega (arith, few, some_first 0 system.kernel.dispatcher.completed first)))

handed_in : (row : Row) (system : System) → first_completed system.kernel.dispatcher.completed ≡ Some 0 → AwaitsIn (awaited 0 row) 0 system.kernel
    → (is_reserving row ≡ false) × AwaitsIn 0 0 (handed_out system.kernel)
handed_in ReadCommand system first a = (refl, awaits_answered 0 system.kernel first a)
handed_in OpenQueue system first a = absurd (none_handed_out 0 0 system.kernel first a refl)
handed_in WriteQueue system first a = absurd (none_handed_out 0 0 system.kernel first a refl)
handed_in SetUser system first a = absurd (none_handed_out 0 0 system.kernel first a refl)
handed_in OpenRelocatable system first a = absurd (none_handed_out 0 0 system.kernel first a refl)
handed_in OpenAbsolute system first a = absurd (none_handed_out 0 0 system.kernel first a refl)
handed_in ReadHeader system first a = absurd (none_handed_out 0 0 system.kernel first a refl)
handed_in ComputeSize system first a = absurd (none_handed_out 0 0 system.kernel first a refl)
handed_in SetUserZero system first a = absurd (none_handed_out 0 0 system.kernel first a refl)
handed_in (Reserve relocatable pages) system first a = absurd (none_handed_out 0 0 system.kernel first a refl)
handed_in Place system first a = absurd (none_handed_out 0 0 system.kernel first a refl)
handed_in Patch system first a = absurd (none_handed_out 0 0 system.kernel first a refl)
handed_in ReadOn system first a = absurd (none_handed_out 0 0 system.kernel first a refl)
handed_in (Free message) system first a = absurd (none_handed_out 0 0 system.kernel first a refl)
handed_in (CloseAfter message) system first a = absurd (none_handed_out 0 0 system.kernel first a refl)
handed_in Close system first a = absurd (none_handed_out 0 0 system.kernel first a refl)
handed_in (Tell message) system first a = absurd (none_handed_out 0 0 system.kernel first a refl)
handed_in Give system first a = absurd (none_handed_out 0 0 system.kernel first a refl)
handed_in PlaceBasePage system first a = absurd (none_handed_out 0 0 system.kernel first a refl)
handed_in Begin system first a = absurd (none_handed_out 0 0 system.kernel first a refl)

-- it awaited no more
pub handed_behind : (p : ℕ) (system : System) → IsWhole system → (i : Interprets system) (after : System) (b : Interprets after)
    → first_completed system.kernel.dispatcher.completed ≡ Some p → after.residents ≡ system.residents
    → (AwaitsNothing (handed_out system.kernel) → AwaitsNothing after.kernel) → 0 ≡ p → IsHandedOut after b
handed_behind p system w i after b first same awaits is =
    let zero_first : first_completed system.kernel.dispatcher.completed ≡ Some 0 = first ∙ ap (λ (n : ℕ). Some n) (sym is) in
    let gone = handed_out_gone system w i zero_first in
    let own = handed_in i.acting.cli.row system zero_first (subst (λ (places : ℕ). AwaitsIn (awaited places i.acting.cli.row) 0 system.kernel) gone i.awaits) in
    let place = same_place system.kernel (handed_out system.kernel) (disk_handed_out system.kernel) in
    record {
      other = ap (λ (c : Interpreter). is_reserving c.row) (same_interpreter system after i b same) ∙ own.0;
      none = awaits (own.1, place ∙ gone);
    }

goes_finishing : (ps : List ℕ) (system : System) → IsWhole system → system.kernel.dispatcher.completed ≡ ps → Interprets system → Interprets (finishing ps system)
unfolding finishing
goes_finishing [] system w is a = a
goes_finishing (p ∷ ps) system w is a =
    let out = completion_dequeued system in
    let behind = goes_dequeued system a in
    let first = ap first_completed is in
    goes_finishing ps (first_finished p system) (whole_first p system w first) (left_completed p ps system is)
    (goes_finished (process_in system.kernel.dispatcher.procs p).seg p out behind (handed_behind p system w a out behind first refl (λ none. none)))

pub goes_all_finished : (system : System) → IsWhole system → Interprets system → Interprets (all_finished system)
goes_all_finished system w a = goes_finishing system.kernel.dispatcher.completed system w refl a

pub goes_let_in : (p : ℕ) (system : System) → IsWhole system → Interprets system → Interprets (command_let_in p system)
goes_let_in p system w a =
    either (λ (k : Kernel). Interprets (record system { kernel = k })) (is_command p system.kernel) _ system.kernel (λ _. goes_passed p system w a) (λ _. a)

pub none_let_in : (p : ℕ) (system : System) → IsWhole system → AwaitsNothing system.kernel → AwaitsNothing (command_let_in p system).kernel
none_let_in p system w a =
    either AwaitsNothing (is_command p system.kernel) _ system.kernel (λ _. none_passed p system w a) (λ _. a)

pub goes_finished_or_ended : (p : ℕ) (system : System) → IsWhole system → Lives system.kernel.dispatcher.procs p → (i : Interprets system) → (0 ≡ p → IsHandedOut system i)
    → Interprets (finished_or_ended p system)
goes_finished_or_ended p system w h i out =
    either Interprets (chains p system.kernel) _ _ (λ chain. goes_ended p system w h (not_chaining p system i.acting chain) i)
    (λ _. goes_finished (process_in system.kernel.dispatcher.procs p).seg p system i out)

goes_from : (first : Option ℕ) (system : System) → IsWhole system → first_completed system.kernel.dispatcher.completed ≡ first → Interprets system
    → Interprets (answered_from first system)
unfolding answered_from
goes_from None system w is a = a
goes_from (Some p) system w is a =
    let out = completion_dequeued system in
    let whole = whole_dequeued system w in
    let now = command_let_in p out in
    let behind = goes_let_in p out whole (goes_dequeued system a) in
    goes_all_finished (finished_or_ended p now) (whole_first_answered p system w is)
    (goes_finished_or_ended p now (lets_command_in p out whole).whole (lives_in_time p system w is) behind
    (handed_behind p system w a now behind is refl (λ none. none_let_in p out whole none)))

pub goes_all_answered : (system : System) → IsWhole system → Interprets system → Interprets (all_answered system)
goes_all_answered system w a = goes_from (first_completed system.kernel.dispatcher.completed) system w refl a

-- the ends that are due come

pub not_due : (p : ℕ) (system : System) → IsActing system → is_due system.kernel p ≡ true → 0 ≢ p
not_due p system a due = λ is.
    let aborted = (and_parts (is_aborted system.kernel.dispatcher.procs p) _ due).0 in
    let put_off : (process_in system.kernel.dispatcher.procs p).abort_due ≡ true = (and_parts (lives system.kernel.dispatcher.procs p) _ aborted).1 in
    false≢true (sym a.goes_on ∙ ap (λ n. (process_in system.kernel.dispatcher.procs n).abort_due) is ∙ put_off)

pub goes_if_due : (p : ℕ) (system : System) → IsWhole system → Interprets system → Interprets (ended_if_due p system)
unfolding ended_if_due
goes_if_due p system w a =
    either Interprets (is_due system.kernel p) _ _
    (λ due.
    let living = due_lives system.kernel p due in
    goes_all_finished (ended p system) (whole_ended p system w living) (goes_ended p system w living (not_due p system a.acting due) a))
    (λ _. a)

goes_due_terminated : (ps : List ℕ) (system : System) → IsWhole system → Interprets system → Interprets (due_terminated ps system)
unfolding due_terminated
goes_due_terminated [] system w a = a
goes_due_terminated (p ∷ ps) system w a = goes_due_terminated ps (ended_if_due p system) (whole_if_due p system w) (goes_if_due p system w a)

pub goes_with_ends : (system : System) → IsWhole system → Interprets system → Interprets (with_ends system)
unfolding with_ends
goes_with_ends system w a = goes_same (due_terminated (range_with_len 0 32) system) _ refl refl refl refl refl refl refl (goes_due_terminated (range_with_len 0 32) system w a)
