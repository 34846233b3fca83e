-- A printer stays whose it is as others end or leave a resident procedure, as events come, as processes are handed out or begin, and as
-- consoles are given.
use Rattle.std.proofs.Common.{◌≡◌, ◌≢◌, ◌∙◌, ℕ, zero, suc, Bool, ◌==◌, List, [], ◌∷◌, length, Option, Some, None, refl, ap, drop}
use Rattle.std.specs.Prelude.{nat_lt, is_some, slice_index_or}
use Rattle.std.specs.List.{range_with_len}
use Rattle.mpm_base.proofs.Choices.{either}
use Rattle.mpm_base.specs.Calls.{Taken, word_at}
use Rattle.mpm_base.specs.declared.functions.TheConstants.{CALL_RESIDENT_SYSTEM_PROCEDURE}
use Rattle.mpm_consoles.specs.Consoles.{Consoles, console_at, owner_of, owns}
use Rattle.mpm_consoles.specs.Handling.{key_by, keyed, key_answer, passed_by_key, subject, unit_detached, spoke as spoke_units}
use Rattle.mpm_consoles.specs.Keys.{control_of}
use Rattle.mpm_consoles.specs.declared.keys.Control.{Control}
use Rattle.mpm_consoles.specs.declared.keys.Control.TheVariants.{Stop, Resume, Abort, Detach}
use Rattle.mpm_consoles.specs.declared.keys.KeyDone.{KeyDone}
use Rattle.mpm_consoles.specs.declared.keys.KeyDone.TheVariants.{Stored, Dropped, Wakes, Aborts, Passes, Nothing}
use Rattle.mpm_base.specs.declared.unit.Unit.TheVariants.{Console, Printer}
use Rattle.mpm_dispatcher.specs.Dispatch.{first_completed, with_completed, in_slot}
use Rattle.mpm_kernel.proofs.Beside.{call_without_other}
use Rattle.mpm_kernel.proofs.SoundLaws.{procs_happened}
use Rattle.mpm_kernel.proofs.UnitWaits.{owner_units_without}
use Rattle.mpm_kernel.specs.Columns.{spoke}
use Rattle.mpm_kernel.specs.Consoling.{key_done, key_came, echoed, is_of_resident, is_from, passed_on, handed_over, given, unit_left}
use Rattle.mpm_kernel.specs.Ending.{dropped_out, returned, all_returned, consoles_left, printers_left, units_left, relieved, discharged}
use Rattle.mpm_kernel.specs.Events.{happens, clock_ticked, device_ready, flag_came, happened, inside_of, with_procedure, with_first, handed_out}
use Rattle.mpm_kernel.specs.Kernel.{Kernel, afresh, dispatched, with_changed}
use Rattle.mpm_kernel.specs.Procedures.{procedure_queue, writing, outside, given_back_to, given_back}
use Rattle.mpm_kernel.specs.Queueing.{given_to}
use Rattle.mpm_kernel.specs.Waiting.{is_flag}
use Rattle.mpm_procs.proofs.MapLaws.{process_without_other}
use Rattle.mpm_procs.specs.Table.{Lives, process_in, call_of, lowest_free}
use Rattle.mpm_procs.specs.declared.process.NewProcess.{NewProcess}
use Rattle.mpm_queues.specs.Handling.{write_outcome, woken_by}
use Rattle.mpm_queues.specs.Queue.{block_size}
use Rattle.mpm_queues.specs.Queues.{holds, is_made}
use Rattle.mpm_script.specs.declared.event.Event.{Event}
use Rattle.mpm_script.specs.declared.event.Event.TheVariants.{Tick, Key, Ready, Int}
use Rattle.mpm_xdos.proofs.CreatedLaws.{Made}
use Rattle.mpm_xdos.specs.Creating.{children_of, may_create, all_admitted, created}
use Rattle.mpm_machine.proofs.PrinterCalls.{KeepsPrinter, prints_same, prints_both, prints_changed, prints_keeping, prints_left, prints_given, prints_with_other, prints_signalled, prints_inside, owner_console_passed, prints_owner_made}
use Rattle.mpm_machine.specs.Slots.{settings_of}

-- what goes back to queues

prints_back_to : (q : ℕ) (queue : Option ℕ) (p : ℕ) (kernel : Kernel) → KeepsPrinter q kernel (given_back_to queue p kernel)
unfolding given_back_to
prints_back_to q None p kernel = prints_same q kernel kernel refl refl
prints_back_to q (Some n) p kernel =
    let gave = given_to kernel p n in
    either (KeepsPrinter q kernel) (is_made kernel.queues n) _ kernel
    (λ _. prints_both q kernel gave _ (prints_given q p n kernel) (prints_with_other q (woken_by (write_outcome kernel.queues n)) gave)) (λ _. prints_same q kernel kernel refl refl)

prints_outside : (q p : ℕ) (kernel : Kernel) → q ≢ p → KeepsPrinter q kernel (outside p kernel)
unfolding outside
prints_outside q p kernel other =
    let process = process_in kernel.dispatcher.procs p in
    let changed = with_changed kernel p (record process { procedure = None }) in
    prints_both q kernel changed _ (prints_changed q p kernel (record process { procedure = None }) refl)
    (prints_both q changed _ _ (prints_keeping q p changed (writing process.kept) other) (prints_same q _ _ refl refl))

pub prints_given_back : (q p : ℕ) (kernel : Kernel) → q ≢ p → KeepsPrinter q kernel (given_back p kernel)
unfolding given_back
prints_given_back q p kernel other =
    prints_both q kernel (outside p kernel) _ (prints_outside q p kernel other) (prints_back_to q (process_in kernel.dispatcher.procs p).procedure p (outside p kernel))

prints_returned : (q p n : ℕ) (kernel : Kernel) → KeepsPrinter q kernel (returned p n kernel)
unfolding returned
prints_returned q p n kernel =
    either (KeepsPrinter q kernel) (holds kernel.queues p n) _ kernel (λ _. prints_back_to q (Some n) p kernel) (λ _. prints_same q kernel kernel refl refl)

prints_all_returned : (q : ℕ) (ns : List ℕ) (p : ℕ) (kernel : Kernel) → KeepsPrinter q kernel (all_returned ns p kernel)
unfolding all_returned
prints_all_returned q [] p kernel = prints_same q kernel kernel refl refl
prints_all_returned q (n ∷ ns) p kernel =
    prints_both q kernel (returned p n kernel) _ (prints_returned q p n kernel) (prints_all_returned q ns p (returned p n kernel))

-- another one ends

prints_consoles_left : (q p n : ℕ) (kernel : Kernel) → q ≢ p → KeepsPrinter q kernel (consoles_left p n kernel)
unfolding consoles_left
prints_consoles_left q p zero kernel other = prints_same q kernel kernel refl refl
prints_consoles_left q p (suc n) kernel other =
    prints_both q kernel (consoles_left p n kernel) _ (prints_consoles_left q p n kernel other) (prints_left q p (Console n) (consoles_left p n kernel) other)

prints_printers_left : (q p n : ℕ) (kernel : Kernel) → q ≢ p → KeepsPrinter q kernel (printers_left p n kernel)
unfolding printers_left
prints_printers_left q p zero kernel other = prints_same q kernel kernel refl refl
prints_printers_left q p (suc n) kernel other =
    prints_both q kernel (printers_left p n kernel) _ (prints_printers_left q p n kernel other) (prints_left q p (Printer n) (printers_left p n kernel) other)

prints_dropped : (q p : ℕ) (kernel : Kernel) → KeepsPrinter q kernel (dropped_out p kernel)
unfolding dropped_out
prints_dropped q p kernel = record { set = refl; block = refl; owner = λ n is. owner_units_without kernel.units p (Printer n) ∙ is }

prints_relieved : (q p : ℕ) (kernel : Kernel) → q ≢ p → KeepsPrinter q kernel (relieved p kernel)
unfolding relieved units_left
prints_relieved q p kernel other =
    let gone = dropped_out p kernel in
    let back = given_back p gone in
    let returned_all = all_returned (range_with_len 0 32) p back in
    let left = consoles_left p (length returned_all.units.consoles) returned_all in
    prints_both q kernel gone _ (prints_dropped q p kernel)
    (prints_both q gone back _ (prints_given_back q p gone other)
    (prints_both q back returned_all _ (prints_all_returned q (range_with_len 0 32) p back)
    (prints_both q returned_all left _ (prints_consoles_left q p (length returned_all.units.consoles) returned_all other)
    (prints_printers_left q p (length left.units.printers) left other))))

pub prints_discharged : (q : ℕ) (kernel : Kernel) (p : ℕ) → q ≢ p → KeepsPrinter q kernel (discharged kernel p)
unfolding discharged
prints_discharged q kernel p other =
    let gone = relieved p kernel in
    prints_both q kernel gone _ (prints_relieved q p kernel other)
    (record {
      set = ap settings_of (process_without_other gone.dispatcher.procs p q other);
      block = ap (λ (x : Taken). x.fcb) (call_without_other gone.dispatcher.procs p q other);
      owner = λ n is. is;
    })

-- events

printers_by : (control : Option Control) (t : Consoles) (console byte : ℕ) (resident : Bool) (q n : ℕ) → owner_of t (Printer n) ≡ Some q
    → owner_of (key_by control t console byte resident) (Printer n) ≡ Some q
printers_by None t console byte resident q n is = is
printers_by (Some Stop) t console byte resident q n is = is
printers_by (Some Resume) t console byte resident q n is = is
printers_by (Some Abort) t console byte resident q n is = is
printers_by (Some Detach) t console byte resident q n is = by_subject (subject resident (console_at t console).owner) t console q n is where
  by_subject : (o : Option ℕ) (t : Consoles) (console q n : ℕ) → owner_of t (Printer n) ≡ Some q → owner_of (passed_by_key o t console) (Printer n) ≡ Some q
  by_subject None t console q n is = is
  by_subject (Some p) t console q n is = owner_console_passed t console q n is

printers_keyed : (t : Consoles) (console byte : ℕ) (resident : Bool) (q n : ℕ) → owner_of t (Printer n) ≡ Some q → owner_of (keyed t console byte resident) (Printer n) ≡ Some q
unfolding keyed
printers_keyed t console byte resident q n is = printers_by (control_of (console_at t console).raw byte) t console byte resident q n is

owner_key_done : (answer : KeyDone) (console : ℕ) (waited : Bool) (kernel : Kernel) → (key_done answer console waited kernel).units.printers ≡ kernel.units.printers
unfolding key_done echoed spoke spoke_units
owner_key_done Stored console waited kernel = refl
owner_key_done Dropped console waited kernel = refl
owner_key_done Nothing console waited kernel = refl
owner_key_done (Wakes p) console waited kernel = refl
owner_key_done (Aborts p) console waited kernel = refl
owner_key_done (Passes from to) console waited kernel = refl

owner_key_came : (console byte : ℕ) (kernel : Kernel) (q n : ℕ) → owner_of kernel.units (Printer n) ≡ Some q → owner_of (key_came console byte kernel).units (Printer n) ≡ Some q
unfolding key_came
owner_key_came console byte kernel q n is =
    let resident = is_of_resident kernel.dispatcher.procs (owner_of kernel.units (Console console)) in
    let typed = record kernel { units = keyed kernel.units console byte resident } in
    let answer = key_answer kernel.units console byte resident in
    let waited = is_some (console_at kernel.units console).awaits in
    either (λ (k : Kernel). owner_of k.units (Printer n) ≡ Some q) (nat_lt console (length kernel.units.consoles)) _ kernel
    (λ _. ap (λ (l : List (Option ℕ)). slice_index_or l n None) (owner_key_done answer console waited typed) ∙ printers_keyed kernel.units console byte resident q n is)
    (λ _. is)

owner_happens : (event : Event) (kernel : Kernel) (q n : ℕ) → owner_of kernel.units (Printer n) ≡ Some q → owner_of (happens event kernel).units (Printer n) ≡ Some q
unfolding happens clock_ticked device_ready flag_came
owner_happens Tick kernel q n is = is
owner_happens (Key console byte) kernel q n is = owner_key_came console byte kernel q n is
owner_happens (Ready device byte) kernel q n is = is
owner_happens (Int flag) kernel q n is =
    either (λ (k : Kernel). owner_of k.units (Printer n) ≡ Some q) (is_flag flag) _ kernel (λ _. (prints_signalled q flag kernel).owner n is) (λ _. is)

pub prints_happened : (q : ℕ) (event : Event) (kernel : Kernel) → KeepsPrinter q kernel (happened event kernel)
prints_happened q event kernel = record {
  set = ap (λ t. settings_of (process_in t q)) (procs_happened event kernel);
  block = ap (λ t. (call_of t q).fcb) (procs_happened event kernel);
  owner = λ n is. owner_happens event (afresh kernel) q n is;
}

-- a process is handed out

prints_inside_of : (q : ℕ) (slot : Option ℕ) (p message : ℕ) (kernel : Kernel) → KeepsPrinter q kernel (inside_of slot p message kernel)
prints_inside_of q None p message kernel = prints_same q kernel kernel refl refl
prints_inside_of q (Some n) p message kernel = prints_inside q p n message kernel

prints_first : (q : ℕ) (first : Option ℕ) (kernel : Kernel) → KeepsPrinter q kernel (with_first first kernel)
unfolding with_procedure
prints_first q None kernel = prints_same q kernel kernel refl refl
prints_first q (Some p) kernel =
    let call = call_of kernel.dispatcher.procs p in
    either (KeepsPrinter q kernel) (call.function == CALL_RESIDENT_SYSTEM_PROCEDURE) _ kernel
    (λ _. prints_inside_of q (procedure_queue kernel.queues call) p (word_at call block_size) kernel) (λ _. prints_same q kernel kernel refl refl)

pub prints_handed_out : (q : ℕ) (kernel : Kernel) → KeepsPrinter q kernel (handed_out kernel)
unfolding handed_out
prints_handed_out q kernel =
    let left = dispatched (with_completed (drop 1 kernel.dispatcher.completed)) kernel in
    prints_both q kernel left _ (prints_same q kernel left refl refl) (prints_first q (first_completed kernel.dispatcher.completed) left)

-- a console is given

owner_left_console : (t : Consoles) (p console q n : ℕ) → owner_of t (Printer n) ≡ Some q → owner_of (unit_detached t p (Console console)) (Printer n) ≡ Some q
unfolding unit_detached
owner_left_console t p console q n is =
    either (λ (new : Consoles). owner_of new (Printer n) ≡ Some q) (owns t p (Console console)) _ t (λ _. owner_console_passed t console q n is) (λ _. is)

prints_passed_on : (q console : ℕ) (from : Option ℕ) (kernel : Kernel) → KeepsPrinter q kernel (passed_on console from kernel)
unfolding unit_left
prints_passed_on q console None kernel = prints_same q kernel kernel refl refl
prints_passed_on q console (Some p) kernel = record { set = refl; block = refl; owner = λ n is. owner_left_console kernel.units p console q n is }

prints_handed_over : (q console : ℕ) (from to : Option ℕ) (kernel : Kernel) → KeepsPrinter q kernel (handed_over console from to kernel)
prints_handed_over q console from None kernel = prints_passed_on q console from kernel
prints_handed_over q console from (Some to) kernel = prints_owner_made q console to kernel

pub prints_gave : (q console : ℕ) (from to : Option ℕ) (kernel : Kernel) → KeepsPrinter q kernel (given console from to kernel)
unfolding given
prints_gave q console from to kernel =
    either (KeepsPrinter q kernel) (is_from (owner_of kernel.units (Console console)) from) _ kernel (λ _. prints_handed_over q console from to kernel) (λ _. prints_same q kernel kernel refl refl)

-- processes begin

units_admitted : (news : List NewProcess) (kernel : Kernel) → (all_admitted news kernel).units ≡ kernel.units
unfolding all_admitted
units_admitted [] kernel = refl
units_admitted (new ∷ news) kernel = units_admitted news (dispatched (in_slot new (lowest_free kernel.dispatcher.procs)) kernel)

units_created : (kernel : Kernel) (p base : ℕ) → (created kernel p base).units ≡ kernel.units
unfolding created
units_created kernel p base =
    let children = children_of (process_in kernel.dispatcher.procs p) base (call_of kernel.dispatcher.procs p).bytes in
    either (λ (k : Kernel). k.units ≡ kernel.units) (may_create kernel children) _ kernel (λ _. units_admitted children kernel) (λ _. refl)

pub prints_created : (q : ℕ) (kernel : Kernel) (p base : ℕ) → Made kernel (created kernel p base) → Lives kernel.dispatcher.procs q → KeepsPrinter q kernel (created kernel p base)
prints_created q kernel p base made h = record {
  set = ap settings_of (made.process q h);
  block = ap (λ (x : Taken). x.fcb) (made.call q h);
  owner = λ n is. ap (λ (t : Consoles). owner_of t (Printer n)) (units_created kernel p base) ∙ is;
}

pub prints_in_slot : (q : ℕ) (slot : Option ℕ) (new : NewProcess) (kernel : Kernel)
    → process_in (dispatched (in_slot new slot) kernel).dispatcher.procs q ≡ process_in kernel.dispatcher.procs q
    → call_of (dispatched (in_slot new slot) kernel).dispatcher.procs q ≡ call_of kernel.dispatcher.procs q → KeepsPrinter q kernel (dispatched (in_slot new slot) kernel)
prints_in_slot q slot new kernel same call = record { set = ap settings_of same; block = ap (λ (x : Taken). x.fcb) call; owner = λ n is. is }
