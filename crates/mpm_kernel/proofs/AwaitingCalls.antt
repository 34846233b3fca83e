-- What a call leaves of another process that is ready, and of the completions that are left of each.
use Rattle.std.proofs.Common.{◌≡◌, ◌≢◌, ◌∙◌, ℕ, ◌<◌, Bool, true, false, ◌==◌, ◌&&◌, List, [], ◌∷◌, length, Option, Some, None, refl, sym, ap, subst, arith}
use Rattle.std.specs.Prelude.{nat_lt, is_some, is_none, slice_index_or}
use Rattle.std.proofs.lemmas.Bool.{and_parts}
use Rattle.std.proofs.lemmas.Bool.Decides.{nat_tests}
use Rattle.mpm_base.proofs.Choices.{either}
use Rattle.mpm_base.specs.Calls.{Taken, byte_in, name_at, word_at}
use Rattle.mpm_base.specs.declared.functions.TheConstants.{CONSOLE_INPUT, RAW_CONSOLE_INPUT, DIRECT_CONSOLE_IO, READ_CONSOLE_BUFFER, GET_CONSOLE_STATUS}
use Rattle.mpm_clock.specs.PackedDecimal.{names_time}
use Rattle.mpm_consoles.specs.Consoles.{HasUnit, console_at, waits_for}
use Rattle.mpm_consoles.specs.Handling.{may_attach}
use Rattle.mpm_consoles.specs.declared.modes.TheConstants.{POLL_KEY, TELL_STATUS, AWAIT_KEY}
use Rattle.mpm_base.specs.declared.unit.Unit.{Unit}
use Rattle.mpm_base.specs.declared.unit.Unit.TheVariants.{Console as ConsoleUnit, Printer as PrinterUnit}
use Rattle.mpm_dispatcher.specs.Dispatch.{ready, IsReady, behind_equals, with_priority, with_other}
use Rattle.mpm_flags.specs.States.{flag_at, wait_answer, set_answer, after_set, with_flag}
use Rattle.mpm_flags.specs.declared.flags.Flag.{Flag}
use Rattle.mpm_flags.specs.declared.flags.Flag.TheVariants.{Clear, Set, Waits}
use Rattle.mpm_flags.specs.declared.flags.FlagWait.{FlagWait}
use Rattle.mpm_flags.specs.declared.flags.FlagWait.TheVariants.{Passed as WaitPassed, Waits as WaitBegins, Underrun}
use Rattle.mpm_line_input.specs.Lines.{is_full, ends, line_end}
use Rattle.mpm_procs.specs.Table.{lives, Lives, process_in, call_of}
use Rattle.mpm_procs.proofs.MapLaws.{lives_below}
use Rattle.mpm_queues.proofs.Finding.{lowest_passes}
use Rattle.mpm_queues.specs.Queues.{make_error}
use Rattle.mpm_queues.specs.Handling.{read_outcome, write_outcome, woken_by}
use Rattle.mpm_queues.specs.declared.queues.QueueOutcome.{QueueOutcome}
use Rattle.mpm_queues.specs.declared.queues.QueueOutcome.TheVariants.{Done as Passed, NotNow}
use Rattle.mpm_kernel.specs.Awaiting.{AwaitsIn}
use Rattle.mpm_kernel.specs.Kernel.{Kernel, IsSoundKernel, poll_list, with_changed, call_begun, dispatched}
use Rattle.mpm_kernel.specs.Columns.{spoke}
use Rattle.mpm_kernel.specs.Called.{Called, low_parameter}
use Rattle.mpm_kernel.specs.Calls.{call_done, called, does_echo}
use Rattle.mpm_kernel.specs.Consoling.{retried, attaching, attached, attached_now, unit_left, detached, console_changed, printer_changed, console_set, printer_set, is_called, named, if_it, owner_made, is_meant, assigned_to, assigned, printer_rows, printer_called, unit_rows, unit_called, echoed, awaited}
use Rattle.mpm_kernel.specs.ConsoleInput.{is_cooked, is_raw, writes, raw_if, key_taken, next_key, shown_key, read_key, polled_key, direct, line_of, greatest, line_done, key_joined, line_with, line_by, line_read, console_served, unless_stopped, console_called}
use Rattle.mpm_kernel.specs.Dates.{date_set, date_answered, time_answered}
use Rattle.mpm_kernel.specs.Procedures.{procedure_queue, inside, procedure_read, procedure_at, procedure_called}
use Rattle.mpm_kernel.specs.Queueing.{with_queue, queue_made, opened, may_delete, deleted, queued, blocked_or_refused, taken_from, was_read, read_at, given_to, was_written, write_at}
use Rattle.mpm_kernel.specs.Waiting.{polled, is_flag, flag_waited_for, waited, with_woken, signalled, flag_waited, set_if_flag, flag_set, process_delayed}
use Rattle.mpm_kernel.proofs.AwaitingLaws.{awaits_moved, awaits_removed, awaits_ready, awaits_heir, awaits_none, awaits_woken, one_alone, waits_apart, held_by_read, held_by_write, awaits_other}
use Rattle.mpm_kernel.proofs.Passing.{heir_lives, passed_detach}
use Rattle.mpm_kernel.proofs.RowLaws.{by_rows, by_table}
use Rattle.mpm_kernel.proofs.SoundLaws.{flag_below, waiter_lives, waiter_waits, sound_begun}
use Rattle.mpm_kernel.proofs.Soundness.{turned}
use Rattle.mpm_kernel.proofs.UnitLaws.{has_own_console, has_own_printer}

-- waiting for devices, flags and the clock

awaits_polled : (k q : ℕ) (call : Taken) (p : ℕ) (kernel : Kernel) → IsSoundKernel kernel → Lives kernel.dispatcher.procs p → q ≢ p → AwaitsIn k q kernel
    → AwaitsIn k q (polled call p kernel).kernel
unfolding polled
awaits_polled k q call p kernel s h other a =
    let device = low_parameter call in
    let P : Called → Type 0 = λ c. AwaitsIn k q c.kernel in
    either P (nat_lt 15 device) _ _ (λ _. a)
    (λ few. either P (slice_index_or kernel.devices.ready device false) _ _ (λ _. a)
    (λ _. awaits_moved k q kernel.dispatcher.lists kernel.dispatcher.completed (poll_list device) p (process_in kernel.dispatcher.procs p).priority (grind (arith, nat_tests, few))
    (lives_below kernel.dispatcher.procs p s.slots h) other a))

awaits_waited : (k q : ℕ) (answer : FlagWait) (p : ℕ) (kernel : Kernel) → q ≢ p → AwaitsIn k q kernel → AwaitsIn k q (waited answer p kernel).kernel
unfolding waited
awaits_waited k q WaitPassed p kernel other a = a
awaits_waited k q WaitBegins p kernel other a = awaits_removed k q kernel.dispatcher.lists kernel.dispatcher.completed p other a
awaits_waited k q Underrun p kernel other a = a

awaits_flag_waited : (k q : ℕ) (call : Taken) (p : ℕ) (kernel : Kernel) → q ≢ p → AwaitsIn k q kernel → AwaitsIn k q (flag_waited call p kernel).kernel
unfolding flag_waited
awaits_flag_waited k q call p kernel other a =
    let flag = low_parameter call in
    either (λ (c : Called). AwaitsIn k q c.kernel) (is_flag flag) _ _
    (λ _. awaits_waited k q (wait_answer p (flag_at kernel.flags flag)) p (flag_waited_for kernel p flag) other a) (λ _. a)

awaits_woke : (k q : ℕ) (state : Flag) (flag : ℕ) (kernel : Kernel) → IsSoundKernel kernel → flag < 32 → flag_at kernel.flags flag ≡ state → AwaitsIn k q kernel
    → AwaitsIn k q (with_woken (set_answer state) (record kernel { flags = with_flag kernel.flags flag (after_set state) }))
unfolding with_woken
awaits_woke k q Clear flag kernel s below is a = a
awaits_woke k q Set flag kernel s below is a = a
awaits_woke k q (Waits p) flag kernel s below is a =
    let living = waiter_lives kernel flag p s below is in
    awaits_woken k q kernel.dispatcher.procs (p ∷ []) kernel.dispatcher.lists (lives_below kernel.dispatcher.procs p s.slots living, tt)
    (waits_apart kernel p s (waiter_waits kernel flag p s below is), tt) (one_alone q p)
    (awaits_none k q kernel.dispatcher.lists kernel.dispatcher.completed a)

pub awaits_signalled : (k q flag : ℕ) (kernel : Kernel) → IsSoundKernel kernel → flag < 32 → AwaitsIn k q kernel → AwaitsIn k q (signalled flag kernel)
unfolding signalled
awaits_signalled k q flag kernel s below a = awaits_woke k q (flag_at kernel.flags flag) flag kernel s below refl a

awaits_flag_set : (k q : ℕ) (call : Taken) (kernel : Kernel) → IsSoundKernel kernel → AwaitsIn k q kernel → AwaitsIn k q (flag_set call kernel).kernel
unfolding set_if_flag
awaits_flag_set k q call kernel s a =
    let flag = low_parameter call in
    either (λ (c : Called). AwaitsIn k q c.kernel) (is_flag flag) _ _ (λ is. awaits_signalled k q flag kernel s (flag_below flag is) a) (λ _. a)

pub awaits_behind : (k q p : ℕ) (kernel : Kernel) → IsSoundKernel kernel → Lives kernel.dispatcher.procs p → IsReady kernel.dispatcher p → AwaitsIn k q kernel
    → AwaitsIn k q (dispatched (behind_equals p) kernel)
awaits_behind k q p kernel s h ready a =
    subst (AwaitsIn k q) (sym (turned kernel p ready))
    (awaits_ready k q kernel.dispatcher.lists kernel.dispatcher.completed p (process_in kernel.dispatcher.procs p).priority (lives_below kernel.dispatcher.procs p s.slots h) a)

awaits_priority : (k q p priority : ℕ) (kernel : Kernel) → IsSoundKernel kernel → Lives kernel.dispatcher.procs p → IsReady kernel.dispatcher p → AwaitsIn k q kernel
    → AwaitsIn k q (dispatched (with_priority p priority) kernel)
awaits_priority k q p priority kernel s h ready a =
    let changed = with_changed kernel p (record (process_in kernel.dispatcher.procs p) { priority = priority }) in
    subst (AwaitsIn k q) (sym (turned changed p ready))
    (awaits_ready k q kernel.dispatcher.lists kernel.dispatcher.completed p (process_in changed.dispatcher.procs p).priority (lives_below kernel.dispatcher.procs p s.slots h) a)

awaits_delayed : (k q : ℕ) (call : Taken) (p : ℕ) (kernel : Kernel) → IsSoundKernel kernel → Lives kernel.dispatcher.procs p → IsReady kernel.dispatcher p → q ≢ p
    → AwaitsIn k q kernel → AwaitsIn k q (process_delayed call p kernel).kernel
unfolding process_delayed
awaits_delayed k q call p kernel s h ready other a =
    either (λ (c : Called). AwaitsIn k q c.kernel) (call.word == 0) _ _ (λ _. awaits_behind k q p kernel s h ready a)
    (λ _. awaits_removed k q kernel.dispatcher.lists kernel.dispatcher.completed p other a)

-- queues

awaits_queue_made : (k q : ℕ) (call : Taken) (kernel : Kernel) → AwaitsIn k q kernel → AwaitsIn k q (queue_made call kernel).kernel
unfolding queue_made with_queue
awaits_queue_made k q call kernel a =
    either (λ (c : Called). AwaitsIn k q c.kernel) (is_none (make_error kernel.queues (name_at call 2) (word_at call 10) (word_at call 12))) _ _ (λ _. a) (λ _. a)

awaits_opened : (k q : ℕ) (slot : Option ℕ) (call : Taken) (kernel : Kernel) → AwaitsIn k q kernel → AwaitsIn k q (opened slot call kernel).kernel
unfolding opened
awaits_opened k q None call kernel a = a
awaits_opened k q (Some n) call kernel a = a

awaits_deleted : (k q : ℕ) (slot : Option ℕ) (kernel : Kernel) → AwaitsIn k q kernel → AwaitsIn k q (deleted slot kernel).kernel
unfolding deleted
awaits_deleted k q None kernel a = a
awaits_deleted k q (Some n) kernel a = either (λ (c : Called). AwaitsIn k q c.kernel) (may_delete kernel n) _ _ (λ _. a) (λ _. a)

-- a call that may wait does so, where another process makes it
awaits_refused : (k q : ℕ) (waits : Bool) (p n : ℕ) (reader : Bool) (kernel : Kernel) → (waits ≡ true → q ≢ p) → AwaitsIn k q kernel
    → AwaitsIn k q (blocked_or_refused waits p n reader kernel).kernel
unfolding blocked_or_refused queued
awaits_refused k q waits p n reader kernel other a =
    either (λ (c : Called). AwaitsIn k q c.kernel) waits _ _ (λ is. awaits_removed k q kernel.dispatcher.lists kernel.dispatcher.completed p (other is) a) (λ _. a)

awaits_was_read : (k q : ℕ) (outcome : QueueOutcome) (waits : Bool) (call : Taken) (p n : ℕ) (kernel : Kernel) → IsSoundKernel kernel → read_outcome kernel.queues n ≡ outcome
    → (waits ≡ true → q ≢ p) → AwaitsIn k q kernel → AwaitsIn k q (was_read outcome waits call p n kernel).kernel
unfolding was_read
awaits_was_read k q (Passed woken) waits call p n kernel s done other a =
    awaits_other k q woken (taken_from kernel p n) (λ w first. let held = held_by_read kernel n w s (ap woken_by done ∙ first) in record { below = held.below; waits = held.waits }) a
awaits_was_read k q NotNow waits call p n kernel s not other a = awaits_refused k q waits p n true kernel other a

pub awaits_read_at : (k q : ℕ) (slot : Option ℕ) (waits : Bool) (call : Taken) (p : ℕ) (kernel : Kernel) → IsSoundKernel kernel → (waits ≡ true → q ≢ p) → AwaitsIn k q kernel
    → AwaitsIn k q (read_at slot waits call p kernel).kernel
unfolding read_at
awaits_read_at k q None waits call p kernel s other a = a
awaits_read_at k q (Some n) waits call p kernel s other a = awaits_was_read k q (read_outcome kernel.queues n) waits call p n kernel s refl other a

-- a message is written
pub awaits_given : (k q p n : ℕ) (woken : Option ℕ) (kernel : Kernel) → IsSoundKernel kernel → woken_by (write_outcome kernel.queues n) ≡ woken → AwaitsIn k q kernel
    → AwaitsIn k q (dispatched (with_other woken) (given_to kernel p n))
awaits_given k q p n woken kernel s done a =
    awaits_other k q woken (given_to kernel p n) (λ w first. let held = held_by_write kernel n w s (done ∙ first) in record { below = held.below; waits = held.waits }) a

awaits_was_written : (k q : ℕ) (outcome : QueueOutcome) (waits : Bool) (p n : ℕ) (kernel : Kernel) → IsSoundKernel kernel → write_outcome kernel.queues n ≡ outcome
    → (waits ≡ true → q ≢ p) → AwaitsIn k q kernel → AwaitsIn k q (was_written outcome waits p n kernel).kernel
unfolding was_written
awaits_was_written k q (Passed woken) waits p n kernel s done other a = awaits_given k q p n woken kernel s (ap woken_by done) a
awaits_was_written k q NotNow waits p n kernel s not other a = awaits_refused k q waits p n false kernel other a

pub awaits_write_at : (k q : ℕ) (slot : Option ℕ) (waits : Bool) (p : ℕ) (kernel : Kernel) → IsSoundKernel kernel → (waits ≡ true → q ≢ p) → AwaitsIn k q kernel
    → AwaitsIn k q (write_at slot waits p kernel).kernel
unfolding write_at
awaits_write_at k q None waits p kernel s other a = a
awaits_write_at k q (Some n) waits p kernel s other a = awaits_was_written k q (write_outcome kernel.queues n) waits p n kernel s refl other a

awaits_procedure_read : (k q : ℕ) (outcome : QueueOutcome) (p n : ℕ) (kernel : Kernel) → IsSoundKernel kernel → read_outcome kernel.queues n ≡ outcome → q ≢ p
    → AwaitsIn k q kernel → AwaitsIn k q (procedure_read outcome p n kernel).kernel
unfolding procedure_read inside
awaits_procedure_read k q (Passed woken) p n kernel s done other a =
    awaits_other k q woken (taken_from kernel p n) (λ w first. let held = held_by_read kernel n w s (ap woken_by done ∙ first) in record { below = held.below; waits = held.waits }) a
awaits_procedure_read k q NotNow p n kernel s not other a = awaits_refused k q true p n true kernel (λ _. other) a

awaits_procedure_at : (k q : ℕ) (slot : Option ℕ) (p : ℕ) (kernel : Kernel) → IsSoundKernel kernel → q ≢ p → AwaitsIn k q kernel → AwaitsIn k q (procedure_at slot p kernel).kernel
unfolding procedure_at
awaits_procedure_at k q None p kernel s other a = a
awaits_procedure_at k q (Some n) p kernel s other a = awaits_procedure_read k q (read_outcome kernel.queues n) p n kernel s refl other a

awaits_procedure_called : (k q : ℕ) (call : Taken) (p : ℕ) (kernel : Kernel) → IsSoundKernel kernel → q ≢ p → AwaitsIn k q kernel → AwaitsIn k q (procedure_called call p kernel).kernel
unfolding procedure_called
awaits_procedure_called k q call p kernel s other a =
    either (λ (c : Called). AwaitsIn k q c.kernel) (is_some (process_in kernel.dispatcher.procs p).procedure) _ _ (λ _. a)
    (λ _. awaits_procedure_at k q (procedure_queue kernel.queues call) p kernel s other a)

-- the date

awaits_date_set : (k q : ℕ) (call : Taken) (kernel : Kernel) → AwaitsIn k q kernel → AwaitsIn k q (date_set call kernel).kernel
unfolding date_set
awaits_date_set k q call kernel a = either (λ (c : Called). AwaitsIn k q c.kernel) (names_time call) _ _ (λ _. a) (λ _. a)

awaits_date_answered : (k q : ℕ) (call : Taken) (kernel : Kernel) → AwaitsIn k q kernel → AwaitsIn k q (date_answered call kernel).kernel
unfolding date_answered
awaits_date_answered k q call kernel a = a

awaits_time_answered : (k q : ℕ) (call : Taken) (kernel : Kernel) → AwaitsIn k q kernel → AwaitsIn k q (time_answered call kernel).kernel
unfolding time_answered
awaits_time_answered k q call kernel a = a

-- consoles and printers

awaits_retried : (k q p : ℕ) (kernel : Kernel) → q ≢ p → AwaitsIn k q kernel → AwaitsIn k q (retried p kernel).kernel
unfolding retried
awaits_retried k q p kernel other a = awaits_removed k q kernel.dispatcher.lists kernel.dispatcher.completed p other a

awaits_attached : (k q p : ℕ) (unit : Unit) (kernel : Kernel) → q ≢ p → AwaitsIn k q kernel → AwaitsIn k q (attached p unit kernel).kernel
unfolding attached
awaits_attached k q p unit kernel other a =
    either (λ (c : Called). AwaitsIn k q c.kernel) (may_attach kernel.units p unit) _ _ (λ _. a) (λ _. awaits_retried k q p (attaching p unit true kernel) other a)

awaits_attached_now : (k q p : ℕ) (unit : Unit) (kernel : Kernel) → AwaitsIn k q kernel → AwaitsIn k q (attached_now p unit kernel).kernel
unfolding attached_now
awaits_attached_now k q p unit kernel a = either (λ (c : Called). AwaitsIn k q c.kernel) (may_attach kernel.units p unit) _ _ (λ _. a) (λ _. a)

pub awaits_unit_left : (k q p : ℕ) (unit : Unit) (kernel : Kernel) → IsSoundKernel kernel → HasUnit kernel.units unit → AwaitsIn k q kernel → AwaitsIn k q (unit_left p unit kernel)
unfolding unit_left
awaits_unit_left k q p unit kernel s has a =
    awaits_heir k q _ kernel.dispatcher.procs kernel.dispatcher.lists kernel.dispatcher.completed s.slots
    (λ h is. heir_lives kernel _ _ h s (passed_detach kernel.units p unit s.units has) is) a

awaits_detached : (k q p : ℕ) (unit : Unit) (kernel : Kernel) → IsSoundKernel kernel → HasUnit kernel.units unit → AwaitsIn k q kernel → AwaitsIn k q (detached p unit kernel).kernel
awaits_detached k q p unit kernel s has a = awaits_unit_left k q p unit kernel s has a

awaits_console_changed : (k q p console : ℕ) (kernel : Kernel) → IsSoundKernel kernel → Lives kernel.dispatcher.procs p → AwaitsIn k q kernel → AwaitsIn k q (console_changed p console kernel)
unfolding console_changed
awaits_console_changed k q p console kernel s h a =
    let process = process_in kernel.dispatcher.procs p in
    either (AwaitsIn k q) (process.console == console) _ _ (λ _. a) (λ _. awaits_unit_left k q p (ConsoleUnit process.console) kernel s (has_own_console kernel p s h) a)

awaits_printer_changed : (k q p printer : ℕ) (kernel : Kernel) → IsSoundKernel kernel → Lives kernel.dispatcher.procs p → printer < length kernel.units.printers → AwaitsIn k q kernel
    → AwaitsIn k q (printer_changed p printer kernel)
unfolding printer_changed
awaits_printer_changed k q p printer kernel s h some a =
    let process = process_in kernel.dispatcher.procs p in
    either (AwaitsIn k q) (process.printer == printer) _ _ (λ _. a)
    (λ _. awaits_unit_left k q p (PrinterUnit process.printer) kernel s (has_own_printer kernel p s h (omega (arith, some))) a)

awaits_console_set : (k q : ℕ) (call : Taken) (p : ℕ) (kernel : Kernel) → IsSoundKernel kernel → Lives kernel.dispatcher.procs p → q ≢ p → AwaitsIn k q kernel
    → AwaitsIn k q (console_set call p kernel).kernel
unfolding console_set
awaits_console_set k q call p kernel s h other a =
    let console = low_parameter call in
    either (λ (c : Called). AwaitsIn k q c.kernel) (nat_lt console (length kernel.units.consoles)) _ _
    (λ _. awaits_attached k q p (ConsoleUnit console) (console_changed p console kernel) other (awaits_console_changed k q p console kernel s h a)) (λ _. a)

awaits_printer_set : (k q : ℕ) (call : Taken) (p : ℕ) (kernel : Kernel) → IsSoundKernel kernel → Lives kernel.dispatcher.procs p → q ≢ p → AwaitsIn k q kernel
    → AwaitsIn k q (printer_set call p kernel).kernel
unfolding printer_set
awaits_printer_set k q call p kernel s h other a =
    let printer = low_parameter call in
    either (λ (c : Called). AwaitsIn k q c.kernel) (nat_lt printer (length kernel.units.printers)) _ _
    (λ fits. awaits_attached k q p (PrinterUnit printer) (printer_changed p printer kernel) other (awaits_printer_changed k q p printer kernel s h (grind (arith, nat_tests, fits)) a))
    (λ _. a)

this_heir : (b : Bool) (to h : ℕ) → if_it b to ≡ Some h → to ≡ h
this_heir true to h is = cc
this_heir false to h is = absurd (cc)

pub awaits_owner_made : (k q console to : ℕ) (kernel : Kernel) → IsSoundKernel kernel → Lives kernel.dispatcher.procs to → AwaitsIn k q kernel → AwaitsIn k q (owner_made console to kernel)
unfolding owner_made
awaits_owner_made k q console to kernel s living a =
    let waiting = waits_for kernel.units to (ConsoleUnit console) in
    awaits_heir k q (if_it waiting to) kernel.dispatcher.procs kernel.dispatcher.lists kernel.dispatcher.completed s.slots
    (λ h is. subst (Lives kernel.dispatcher.procs) (this_heir waiting to h is) living) a

awaits_assigned_to : (k q : ℕ) (o : Option ℕ) (console : ℕ) (own_only : Bool) (kernel : Kernel) → IsSoundKernel kernel → ((r : ℕ) → o ≡ Some r → Lives kernel.dispatcher.procs r) → AwaitsIn k q kernel
    → AwaitsIn k q (assigned_to o console own_only kernel).kernel
unfolding assigned_to
awaits_assigned_to k q None console own_only kernel s living a = a
awaits_assigned_to k q (Some to) console own_only kernel s living a =
    either (λ (c : Called). AwaitsIn k q c.kernel) (is_meant console own_only (process_in kernel.dispatcher.procs to)) _ _
    (λ _. awaits_owner_made k q console to kernel s (living to refl) a) (λ _. a)

awaits_assigned : (k q : ℕ) (call : Taken) (p : ℕ) (kernel : Kernel) → IsSoundKernel kernel → AwaitsIn k q kernel → AwaitsIn k q (assigned call p kernel).kernel
unfolding assigned
awaits_assigned k q call p kernel s a =
    either (λ (c : Called). AwaitsIn k q c.kernel) (nat_lt (byte_in call 0) (length kernel.units.consoles) && may_attach kernel.units p (ConsoleUnit (byte_in call 0))) _ _
    (λ _. awaits_assigned_to k q (named kernel.dispatcher.procs (name_at call 1)) (byte_in call 0) (byte_in call 9 == 255) kernel s
    (λ r is. (and_parts (lives kernel.dispatcher.procs r) _ (lowest_passes (is_called kernel.dispatcher.procs (name_at call 1)) r is).0).0) a)
    (λ _. a)

awaits_printer_called : (k q : ℕ) (call : Taken) (p : ℕ) (kernel : Kernel) → IsSoundKernel kernel → Lives kernel.dispatcher.procs p → q ≢ p → AwaitsIn k q kernel
    → AwaitsIn k q (printer_called call p kernel).kernel
unfolding printer_called
awaits_printer_called k q call p kernel s h other a =
    let P : Called → Type 0 = λ c. AwaitsIn k q c.kernel in
    either P (length kernel.units.printers == 0) _ _ (λ _. a)
    (λ some. by_rows P call p (process_in kernel.dispatcher.procs p) kernel printer_rows (
      λ _. awaits_attached k q p _ kernel other a,
      (
        λ _. awaits_detached k q p _ kernel s (has_own_printer kernel p s h (grind (arith, nat_tests, some))) a,
        (
          λ _. awaits_printer_set k q call p kernel s h other a,
          (
            λ _. awaits_attached_now k q p _ kernel a,
            tt,
          ),
        ),
      ),
    ) a)

awaits_unit_called : (k q : ℕ) (call : Taken) (p : ℕ) (kernel : Kernel) → IsSoundKernel kernel → Lives kernel.dispatcher.procs p → q ≢ p → AwaitsIn k q kernel
    → AwaitsIn k q (unit_called call p kernel).kernel
unfolding unit_called
awaits_unit_called k q call p kernel s h other a =
    by_rows (λ (c : Called). AwaitsIn k q c.kernel) call p (process_in kernel.dispatcher.procs p) kernel unit_rows (
      λ _. awaits_attached k q p _ kernel other a,
      (
        λ _. awaits_detached k q p _ kernel s (has_own_console kernel p s h) a,
        (
          λ _. awaits_console_set k q call p kernel s h other a,
          (
            λ _. awaits_assigned k q call p kernel s a,
            (
              λ _. a,
              (
                λ _. awaits_attached_now k q p _ kernel a,
                (
                  λ _. a,
                  (
                    λ _. awaits_printer_called k q call p kernel s h other a,
                    tt,
                  ),
                ),
              ),
            ),
          ),
        ),
      ),
    ) a

-- reading from a console and writing to it

awaits_awaited : (k q p console : ℕ) (key : Bool) (kernel : Kernel) → q ≢ p → AwaitsIn k q kernel → AwaitsIn k q (awaited p console key kernel).kernel
unfolding awaited
awaits_awaited k q p console key kernel other a = awaits_retried k q p _ other a

awaits_shown : (k q : ℕ) (o : Option ℕ) (p console : ℕ) (kernel : Kernel) → q ≢ p → AwaitsIn k q kernel → AwaitsIn k q (shown_key o p console kernel).kernel
unfolding shown_key echoed spoke
awaits_shown k q None p console kernel other a = awaits_awaited k q p console true kernel other a
awaits_shown k q (Some key) p console kernel other a = a

awaits_read_key : (k q : ℕ) (o : Option ℕ) (p console : ℕ) (kernel : Kernel) → q ≢ p → AwaitsIn k q kernel → AwaitsIn k q (read_key o p console kernel).kernel
unfolding read_key
awaits_read_key k q None p console kernel other a = awaits_awaited k q p console true kernel other a
awaits_read_key k q (Some key) p console kernel other a = a

awaits_polled_key : (k q : ℕ) (o : Option ℕ) (console : ℕ) (kernel : Kernel) → AwaitsIn k q kernel → AwaitsIn k q (polled_key o console kernel).kernel
unfolding polled_key
awaits_polled_key k q None console kernel a = a
awaits_polled_key k q (Some key) console kernel a = a

awaits_direct : (k q : ℕ) (call : Taken) (p console : ℕ) (kernel : Kernel) → q ≢ p → AwaitsIn k q kernel → AwaitsIn k q (direct call p console kernel).kernel
unfolding direct
awaits_direct k q call p console kernel other a =
    let P : Called → Type 0 = λ c. AwaitsIn k q c.kernel in
    either P (low_parameter call == POLL_KEY) _ _ (λ _. awaits_polled_key k q _ console kernel a)
    (λ _. either P (low_parameter call == TELL_STATUS) _ _ (λ _. a)
    (λ _. either P (low_parameter call == AWAIT_KEY) _ _ (λ _. awaits_read_key k q _ p console kernel other a) (λ _. a)))

awaits_line_done : (k q : ℕ) (call : Taken) (p : ℕ) (kernel : Kernel) → AwaitsIn k q kernel → AwaitsIn k q (line_done call p kernel).kernel
unfolding line_done
awaits_line_done k q call p kernel a = a

awaits_joined : (k q : ℕ) (call : Taken) (p console key : ℕ) (kernel : Kernel) → AwaitsIn k q kernel → AwaitsIn k q (key_joined call p console key kernel)
unfolding key_joined echoed spoke
awaits_joined k q call p console key kernel a = a

awaits_line_with : (k q key : ℕ) (call : Taken) (p console : ℕ) (kernel : Kernel) → AwaitsIn k q kernel → AwaitsIn k q (line_with key call p console kernel).kernel
unfolding line_with
awaits_line_with k q key call p console kernel a =
    let joined = awaits_joined k q call p console key kernel a in
    either (λ (c : Called). AwaitsIn k q c.kernel) (ends (line_of (process_in kernel.dispatcher.procs p)) (greatest call) key) _ _
    (λ _. awaits_line_done k q call p (key_joined call p console key kernel) joined) (λ _. joined)

awaits_line_by : (k q : ℕ) (o : Option ℕ) (call : Taken) (p console : ℕ) (kernel : Kernel) → q ≢ p → AwaitsIn k q kernel → AwaitsIn k q (line_by o call p console kernel).kernel
awaits_line_by k q None call p console kernel other a = awaits_awaited k q p console true kernel other a
awaits_line_by k q (Some key) call p console kernel other a = awaits_line_with k q key call p console (key_taken console kernel) a

awaits_echoed : (k q console : ℕ) (bytes : List ℕ) (kernel : Kernel) → AwaitsIn k q kernel → AwaitsIn k q (echoed console bytes kernel)
unfolding echoed spoke
awaits_echoed k q console bytes kernel a = a

awaits_line_read : (k q : ℕ) (call : Taken) (p console : ℕ) (kernel : Kernel) → q ≢ p → AwaitsIn k q kernel → AwaitsIn k q (line_read call p console kernel).kernel
unfolding line_read
awaits_line_read k q call p console kernel other a =
    either (λ (c : Called). AwaitsIn k q c.kernel) (is_full (process_in kernel.dispatcher.procs p).line_length (greatest call)) _ _
    (λ _. awaits_line_done k q call p (echoed console line_end kernel) (awaits_echoed k q console line_end kernel a))
    (λ _. awaits_line_by k q (next_key console kernel) call p console kernel other a)

awaits_console_served : (k q : ℕ) (call : Taken) (p console : ℕ) (kernel : Kernel) → q ≢ p → AwaitsIn k q kernel → AwaitsIn k q (console_served call p console kernel).kernel
unfolding console_served
awaits_console_served k q call p console kernel other a =
    let f = call.function in
    let P : Called → Type 0 = λ c. AwaitsIn k q c.kernel in
    either P (f == CONSOLE_INPUT) _ _ (λ _. awaits_shown k q _ p console kernel other a)
    (λ _. either P (f == RAW_CONSOLE_INPUT) _ _ (λ _. awaits_read_key k q _ p console kernel other a)
    (λ _. either P (f == DIRECT_CONSOLE_IO) _ _ (λ _. awaits_direct k q call p console kernel other a)
    (λ _. either P (f == READ_CONSOLE_BUFFER) _ _ (λ _. awaits_line_read k q call p console kernel other a)
    (λ _. either P (f == GET_CONSOLE_STATUS) _ _ (λ _. a) (λ _. a)))))

awaits_unless_stopped : (k q : ℕ) (call : Taken) (p console : ℕ) (kernel : Kernel) → q ≢ p → AwaitsIn k q kernel → AwaitsIn k q (unless_stopped call p console kernel).kernel
unfolding unless_stopped
awaits_unless_stopped k q call p console kernel other a =
    either (λ (c : Called). AwaitsIn k q c.kernel) (writes call && (console_at kernel.units console).stopped) _ _ (λ _. awaits_awaited k q p console false kernel other a)
    (λ _. awaits_console_served k q call p console (raw_if (is_raw call.function) console true kernel) other a)

awaits_console_called : (k q : ℕ) (call : Taken) (p : ℕ) (kernel : Kernel) → q ≢ p → AwaitsIn k q kernel → AwaitsIn k q (console_called call p kernel).kernel
unfolding console_called
awaits_console_called k q call p kernel other a =
    let console = (process_in kernel.dispatcher.procs p).console in
    let afterwards = attaching p (ConsoleUnit console) true kernel in
    either (λ (c : Called). AwaitsIn k q c.kernel) (may_attach kernel.units p (ConsoleUnit console)) _ _
    (λ _. awaits_unless_stopped k q call p console (raw_if (is_cooked call.function) console false afterwards) other a)
    (λ _. awaits_retried k q p afterwards other a)

-- any call

awaits_call_done : (k q : ℕ) (call : Taken) (p : ℕ) (kernel : Kernel) → IsSoundKernel kernel → Lives kernel.dispatcher.procs p → IsReady kernel.dispatcher p → q ≢ p
    → AwaitsIn k q kernel → AwaitsIn k q (call_done call p (process_in kernel.dispatcher.procs p) kernel).kernel
awaits_call_done k q call p kernel s h ready other a =
    by_table (λ (c : Called). AwaitsIn k q c.kernel) call p (process_in kernel.dispatcher.procs p) kernel (
      λ _. a,
      (
        λ _. awaits_console_called k q call p kernel other a,
        (
          λ _. awaits_unit_called k q call p kernel s h other a,
          (
            λ _. a,
            (
              λ _. a,
              (
                λ _. a,
                (
                  λ _. a,
                  (
                    λ _. a,
                    (
                      λ _. a,
                      (
                        λ _. awaits_date_set k q call kernel a,
                        (
                          λ _. awaits_date_answered k q call kernel a,
                          (
                            λ _. a,
                            (
                              λ _. awaits_polled k q call p kernel s h other a,
                              (
                                λ _. awaits_flag_waited k q call p kernel other a,
                                (
                                  λ _. awaits_flag_set k q call kernel s a,
                                  (
                                    λ _. awaits_queue_made k q call kernel a,
                                    (
                                      λ _. awaits_opened k q _ call kernel a,
                                      (
                                        λ _. awaits_deleted k q _ kernel a,
                                        (
                                          λ _. awaits_read_at k q _ true call p kernel s (λ _. other) a,
                                          (
                                            λ _. awaits_read_at k q _ false call p kernel s (λ _. other) a,
                                            (
                                              λ _. awaits_write_at k q _ true p kernel s (λ _. other) a,
                                              (
                                                λ _. awaits_write_at k q _ false p kernel s (λ _. other) a,
                                                (
                                                  λ _. awaits_delayed k q call p kernel s h ready other a,
                                                  (
                                                    λ _. awaits_behind k q p kernel s h ready a,
                                                    (
                                                      λ _. awaits_priority k q p (low_parameter call) kernel s h ready a,
                                                      (
                                                        λ _. awaits_procedure_called k q call p kernel s other a,
                                                        (
                                                          λ _. awaits_time_answered k q call kernel a,
                                                          tt,
                                                        ),
                                                      ),
                                                    ),
                                                  ),
                                                ),
                                              ),
                                            ),
                                          ),
                                        ),
                                      ),
                                    ),
                                  ),
                                ),
                              ),
                            ),
                          ),
                        ),
                      ),
                    ),
                  ),
                ),
              ),
            ),
          ),
        ),
      ),
    ) a

pub awaits_called : (k p q : ℕ) (kernel : Kernel) → IsSoundKernel kernel → Lives kernel.dispatcher.procs p → IsReady kernel.dispatcher p → q ≢ p → AwaitsIn k q kernel
    → AwaitsIn k q (called p kernel).kernel
awaits_called k p q kernel s h ready other a =
    let call = call_of kernel.dispatcher.procs p in
    awaits_call_done k q call p (call_begun (does_echo call.function) kernel) (sound_begun _ kernel s) h ready other
    (awaits_none k q kernel.dispatcher.lists kernel.dispatcher.completed a)
