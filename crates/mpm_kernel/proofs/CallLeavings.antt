-- What a call leaves of the disk, and of the held calls that were completed: all of the disk, and of these it completes one more at most.
use Rattle.std.proofs.Common.{◌≡◌, ◌∙◌, ℕ, ◌+◌, ◌≤◌, Bool, true, false, ◌&&◌, ◌==◌, List, length, Option, Some, None, if◌then◌else◌, refl, ap, arith}
use Rattle.std.specs.Prelude.{nat_lt, is_some, is_none, slice_index_or}
use Rattle.mpm_base.proofs.Choices.{either}
use Rattle.mpm_base.specs.Calls.{Taken, byte_in, name_at, word_at}
use Rattle.mpm_base.specs.declared.functions.TheConstants.{CONSOLE_INPUT, RAW_CONSOLE_INPUT, DIRECT_CONSOLE_IO, READ_CONSOLE_BUFFER, GET_CONSOLE_STATUS}
use Rattle.mpm_clock.specs.PackedDecimal.{names_time}
use Rattle.mpm_procs.specs.Table.{process_in, call_of}
use Rattle.mpm_procs.specs.declared.process.Process.{Process}
use Rattle.mpm_flags.specs.States.{flag_at, with_flag, after_set, wait_answer, set_answer}
use Rattle.mpm_flags.specs.declared.flags.FlagWait.{FlagWait}
use Rattle.mpm_flags.specs.declared.flags.FlagWait.TheVariants.{Passed, Waits, Underrun}
use Rattle.mpm_flags.specs.declared.flags.FlagSet.{FlagSet}
use Rattle.mpm_flags.specs.declared.flags.FlagSet.TheVariants.{Set, Woke, Overrun}
use Rattle.mpm_queues.specs.Queues.{make_error}
use Rattle.mpm_queues.specs.Handling.{read_outcome, write_outcome}
use Rattle.mpm_queues.specs.declared.queues.QueueOutcome.{QueueOutcome}
use Rattle.mpm_queues.specs.declared.queues.QueueOutcome.TheVariants.{Done as Handled, NotNow}
use Rattle.mpm_consoles.specs.Consoles.{console_at}
use Rattle.mpm_consoles.specs.Handling.{may_attach}
use Rattle.mpm_consoles.specs.declared.modes.TheConstants.{POLL_KEY, TELL_STATUS, AWAIT_KEY}
use Rattle.mpm_base.specs.declared.unit.Unit.{Unit}
use Rattle.mpm_base.specs.declared.unit.Unit.TheVariants.{Console as ConsoleUnit, Printer as PrinterUnit}
use Rattle.mpm_line_input.specs.Lines.{is_full, ends, line_end}
use Rattle.mpm_service.specs.Disk.{DiskService}
use Rattle.mpm_kernel.specs.Kernel.{Kernel, call_begun}
use Rattle.mpm_kernel.specs.Called.{Called, low_parameter}
use Rattle.mpm_kernel.specs.Calls.{call_done, called, does_echo}
use Rattle.mpm_kernel.specs.Columns.{spoke}
use Rattle.mpm_kernel.specs.Waiting.{polled, is_flag, flag_waited_for, waited, flag_waited, with_woken, signalled, set_if_flag, flag_set, process_delayed}
use Rattle.mpm_kernel.specs.Dates.{date_set, date_answered, time_answered}
use Rattle.mpm_kernel.specs.Queueing.{with_queue, queue_made, opened, may_delete, deleted, queued, blocked_or_refused, taken_from, was_read, read_at, given_to, was_written, write_at}
use Rattle.mpm_kernel.specs.Procedures.{procedure_queue, inside, procedure_read, procedure_at, procedure_called}
use Rattle.mpm_kernel.specs.Consoling.{retried, attaching, attached, attached_now, detached, console_changed, printer_changed, console_set, printer_set, named, owner_made, is_meant, assigned_to, assigned, printer_rows, printer_called, unit_rows, unit_called, awaited, echoed, unit_left}
use Rattle.mpm_kernel.specs.ConsoleInput.{is_cooked, is_raw, writes, raw_if, key_taken, next_key, shown_key, read_key, polled_key, direct, line_of, greatest, line_done, key_joined, line_with, line_by, line_read, console_served, unless_stopped, console_called}
use Rattle.mpm_kernel.proofs.RowLaws.{by_rows, by_table}
use Rattle.mpm_kernel.proofs.EndingLaws.{few_other}

-- calls that complete none

abbrev left_alone : Kernel → DiskService × List ℕ
left_alone kernel = (kernel.disk, kernel.dispatcher.completed)

abbrev LeavesAlone : Kernel → Called → Type 0
LeavesAlone kernel called = left_alone called.kernel ≡ left_alone kernel

alone_if : (kernel : Kernel) (b : Bool) (x y : Called) → LeavesAlone kernel x → LeavesAlone kernel y → LeavesAlone kernel (if b then x else y)
alone_if kernel b x y one other = either (LeavesAlone kernel) b x y (λ _. one) (λ _. other)

same_if : (kernel : Kernel) (b : Bool) (x y : Kernel) → left_alone x ≡ left_alone kernel → left_alone y ≡ left_alone kernel
    → left_alone (if b then x else y) ≡ left_alone kernel
same_if kernel b x y one other = either (λ (k : Kernel). left_alone k ≡ left_alone kernel) b x y (λ _. one) (λ _. other)

-- waiting
alone_polled : (call : Taken) (p : ℕ) (kernel : Kernel) → LeavesAlone kernel (polled call p kernel)
unfolding polled
alone_polled call p kernel =
    alone_if kernel (nat_lt 15 (low_parameter call)) _ _ refl (alone_if kernel (slice_index_or kernel.devices.ready (low_parameter call) false) _ _ refl refl)

alone_waited : (answer : FlagWait) (p : ℕ) (kernel : Kernel) → LeavesAlone kernel (waited answer p kernel)
unfolding waited
alone_waited Passed p kernel = refl
alone_waited Waits p kernel = refl
alone_waited Underrun p kernel = refl

alone_flag_waited : (call : Taken) (p : ℕ) (kernel : Kernel) → LeavesAlone kernel (flag_waited call p kernel)
unfolding flag_waited
alone_flag_waited call p kernel =
    let flag = low_parameter call in
    alone_if kernel (is_flag flag) _ _ (alone_waited (wait_answer p (flag_at kernel.flags flag)) p (flag_waited_for kernel p flag)) refl

alone_delayed : (call : Taken) (p : ℕ) (kernel : Kernel) → LeavesAlone kernel (process_delayed call p kernel)
unfolding process_delayed
alone_delayed call p kernel = alone_if kernel (call.word == 0) _ _ refl refl

alone_date_set : (call : Taken) (kernel : Kernel) → LeavesAlone kernel (date_set call kernel)
unfolding date_set
alone_date_set call kernel = alone_if kernel (names_time call) _ _ refl refl

alone_date_answered : (call : Taken) (kernel : Kernel) → LeavesAlone kernel (date_answered call kernel)
unfolding date_answered
alone_date_answered call kernel = refl

alone_time_answered : (call : Taken) (kernel : Kernel) → LeavesAlone kernel (time_answered call kernel)
unfolding time_answered
alone_time_answered call kernel = refl

-- queues
alone_queue_made : (call : Taken) (kernel : Kernel) → LeavesAlone kernel (queue_made call kernel)
unfolding queue_made with_queue
alone_queue_made call kernel = alone_if kernel (is_none (make_error kernel.queues (name_at call 2) (word_at call 10) (word_at call 12))) _ _ refl refl

alone_opened : (q : Option ℕ) (call : Taken) (kernel : Kernel) → LeavesAlone kernel (opened q call kernel)
unfolding opened
alone_opened None call kernel = refl
alone_opened (Some q) call kernel = refl

alone_deleted : (q : Option ℕ) (kernel : Kernel) → LeavesAlone kernel (deleted q kernel)
unfolding deleted
alone_deleted None kernel = refl
alone_deleted (Some q) kernel = alone_if kernel (may_delete kernel q) _ _ refl refl

alone_blocked_or_refused : (may_wait : Bool) (p q : ℕ) (reader : Bool) (kernel : Kernel) → LeavesAlone kernel (blocked_or_refused may_wait p q reader kernel)
unfolding blocked_or_refused queued
alone_blocked_or_refused may_wait p q reader kernel = alone_if kernel may_wait _ _ refl refl

-- consoles and printers
alone_attached : (p : ℕ) (unit : Unit) (kernel : Kernel) → LeavesAlone kernel (attached p unit kernel)
unfolding attached retried
alone_attached p unit kernel = alone_if kernel (may_attach kernel.units p unit) _ _ refl refl

alone_attached_now : (p : ℕ) (unit : Unit) (kernel : Kernel) → LeavesAlone kernel (attached_now p unit kernel)
unfolding attached_now
alone_attached_now p unit kernel = alone_if kernel (may_attach kernel.units p unit) _ _ refl refl

alone_detached : (p : ℕ) (unit : Unit) (kernel : Kernel) → LeavesAlone kernel (detached p unit kernel)
unfolding unit_left
alone_detached p unit kernel = refl

alone_console_changed : (p console : ℕ) (kernel : Kernel) → left_alone (console_changed p console kernel) ≡ left_alone kernel
unfolding console_changed unit_left
alone_console_changed p console kernel = same_if kernel ((process_in kernel.dispatcher.procs p).console == console) _ _ refl refl

alone_console_set : (call : Taken) (p : ℕ) (kernel : Kernel) → LeavesAlone kernel (console_set call p kernel)
unfolding console_set
alone_console_set call p kernel =
    let console = low_parameter call in
    alone_if kernel (nat_lt console (length kernel.units.consoles)) _ _
    (alone_attached p (ConsoleUnit console) (console_changed p console kernel) ∙ alone_console_changed p console kernel) refl

alone_printer_changed : (p printer : ℕ) (kernel : Kernel) → left_alone (printer_changed p printer kernel) ≡ left_alone kernel
unfolding printer_changed unit_left
alone_printer_changed p printer kernel = same_if kernel ((process_in kernel.dispatcher.procs p).printer == printer) _ _ refl refl

alone_printer_set : (call : Taken) (p : ℕ) (kernel : Kernel) → LeavesAlone kernel (printer_set call p kernel)
unfolding printer_set
alone_printer_set call p kernel =
    let printer = low_parameter call in
    alone_if kernel (nat_lt printer (length kernel.units.printers)) _ _
    (alone_attached p (PrinterUnit printer) (printer_changed p printer kernel) ∙ alone_printer_changed p printer kernel) refl

alone_assigned_to : (o : Option ℕ) (console : ℕ) (own_only : Bool) (kernel : Kernel) → LeavesAlone kernel (assigned_to o console own_only kernel)
unfolding assigned_to owner_made
alone_assigned_to None console own_only kernel = refl
alone_assigned_to (Some to) console own_only kernel = alone_if kernel (is_meant console own_only (process_in kernel.dispatcher.procs to)) _ _ refl refl

alone_assigned : (call : Taken) (p : ℕ) (kernel : Kernel) → LeavesAlone kernel (assigned call p kernel)
unfolding assigned
alone_assigned call p kernel =
    alone_if kernel (nat_lt (byte_in call 0) (length kernel.units.consoles) && may_attach kernel.units p (ConsoleUnit (byte_in call 0))) _ _
    (alone_assigned_to (named kernel.dispatcher.procs (name_at call 1)) (byte_in call 0) (byte_in call 9 == 255) kernel) refl

alone_printer_called : (call : Taken) (p : ℕ) (kernel : Kernel) → LeavesAlone kernel (printer_called call p kernel)
unfolding printer_called
alone_printer_called call p kernel =
    alone_if kernel (length kernel.units.printers == 0) _ _ refl
    (by_rows (LeavesAlone kernel) call p (process_in kernel.dispatcher.procs p) kernel printer_rows (
      λ _. alone_attached p _ kernel,
      (λ _. alone_detached p _ kernel, (λ _. alone_printer_set call p kernel, (λ _. alone_attached_now p _ kernel, tt))),
    )
    refl)

alone_unit_called : (call : Taken) (p : ℕ) (kernel : Kernel) → LeavesAlone kernel (unit_called call p kernel)
unfolding unit_called
alone_unit_called call p kernel =
    by_rows (LeavesAlone kernel) call p (process_in kernel.dispatcher.procs p) kernel unit_rows (
      λ _. alone_attached p _ kernel,
      (
        λ _. alone_detached p _ kernel,
        (
          λ _. alone_console_set call p kernel,
          (
            λ _. alone_assigned call p kernel,
            (λ _. refl, (λ _. alone_attached_now p _ kernel, (λ _. refl, (λ _. alone_printer_called call p kernel, tt)))),
          ),
        ),
      ),
    )
    refl

-- reading from a console and writing to it
alone_awaited : (p console : ℕ) (key : Bool) (kernel : Kernel) → LeavesAlone kernel (awaited p console key kernel)
unfolding awaited retried
alone_awaited p console key kernel = refl

alone_shown : (o : Option ℕ) (p console : ℕ) (kernel : Kernel) → LeavesAlone kernel (shown_key o p console kernel)
unfolding shown_key echoed spoke
alone_shown None p console kernel = alone_awaited p console true kernel
alone_shown (Some key) p console kernel = refl

alone_read_key : (o : Option ℕ) (p console : ℕ) (kernel : Kernel) → LeavesAlone kernel (read_key o p console kernel)
unfolding read_key
alone_read_key None p console kernel = alone_awaited p console true kernel
alone_read_key (Some key) p console kernel = refl

alone_polled_key : (o : Option ℕ) (console : ℕ) (kernel : Kernel) → LeavesAlone kernel (polled_key o console kernel)
unfolding polled_key
alone_polled_key None console kernel = refl
alone_polled_key (Some key) console kernel = refl

alone_direct : (call : Taken) (p console : ℕ) (kernel : Kernel) → LeavesAlone kernel (direct call p console kernel)
unfolding direct
alone_direct call p console kernel =
    alone_if kernel (low_parameter call == POLL_KEY) _ _ (alone_polled_key _ console kernel)
    (alone_if kernel (low_parameter call == TELL_STATUS) _ _ refl
    (alone_if kernel (low_parameter call == AWAIT_KEY) _ _ (alone_read_key _ p console kernel)
    refl))

alone_line_done : (call : Taken) (p : ℕ) (kernel : Kernel) → LeavesAlone kernel (line_done call p kernel)
unfolding line_done
alone_line_done call p kernel = refl

alone_key_joined : (call : Taken) (p console key : ℕ) (kernel : Kernel) → left_alone (key_joined call p console key kernel) ≡ left_alone kernel
unfolding key_joined echoed spoke
alone_key_joined call p console key kernel = refl

alone_line_with : (key : ℕ) (call : Taken) (p console : ℕ) (kernel : Kernel) → LeavesAlone kernel (line_with key call p console kernel)
unfolding line_with
alone_line_with key call p console kernel =
    let joined = alone_key_joined call p console key kernel in
    alone_if kernel (ends (line_of (process_in kernel.dispatcher.procs p)) (greatest call) key) _ _
    (alone_line_done call p (key_joined call p console key kernel) ∙ joined) joined

alone_line_by : (o : Option ℕ) (call : Taken) (p console : ℕ) (kernel : Kernel) → LeavesAlone kernel (line_by o call p console kernel)
alone_line_by None call p console kernel = alone_awaited p console true kernel
alone_line_by (Some key) call p console kernel = alone_line_with key call p console (key_taken console kernel)

alone_echoed : (console : ℕ) (bytes : List ℕ) (kernel : Kernel) → left_alone (echoed console bytes kernel) ≡ left_alone kernel
unfolding echoed spoke
alone_echoed console bytes kernel = refl

alone_line_read : (call : Taken) (p console : ℕ) (kernel : Kernel) → LeavesAlone kernel (line_read call p console kernel)
unfolding line_read
alone_line_read call p console kernel =
    alone_if kernel (is_full (process_in kernel.dispatcher.procs p).line_length (greatest call)) _ _
    (alone_line_done call p (echoed console line_end kernel) ∙ alone_echoed console line_end kernel)
    (alone_line_by (next_key console kernel) call p console kernel)

alone_console_served : (call : Taken) (p console : ℕ) (kernel : Kernel) → LeavesAlone kernel (console_served call p console kernel)
unfolding console_served
alone_console_served call p console kernel =
    let f = call.function in
    alone_if kernel (f == CONSOLE_INPUT) _ _ (alone_shown _ p console kernel)
    (alone_if kernel (f == RAW_CONSOLE_INPUT) _ _ (alone_read_key _ p console kernel)
    (alone_if kernel (f == DIRECT_CONSOLE_IO) _ _ (alone_direct call p console kernel)
    (alone_if kernel (f == READ_CONSOLE_BUFFER) _ _ (alone_line_read call p console kernel)
    (alone_if kernel (f == GET_CONSOLE_STATUS) _ _ refl refl))))

alone_unless_stopped : (call : Taken) (p console : ℕ) (kernel : Kernel) → LeavesAlone kernel (unless_stopped call p console kernel)
unfolding unless_stopped
alone_unless_stopped call p console kernel =
    alone_if kernel (writes call && (console_at kernel.units console).stopped) _ _ (alone_awaited p console false kernel)
    (alone_console_served call p console (raw_if (is_raw call.function) console true kernel))

alone_console_called : (call : Taken) (p : ℕ) (kernel : Kernel) → LeavesAlone kernel (console_called call p kernel)
unfolding console_called retried
alone_console_called call p kernel =
    let console = (process_in kernel.dispatcher.procs p).console in
    alone_if kernel (may_attach kernel.units p (ConsoleUnit console)) _ _
    (alone_unless_stopped call p console (raw_if (is_cooked call.function) console false (attaching p (ConsoleUnit console) true kernel))) refl

-- calls that complete one at most

pub record CompletesOne (old new : Kernel) : Type 0 where
  pub disk : new.disk ≡ old.disk
  pub few : length new.dispatcher.completed ≤ length old.dispatcher.completed + 1

one_if : (kernel : Kernel) (b : Bool) (x y : Called) → CompletesOne kernel x.kernel → CompletesOne kernel y.kernel → CompletesOne kernel (if b then x else y).kernel
one_if kernel b x y one other = either (λ (c : Called). CompletesOne kernel c.kernel) b x y (λ _. one) (λ _. other)

at_most_one : (old new : Kernel) → left_alone new ≡ left_alone old → CompletesOne old new
at_most_one old new same = record { disk = ap (λ left. left.0) same; few = omega (arith, ap (λ left. length left.1) same) }

completes_none : (kernel : Kernel) → CompletesOne kernel kernel
completes_none kernel = at_most_one kernel kernel refl

one_woken : (answer : FlagSet) (kernel : Kernel) → CompletesOne kernel (with_woken answer kernel)
unfolding with_woken
one_woken Set kernel = completes_none kernel
one_woken Overrun kernel = completes_none kernel
one_woken (Woke p) kernel = record { disk = refl; few = omega arith }

pub one_signalled : (flag : ℕ) (kernel : Kernel) → CompletesOne kernel (signalled flag kernel)
unfolding signalled
one_signalled flag kernel =
    let woke = one_woken (set_answer (flag_at kernel.flags flag)) (record kernel { flags = with_flag kernel.flags flag (after_set (flag_at kernel.flags flag)) }) in
    record { disk = woke.disk; few = woke.few }

one_flag_set : (call : Taken) (kernel : Kernel) → CompletesOne kernel (flag_set call kernel).kernel
unfolding set_if_flag
one_flag_set call kernel = one_if kernel (is_flag (low_parameter call)) _ _ (one_signalled (low_parameter call) kernel) (completes_none kernel)

one_was_read : (outcome : QueueOutcome) (may_wait : Bool) (call : Taken) (p q : ℕ) (kernel : Kernel) → CompletesOne kernel (was_read outcome may_wait call p q kernel).kernel
unfolding was_read
one_was_read (Handled other) may_wait call p q kernel = record { disk = refl; few = few_other other (taken_from kernel p q) }
one_was_read NotNow may_wait call p q kernel = at_most_one kernel _ (alone_blocked_or_refused may_wait p q true kernel)

one_read_at : (q : Option ℕ) (may_wait : Bool) (call : Taken) (p : ℕ) (kernel : Kernel) → CompletesOne kernel (read_at q may_wait call p kernel).kernel
unfolding read_at
one_read_at None may_wait call p kernel = completes_none kernel
one_read_at (Some q) may_wait call p kernel = one_was_read (read_outcome kernel.queues q) may_wait call p q kernel

one_was_written : (outcome : QueueOutcome) (may_wait : Bool) (p q : ℕ) (kernel : Kernel) → CompletesOne kernel (was_written outcome may_wait p q kernel).kernel
unfolding was_written
one_was_written (Handled other) may_wait p q kernel = record { disk = refl; few = few_other other (given_to kernel p q) }
one_was_written NotNow may_wait p q kernel = at_most_one kernel _ (alone_blocked_or_refused may_wait p q false kernel)

one_write_at : (q : Option ℕ) (may_wait : Bool) (p : ℕ) (kernel : Kernel) → CompletesOne kernel (write_at q may_wait p kernel).kernel
unfolding write_at
one_write_at None may_wait p kernel = completes_none kernel
one_write_at (Some q) may_wait p kernel = one_was_written (write_outcome kernel.queues q) may_wait p q kernel

one_procedure_read : (outcome : QueueOutcome) (p q : ℕ) (kernel : Kernel) → CompletesOne kernel (procedure_read outcome p q kernel).kernel
unfolding procedure_read inside
one_procedure_read (Handled other) p q kernel = record { disk = refl; few = few_other other (taken_from kernel p q) }
one_procedure_read NotNow p q kernel = at_most_one kernel _ (alone_blocked_or_refused true p q true kernel)

one_procedure_at : (q : Option ℕ) (p : ℕ) (kernel : Kernel) → CompletesOne kernel (procedure_at q p kernel).kernel
unfolding procedure_at
one_procedure_at None p kernel = completes_none kernel
one_procedure_at (Some q) p kernel = one_procedure_read (read_outcome kernel.queues q) p q kernel

one_procedure_called : (call : Taken) (p : ℕ) (kernel : Kernel) → CompletesOne kernel (procedure_called call p kernel).kernel
unfolding procedure_called
one_procedure_called call p kernel =
    one_if kernel (is_some (process_in kernel.dispatcher.procs p).procedure) _ _ (completes_none kernel) (one_procedure_at (procedure_queue kernel.queues call) p kernel)

-- all calls

one_call_done : (call : Taken) (p : ℕ) (process : Process) (kernel : Kernel) → CompletesOne kernel (call_done call p process kernel).kernel
one_call_done call p process kernel =
    let few = at_most_one kernel in
    by_table (λ (c : Called). CompletesOne kernel c.kernel) call p process kernel (
      λ _. few _ refl,
      (
        λ _. few _ (alone_console_called call p kernel),
        (
          λ _. few _ (alone_unit_called call p kernel),
          (
            λ _. few _ refl,
            (
              λ _. few _ refl,
              (
                λ _. few _ refl,
                (
                  λ _. few _ refl,
                  (
                    λ _. few _ refl,
                    (
                      λ _. few _ refl,
                      (
                        λ _. few _ (alone_date_set call kernel),
                        (
                          λ _. few _ (alone_date_answered call kernel),
                          (
                            λ _. few _ refl,
                            (
                              λ _. few _ (alone_polled call p kernel),
                              (
                                λ _. few _ (alone_flag_waited call p kernel),
                                (
                                  λ _. one_flag_set call kernel,
                                  (
                                    λ _. few _ (alone_queue_made call kernel),
                                    (
                                      λ _. few _ (alone_opened _ call kernel),
                                      (
                                        λ _. few _ (alone_deleted _ kernel),
                                        (
                                          λ _. one_read_at _ true call p kernel,
                                          (
                                            λ _. one_read_at _ false call p kernel,
                                            (
                                              λ _. one_write_at _ true p kernel,
                                              (
                                                λ _. one_write_at _ false p kernel,
                                                (
                                                  λ _. few _ (alone_delayed call p kernel),
                                                  (
                                                    λ _. few _ refl,
                                                    (
                                                      λ _. few _ refl,
                                                      (
                                                        λ _. one_procedure_called call p kernel,
                                                        (
                                                          λ _. few _ (alone_time_answered call kernel),
                                                          tt,
                                                        ),
                                                      ),
                                                    ),
                                                  ),
                                                ),
                                              ),
                                            ),
                                          ),
                                        ),
                                      ),
                                    ),
                                  ),
                                ),
                              ),
                            ),
                          ),
                        ),
                      ),
                    ),
                  ),
                ),
              ),
            ),
          ),
        ),
      ),
    )
    (few _ refl)

pub one_called : (p : ℕ) (kernel : Kernel)
    → CompletesOne (call_begun (does_echo (call_of kernel.dispatcher.procs p).function) kernel) (called p kernel).kernel
one_called p kernel =
    one_call_done (call_of kernel.dispatcher.procs p) p (process_in kernel.dispatcher.procs p)
    (call_begun (does_echo (call_of kernel.dispatcher.procs p).function) kernel)
