-- How a call ends: which may be held, which may be tried again, and which end their process.
use Rattle.std.proofs.Common.{◌≡◌, ℕ, Bool, true, false, ◌&&◌, ◌||◌, ◌==◌, [], ◌∷◌, Option, Some, None, if◌then◌else◌, ◌∙◌, refl, sym, length}
use Rattle.std.proofs.lemmas.Bool.{false≢true}
use Rattle.std.specs.Prelude.{◌↔◌, ⊤, nat_lt, is_none, is_some, slice_index_or}
use Rattle.mpm_base.proofs.Choices.{either}
use Rattle.mpm_base.specs.Lists.{is_among}
use Rattle.mpm_base.specs.Calls.{Taken, byte_in, name_at, word_at}
use Rattle.mpm_base.specs.declared.call.Outcome.{Outcome}
use Rattle.mpm_base.specs.declared.call.Outcome.TheVariants.{Done, Held, Retry, Ended}
use Rattle.mpm_base.specs.declared.functions.TheConstants.{CONSOLE_INPUT, RAW_CONSOLE_INPUT, LIST_OUTPUT, DIRECT_CONSOLE_IO, READ_CONSOLE_BUFFER, GET_CONSOLE_STATUS, POLL, FLAG_WAIT, READ_QUEUE, WRITE_QUEUE, DELAY, ATTACH_CONSOLE, SET_CONSOLE, CALL_RESIDENT_SYSTEM_PROCEDURE, ATTACH_LIST, SET_LIST}
use Rattle.mpm_flags.specs.States.{flag_at, wait_answer}
use Rattle.mpm_flags.specs.declared.flags.FlagWait.{FlagWait}
use Rattle.mpm_flags.specs.declared.flags.FlagWait.TheVariants.{Passed, Waits, Underrun}
use Rattle.mpm_clock.specs.PackedDecimal.{names_time}
use Rattle.mpm_procs.specs.Table.{process_in, call_of}
use Rattle.mpm_procs.specs.declared.process.Process.{Process}
use Rattle.mpm_queues.specs.Queues.{found, make_error}
use Rattle.mpm_queues.specs.Handling.{read_outcome, write_outcome}
use Rattle.mpm_queues.specs.declared.queues.QueueOutcome.{QueueOutcome}
use Rattle.mpm_queues.specs.declared.queues.QueueOutcome.TheVariants.{Done as Handled, NotNow}
use Rattle.mpm_consoles.specs.Consoles.{console_at}
use Rattle.mpm_consoles.specs.Handling.{may_attach}
use Rattle.mpm_consoles.specs.declared.modes.TheConstants.{POLL_KEY, TELL_STATUS, AWAIT_KEY}
use Rattle.mpm_base.specs.declared.unit.Unit.{Unit}
use Rattle.mpm_base.specs.declared.unit.Unit.TheVariants.{Console as ConsoleUnit, Printer as PrinterUnit}
use Rattle.mpm_line_input.specs.Lines.{is_full, ends, line_end}
use Rattle.mpm_kernel.specs.Kernel.{Kernel, call_begun}
use Rattle.mpm_kernel.specs.Called.{Called, low_parameter}
use Rattle.mpm_kernel.specs.Calls.{for_console, ending, going_on, done_by, call_done, called, does_echo}
use Rattle.mpm_kernel.proofs.RowLaws.{by_rows, among}
use Rattle.mpm_kernel.specs.Waiting.{polled, is_flag, flag_waited_for, waited, flag_waited, set_if_flag, flag_set, process_delayed}
use Rattle.mpm_kernel.specs.Dates.{date_set, date_answered, time_answered}
use Rattle.mpm_kernel.specs.Queueing.{queue_made, opened, may_delete, deleted, blocked_or_refused, was_read, read_at, was_written, write_at, pointed}
use Rattle.mpm_kernel.specs.Procedures.{procedure_queue, procedure_read, procedure_at, procedure_called}
use Rattle.mpm_kernel.specs.Consoling.{retried, attaching, attached, attached_now, console_changed, printer_changed, console_set, printer_set, is_meant, assigned_to, assigned, printer_rows, printer_called, unit_rows, unit_called, named, awaited, echoed}
use Rattle.mpm_kernel.specs.ConsoleInput.{is_cooked, is_raw, writes, raw_if, key_taken, next_key, shown_key, read_key, polled_key, direct, line_of, greatest, line_done, key_joined, line_with, line_by, line_read, console_served, unless_stopped, console_called}

-- the functions whose calls may be held, those whose calls may be tried again, and those that end their process
abbrev pub may_hold : ℕ → Bool
may_hold f = is_among f (POLL ∷ FLAG_WAIT ∷ READ_QUEUE ∷ WRITE_QUEUE ∷ DELAY ∷ CALL_RESIDENT_SYSTEM_PROCEDURE ∷ [])

abbrev pub may_retry : ℕ → Bool
may_retry f =
    is_among f for_console || is_among f (LIST_OUTPUT ∷ ATTACH_CONSOLE ∷ SET_CONSOLE ∷ ATTACH_LIST ∷ SET_LIST ∷ [])

abbrev pub ends_process : ℕ → Bool
ends_process f = is_among f ending

-- a call is done, or held or tried again where that may be
Goes : Bool → Bool → Outcome → Type 0
Goes hold retry Done = ⊤
Goes hold retry Held = hold ≡ true
Goes hold retry Retry = retry ≡ true
Goes hold retry Ended = ⊥

goes_by : (hold retry b : Bool) (x y : Called) → (b ≡ true → Goes hold retry x.outcome) → (b ≡ false → Goes hold retry y.outcome)
    → Goes hold retry (if b then x else y).outcome
goes_by hold retry b x y is was = either (λ (c : Called). Goes hold retry c.outcome) b x y is was

goes_if : (hold retry b : Bool) (x y : Called) → Goes hold retry x.outcome → Goes hold retry y.outcome → Goes hold retry (if b then x else y).outcome
goes_if hold retry b x y is was = goes_by hold retry b x y (λ _. is) (λ _. was)

-- calls that wait

goes_polled : (hold retry : Bool) (call : Taken) (p : ℕ) (kernel : Kernel) → hold ≡ true → Goes hold retry (polled call p kernel).outcome
unfolding polled Goes
goes_polled hold retry call p kernel may =
    goes_if hold retry (nat_lt 15 (low_parameter call)) _ _ tt
    (goes_if hold retry (slice_index_or kernel.devices.ready (low_parameter call) false) _ _ tt may)

goes_waited : (hold retry : Bool) (answer : FlagWait) (p : ℕ) (kernel : Kernel) → hold ≡ true → Goes hold retry (waited answer p kernel).outcome
unfolding waited Goes
goes_waited hold retry Passed p kernel may = tt
goes_waited hold retry Waits p kernel may = may
goes_waited hold retry Underrun p kernel may = tt

goes_flag_waited : (hold retry : Bool) (call : Taken) (p : ℕ) (kernel : Kernel) → hold ≡ true → Goes hold retry (flag_waited call p kernel).outcome
unfolding flag_waited Goes
goes_flag_waited hold retry call p kernel may =
    let flag = low_parameter call in
    goes_if hold retry (is_flag flag) _ _
    (goes_waited hold retry (wait_answer p (flag_at kernel.flags flag)) p (flag_waited_for kernel p flag) may) tt

goes_flag_set : (hold retry : Bool) (call : Taken) (kernel : Kernel) → Goes hold retry (flag_set call kernel).outcome
unfolding set_if_flag Goes
goes_flag_set hold retry call kernel = goes_if hold retry (is_flag (low_parameter call)) _ _ tt tt

goes_delayed : (hold retry : Bool) (call : Taken) (p : ℕ) (kernel : Kernel) → hold ≡ true → Goes hold retry (process_delayed call p kernel).outcome
unfolding process_delayed Goes
goes_delayed hold retry call p kernel may = goes_if hold retry (call.word == 0) _ _ tt may

-- calls on dates

goes_date_set : (hold retry : Bool) (call : Taken) (kernel : Kernel) → Goes hold retry (date_set call kernel).outcome
unfolding date_set Goes
goes_date_set hold retry call kernel = goes_if hold retry (names_time call) _ _ tt tt

goes_date_told : (hold retry : Bool) (call : Taken) (kernel : Kernel) → Goes hold retry (date_answered call kernel).outcome
unfolding date_answered Goes
goes_date_told hold retry call kernel = tt

goes_time_told : (hold retry : Bool) (call : Taken) (kernel : Kernel) → Goes hold retry (time_answered call kernel).outcome
unfolding time_answered Goes
goes_time_told hold retry call kernel = tt

-- calls on queues

goes_queue_made : (hold retry : Bool) (call : Taken) (kernel : Kernel) → Goes hold retry (queue_made call kernel).outcome
unfolding queue_made Goes
goes_queue_made hold retry call kernel =
    goes_if hold retry (is_none (make_error kernel.queues (name_at call 2) (word_at call 10) (word_at call 12))) _ _ tt tt

goes_opened : (hold retry : Bool) (slot : Option ℕ) (call : Taken) (kernel : Kernel) → Goes hold retry (opened slot call kernel).outcome
unfolding opened Goes
goes_opened hold retry None call kernel = tt
goes_opened hold retry (Some q) call kernel = tt

goes_deleted : (hold retry : Bool) (slot : Option ℕ) (kernel : Kernel) → Goes hold retry (deleted slot kernel).outcome
unfolding deleted Goes
goes_deleted hold retry None kernel = tt
goes_deleted hold retry (Some q) kernel = goes_if hold retry (may_delete kernel q) _ _ tt tt

goes_put_off : (hold retry waits : Bool) (p q : ℕ) (reader : Bool) (kernel : Kernel) → (waits ≡ true → hold ≡ true)
    → Goes hold retry (blocked_or_refused waits p q reader kernel).outcome
unfolding blocked_or_refused Goes
goes_put_off hold retry waits p q reader kernel may = goes_by hold retry waits _ _ (λ is. may is) (λ _. tt)

goes_was_read : (hold retry : Bool) (outcome : QueueOutcome) (waits : Bool) (call : Taken) (p q : ℕ) (kernel : Kernel) → (waits ≡ true → hold ≡ true)
    → Goes hold retry (was_read outcome waits call p q kernel).outcome
unfolding was_read Goes
goes_was_read hold retry (Handled other) waits call p q kernel may = tt
goes_was_read hold retry NotNow waits call p q kernel may = goes_put_off hold retry waits p q true kernel may

goes_read_at : (hold retry : Bool) (slot : Option ℕ) (waits : Bool) (call : Taken) (p : ℕ) (kernel : Kernel) → (waits ≡ true → hold ≡ true)
    → Goes hold retry (read_at slot waits call p kernel).outcome
unfolding read_at Goes
goes_read_at hold retry None waits call p kernel may = tt
goes_read_at hold retry (Some q) waits call p kernel may = goes_was_read hold retry (read_outcome kernel.queues q) waits call p q kernel may

goes_was_written : (hold retry : Bool) (outcome : QueueOutcome) (waits : Bool) (p q : ℕ) (kernel : Kernel) → (waits ≡ true → hold ≡ true)
    → Goes hold retry (was_written outcome waits p q kernel).outcome
unfolding was_written Goes
goes_was_written hold retry (Handled other) waits p q kernel may = tt
goes_was_written hold retry NotNow waits p q kernel may = goes_put_off hold retry waits p q false kernel may

goes_write_at : (hold retry : Bool) (slot : Option ℕ) (waits : Bool) (p : ℕ) (kernel : Kernel) → (waits ≡ true → hold ≡ true)
    → Goes hold retry (write_at slot waits p kernel).outcome
unfolding write_at Goes
goes_write_at hold retry None waits p kernel may = tt
goes_write_at hold retry (Some q) waits p kernel may = goes_was_written hold retry (write_outcome kernel.queues q) waits p q kernel may

goes_procedure_read : (hold retry : Bool) (outcome : QueueOutcome) (p q : ℕ) (kernel : Kernel) → hold ≡ true
    → Goes hold retry (procedure_read outcome p q kernel).outcome
unfolding procedure_read Goes
goes_procedure_read hold retry (Handled other) p q kernel may = tt
goes_procedure_read hold retry NotNow p q kernel may = goes_put_off hold retry true p q true kernel (λ _. may)

goes_procedure_at : (hold retry : Bool) (slot : Option ℕ) (p : ℕ) (kernel : Kernel) → hold ≡ true → Goes hold retry (procedure_at slot p kernel).outcome
unfolding procedure_at Goes
goes_procedure_at hold retry None p kernel may = tt
goes_procedure_at hold retry (Some q) p kernel may = goes_procedure_read hold retry (read_outcome kernel.queues q) p q kernel may

goes_procedure_called : (hold retry : Bool) (call : Taken) (p : ℕ) (kernel : Kernel) → hold ≡ true
    → Goes hold retry (procedure_called call p kernel).outcome
unfolding procedure_called Goes
goes_procedure_called hold retry call p kernel may =
    goes_if hold retry (is_some (process_in kernel.dispatcher.procs p).procedure) _ _ tt
    (goes_procedure_at hold retry (procedure_queue kernel.queues call) p kernel may)

-- calls on consoles and printers

goes_retried : (hold retry : Bool) (p : ℕ) (kernel : Kernel) → retry ≡ true → Goes hold retry (retried p kernel).outcome
unfolding retried Goes
goes_retried hold retry p kernel may = may

goes_attached : (hold retry : Bool) (p : ℕ) (unit : Unit) (kernel : Kernel) → retry ≡ true → Goes hold retry (attached p unit kernel).outcome
unfolding attached Goes
goes_attached hold retry p unit kernel may =
    goes_if hold retry (may_attach kernel.units p unit) _ _ tt (goes_retried hold retry p (attaching p unit true kernel) may)

goes_attached_now : (hold retry : Bool) (p : ℕ) (unit : Unit) (kernel : Kernel) → Goes hold retry (attached_now p unit kernel).outcome
unfolding attached_now Goes
goes_attached_now hold retry p unit kernel = goes_if hold retry (may_attach kernel.units p unit) _ _ tt tt

goes_console_set : (hold retry : Bool) (call : Taken) (p : ℕ) (kernel : Kernel) → retry ≡ true → Goes hold retry (console_set call p kernel).outcome
unfolding console_set Goes
goes_console_set hold retry call p kernel may =
    let console = low_parameter call in
    goes_if hold retry (nat_lt console (length kernel.units.consoles)) _ _ (goes_attached hold retry p (ConsoleUnit console) (console_changed p console kernel) may) tt

goes_printer_set : (hold retry : Bool) (call : Taken) (p : ℕ) (kernel : Kernel) → retry ≡ true → Goes hold retry (printer_set call p kernel).outcome
unfolding printer_set Goes
goes_printer_set hold retry call p kernel may =
    let printer = low_parameter call in
    goes_if hold retry (nat_lt printer (length kernel.units.printers)) _ _ (goes_attached hold retry p (PrinterUnit printer) (printer_changed p printer kernel) may) tt

goes_assigned_to : (hold retry : Bool) (to : Option ℕ) (console : ℕ) (own_only : Bool) (kernel : Kernel) → Goes hold retry (assigned_to to console own_only kernel).outcome
unfolding assigned_to Goes
goes_assigned_to hold retry None console own_only kernel = tt
goes_assigned_to hold retry (Some to) console own_only kernel = goes_if hold retry (is_meant console own_only (process_in kernel.dispatcher.procs to)) _ _ tt tt

goes_assigned : (hold retry : Bool) (call : Taken) (p : ℕ) (kernel : Kernel) → Goes hold retry (assigned call p kernel).outcome
unfolding assigned Goes
goes_assigned hold retry call p kernel =
    let console = byte_in call 0 in
    goes_if hold retry (nat_lt console (length kernel.units.consoles) && may_attach kernel.units p (ConsoleUnit console)) _ _
    (goes_assigned_to hold retry (named kernel.dispatcher.procs (name_at call 1)) console (byte_in call 9 == 255) kernel) tt

-- keys and lines

goes_shown_key : (hold retry : Bool) (key : Option ℕ) (p console : ℕ) (kernel : Kernel) → retry ≡ true → Goes hold retry (shown_key key p console kernel).outcome
unfolding shown_key awaited Goes
goes_shown_key hold retry None p console kernel may = goes_retried hold retry p _ may
goes_shown_key hold retry (Some key) p console kernel may = tt

goes_read_key : (hold retry : Bool) (key : Option ℕ) (p console : ℕ) (kernel : Kernel) → retry ≡ true → Goes hold retry (read_key key p console kernel).outcome
unfolding read_key awaited Goes
goes_read_key hold retry None p console kernel may = goes_retried hold retry p _ may
goes_read_key hold retry (Some key) p console kernel may = tt

goes_polled_key : (hold retry : Bool) (key : Option ℕ) (console : ℕ) (kernel : Kernel) → Goes hold retry (polled_key key console kernel).outcome
unfolding polled_key Goes
goes_polled_key hold retry None console kernel = tt
goes_polled_key hold retry (Some key) console kernel = tt

goes_direct : (hold retry : Bool) (call : Taken) (p console : ℕ) (kernel : Kernel) → retry ≡ true → Goes hold retry (direct call p console kernel).outcome
unfolding direct Goes
goes_direct hold retry call p console kernel may =
    goes_if hold retry (low_parameter call == POLL_KEY) _ _ (goes_polled_key hold retry (next_key console kernel) console kernel)
    (goes_if hold retry (low_parameter call == TELL_STATUS) _ _ tt
    (goes_if hold retry (low_parameter call == AWAIT_KEY) _ _ (goes_read_key hold retry (next_key console kernel) p console kernel may) tt))

goes_line_done : (hold retry : Bool) (call : Taken) (p : ℕ) (kernel : Kernel) → Goes hold retry (line_done call p kernel).outcome
unfolding line_done Goes
goes_line_done hold retry call p kernel = tt

goes_line_with : (hold retry : Bool) (key : ℕ) (call : Taken) (p console : ℕ) (kernel : Kernel) → retry ≡ true
    → Goes hold retry (line_with key call p console kernel).outcome
unfolding line_with Goes
goes_line_with hold retry key call p console kernel may =
    goes_if hold retry (ends (line_of (process_in kernel.dispatcher.procs p)) (greatest call) key) _ _
    (goes_line_done hold retry call p (key_joined call p console key kernel)) may

goes_line_by : (hold retry : Bool) (key : Option ℕ) (call : Taken) (p console : ℕ) (kernel : Kernel) → retry ≡ true
    → Goes hold retry (line_by key call p console kernel).outcome
unfolding awaited Goes
goes_line_by hold retry None call p console kernel may = goes_retried hold retry p _ may
goes_line_by hold retry (Some key) call p console kernel may = goes_line_with hold retry key call p console (key_taken console kernel) may

goes_line_read : (hold retry : Bool) (call : Taken) (p console : ℕ) (kernel : Kernel) → retry ≡ true → Goes hold retry (line_read call p console kernel).outcome
unfolding line_read Goes
goes_line_read hold retry call p console kernel may =
    goes_if hold retry (is_full (process_in kernel.dispatcher.procs p).line_length (greatest call)) _ _
    (goes_line_done hold retry call p (echoed console line_end kernel))
    (goes_line_by hold retry (next_key console kernel) call p console kernel may)

goes_console_served : (hold retry : Bool) (call : Taken) (p console : ℕ) (kernel : Kernel) → retry ≡ true
    → Goes hold retry (console_served call p console kernel).outcome
unfolding console_served Goes
goes_console_served hold retry call p console kernel may =
    let f = call.function in
    goes_if hold retry (f == CONSOLE_INPUT) _ _ (goes_shown_key hold retry (next_key console kernel) p console kernel may)
    (goes_if hold retry (f == RAW_CONSOLE_INPUT) _ _ (goes_read_key hold retry (next_key console kernel) p console kernel may)
    (goes_if hold retry (f == DIRECT_CONSOLE_IO) _ _ (goes_direct hold retry call p console kernel may)
    (goes_if hold retry (f == READ_CONSOLE_BUFFER) _ _ (goes_line_read hold retry call p console kernel may)
    (goes_if hold retry (f == GET_CONSOLE_STATUS) _ _ tt tt))))

goes_unless_stopped : (hold retry : Bool) (call : Taken) (p console : ℕ) (kernel : Kernel) → retry ≡ true
    → Goes hold retry (unless_stopped call p console kernel).outcome
unfolding unless_stopped awaited Goes
goes_unless_stopped hold retry call p console kernel may =
    goes_if hold retry (writes call && (console_at kernel.units console).stopped) _ _ (goes_retried hold retry p _ may)
    (goes_console_served hold retry call p console (raw_if (is_raw call.function) console true kernel) may)

goes_console_called : (hold retry : Bool) (call : Taken) (p : ℕ) (kernel : Kernel) → retry ≡ true → Goes hold retry (console_called call p kernel).outcome
unfolding console_called Goes
goes_console_called hold retry call p kernel may =
    let console = (process_in kernel.dispatcher.procs p).console in
    let afterwards = attaching p (ConsoleUnit console) true kernel in
    goes_if hold retry (may_attach kernel.units p (ConsoleUnit console)) _ _
    (goes_unless_stopped hold retry call p console (raw_if (is_cooked call.function) console false afterwards) may)
    (goes_retried hold retry p afterwards may)

goes_printer_called : (hold : Bool) (call : Taken) (p : ℕ) (kernel : Kernel) → Goes hold (may_retry call.function) (printer_called call p kernel).outcome
unfolding printer_called Goes
goes_printer_called hold call p kernel =
    let f = call.function in
    let own = PrinterUnit (process_in kernel.dispatcher.procs p).printer in
    let retry = may_retry f in
    goes_if hold retry (length kernel.units.printers == 0) _ _ tt
    (by_rows (λ (c : Called). Goes hold retry c.outcome) call p (process_in kernel.dispatcher.procs p) kernel printer_rows (
      λ is. goes_attached hold retry p own kernel (among may_retry f (LIST_OUTPUT ∷ ATTACH_LIST ∷ []) is refl),
      (
        λ _. tt,
        (
          λ is. goes_printer_set hold retry call p kernel (among may_retry f (SET_LIST ∷ []) is refl),
          (
            λ _. goes_attached_now hold retry p own kernel,
            tt,
          ),
        ),
      ),
    )
    tt)

goes_unit_called : (hold : Bool) (call : Taken) (p : ℕ) (kernel : Kernel) → Goes hold (may_retry call.function) (unit_called call p kernel).outcome
unfolding unit_called Goes
goes_unit_called hold call p kernel =
    let f = call.function in
    let own = ConsoleUnit (process_in kernel.dispatcher.procs p).console in
    let retry = may_retry f in
    by_rows (λ (c : Called). Goes hold retry c.outcome) call p (process_in kernel.dispatcher.procs p) kernel unit_rows (
      λ is. goes_attached hold retry p own kernel (among may_retry f (ATTACH_CONSOLE ∷ []) is refl),
      (
        λ _. tt,
        (
          λ is. goes_console_set hold retry call p kernel (among may_retry f (SET_CONSOLE ∷ []) is refl),
          (
            λ _. goes_assigned hold retry call p kernel,
            (
              λ _. tt,
              (
                λ _. goes_attached_now hold retry p own kernel,
                (
                  λ _. tt,
                  (
                    λ _. goes_printer_called hold call p kernel,
                    tt,
                  ),
                ),
              ),
            ),
          ),
        ),
      ),
    )
    tt

-- the whole table: a call of a function ends its process exactly where it is one of two, and is held or tried again only where
-- that may be
record Ends (f : ℕ) (outcome : Outcome) : Type 0 where
  pub held : outcome ≡ Held → may_hold f ≡ true
  pub retried : outcome ≡ Retry → may_retry f ≡ true
  pub ended : (outcome ≡ Ended) ↔ (ends_process f ≡ true)

goes_on : (f : ℕ) (outcome : Outcome) → ends_process f ≡ false → Goes (may_hold f) (may_retry f) outcome → Ends f outcome
unfolding Goes
goes_on f Done stays goes = record { held = λ e. absurd (cc); retried = λ e. absurd (cc); ended = (λ e. absurd (cc), λ e. absurd (false≢true (sym stays ∙ e))) }
goes_on f Held stays goes = record { held = λ _. goes; retried = λ e. absurd (cc); ended = (λ e. absurd (cc), λ e. absurd (false≢true (sym stays ∙ e))) }
goes_on f Retry stays goes = record { held = λ e. absurd (cc); retried = λ _. goes; ended = (λ e. absurd (cc), λ e. absurd (false≢true (sym stays ∙ e))) }
goes_on f Ended stays goes = absurd goes

ends_by : (f : ℕ) (b : Bool) (x y : Called) → ends_process f ≡ b → x.outcome ≡ Ended → Goes (may_hold f) (may_retry f) y.outcome
    → Ends f (if b then x else y).outcome
ends_by f true x y here is goes = record {
  held = λ e. absurd (ended_held (sym is ∙ e));
  retried = λ e. absurd (ended_retried (sym is ∙ e));
  ended = (λ _. here, λ _. is);
}
  where
    ended_held : Ended ≡ Held → ⊥
    ended_held e = absurd (cc)

    ended_retried : Ended ≡ Retry → ⊥
    ended_retried e = absurd (cc)
ends_by f false x y stays is goes = goes_on f y.outcome stays goes

ends_call_done : (call : Taken) (p : ℕ) (process : Process) (kernel : Kernel) → Ends call.function (call_done call p process kernel).outcome
unfolding call_done Goes
ends_call_done call p process kernel =
    let f = call.function in
    let hold = may_hold f in
    let retry = may_retry f in
    ends_by f (ends_process f) _ (done_by going_on call p process kernel) refl refl
    (by_rows (λ (c : Called). Goes hold retry c.outcome) call p process kernel going_on (
      λ is. goes_console_called hold retry call p kernel (among may_retry f for_console is refl),
      (
        λ _. goes_unit_called hold call p kernel,
        (
          λ _. tt,
          (
            λ _. tt,
            (
              λ _. tt,
              (
                λ _. tt,
                (
                  λ _. tt,
                  (
                    λ _. tt,
                    (
                      λ _. goes_date_set hold retry call kernel,
                      (
                        λ _. goes_date_told hold retry call kernel,
                        (
                          λ _. tt,
                          (
                            λ is. goes_polled hold retry call p kernel (among may_hold f (POLL ∷ []) is refl),
                            (
                              λ is. goes_flag_waited hold retry call p kernel (among may_hold f (FLAG_WAIT ∷ []) is refl),
                              (
                                λ _. goes_flag_set hold retry call kernel,
                                (
                                  λ _. goes_queue_made hold retry call kernel,
                                  (
                                    λ _. goes_opened hold retry (found kernel.queues (name_at call 4)) call kernel,
                                    (
                                      λ _. goes_deleted hold retry (found kernel.queues (name_at call 2)) kernel,
                                      (
                                        λ is. goes_read_at hold retry (pointed kernel.queues (word_at call 0)) true call p kernel (λ _. among may_hold f (READ_QUEUE ∷ []) is refl),
                                        (
                                          λ _. goes_read_at hold retry (pointed kernel.queues (word_at call 0)) false call p kernel (λ e. absurd (false≢true e)),
                                          (
                                            λ is. goes_write_at hold retry (pointed kernel.queues (word_at call 0)) true p kernel (λ _. among may_hold f (WRITE_QUEUE ∷ []) is refl),
                                            (
                                              λ _. goes_write_at hold retry (pointed kernel.queues (word_at call 0)) false p kernel (λ e. absurd (false≢true e)),
                                              (
                                                λ is. goes_delayed hold retry call p kernel (among may_hold f (DELAY ∷ []) is refl),
                                                (
                                                  λ _. tt,
                                                  (
                                                    λ _. tt,
                                                    (
                                                      λ is. goes_procedure_called hold retry call p kernel (among may_hold f (CALL_RESIDENT_SYSTEM_PROCEDURE ∷ []) is refl),
                                                      (
                                                        λ _. goes_time_told hold retry call kernel,
                                                        tt,
                                                      ),
                                                    ),
                                                  ),
                                                ),
                                              ),
                                            ),
                                          ),
                                        ),
                                      ),
                                    ),
                                  ),
                                ),
                              ),
                            ),
                          ),
                        ),
                      ),
                    ),
                  ),
                ),
              ),
            ),
          ),
        ),
      ),
    )
    tt)

ends_called : (p : ℕ) (kernel : Kernel) → Ends (call_of kernel.dispatcher.procs p).function (called p kernel).outcome
ends_called p kernel =
    let call = call_of kernel.dispatcher.procs p in
    ends_call_done call p (process_in kernel.dispatcher.procs p) (call_begun (does_echo call.function) kernel)

-- a call is held only at functions 131, 132, 137, 139, 141 and 151
pub held_only : (p : ℕ) (kernel : Kernel) → (called p kernel).outcome ≡ Held → may_hold (call_of kernel.dispatcher.procs p).function ≡ true
held_only p kernel e = (ends_called p kernel).held e

-- tried again only at functions 1 to 6, 9 to 11, 146, 148, 158 and 160
pub retried_only : (p : ℕ) (kernel : Kernel) → (called p kernel).outcome ≡ Retry → may_retry (call_of kernel.dispatcher.procs p).function ≡ true
retried_only p kernel e = (ends_called p kernel).retried e

-- and ends its process exactly at functions 0 and 143
pub ended_exactly : (p : ℕ) (kernel : Kernel) → ((called p kernel).outcome ≡ Ended) ↔ (ends_process (call_of kernel.dispatcher.procs p).function ≡ true)
ended_exactly p kernel = (ends_called p kernel).ended
