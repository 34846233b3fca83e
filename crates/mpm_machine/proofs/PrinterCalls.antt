-- A printer stays whose it is in the calls of others, and so does what a process has set, and the control block of the call that it keeps.
use Rattle.std.proofs.Common.{◌≡◌, ◌≢◌, ◌∙◌, ℕ, ◌≤◌, Bool, true, false, not, ◌&&◌, ◌||◌, ◌==◌, List, length, Option, Some, None, if◌then◌else◌, inl, inr, refl, sym, ap}
use Rattle.std.proofs.lemmas.Bool.{cases_eq, cases_lt}
use Rattle.std.proofs.lemmas.List.{set_past}
use Rattle.std.specs.Prelude.{nat_lt, is_some, is_none, slice_index_or}
use Rattle.std.proofs.lemmas.Option.{none-some}
use Rattle.mpm_base.proofs.Choices.{either}
use Rattle.mpm_base.specs.Calls.{Taken, byte_in, name_at, word_at}
use Rattle.mpm_base.specs.declared.functions.TheConstants.{CONSOLE_INPUT, RAW_CONSOLE_INPUT, DIRECT_CONSOLE_IO, READ_CONSOLE_BUFFER, GET_CONSOLE_STATUS}
use Rattle.mpm_clock.specs.PackedDecimal.{names_time}
use Rattle.mpm_consoles.proofs.PlaceLaws.{owner_is}
use Rattle.mpm_consoles.specs.Consoles.{Consoles, console_at, owner_of, owns, first_waiter, waits_for}
use Rattle.mpm_consoles.specs.Handling.{unlisted, attach_from, unit_attached, may_attach, pass_to, passed, unit_detached, called_off, console_assigned, gate_wait_begun, first_taken, raw_set, spoke as spoke_units}
use Rattle.mpm_consoles.specs.declared.modes.TheConstants.{POLL_KEY, TELL_STATUS, AWAIT_KEY}
use Rattle.mpm_base.specs.declared.unit.Unit.{Unit}
use Rattle.mpm_base.specs.declared.unit.Unit.TheVariants.{Console, Printer}
use Rattle.mpm_dispatcher.specs.Dispatch.{with_other, with_priority, with_procs}
use Rattle.mpm_flags.specs.States.{flag_at, wait_answer, set_answer, after_set, with_flag}
use Rattle.mpm_flags.specs.declared.flags.FlagSet.{FlagSet}
use Rattle.mpm_flags.specs.declared.flags.FlagSet.TheVariants.{Set as SetOnce, Overrun, Woke}
use Rattle.mpm_flags.specs.declared.flags.FlagWait.{FlagWait}
use Rattle.mpm_flags.specs.declared.flags.FlagWait.TheVariants.{Passed, Waits, Underrun}
use Rattle.mpm_kernel.proofs.Beside.{field_kept, call_beside}
use Rattle.mpm_kernel.proofs.CallHomes.{procs_with_other}
use Rattle.mpm_kernel.proofs.RowLaws.{by_rows, by_table}
use Rattle.mpm_kernel.proofs.SoundLaws.{procs_signalled}
use Rattle.mpm_kernel.proofs.UnitWaits.{owner_given_other, owner_unlisted, owner_listed}
use Rattle.mpm_kernel.specs.Called.{Called, low_parameter}
use Rattle.mpm_kernel.specs.Calls.{called, call_done, does_echo}
use Rattle.mpm_kernel.specs.Columns.{spoke}
use Rattle.mpm_kernel.specs.ConsoleInput.{is_cooked, is_raw, writes, raw_if, key_taken, next_key, shown_key, read_key, polled_key, direct, line_of, greatest, line_done, key_joined, line_with, line_by, line_read, console_served, unless_stopped, console_called}
use Rattle.mpm_kernel.specs.Consoling.{retried, attaching, attached, attached_now, unit_left, console_changed, printer_changed, console_set, printer_set, owner_made, is_meant, assigned_to, assigned, printer_rows, printer_called, unit_rows, unit_called, awaited, echoed, named}
use Rattle.mpm_kernel.specs.Dates.{date_set, date_answered, time_answered}
use Rattle.mpm_kernel.specs.Kernel.{Kernel, with_changed, dispatched, call_begun}
use Rattle.mpm_kernel.specs.Procedures.{procedure_queue, inside, procedure_read, procedure_at, procedure_called}
use Rattle.mpm_kernel.specs.Queueing.{with_queue, queue_made, opened, may_delete, deleted, queued, blocked_or_refused, taken_from, was_read, read_at, given_to, was_written, write_at}
use Rattle.mpm_kernel.specs.Waiting.{polled, is_flag, flag_waited_for, waited, with_woken, signalled, flag_waited, set_if_flag, flag_set, process_delayed}
use Rattle.mpm_line_input.specs.Lines.{is_full, ends, line_end}
use Rattle.mpm_procs.proofs.MapLaws.{process_kept, process_after, call_after, call_changed}
use Rattle.mpm_procs.specs.Table.{Table, process_in, call_of, with_call}
use Rattle.mpm_procs.specs.declared.process.Process.{Process}
use Rattle.mpm_queues.specs.Handling.{first_reader, written_by, delivered_to, read_outcome, write_outcome, procs_after_write}
use Rattle.mpm_queues.specs.Queue.{with_given, is_full as is_full_queue}
use Rattle.mpm_queues.specs.Queues.{queue_in, make_error}
use Rattle.mpm_queues.specs.declared.queues.QueueOutcome.{QueueOutcome}
use Rattle.mpm_queues.specs.declared.queues.QueueOutcome.TheVariants.{Done as Handled, NotNow}
use Rattle.mpm_machine.specs.Slots.{settings_of}

-- a process has set the same, its call has the same control block, and each printer that it owns is its own still
pub record KeepsPrinter (q : ℕ) (old new : Kernel) : Type 0 where
  pub set : settings_of (process_in new.dispatcher.procs q) ≡ settings_of (process_in old.dispatcher.procs q)
  pub block : (call_of new.dispatcher.procs q).fcb ≡ (call_of old.dispatcher.procs q).fcb
  pub owner : (n : ℕ) → owner_of old.units (Printer n) ≡ Some q → owner_of new.units (Printer n) ≡ Some q

pub prints_same : (q : ℕ) (old new : Kernel) → new.dispatcher.procs ≡ old.dispatcher.procs → new.units.printers ≡ old.units.printers → KeepsPrinter q old new
prints_same q old new procs printers = record {
  set = ap (λ (t : Table). settings_of (process_in t q)) procs;
  block = ap (λ (t : Table). (call_of t q).fcb) procs;
  owner = λ n is. ap (λ (l : List (Option ℕ)). slice_index_or l n None) printers ∙ is;
}

pub prints_both : (q : ℕ) (old middle new : Kernel) → KeepsPrinter q old middle → KeepsPrinter q middle new → KeepsPrinter q old new
prints_both q old middle new a b = record { set = b.set ∙ a.set; block = b.block ∙ a.block; owner = λ n is. b.owner n (a.owner n is) }

abbrev PrintsOn : ℕ → Kernel → Called → Type 0
PrintsOn q old called = KeepsPrinter q old called.kernel

prints_if : (q : ℕ) (old : Kernel) (b : Bool) (x y : Called) → PrintsOn q old x → PrintsOn q old y → PrintsOn q old (if b then x else y)
prints_if q old b x y s t = either (PrintsOn q old) b x y (λ _. s) (λ _. t)

-- a process is another one, which has set the same
pub prints_changed : (q p : ℕ) (kernel : Kernel) (process : Process) → settings_of process ≡ settings_of (process_in kernel.dispatcher.procs p) → KeepsPrinter q kernel (with_changed kernel p process)
prints_changed q p kernel process same = record { set = field_kept settings_of kernel.dispatcher.procs p q process same; block = ap (λ (x : Taken). x.fcb) (call_after kernel.dispatcher.procs p q process); owner = λ n is. is }

-- or it is another's
pub prints_other : (q p : ℕ) (kernel : Kernel) (process : Process) → q ≢ p → KeepsPrinter q kernel (with_changed kernel p process)
prints_other q p kernel process other = record { set = ap settings_of (process_kept kernel.dispatcher.procs p q process other); block = ap (λ (x : Taken). x.fcb) (call_after kernel.dispatcher.procs p q process); owner = λ n is. is }

-- another process keeps a call, or one of the same control block
pub prints_keeping : (q p : ℕ) (kernel : Kernel) (call : Taken) → q ≢ p → KeepsPrinter q kernel (dispatched (with_procs (with_call kernel.dispatcher.procs p call)) kernel)
prints_keeping q p kernel call other = record {
  set = ap settings_of (process_after kernel.dispatcher.procs p q call);
  block = ap (λ (x : Taken). x.fcb) (call_beside kernel.dispatcher.procs p q call other);
  owner = λ n is. is;
}

none_changed : (procs : Table) (p : ℕ) (call : Taken) → length procs.calls ≤ p → with_call procs p call ≡ procs
unfolding with_call
none_changed procs p call past = ap (λ (calls : List Taken). record procs { calls = calls }) (set_past procs.calls p call past)

block_kept : (procs : Table) (p q : ℕ) (call : Taken) → call.fcb ≡ (call_of procs p).fcb → (call_of (with_call procs p call) q).fcb ≡ (call_of procs q).fcb
block_kept procs p q call same = elim (cases_eq q p) [
  | inl equal ↦ elim (cases_lt p (length procs.calls)) [
    | inl below ↦
        ap (λ n. (call_of (with_call procs p call) n).fcb) equal ∙ ap (λ (x : Taken). x.fcb) (call_changed procs p call below)
        ∙ same ∙ ap (λ n. (call_of procs n).fcb) (sym equal)
    | inr past ↦ ap (λ (table : Table). (call_of table q).fcb) (none_changed procs p call past)
  ]
  | inr other ↦ ap (λ (x : Taken). x.fcb) (call_beside procs p q call other)
]

prints_again : (q p : ℕ) (kernel : Kernel) (call : Taken) → call.fcb ≡ (call_of kernel.dispatcher.procs p).fcb
    → KeepsPrinter q kernel (dispatched (with_procs (with_call kernel.dispatcher.procs p call)) kernel)
prints_again q p kernel call same = record {
  set = ap settings_of (process_after kernel.dispatcher.procs p q call);
  block = block_kept kernel.dispatcher.procs p q call same;
  owner = λ n is. is;
}

-- units are attached where nobody owns them

taken_not : (o : Option ℕ) (q : ℕ) → o ≡ None → o ≡ Some q → ⊥
taken_not o q none is = none-some q (sym none ∙ is)

owner_from : (o : Option ℕ) (t : Consoles) (p priority : ℕ) (unit : Unit) (wait : Bool) (q n : ℕ) → owner_of t unit ≡ o → owner_of t (Printer n) ≡ Some q
    → owner_of (attach_from o t p priority unit wait) (Printer n) ≡ Some q
owner_from None t p priority unit wait q n free is =
    owner_given_other t unit (Printer n) (Some p) (λ same. taken_not (owner_of t unit) q free (sym (ap (owner_of t) same) ∙ is)) ∙ is
owner_from (Some owner) t p priority unit wait q n free is =
    either (λ (new : Consoles). owner_of new (Printer n) ≡ Some q) (owner == p || not wait) _ _ (λ _. is)
    (λ _. owner_listed t p priority unit (Printer n) ∙ is)

owner_attached : (t : Consoles) (p priority : ℕ) (unit : Unit) (wait : Bool) (q n : ℕ) → owner_of t (Printer n) ≡ Some q
    → owner_of (unit_attached t p priority unit wait) (Printer n) ≡ Some q
unfolding unit_attached
owner_attached t p priority unit wait q n is = owner_from (owner_of t unit) t p priority unit wait q n refl is

-- units that another has pass on

owner_passed_to : (o : Option ℕ) (t : Consoles) (unit : Unit) (q n : ℕ) → (Printer n ≡ unit → ⊥) → owner_of t (Printer n) ≡ Some q
    → owner_of (pass_to o t unit) (Printer n) ≡ Some q
owner_passed_to None t unit q n other is = owner_given_other t unit (Printer n) None other ∙ is
owner_passed_to (Some h) t unit q n other is =
    owner_given_other (unlisted t h) unit (Printer n) (Some h) other ∙ owner_unlisted t h (Printer n) ∙ is

same_process : (p q : ℕ) → Some p ≡ Some q → q ≡ p
same_process p q e = cc

pub owner_detached : (t : Consoles) (p : ℕ) (unit : Unit) (q n : ℕ) → q ≢ p → owner_of t (Printer n) ≡ Some q → owner_of (unit_detached t p unit) (Printer n) ≡ Some q
unfolding unit_detached passed
owner_detached t p unit q n other is =
    either (λ (new : Consoles). owner_of new (Printer n) ≡ Some q) (owns t p unit) _ _
    (λ own. owner_passed_to (first_waiter t unit) t unit q n
    (λ same. other (same_process p q (sym (owner_is (owner_of t unit) p own) ∙ sym (ap (owner_of t) same) ∙ is))) is)
    (λ _. is)

pub prints_left : (q p : ℕ) (unit : Unit) (kernel : Kernel) → q ≢ p → KeepsPrinter q kernel (unit_left p unit kernel)
unfolding unit_left
prints_left q p unit kernel other = record { set = refl; block = refl; owner = λ n is. owner_detached kernel.units p unit q n other is }

-- a console passes to another one, whoever had it
pub owner_console_passed : (t : Consoles) (console q n : ℕ) → owner_of t (Printer n) ≡ Some q → owner_of (passed t (Console console)) (Printer n) ≡ Some q
unfolding passed
owner_console_passed t console q n is = owner_passed_to (first_waiter t (Console console)) t (Console console) q n (λ same. absurd (cc)) is

owner_called_off : (t : Consoles) (to : ℕ) (unit : Unit) (q n : ℕ) → owner_of t (Printer n) ≡ Some q → owner_of (called_off t to unit) (Printer n) ≡ Some q
owner_called_off t to unit q n is =
    either (λ (new : Consoles). owner_of new (Printer n) ≡ Some q) (waits_for t to unit) _ _ (λ _. owner_unlisted t to (Printer n) ∙ is) (λ _. is)

pub owner_assigned : (t : Consoles) (console to q n : ℕ) → owner_of t (Printer n) ≡ Some q → owner_of (console_assigned t console to) (Printer n) ≡ Some q
unfolding console_assigned
owner_assigned t console to q n is =
    let unit = Console console in
    either (λ (new : Consoles). owner_of new (Printer n) ≡ Some q) (owns t to unit) _ _ (λ _. is)
    (λ _. owner_given_other (called_off t to unit) unit (Printer n) (Some to) (λ same. absurd (cc)) ∙ owner_called_off t to unit q n is)

pub prints_owner_made : (q console to : ℕ) (kernel : Kernel) → KeepsPrinter q kernel (owner_made console to kernel)
unfolding owner_made
prints_owner_made q console to kernel = record { set = refl; block = refl; owner = λ n is. owner_assigned kernel.units console to q n is }

-- the calls on consoles and printers

prints_attaching : (q p : ℕ) (unit : Unit) (wait : Bool) (kernel : Kernel) → KeepsPrinter q kernel (attaching p unit wait kernel)
prints_attaching q p unit wait kernel =
    record { set = refl; block = refl; owner = λ n is. owner_attached kernel.units p (process_in kernel.dispatcher.procs p).priority unit wait q n is }

prints_retried : (q p : ℕ) (old kernel : Kernel) → KeepsPrinter q old kernel → PrintsOn q old (retried p kernel)
unfolding retried
prints_retried q p old kernel k = record { set = k.set; block = k.block; owner = k.owner }

prints_attached : (q p : ℕ) (unit : Unit) (kernel : Kernel) → PrintsOn q kernel (attached p unit kernel)
unfolding attached
prints_attached q p unit kernel =
    prints_if q kernel (may_attach kernel.units p unit) _ _ (prints_attaching q p unit true kernel)
    (prints_retried q p kernel (attaching p unit true kernel) (prints_attaching q p unit true kernel))

prints_attached_now : (q p : ℕ) (unit : Unit) (kernel : Kernel) → PrintsOn q kernel (attached_now p unit kernel)
unfolding attached_now
prints_attached_now q p unit kernel =
    prints_if q kernel (may_attach kernel.units p unit) _ _ (prints_attaching q p unit false kernel) (prints_same q kernel kernel refl refl)

prints_console_changed : (q p console : ℕ) (kernel : Kernel) → q ≢ p → KeepsPrinter q kernel (console_changed p console kernel)
unfolding console_changed
prints_console_changed q p console kernel other =
    let process = process_in kernel.dispatcher.procs p in
    let left = unit_left p (Console process.console) kernel in
    either (KeepsPrinter q kernel) (process.console == console) _ _ (λ _. prints_same q kernel kernel refl refl)
    (λ _. prints_both q kernel left _ (prints_left q p (Console process.console) kernel other) (prints_other q p left _ other))

prints_printer_changed : (q p printer : ℕ) (kernel : Kernel) → q ≢ p → KeepsPrinter q kernel (printer_changed p printer kernel)
unfolding printer_changed
prints_printer_changed q p printer kernel other =
    let process = process_in kernel.dispatcher.procs p in
    let left = unit_left p (Printer process.printer) kernel in
    either (KeepsPrinter q kernel) (process.printer == printer) _ _ (λ _. prints_same q kernel kernel refl refl)
    (λ _. prints_both q kernel left _ (prints_left q p (Printer process.printer) kernel other) (prints_other q p left _ other))

prints_console_set : (q : ℕ) (call : Taken) (p : ℕ) (kernel : Kernel) → q ≢ p → PrintsOn q kernel (console_set call p kernel)
unfolding console_set
prints_console_set q call p kernel other =
    let console = low_parameter call in
    prints_if q kernel (nat_lt console (length kernel.units.consoles)) _ _
    (prints_both q kernel (console_changed p console kernel) _ (prints_console_changed q p console kernel other) (prints_attached q p (Console console) (console_changed p console kernel)))
    (prints_same q kernel kernel refl refl)

prints_printer_set : (q : ℕ) (call : Taken) (p : ℕ) (kernel : Kernel) → q ≢ p → PrintsOn q kernel (printer_set call p kernel)
unfolding printer_set
prints_printer_set q call p kernel other =
    let printer = low_parameter call in
    prints_if q kernel (nat_lt printer (length kernel.units.printers)) _ _
    (prints_both q kernel (printer_changed p printer kernel) _ (prints_printer_changed q p printer kernel other) (prints_attached q p (Printer printer) (printer_changed p printer kernel)))
    (prints_same q kernel kernel refl refl)

made_same : (console to : ℕ) (kernel : Kernel) → settings_of (process_in kernel.dispatcher.procs to) ≡ settings_of (process_in (owner_made console to kernel).dispatcher.procs to)
unfolding owner_made
made_same console to kernel = refl

prints_assigned_to : (q : ℕ) (o : Option ℕ) (console : ℕ) (own_only : Bool) (kernel : Kernel) → PrintsOn q kernel (assigned_to o console own_only kernel)
unfolding assigned_to
prints_assigned_to q None console own_only kernel = prints_same q kernel kernel refl refl
prints_assigned_to q (Some to) console own_only kernel =
    let made = owner_made console to kernel in
    prints_if q kernel (is_meant console own_only (process_in kernel.dispatcher.procs to)) _ _
    (prints_both q kernel made _ (prints_owner_made q console to kernel)
    (prints_changed q to made (record (process_in kernel.dispatcher.procs to) { console = console }) (made_same console to kernel)))
    (prints_same q kernel kernel refl refl)

prints_assigned : (q : ℕ) (call : Taken) (p : ℕ) (kernel : Kernel) → PrintsOn q kernel (assigned call p kernel)
unfolding assigned
prints_assigned q call p kernel =
    prints_if q kernel (nat_lt (byte_in call 0) (length kernel.units.consoles) && may_attach kernel.units p (Console (byte_in call 0))) _ _
    (prints_assigned_to q (named kernel.dispatcher.procs (name_at call 1)) (byte_in call 0) (byte_in call 9 == 255) kernel) (prints_same q kernel kernel refl refl)

prints_printer_called : (q : ℕ) (call : Taken) (p : ℕ) (kernel : Kernel) → q ≢ p → PrintsOn q kernel (printer_called call p kernel)
unfolding printer_called
prints_printer_called q call p kernel other =
    prints_if q kernel (length kernel.units.printers == 0) _ _ (prints_same q kernel kernel refl refl)
    (by_rows (PrintsOn q kernel) call p (process_in kernel.dispatcher.procs p) kernel printer_rows (
      λ _. prints_attached q p _ kernel,
      (λ _. prints_left q p _ kernel other, (λ _. prints_printer_set q call p kernel other, (λ _. prints_attached_now q p _ kernel, tt))),
    )
    (prints_same q kernel kernel refl refl))

prints_unit_called : (q : ℕ) (call : Taken) (p : ℕ) (kernel : Kernel) → q ≢ p → PrintsOn q kernel (unit_called call p kernel)
unfolding unit_called
prints_unit_called q call p kernel other =
    let same : KeepsPrinter q kernel kernel = prints_same q kernel kernel refl refl in
    by_rows (PrintsOn q kernel) call p (process_in kernel.dispatcher.procs p) kernel unit_rows (
      λ _. prints_attached q p _ kernel,
      (
        λ _. prints_left q p _ kernel other,
        (
          λ _. prints_console_set q call p kernel other,
          (
            λ _. prints_assigned q call p kernel,
            (λ _. same, (λ _. prints_attached_now q p _ kernel, (λ _. same, (λ _. prints_printer_called q call p kernel other, tt)))),
          ),
        ),
      ),
    )
    same

-- reading from a console and writing to it

prints_awaited : (q p console : ℕ) (key : Bool) (kernel : Kernel) → PrintsOn q kernel (awaited p console key kernel)
unfolding awaited retried gate_wait_begun
prints_awaited q p console key kernel = prints_same q kernel _ refl refl

prints_taken : (q console : ℕ) (kernel : Kernel) → KeepsPrinter q kernel (key_taken console kernel)
unfolding first_taken
prints_taken q console kernel = prints_same q kernel _ refl refl

prints_echoed : (q console : ℕ) (bytes : List ℕ) (kernel : Kernel) → KeepsPrinter q kernel (echoed console bytes kernel)
unfolding echoed spoke spoke_units
prints_echoed q console bytes kernel = prints_same q kernel _ refl refl

prints_raw : (q : ℕ) (b raw : Bool) (console : ℕ) (kernel : Kernel) → KeepsPrinter q kernel (raw_if b console raw kernel)
unfolding raw_set
prints_raw q b raw console kernel =
    either (λ (t : Consoles). KeepsPrinter q kernel (record kernel { units = t })) b (raw_set kernel.units console raw) kernel.units
    (λ _. prints_same q kernel _ refl refl) (λ _. prints_same q kernel _ refl refl)

prints_shown : (q : ℕ) (o : Option ℕ) (p console : ℕ) (kernel : Kernel) → PrintsOn q kernel (shown_key o p console kernel)
unfolding shown_key
prints_shown q None p console kernel = prints_awaited q p console true kernel
prints_shown q (Some key) p console kernel = prints_both q kernel (key_taken console kernel) _ (prints_taken q console kernel) (prints_echoed q console _ (key_taken console kernel))

prints_read_key : (q : ℕ) (o : Option ℕ) (p console : ℕ) (kernel : Kernel) → PrintsOn q kernel (read_key o p console kernel)
unfolding read_key
prints_read_key q None p console kernel = prints_awaited q p console true kernel
prints_read_key q (Some key) p console kernel = prints_taken q console kernel

prints_polled_key : (q : ℕ) (o : Option ℕ) (console : ℕ) (kernel : Kernel) → PrintsOn q kernel (polled_key o console kernel)
unfolding polled_key
prints_polled_key q None console kernel = prints_same q kernel kernel refl refl
prints_polled_key q (Some key) console kernel = prints_taken q console kernel

prints_direct : (q : ℕ) (call : Taken) (p console : ℕ) (kernel : Kernel) → PrintsOn q kernel (direct call p console kernel)
unfolding direct
prints_direct q call p console kernel =
    let same : KeepsPrinter q kernel kernel = prints_same q kernel kernel refl refl in
    prints_if q kernel (low_parameter call == POLL_KEY) _ _ (prints_polled_key q _ console kernel)
    (prints_if q kernel (low_parameter call == TELL_STATUS) _ _ same (prints_if q kernel (low_parameter call == AWAIT_KEY) _ _ (prints_read_key q _ p console kernel) same))

prints_line_done : (q : ℕ) (call : Taken) (p : ℕ) (kernel : Kernel) → PrintsOn q kernel (line_done call p kernel)
unfolding line_done
prints_line_done q call p kernel = prints_changed q p kernel (record (process_in kernel.dispatcher.procs p) { line_length = 0 }) refl

prints_joined : (q : ℕ) (call : Taken) (p console key : ℕ) (kernel : Kernel) → KeepsPrinter q kernel (key_joined call p console key kernel)
unfolding key_joined
prints_joined q call p console key kernel =
    let changed = with_changed kernel p _ in prints_both q kernel changed _ (prints_changed q p kernel _ refl) (prints_echoed q console _ changed)

prints_line_with : (q key : ℕ) (call : Taken) (p console : ℕ) (kernel : Kernel) → PrintsOn q kernel (line_with key call p console kernel)
unfolding line_with
prints_line_with q key call p console kernel =
    let afterwards = key_joined call p console key kernel in
    let first = prints_joined q call p console key kernel in
    prints_if q kernel (ends (line_of (process_in kernel.dispatcher.procs p)) (greatest call) key) _ _
    (prints_both q kernel afterwards _ first (prints_line_done q call p afterwards)) first

prints_line_by : (q : ℕ) (o : Option ℕ) (call : Taken) (p console : ℕ) (kernel : Kernel) → PrintsOn q kernel (line_by o call p console kernel)
prints_line_by q None call p console kernel = prints_awaited q p console true kernel
prints_line_by q (Some key) call p console kernel =
    prints_both q kernel (key_taken console kernel) _ (prints_taken q console kernel) (prints_line_with q key call p console (key_taken console kernel))

prints_line_read : (q : ℕ) (call : Taken) (p console : ℕ) (kernel : Kernel) → PrintsOn q kernel (line_read call p console kernel)
unfolding line_read
prints_line_read q call p console kernel =
    prints_if q kernel (is_full (process_in kernel.dispatcher.procs p).line_length (greatest call)) _ _
    (prints_both q kernel (echoed console line_end kernel) _ (prints_echoed q console line_end kernel) (prints_line_done q call p (echoed console line_end kernel)))
    (prints_line_by q (next_key console kernel) call p console kernel)

prints_console_served : (q : ℕ) (call : Taken) (p console : ℕ) (kernel : Kernel) → PrintsOn q kernel (console_served call p console kernel)
unfolding console_served
prints_console_served q call p console kernel =
    let f = call.function in
    let same : KeepsPrinter q kernel kernel = prints_same q kernel kernel refl refl in
    prints_if q kernel (f == CONSOLE_INPUT) _ _ (prints_shown q _ p console kernel)
    (prints_if q kernel (f == RAW_CONSOLE_INPUT) _ _ (prints_read_key q _ p console kernel)
    (prints_if q kernel (f == DIRECT_CONSOLE_IO) _ _ (prints_direct q call p console kernel)
    (prints_if q kernel (f == READ_CONSOLE_BUFFER) _ _ (prints_line_read q call p console kernel)
    (prints_if q kernel (f == GET_CONSOLE_STATUS) _ _ same same))))

prints_unless_stopped : (q : ℕ) (call : Taken) (p console : ℕ) (kernel : Kernel) → PrintsOn q kernel (unless_stopped call p console kernel)
unfolding unless_stopped
prints_unless_stopped q call p console kernel =
    let raw = raw_if (is_raw call.function) console true kernel in
    prints_if q kernel (writes call && (console_at kernel.units console).stopped) _ _ (prints_awaited q p console false kernel)
    (prints_both q kernel raw _ (prints_raw q (is_raw call.function) true console kernel) (prints_console_served q call p console raw))

prints_console_called : (q : ℕ) (call : Taken) (p : ℕ) (kernel : Kernel) → PrintsOn q kernel (console_called call p kernel)
unfolding console_called
prints_console_called q call p kernel =
    let console = (process_in kernel.dispatcher.procs p).console in
    let attached_it = attaching p (Console console) true kernel in
    let cooked = raw_if (is_cooked call.function) console false attached_it in
    let first = prints_attaching q p (Console console) true kernel in
    prints_if q kernel (may_attach kernel.units p (Console console)) _ _
    (prints_both q kernel attached_it _ first
    (prints_both q attached_it cooked _ (prints_raw q (is_cooked call.function) false console attached_it) (prints_unless_stopped q call p console cooked)))
    (prints_retried q p kernel attached_it first)

-- the calls that wait, those on queues, and the others

prints_polled : (q : ℕ) (call : Taken) (p : ℕ) (kernel : Kernel) → PrintsOn q kernel (polled call p kernel)
unfolding polled
prints_polled q call p kernel =
    prints_if q kernel (nat_lt 15 (low_parameter call)) _ _ (prints_same q kernel _ refl refl)
    (prints_if q kernel (slice_index_or kernel.devices.ready (low_parameter call) false) _ _ (prints_same q kernel _ refl refl) (prints_same q kernel _ refl refl))

prints_waited : (q : ℕ) (answer : FlagWait) (p : ℕ) (kernel : Kernel) → PrintsOn q kernel (waited answer p kernel)
unfolding waited
prints_waited q Passed p kernel = prints_same q kernel _ refl refl
prints_waited q Waits p kernel = prints_same q kernel _ refl refl
prints_waited q Underrun p kernel = prints_same q kernel _ refl refl

prints_flag_waited : (q : ℕ) (call : Taken) (p : ℕ) (kernel : Kernel) → PrintsOn q kernel (flag_waited call p kernel)
unfolding flag_waited
prints_flag_waited q call p kernel =
    let flag = low_parameter call in
    let waits = flag_waited_for kernel p flag in
    prints_if q kernel (is_flag flag) _ _
    (prints_both q kernel waits _ (prints_same q kernel waits refl refl) (prints_waited q (wait_answer p (flag_at kernel.flags flag)) p waits)) (prints_same q kernel _ refl refl)

printers_woken : (answer : FlagSet) (kernel : Kernel) → (with_woken answer kernel).units.printers ≡ kernel.units.printers
unfolding with_woken
printers_woken SetOnce kernel = refl
printers_woken Overrun kernel = refl
printers_woken (Woke p) kernel = refl

printers_signalled : (flag : ℕ) (kernel : Kernel) → (signalled flag kernel).units.printers ≡ kernel.units.printers
unfolding signalled
printers_signalled flag kernel =
    printers_woken (set_answer (flag_at kernel.flags flag)) (record kernel { flags = with_flag kernel.flags flag (after_set (flag_at kernel.flags flag)) })

pub prints_signalled : (q flag : ℕ) (kernel : Kernel) → KeepsPrinter q kernel (signalled flag kernel)
prints_signalled q flag kernel = prints_same q kernel (signalled flag kernel) (procs_signalled flag kernel) (printers_signalled flag kernel)

prints_flag_set : (q : ℕ) (call : Taken) (kernel : Kernel) → PrintsOn q kernel (flag_set call kernel)
unfolding set_if_flag
prints_flag_set q call kernel = prints_if q kernel (is_flag (low_parameter call)) _ _ (prints_signalled q (low_parameter call) kernel) (prints_same q kernel _ refl refl)

prints_delayed : (q : ℕ) (call : Taken) (p : ℕ) (kernel : Kernel) → PrintsOn q kernel (process_delayed call p kernel)
unfolding process_delayed
prints_delayed q call p kernel = prints_if q kernel (call.word == 0) _ _ (prints_same q kernel _ refl refl) (prints_same q kernel _ refl refl)

prints_queue_made : (q : ℕ) (call : Taken) (kernel : Kernel) → PrintsOn q kernel (queue_made call kernel)
unfolding queue_made with_queue
prints_queue_made q call kernel =
    prints_if q kernel (is_none (make_error kernel.queues (name_at call 2) (word_at call 10) (word_at call 12))) _ _ (prints_same q kernel _ refl refl) (prints_same q kernel _ refl refl)

prints_opened : (q : ℕ) (slot : Option ℕ) (call : Taken) (kernel : Kernel) → PrintsOn q kernel (opened slot call kernel)
unfolding opened
prints_opened q None call kernel = prints_same q kernel _ refl refl
prints_opened q (Some n) call kernel = prints_same q kernel _ refl refl

prints_deleted : (q : ℕ) (slot : Option ℕ) (kernel : Kernel) → PrintsOn q kernel (deleted slot kernel)
unfolding deleted
prints_deleted q None kernel = prints_same q kernel _ refl refl
prints_deleted q (Some n) kernel = prints_if q kernel (may_delete kernel n) _ _ (prints_same q kernel _ refl refl) (prints_same q kernel _ refl refl)

prints_blocked : (q : ℕ) (may_wait : Bool) (p n : ℕ) (reader : Bool) (kernel : Kernel) → PrintsOn q kernel (blocked_or_refused may_wait p n reader kernel)
unfolding blocked_or_refused queued
prints_blocked q may_wait p n reader kernel = prints_if q kernel may_wait _ _ (prints_same q kernel _ refl refl) (prints_same q kernel _ refl refl)

printers_with_other : (other : Option ℕ) (kernel : Kernel) → (dispatched (with_other other) kernel).units.printers ≡ kernel.units.printers
printers_with_other other kernel = refl

pub prints_with_other : (q : ℕ) (other : Option ℕ) (kernel : Kernel) → KeepsPrinter q kernel (dispatched (with_other other) kernel)
prints_with_other q other kernel = prints_same q kernel _ (procs_with_other other kernel) (printers_with_other other kernel)

prints_was_read : (q : ℕ) (outcome : QueueOutcome) (may_wait : Bool) (call : Taken) (p n : ℕ) (kernel : Kernel) → PrintsOn q kernel (was_read outcome may_wait call p n kernel)
unfolding was_read
prints_was_read q (Handled other) may_wait call p n kernel =
    prints_both q kernel (taken_from kernel p n) _ (prints_same q kernel (taken_from kernel p n) refl refl) (prints_with_other q other (taken_from kernel p n))
prints_was_read q NotNow may_wait call p n kernel = prints_blocked q may_wait p n true kernel

pub prints_read_at : (q : ℕ) (slot : Option ℕ) (may_wait : Bool) (call : Taken) (p : ℕ) (kernel : Kernel) → PrintsOn q kernel (read_at slot may_wait call p kernel)
unfolding read_at
prints_read_at q None may_wait call p kernel = prints_same q kernel _ refl refl
prints_read_at q (Some n) may_wait call p kernel = prints_was_read q (read_outcome kernel.queues n) may_wait call p n kernel

given_block : (message : List ℕ) (call : Taken) → (with_given message call).fcb ≡ call.fcb
unfolding with_given
given_block message call = refl

prints_delivered : (q : ℕ) (b : Bool) (o : Option ℕ) (message : List ℕ) (old new : Kernel)
    → new.dispatcher.procs ≡ (if b then old.dispatcher.procs else (delivered_to o message old.dispatcher.procs)) → new.units.printers ≡ old.units.printers → KeepsPrinter q old new
prints_delivered q true o message old new e same = prints_same q old new e same
prints_delivered q false None message old new e same = prints_same q old new e same
prints_delivered q false (Some r) message old new e same =
    let call = with_given message (call_of old.dispatcher.procs r) in
    let kept = dispatched (with_procs (with_call old.dispatcher.procs r call)) old in
    prints_both q old kept new (prints_again q r old call (given_block message (call_of old.dispatcher.procs r))) (prints_same q kept new e same)

pub prints_given : (q p n : ℕ) (kernel : Kernel) → KeepsPrinter q kernel (given_to kernel p n)
unfolding procs_after_write
prints_given q p n kernel =
    let t = kernel.queues in
    prints_delivered q (is_full_queue (queue_in t n)) (first_reader t n) (written_by t n kernel.dispatcher.procs p) kernel (given_to kernel p n) refl refl

prints_was_written : (q : ℕ) (outcome : QueueOutcome) (may_wait : Bool) (p n : ℕ) (kernel : Kernel) → PrintsOn q kernel (was_written outcome may_wait p n kernel)
unfolding was_written
prints_was_written q (Handled other) may_wait p n kernel =
    prints_both q kernel (given_to kernel p n) _ (prints_given q p n kernel) (prints_with_other q other (given_to kernel p n))
prints_was_written q NotNow may_wait p n kernel = prints_blocked q may_wait p n false kernel

prints_write_at : (q : ℕ) (slot : Option ℕ) (may_wait : Bool) (p : ℕ) (kernel : Kernel) → PrintsOn q kernel (write_at slot may_wait p kernel)
unfolding write_at
prints_write_at q None may_wait p kernel = prints_same q kernel _ refl refl
prints_write_at q (Some n) may_wait p kernel = prints_was_written q (write_outcome kernel.queues n) may_wait p n kernel

pub prints_inside : (q p n message : ℕ) (kernel : Kernel) → KeepsPrinter q kernel (inside p n message kernel)
unfolding inside
prints_inside q p n message kernel = prints_changed q p kernel (record (process_in kernel.dispatcher.procs p) { procedure = Some n; kept = message }) refl

prints_procedure_read : (q : ℕ) (outcome : QueueOutcome) (p n : ℕ) (kernel : Kernel) → PrintsOn q kernel (procedure_read outcome p n kernel)
unfolding procedure_read
prints_procedure_read q (Handled other) p n kernel =
    let took = taken_from kernel p n in
    let next = dispatched (with_other other) took in
    prints_both q kernel took _ (prints_same q kernel took refl refl) (prints_both q took next _ (prints_with_other q other took) (prints_inside q p n _ next))
prints_procedure_read q NotNow p n kernel = prints_blocked q true p n true kernel

prints_procedure_at : (q : ℕ) (slot : Option ℕ) (p : ℕ) (kernel : Kernel) → PrintsOn q kernel (procedure_at slot p kernel)
unfolding procedure_at
prints_procedure_at q None p kernel = prints_same q kernel _ refl refl
prints_procedure_at q (Some n) p kernel = prints_procedure_read q (read_outcome kernel.queues n) p n kernel

prints_procedure_called : (q : ℕ) (call : Taken) (p : ℕ) (kernel : Kernel) → PrintsOn q kernel (procedure_called call p kernel)
unfolding procedure_called
prints_procedure_called q call p kernel =
    prints_if q kernel (is_some (process_in kernel.dispatcher.procs p).procedure) _ _ (prints_same q kernel _ refl refl) (prints_procedure_at q (procedure_queue kernel.queues call) p kernel)

prints_date_set : (q : ℕ) (call : Taken) (kernel : Kernel) → PrintsOn q kernel (date_set call kernel)
unfolding date_set
prints_date_set q call kernel = prints_if q kernel (names_time call) _ _ (prints_same q kernel _ refl refl) (prints_same q kernel _ refl refl)

prints_date_answered : (q : ℕ) (call : Taken) (kernel : Kernel) → PrintsOn q kernel (date_answered call kernel)
unfolding date_answered
prints_date_answered q call kernel = prints_same q kernel _ refl refl

prints_time_answered : (q : ℕ) (call : Taken) (kernel : Kernel) → PrintsOn q kernel (time_answered call kernel)
unfolding time_answered
prints_time_answered q call kernel = prints_same q kernel _ refl refl

-- each call

prints_call_done : (q : ℕ) (call : Taken) (p : ℕ) (kernel : Kernel) → q ≢ p → PrintsOn q kernel (call_done call p (process_in kernel.dispatcher.procs p) kernel)
prints_call_done q call p kernel other =
    let same : KeepsPrinter q kernel kernel = prints_same q kernel kernel refl refl in
    by_table (PrintsOn q kernel) call p (process_in kernel.dispatcher.procs p) kernel (
      λ _. same,
      (
        λ _. prints_console_called q call p kernel,
        (
          λ _. prints_unit_called q call p kernel other,
          (
            λ _. same,
            (
              λ _. same,
              (
                λ _. prints_other q p kernel _ other,
                (
                  λ _. prints_other q p kernel _ other,
                  (
                    λ _. prints_other q p kernel _ other,
                    (
                      λ _. prints_other q p kernel _ other,
                      (
                        λ _. prints_date_set q call kernel,
                        (
                          λ _. prints_date_answered q call kernel,
                          (
                            λ _. prints_other q p kernel _ other,
                            (
                              λ _. prints_polled q call p kernel,
                              (
                                λ _. prints_flag_waited q call p kernel,
                                (
                                  λ _. prints_flag_set q call kernel,
                                  (
                                    λ _. prints_queue_made q call kernel,
                                    (
                                      λ _. prints_opened q _ call kernel,
                                      (
                                        λ _. prints_deleted q _ kernel,
                                        (
                                          λ _. prints_read_at q _ true call p kernel,
                                          (
                                            λ _. prints_read_at q _ false call p kernel,
                                            (
                                              λ _. prints_write_at q _ true p kernel,
                                              (
                                                λ _. prints_write_at q _ false p kernel,
                                                (
                                                  λ _. prints_delayed q call p kernel,
                                                  (
                                                    λ _. prints_same q kernel _ refl refl,
                                                    (
                                                      λ _. prints_priority q p (low_parameter call) kernel,
                                                      (
                                                        λ _. prints_procedure_called q call p kernel,
                                                        (λ _. prints_time_answered q call kernel, tt),
                                                      ),
                                                    ),
                                                  ),
                                                ),
                                              ),
                                            ),
                                          ),
                                        ),
                                      ),
                                    ),
                                  ),
                                ),
                              ),
                            ),
                          ),
                        ),
                      ),
                    ),
                  ),
                ),
              ),
            ),
          ),
        ),
      ),
    )
    same
  where
    prints_priority : (q p priority : ℕ) (kernel : Kernel) → KeepsPrinter q kernel (dispatched (with_priority p priority) kernel)
    prints_priority q p priority kernel =
        let changed = with_changed kernel p (record (process_in kernel.dispatcher.procs p) { priority = priority }) in
        prints_both q kernel changed _ (prints_changed q p kernel _ refl) (prints_same q changed _ refl refl)

-- what a call of another leaves
pub prints_called : (q p : ℕ) (kernel : Kernel) → q ≢ p → KeepsPrinter q kernel (called p kernel).kernel
prints_called q p kernel other =
    let begun = call_begun (does_echo (call_of kernel.dispatcher.procs p).function) kernel in
    prints_both q kernel begun _ (prints_same q kernel begun refl refl) (prints_call_done q (call_of kernel.dispatcher.procs p) p begun other)
