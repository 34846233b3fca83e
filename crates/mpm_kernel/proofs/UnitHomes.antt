-- Where processes live, and which calls they keep, after the calls on consoles and printers.
use Rattle.std.proofs.Common.{◌≡◌, ◌≢◌, ◌∙◌, ℕ, Bool, true, false, ◌&&◌, ◌==◌, List, Option, Some, None, if◌then◌else◌, refl, ap, length}
use Rattle.std.proofs.lemmas.Bool.{and_parts}
use Rattle.std.proofs.lemmas.List.{length-set}
use Rattle.mpm_base.specs.Calls.{Taken, byte_in, name_at}
use Rattle.mpm_procs.specs.Table.{HasSlots, lives, Lives, process_in, call_of, with_process}
use Rattle.mpm_procs.specs.declared.process.Process.{Process}
use Rattle.mpm_procs.proofs.MapLaws.{lives_changed, call_after, slots_changed}
use Rattle.mpm_kernel.specs.Kernel.{Kernel, IsSoundKernel, with_changed}
use Rattle.mpm_kernel.specs.Columns.{spoke}
use Rattle.mpm_kernel.specs.Called.{Called, valued, low_parameter}
use Rattle.mpm_kernel.specs.Calls.{called}
use Rattle.std.specs.Prelude.{nat_lt}
use Rattle.mpm_base.proofs.Choices.{either}
use Rattle.mpm_base.specs.declared.functions.TheConstants.{SET_MULTI_SECTOR_COUNT, SET_BDOS_ERROR_MODE, CONSOLE_INPUT, RAW_CONSOLE_INPUT, DIRECT_CONSOLE_IO, READ_CONSOLE_BUFFER, GET_CONSOLE_STATUS}
use Rattle.mpm_queues.proofs.Finding.{lowest_passes}
use Rattle.mpm_consoles.specs.Consoles.{Consoles, console_at}
use Rattle.mpm_consoles.specs.Handling.{may_attach, gate_wait_begun, first_taken, raw_set, spoke as spoke_units}
use Rattle.mpm_consoles.specs.declared.modes.TheConstants.{POLL_KEY, TELL_STATUS, AWAIT_KEY}
use Rattle.mpm_base.specs.declared.unit.Unit.{Unit}
use Rattle.mpm_base.specs.declared.unit.Unit.TheVariants.{Console as ConsoleUnit, Printer as PrinterUnit}
use Rattle.mpm_line_input.specs.Lines.{is_full, ends, line_end}
use Rattle.mpm_kernel.specs.Consoling.{retried, attaching, attached, attached_now, detached, console_changed, printer_changed, console_set, printer_set, is_called, named, owner_made, is_meant, assigned_to, assigned, printer_rows, printer_called, unit_rows, unit_called, awaited, echoed, unit_left}
use Rattle.mpm_kernel.specs.ConsoleInput.{is_cooked, is_raw, writes, raw_if, key_taken, next_key, shown_key, read_key, polled_key, direct, line_of, greatest, line_done, key_joined, line_with, line_by, line_read, console_served, unless_stopped, console_called}
use Rattle.mpm_kernel.proofs.Beside.{beside_same, beside_both, beside_changed}
use Rattle.mpm_kernel.proofs.UnitCounts.{many_left, many_assigned}
use Rattle.mpm_kernel.proofs.InputLaws.{consoles_attached}
use Rattle.mpm_kernel.proofs.Homes.{homes_stay, homes_both, homes_changed}
use Rattle.mpm_kernel.proofs.RowLaws.{by_rows}
use Rattle.mpm_kernel.proofs.CallHomes.{KeepsHome, kept_if, kept_kernel_if, kept_same, kept_changed, kept_then, kept_procs}
use Rattle.mpm_kernel.proofs.ChangeLaws.{queues_left}

-- there are as many consoles

consoles_attaching : (p : ℕ) (unit : Unit) (wait : Bool) (kernel : Kernel) → length (attaching p unit wait kernel).units.consoles ≡ length kernel.units.consoles
consoles_attaching p unit wait kernel = consoles_attached kernel.units p (process_in kernel.dispatcher.procs p).priority unit wait

consoles_waiting : (t : Consoles) (n : ℕ) (key : Bool) → length (gate_wait_begun t n key).consoles ≡ length t.consoles
unfolding gate_wait_begun
consoles_waiting t n key = length-set t.consoles n _

consoles_taken : (t : Consoles) (n : ℕ) → length (first_taken t n).consoles ≡ length t.consoles
unfolding first_taken
consoles_taken t n = length-set t.consoles n _

pub consoles_spoken : (t : Consoles) (n : ℕ) (bytes : List ℕ) → length (spoke_units t n bytes).consoles ≡ length t.consoles
unfolding spoke_units
consoles_spoken t n bytes = length-set t.consoles n _

consoles_raw : (b raw : Bool) (t : Consoles) (n : ℕ) → length (if b then raw_set t n raw else t).consoles ≡ length t.consoles
unfolding raw_set
consoles_raw true raw t n = length-set t.consoles n _
consoles_raw false raw t n = refl

-- consoles and printers
kept_attached : (p : ℕ) (unit : Unit) (kernel : Kernel) → KeepsHome kernel (attached p unit kernel)
unfolding attached retried
kept_attached p unit kernel =
    kept_if kernel (may_attach kernel.units p unit) _ _ (kept_same kernel _ refl (consoles_attaching p unit true kernel)) (kept_same kernel _ refl (consoles_attaching p unit true kernel))

kept_attached_now : (p : ℕ) (unit : Unit) (kernel : Kernel) → KeepsHome kernel (attached_now p unit kernel)
unfolding attached_now
kept_attached_now p unit kernel =
    kept_if kernel (may_attach kernel.units p unit) _ _ (kept_same kernel _ refl (consoles_attaching p unit false kernel)) (kept_same kernel _ refl refl)

kept_detached : (p : ℕ) (unit : Unit) (kernel : Kernel) → KeepsHome kernel (detached p unit kernel)
unfolding unit_left
kept_detached p unit kernel = kept_same kernel _ refl (many_left p unit kernel).consoles

kept_left_changed : (p : ℕ) (unit : Unit) (process : Process) (kernel : Kernel) → IsSoundKernel kernel → Lives kernel.dispatcher.procs p
    → process.seg ≡ (process_in kernel.dispatcher.procs p).seg → process.abort_due ≡ (process_in kernel.dispatcher.procs p).abort_due
    → ((call_of kernel.dispatcher.procs p).function ≢ SET_BDOS_ERROR_MODE → process.error_mode ≡ (process_in kernel.dispatcher.procs p).error_mode)
    → ((call_of kernel.dispatcher.procs p).function ≢ SET_MULTI_SECTOR_COUNT → process.multi ≡ (process_in kernel.dispatcher.procs p).multi)
    → KeepsHome kernel (valued 0 (with_changed (unit_left p unit kernel) p process))
unfolding unit_left
kept_left_changed p unit process kernel s h same due mode multi =
    kept_procs kernel (with_changed kernel p process) _ (kept_changed p 0 kernel process s h same due mode multi) refl (many_left p unit kernel).consoles

kept_console_set : (call : Taken) (p : ℕ) (kernel : Kernel) → IsSoundKernel kernel → Lives kernel.dispatcher.procs p → KeepsHome kernel (console_set call p kernel)
unfolding console_set console_changed
kept_console_set call p kernel s h =
    let console = low_parameter call in
    let process = process_in kernel.dispatcher.procs p in
    kept_if kernel (nat_lt console (length kernel.units.consoles)) _ _
    (kept_then kernel _ _
    (kept_kernel_if kernel (process.console == console) _ _ 0 (kept_same kernel _ refl refl) (kept_left_changed p (ConsoleUnit process.console) _ kernel s h refl refl (λ _. refl) (λ _. refl)))
    (either (λ (k : Kernel). k.queues ≡ kernel.queues) (process.console == console) _ _ (λ _. refl) (λ _. queues_left p (ConsoleUnit process.console) kernel))
    (kept_attached p (ConsoleUnit console) _))
    (kept_same kernel _ refl refl)

kept_printer_set : (call : Taken) (p : ℕ) (kernel : Kernel) → IsSoundKernel kernel → Lives kernel.dispatcher.procs p → KeepsHome kernel (printer_set call p kernel)
unfolding printer_set printer_changed
kept_printer_set call p kernel s h =
    let printer = low_parameter call in
    let process = process_in kernel.dispatcher.procs p in
    kept_if kernel (nat_lt printer (length kernel.units.printers)) _ _
    (kept_then kernel _ _
    (kept_kernel_if kernel (process.printer == printer) _ _ 0 (kept_same kernel _ refl refl) (kept_left_changed p (PrinterUnit process.printer) _ kernel s h refl refl (λ _. refl) (λ _. refl)))
    (either (λ (k : Kernel). k.queues ≡ kernel.queues) (process.printer == printer) _ _ (λ _. refl) (λ _. queues_left p (PrinterUnit process.printer) kernel))
    (kept_attached p (PrinterUnit printer) _))
    (kept_same kernel _ refl refl)

kept_assigned_to : (o : Option ℕ) (console : ℕ) (own_only : Bool) (kernel : Kernel) → IsSoundKernel kernel → ((q : ℕ) → o ≡ Some q → Lives kernel.dispatcher.procs q) → KeepsHome kernel (assigned_to o console own_only kernel)
unfolding assigned_to owner_made
kept_assigned_to None console own_only kernel s live = kept_same kernel _ refl refl
kept_assigned_to (Some to) console own_only kernel s live =
    kept_if kernel (is_meant console own_only (process_in kernel.dispatcher.procs to)) _ _
    (kept_procs kernel (with_changed kernel to (record (process_in kernel.dispatcher.procs to) { console = console })) _ (kept_changed to 0 kernel _ s (live to refl) refl refl (λ _. refl) (λ _. refl)) refl (many_assigned kernel.units console to).consoles)
    (kept_same kernel _ refl refl)

kept_assigned : (call : Taken) (p : ℕ) (kernel : Kernel) → IsSoundKernel kernel → KeepsHome kernel (assigned call p kernel)
unfolding assigned
kept_assigned call p kernel s =
    kept_if kernel (nat_lt (byte_in call 0) (length kernel.units.consoles) && may_attach kernel.units p (ConsoleUnit (byte_in call 0))) _ _
    (kept_assigned_to (named kernel.dispatcher.procs (name_at call 1)) (byte_in call 0) (byte_in call 9 == 255) kernel s
    (λ q is. (and_parts (lives kernel.dispatcher.procs q) _ (lowest_passes (is_called kernel.dispatcher.procs (name_at call 1)) q is).0).0))
    (kept_same kernel _ refl refl)

kept_printer_called : (call : Taken) (p : ℕ) (kernel : Kernel) → IsSoundKernel kernel → Lives kernel.dispatcher.procs p → KeepsHome kernel (printer_called call p kernel)
unfolding printer_called
kept_printer_called call p kernel s h =
    kept_if kernel (length kernel.units.printers == 0) _ _ (kept_same kernel _ refl refl)
    (by_rows (KeepsHome kernel) call p (process_in kernel.dispatcher.procs p) kernel printer_rows (
      λ _. kept_attached p _ kernel,
      (
        λ _. kept_detached p _ kernel,
        (
          λ _. kept_printer_set call p kernel s h,
          (
            λ _. kept_attached_now p _ kernel,
            tt,
          ),
        ),
      ),
    )
    (kept_same kernel _ refl refl))

pub kept_unit_called : (call : Taken) (p : ℕ) (kernel : Kernel) → IsSoundKernel kernel → Lives kernel.dispatcher.procs p → KeepsHome kernel (unit_called call p kernel)
unfolding unit_called
kept_unit_called call p kernel s h =
    by_rows (KeepsHome kernel) call p (process_in kernel.dispatcher.procs p) kernel unit_rows (
      λ _. kept_attached p _ kernel,
      (
        λ _. kept_detached p _ kernel,
        (
          λ _. kept_console_set call p kernel s h,
          (
            λ _. kept_assigned call p kernel s,
            (
              λ _. kept_same kernel _ refl refl,
              (
                λ _. kept_attached_now p _ kernel,
                (
                  λ _. kept_same kernel _ refl refl,
                  (
                    λ _. kept_printer_called call p kernel s h,
                    tt,
                  ),
                ),
              ),
            ),
          ),
        ),
      ),
    )
    (kept_same kernel _ refl refl)

-- reading from a console and writing to it
kept_awaited : (p console : ℕ) (key : Bool) (kernel : Kernel) → KeepsHome kernel (awaited p console key kernel)
unfolding awaited retried
kept_awaited p console key kernel = kept_same kernel _ refl (consoles_waiting kernel.units console key)

kept_shown : (o : Option ℕ) (p console : ℕ) (kernel : Kernel) → KeepsHome kernel (shown_key o p console kernel)
unfolding shown_key echoed spoke
kept_shown None p console kernel = kept_awaited p console true kernel
kept_shown (Some key) p console kernel =
    kept_same kernel _ refl (consoles_spoken (first_taken kernel.units console) console _ ∙ consoles_taken kernel.units console)

kept_read_key : (o : Option ℕ) (p console : ℕ) (kernel : Kernel) → KeepsHome kernel (read_key o p console kernel)
unfolding read_key
kept_read_key None p console kernel = kept_awaited p console true kernel
kept_read_key (Some key) p console kernel = kept_same kernel _ refl (consoles_taken kernel.units console)

kept_polled_key : (o : Option ℕ) (console : ℕ) (kernel : Kernel) → KeepsHome kernel (polled_key o console kernel)
unfolding polled_key
kept_polled_key None console kernel = kept_same kernel _ refl refl
kept_polled_key (Some key) console kernel = kept_same kernel _ refl (consoles_taken kernel.units console)

kept_direct : (call : Taken) (p console : ℕ) (kernel : Kernel) → KeepsHome kernel (direct call p console kernel)
unfolding direct
kept_direct call p console kernel =
    kept_if kernel (low_parameter call == POLL_KEY) _ _ (kept_polled_key _ console kernel)
    (kept_if kernel (low_parameter call == TELL_STATUS) _ _ (kept_same kernel _ refl refl)
    (kept_if kernel (low_parameter call == AWAIT_KEY) _ _ (kept_read_key _ p console kernel)
    (kept_same kernel _ refl refl)))

kept_process : (p : ℕ) (kernel : Kernel) (process : Process) (called : Called) → HasSlots kernel.dispatcher.procs → Lives kernel.dispatcher.procs p
    → process.seg ≡ (process_in kernel.dispatcher.procs p).seg → process.abort_due ≡ (process_in kernel.dispatcher.procs p).abort_due
    → ((call_of kernel.dispatcher.procs p).function ≢ SET_BDOS_ERROR_MODE → process.error_mode ≡ (process_in kernel.dispatcher.procs p).error_mode)
    → ((call_of kernel.dispatcher.procs p).function ≢ SET_MULTI_SECTOR_COUNT → process.multi ≡ (process_in kernel.dispatcher.procs p).multi)
    → called.kernel.dispatcher.procs ≡ with_process kernel.dispatcher.procs p process
    → length called.kernel.units.consoles ≡ length kernel.units.consoles → KeepsHome kernel called
kept_process p kernel process called slots h same due mode multi e count = record {
  homes = homes_both kernel (with_changed kernel p process) called.kernel (homes_changed kernel p process slots h same due) (homes_stay (with_changed kernel p process) called.kernel e);
  call = λ q _. ap (λ procs. call_of procs q) e ∙ call_after kernel.dispatcher.procs p q process;
  beside = λ q. beside_both q kernel.dispatcher.procs (with_process kernel.dispatcher.procs p process) called.kernel.dispatcher.procs
      (beside_changed kernel.dispatcher.procs p q process same due mode multi) (beside_same q (with_process kernel.dispatcher.procs p process) called.kernel.dispatcher.procs e);
  consoles = count;
}

kept_line_done : (call : Taken) (p : ℕ) (kernel : Kernel) → HasSlots kernel.dispatcher.procs → Lives kernel.dispatcher.procs p → KeepsHome kernel (line_done call p kernel)
unfolding line_done
kept_line_done call p kernel slots h = kept_process p kernel _ _ slots h refl refl (λ _. refl) (λ _. refl) refl refl

kept_joined : (call : Taken) (p console key : ℕ) (kernel : Kernel) → HasSlots kernel.dispatcher.procs → Lives kernel.dispatcher.procs p
    → KeepsHome kernel (valued 0 (key_joined call p console key kernel))
unfolding key_joined echoed spoke
kept_joined call p console key kernel slots h = kept_process p kernel _ _ slots h refl refl (λ _. refl) (λ _. refl) refl (consoles_spoken kernel.units console _)

joined_rest : (call : Taken) (p console key : ℕ) (kernel : Kernel) → HasSlots kernel.dispatcher.procs → Lives kernel.dispatcher.procs p
    → ((key_joined call p console key kernel).queues ≡ kernel.queues)
    × (HasSlots (key_joined call p console key kernel).dispatcher.procs × Lives (key_joined call p console key kernel).dispatcher.procs p)
unfolding key_joined echoed spoke
joined_rest call p console key kernel slots h = (refl, (slots_changed kernel.dispatcher.procs p _ slots, lives_changed kernel.dispatcher.procs p p _ ∙ h))

kept_line_with : (key : ℕ) (call : Taken) (p console : ℕ) (kernel : Kernel) → HasSlots kernel.dispatcher.procs → Lives kernel.dispatcher.procs p → KeepsHome kernel (line_with key call p console kernel)
unfolding line_with
kept_line_with key call p console kernel slots h =
    let afterwards = key_joined call p console key kernel in
    let rest = joined_rest call p console key kernel slots h in
    let first = kept_joined call p console key kernel slots h in
    kept_if kernel (ends (line_of (process_in kernel.dispatcher.procs p)) (greatest call) key) _ _
    (kept_then kernel afterwards _ first rest.0 (kept_line_done call p afterwards rest.1.0 rest.1.1))
    (kept_procs kernel afterwards _ first refl refl)

kept_line_by : (o : Option ℕ) (call : Taken) (p console : ℕ) (kernel : Kernel) → HasSlots kernel.dispatcher.procs → Lives kernel.dispatcher.procs p → KeepsHome kernel (line_by o call p console kernel)
kept_line_by None call p console kernel slots h = kept_awaited p console true kernel
kept_line_by (Some key) call p console kernel slots h =
    kept_then kernel (key_taken console kernel) _ (kept_same kernel _ refl (consoles_taken kernel.units console)) refl (kept_line_with key call p console (key_taken console kernel) slots h)

kept_line_read : (call : Taken) (p console : ℕ) (kernel : Kernel) → HasSlots kernel.dispatcher.procs → Lives kernel.dispatcher.procs p → KeepsHome kernel (line_read call p console kernel)
unfolding line_read echoed spoke
kept_line_read call p console kernel slots h =
    kept_if kernel (is_full (process_in kernel.dispatcher.procs p).line_length (greatest call)) _ _
    (kept_then kernel _ _ (kept_same kernel _ refl (consoles_spoken kernel.units console line_end)) refl (kept_line_done call p (echoed console line_end kernel) slots h))
    (kept_line_by (next_key console kernel) call p console kernel slots h)

pub kept_console_called : (call : Taken) (p : ℕ) (kernel : Kernel) → IsSoundKernel kernel → Lives kernel.dispatcher.procs p → KeepsHome kernel (console_called call p kernel)
unfolding console_called unless_stopped console_served retried
kept_console_called call p kernel s h =
    let f = call.function in
    let console = (process_in kernel.dispatcher.procs p).console in
    let cooked = raw_if (is_cooked f) console false (attaching p (ConsoleUnit console) true kernel) in
    let ready = raw_if (is_raw f) console true cooked in
    kept_if kernel (may_attach kernel.units p (ConsoleUnit console)) _ _
    (kept_then kernel cooked _
    (kept_same kernel _ refl
    (consoles_raw (is_cooked f) false (attaching p (ConsoleUnit console) true kernel).units console ∙ consoles_attaching p (ConsoleUnit console) true kernel)) refl
    (kept_if cooked (writes call && (console_at cooked.units console).stopped) _ _ (kept_awaited p console false cooked)
    (kept_then cooked ready _ (kept_same cooked _ refl (consoles_raw (is_raw f) true cooked.units console)) refl
    (kept_if ready (f == CONSOLE_INPUT) _ _ (kept_shown _ p console ready)
    (kept_if ready (f == RAW_CONSOLE_INPUT) _ _ (kept_read_key _ p console ready)
    (kept_if ready (f == DIRECT_CONSOLE_IO) _ _ (kept_direct call p console ready)
    (kept_if ready (f == READ_CONSOLE_BUFFER) _ _ (kept_line_read call p console ready s.slots h)
    (kept_if ready (f == GET_CONSOLE_STATUS) _ _ (kept_same ready _ refl refl) (kept_same ready _ refl refl)))))))))
    (kept_same kernel _ refl (consoles_attaching p (ConsoleUnit console) true kernel))
