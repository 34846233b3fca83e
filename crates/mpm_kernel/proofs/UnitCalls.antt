-- What stays so after the calls on consoles and printers.
use Rattle.std.proofs.Common.{◌≡◌, ◌≢◌, ◌∙◌, ℕ, ◌+◌, ◌<◌, ◌≤◌, Bool, true, false, not, ◌&&◌, ◌||◌, ◌==◌, if◌then◌else◌, inl, inr, length, Option, Some, None, refl, sym, ap, arith}
use Rattle.std.specs.Prelude.{nat_lt}
use Rattle.std.proofs.lemmas.Bool.{false≢true, cases_eq, and_parts}
use Rattle.std.proofs.lemmas.Bool.Decides.{nat_tests}
use Rattle.std.proofs.lemmas.Option.{same_Some}
use Rattle.mpm_base.proofs.Choices.{either}
use Rattle.mpm_base.specs.Calls.{Taken, byte_in, name_at}
use Rattle.mpm_ready.specs.Tables.{list_of, removed}
use Rattle.mpm_ready.proofs.TableLaws.{list_of_removed}
use Rattle.mpm_procs.specs.Table.{lives, Lives, process_in}
use Rattle.mpm_procs.proofs.MapLaws.{lives_below, lives_changed}
use Rattle.mpm_queues.proofs.Finding.{lowest_passes}
use Rattle.mpm_consoles.specs.Console.{is_owner}
use Rattle.mpm_consoles.specs.Consoles.{Consoles, HasUnit, owner_of, owns, waiters_of, waits_for, MayWait}
use Rattle.mpm_consoles.specs.Handling.{given, unlisted, listed, attaches, may_attach, attach_from, unit_attached, console_assigned}
use Rattle.mpm_base.specs.declared.unit.Unit.{Unit}
use Rattle.mpm_base.specs.declared.unit.Unit.TheVariants.{Console as ConsoleUnit, Printer as PrinterUnit}
use Rattle.mpm_consoles.proofs.SoundLaws.{sound_given, sound_listed, for_free, for_absent}
use Rattle.mpm_dispatcher.specs.Dispatch.{ready, lists_ready, made_ready, descheduled}
use Rattle.mpm_kernel.specs.Kernel.{Kernel, in_lists, waits_at_units, waits_of, IsSoundKernel, MayCall, with_changed, dispatched}
use Rattle.mpm_kernel.specs.Consoling.{unit_left, retried, attached, attached_now, detached, console_changed, printer_changed, console_set, printer_set, is_called, named, owner_made, is_meant, assigned_to, assigned, printer_called, unit_called}
use Rattle.mpm_kernel.specs.Called.{valued, failure_code, low_parameter}
use Rattle.mpm_kernel.specs.Consoling.{retried, attached, attached_now, detached, console_changed, printer_changed, console_set, printer_set, is_called, named, owner_made, is_meant, assigned_to, assigned, printer_rows, printer_called, unit_rows, unit_called}
use Rattle.mpm_kernel.proofs.RowLaws.{by_rows}
use Rattle.mpm_kernel.proofs.PlaceLaws.{in_none}
use Rattle.mpm_consoles.proofs.PlaceLaws.{waits_listed, waits_listed_other, gate_waits_listed, owner_is}
use Rattle.mpm_kernel.proofs.UnitWaits.{waits_given, gates_given, owner_from_given, owner_listed, consoles_given, printers_given}
use Rattle.mpm_kernel.proofs.UnitCounts.{many_assigned}
use Rattle.mpm_kernel.proofs.UnitLaws.{waits_at_no_unit, has_own_console, has_own_printer}
use Rattle.mpm_kernel.proofs.Soundness.{AreUnits, fit_kept, sound_changed, sound_units, sound_with_units, sound_unlisted, own_queues, listed_once}
use Rattle.mpm_kernel.proofs.Passing.{passed_waiter, sound_passed, sound_unit_left}
use Rattle.mpm_kernel.proofs.ChangeLaws.{may_console_changed, may_printer_changed, consoles_changed, printers_changed}
use Rattle.mpm_kernel.proofs.Staying.{StaysSound, Calls, nobody, called_if, same}

-- a process that waits at a unit from now on, and is ready no more
pub record WaitsAt (kernel : Kernel) (p : ℕ) (units : Consoles) : Type 0 where
  pub are : AreUnits kernel.units kernel.dispatcher.procs units
  pub once : waits_at_units units p ≤ 1
  pub others : (q : ℕ) → q ≢ p → waits_at_units units q ≤ waits_at_units kernel.units q

quiet : Kernel → ℕ → Kernel
quiet kernel p = record kernel { dispatcher = descheduled p kernel.dispatcher }

sound_quiet : (p : ℕ) (kernel : Kernel) → Calls p kernel → IsSoundKernel (quiet kernel p)
unfolding quiet
sound_quiet p kernel c =
    sound_unlisted kernel p kernel.flags kernel.clock kernel.queues c.sound c.lives c.sound.flags (own_queues kernel c.sound)
    (omega (arith, listed_once kernel p ready c.sound c.ready)) (λ q other. refl)

pub stays_retried : (p : ℕ) (units : Consoles) (kernel : Kernel) → Calls p kernel → WaitsAt kernel p units → StaysSound p (retried p (record kernel { units = units }))
unfolding retried quiet
stays_retried p units kernel c w =
    let s = sound_quiet p kernel c in
    let none = in_none _ (list_of_removed kernel.dispatcher.lists p) in
    let once = listed_once kernel p ready c.sound c.ready in
    record {
      sound = sound_with_units (quiet kernel p) units s w.are
          (λ q. elim (cases_eq q p) [
            | inl equal ↦
                let there : in_lists (list_of (removed kernel.dispatcher.lists p) q) + (waits_of (record (quiet kernel p) { units = units }) q) ≡ in_lists (list_of (removed kernel.dispatcher.lists p) p) + waits_of (record (quiet kernel p) { units = units }) p =
                ap (λ x. in_lists (list_of (removed kernel.dispatcher.lists p) x) + waits_of (record (quiet kernel p) { units = units }) x) equal in
                omega (arith, there, none, once, w.once)
            | inr other ↦ omega (arith, s.once q, w.others q other)
          ])
          (λ q some. elim (cases_eq q p) [
            | inl equal ↦ ap (lives kernel.dispatcher.procs) equal ∙ c.lives
            | inr other ↦ s.live q (omega (arith, some, w.others q other))
          ]);
      lives = c.lives;
      completed = nobody (dispatched (descheduled p) (record kernel { units = units })) c.none;
    }

-- units at which nobody waits who didn't before
pub record AreQuiet (kernel : Kernel) (units : Consoles) : Type 0 where
  pub are : AreUnits kernel.units kernel.dispatcher.procs units
  pub fewer : (q : ℕ) → waits_at_units units q ≤ waits_at_units kernel.units q

quiet_same : (kernel : Kernel) → IsSoundKernel kernel → AreQuiet kernel kernel.units
quiet_same kernel s = record {
  are = record { sound = s.units; consoles = refl; printers = refl; owners = s.owners };
  fewer = λ q. omega arith;
}

has_before_given : (t : Consoles) (unit other : Unit) (owner : Option ℕ) → HasUnit (given t unit owner) other → HasUnit t other
has_before_given t unit (ConsoleUnit n) owner has = omega (arith, consoles_given t unit owner, has)
has_before_given t unit (PrinterUnit n) owner has = omega (arith, printers_given t unit owner, has)

-- a unit comes to a living process that doesn't wait for it
pub quiet_given : (kernel : Kernel) (unit : Unit) (p : ℕ) → IsSoundKernel kernel → HasUnit kernel.units unit → Lives kernel.dispatcher.procs p
    → MayWait (Some p) (waiters_of kernel.units unit) → AreQuiet kernel (given kernel.units unit (Some p))
quiet_given kernel unit p s has h for = record {
  are = record {
    sound = sound_given kernel.units unit (Some p) s.units has for;
    consoles = consoles_given kernel.units unit (Some p);
    printers = printers_given kernel.units unit (Some p);
    owners = λ other q there is. elim (owner_from_given kernel.units unit other (Some p) q has is) [
      | inl before ↦ s.owners other q (has_before_given kernel.units unit other (Some p) there) before
      | inr new ↦ ap (lives kernel.dispatcher.procs) (sym (same_Some p q new)) ∙ h
    ];
  };
  fewer = λ q. omega (arith, waits_given kernel.units unit (Some p) q, gates_given kernel.units unit (Some p) q has);
}

-- a unit is attached
quiet_either : (b c : Bool) (kernel : Kernel) (x : Consoles) → IsSoundKernel kernel → b ≡ true → AreQuiet kernel (if b || c then kernel.units else x)
quiet_either true c kernel x s is = quiet_same kernel s
quiet_either false c kernel x s is = absurd (false≢true is)

quiet_from : (o : Option ℕ) (kernel : Kernel) (p : ℕ) (unit : Unit) (wait : Bool) → Calls p kernel → HasUnit kernel.units unit → owner_of kernel.units unit ≡ o
    → attaches o p ≡ true → AreQuiet kernel (attach_from o kernel.units p (process_in kernel.dispatcher.procs p).priority unit wait)
quiet_from None kernel p unit wait c has is may =
    quiet_given kernel unit p c.sound has c.lives (for_free kernel.units unit p c.sound.units has is)
quiet_from (Some owner) kernel p unit wait c has is may = quiet_either (owner == p) (not wait) kernel _ c.sound may

pub quiet_attached : (kernel : Kernel) (p : ℕ) (unit : Unit) (wait : Bool) → Calls p kernel → HasUnit kernel.units unit → may_attach kernel.units p unit ≡ true
    → AreQuiet kernel (unit_attached kernel.units p (process_in kernel.dispatcher.procs p).priority unit wait)
unfolding may_attach unit_attached
quiet_attached kernel p unit wait c has may = quiet_from (owner_of kernel.units unit) kernel p unit wait c has refl may

-- or waited for
has_listed : (t : Consoles) (p priority : ℕ) (unit other : Unit) → HasUnit (listed t p priority unit) other → HasUnit t other
unfolding listed
has_listed t p priority unit (ConsoleUnit n) has = has
has_listed t p priority unit (PrinterUnit n) has = has

counts_listed : (t : Consoles) (p priority : ℕ) (unit : Unit)
    → (length (listed t p priority unit).consoles ≡ length t.consoles) × (length (listed t p priority unit).printers ≡ length t.printers)
unfolding listed
counts_listed t p priority unit = (refl, refl)

waits_listed_at : (kernel : Kernel) (p : ℕ) (unit : Unit) → Calls p kernel → HasUnit kernel.units unit → owner_of kernel.units unit ≢ None
    → owns kernel.units p unit ≡ false → WaitsAt kernel p (listed kernel.units p (process_in kernel.dispatcher.procs p).priority unit)
waits_listed_at kernel p unit c has some other =
    let t = kernel.units in
    let s = c.sound in
    let priority = (process_in kernel.dispatcher.procs p).priority in
    let below = lives_below kernel.dispatcher.procs p s.slots c.lives in
    let nowhere = waits_at_no_unit kernel p s c.ready in
    record {
      are = record {
        sound = sound_listed t p priority unit s.units has below nowhere some other;
        consoles = (counts_listed t p priority unit).0;
        printers = (counts_listed t p priority unit).1;
        owners = λ u q there is.
            s.owners u q (has_listed t p priority unit u there) (sym (ap (λ o. is_owner o q) (owner_listed t p priority unit u)) ∙ is);
      };
      once = omega (arith, waits_listed t p priority unit s.units has below nowhere, gate_waits_listed t p priority unit p, listed_once kernel p ready s c.ready);
      others = λ q apart. omega (arith, waits_listed_other t p priority unit q s.units has below nowhere apart, gate_waits_listed t p priority unit q);
    }

waits_either : (b : Bool) (kernel : Kernel) (p : ℕ) (x : Consoles) → b ≡ false → WaitsAt kernel p x → WaitsAt kernel p (if b || not true then kernel.units else x)
waits_either true kernel p x is w = absurd (false≢true (sym is))
waits_either false kernel p x is w = w

waits_from : (o : Option ℕ) (kernel : Kernel) (p : ℕ) (unit : Unit) → Calls p kernel → HasUnit kernel.units unit → owner_of kernel.units unit ≡ o
    → attaches o p ≡ false → WaitsAt kernel p (attach_from o kernel.units p (process_in kernel.dispatcher.procs p).priority unit true)
waits_from None kernel p unit c has is may = absurd (false≢true (sym may))
waits_from (Some owner) kernel p unit c has is may =
    waits_either (owner == p) kernel p _ may
    (waits_listed_at kernel p unit c has (λ none. absurd (let e : Some owner ≡ None = sym is ∙ none in cc)) (ap (λ o. is_owner o p) is ∙ may))

pub waits_attached : (kernel : Kernel) (p : ℕ) (unit : Unit) → Calls p kernel → HasUnit kernel.units unit → may_attach kernel.units p unit ≡ false
    → WaitsAt kernel p (unit_attached kernel.units p (process_in kernel.dispatcher.procs p).priority unit true)
unfolding may_attach unit_attached
waits_attached kernel p unit c has may = waits_from (owner_of kernel.units unit) kernel p unit c has refl may

stays_quiet : (p value : ℕ) (units : Consoles) (kernel : Kernel) → Calls p kernel → AreQuiet kernel units → StaysSound p (valued value (record kernel { units = units }))
stays_quiet p value units kernel c a = record {
  sound = sound_units kernel units c.sound a.are a.fewer;
  lives = c.lives;
  completed = nobody (record kernel { units = units }) c.none;
}

pub stays_attached : (p : ℕ) (unit : Unit) (kernel : Kernel) → Calls p kernel → HasUnit kernel.units unit → StaysSound p (attached p unit kernel)
unfolding attached
stays_attached p unit kernel c has = called_if p (may_attach kernel.units p unit) _ _
    (λ may. stays_quiet p 0 _ kernel c (quiet_attached kernel p unit true c has may))
    (λ may. stays_retried p _ kernel c (waits_attached kernel p unit c has may))

stays_attached_now : (p : ℕ) (unit : Unit) (kernel : Kernel) → Calls p kernel → HasUnit kernel.units unit → StaysSound p (attached_now p unit kernel)
unfolding attached_now
stays_attached_now p unit kernel c has = called_if p (may_attach kernel.units p unit) _ _
    (λ may. stays_quiet p 0 _ kernel c (quiet_attached kernel p unit false c has may))
    (λ _. same p failure_code kernel c)

stays_detached : (p : ℕ) (unit : Unit) (kernel : Kernel) → Calls p kernel → HasUnit kernel.units unit → StaysSound p (detached p unit kernel)
unfolding unit_left
stays_detached p unit kernel c has = record {
  sound = sound_unit_left kernel p unit c.sound has;
  lives = c.lives;
  completed = nobody (unit_left p unit kernel) c.none;
}

-- a process with another console or printer
none_left : (p : ℕ) (unit : Unit) (kernel : Kernel) → (unit_left p unit kernel).dispatcher.completed ≡ kernel.dispatcher.completed
unfolding unit_left
none_left p unit kernel = refl

none_console_changed : (p console : ℕ) (kernel : Kernel) → (console_changed p console kernel).dispatcher.completed ≡ kernel.dispatcher.completed
unfolding console_changed
none_console_changed p console kernel =
    either (λ (k : Kernel). k.dispatcher.completed ≡ kernel.dispatcher.completed) ((process_in kernel.dispatcher.procs p).console == console) _ _ (λ _. refl) (λ _. none_left p _ kernel)

none_printer_changed : (p printer : ℕ) (kernel : Kernel) → (printer_changed p printer kernel).dispatcher.completed ≡ kernel.dispatcher.completed
unfolding printer_changed
none_printer_changed p printer kernel =
    either (λ (k : Kernel). k.dispatcher.completed ≡ kernel.dispatcher.completed) ((process_in kernel.dispatcher.procs p).printer == printer) _ _ (λ _. refl) (λ _. none_left p _ kernel)

may_of : (p : ℕ) (kernel : Kernel) → Calls p kernel → MayCall p kernel
may_of p kernel c = record { sound = c.sound; lives = c.lives; ready = c.ready }

stays_console_set : (call : Taken) (p : ℕ) (kernel : Kernel) → Calls p kernel → StaysSound p (console_set call p kernel)
unfolding console_set
stays_console_set call p kernel c =
    let console = low_parameter call in
    called_if p (nat_lt console (length kernel.units.consoles)) _ _
    (λ fits.
    let below : console < length kernel.units.consoles = grind (arith, nat_tests, fits) in
    let m = may_console_changed kernel p console (may_of p kernel c) below in
    let afterwards = console_changed p console kernel in
    stays_attached p (ConsoleUnit console) afterwards (record { sound = m.sound; lives = m.lives; ready = m.ready; none = none_console_changed p console kernel ∙ c.none })
    (omega (arith, consoles_changed kernel p console, below)))
    (λ _. same p failure_code kernel c)

stays_printer_set : (call : Taken) (p : ℕ) (kernel : Kernel) → Calls p kernel → StaysSound p (printer_set call p kernel)
unfolding printer_set
stays_printer_set call p kernel c =
    let printer = low_parameter call in
    called_if p (nat_lt printer (length kernel.units.printers)) _ _
    (λ fits.
    let below : printer < length kernel.units.printers = grind (arith, nat_tests, fits) in
    let m = may_printer_changed kernel p printer (may_of p kernel c) below in
    let afterwards = printer_changed p printer kernel in
    stays_attached p (PrinterUnit printer) afterwards (record { sound = m.sound; lives = m.lives; ready = m.ready; none = none_printer_changed p printer kernel ∙ c.none })
    (omega (arith, printers_changed kernel p printer, below)))
    (λ _. same p failure_code kernel c)

-- a console is assigned
pub sound_made : (heir : Option ℕ) (kernel : Kernel) (units : Consoles) → IsSoundKernel (record kernel { dispatcher = made_ready heir kernel.dispatcher; units = units })
    → IsSoundKernel (dispatched (made_ready heir) (record kernel { units = units }))
sound_made heir kernel units s = s

owner_by : (own waiting : Bool) (console to : ℕ) (kernel : Kernel) → IsSoundKernel kernel → Lives kernel.dispatcher.procs to → console < length kernel.units.consoles
    → owns kernel.units to (ConsoleUnit console) ≡ own → waits_for kernel.units to (ConsoleUnit console) ≡ waiting
    → IsSoundKernel (dispatched (made_ready (if waiting then Some to else None)) (record kernel { units = if own then kernel.units else given (if waiting then unlisted kernel.units to else kernel.units) (ConsoleUnit console) (Some to) }))
unfolding lists_ready
owner_by true true console to kernel s h has own there =
    absurd (false≢true (sym ((s.units.waited (ConsoleUnit console) has).others to (owner_is _ to own)) ∙ there))
owner_by true false console to kernel s h has own there = s
owner_by false true console to kernel s h has own there =
    sound_made (Some to) kernel _ (sound_passed kernel _ (Some to) s (passed_waiter kernel.units (ConsoleUnit console) (ConsoleUnit console) to s.units has there))
owner_by false false console to kernel s h has own absent =
    let a = quiet_given kernel (ConsoleUnit console) to s has h (for_absent kernel.units (ConsoleUnit console) to absent) in
    sound_units kernel _ s a.are a.fewer

pub sound_owner_made : (console to : ℕ) (kernel : Kernel) → IsSoundKernel kernel → Lives kernel.dispatcher.procs to → console < length kernel.units.consoles
    → IsSoundKernel (owner_made console to kernel)
unfolding owner_made console_assigned
sound_owner_made console to kernel s h has =
    owner_by (owns kernel.units to (ConsoleUnit console)) (waits_for kernel.units to (ConsoleUnit console)) console to kernel s h has refl refl

stays_assigned_to : (o : Option ℕ) (console : ℕ) (own_only : Bool) (p : ℕ) (kernel : Kernel) → Calls p kernel → ((q : ℕ) → o ≡ Some q → Lives kernel.dispatcher.procs q)
    → console < length kernel.units.consoles → StaysSound p (assigned_to o console own_only kernel)
unfolding assigned_to owner_made
stays_assigned_to None console own_only p kernel c live below = same p failure_code kernel c
stays_assigned_to (Some to) console own_only p kernel c live below =
    let afterwards = owner_made console to kernel in
    let fit = c.sound.fit to (live to refl) in
    let many = many_assigned kernel.units console to in
    let process = record (process_in kernel.dispatcher.procs to) { console = console } in
    called_if p (is_meant console own_only (process_in kernel.dispatcher.procs to)) _ _
    (λ _. record {
      sound = sound_changed afterwards to process (sound_owner_made console to kernel c.sound (live to refl) below) (live to refl)
          (fit_kept kernel.units afterwards.units process many.consoles many.printers (record { console = below; printer = fit.printer; some = fit.some; few = fit.few }))
          (λ q. c.sound.inside to q (live to refl));
      lives = lives_changed afterwards.dispatcher.procs to p process ∙ c.lives;
      completed = nobody (with_changed afterwards to process) c.none;
    })
    (λ _. same p failure_code kernel c)

stays_assigned : (call : Taken) (p : ℕ) (kernel : Kernel) → Calls p kernel → StaysSound p (assigned call p kernel)
unfolding assigned
stays_assigned call p kernel c =
    let console = byte_in call 0 in
    called_if p (nat_lt console (length kernel.units.consoles) && may_attach kernel.units p (ConsoleUnit console)) _ _
    (λ may.
    let fits = (and_parts (nat_lt console (length kernel.units.consoles)) _ may).0 in
    stays_assigned_to (named kernel.dispatcher.procs (name_at call 1)) console (byte_in call 9 == 255) p kernel c
    (λ q is. (and_parts (lives kernel.dispatcher.procs q) _ (lowest_passes (is_called kernel.dispatcher.procs (name_at call 1)) q is).0).0)
    (grind (arith, nat_tests, fits)))
    (λ _. same p failure_code kernel c)

-- the calls together
stays_printer_called : (call : Taken) (p : ℕ) (kernel : Kernel) → Calls p kernel → StaysSound p (printer_called call p kernel)
unfolding printer_called
stays_printer_called call p kernel c =
    let own = PrinterUnit (process_in kernel.dispatcher.procs p).printer in
    called_if p (length kernel.units.printers == 0) _ _ (λ _. same p failure_code kernel c)
    (λ some.
    let has : HasUnit kernel.units own = has_own_printer kernel p c.sound c.lives (grind (arith, nat_tests, some)) in
    by_rows (StaysSound p) call p (process_in kernel.dispatcher.procs p) kernel printer_rows (
      λ _. stays_attached p own kernel c has,
      (
        λ _. stays_detached p own kernel c has,
        (
          λ _. stays_printer_set call p kernel c,
          (
            λ _. stays_attached_now p own kernel c has,
            tt,
          ),
        ),
      ),
    )
    (same p _ kernel c))

pub stays_unit_called : (call : Taken) (p : ℕ) (kernel : Kernel) → Calls p kernel → StaysSound p (unit_called call p kernel)
unfolding unit_called
stays_unit_called call p kernel c =
    let own = ConsoleUnit (process_in kernel.dispatcher.procs p).console in
    let has : HasUnit kernel.units own = has_own_console kernel p c.sound c.lives in
    by_rows (StaysSound p) call p (process_in kernel.dispatcher.procs p) kernel unit_rows (
      λ _. stays_attached p own kernel c has,
      (
        λ _. stays_detached p own kernel c has,
        (
          λ _. stays_console_set call p kernel c,
          (
            λ _. stays_assigned call p kernel c,
            (
              λ _. same p _ kernel c,
              (
                λ _. stays_attached_now p own kernel c has,
                (
                  λ _. same p _ kernel c,
                  (
                    λ _. stays_printer_called call p kernel c,
                    tt,
                  ),
                ),
              ),
            ),
          ),
        ),
      ),
    )
    (same p _ kernel c)
