-- A process that gets another console or printer.
use Rattle.std.proofs.Common.{◌≡◌, ◌∙◌, ℕ, ◌<◌, ◌==◌, Some, length, refl, sym, ap, subst, arith}
use Rattle.mpm_base.proofs.Choices.{either}
use Rattle.mpm_procs.specs.Table.{lives, Lives, process_in}
use Rattle.mpm_procs.specs.declared.process.Process.{Process}
use Rattle.mpm_procs.proofs.MapLaws.{lives_changed}
use Rattle.mpm_queues.specs.Queues.{Queues}
use Rattle.mpm_consoles.specs.Consoles.{HasUnit}
use Rattle.mpm_base.specs.declared.unit.Unit.{Unit}
use Rattle.mpm_base.specs.declared.unit.Unit.TheVariants.{Console as ConsoleUnit, Printer as PrinterUnit}
use Rattle.mpm_kernel.specs.Kernel.{Kernel, IsOfTwo, IsFit, MayCall, MayUseUnit, with_changed}
use Rattle.mpm_kernel.specs.Consoling.{unit_left, console_changed, printer_changed}
use Rattle.mpm_kernel.proofs.Soundness.{fit_kept, sound_changed}
use Rattle.mpm_kernel.proofs.UnitLaws.{has_own_console, has_own_printer}
use Rattle.mpm_kernel.proofs.UnitCounts.{many_left}
use Rattle.mpm_kernel.proofs.Passing.{sound_unit_left, ready_unit_left}

process_left : (p : ℕ) (unit : Unit) (kernel : Kernel) → (unit_left p unit kernel).dispatcher.procs ≡ kernel.dispatcher.procs
unfolding unit_left
process_left p unit kernel = refl

-- whoever leaves a unit leaves the queues as they are
pub queues_left : (p : ℕ) (unit : Unit) (kernel : Kernel) → (unit_left p unit kernel).queues ≡ kernel.queues
unfolding unit_left
queues_left p unit kernel = refl

-- a process leaves a unit, and is another one
left_and_changed : (p : ℕ) (unit : Unit) (process : Process) (kernel : Kernel) → MayCall p kernel → HasUnit kernel.units unit
    → IsFit kernel.units process → ((q : ℕ) → process.procedure ≡ Some q → IsOfTwo kernel.queues q)
    → MayCall p (with_changed (unit_left p unit kernel) p process)
left_and_changed p unit process kernel m has fit two =
    let P : ℕ → Queues → Type 0 = λ q queues. IsOfTwo queues q in
    let afterwards = unit_left p unit kernel in
    let many = many_left p unit kernel in
    let here : Lives afterwards.dispatcher.procs p = ap (λ procs. lives procs p) (process_left p unit kernel) ∙ m.lives in
    record {
      sound = sound_changed afterwards p process (sound_unit_left kernel p unit m.sound has) here
          (fit_kept kernel.units afterwards.units process many.consoles many.printers fit)
          (λ q is. subst (P q) (sym (queues_left p unit kernel)) (two q is));
      lives = lives_changed afterwards.dispatcher.procs p p process ∙ here;
      ready = ready_unit_left kernel p p unit m.sound has m.ready;
    }

pub may_console_changed : (kernel : Kernel) (p console : ℕ) → MayCall p kernel → console < length kernel.units.consoles → MayCall p (console_changed p console kernel)
unfolding console_changed
may_console_changed kernel p console m below =
    let process = process_in kernel.dispatcher.procs p in
    let fit = m.sound.fit p m.lives in
    either (MayCall p) (process.console == console) _ _ (λ _. m) (λ _.
    left_and_changed p (ConsoleUnit process.console) _ kernel m (has_own_console kernel p m.sound m.lives)
    (record { console = below; printer = fit.printer; some = fit.some; few = fit.few }) (λ q. m.sound.inside p q m.lives))

pub may_printer_changed : (kernel : Kernel) (p printer : ℕ) → MayCall p kernel → printer < length kernel.units.printers → MayCall p (printer_changed p printer kernel)
unfolding printer_changed
may_printer_changed kernel p printer m below =
    let process = process_in kernel.dispatcher.procs p in
    let fit = m.sound.fit p m.lives in
    either (MayCall p) (process.printer == printer) _ _ (λ _. m) (λ _.
    left_and_changed p (PrinterUnit process.printer) _ kernel m (has_own_printer kernel p m.sound m.lives (omega (arith, below)))
    (record { console = fit.console; printer = λ _. below; some = fit.some; few = fit.few }) (λ q. m.sound.inside p q m.lives))

pub consoles_changed : (kernel : Kernel) (p console : ℕ) → length (console_changed p console kernel).units.consoles ≡ length kernel.units.consoles
unfolding console_changed
consoles_changed kernel p console =
    either (λ (k : Kernel). length k.units.consoles ≡ length kernel.units.consoles) ((process_in kernel.dispatcher.procs p).console == console) _ _ (λ _. refl) (λ _. (many_left p _ kernel).consoles)

pub printers_changed : (kernel : Kernel) (p printer : ℕ) → length (printer_changed p printer kernel).units.printers ≡ length kernel.units.printers
unfolding printer_changed
printers_changed kernel p printer =
    either (λ (k : Kernel). length k.units.printers ≡ length kernel.units.printers) ((process_in kernel.dispatcher.procs p).printer == printer) _ _ (λ _. refl) (λ _. (many_left p _ kernel).printers)

pub has_console_changed : (kernel : Kernel) (p console : ℕ) → console < length kernel.units.consoles → console < length (console_changed p console kernel).units.consoles
has_console_changed kernel p console below = omega (arith, consoles_changed kernel p console, below)

pub has_printer_changed : (kernel : Kernel) (p printer : ℕ) → printer < length kernel.units.printers → printer < length (printer_changed p printer kernel).units.printers
has_printer_changed kernel p printer below = omega (arith, printers_changed kernel p printer, below)

-- and may use it
pub uses_console_changed : (kernel : Kernel) (p console : ℕ) → MayCall p kernel → console < length kernel.units.consoles → MayUseUnit p (ConsoleUnit console) (console_changed p console kernel)
uses_console_changed kernel p console m below =
    let may = may_console_changed kernel p console m below in
    record { sound = may.sound; lives = may.lives; ready = may.ready; there = has_console_changed kernel p console below }

pub uses_printer_changed : (kernel : Kernel) (p printer : ℕ) → MayCall p kernel → printer < length kernel.units.printers → MayUseUnit p (PrinterUnit printer) (printer_changed p printer kernel)
uses_printer_changed kernel p printer m below =
    let may = may_printer_changed kernel p printer m below in
    record { sound = may.sound; lives = may.lives; ready = may.ready; there = has_printer_changed kernel p printer below }
