-- What stays so as a process leaves its consoles and printers, one after the other.
use Rattle.std.proofs.Common.{◌≡◌, ◌∙◌, ℕ, zero, suc, ◌+◌, ◌<◌, ◌≤◌, false, length, inl, inr, refl, sym, ap, subst, arith}
use Rattle.std.proofs.lemmas.Bool.{cases_eq}
use Rattle.mpm_consoles.specs.Consoles.{Consoles, HasUnit, owns}
use Rattle.mpm_consoles.specs.Handling.{unit_detached}
use Rattle.mpm_base.specs.declared.unit.Unit.{Unit}
use Rattle.mpm_base.specs.declared.unit.Unit.TheVariants.{Console as ConsoleUnit, Printer as PrinterUnit}
use Rattle.mpm_kernel.specs.Kernel.{Kernel, places, IsSoundKernel}
use Rattle.mpm_kernel.specs.Consoling.{unit_left}
use Rattle.mpm_kernel.specs.Ending.{consoles_left, printers_left, units_left}
use Rattle.mpm_kernel.proofs.UnitCounts.{many_detached}
use Rattle.mpm_kernel.proofs.Passing.{sound_unit_left, nowhere_unit_left, kept_false, now_false}

-- a process leaves units, one after the other
pub record HasLeft (p : ℕ) (kernel new : Kernel) : Type 0 where
  pub sound : IsSoundKernel new
  pub procs : new.dispatcher.procs ≡ kernel.dispatcher.procs
  pub consoles : length new.units.consoles ≡ length kernel.units.consoles
  pub printers : length new.units.printers ≡ length kernel.units.printers
  pub queues : new.queues ≡ kernel.queues
  pub completed : new.dispatcher.completed ≡ kernel.dispatcher.completed
  pub nowhere : places kernel p ≡ 0 → places new p ≡ 0
  pub kept : (unit : Unit) → owns kernel.units p unit ≡ false → owns new.units p unit ≡ false

has_left_none : (p : ℕ) (kernel : Kernel) → IsSoundKernel kernel → HasLeft p kernel kernel
has_left_none p kernel s = record { sound = s; procs = refl; consoles = refl; printers = refl; queues = refl; completed = refl; nowhere = λ none. none; kept = λ unit not. not }

has_left_one : (p : ℕ) (kernel now : Kernel) (unit : Unit) → HasLeft p kernel now → HasUnit now.units unit → HasLeft p kernel (unit_left p unit now)
unfolding unit_left
has_left_one p kernel now unit l has = record {
  sound = sound_unit_left now p unit l.sound has;
  procs = l.procs;
  consoles = (many_detached now.units p unit).consoles ∙ l.consoles;
  printers = (many_detached now.units p unit).printers ∙ l.printers;
  queues = l.queues;
  completed = l.completed;
  nowhere = λ none. nowhere_unit_left now p unit l.sound has (l.nowhere none);
  kept = λ other not. kept_false now.units p unit other l.sound.units has (l.kept other not);
}

units_of_left : (p : ℕ) (unit : Unit) (kernel : Kernel) → (unit_left p unit kernel).units ≡ unit_detached kernel.units p unit
unfolding unit_left
units_of_left p unit kernel = refl

left_consoles : (p n : ℕ) (kernel : Kernel) → IsSoundKernel kernel → n ≤ length kernel.units.consoles → HasLeft p kernel (consoles_left p n kernel)
unfolding consoles_left
left_consoles p zero kernel s few = has_left_none p kernel s
left_consoles p (suc n) kernel s few =
    let l = left_consoles p n kernel s (omega arith) in
    has_left_one p kernel (consoles_left p n kernel) (ConsoleUnit n) l (omega (arith, l.consoles, few))

none_of_consoles : (p n k : ℕ) (kernel : Kernel) → IsSoundKernel kernel → n ≤ length kernel.units.consoles → k < n → owns (consoles_left p n kernel).units p (ConsoleUnit k) ≡ false
unfolding consoles_left
none_of_consoles p zero k kernel s few below = absurd (omega (arith, below))
none_of_consoles p (suc n) k kernel s few below =
    let l = left_consoles p n kernel s (omega arith) in
    let before = consoles_left p n kernel in
    let has : HasUnit before.units (ConsoleUnit n) = omega (arith, l.consoles, few) in
    let P : Consoles → Type 0 = λ t. owns t p (ConsoleUnit k) ≡ false in
    subst P (sym (units_of_left p (ConsoleUnit n) before)) (elim (cases_eq k n) [
      | inl same ↦ ap (λ j. owns (unit_detached before.units p (ConsoleUnit n)) p (ConsoleUnit j)) same ∙ now_false before.units p (ConsoleUnit n) l.sound.units has
      | inr other ↦ kept_false before.units p (ConsoleUnit n) (ConsoleUnit k) l.sound.units has (none_of_consoles p n k kernel s (omega arith) (omega arith))
    ])

left_printers : (p n : ℕ) (kernel : Kernel) → IsSoundKernel kernel → n ≤ length kernel.units.printers → HasLeft p kernel (printers_left p n kernel)
unfolding printers_left
left_printers p zero kernel s few = has_left_none p kernel s
left_printers p (suc n) kernel s few =
    let l = left_printers p n kernel s (omega arith) in
    has_left_one p kernel (printers_left p n kernel) (PrinterUnit n) l (omega (arith, l.printers, few))

none_of_printers : (p n k : ℕ) (kernel : Kernel) → IsSoundKernel kernel → n ≤ length kernel.units.printers → k < n → owns (printers_left p n kernel).units p (PrinterUnit k) ≡ false
unfolding printers_left
none_of_printers p zero k kernel s few below = absurd (omega (arith, below))
none_of_printers p (suc n) k kernel s few below =
    let l = left_printers p n kernel s (omega arith) in
    let before = printers_left p n kernel in
    let has : HasUnit before.units (PrinterUnit n) = omega (arith, l.printers, few) in
    let P : Consoles → Type 0 = λ t. owns t p (PrinterUnit k) ≡ false in
    subst P (sym (units_of_left p (PrinterUnit n) before)) (elim (cases_eq k n) [
      | inl same ↦ ap (λ j. owns (unit_detached before.units p (PrinterUnit n)) p (PrinterUnit j)) same ∙ now_false before.units p (PrinterUnit n) l.sound.units has
      | inr other ↦ kept_false before.units p (PrinterUnit n) (PrinterUnit k) l.sound.units has (none_of_printers p n k kernel s (omega arith) (omega arith))
    ])

-- the same, for the walk over them
pub consoles_none : (p : ℕ) (kernel : Kernel) → consoles_left p 0 kernel ≡ kernel
unfolding consoles_left
consoles_none p kernel = refl

pub consoles_more : (p n : ℕ) (kernel : Kernel) → consoles_left p (n + 1) kernel ≡ unit_left p (ConsoleUnit n) (consoles_left p n kernel)
unfolding consoles_left
consoles_more p n kernel = ap (λ m. consoles_left p m kernel) (let next : n + 1 ≡ suc n = omega arith in next)

pub printers_none : (p : ℕ) (kernel : Kernel) → printers_left p 0 kernel ≡ kernel
unfolding printers_left
printers_none p kernel = refl

pub printers_more : (p n : ℕ) (kernel : Kernel) → printers_left p (n + 1) kernel ≡ unit_left p (PrinterUnit n) (printers_left p n kernel)
unfolding printers_left
printers_more p n kernel = ap (λ m. printers_left p m kernel) (let next : n + 1 ≡ suc n = omega arith in next)

pub has_next_console : (p n : ℕ) (kernel now : Kernel) → IsSoundKernel kernel → now ≡ consoles_left p n kernel → n < length kernel.units.consoles → n < length now.units.consoles
has_next_console p n kernel now s is below =
    let l = left_consoles p n kernel s (omega (arith, below)) in
    omega (arith, ap (λ (k : Kernel). length k.units.consoles) is, l.consoles, below)

pub has_next_printer : (p n : ℕ) (kernel now : Kernel) → IsSoundKernel kernel → now ≡ printers_left p n kernel → n < length kernel.units.printers → n < length now.units.printers
has_next_printer p n kernel now s is below =
    let l = left_printers p n kernel s (omega (arith, below)) in
    omega (arith, ap (λ (k : Kernel). length k.units.printers) is, l.printers, below)

pub sound_consoles_left : (p n : ℕ) (kernel : Kernel) → IsSoundKernel kernel → n ≤ length kernel.units.consoles → IsSoundKernel (consoles_left p n kernel)
sound_consoles_left p n kernel s few = (left_consoles p n kernel s few).sound

pub sound_printers_left : (p n : ℕ) (kernel : Kernel) → IsSoundKernel kernel → n ≤ length kernel.units.printers → IsSoundKernel (printers_left p n kernel)
sound_printers_left p n kernel s few = (left_printers p n kernel s few).sound

-- a process leaves all
left_all : (p : ℕ) (kernel : Kernel) → IsSoundKernel kernel → HasLeft p (consoles_left p (length kernel.units.consoles) kernel) (units_left p kernel)
unfolding units_left
left_all p kernel s =
    let afterwards = consoles_left p (length kernel.units.consoles) kernel in left_printers p (length afterwards.units.printers) afterwards (left_consoles p (length kernel.units.consoles) kernel s (omega arith)).sound (omega arith)

pub left_units : (p : ℕ) (kernel : Kernel) → IsSoundKernel kernel → HasLeft p kernel (units_left p kernel)
left_units p kernel s =
    let first = left_consoles p (length kernel.units.consoles) kernel s (omega arith) in
    let then_all = left_all p kernel s in
    record {
      sound = then_all.sound;
      procs = then_all.procs ∙ first.procs;
      consoles = then_all.consoles ∙ first.consoles;
      printers = then_all.printers ∙ first.printers;
      queues = then_all.queues ∙ first.queues;
      completed = then_all.completed ∙ first.completed;
      nowhere = λ none. then_all.nowhere (first.nowhere none);
      kept = λ unit not. then_all.kept unit (first.kept unit not);
    }

-- who owns no unit
abbrev pub OwnsNothing : Consoles → ℕ → Type 0
OwnsNothing units p = (unit : Unit) → HasUnit units unit → owns units p unit ≡ false

no_printers : (p n : ℕ) (kernel : Kernel) → IsSoundKernel kernel → n < length (units_left p kernel).units.printers → owns (units_left p kernel).units p (PrinterUnit n) ≡ false
unfolding units_left
no_printers p n kernel s below =
    let afterwards = consoles_left p (length kernel.units.consoles) kernel in
    let first = left_consoles p (length kernel.units.consoles) kernel s (omega arith) in
    let all = left_printers p (length afterwards.units.printers) afterwards first.sound (omega arith) in
    none_of_printers p (length afterwards.units.printers) n afterwards first.sound (omega arith) (omega (arith, below, all.printers))

pub owns_none : (p : ℕ) (kernel : Kernel) → IsSoundKernel kernel → OwnsNothing (units_left p kernel).units p
owns_none p kernel s (ConsoleUnit n) has =
    let first = left_consoles p (length kernel.units.consoles) kernel s (omega arith) in
    let all = left_all p kernel s in
    all.kept (ConsoleUnit n) (none_of_consoles p (length kernel.units.consoles) n kernel s (omega arith) (omega (arith, has, all.consoles, first.consoles)))
owns_none p kernel s (PrinterUnit n) has =
    no_printers p n kernel s has

-- as many are there after each
pub count_consoles_left : (p n : ℕ) (kernel : Kernel) → IsSoundKernel kernel → n ≤ length kernel.units.consoles → length (consoles_left p n kernel).units.consoles ≡ length kernel.units.consoles
count_consoles_left p n kernel s few = (left_consoles p n kernel s few).consoles

pub count_printers_left : (p n : ℕ) (kernel : Kernel) → IsSoundKernel kernel → n ≤ length kernel.units.printers → length (printers_left p n kernel).units.printers ≡ length kernel.units.printers
count_printers_left p n kernel s few = (left_printers p n kernel s few).printers
