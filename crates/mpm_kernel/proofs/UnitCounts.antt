-- There are as many consoles and printers after each call as before.
use Rattle.std.proofs.Common.{◌≡◌, ◌∙◌, ℕ, length, Option, Some, None, refl}
use Rattle.mpm_base.proofs.Choices.{either}
use Rattle.mpm_consoles.specs.Consoles.{Consoles, owns, waits_for, first_waiter}
use Rattle.mpm_consoles.specs.Handling.{given, unlisted, pass_to, passed, unit_detached, called_off, console_assigned}
use Rattle.mpm_base.specs.declared.unit.Unit.{Unit}
use Rattle.mpm_base.specs.declared.unit.Unit.TheVariants.{Console as ConsoleUnit}
use Rattle.mpm_kernel.specs.Kernel.{Kernel}
use Rattle.mpm_kernel.specs.Consoling.{unit_left}
use Rattle.mpm_kernel.proofs.UnitWaits.{consoles_given, printers_given}

pub record AsMany (before units : Consoles) : Type 0 where
  pub consoles : length units.consoles ≡ length before.consoles
  pub printers : length units.printers ≡ length before.printers

many_same : (t : Consoles) → AsMany t t
many_same t = record { consoles = refl; printers = refl }

many_both : (old middle new : Consoles) → AsMany old middle → AsMany middle new → AsMany old new
many_both old middle new a b = record { consoles = b.consoles ∙ a.consoles; printers = b.printers ∙ a.printers }

many_given : (t : Consoles) (unit : Unit) (owner : Option ℕ) → AsMany t (given t unit owner)
many_given t unit owner = record { consoles = consoles_given t unit owner; printers = printers_given t unit owner }

many_unlisted : (t : Consoles) (p : ℕ) → AsMany t (unlisted t p)
unfolding unlisted
many_unlisted t p = record { consoles = refl; printers = refl }

pub many_heir : (t : Consoles) (unit : Unit) (h : ℕ) → AsMany t (given (unlisted t h) unit (Some h))
many_heir t unit h = many_both t (unlisted t h) _ (many_unlisted t h) (many_given (unlisted t h) unit (Some h))

many_pass_to : (o : Option ℕ) (t : Consoles) (unit : Unit) → AsMany t (pass_to o t unit)
many_pass_to None t unit = many_given t unit None
many_pass_to (Some h) t unit = many_heir t unit h

pub many_passed : (t : Consoles) (unit : Unit) → AsMany t (passed t unit)
unfolding passed
many_passed t unit = many_pass_to (first_waiter t unit) t unit

pub many_detached : (t : Consoles) (p : ℕ) (unit : Unit) → AsMany t (unit_detached t p unit)
unfolding unit_detached
many_detached t p unit = either (AsMany t) (owns t p unit) _ _ (λ _. many_passed t unit) (λ _. many_same t)

many_called_off : (t : Consoles) (p : ℕ) (unit : Unit) → AsMany t (called_off t p unit)
many_called_off t p unit = either (AsMany t) (waits_for t p unit) _ _ (λ _. many_unlisted t p) (λ _. many_same t)

pub many_assigned : (t : Consoles) (n to : ℕ) → AsMany t (console_assigned t n to)
unfolding console_assigned
many_assigned t n to =
    let unit = ConsoleUnit n in
    let off = called_off t to unit in
    either (AsMany t) (owns t to unit) _ _ (λ _. many_same t)
    (λ _. many_both t off _ (many_called_off t to unit) (many_given off unit (Some to)))

pub many_left : (p : ℕ) (unit : Unit) (kernel : Kernel) → AsMany kernel.units (unit_left p unit kernel).units
unfolding unit_left
many_left p unit kernel = many_detached kernel.units p unit
