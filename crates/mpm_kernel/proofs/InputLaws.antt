-- What the calls that read from a console and write to it need.
use Rattle.std.proofs.Common.{◌≡◌, ◌∙◌, ℕ, ◌<◌, Bool, true, false, not, ◌||◌, ◌==◌, if◌then◌else◌, List, length, Option, Some, None, refl, sym, ap, subst, arith}
use Rattle.std.proofs.lemmas.Bool.{false≢true}
use Rattle.std.proofs.lemmas.List.{length-set}
use Rattle.mpm_base.proofs.Choices.{either}
use Rattle.mpm_base.specs.Calls.{Taken}
use Rattle.mpm_procs.specs.Table.{lives, Lives, process_in, call_of}
use Rattle.mpm_procs.proofs.MapLaws.{lives_changed, call_after}
use Rattle.mpm_consoles.specs.Console.{is_owner, with_raw, without_first}
use Rattle.mpm_consoles.specs.Consoles.{Consoles, console_at, HasUnit, owner_of, owns}
use Rattle.mpm_consoles.specs.Handling.{listed, attaches, may_attach, attach_from, unit_attached, raw_set, first_taken}
use Rattle.mpm_base.specs.declared.unit.Unit.{Unit}
use Rattle.mpm_base.specs.declared.unit.Unit.TheVariants.{Console as ConsoleUnit}
use Rattle.mpm_kernel.specs.Kernel.{Kernel, UsesConsole}
use Rattle.mpm_kernel.specs.Columns.{spoke}
use Rattle.mpm_kernel.specs.Consoling.{attaching, echoed}
use Rattle.mpm_kernel.specs.ConsoleInput.{raw_if, key_joined}
use Rattle.mpm_kernel.proofs.UnitWaits.{is_own, owner_given, owner_kept, consoles_given}

-- there are as many consoles as before, and who attached one owns it
consoles_listed : (t : Consoles) (p priority : ℕ) (unit : Unit) → length (listed t p priority unit).consoles ≡ length t.consoles
unfolding listed
consoles_listed t p priority unit = refl

consoles_from : (o : Option ℕ) (t : Consoles) (p priority : ℕ) (unit : Unit) (wait : Bool) → length (attach_from o t p priority unit wait).consoles ≡ length t.consoles
consoles_from None t p priority unit wait = consoles_given t unit (Some p)
consoles_from (Some owner) t p priority unit wait =
    either (λ (new : Consoles). length new.consoles ≡ length t.consoles) (owner == p || not wait) _ _ (λ _. refl) (λ _. consoles_listed t p priority unit)

pub consoles_attached : (t : Consoles) (p priority : ℕ) (unit : Unit) (wait : Bool) → length (unit_attached t p priority unit wait).consoles ≡ length t.consoles
unfolding unit_attached
consoles_attached t p priority unit wait = consoles_from (owner_of t unit) t p priority unit wait

pub has_attached : (kernel : Kernel) (p n : ℕ) (unit : Unit) (wait : Bool) → n < length kernel.units.consoles
    → n < length (attaching p unit wait kernel).units.consoles
has_attached kernel p n unit wait has = omega (arith, consoles_attached kernel.units p (process_in kernel.dispatcher.procs p).priority unit wait, has)

owned_if : (b c : Bool) (t x : Consoles) (p : ℕ) (unit : Unit) → b ≡ true → owns t p unit ≡ true → owns (if b || c then t else x) p unit ≡ true
owned_if true c t x p unit is own = own
owned_if false c t x p unit is own = absurd (false≢true is)

owns_from : (o : Option ℕ) (t : Consoles) (p priority : ℕ) (unit : Unit) (wait : Bool) → HasUnit t unit → owner_of t unit ≡ o → attaches o p ≡ true
    → owns (attach_from o t p priority unit wait) p unit ≡ true
owns_from None t p priority unit wait has is may = is_own _ p (owner_given t unit (Some p) has)
owns_from (Some owner) t p priority unit wait has is may =
    owned_if (owner == p) (not wait) t (listed t p priority unit) p unit may (ap (λ o. is_owner o p) is ∙ may)

pub owns_attached : (kernel : Kernel) (p : ℕ) (unit : Unit) (wait : Bool) → HasUnit kernel.units unit → may_attach kernel.units p unit ≡ true
    → owns (attaching p unit wait kernel).units p unit ≡ true
unfolding may_attach unit_attached
owns_attached kernel p unit wait has may =
    owns_from (owner_of kernel.units unit) kernel.units p (process_in kernel.dispatcher.procs p).priority unit wait has refl may

-- and after it was made raw, or not
has_raw_if : (b raw : Bool) (t : Consoles) (n k : ℕ) → k < length t.consoles → k < length (if b then raw_set t n raw else t).consoles
unfolding raw_set
has_raw_if true raw t n k has = omega (arith, length-set t.consoles n (with_raw raw (console_at t n)), has)
has_raw_if false raw t n k has = has

pub has_raw : (kernel : Kernel) (b raw : Bool) (n k : ℕ) → k < length kernel.units.consoles → k < length (raw_if b n raw kernel).units.consoles
has_raw kernel b raw n k has = has_raw_if b raw kernel.units n k has

owns_raw_if : (b raw : Bool) (t : Consoles) (p n : ℕ) (unit : Unit) → n < length t.consoles → owns t p unit ≡ true → owns (if b then raw_set t n raw else t) p unit ≡ true
unfolding raw_set with_raw
owns_raw_if true raw t p n unit has own = ap (λ o. is_owner o p) (owner_kept t n (with_raw raw (console_at t n)) unit has refl) ∙ own
owns_raw_if false raw t p n unit has own = own

pub owns_raw : (kernel : Kernel) (b raw : Bool) (p n : ℕ) (unit : Unit) → n < length kernel.units.consoles → owns kernel.units p unit ≡ true
    → owns (raw_if b n raw kernel).units p unit ≡ true
owns_raw kernel b raw p n unit has own = owns_raw_if b raw kernel.units p n unit has own

-- and so does who uses it
pub uses_made_raw : (kernel new : Kernel) (p n : ℕ) (b raw : Bool) → new ≡ raw_if b n raw kernel → UsesConsole p n kernel → UsesConsole p n new
uses_made_raw kernel new p n b raw is uses =
    subst (UsesConsole p n) (sym is)
    (record { lives = uses.lives; has = has_raw kernel b raw n n uses.has; owner = owns_raw kernel b raw p n (ConsoleUnit n) uses.has uses.owner })

-- and after a key was taken
pub has_after_take : (t new : Consoles) (n : ℕ) → new ≡ first_taken t n → n < length t.consoles → n < length new.consoles
unfolding first_taken
has_after_take t new n is has = omega (arith, ap (λ (u : Consoles). length u.consoles) is, length-set t.consoles n (without_first (console_at t n)), has)

-- the same of a kernel that is equal
pub has_then_attached : (kernel new : Kernel) (p n : ℕ) (unit : Unit) (wait : Bool) → new ≡ attaching p unit wait kernel → n < length kernel.units.consoles
    → n < length new.units.consoles
has_then_attached kernel new p n unit wait is has =
    omega (arith, ap (λ (k : Kernel). length k.units.consoles) is, has_attached kernel p n unit wait has)

pub owns_then_attached : (kernel new : Kernel) (p : ℕ) (unit : Unit) (wait b : Bool) → new ≡ attaching p unit wait kernel → HasUnit kernel.units unit
    → b ≡ may_attach kernel.units p unit → b ≡ true → owns new.units p unit ≡ true
owns_then_attached kernel new p unit wait b same has is may =
    ap (λ (k : Kernel). owns k.units p unit) same ∙ owns_attached kernel p unit wait has (sym is ∙ may)

pub uses_then_attached : (kernel new : Kernel) (p n : ℕ) (wait b : Bool) → new ≡ attaching p (ConsoleUnit n) wait kernel → Lives kernel.dispatcher.procs p
    → n < length kernel.units.consoles → b ≡ may_attach kernel.units p (ConsoleUnit n) → b ≡ true → UsesConsole p n new
uses_then_attached kernel new p n wait b same living has is may = record {
  lives = ap (λ (k : Kernel). lives k.dispatcher.procs p) same ∙ living;
  has = has_then_attached kernel new p n (ConsoleUnit n) wait same has;
  owner = owns_then_attached kernel new p (ConsoleUnit n) wait b same has is may;
}

-- what the kernel writes by itself changes no process
pub procs_echoed : (console : ℕ) (bytes : List ℕ) (kernel : Kernel) → (echoed console bytes kernel).dispatcher.procs ≡ kernel.dispatcher.procs
unfolding echoed spoke
procs_echoed console bytes kernel = refl

pub lives_echoed : (console : ℕ) (bytes : List ℕ) (kernel : Kernel) (p : ℕ) → Lives kernel.dispatcher.procs p → Lives (echoed console bytes kernel).dispatcher.procs p
lives_echoed console bytes kernel p h = ap (λ procs. lives procs p) (procs_echoed console bytes kernel) ∙ h

-- a line that goes on leaves the call of its process
pub call_joined : (call : Taken) (p console key : ℕ) (kernel : Kernel) → call_of (key_joined call p console key kernel).dispatcher.procs p ≡ call_of kernel.dispatcher.procs p
unfolding key_joined
call_joined call p console key kernel =
    ap (λ procs. call_of procs p) (procs_echoed console _ _) ∙ call_after kernel.dispatcher.procs p p _

pub lives_joined : (call : Taken) (p console key : ℕ) (kernel : Kernel) → Lives kernel.dispatcher.procs p → Lives (key_joined call p console key kernel).dispatcher.procs p
unfolding key_joined
lives_joined call p console key kernel h =
    lives_echoed console _ _ p (lives_changed kernel.dispatcher.procs p p _ ∙ h)
