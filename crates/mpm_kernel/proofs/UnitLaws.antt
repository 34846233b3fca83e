-- What the calls on consoles and printers need of a sound kernel.
use Rattle.std.proofs.Common.{◌≡◌, ◌∙◌, ℕ, ◌<◌, Bool, true, false, not, ◌||◌, ◌==◌, if◌then◌else◌, List, [], ◌∷◌, drop, length, set, Option, Some, None, refl, sym, ap, subst, arith}
use Rattle.std.specs.Bool.{OnTrue}
use Rattle.std.specs.Prelude.{IfSome, slice_get}
use Rattle.std.proofs.lemmas.Bool.{false≢true}
use Rattle.std.proofs.lemmas.List.{set-get_or}
use Rattle.mpm_base.proofs.Choices.{either}
use Rattle.mpm_procs.specs.Table.{Table, Lives, process_in}
use Rattle.mpm_consoles.specs.Console.{new_console, first_key, without_first, is_for, woken, has_room}
use Rattle.mpm_consoles.specs.Consoles.{Consoles, console_at, HasUnit, owner_of, owns, waiters_of, first_waiter, waits_for, WaitsForNoUnit}
use Rattle.mpm_consoles.specs.Handling.{attaches, may_attach, attach_from, unit_attached, heir_of, first_taken, subject, abort_answer, pass_answer, wake_answer, typed_answer, answer_by, key_answer}
use Rattle.mpm_consoles.specs.Keys.{control_of}
use Rattle.mpm_consoles.specs.declared.console.Awaited.TheVariants.{Key, Output}
use Rattle.mpm_consoles.specs.declared.keys.Control.{Control}
use Rattle.mpm_consoles.specs.declared.keys.Control.TheVariants.{Stop, Resume, Abort, Detach}
use Rattle.mpm_consoles.specs.declared.keys.KeyDone.{KeyDone}
use Rattle.mpm_consoles.specs.declared.keys.KeyDone.TheVariants.{Stored, Dropped, Nothing}
use Rattle.mpm_base.specs.declared.unit.Unit.{Unit}
use Rattle.mpm_base.specs.declared.unit.Unit.TheVariants.{Console as ConsoleUnit}
use Rattle.mpm_dispatcher.specs.Dispatch.{ready, IsReady}
use Rattle.mpm_kernel.specs.Kernel.{Kernel, IsSoundKernel, IsConsole}
use Rattle.mpm_kernel.specs.Consoling.{IfLives, KeyNames}
use Rattle.mpm_kernel.proofs.PlaceLaws.{in_some}
use Rattle.mpm_kernel.proofs.UnitWaits.{nowhere_waits, waits_one, is_own}
use Rattle.mpm_ready.proofs.OrderLaws.{first_is_in}

-- the units that there are
pub has_first_console : (kernel : Kernel) → IsSoundKernel kernel → 0 < length kernel.units.consoles
has_first_console kernel s = s.units.some

pub has_own_console : (kernel : Kernel) (p : ℕ) → IsSoundKernel kernel → Lives kernel.dispatcher.procs p → (process_in kernel.dispatcher.procs p).console < length kernel.units.consoles
has_own_console kernel p s h = (s.fit p h).console

pub has_own_printer : (kernel : Kernel) (p : ℕ) → IsSoundKernel kernel → Lives kernel.dispatcher.procs p → 0 < length kernel.units.printers
    → (process_in kernel.dispatcher.procs p).printer < length kernel.units.printers
has_own_printer kernel p s h some = (s.fit p h).printer some

-- who is ready waits for no unit
pub waits_at_no_unit : (kernel : Kernel) (p : ℕ) → IsSoundKernel kernel → IsReady kernel.dispatcher p → WaitsForNoUnit kernel.units p
waits_at_no_unit kernel p s is_ready = nowhere_waits kernel.units p (omega (arith, in_some _ ready is_ready, s.once p))

pub waits_at_none : (kernel : Kernel) (p : ℕ) (wait : Bool) → IsSoundKernel kernel → IsReady kernel.dispatcher p → OnTrue wait (WaitsForNoUnit kernel.units p)
waits_at_none kernel p true s is_ready = waits_at_no_unit kernel p s is_ready
waits_at_none kernel p false s is_ready = tt

-- who waits for a unit lives, and so does who owns one
pub waiter_lives : (kernel : Kernel) (unit : Unit) (p : ℕ) → IsSoundKernel kernel → waits_for kernel.units p unit ≡ true → Lives kernel.dispatcher.procs p
waiter_lives kernel unit p s there = s.live p (omega (arith, waits_one kernel.units p unit s.units there))

pub owner_lives : (kernel : Kernel) (unit : Unit) (p : ℕ) → IsSoundKernel kernel → HasUnit kernel.units unit → owner_of kernel.units unit ≡ Some p → Lives kernel.dispatcher.procs p
owner_lives kernel unit p s has is = s.owners unit p has (is_own (owner_of kernel.units unit) p is)

lives_if : (procs : Table) (o : Option ℕ) → ((p : ℕ) → o ≡ Some p → Lives procs p) → IfLives procs o
lives_if procs None h = tt
lives_if procs (Some p) h = h p refl

pub owner_fits : (kernel : Kernel) (n : ℕ) (owner : Option ℕ) → IsSoundKernel kernel → n < length kernel.units.consoles → owner ≡ owner_of kernel.units (ConsoleUnit n)
    → IfSome owner (λ p. Lives kernel.dispatcher.procs p)
owner_fits kernel n owner s below is =
    lives_if kernel.dispatcher.procs owner (λ p here. owner_lives kernel (ConsoleUnit n) p s below (sym is ∙ here))

first_lives : (kernel : Kernel) (unit : Unit) → IsSoundKernel kernel → IfLives kernel.dispatcher.procs (first_waiter kernel.units unit)
first_lives kernel unit s =
    lives_if kernel.dispatcher.procs (first_waiter kernel.units unit) (λ p is. waiter_lives kernel unit p s (first_is_in (waiters_of kernel.units unit) p is))

only_if : (procs : Table) (b : Bool) (o : Option ℕ) → IfLives procs o → IfLives procs (if b then o else None)
only_if procs true o h = h
only_if procs false o h = tt

pub heir_lives : (kernel : Kernel) (p : ℕ) (unit : Unit) (heir : Option ℕ) → IsSoundKernel kernel → heir ≡ heir_of kernel.units p unit
    → IfSome heir (λ q. Lives kernel.dispatcher.procs q)
unfolding heir_of
heir_lives kernel p unit heir s is =
    let P : Option ℕ → Type 0 = λ o. IfLives kernel.dispatcher.procs o in
    subst P (sym is) (only_if kernel.dispatcher.procs (owns kernel.units p unit) (first_waiter kernel.units unit) (first_lives kernel unit s))

-- where a unit can't be attached, and isn't waited for, nothing changes
refused_from : (o : Option ℕ) (t : Consoles) (p priority : ℕ) (unit : Unit) → attaches o p ≡ false → attach_from o t p priority unit false ≡ t
refused_from None t p priority unit refused = absurd (false≢true (sym refused))
refused_from (Some owner) t p priority unit refused =
    either (λ (new : Consoles). new ≡ t) (owner == p || not false) _ _ (λ _. refl) (λ apart. absurd (false≢true (sym apart ∙ or_true (owner == p))))
  where
    or_true : (b : Bool) → (b || true) ≡ true
    or_true true = refl
    or_true false = refl

pub attach_refused : (t : Consoles) (p priority : ℕ) (unit : Unit) → may_attach t p unit ≡ false → unit_attached t p priority unit false ≡ t
unfolding may_attach unit_attached
attach_refused t p priority unit refused = refused_from (owner_of t unit) t p priority unit refused

-- the processes that a key names live
names_wake : (procs : Table) (other : KeyDone) (o : Option ℕ) → KeyNames procs other → IfLives procs o → KeyNames procs (wake_answer other o)
names_wake procs other None names h = names
names_wake procs other (Some p) names h = h

names_either : (procs : Table) (b : Bool) → KeyNames procs (if b then Stored else Dropped)
names_either procs true = tt
names_either procs false = tt

owner_of_console : (kernel : Kernel) (n : ℕ) → IsSoundKernel kernel → IsConsole kernel n → IfLives kernel.dispatcher.procs (console_at kernel.units n).owner
owner_of_console kernel n s has = lives_if kernel.dispatcher.procs (console_at kernel.units n).owner (λ p is. owner_lives kernel (ConsoleUnit n) p s has is)

names_typed : (kernel : Kernel) (n : ℕ) → IsSoundKernel kernel → IsConsole kernel n → KeyNames kernel.dispatcher.procs (typed_answer (console_at kernel.units n))
unfolding typed_answer woken
names_typed kernel n s has =
    names_wake kernel.dispatcher.procs _ _ (names_either kernel.dispatcher.procs (has_room (console_at kernel.units n)))
    (only_if kernel.dispatcher.procs (is_for (console_at kernel.units n).awaits Key) (console_at kernel.units n).owner (owner_of_console kernel n s has))

names_resumed : (kernel : Kernel) (n : ℕ) → IsSoundKernel kernel → IsConsole kernel n
    → KeyNames kernel.dispatcher.procs (wake_answer Nothing (woken Output (console_at kernel.units n)))
unfolding woken
names_resumed kernel n s has =
    names_wake kernel.dispatcher.procs Nothing _ tt (only_if kernel.dispatcher.procs (is_for (console_at kernel.units n).awaits Output) (console_at kernel.units n).owner (owner_of_console kernel n s has))

subject_lives : (procs : Table) (resident : Bool) (owner : Option ℕ) → IfLives procs owner → IfLives procs (subject resident owner)
subject_lives procs true owner h = tt
subject_lives procs false owner h = h

names_abort : (procs : Table) (o : Option ℕ) → IfLives procs o → KeyNames procs (abort_answer o)
names_abort procs None h = tt
names_abort procs (Some p) h = h

names_pass : (kernel : Kernel) (n : ℕ) (o : Option ℕ) → IsSoundKernel kernel → IfLives kernel.dispatcher.procs o → KeyNames kernel.dispatcher.procs (pass_answer o kernel.units n)
names_pass kernel n None s h = tt
names_pass kernel n (Some p) s h = (h, first_lives kernel (ConsoleUnit n) s)

names_by : (kernel : Kernel) (control : Option Control) (n : ℕ) (resident : Bool) → IsSoundKernel kernel → IsConsole kernel n
    → KeyNames kernel.dispatcher.procs (answer_by control kernel.units n resident)
names_by kernel None n resident s has = names_typed kernel n s has
names_by kernel (Some Stop) n resident s has = tt
names_by kernel (Some Resume) n resident s has = names_resumed kernel n s has
names_by kernel (Some Abort) n resident s has = names_abort kernel.dispatcher.procs _ (subject_lives kernel.dispatcher.procs resident _ (owner_of_console kernel n s has))
names_by kernel (Some Detach) n resident s has = names_pass kernel n _ s (subject_lives kernel.dispatcher.procs resident _ (owner_of_console kernel n s has))

pub key_names : (kernel : Kernel) (n byte : ℕ) (resident : Bool) (key : KeyDone) → IsSoundKernel kernel → IsConsole kernel n
    → key ≡ key_answer kernel.units n byte resident → KeyNames kernel.dispatcher.procs key
unfolding key_answer
key_names kernel n byte resident key s has is =
    let P : KeyDone → Type 0 = λ k. KeyNames kernel.dispatcher.procs k in
    subst P (sym is) (names_by kernel (control_of (console_at kernel.units n).raw byte) n resident s has)

-- where no key is there, taking one changes nothing
none_left : (keys : List ℕ) → None ≡ slice_get keys 0 → drop 1 keys ≡ keys
none_left [] e = refl
none_left (key ∷ keys) e = absurd (cc)

pub nothing_taken : (t : Consoles) (n : ℕ) → None ≡ first_key (console_at t n) → first_taken t n ≡ t
unfolding first_taken without_first
nothing_taken t n none =
    let console = console_at t n in
    let same : record console { keys = drop 1 console.keys } ≡ console = ap (λ keys. record console { keys = keys }) (none_left console.keys none) in
    ap (λ c. record t { consoles = set t.consoles n c }) same ∙ ap (λ cs. record t { consoles = cs }) (set-get_or t.consoles n new_console)
