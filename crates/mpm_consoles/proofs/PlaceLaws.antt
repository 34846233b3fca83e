-- The places where a process stands: for how many units it waits, and at how many gates.
use Rattle.std.proofs.Common.{◌≡◌, ◌≢◌, ◌∙◌, ℕ, ◌+◌, ◌<◌, Bool, true, false, ◌&&◌, List, [], ◌∷◌, Option, Some, None, is_some, map, refl, sym, ap, subst, arith}
use Rattle.std.specs.Prelude.{count_by}
use Rattle.std.specs.Option.{option_map_or}
use Rattle.std.proofs.lemmas.Bool.{false≢true, ne_eqb, eqb-true, and_right}
use Rattle.std.proofs.lemmas.List.Sums.{sum_by-set}
use Rattle.mpm_base.proofs.CountLaws.{one_if, one_if_false, count_cons}
use Rattle.mpm_ready.specs.Order.{Member}
use Rattle.mpm_ready.specs.Tables.{list_of, removed, dequeued}
use Rattle.mpm_ready.proofs.TableLaws.{list_of_inserted, list_of_inserted_other, list_of_removed, list_of_removed_other}
use Rattle.mpm_base.proofs.Choices.{either}
use Rattle.mpm_consoles.specs.Console.{Console, new_console, is_owner, without_wait_of}
use Rattle.mpm_base.specs.Units.{place_of}
use Rattle.mpm_consoles.specs.Consoles.{Consoles, console_at, HasConsole, HasUnit, waits, WaitsForNoUnit, is_gate_waiter, gate_waits, with_console, AreSoundConsoles}
use Rattle.mpm_consoles.specs.Handling.{unlisted, listed, units_without_waiter}
use Rattle.mpm_base.specs.declared.unit.Unit.{Unit}
use Rattle.mpm_consoles.proofs.SoundLaws.{place_below}

-- for how many units a process waits: at most for one
pub waits_nowhere : (t : Consoles) (p : ℕ) → WaitsForNoUnit t p → waits t p ≡ 0
unfolding waits
waits_nowhere t p none = ap (λ (o : Option ℕ). option_map_or (λ _. 1) o 0) none

waits_somewhere : (t : Consoles) (p list : ℕ) → list_of t.waiters p ≡ Some list → waits t p ≡ 1
unfolding waits
waits_somewhere t p list is = ap (λ (o : Option ℕ). option_map_or (λ _. 1) o 0) is

-- the same waiters
pub waits_same : (t new : Consoles) (p : ℕ) → new.waiters ≡ t.waiters → waits new p ≡ waits t p
unfolding waits
waits_same t new p same = ap (λ (ls : List (List Member)). option_map_or (λ _. 1) (list_of ls p) 0) same

-- a process waits, and waits no more
pub waits_listed : (t : Consoles) (p priority : ℕ) (unit : Unit) → AreSoundConsoles t → HasUnit t unit → p < 32 → WaitsForNoUnit t p → waits (listed t p priority unit) p ≡ 1
unfolding listed
waits_listed t p priority unit sound has small nowhere =
    waits_somewhere (listed t p priority unit) p (place_of unit)
    (list_of_inserted t.waiters (place_of unit) (record { slot = p; priority = priority }) sound.table (let low = place_below t unit sound has in omega arith) small nowhere)

pub waits_listed_other : (t : Consoles) (p priority : ℕ) (unit : Unit) (r : ℕ) → AreSoundConsoles t → HasUnit t unit → p < 32 → WaitsForNoUnit t p → r ≢ p → waits (listed t p priority unit) r ≡ waits t r
unfolding listed waits
waits_listed_other t p priority unit r sound has small nowhere apart =
    ap (λ (o : Option ℕ). option_map_or (λ _. 1) o 0)
    (list_of_inserted_other t.waiters (place_of unit) (record { slot = p; priority = priority }) r sound.table (let low = place_below t unit sound has in omega arith) small nowhere (ne_eqb p r (λ same. apart (sym same))))

pub waits_dequeued : (o : Option ℕ) (t new : Consoles) (p : ℕ) → new.waiters ≡ dequeued o t.waiters → o ≡ Some p → waits new p ≡ 0
waits_dequeued None t new p is gone = absurd (cc)
waits_dequeued (Some q) t new p is gone =
    let same : q ≡ p = cc in
    waits_nowhere new p (ap (λ (ls : List (List Member)). list_of ls p) is ∙ subst (λ k. list_of (removed t.waiters q) k ≡ None) same (list_of_removed t.waiters q))

pub waits_dequeued_other : (o : Option ℕ) (t new : Consoles) (r : ℕ) → AreSoundConsoles t → new.waiters ≡ dequeued o t.waiters → o ≢ Some r → waits new r ≡ waits t r
unfolding waits
waits_dequeued_other None t new r sound is apart = waits_same t new r is
waits_dequeued_other (Some q) t new r sound is apart =
    ap (λ (o : Option ℕ). option_map_or (λ _. 1) o 0)
    (ap (λ (ls : List (List Member)). list_of ls r) is ∙ list_of_removed_other t.waiters q r sound.table (ne_eqb q r (λ same. apart (ap (λ (k : ℕ). Some k) same))))

-- a unit has one owner at most
pub owner_is : (owner : Option ℕ) (p : ℕ) → is_owner owner p ≡ true → owner ≡ Some p
owner_is None p is = absurd (false≢true is)
owner_is (Some q) p is = ap (λ (k : ℕ). Some k) (eqb-true q p is)

pub waiters_without : (t : Consoles) (p : ℕ) → (units_without_waiter t p).waiters ≡ dequeued (Some p) t.waiters
unfolding units_without_waiter unlisted
waiters_without t p = refl

-- at how many gates a process waits, where one console changes
pub gate_waits_console : (t : Consoles) (n : ℕ) (console : Console) (r : ℕ) → HasConsole t n → gate_waits (with_console t n console) r + one_if (is_gate_waiter (console_at t n) r) ≡ gate_waits t r + one_if (is_gate_waiter console r)
unfolding gate_waits
gate_waits_console t n console r has = sum_by-set (λ c. one_if (is_gate_waiter c r)) t.consoles n console new_console has

-- a change of the waiters or of the printers
pub gate_waits_unlisted : (t : Consoles) (p r : ℕ) → gate_waits (unlisted t p) r ≡ gate_waits t r
unfolding gate_waits unlisted
gate_waits_unlisted t p r = refl

pub gate_waits_listed : (t : Consoles) (p priority : ℕ) (unit : Unit) (r : ℕ) → gate_waits (listed t p priority unit) r ≡ gate_waits t r
unfolding gate_waits listed
gate_waits_listed t p priority unit r = refl

-- a process leaves
without_wait_own : (console : Console) (p : ℕ) → is_gate_waiter (without_wait_of p console) p ≡ false
unfolding without_wait_of
without_wait_own console p =
    either (λ (c : Console). is_gate_waiter c p ≡ false) (is_owner console.owner p) _ _ (λ own. and_right (is_owner console.owner p) false refl)
    (λ other. ap (λ (b : Bool). b && is_some console.awaits) other)

without_wait_other : (console : Console) (p r : ℕ) → r ≢ p → is_gate_waiter (without_wait_of p console) r ≡ is_gate_waiter console r
unfolding without_wait_of
without_wait_other console p r apart =
    either (λ (c : Console). is_gate_waiter c r ≡ is_gate_waiter console r) (is_owner console.owner p) _ _
    (λ own.
    let mine = owner_is console.owner p own in
    let not_mine : is_owner console.owner r ≡ false = ap (λ (o : Option ℕ). is_owner o r) mine ∙ ne_eqb p r (λ same. apart (sym same)) in
    ap (λ (b : Bool). b && false) not_mine ∙ sym (ap (λ (b : Bool). b && is_some console.awaits) not_mine))
    (λ _. refl)

count_without_own : (consoles : List Console) (p : ℕ) → count_by (λ c. is_gate_waiter c p) (map (without_wait_of p) consoles) ≡ 0
count_without_own [] p = refl
count_without_own (c ∷ consoles) p =
    omega (arith, count_cons (λ c. is_gate_waiter c p) (without_wait_of p c) (map (without_wait_of p) consoles), one_if_false _ (without_wait_own c p), count_without_own consoles p)

count_without_other : (consoles : List Console) (p r : ℕ) → r ≢ p → count_by (λ c. is_gate_waiter c r) (map (without_wait_of p) consoles) ≡ count_by (λ c. is_gate_waiter c r) consoles
count_without_other [] p r apart = refl
count_without_other (c ∷ consoles) p r apart =
    omega (arith, count_cons (λ c. is_gate_waiter c r) (without_wait_of p c) (map (without_wait_of p) consoles), count_cons (λ c. is_gate_waiter c r) c consoles, ap one_if (without_wait_other c p r apart), count_without_other consoles p r apart)

pub gate_waits_without : (t : Consoles) (p : ℕ) → gate_waits (units_without_waiter t p) p ≡ 0
unfolding gate_waits units_without_waiter unlisted
gate_waits_without t p = count_without_own t.consoles p

pub gate_waits_without_other : (t : Consoles) (p r : ℕ) → r ≢ p → gate_waits (units_without_waiter t p) r ≡ gate_waits t r
unfolding gate_waits units_without_waiter unlisted
gate_waits_without_other t p r apart = count_without_other t.consoles p r apart
