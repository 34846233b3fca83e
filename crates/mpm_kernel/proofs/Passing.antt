-- Consoles and printers that pass to the process that waits first, and what stays so.
use Rattle.std.proofs.Common.{◌≡◌, ◌≢◌, ◌∙◌, ℕ, ◌+◌, ◌<◌, ◌≤◌, Bool, true, false, ◌⊎◌, inl, inr, if◌then◌else◌, length, Option, Some, None, refl, sym, ap, subst, arith}
use Rattle.std.proofs.lemmas.Bool.{false≢true, cases_Bool, cases_eq}
use Rattle.mpm_ready.specs.Tables.{list_of}
use Rattle.mpm_ready.proofs.OrderLaws.{first_is_in}
use Rattle.mpm_procs.specs.Table.{Lives, process_in}
use Rattle.mpm_procs.proofs.MapLaws.{lives_below}
use Rattle.mpm_consoles.specs.Console.{is_owner}
use Rattle.mpm_consoles.specs.Consoles.{Consoles, HasUnit, owner_of, owns, waiters_of, first_waiter, waits_for, waits, gate_waits, AreSoundConsoles}
use Rattle.mpm_consoles.specs.Handling.{given, unlisted, pass_to, passed, unit_detached, heir_of}
use Rattle.mpm_base.specs.declared.unit.Unit.{Unit}
use Rattle.mpm_base.specs.declared.unit.Unit.TheVariants.{Console as ConsoleUnit, Printer as PrinterUnit}
use Rattle.mpm_consoles.proofs.SoundLaws.{sound_given, sound_unlisted, for_unlisted, nobody_first}
use Rattle.mpm_consoles.proofs.WaitLaws.{has_unlisted}
use Rattle.mpm_dispatcher.specs.Dispatch.{ready, IsReady, moved, lists_ready, made_ready}
use Rattle.mpm_kernel.specs.Kernel.{Kernel, in_lists, waits_at_units, places, IsSoundKernel, dispatched}
use Rattle.mpm_kernel.specs.Consoling.{unit_left}
use Rattle.mpm_kernel.proofs.PlaceLaws.{list_moved, list_moved_other}
use Rattle.mpm_consoles.proofs.PlaceLaws.{owner_is, gate_waits_unlisted}
use Rattle.mpm_kernel.proofs.UnitWaits.{waits_one, waits_unlisted, waits_unlisted_other, waits_given, gates_given, owner_given, owner_from_given, owner_unlisted, consoles_given, printers_given}
use Rattle.mpm_kernel.proofs.UnitCounts.{many_heir}
use Rattle.mpm_kernel.proofs.Soundness.{AreUnits, sound_units, sound_ready}

-- units after one of them came to an heir, or to nobody, and before
pub record HavePassed (t new : Consoles) (heir : Option ℕ) : Type 0 where
  pub sound : AreSoundConsoles new
  pub consoles : length new.consoles ≡ length t.consoles
  pub printers : length new.printers ≡ length t.printers
  pub owners : (other : Unit) (p : ℕ) → owns new p other ≡ true → (owns t p other ≡ true) ⊎ (heir ≡ Some p)
  pub waiters : (q : ℕ) → waits new q ≤ waits t q
  pub at_gates : (q : ℕ) → gate_waits new q ≤ gate_waits t q
  pub first : (h : ℕ) → heir ≡ Some h → waits_at_units new h + 1 ≤ waits_at_units t h

pub passed_same : (t : Consoles) → AreSoundConsoles t → HavePassed t t None
passed_same t sound = record {
  sound = sound;
  consoles = refl;
  printers = refl;
  owners = λ other p is. inl is;
  waiters = λ q. omega arith;
  at_gates = λ q. omega arith;
  first = λ h is. absurd (cc);
}

fewer_waits : (t : Consoles) (h q : ℕ) → AreSoundConsoles t → waits (unlisted t h) q ≤ waits t q
fewer_waits t h q sound = elim (cases_eq q h) [
  | inl same ↦ omega (arith, ap (waits (unlisted t h)) same, waits_unlisted t h)
  | inr other ↦ omega (arith, waits_unlisted_other t h q sound other)
]

-- a unit comes to a process that waits for a unit, and waits no more
pub passed_waiter : (t : Consoles) (unit at : Unit) (h : ℕ) → AreSoundConsoles t → HasUnit t unit → waits_for t h at ≡ true
    → HavePassed t (given (unlisted t h) unit (Some h)) (Some h)
passed_waiter t unit at h sound has there =
    let has_still = has_unlisted t h unit has in
    record {
      sound = sound_given (unlisted t h) unit (Some h) (sound_unlisted t h sound) has_still (for_unlisted t unit h);
      consoles = (many_heir t unit h).consoles;
      printers = (many_heir t unit h).printers;
      owners = λ other p is. elim (owner_from_given (unlisted t h) unit other (Some h) p has_still is) [
        | inl before ↦ inl (ap (λ o. is_owner o p) (sym (owner_unlisted t h other)) ∙ before)
        | inr new ↦ inr new
      ];
      waiters = λ q. omega (arith, waits_given (unlisted t h) unit (Some h) q, fewer_waits t h q sound);
      at_gates = λ q. omega (arith, gates_given (unlisted t h) unit (Some h) q has_still, gate_waits_unlisted t h q);
      first = λ k is.
          let same : k ≡ h = sym (cc) in
          let new = given (unlisted t h) unit (Some h) in
          let P : ℕ → Type 0 = λ j. waits_at_units new j + 1 ≤ waits_at_units t j in
          subst P (sym same) (omega (arith, waits_one t h at sound there, waits_given (unlisted t h) unit (Some h) h, waits_unlisted t h, gates_given (unlisted t h) unit (Some h) h has_still, gate_waits_unlisted t h h));
    }

-- a unit for which nobody waits comes to nobody
passed_nobody : (t : Consoles) (unit : Unit) → AreSoundConsoles t → HasUnit t unit → first_waiter t unit ≡ None → HavePassed t (given t unit None) None
passed_nobody t unit sound has none = record {
  sound = sound_given t unit None sound has (nobody_first t unit none);
  consoles = consoles_given t unit None;
  printers = printers_given t unit None;
  owners = λ other p is. owner_from_given t unit other None p has is;
  waiters = λ q. omega (arith, waits_given t unit None q);
  at_gates = λ q. gates_given t unit None q has;
  first = λ h is. absurd (cc);
}

passed_to_first : (o : Option ℕ) (t : Consoles) (unit : Unit) → AreSoundConsoles t → HasUnit t unit → first_waiter t unit ≡ o → HavePassed t (pass_to o t unit) o
passed_to_first None t unit sound has is = passed_nobody t unit sound has is
passed_to_first (Some h) t unit sound has is = passed_waiter t unit unit h sound has (first_is_in (waiters_of t unit) h is)

-- a unit passes on
pub passed_on : (t : Consoles) (unit : Unit) → AreSoundConsoles t → HasUnit t unit → HavePassed t (passed t unit) (first_waiter t unit)
unfolding passed
passed_on t unit sound has = passed_to_first (first_waiter t unit) t unit sound has refl

passed_if : (b : Bool) (t new : Consoles) (heir : Option ℕ) → AreSoundConsoles t → HavePassed t new heir
    → HavePassed t (if b then new else t) (if b then heir else None)
passed_if true t new heir sound are = are
passed_if false t new heir sound are = passed_same t sound

pub passed_detach : (t : Consoles) (p : ℕ) (unit : Unit) → AreSoundConsoles t → HasUnit t unit → HavePassed t (unit_detached t p unit) (heir_of t p unit)
unfolding unit_detached heir_of
passed_detach t p unit sound has = passed_if (owns t p unit) t (passed t unit) (first_waiter t unit) sound (passed_on t unit sound has)

-- the kernel after units passed: the heir is ready

has_then : (t new : Consoles) (heir : Option ℕ) (unit : Unit) → HavePassed t new heir → HasUnit new unit → HasUnit t unit
has_then t new heir (ConsoleUnit n) are has = omega (arith, are.consoles, has)
has_then t new heir (PrinterUnit n) are has = omega (arith, are.printers, has)

pub heir_lives : (kernel : Kernel) (units : Consoles) (heir : Option ℕ) (h : ℕ) → IsSoundKernel kernel → HavePassed kernel.units units heir → heir ≡ Some h → Lives kernel.dispatcher.procs h
heir_lives kernel units heir h s are is = s.live h (omega (arith, are.first h is))

pub units_passed : (kernel : Kernel) (units : Consoles) (heir : Option ℕ) → IsSoundKernel kernel → HavePassed kernel.units units heir
    → AreUnits kernel.units kernel.dispatcher.procs units
units_passed kernel units heir s are = record {
  sound = are.sound;
  consoles = are.consoles;
  printers = are.printers;
  owners = λ unit p has is. elim (are.owners unit p is) [
    | inl before ↦ s.owners unit p (has_then kernel.units units heir unit are has) before
    | inr new ↦ heir_lives kernel units heir p s are new
  ];
}

pub sound_passed : (kernel : Kernel) (units : Consoles) (heir : Option ℕ) → IsSoundKernel kernel → HavePassed kernel.units units heir
    → IsSoundKernel (record kernel { dispatcher = made_ready heir kernel.dispatcher; units = units })
unfolding lists_ready
sound_passed kernel units None s are =
    sound_units kernel units s (units_passed kernel units None s are) (λ q. omega (arith, are.waiters q, are.at_gates q))
sound_passed kernel units (Some h) s are =
    let afterwards = record kernel { units = units } in
    let sound : IsSoundKernel afterwards = sound_units kernel units s (units_passed kernel units (Some h) s are) (λ q. omega (arith, are.waiters q, are.at_gates q)) in
    let was = are.first h refl in
    sound_ready afterwards h sound (heir_lives kernel units (Some h) h s are refl) (omega (arith, s.once h, was))

-- who is ready stays so
pub ready_passed : (kernel : Kernel) (heir : Option ℕ) (p : ℕ) → IsSoundKernel kernel → ((h : ℕ) → heir ≡ Some h → Lives kernel.dispatcher.procs h) → IsReady kernel.dispatcher p
    → list_of (lists_ready heir kernel.dispatcher.procs kernel.dispatcher.lists) p ≡ Some ready
unfolding lists_ready
ready_passed kernel None p s live is_ready = is_ready
ready_passed kernel (Some h) p s live is_ready =
    let below : h < 32 = lives_below kernel.dispatcher.procs h s.slots (live h refl) in
    let priority = (process_in kernel.dispatcher.procs h).priority in
    elim (cases_eq p h) [
      | inl same ↦ ap (list_of (dispatched (moved ready h) kernel).dispatcher.lists) same ∙ list_moved kernel.dispatcher.lists ready h priority s.table (omega arith) below
      | inr other ↦ list_moved_other kernel.dispatcher.lists ready h priority p s.table (omega arith) below other ∙ is_ready
    ]

-- who stands nowhere and isn't the heir stands nowhere still
nowhere_passed : (kernel : Kernel) (units : Consoles) (heir : Option ℕ) (p : ℕ) → IsSoundKernel kernel → HavePassed kernel.units units heir
    → (heir ≡ Some p → ⊥) → places kernel p ≡ 0 → places (record kernel { dispatcher = made_ready heir kernel.dispatcher; units = units }) p ≡ 0
unfolding lists_ready
nowhere_passed kernel units None p s are other none = omega (arith, none, are.waiters p, are.at_gates p)
nowhere_passed kernel units (Some h) p s are other none =
    let below : h < 32 = lives_below kernel.dispatcher.procs h s.slots (heir_lives kernel units (Some h) h s are refl) in
    let apart : p ≢ h = λ same. other (ap Some (sym same)) in
    let there = list_moved_other kernel.dispatcher.lists ready h (process_in kernel.dispatcher.procs h).priority p s.table (omega arith) below apart in
    omega (arith, ap in_lists there, none, are.waiters p, are.at_gates p)

-- a process leaves a unit
pub sound_unit_left : (kernel : Kernel) (p : ℕ) (unit : Unit) → IsSoundKernel kernel → HasUnit kernel.units unit → IsSoundKernel (unit_left p unit kernel)
unfolding unit_left
sound_unit_left kernel p unit s has = sound_passed kernel _ _ s (passed_detach kernel.units p unit s.units has)

pub ready_unit_left : (kernel : Kernel) (p q : ℕ) (unit : Unit) → IsSoundKernel kernel → HasUnit kernel.units unit → IsReady kernel.dispatcher q → IsReady (unit_left p unit kernel).dispatcher q
unfolding unit_left
ready_unit_left kernel p q unit s has is_ready =
    ready_passed kernel _ q s (λ h is. heir_lives kernel _ _ h s (passed_detach kernel.units p unit s.units has) is) is_ready

-- nobody is his own heir
not_heir_if : (b : Bool) (t : Consoles) (p : ℕ) (unit : Unit) → AreSoundConsoles t → HasUnit t unit → owns t p unit ≡ b
    → (if b then first_waiter t unit else None) ≡ Some p → ⊥
not_heir_if true t p unit sound has own is =
    false≢true (sym ((sound.waited unit has).others p (owner_is (owner_of t unit) p own)) ∙ first_is_in (waiters_of t unit) p is)
not_heir_if false t p unit sound has own is = absurd (cc)

not_heir : (t : Consoles) (p : ℕ) (unit : Unit) → AreSoundConsoles t → HasUnit t unit → heir_of t p unit ≡ Some p → ⊥
unfolding heir_of
not_heir t p unit sound has is = not_heir_if (owns t p unit) t p unit sound has refl is

-- who left a unit doesn't own it, and gets no other
pub kept_false : (t : Consoles) (p : ℕ) (unit other : Unit) → AreSoundConsoles t → HasUnit t unit → owns t p other ≡ false
    → owns (unit_detached t p unit) p other ≡ false
kept_false t p unit other sound has not = elim (cases_Bool (owns (unit_detached t p unit) p other)) [
  | inl is ↦ elim ((passed_detach t p unit sound has).owners other p is) [
    | inl before ↦ absurd (false≢true (sym not ∙ before))
    | inr new ↦ absurd (not_heir t p unit sound has new)
  ]
  | inr is ↦ is
]

owner_passed_to : (o : Option ℕ) (t : Consoles) (unit : Unit) → HasUnit t unit → owner_of (pass_to o t unit) unit ≡ o
owner_passed_to None t unit has = owner_given t unit None has
owner_passed_to (Some h) t unit has = owner_given (unlisted t h) unit (Some h) (has_unlisted t h unit has)

now_false_if : (b : Bool) (t : Consoles) (p : ℕ) (unit : Unit) → AreSoundConsoles t → HasUnit t unit → owns t p unit ≡ b
    → owns (if b then passed t unit else t) p unit ≡ true → ⊥
unfolding passed
now_false_if true t p unit sound has own is =
    not_heir_if true t p unit sound has own (sym (owner_passed_to (first_waiter t unit) t unit has) ∙ owner_is _ p is)
now_false_if false t p unit sound has own is = false≢true (sym own ∙ is)

pub now_false : (t : Consoles) (p : ℕ) (unit : Unit) → AreSoundConsoles t → HasUnit t unit → owns (unit_detached t p unit) p unit ≡ false
unfolding unit_detached
now_false t p unit sound has = elim (cases_Bool (owns (unit_detached t p unit) p unit)) [
  | inl is ↦ absurd (now_false_if (owns t p unit) t p unit sound has refl is)
  | inr is ↦ is
]

-- who stands nowhere leaves a unit
pub nowhere_unit_left : (kernel : Kernel) (p : ℕ) (unit : Unit) → IsSoundKernel kernel → HasUnit kernel.units unit → places kernel p ≡ 0
    → places (unit_left p unit kernel) p ≡ 0
unfolding unit_left
nowhere_unit_left kernel p unit s has none =
    nowhere_passed kernel _ _ p s (passed_detach kernel.units p unit s.units has) (not_heir kernel.units p unit s.units has) none
