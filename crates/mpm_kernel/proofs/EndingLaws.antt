-- What stays so as a process ends: all that it gives back while it still lives and waits for nothing, and then its end.
use Rattle.std.proofs.Common.{◌≡◌, ◌≢◌, ◌∙◌, ℕ, suc, ◌+◌, ◌<◌, ◌≤◌, Bool, true, false, List, [], ◌∷◌, ◌++◌, length, if◌then◌else◌, Option, Some, None, inl, inr, refl, sym, ap, subst, arith, get_or-set_other}
use Rattle.std.specs.List.{AllByRecursion, range_with_len}
use Rattle.std.proofs.lemmas.Bool.{cases_eq, false≢true, both_ways}
use Rattle.std.proofs.lemmas.List.{length-append}
use Rattle.mpm_base.proofs.Choices.{either}
use Rattle.mpm_base.specs.Calls.{no_call}
use Rattle.mpm_ready.proofs.TableLaws.{table_removed, list_of_removed, list_of_removed_other}
use Rattle.mpm_clock.specs.Times.{clock_without_delay}
use Rattle.mpm_clock.proofs.DelayLaws.{delays_without_own, delays_without_other}
use Rattle.mpm_procs.specs.Table.{Table, lives, Lives, process_in, call_of, with_process, with_call, without}
use Rattle.mpm_procs.specs.declared.process.Process.{Process}
use Rattle.mpm_procs.proofs.MapLaws.{lives_below, lives_without, lives_without_other, process_without_other, slots_without}
use Rattle.mpm_queues.specs.Queue.{is_full}
use Rattle.mpm_queues.specs.Queues.{Queues, IsMade, is_made, queue_in, holds, waits}
use Rattle.mpm_queues.specs.Handling.{queues_without_waiter, first_reader, written_by, procs_after_write, write_outcome, woken_by}
use Rattle.mpm_queues.proofs.SoundLaws.{sound_queues_without, reader_waits}
use Rattle.mpm_queues.proofs.WaitLaws.{waits_without_waiter, waits_without_other, waits_one, write_ends_waiter, holds_made}
use Rattle.mpm_service.proofs.PlaceLaws.{at_without, at_without_other}
use Rattle.mpm_consoles.specs.Console.{is_owner}
use Rattle.mpm_consoles.specs.Consoles.{HasUnit, owns}
use Rattle.mpm_base.specs.declared.unit.Unit.{Unit}
use Rattle.mpm_consoles.specs.Handling.{units_without_waiter}
use Rattle.mpm_consoles.proofs.SoundLaws.{sound_units_without}
use Rattle.mpm_dispatcher.specs.Dispatch.{ready, IsReady, moved, lists_ready, also_completed, with_other}
use Rattle.mpm_kernel.specs.Kernel.{Kernel, in_lists, places, IsOfTwo, IsFit, IsSoundKernel, CompletedLive, dispatched}
use Rattle.mpm_kernel.specs.Called.{valued}
use Rattle.mpm_kernel.specs.Queueing.{given_to}
use Rattle.mpm_kernel.specs.Procedures.{writing, outside, given_back_to, given_back}
use Rattle.mpm_kernel.specs.Ending.{dropped_out, returned, all_returned, consoles_left, printers_left, units_left, relieved, vacated, discharged, IsLeaving}
use Rattle.mpm_kernel.proofs.PlaceLaws.{in_none, not_equal, list_moved_other, flags_without_own, flags_without_other, length_without_waiter}
use Rattle.mpm_kernel.proofs.Soundness.{AreUnits, fit_kept, listed_once, runs_other, sound_ready, sound_with_completed, MayBeReady}
use Rattle.mpm_kernel.proofs.UnitWaits.{units_without_own, units_without_other, length_units_without, printers_units_without, has_units_without, owner_units_without}
use Rattle.mpm_kernel.proofs.LeavingLaws.{OwnsNothing, left_units, owns_none}
use Rattle.mpm_kernel.proofs.Staying.{all_and_one}
use Rattle.mpm_kernel.proofs.QueueingLaws.{sound_given, write_waits, may_by_write, lives_written}
use Rattle.mpm_kernel.proofs.QueueCalls.{queues_with_other}
use Rattle.mpm_kernel.proofs.Beside.{StaysBeside, beside_same, beside_both, beside_other, beside_others_call, call_without_other, beside_gone}
use Rattle.mpm_kernel.proofs.HomeLaws.{SameHomes, homes_stay, homes_both, homes_vacated, kept_delivered_to, procs_with_other}
use Rattle.mpm_kernel.proofs.ProcedureLaws.{sound_outside, lives_outside, few_outside, others_outside, homes_given, homes_given_back}

-- a process stands nowhere any more, and the others where they stood
dropped_nowhere : (p : ℕ) (kernel : Kernel) → places (dropped_out p kernel) p ≡ 0
unfolding dropped_out clock_without_delay
dropped_nowhere p kernel =
    omega (arith, in_none _ (list_of_removed kernel.dispatcher.lists p), flags_without_own kernel.flags p, delays_without_own kernel.clock.delays p, waits_without_waiter kernel.queues p, units_without_own kernel.units p, at_without kernel.disk p)

dropped_elsewhere : (p q : ℕ) (kernel : Kernel) → IsSoundKernel kernel → q ≢ p → places (dropped_out p kernel) q ≡ places kernel q
unfolding dropped_out clock_without_delay
dropped_elsewhere p q kernel s other =
    let same = list_of_removed_other kernel.dispatcher.lists p q s.table (not_equal p q (λ e. other (sym e))) in
    omega (arith, ap in_lists same, flags_without_other kernel.flags p q other, delays_without_other kernel.clock.delays p q other, waits_without_other kernel.queues p q s.queues other, units_without_other kernel.units p q s.units other, at_without_other kernel.disk p q other)

made_without_waiter : (t : Queues) (p q : ℕ) → IsMade t q → IsMade (queues_without_waiter t p) q
unfolding queues_without_waiter
made_without_waiter t p q is = is

two_without_waiter : (t : Queues) (p q : ℕ) → IsOfTwo t q → IsOfTwo (queues_without_waiter t p) q
unfolding queues_without_waiter
two_without_waiter t p q two = two

procs_dropped : (p : ℕ) (kernel : Kernel) → (dropped_out p kernel).dispatcher.procs ≡ kernel.dispatcher.procs
unfolding dropped_out
procs_dropped p kernel = refl

units_dropped : (kernel : Kernel) (p : ℕ) → IsSoundKernel kernel → AreUnits kernel.units kernel.dispatcher.procs (units_without_waiter kernel.units p)
units_dropped kernel p s = record {
  sound = sound_units_without kernel.units p s.units;
  consoles = length_units_without kernel.units p;
  printers = printers_units_without kernel.units p;
  owners = λ unit q there is.
      s.owners unit q (has_units_without kernel.units p unit there) (sym (ap (λ o. is_owner o q) (owner_units_without kernel.units p unit)) ∙ is);
}

pub sound_dropped : (p : ℕ) (kernel : Kernel) → IsSoundKernel kernel → Lives kernel.dispatcher.procs p → IsSoundKernel (dropped_out p kernel)
unfolding dropped_out
sound_dropped p kernel s h = record {
  units = (units_dropped kernel p s).sound;
  owners = (units_dropped kernel p s).owners;
  slots = s.slots;
  table = table_removed kernel.dispatcher.lists p s.table;
  fit = λ q living. fit_kept kernel.units _ _ (length_units_without kernel.units p) (printers_units_without kernel.units p) (s.fit q living);
  flags = length_without_waiter kernel.flags p ∙ s.flags;
  queues = sound_queues_without kernel.queues p s.queues;
  system = λ q below. made_without_waiter kernel.queues p q (s.system q below);
  inside = λ r q living is. two_without_waiter kernel.queues p q (s.inside r q living is);
  once = λ q. elim (cases_eq q p) [
    | inl same ↦ omega (arith, ap (places (dropped_out p kernel)) same, dropped_nowhere p kernel)
    | inr other ↦ omega (arith, s.once q, dropped_elsewhere p q kernel s other)
  ];
  live = λ q some. elim (cases_eq q p) [
    | inl same ↦ ap (lives kernel.dispatcher.procs) same ∙ h
    | inr other ↦ s.live q (omega (arith, some, dropped_elsewhere p q kernel s other))
  ];
  runs = λ q e.
      let other : q ≢ p = (runs_other p q kernel.dispatcher.running e).0 in
      list_of_removed_other kernel.dispatcher.lists p q s.table (not_equal p q (λ e. other (sym e)))
      ∙ s.runs q (runs_other p q kernel.dispatcher.running e).1;
}

pub lives_dropped : (p q : ℕ) (kernel : Kernel) → Lives kernel.dispatcher.procs q → Lives (dropped_out p kernel).dispatcher.procs q
unfolding dropped_out
lives_dropped p q kernel h = h

-- what it has goes back
places_outside : (p q : ℕ) (kernel : Kernel) → places (outside p kernel) q ≡ places kernel q
unfolding outside
places_outside p q kernel = refl

leaves_outside : (p : ℕ) (kernel : Kernel) → IsSoundKernel kernel → Lives kernel.dispatcher.procs p → places kernel p ≡ 0 → IsLeaving p (outside p kernel)
leaves_outside p kernel s h none =
    record {
      sound = sound_outside p kernel s h;
      lives = lives_outside p p kernel h;
      nowhere = places_outside p p kernel ∙ none;
      others = others_outside p kernel;
    }

-- the held call of another one is completed
leaves_other : (other : Option ℕ) (p : ℕ) (kernel : Kernel) → IsLeaving p kernel → ((r : ℕ) → other ≡ Some r → MayBeReady kernel r × (r ≢ p))
    → IsLeaving p (dispatched (with_other other) kernel)
unfolding lists_ready also_completed
leaves_other None p kernel l may = l
leaves_other (Some r) p kernel l may =
    let one = may r refl in
    let below : r < 32 = lives_below kernel.dispatcher.procs r l.sound.slots one.0.0 in
    let apart : p ≢ r = λ same. one.1 (sym same) in
    record {
      sound = sound_with_completed (dispatched (moved ready r) kernel) (kernel.dispatcher.completed ++ r ∷ []) (sound_ready kernel r l.sound one.0.0 one.0.1);
      lives = l.lives;
      nowhere = omega (arith, ap in_lists (list_moved_other kernel.dispatcher.lists ready r (process_in kernel.dispatcher.procs r).priority p l.sound.table (omega arith) below apart), l.nowhere);
      others = all_and_one (λ q. Lives kernel.dispatcher.procs q × (q ≢ p)) kernel.dispatcher.completed r l.others (one.0.0, one.1);
    }

others_kept : (old new : Table) (p : ℕ) (ps : List ℕ) → ((q : ℕ) → lives new q ≡ lives old q) → AllByRecursion (λ q. Lives old q × (q ≢ p)) ps
    → AllByRecursion (λ q. Lives new q × (q ≢ p)) ps
others_kept old new p [] same all = tt
others_kept old new p (q ∷ ps) same all = ((same q ∙ all.0.0, all.0.1), others_kept old new p ps same all.1)

leaves_written : (p q : ℕ) (kernel : Kernel) → IsLeaving p kernel → IsMade kernel.queues q → IsLeaving p (given_to kernel p q)
leaves_written p q kernel l is =
    let t = kernel.queues in
    record {
      sound = sound_given kernel p q l.sound is;
      lives = lives_written t p q kernel.dispatcher.procs p ∙ l.lives;
      nowhere = omega (arith, l.nowhere, write_waits t p q kernel.dispatcher.procs p l.sound.queues);
      others = others_kept kernel.dispatcher.procs (procs_after_write t p q kernel.dispatcher.procs) p kernel.dispatcher.completed (λ k. lives_written t p q kernel.dispatcher.procs k) l.others;
    }

-- who waits to read from a queue is another one
waiter_apart : (p q r : ℕ) (kernel : Kernel) → IsLeaving p kernel → woken_by (write_outcome kernel.queues q) ≡ Some r → r ≢ p
waiter_apart p q r kernel l first = λ same.
    let t = kernel.queues in
    omega (arith, waits_one t q r l.sound.queues (write_ends_waiter t q r first), ap (waits t) same, l.nowhere)

leaves_given : (queue : Option ℕ) (p : ℕ) (kernel : Kernel) → IsLeaving p kernel → IsLeaving p (given_back_to queue p kernel)
unfolding given_back_to
leaves_given None p kernel l = l
leaves_given (Some q) p kernel l =
    either (IsLeaving p) (is_made kernel.queues q) _ _
    (λ is. leaves_other (woken_by (write_outcome kernel.queues q)) p (given_to kernel p q) (leaves_written p q kernel l is)
    (λ r first. (may_by_write kernel p q r l.sound first, waiter_apart p q r kernel l first)))
    (λ _. l)

pub leaves_given_back : (p : ℕ) (kernel : Kernel) → IsSoundKernel kernel → Lives kernel.dispatcher.procs p → IsLeaving p (given_back p (dropped_out p kernel))
unfolding given_back
leaves_given_back p kernel s h =
    let gone = dropped_out p kernel in
    leaves_given (process_in gone.dispatcher.procs p).procedure p (outside p gone)
    (leaves_outside p gone (sound_dropped p kernel s h) (lives_dropped p p kernel h) (dropped_nowhere p kernel))

pub held_made : (p q : ℕ) (kernel : Kernel) → IsLeaving p kernel → holds kernel.queues p q ≡ true → IsMade kernel.queues q
held_made p q kernel l held = holds_made kernel.queues p q l.sound.queues held

pub leaves_returned : (p q : ℕ) (kernel : Kernel) → IsLeaving p kernel → IsLeaving p (returned p q kernel)
unfolding returned
leaves_returned p q kernel l = either (IsLeaving p) (holds kernel.queues p q) _ _ (λ _. leaves_given (Some q) p kernel l) (λ _. l)

pub leaves_all_returned : (qs : List ℕ) (p : ℕ) (kernel : Kernel) → IsLeaving p kernel → IsLeaving p (all_returned qs p kernel)
unfolding all_returned
leaves_all_returned [] p kernel l = l
leaves_all_returned (q ∷ qs) p kernel l = leaves_all_returned qs p (returned p q kernel) (leaves_returned p q kernel l)

pub leaves_messages : (p : ℕ) (kernel : Kernel) → IsSoundKernel kernel → Lives kernel.dispatcher.procs p
    → IsLeaving p (all_returned (range_with_len 0 32) p (given_back p (dropped_out p kernel)))
leaves_messages p kernel s h = leaves_all_returned (range_with_len 0 32) p _ (leaves_given_back p kernel s h)

-- its consoles and printers pass on
completed_as : (p : ℕ) (old new : Kernel) → new.dispatcher.procs ≡ old.dispatcher.procs → new.dispatcher.completed ≡ old.dispatcher.completed
    → AllByRecursion (λ q. Lives old.dispatcher.procs q × (q ≢ p)) old.dispatcher.completed → AllByRecursion (λ q. Lives new.dispatcher.procs q × (q ≢ p)) new.dispatcher.completed
completed_as p old new same all_same all =
    let P : Table → Type 0 = λ procs. AllByRecursion (λ q. Lives procs q × (q ≢ p)) new.dispatcher.completed in
    let Q : List ℕ → Type 0 = λ ps. AllByRecursion (λ q. Lives old.dispatcher.procs q × (q ≢ p)) ps in
    subst P (sym same) (subst Q (sym all_same) all)

leaves_units_left : (p : ℕ) (kernel : Kernel) → IsLeaving p kernel → IsLeaving p (units_left p kernel)
leaves_units_left p kernel l =
    let left = left_units p kernel l.sound in
    record {
      sound = left.sound;
      lives = ap (λ procs. lives procs p) left.procs ∙ l.lives;
      nowhere = left.nowhere l.nowhere;
      others = completed_as p kernel (units_left p kernel) left.procs left.completed l.others;
    }

pub leaves_relieved : (p : ℕ) (kernel : Kernel) → IsSoundKernel kernel → Lives kernel.dispatcher.procs p → IsLeaving p (relieved p kernel)
unfolding relieved
leaves_relieved p kernel s h = leaves_units_left p _ (leaves_messages p kernel s h)

nothing_relieved : (p : ℕ) (kernel : Kernel) → IsSoundKernel kernel → Lives kernel.dispatcher.procs p → OwnsNothing (relieved p kernel).units p
unfolding relieved
nothing_relieved p kernel s h = owns_none p _ (leaves_messages p kernel s h).sound

-- how many calls are completed by that
pub few_other : (other : Option ℕ) (kernel : Kernel) → length (dispatched (with_other other) kernel).dispatcher.completed ≤ length kernel.dispatcher.completed + 1
unfolding lists_ready also_completed
few_other None kernel = omega arith
few_other (Some p) kernel = omega (arith, length-append kernel.dispatcher.completed (p ∷ []))

few_given : (queue : Option ℕ) (p : ℕ) (kernel : Kernel) → length (given_back_to queue p kernel).dispatcher.completed ≤ length kernel.dispatcher.completed + 1
unfolding given_back_to
few_given None p kernel = omega arith
few_given (Some q) p kernel =
    either (λ (k : Kernel). length k.dispatcher.completed ≤ length kernel.dispatcher.completed + 1) (is_made kernel.queues q) _ _
    (λ _. few_other (woken_by (write_outcome kernel.queues q)) (given_to kernel p q)) (λ _. omega arith)

pub few_given_back : (p : ℕ) (kernel : Kernel) → length (given_back p kernel).dispatcher.completed ≤ 2
unfolding given_back
few_given_back p kernel =
    omega (arith, few_given (process_in kernel.dispatcher.procs p).procedure p (outside p kernel), few_outside p kernel)

few_returned : (p q : ℕ) (kernel : Kernel) → length (returned p q kernel).dispatcher.completed ≤ length kernel.dispatcher.completed + 1
unfolding returned
few_returned p q kernel =
    either (λ (k : Kernel). length k.dispatcher.completed ≤ length kernel.dispatcher.completed + 1) (holds kernel.queues p q) _ _ (λ _. few_given (Some q) p kernel) (λ _. omega arith)

-- the queues so far: what is left of all
pub record ReturnedSo (p : ℕ) (start now : Kernel) (q : ℕ) : Type 0 where
  pub kernel : (rest : ℕ) → q + rest ≡ 32 → all_returned (range_with_len 0 32) p start ≡ all_returned (range_with_len q rest) p now
  pub leaves : IsLeaving p now
  pub few : length now.dispatcher.completed ≤ 2 + q

all_of : (rest : ℕ) → 0 + rest ≡ 32 → 32 ≡ rest
all_of rest all = omega (arith, all)

pub returned_nothing : (p : ℕ) (start : Kernel) → IsLeaving p start → length start.dispatcher.completed ≤ 2 → ReturnedSo p start start 0
returned_nothing p start l few = record {
  kernel = λ rest all. ap (λ (n : ℕ). all_returned (range_with_len 0 n) p start) (all_of rest all);
  leaves = l;
  few = omega (arith, few);
}

one_returned : (q : ℕ) (qs : List ℕ) (p : ℕ) (kernel : Kernel) → all_returned (q ∷ qs) p kernel ≡ all_returned qs p (returned p q kernel)
unfolding all_returned
one_returned q qs p kernel = refl

pub returned_more : (p : ℕ) (start now next : Kernel) (q : ℕ) → ReturnedSo p start now q → next ≡ returned p q now → ReturnedSo p start next (q + 1)
returned_more p start now next q so is = record {
  kernel = λ rest all.
      so.kernel (suc rest) (omega (arith, all)) ∙ one_returned q (range_with_len (q + 1) rest) p now
      ∙ ap (λ (kernel : Kernel). all_returned (range_with_len (q + 1) rest) p kernel) (sym is);
  leaves = subst (IsLeaving p) (sym is) (leaves_returned p q now so.leaves);
  few = omega (arith, ap (λ (kernel : Kernel). length kernel.dispatcher.completed) is, few_returned p q now, so.few);
}

pub returned_by : (p q : ℕ) (b : Bool) (now next : Kernel) → b ≡ holds now.queues p q → next ≡ (if b then given_back_to (Some q) p now else now) → next ≡ returned p q now
unfolding returned
returned_by p q b now next same is = is ∙ ap (λ b. if b then given_back_to (Some q) p now else now) same

none_returned : (p : ℕ) (kernel : Kernel) → all_returned [] p kernel ≡ kernel
unfolding all_returned
none_returned p kernel = refl

pub returned_all : (p : ℕ) (start now : Kernel) (q : ℕ) → 32 ≡ q → ReturnedSo p start now q → now ≡ all_returned (range_with_len 0 32) p start
returned_all p start now q end so =
    let all : q + 0 ≡ 32 = omega arith in
    sym (so.kernel 0 all ∙ none_returned p now)

-- the slot is free
owners_vacated : (p : ℕ) (kernel : Kernel) → IsLeaving p kernel → OwnsNothing kernel.units p
    → (unit : Unit) (q : ℕ) → HasUnit kernel.units unit → owns kernel.units q unit ≡ true → Lives (without kernel.dispatcher.procs p) q
owners_vacated p kernel l nothing unit q has is =
    let other : q ≢ p = λ same. false≢true (sym (nothing unit has) ∙ ap (λ x. owns kernel.units x unit) (sym same) ∙ is) in
    lives_without_other kernel.dispatcher.procs p q other ∙ l.sound.owners unit q has is

sound_vacated : (p : ℕ) (kernel : Kernel) → IsLeaving p kernel → OwnsNothing kernel.units p → IsSoundKernel (vacated p kernel)
sound_vacated p kernel l nothing =
    let s = l.sound in
    let below : p < 32 = lives_below kernel.dispatcher.procs p s.slots l.lives in
    record {
      units = s.units;
      owners = owners_vacated p kernel l nothing;
      slots = slots_without kernel.dispatcher.procs p s.slots;
      table = s.table;
      fit = λ q living. elim (cases_eq q p) [
        | inl same ↦ absurd (both_ways _ (ap (lives (without kernel.dispatcher.procs p)) same ∙ lives_without kernel.dispatcher.procs p (omega (arith, s.slots.alive))) living)
        | inr other ↦
            let P : Process → Type 0 = λ x. IsFit kernel.units x in
            subst P (sym (process_without_other kernel.dispatcher.procs p q other)) (s.fit q (sym (lives_without_other kernel.dispatcher.procs p q other) ∙ living))
      ];
      flags = s.flags;
      queues = s.queues;
      system = s.system;
      inside = λ q k living is. elim (cases_eq q p) [
        | inl same ↦ absurd (both_ways _ (ap (lives (without kernel.dispatcher.procs p)) same ∙ lives_without kernel.dispatcher.procs p (omega (arith, s.slots.alive))) living)
        | inr other ↦
            s.inside q k (sym (lives_without_other kernel.dispatcher.procs p q other) ∙ living)
            (ap (λ x. x.procedure) (sym (process_without_other kernel.dispatcher.procs p q other)) ∙ is)
      ];
      once = s.once;
      live = λ q some. elim (cases_eq q p) [
        | inl same ↦ absurd (omega (arith, ap (places kernel) same, l.nowhere))
        | inr other ↦ lives_without_other kernel.dispatcher.procs p q other ∙ s.live q some
      ];
      runs = s.runs;
    }

others_live : (p : ℕ) (ps : List ℕ) (procs : Table) → AllByRecursion (λ q. Lives procs q × (q ≢ p)) ps → AllByRecursion (λ q. Lives (without procs p) q) ps
others_live p [] procs all = tt
others_live p (q ∷ ps) procs all = (lives_without_other procs p q all.0.1 ∙ all.0.0, others_live p ps procs all.1)

-- a process ends
pub sound_discharged : (kernel : Kernel) (p : ℕ) → IsSoundKernel kernel → Lives kernel.dispatcher.procs p → IsSoundKernel (discharged kernel p)
unfolding discharged
sound_discharged kernel p s h = sound_vacated p (relieved p kernel) (leaves_relieved p kernel s h) (nothing_relieved p kernel s h)

pub live_discharged : (kernel : Kernel) (p : ℕ) → IsSoundKernel kernel → Lives kernel.dispatcher.procs p → CompletedLive (discharged kernel p)
unfolding discharged
live_discharged kernel p s h =
    let afterwards = relieved p kernel in others_live p afterwards.dispatcher.completed afterwards.dispatcher.procs (leaves_relieved p kernel s h).others

pub dead_discharged : (kernel : Kernel) (p : ℕ) → IsSoundKernel kernel → Lives kernel.dispatcher.procs p → lives (discharged kernel p).dispatcher.procs p ≡ false
unfolding discharged
dead_discharged kernel p s h =
    let l = leaves_relieved p kernel s h in
    let below : p < 32 = lives_below (relieved p kernel).dispatcher.procs p l.sound.slots l.lives in
    lives_without (relieved p kernel).dispatcher.procs p (omega (arith, below, l.sound.slots.alive))

-- who lives lives where somebody did
homes_returned : (p q : ℕ) (kernel : Kernel) → SameHomes kernel (returned p q kernel)
unfolding returned
homes_returned p q kernel = either (SameHomes kernel) (holds kernel.queues p q) _ _ (λ _. homes_given (Some q) p kernel) (λ _. homes_stay kernel kernel refl)

homes_all_returned : (qs : List ℕ) (p : ℕ) (kernel : Kernel) → SameHomes kernel (all_returned qs p kernel)
unfolding all_returned
homes_all_returned [] p kernel = homes_stay kernel kernel refl
homes_all_returned (q ∷ qs) p kernel = homes_both kernel (returned p q kernel) _ (homes_returned p q kernel) (homes_all_returned qs p (returned p q kernel))

homes_relieved : (p : ℕ) (kernel : Kernel) → IsSoundKernel kernel → Lives kernel.dispatcher.procs p → SameHomes kernel (relieved p kernel)
unfolding relieved
homes_relieved p kernel s h =
    let gone = dropped_out p kernel in
    let back = given_back p gone in
    let returned_all = all_returned (range_with_len 0 32) p back in
    homes_both kernel gone _ (homes_stay kernel gone (procs_dropped p kernel))
    (homes_both gone back _ (homes_given_back p gone (sound_dropped p kernel s h) (lives_dropped p p kernel h))
    (homes_both back returned_all _ (homes_all_returned (range_with_len 0 32) p back)
    (homes_stay returned_all (units_left p returned_all) (left_units p returned_all (leaves_messages p kernel s h).sound).procs)))

pub homes_discharged : (kernel : Kernel) (p : ℕ) → IsSoundKernel kernel → Lives kernel.dispatcher.procs p → SameHomes kernel (discharged kernel p)
unfolding discharged
homes_discharged kernel p s h =
    let afterwards = relieved p kernel in
    let leaves = leaves_relieved p kernel s h in
    homes_both kernel afterwards _ (homes_relieved p kernel s h) (homes_vacated afterwards p leaves.sound.slots leaves.lives)

-- who doesn't end lives on, and keeps its call where it waits at no queue
record Keeps (q : ℕ) (old new : Kernel) : Type 0 where
  pub lives : lives new.dispatcher.procs q ≡ lives old.dispatcher.procs q
  pub call : waits old.queues q ≡ 0 → call_of new.dispatcher.procs q ≡ call_of old.dispatcher.procs q
  pub waits : waits old.queues q ≡ 0 → waits new.queues q ≡ 0
  pub beside : StaysBeside q old.dispatcher.procs new.dispatcher.procs

keeps_both : (q : ℕ) (old middle new : Kernel) → Keeps q old middle → Keeps q middle new → Keeps q old new
keeps_both q old middle new first second = record {
  lives = second.lives ∙ first.lives;
  call = λ none. second.call (first.waits none) ∙ first.call none;
  waits = λ none. second.waits (first.waits none);
  beside = beside_both q old.dispatcher.procs middle.dispatcher.procs new.dispatcher.procs first.beside second.beside;
}

keeps_same : (q : ℕ) (old new : Kernel) → new.dispatcher.procs ≡ old.dispatcher.procs → (waits old.queues q ≡ 0 → waits new.queues q ≡ 0) → Keeps q old new
keeps_same q old new same none = record {
  lives = ap (λ procs. lives procs q) same;
  call = λ _. ap (λ procs. call_of procs q) same;
  waits = none;
  beside = beside_same q old.dispatcher.procs new.dispatcher.procs same;
}

keeps_itself : (q : ℕ) (kernel : Kernel) → Keeps q kernel kernel
keeps_itself q kernel = keeps_same q kernel kernel refl (λ none. none)

keeps_dropped : (p q : ℕ) (kernel : Kernel) → IsSoundKernel kernel → q ≢ p → Keeps q kernel (dropped_out p kernel)
unfolding dropped_out
keeps_dropped p q kernel s other = keeps_same q kernel (dropped_out p kernel) refl (λ none. waits_without_other kernel.queues p q s.queues other ∙ none)

beside_outside : (p q : ℕ) (kernel : Kernel) → q ≢ p → StaysBeside q kernel.dispatcher.procs (outside p kernel).dispatcher.procs
unfolding outside
beside_outside p q kernel other =
    let procs = kernel.dispatcher.procs in
    let process = record (process_in procs p) { procedure = None } in
    beside_both q procs (with_process procs p process) (with_call (with_process procs p process) p (writing (process_in procs p).kept))
    (beside_other procs p q process other)
    (beside_others_call (with_process procs p process) p q (writing (process_in procs p).kept) other)

keeps_outside : (p q : ℕ) (kernel : Kernel) → q ≢ p → Keeps q kernel (outside p kernel)
unfolding outside with_process Rattle.mpm_procs.specs.Table.with_call
keeps_outside p q kernel other = record {
  lives = refl;
  call = λ none. get_or-set_other kernel.dispatcher.procs.calls p q (writing (process_in kernel.dispatcher.procs p).kept) no_call other;
  waits = λ none. none;
  beside = beside_outside p q kernel other;
}

keeps_written : (p q k : ℕ) (kernel : Kernel) → IsSoundKernel kernel → Keeps k kernel (dispatched (with_other (woken_by (write_outcome kernel.queues q))) (given_to kernel p q))
unfolding procs_after_write
keeps_written p q k kernel s =
    let t = kernel.queues in
    let other = woken_by (write_outcome t q) in
    let afterwards = dispatched (with_other other) (given_to kernel p q) in
    let kept = kept_delivered_to (is_full (queue_in t q)) (first_reader t q) (written_by t q kernel.dispatcher.procs p) kernel (valued 0 afterwards) (procs_with_other other (given_to kernel p q))
    (λ r first. waits_one t q r s.queues (reader_waits t q r first)) refl in
    record {
      lives = ap (λ procs. lives procs k) (procs_with_other other (given_to kernel p q)) ∙ lives_written t p q kernel.dispatcher.procs k;
      call = λ none. kept.call k none;
      beside = kept.beside k;
      waits = λ none. omega (arith, none, ap (λ queues. waits queues k) (queues_with_other other (given_to kernel p q)), write_waits t p q kernel.dispatcher.procs k s.queues);
    }

keeps_given : (queue : Option ℕ) (p k : ℕ) (kernel : Kernel) → IsSoundKernel kernel → Keeps k kernel (given_back_to queue p kernel)
unfolding given_back_to
keeps_given None p k kernel s = keeps_itself k kernel
keeps_given (Some q) p k kernel s = either (Keeps k kernel) (is_made kernel.queues q) _ _ (λ _. keeps_written p q k kernel s) (λ _. keeps_itself k kernel)

keeps_given_back : (p k : ℕ) (kernel : Kernel) → IsSoundKernel kernel → Lives kernel.dispatcher.procs p → k ≢ p → Keeps k kernel (given_back p kernel)
unfolding given_back
keeps_given_back p k kernel s h other =
    keeps_both k kernel (outside p kernel) _ (keeps_outside p k kernel other)
    (keeps_given (process_in kernel.dispatcher.procs p).procedure p k (outside p kernel) (sound_outside p kernel s h))

keeps_returned : (p q k : ℕ) (kernel : Kernel) → IsSoundKernel kernel → Keeps k kernel (returned p q kernel)
unfolding returned
keeps_returned p q k kernel s = either (Keeps k kernel) (holds kernel.queues p q) _ _ (λ _. keeps_given (Some q) p k kernel s) (λ _. keeps_itself k kernel)

keeps_all_returned : (qs : List ℕ) (p k : ℕ) (kernel : Kernel) → IsLeaving p kernel → Keeps k kernel (all_returned qs p kernel)
unfolding all_returned
keeps_all_returned [] p k kernel l = keeps_itself k kernel
keeps_all_returned (q ∷ qs) p k kernel l =
    keeps_both k kernel (returned p q kernel) _ (keeps_returned p q k kernel l.sound)
    (keeps_all_returned qs p k (returned p q kernel) (leaves_returned p q kernel l))

keeps_units_left : (p k : ℕ) (kernel : Kernel) → IsSoundKernel kernel → Keeps k kernel (units_left p kernel)
keeps_units_left p k kernel s =
    let left = left_units p kernel s in
    keeps_same k kernel (units_left p kernel) left.procs (λ none. ap (λ queues. waits queues k) left.queues ∙ none)

keeps_relieved : (p k : ℕ) (kernel : Kernel) → IsSoundKernel kernel → Lives kernel.dispatcher.procs p → k ≢ p → Keeps k kernel (relieved p kernel)
unfolding relieved
keeps_relieved p k kernel s h other =
    let gone = dropped_out p kernel in
    let back = given_back p gone in
    let returned_all = all_returned (range_with_len 0 32) p back in
    keeps_both k kernel gone _ (keeps_dropped p k kernel s other)
    (keeps_both k gone back _ (keeps_given_back p k gone (sound_dropped p kernel s h) (lives_dropped p p kernel h) other)
    (keeps_both k back returned_all _ (keeps_all_returned (range_with_len 0 32) p k back (leaves_given_back p kernel s h))
    (keeps_units_left p k returned_all (leaves_messages p kernel s h).sound)))

pub lives_discharged : (kernel : Kernel) (p q : ℕ) → IsSoundKernel kernel → Lives kernel.dispatcher.procs p → q ≢ p → lives (discharged kernel p).dispatcher.procs q ≡ lives kernel.dispatcher.procs q
unfolding discharged
lives_discharged kernel p q s h other = lives_without_other (relieved p kernel).dispatcher.procs p q other ∙ (keeps_relieved p q kernel s h other).lives

pub call_discharged : (kernel : Kernel) (p q : ℕ) → IsSoundKernel kernel → Lives kernel.dispatcher.procs p → q ≢ p → waits kernel.queues q ≡ 0
    → call_of (discharged kernel p).dispatcher.procs q ≡ call_of kernel.dispatcher.procs q
unfolding discharged
call_discharged kernel p q s h other none =
    call_without_other (relieved p kernel).dispatcher.procs p q other ∙ (keeps_relieved p q kernel s h other).call none

pub call_given_back : (p q : ℕ) (kernel : Kernel) → IsSoundKernel kernel → Lives kernel.dispatcher.procs p → q ≢ p → waits kernel.queues q ≡ 0
    → call_of (given_back p kernel).dispatcher.procs q ≡ call_of kernel.dispatcher.procs q
call_given_back p q kernel s h other none = (keeps_given_back p q kernel s h other).call none

-- what a process that leaves its resident procedure, or ends, leaves of each other one
pub beside_given_back : (p q : ℕ) (kernel : Kernel) → IsSoundKernel kernel → Lives kernel.dispatcher.procs p → q ≢ p
    → StaysBeside q kernel.dispatcher.procs (given_back p kernel).dispatcher.procs
beside_given_back p q kernel s h other = (keeps_given_back p q kernel s h other).beside

pub beside_discharged : (kernel : Kernel) (p q : ℕ) → IsSoundKernel kernel → Lives kernel.dispatcher.procs p → q ≢ p
    → StaysBeside q kernel.dispatcher.procs (discharged kernel p).dispatcher.procs
unfolding discharged
beside_discharged kernel p q s h other =
    let procs = (relieved p kernel).dispatcher.procs in
    beside_both q kernel.dispatcher.procs procs (without procs p) (keeps_relieved p q kernel s h other).beside (beside_gone procs p q other)

-- there are as many consoles

consoles_given_back_to : (queue : Option ℕ) (p : ℕ) (kernel : Kernel) → length (given_back_to queue p kernel).units.consoles ≡ length kernel.units.consoles
unfolding given_back_to
consoles_given_back_to None p kernel = refl
consoles_given_back_to (Some q) p kernel =
    either (λ (k : Kernel). length k.units.consoles ≡ length kernel.units.consoles) (is_made kernel.queues q) _ _ (λ _. refl) (λ _. refl)

pub consoles_given_back : (p : ℕ) (kernel : Kernel) → length (given_back p kernel).units.consoles ≡ length kernel.units.consoles
unfolding given_back outside
consoles_given_back p kernel = consoles_given_back_to (process_in kernel.dispatcher.procs p).procedure p (outside p kernel)

consoles_all_returned : (qs : List ℕ) (p : ℕ) (kernel : Kernel) → length (all_returned qs p kernel).units.consoles ≡ length kernel.units.consoles
unfolding all_returned returned
consoles_all_returned [] p kernel = refl
consoles_all_returned (q ∷ qs) p kernel =
    consoles_all_returned qs p (returned p q kernel)
    ∙ either (λ (k : Kernel). length k.units.consoles ≡ length kernel.units.consoles) (holds kernel.queues p q) _ _ (λ _. consoles_given_back_to (Some q) p kernel) (λ _. refl)

pub consoles_discharged : (kernel : Kernel) (p : ℕ) → IsSoundKernel kernel → Lives kernel.dispatcher.procs p → length (discharged kernel p).units.consoles ≡ length kernel.units.consoles
unfolding discharged relieved dropped_out
consoles_discharged kernel p s h =
    let back = given_back p (dropped_out p kernel) in
    (left_units p (all_returned (range_with_len 0 32) p back) (leaves_messages p kernel s h).sound).consoles
    ∙ consoles_all_returned (range_with_len 0 32) p back
    ∙ consoles_given_back p (dropped_out p kernel)
    ∙ length_units_without kernel.units p

-- the code: after each part of an end
pub leaves_messages_back : (p : ℕ) (kernel gone back afterwards : Kernel) → IsSoundKernel kernel → Lives kernel.dispatcher.procs p → gone ≡ dropped_out p kernel
    → back ≡ given_back p gone → afterwards ≡ all_returned (range_with_len 0 32) p back → IsLeaving p afterwards
leaves_messages_back p kernel gone back afterwards s h is_gone is_back is_behind =
    let first : back ≡ given_back p (dropped_out p kernel) = is_back ∙ ap (given_back p) is_gone in
    subst (IsLeaving p) (sym (is_behind ∙ ap (all_returned (range_with_len 0 32) p) first)) (leaves_messages p kernel s h)

pub units_by : (p : ℕ) (kernel without_consoles new : Kernel) → without_consoles ≡ consoles_left p (length kernel.units.consoles) kernel
    → new ≡ printers_left p (length without_consoles.units.printers) without_consoles → new ≡ units_left p kernel
unfolding units_left
units_by p kernel without_consoles new consoles printers =
    printers ∙ ap (λ (k : Kernel). printers_left p (length k.units.printers) k) consoles

pub discharged_by : (p : ℕ) (kernel gone back afterwards left new : Kernel) → gone ≡ dropped_out p kernel → back ≡ given_back p gone
    → afterwards ≡ all_returned (range_with_len 0 32) p back → left ≡ units_left p afterwards → new ≡ vacated p left → new ≡ discharged kernel p
unfolding discharged relieved
discharged_by p kernel gone back afterwards left new is_gone is_back is_behind is_left is_new =
    let first = is_back ∙ ap (given_back p) is_gone in
    let all = is_behind ∙ ap (all_returned (range_with_len 0 32) p) first in
    is_new ∙ ap (vacated p) (is_left ∙ ap (units_left p) all)

-- who is ready waits at no queue
pub ready_waits_at_none : (kernel : Kernel) (p : ℕ) → IsSoundKernel kernel → IsReady kernel.dispatcher p → waits kernel.queues p ≡ 0
ready_waits_at_none kernel p s is_ready = omega (arith, listed_once kernel p ready s is_ready)
