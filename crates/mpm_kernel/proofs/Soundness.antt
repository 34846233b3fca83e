-- What a sound kernel stays through: changes of its parts, one by one.
use Rattle.std.proofs.Common.{◌≡◌, ◌≢◌, ◌∙◌, ℕ, zero, suc, ◌+◌, ◌<◌, ◌≤◌, Bool, true, false, ◌&&◌, List, [], ◌∷◌, length, replicate, Option, Some, None, if◌then◌else◌, inl, inr, refl, sym, ap, subst, arith}
use Rattle.std.specs.List.{AllByRecursion}
use Rattle.std.proofs.lemmas.Bool.{cases_eq, cases_lt, false≢true, both_ways}
use Rattle.std.proofs.lemmas.Bool.Decides.{nat_tests}
use Rattle.std.specs.Prelude.{count_by}
use Rattle.std.proofs.lemmas.List.{length-set, set_past}
use Rattle.std.proofs.lemmas.Option.{none-some, same_Some}
use Rattle.mpm_base.proofs.CountLaws.{count_cons}
use Rattle.mpm_base.proofs.Lists.{all_at}
use Rattle.mpm_base.specs.Calls.{Taken}
use Rattle.mpm_base.specs.declared.devices.Devices.{Devices}
use Rattle.mpm_ready.specs.Order.{Member, first_of}
use Rattle.mpm_ready.specs.Tables.{no_lists, list_at, list_of, inserted, removed, reinserted}
use Rattle.mpm_ready.proofs.TableLaws.{table_inserted, table_removed, list_of_inserted, list_of_inserted_other, list_of_removed, list_of_removed_other, list_of_known, list_of_none, table_none}
use Rattle.mpm_ready.proofs.OrderLaws.{first_is_in}
use Rattle.mpm_flags.specs.declared.flags.Flag.{Flag}
use Rattle.mpm_flags.specs.States.{no_flags}
use Rattle.mpm_clock.specs.declared.moment.Moment.{Moment}
use Rattle.mpm_clock.specs.Delays.{delays_of}
use Rattle.mpm_clock.specs.Times.{Clock, new_clock}
use Rattle.mpm_clock.proofs.DelayLaws.{delays_none}
use Rattle.mpm_procs.specs.Table.{Table, no_processes, lives, Lives, process_in, with_process, with_call, lowest_free, added}
use Rattle.mpm_procs.specs.declared.process.Process.{Process}
use Rattle.mpm_procs.specs.declared.process.NewProcess.{NewProcess}
use Rattle.mpm_procs.specs.Opening.{opening}
use Rattle.mpm_procs.proofs.MapLaws.{lives_below, process_changed, process_kept, lives_changed, slots_changed, slots_after, free_below, free_is_dead, lives_added, lives_added_other, process_added, process_added_other, slots_added, slots_none, nobody_lives}
use Rattle.mpm_queues.specs.Queues.{Queues, no_queues, IsMade, waits, AreSoundQueues}
use Rattle.mpm_queues.proofs.SoundLaws.{sound_none}
use Rattle.mpm_queues.proofs.WaitLaws.{waits_nowhere}
use Rattle.mpm_consoles.proofs.PlaceLaws.{waits_nowhere as waits_for_none}
use Rattle.mpm_consoles.specs.Console.{Console, new_console, is_owner, spoken}
use Rattle.mpm_consoles.specs.Consoles.{Consoles, HasUnit, gate_waits, no_owners, owns, console_at, owner_of, with_console, AreSoundConsoles}
use Rattle.mpm_consoles.specs.Handling.{spoke as spoke_units}
use Rattle.mpm_base.specs.declared.unit.Unit.{Unit}
use Rattle.mpm_base.specs.declared.unit.Unit.TheVariants.{Console as ConsoleUnit, Printer as PrinterUnit}
use Rattle.mpm_service.specs.Places.{at_disk}
use Rattle.mpm_service.proofs.PlaceLaws.{at_none}
use Rattle.mpm_consoles.proofs.SoundLaws.{sound_none as sound_units_new, sound_kept}
use Rattle.mpm_kernel.proofs.UnitWaits.{is_at_gate, gates_kept, waits_console, owner_kept, has_before, proper_spoken}
use Rattle.mpm_dispatcher.specs.Dispatch.{ready, new_dispatcher, IsReady, with_completed, stays, admitted, in_slot, at_rest, runs_still, runner, picked, is_ready, behind_equals, rotated_in, lists_behind, moved, all_ready, ready_in, runner_behind, with_procs, descheduled}
use Rattle.mpm_kernel.specs.Kernel.{Kernel, in_lists, flags_of, waits_in, waits_at_units, waits_of, places, IsOfTwo, IsFit, IsConsole, IsSoundKernel, with_changed, call_begun, afresh, new_kernel, dispatched}
use Rattle.mpm_kernel.specs.Columns.{spoke}
pub use Rattle.mpm_dispatcher.proofs.ReadyLaws.{is_ready_true}
use Rattle.mpm_kernel.proofs.PlaceLaws.{in_some, in_none, in_at_most, not_equal, moved_lists, table_moved, list_moved, list_moved_other, flags_none}

-- where nobody lives, nobody stands anywhere
no_waits : (p : ℕ) → waits no_queues p ≡ 0
unfolding no_queues
no_waits p = waits_nowhere no_queues p (list_of_none p)

nowhere : (p : ℕ) → in_lists (list_of no_lists p) + (flags_of no_flags p + delays_of [] p + waits no_queues p) ≡ 0
nowhere p = omega (arith, in_none _ (list_of_none p), flags_none p, delays_none p, no_waits p)

-- the units at first: nobody owns one, or waits for one
owner_new : (consoles printers : ℕ) (unit : Unit) → owner_of (no_owners consoles printers) unit ≡ None
unfolding no_owners new_console
owner_new consoles printers (ConsoleUnit n) = ap (λ (c : Console). c.owner) (all_at consoles n new_console)
owner_new consoles printers (PrinterUnit n) = all_at printers n None

owners_new : (consoles printers : ℕ) (procs : Table) (unit : Unit) (p : ℕ) → owns (no_owners consoles printers) p unit ≡ true → Lives procs p
owners_new consoles printers procs unit p is = absurd (false≢true (sym (ap (λ o. is_owner o p) (owner_new consoles printers unit)) ∙ is))

no_gates : (n p : ℕ) → count_by (is_at_gate p) (replicate n new_console) ≡ 0
unfolding new_console
no_gates zero p = refl
no_gates (suc n) p = omega (arith, count_cons (is_at_gate p) new_console (replicate n new_console), no_gates n p)

nowhere_new : (consoles printers p : ℕ) → waits_at_units (no_owners consoles printers) p ≡ 0
unfolding no_owners gate_waits
nowhere_new consoles printers p = omega (arith, waits_for_none (no_owners consoles printers) p (list_of_none p), no_gates consoles p)

-- units in the place of others: as many, whose owners live
pub record AreUnits (before : Consoles) (procs : Table) (units : Consoles) : Type 0 where
  pub sound : AreSoundConsoles units
  pub consoles : length units.consoles ≡ length before.consoles
  pub printers : length units.printers ≡ length before.printers
  pub owners : (unit : Unit) (p : ℕ) → HasUnit units unit → owns units p unit ≡ true → Lives procs p

pub fit_kept : (before units : Consoles) (process : Process) → length units.consoles ≡ length before.consoles → length units.printers ≡ length before.printers
    → IsFit before process → IsFit units process
fit_kept before units process consoles printers fit = record {
  console = omega (arith, consoles, fit.console);
  printer = λ some. omega (arith, printers, fit.printer (omega (arith, printers, some)));
  some = fit.some;
  few = fit.few;
}

-- no process lives
pub sound_new : (consoles printers : ℕ) (now : Moment) → 1 ≤ consoles → consoles ≤ 8 → printers ≤ 4 → IsSoundKernel (new_kernel consoles printers now)
unfolding new_kernel new_dispatcher new_clock no_flags
sound_new consoles printers now some few more = record {
  units = sound_units_new consoles printers some few more;
  owners = λ unit p has is. owners_new consoles printers no_processes unit p is;
  slots = slots_none;
  table = table_none;
  fit = λ p living. absurd (both_ways _ (nobody_lives p) living);
  flags = refl;
  queues = sound_none;
  system = λ q below. absurd (omega (arith, below));
  inside = λ p q living is. absurd (both_ways _ (nobody_lives p) living);
  once = λ p. omega (arith, nowhere p, nowhere_new consoles printers p, at_none 0 p);
  live = λ p some. absurd (omega (arith, nowhere p, nowhere_new consoles printers p, at_none 0 p));
  runs = λ p e. absurd (none-some p e);
}

-- a process is another one that fits
pub sound_changed : (kernel : Kernel) (p : ℕ) (process : Process) → IsSoundKernel kernel → Lives kernel.dispatcher.procs p → IsFit kernel.units process
    → ((q : ℕ) → process.procedure ≡ Some q → IsOfTwo kernel.queues q) → IsSoundKernel (with_changed kernel p process)
sound_changed kernel p process s h fit two = record {
  units = s.units;
  owners = λ unit q has is. lives_changed kernel.dispatcher.procs p q process ∙ s.owners unit q has is;
  slots = slots_changed kernel.dispatcher.procs p process s.slots;
  table = s.table;
  fit = λ q living. elim (cases_eq q p) [
    | inl same ↦
        let P : Process → Type 0 = λ x. IsFit kernel.units x in
        let at : process_in (with_process kernel.dispatcher.procs p process) q ≡ process =
        ap (process_in (with_process kernel.dispatcher.procs p process)) same
        ∙ process_changed kernel.dispatcher.procs p process (omega (arith, s.slots.processes, lives_below kernel.dispatcher.procs p s.slots h)) in
        subst P (sym at) fit
    | inr other ↦
        let P : Process → Type 0 = λ x. IsFit kernel.units x in
        subst P (sym (process_kept kernel.dispatcher.procs p q process other)) (s.fit q (sym (lives_changed kernel.dispatcher.procs p q process) ∙ living))
  ];
  flags = s.flags;
  queues = s.queues;
  system = s.system;
  inside = λ q k living is. elim (cases_eq q p) [
    | inl same ↦
        let at : process_in (with_process kernel.dispatcher.procs p process) q ≡ process =
        ap (process_in (with_process kernel.dispatcher.procs p process)) same
        ∙ process_changed kernel.dispatcher.procs p process (omega (arith, s.slots.processes, lives_below kernel.dispatcher.procs p s.slots h)) in
        two k (ap (λ x. x.procedure) (sym at) ∙ is)
    | inr other ↦
        s.inside q k (sym (lives_changed kernel.dispatcher.procs p q process) ∙ living) (ap (λ x. x.procedure) (sym (process_kept kernel.dispatcher.procs p q process other)) ∙ is)
  ];
  once = s.once;
  live = λ q some. lives_changed kernel.dispatcher.procs p q process ∙ s.live q some;
  runs = s.runs;
}

-- a process keeps another call
-- and one that keeps its console, its printer, its multi-sector count and the procedure that it is in, fits
pub sound_process : (kernel : Kernel) (p : ℕ) (process : Process) → IsSoundKernel kernel → Lives kernel.dispatcher.procs p
    → process.console ≡ (process_in kernel.dispatcher.procs p).console → process.printer ≡ (process_in kernel.dispatcher.procs p).printer
    → process.multi ≡ (process_in kernel.dispatcher.procs p).multi → process.procedure ≡ (process_in kernel.dispatcher.procs p).procedure → IsSoundKernel (with_changed kernel p process)
sound_process kernel p process s h console printer multi procedure =
    let fit = s.fit p h in
    sound_changed kernel p process s h
    (record {
      console = omega (arith, console, fit.console);
      printer = λ some. omega (arith, printer, fit.printer some);
      some = omega (arith, multi, fit.some);
      few = omega (arith, multi, fit.few);
    })
    (λ q is. s.inside p q h (sym procedure ∙ is))

pub sound_call : (kernel : Kernel) (p : ℕ) (call : Taken) → IsSoundKernel kernel → IsSoundKernel (dispatched (with_procs (with_call kernel.dispatcher.procs p call)) kernel)
unfolding with_call
sound_call kernel p call s = record {
  units = s.units;
  owners = s.owners;
  slots = slots_after kernel.dispatcher.procs p call s.slots;
  table = s.table;
  fit = s.fit;
  flags = s.flags;
  queues = s.queues;
  system = s.system;
  inside = s.inside;
  once = s.once;
  live = s.live;
  runs = s.runs;
}

pub sound_devices : (kernel : Kernel) (devices : Devices) → IsSoundKernel kernel → IsSoundKernel (record kernel { devices = devices })
sound_devices kernel devices s = record {
  units = s.units;
  owners = s.owners;
  slots = s.slots;
  table = s.table;
  fit = s.fit;
  flags = s.flags;
  queues = s.queues;
  system = s.system;
  inside = s.inside;
  once = s.once;
  live = s.live;
  runs = s.runs;
}

-- the units are others, and everybody stands in at most one place
pub sound_with_units : (kernel : Kernel) (units : Consoles) → IsSoundKernel kernel → AreUnits kernel.units kernel.dispatcher.procs units
    → ((q : ℕ) → places (record kernel { units = units }) q ≤ 1) → ((q : ℕ) → 0 < places (record kernel { units = units }) q → Lives kernel.dispatcher.procs q)
    → IsSoundKernel (record kernel { units = units })
sound_with_units kernel units s are once live = record {
  units = are.sound;
  owners = are.owners;
  slots = s.slots;
  table = s.table;
  fit = λ p h. fit_kept kernel.units units _ are.consoles are.printers (s.fit p h);
  flags = s.flags;
  queues = s.queues;
  system = s.system;
  inside = s.inside;
  once = once;
  live = live;
  runs = s.runs;
}

-- the units are others, at which nobody waits who didn't before
pub sound_units : (kernel : Kernel) (units : Consoles) → IsSoundKernel kernel → AreUnits kernel.units kernel.dispatcher.procs units
    → ((q : ℕ) → waits_at_units units q ≤ waits_at_units kernel.units q) → IsSoundKernel (record kernel { units = units })
sound_units kernel units s are fewer =
    sound_with_units kernel units s are (λ q. omega (arith, s.once q, fewer q)) (λ q some. s.live q (omega (arith, fewer q, some)))

-- what was written by the last call, and who is aborted, is no part of that
pub sound_noted : (kernel : Kernel) (echo : List ℕ) (aborted : Option ℕ) → IsSoundKernel kernel → IsSoundKernel (record kernel { echo = echo; aborted = aborted })
sound_noted kernel echo aborted s = record {
  units = s.units;
  owners = s.owners;
  slots = s.slots;
  table = s.table;
  fit = s.fit;
  flags = s.flags;
  queues = s.queues;
  system = s.system;
  inside = s.inside;
  once = s.once;
  live = s.live;
  runs = s.runs;
}

-- one console is another one, of the same owner, at whose gate the same process waits
pub units_console : (kernel : Kernel) (n : ℕ) (console : Console) → IsSoundKernel kernel → IsConsole kernel n
    → console.owner ≡ (console_at kernel.units n).owner → AreSoundConsoles (with_console kernel.units n console)
    → AreUnits kernel.units kernel.dispatcher.procs (with_console kernel.units n console)
units_console kernel n console s has same sound = record {
  sound = sound;
  consoles = length-set kernel.units.consoles n console;
  printers = refl;
  owners = λ unit p there is. s.owners unit p (has_before kernel.units n console unit there) (sym (ap (λ o. is_owner o p) (owner_kept kernel.units n console unit has same)) ∙ is);
}

pub sound_console : (kernel : Kernel) (n : ℕ) (console : Console) → IsSoundKernel kernel → IsConsole kernel n
    → console.owner ≡ (console_at kernel.units n).owner → console.awaits ≡ (console_at kernel.units n).awaits
    → AreSoundConsoles (with_console kernel.units n console) → IsSoundKernel (record kernel { units = with_console kernel.units n console })
sound_console kernel n console s has owner awaits sound =
    sound_units kernel (with_console kernel.units n console) s (units_console kernel n console s has owner sound)
    (λ q. omega (arith, gates_kept kernel.units n console q has owner awaits, waits_console kernel.units n console q))

-- bytes come to a console
pub sound_spoke : (kernel : Kernel) (console : ℕ) (bytes : List ℕ) → IsSoundKernel kernel → IsSoundKernel (spoke kernel console bytes)
unfolding spoke spoke_units spoken
sound_spoke kernel console bytes s = elim (cases_lt console (length kernel.units.consoles)) [
  | inl has ↦
      sound_console kernel console _ s has refl refl
      (sound_kept kernel.units console _ s.units has refl (proper_spoken (console_at kernel.units console) bytes (s.units.proper console)))
  | inr past ↦
      let P : List Console → Type 0 = λ cs. IsSoundKernel (record kernel { units = record kernel.units { consoles = cs } }) in
      subst P (sym (set_past kernel.units.consoles console _ past)) s
]

unlisted_if_dead : (o : Option ℕ) → ((list : ℕ) → o ≡ Some list → ⊥) → o ≡ None
unlisted_if_dead None h = refl
unlisted_if_dead (Some list) h = absurd (h list refl)

pub runs_other : (p q : ℕ) (running : Option ℕ) → runs_still p running ≡ Some q → (q ≢ p) × (running ≡ Some q)
runs_other p q None e = absurd (cc)
runs_other p q (Some other) e = elim (cases_eq other p) [
  | inl same ↦
      let stops : runs_still p (Some other) ≡ None = grind (arith, nat_tests) in
      absurd (none-some q (sym stops ∙ e))
  | inr distinct ↦
      let stays : runs_still p (Some other) ≡ Some other = grind (arith, nat_tests) in
      let is : Some other ≡ Some q = sym stays ∙ e in
      ((λ same. distinct (same_Some other q is ∙ same)), is)
]

fit_opening : (units : Consoles) (new : NewProcess) → new.console < length units.consoles → IsFit units (opening new)
unfolding opening
fit_opening units new h = record { console = h; printer = λ there. there; some = omega arith; few = omega arith }

opening_outside : (new : NewProcess) → (opening new).procedure ≡ None
unfolding opening
opening_outside new = refl

-- the first of the ready list is ready
pub first_is_ready : (kernel : Kernel) (p : ℕ) → IsSoundKernel kernel → first_of (list_at kernel.dispatcher.lists ready) ≡ Some p → IsReady kernel.dispatcher p
first_is_ready kernel p s e = list_of_known kernel.dispatcher.lists p ready s.table (first_is_in (list_at kernel.dispatcher.lists ready) p e)

-- who is in a list lives
pub listed : (kernel : Kernel) (p list : ℕ) → IsSoundKernel kernel → list_of kernel.dispatcher.lists p ≡ Some list → Lives kernel.dispatcher.procs p
listed kernel p list s e = s.live p (omega (arith, in_some _ list e))

-- who is in a list waits for nothing else
pub listed_once : (kernel : Kernel) (p list : ℕ) → IsSoundKernel kernel → list_of kernel.dispatcher.lists p ≡ Some list
    → waits_of kernel p ≡ 0
listed_once kernel p list s e = omega (arith, in_some _ list e, s.once p)

-- who is ready waits for no tick
pub not_delayed : (kernel : Kernel) (p : ℕ) → IsSoundKernel kernel → IsReady kernel.dispatcher p → delays_of kernel.clock.delays p ≡ 0
not_delayed kernel p s is_ready = omega (arith, listed_once kernel p ready s is_ready)

-- who runs lives
pub runner_lives : (kernel : Kernel) (p : ℕ) → IsSoundKernel kernel → kernel.dispatcher.running ≡ Some p → Lives kernel.dispatcher.procs p
runner_lives kernel p s e = listed kernel p ready s (s.runs p e)

-- who runs is picked, who is ready
runner_if : (b : Bool) (kernel : Kernel) (p : ℕ) → IsSoundKernel kernel
    → (if b then kernel.dispatcher.running else first_of (list_at kernel.dispatcher.lists ready)) ≡ Some p → IsReady kernel.dispatcher p
runner_if true kernel p s e = s.runs p e
runner_if false kernel p s e = first_is_ready kernel p s e

pub sound_picked : (kernel : Kernel) (instruction : Bool) → IsSoundKernel kernel → IsSoundKernel (dispatched (picked instruction) kernel)
unfolding runner
sound_picked kernel instruction s = record {
  units = s.units;
  owners = s.owners;
  slots = s.slots;
  table = s.table;
  fit = s.fit;
  flags = s.flags;
  queues = s.queues;
  system = s.system;
  inside = s.inside;
  once = s.once;
  live = s.live;
  runs = λ p e. runner_if (instruction && stays kernel.dispatcher.procs kernel.dispatcher.lists kernel.dispatcher.running) kernel p s e;
}

-- a slot where nobody lives stands in no list
pub free_is_unlisted : (kernel : Kernel) (p : ℕ) → IsSoundKernel kernel → lowest_free kernel.dispatcher.procs ≡ Some p → list_of kernel.dispatcher.lists p ≡ None
free_is_unlisted kernel p s free =
    unlisted_if_dead (list_of kernel.dispatcher.lists p) (λ list e. both_ways _ (free_is_dead kernel.dispatcher.procs p free) (listed kernel p list s e))

-- and nowhere else
none_if_dead : (n : ℕ) → (0 < n → ⊥) → n ≡ 0
none_if_dead zero h = refl
none_if_dead (suc n) h = absurd (h (omega arith))

free_is_nowhere : (kernel : Kernel) (p : ℕ) → IsSoundKernel kernel → lowest_free kernel.dispatcher.procs ≡ Some p
    → waits_of kernel p ≡ 0
free_is_nowhere kernel p s free =
    let none = none_if_dead (places kernel p) (λ some. both_ways _ (free_is_dead kernel.dispatcher.procs p free) (s.live p some)) in
    omega (arith, none)

-- who lives lives on as a process begins
lives_on : (kernel : Kernel) (p : ℕ) (new : NewProcess) → IsSoundKernel kernel → lowest_free kernel.dispatcher.procs ≡ Some p → (q : ℕ) → Lives kernel.dispatcher.procs q
    → Lives (added kernel.dispatcher.procs p new) q
lives_on kernel p new s free q living = elim (cases_eq q p) [
  | inl same ↦ absurd (both_ways _ (free_is_dead kernel.dispatcher.procs p free) (ap (lives kernel.dispatcher.procs) (sym same) ∙ living))
  | inr other ↦ lives_added_other kernel.dispatcher.procs p q new other ∙ living
]

-- a process begins
pub sound_admitted : (kernel : Kernel) (p : ℕ) (new : NewProcess) → IsSoundKernel kernel → lowest_free kernel.dispatcher.procs ≡ Some p → new.console < length kernel.units.consoles
    → IsSoundKernel (dispatched (admitted p new) kernel)
sound_admitted kernel p new s free console =
    let below : p < 32 = omega (arith, free_below kernel.dispatcher.procs p free, s.slots.alive) in
    let member : Member = record { slot = p; priority = new.priority } in
    let none = free_is_unlisted kernel p s free in
    record {
      units = s.units;
      owners = λ unit q has is. lives_on kernel p new s free q (s.owners unit q has is);
      slots = slots_added kernel.dispatcher.procs p new s.slots;
      table = table_inserted kernel.dispatcher.lists ready member s.table (omega arith) below none;
      fit = λ q living. elim (cases_eq q p) [
        | inl same ↦
            let P : Process → Type 0 = λ x. IsFit kernel.units x in
            let at = ap (process_in (added kernel.dispatcher.procs p new)) same ∙ process_added kernel.dispatcher.procs p new (omega (arith, s.slots.processes)) in
            subst P (sym at) (fit_opening kernel.units new console)
        | inr other ↦
            let P : Process → Type 0 = λ x. IsFit kernel.units x in
            subst P (sym (process_added_other kernel.dispatcher.procs p q new other)) (s.fit q (sym (lives_added_other kernel.dispatcher.procs p q new other) ∙ living))
      ];
      flags = s.flags;
      queues = s.queues;
      system = s.system;
      inside = λ q k living is. elim (cases_eq q p) [
        | inl same ↦
            let at = ap (process_in (added kernel.dispatcher.procs p new)) same ∙ process_added kernel.dispatcher.procs p new (omega (arith, s.slots.processes)) in
            absurd (none-some k (sym (opening_outside new) ∙ ap (λ x. x.procedure) (sym at) ∙ is))
        | inr other ↦
            s.inside q k (sym (lives_added_other kernel.dispatcher.procs p q new other) ∙ living)
            (ap (λ x. x.procedure) (sym (process_added_other kernel.dispatcher.procs p q new other)) ∙ is)
      ];
      once = λ q. elim (cases_eq q p) [
        | inl same ↦
            let here = ap (λ x. waits_of kernel x) same in
            omega (arith, in_at_most (list_of (inserted kernel.dispatcher.lists ready member) q), here, free_is_nowhere kernel p s free)
        | inr other ↦
            let there = list_of_inserted_other kernel.dispatcher.lists ready member q s.table (omega arith) below none (not_equal p q (λ e. other (sym e))) in
            omega (arith, ap in_lists there, s.once q)
      ];
      live = λ q some. elim (cases_eq q p) [
        | inl same ↦ ap (lives (added kernel.dispatcher.procs p new)) same ∙ lives_added kernel.dispatcher.procs p new (omega (arith, s.slots.alive))
        | inr other ↦
            let there = list_of_inserted_other kernel.dispatcher.lists ready member q s.table (omega arith) below none (not_equal p q (λ e. other (sym e))) in
            lives_added_other kernel.dispatcher.procs p q new other ∙ s.live q (omega (arith, ap in_lists there, some))
      ];
      runs = λ q e. elim (cases_eq q p) [
        | inl same ↦ ap (list_of (inserted kernel.dispatcher.lists ready member)) same ∙ list_of_inserted kernel.dispatcher.lists ready member s.table (omega arith) below none
        | inr other ↦
            list_of_inserted_other kernel.dispatcher.lists ready member q s.table (omega arith) below none (not_equal p q (λ e. other (sym e)))
            ∙ s.runs q e
      ];
    }

pub sound_in_slot : (kernel : Kernel) (new : NewProcess) (slot : Option ℕ) → IsSoundKernel kernel → lowest_free kernel.dispatcher.procs ≡ slot → new.console < length kernel.units.consoles
    → IsSoundKernel (dispatched (in_slot new slot) kernel)
sound_in_slot kernel new None s free console = s
sound_in_slot kernel new (Some p) s free console = sound_admitted kernel p new s free console

pub completed_in_slot : (kernel : Kernel) (new : NewProcess) (slot : Option ℕ) → (dispatched (in_slot new slot) kernel).dispatcher.completed ≡ kernel.dispatcher.completed
completed_in_slot kernel new None = refl
completed_in_slot kernel new (Some p) = refl

-- a process is put into a list and is nowhere else
placed_in : (kernel : Kernel) (list p : ℕ) (running : Option ℕ) → IsSoundKernel kernel → Lives kernel.dispatcher.procs p → list < 96
    → waits_of kernel p ≡ 0
    → ((q : ℕ) → running ≡ Some q → list_of (moved_lists kernel.dispatcher.lists list p (process_in kernel.dispatcher.procs p).priority) q ≡ Some ready)
    → IsSoundKernel (record kernel { dispatcher = record kernel.dispatcher { lists = moved_lists kernel.dispatcher.lists list p (process_in kernel.dispatcher.procs p).priority; running = running } })
placed_in kernel list p running s h small nowhere_else runs =
    let below : p < 32 = lives_below kernel.dispatcher.procs p s.slots h in
    let priority = (process_in kernel.dispatcher.procs p).priority in
    record {
      units = s.units;
      owners = s.owners;
      slots = s.slots;
      table = table_moved kernel.dispatcher.lists list p priority s.table small below;
      flags = s.flags;
      queues = s.queues;
      system = s.system;
      inside = s.inside;
      fit = s.fit;
      once = λ q. elim (cases_eq q p) [
        | inl same ↦
            let here = ap (λ x. waits_of kernel x) same in
            omega (arith, in_at_most (list_of (moved_lists kernel.dispatcher.lists list p priority) q), here, nowhere_else)
        | inr other ↦ omega (arith, ap in_lists (list_moved_other kernel.dispatcher.lists list p priority q s.table small below other), s.once q)
      ];
      live = λ q some. elim (cases_eq q p) [
        | inl same ↦ ap (lives kernel.dispatcher.procs) same ∙ h
        | inr other ↦ s.live q (omega (arith, ap in_lists (list_moved_other kernel.dispatcher.lists list p priority q s.table small below other), some))
      ];
      runs = runs;
    }

-- a process that waits for nothing else becomes ready
pub sound_ready : (kernel : Kernel) (p : ℕ) → IsSoundKernel kernel → Lives kernel.dispatcher.procs p → waits_of kernel p ≡ 0
    → IsSoundKernel (dispatched (moved ready p) kernel)
sound_ready kernel p s h nowhere_else =
    let below : p < 32 = lives_below kernel.dispatcher.procs p s.slots h in
    let priority = (process_in kernel.dispatcher.procs p).priority in
    placed_in kernel ready p kernel.dispatcher.running s h (omega arith) nowhere_else (λ q e. elim (cases_eq q p) [
      | inl same ↦ ap (list_of (moved_lists kernel.dispatcher.lists ready p priority)) same ∙ list_moved kernel.dispatcher.lists ready p priority s.table (omega arith) below
      | inr other ↦ list_moved_other kernel.dispatcher.lists ready p priority q s.table (omega arith) below other ∙ s.runs q e
    ])

-- a process that runs no more is put into another list
pub sound_moved : (kernel : Kernel) (list p : ℕ) → IsSoundKernel kernel → Lives kernel.dispatcher.procs p → list < 96
    → waits_of kernel p ≡ 0 → IsSoundKernel (dispatched (at_rest p) (dispatched (moved list p) kernel))
sound_moved kernel list p s h small nowhere_else =
    let below : p < 32 = lives_below kernel.dispatcher.procs p s.slots h in
    placed_in kernel list p (runs_still p kernel.dispatcher.running) s h small nowhere_else (λ q e.
    list_moved_other kernel.dispatcher.lists list p (process_in kernel.dispatcher.procs p).priority q s.table small below (runs_other p q kernel.dispatcher.running e).0
    ∙ s.runs q (runs_other p q kernel.dispatcher.running e).1)

-- queues that are sound, those of the system and those of resident procedures among them
pub record AreQueues (kernel : Kernel) (queues : Queues) : Type 0 where
  pub sound : AreSoundQueues queues
  pub system : (q : ℕ) → q < kernel.system_queues → IsMade queues q
  pub inside : (p q : ℕ) → Lives kernel.dispatcher.procs p → (process_in kernel.dispatcher.procs p).procedure ≡ Some q → IsOfTwo queues q

pub own_queues : (kernel : Kernel) → IsSoundKernel kernel → AreQueues kernel kernel.queues
own_queues kernel s = record { sound = s.queues; system = s.system; inside = s.inside }

-- a process that runs no more leaves its list, and waits for a flag, for the clock or at a queue
pub sound_unlisted : (kernel : Kernel) (p : ℕ) (flags : List Flag) (clock : Clock) (queues : Queues) → IsSoundKernel kernel → Lives kernel.dispatcher.procs p
    → length flags ≡ 32 → AreQueues kernel queues
    → waits_in flags clock queues p + waits_at_units kernel.units p + at_disk kernel.disk p ≤ 1
    → ((q : ℕ) → q ≢ p → waits_in flags clock queues q ≡ waits_in kernel.flags kernel.clock kernel.queues q)
    → IsSoundKernel (record kernel { dispatcher = descheduled p kernel.dispatcher; flags = flags; clock = clock; queues = queues })
sound_unlisted kernel p flags clock queues s h size are own others = record {
  units = s.units;
  owners = s.owners;
  slots = s.slots;
  table = table_removed kernel.dispatcher.lists p s.table;
  flags = size;
  queues = are.sound;
  system = are.system;
  inside = are.inside;
  fit = s.fit;
  once = λ q. elim (cases_eq q p) [
    | inl same ↦
        let none = in_none _ (ap (list_of (removed kernel.dispatcher.lists p)) same ∙ list_of_removed kernel.dispatcher.lists p) in
        let here = ap (λ x. waits_in flags clock queues x + waits_at_units kernel.units x + at_disk kernel.disk x) same in
        omega (arith, none, here, own)
    | inr other ↦
        let there = list_of_removed_other kernel.dispatcher.lists p q s.table (not_equal p q (λ e. other (sym e))) in
        omega (arith, ap in_lists there, others q other, s.once q)
  ];
  live = λ q some. elim (cases_eq q p) [
    | inl same ↦ ap (lives kernel.dispatcher.procs) same ∙ h
    | inr other ↦
        let there = list_of_removed_other kernel.dispatcher.lists p q s.table (not_equal p q (λ e. other (sym e))) in
        s.live q (omega (arith, ap in_lists there, others q other, some))
  ];
  runs = λ q e.
      list_of_removed_other kernel.dispatcher.lists p q s.table (not_equal p q (λ x. (runs_other p q kernel.dispatcher.running e).0 (sym x)))
      ∙ s.runs q (runs_other p q kernel.dispatcher.running e).1;
}

-- nobody waits more than before
pub sound_fewer : (kernel : Kernel) (flags : List Flag) (clock : Clock) (queues : Queues) → IsSoundKernel kernel → length flags ≡ 32 → AreQueues kernel queues
    → ((q : ℕ) → waits_in flags clock queues q ≤ waits_in kernel.flags kernel.clock kernel.queues q)
    → IsSoundKernel (record kernel { flags = flags; clock = clock; queues = queues })
sound_fewer kernel flags clock queues s size are fewer = record {
  units = s.units;
  owners = s.owners;
  slots = s.slots;
  table = s.table;
  flags = size;
  queues = are.sound;
  system = are.system;
  inside = are.inside;
  fit = s.fit;
  once = λ q. omega (arith, s.once q, fewer q);
  live = λ q some. s.live q (omega (arith, fewer q, some));
  runs = s.runs;
}

-- a ready process is put after its equals
pub turned : (kernel : Kernel) (p : ℕ) → IsReady kernel.dispatcher p → dispatched (behind_equals p) kernel ≡ dispatched (moved ready p) kernel
unfolding reinserted
turned kernel p is_ready =
    let priority = (process_in kernel.dispatcher.procs p).priority in
    let with_lists : List (List Member) → Kernel = λ lists. record kernel { dispatcher = record kernel.dispatcher { lists = lists } } in
    ap with_lists (ap (reinserted kernel.dispatcher.lists p priority) is_ready)

pub sound_behind_equals : (kernel : Kernel) (p : ℕ) → IsSoundKernel kernel → Lives kernel.dispatcher.procs p → IsReady kernel.dispatcher p → IsSoundKernel (dispatched (behind_equals p) kernel)
sound_behind_equals kernel p s h is_ready =
    let P : Kernel → Type 0 = λ k. IsSoundKernel k in
    subst P (sym (turned kernel p is_ready)) (sound_ready kernel p s h (listed_once kernel p ready s is_ready))

pub lives_behind_equals : (kernel : Kernel) (p q : ℕ) → Lives kernel.dispatcher.procs q → Lives (dispatched (behind_equals p) kernel).dispatcher.procs q
lives_behind_equals kernel p q h = h

-- processes that wait for nothing else become ready, one after the other

abbrev pub MayBeReady : Kernel → ℕ → Type 0
MayBeReady kernel p = Lives kernel.dispatcher.procs p × (waits_of kernel p ≡ 0)

pub sound_all_ready : (ps : List ℕ) (kernel : Kernel) → IsSoundKernel kernel → AllByRecursion (MayBeReady kernel) ps → IsSoundKernel (dispatched (all_ready ps) kernel)
unfolding ready_in
sound_all_ready [] kernel s may = s
sound_all_ready (p ∷ ps) kernel s may = sound_all_ready ps (dispatched (moved ready p) kernel) (sound_ready kernel p s may.0.0 may.0.1) may.1

pub procs_all_ready : (ps : List ℕ) (kernel : Kernel) → (dispatched (all_ready ps) kernel).dispatcher.procs ≡ kernel.dispatcher.procs
procs_all_ready ps kernel = refl

pub running_all_ready : (ps : List ℕ) (kernel : Kernel) → (dispatched (all_ready ps) kernel).dispatcher.running ≡ kernel.dispatcher.running
running_all_ready ps kernel = refl

-- who runs is put after its equals
behind_if : (b : Bool) (kernel : Kernel) (p : ℕ) → IsSoundKernel kernel → (b ≡ true → IsReady kernel.dispatcher p)
    → IsSoundKernel (record kernel { dispatcher = record kernel.dispatcher { lists = if b then rotated_in kernel.dispatcher.procs kernel.dispatcher.lists p else kernel.dispatcher.lists } })
behind_if true kernel p s h = sound_behind_equals kernel p s (listed kernel p ready s (h refl)) (h refl)
behind_if false kernel p s h = s

sound_lists_behind : (running : Option ℕ) (kernel : Kernel) → IsSoundKernel kernel
    → IsSoundKernel (record kernel { dispatcher = record kernel.dispatcher { lists = lists_behind running kernel.dispatcher.procs kernel.dispatcher.lists } })
unfolding lists_behind
sound_lists_behind None kernel s = s
sound_lists_behind (Some p) kernel s = behind_if (is_ready (list_of kernel.dispatcher.lists p)) kernel p s (is_ready_true (list_of kernel.dispatcher.lists p))

pub sound_runner_behind : (kernel : Kernel) → IsSoundKernel kernel → IsSoundKernel (dispatched runner_behind kernel)
sound_runner_behind kernel s = sound_lists_behind kernel.dispatcher.running kernel s

-- a call begins, or an event
pub sound_begun : (echoes : Bool) (kernel : Kernel) → IsSoundKernel kernel → IsSoundKernel (call_begun echoes kernel)
sound_begun echoes kernel s = record {
  units = s.units;
  owners = s.owners;
  slots = s.slots;
  table = s.table;
  flags = s.flags;
  queues = s.queues;
  system = s.system;
  inside = s.inside;
  fit = s.fit;
  once = s.once;
  live = s.live;
  runs = s.runs;
}

pub sound_afresh : (kernel : Kernel) → IsSoundKernel kernel → IsSoundKernel (afresh kernel)
sound_afresh kernel s = record {
  units = s.units;
  owners = s.owners;
  slots = s.slots;
  table = s.table;
  flags = s.flags;
  queues = s.queues;
  system = s.system;
  inside = s.inside;
  fit = s.fit;
  once = s.once;
  live = s.live;
  runs = s.runs;
}

-- calls are completed
pub sound_with_completed : (kernel : Kernel) (ps : List ℕ) → IsSoundKernel kernel → IsSoundKernel (dispatched (with_completed ps) kernel)
sound_with_completed kernel ps s = record {
  units = s.units;
  owners = s.owners;
  slots = s.slots;
  table = s.table;
  flags = s.flags;
  queues = s.queues;
  system = s.system;
  inside = s.inside;
  fit = s.fit;
  once = s.once;
  live = s.live;
  runs = s.runs;
}
