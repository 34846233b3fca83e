-- All residents of a machine as it is run: the interpreter, the terminal message processors, the spooler and the scheduler.
use Rattle.std.proofs.Common.{◌≡◌, ◌∙◌, ℕ, zero, suc, ◌+◌, ◌<◌, ◌≤◌, Bool, true, false, is_some, None, List, [], ◌∷◌, ◌++◌, refl, sym, ap, subst, arith, add-one, length}
use Rattle.mpm_queues.specs.Queues.{no_queues, make_error}
use Rattle.mpm_kernel.specs.Kernel.{Kernel, IsSoundKernel, dispatched}
use Rattle.mpm_procs.specs.declared.process.NewProcess.{NewProcess}
use Rattle.mpm_residents.specs.declared.native.Native.{Native}
use Rattle.mpm_kernel.specs.Queueing.{with_system_queue}
use Rattle.mpm_dispatcher.specs.Dispatch.{picked}
use Rattle.mpm_procs.specs.Table.{lowest_free}
use Rattle.mpm_residents.specs.declared.native.Native.TheVariants.{Spool, Sched}
use Rattle.mpm_sched.specs.Schedulers.{opening as opening_scheduler}
use Rattle.mpm_spool.specs.Spoolers.{opening as opening_spooler}
use Rattle.mpm_system.specs.declared.system.System.{System}
use Rattle.mpm_system.specs.Whole.{IsWhole}
use Rattle.mpm_system.specs.Opening.{with_begun, with_resident, Begun, with_terminals, with_terminal, spool_queue, stop_queue, with_spool_queues, spooler_name, spooler_process, with_spooler, schedule_queue, schedule_number, with_schedule_queue, scheduler_name, scheduler_process, with_scheduler, command_queues, spooling_queues, resident_queues, OnlyHas, begun_by_interpreter, with_interpreting, begun_residents, with_residents}
use Rattle.mpm_system.proofs.QueuedLaws.{room_of, spool_room, stop_room, first_spooling, has_first_spooling, has_spooling, schedule_room, has_schedule}
use Rattle.mpm_system.proofs.OpeningLaws.{begins_queue, begins_both, begun_kernel, begun_still, begun_both, resident_begun, resident_has, resident_here, resident_refused, few_resident, BegunSo, begun_none, begun_more, first_here, command_here}

-- the terminal message processors, as many as there are consoles

pub terminals_begun : (n : ℕ) (start : System) → IsWhole start → n ≤ length start.kernel.units.consoles → BegunSo start (with_terminals n start) n
unfolding with_terminals
terminals_begun zero start w few = begun_none start w
terminals_begun (suc n) start w few =
    let others = terminals_begun n start w (omega (arith, few)) in
    let now = with_terminals n start in
    let next = with_terminal (lowest_free now.kernel.dispatcher.procs) n now in
    subst (λ (k : ℕ). BegunSo start next k) (add-one n) (begun_more start now next n others (omega (arith, few)) refl)

-- the spooler

pub spool_begun : (system : System) → IsWhole system → OnlyHas command_queues system.kernel → Begun system (record system { kernel = with_spool_queues system.kernel })
spool_begun system w only =
    let middle = with_system_queue system.kernel spool_queue 128 8 in
    let first = begins_queue system.kernel spool_queue 128 8 w.sound only.systems (room_of system.kernel command_queues spool_queue 128 8 only spool_room) in
    let has = has_first_spooling system.kernel w.sound only in
    let second = begins_queue middle stop_queue 1 1 first.sound has.systems (room_of middle first_spooling stop_queue 1 1 has stop_room) in
    begun_kernel system (with_spool_queues system.kernel) w (begins_both system.kernel middle (with_spool_queues system.kernel) first second)

pub spooler_begun : (spool : Bool) (system : System) → IsWhole system → OnlyHas command_queues system.kernel → Begun system (with_spooler spool system)
unfolding with_spooler
spooler_begun false system w only = begun_still system w
spooler_begun true system w only =
    let queued = record system { kernel = with_spool_queues system.kernel } in
    let made = spool_begun system w only in
    begun_both system queued _ made (resident_begun spooler_name 200 0 (Spool opening_spooler) queued made.whole (omega (arith, made.whole.sound.units.some)))

pub spooler_has : (spool : Bool) (system : System) → IsWhole system → OnlyHas command_queues system.kernel → OnlyHas (spooling_queues spool) (with_spooler spool system).kernel
unfolding with_spooler
spooler_has false system w only = only
spooler_has true system w only =
    let queued = record system { kernel = with_spool_queues system.kernel } in
    resident_has (lowest_free queued.kernel.dispatcher.procs) spooler_process (Spool opening_spooler) queued (spooling_queues true) (has_spooling system.kernel w.sound only)

pub spooler_few : (spool : Bool) (system : System) → length (with_spooler spool system).residents ≤ length system.residents + 1
unfolding with_spooler
spooler_few false system = omega arith
spooler_few true system =
    let queued = record system { kernel = with_spool_queues system.kernel } in
    few_resident (lowest_free queued.kernel.dispatcher.procs) spooler_process (Spool opening_spooler) queued

-- the scheduler

pub schedule_begun : (spool : Bool) (system : System) → IsWhole system → OnlyHas (spooling_queues spool) system.kernel → Begun system (record system { kernel = with_schedule_queue system.kernel })
schedule_begun spool system w only =
    begun_kernel system (with_schedule_queue system.kernel) w
    (begins_queue system.kernel schedule_queue 128 8 w.sound only.systems (room_of system.kernel (spooling_queues spool) schedule_queue 128 8 only (schedule_room spool)))

pub scheduler_begun : (sched spool : Bool) (queue : ℕ) (system : System) → IsWhole system → OnlyHas (spooling_queues spool) system.kernel → Begun system (with_scheduler sched queue system)
unfolding with_scheduler
scheduler_begun false spool queue system w only = begun_still system w
scheduler_begun true spool queue system w only =
    let queued = record system { kernel = with_schedule_queue system.kernel } in
    let made = schedule_begun spool system w only in
    begun_both system queued _ made (resident_begun scheduler_name 195 0 (Sched (opening_scheduler queue)) queued made.whole (omega (arith, made.whole.sound.units.some)))

pub scheduler_has : (sched spool : Bool) (queue : ℕ) (system : System) → IsWhole system → OnlyHas (spooling_queues spool) system.kernel → OnlyHas (resident_queues spool sched) (with_scheduler sched queue system).kernel
unfolding with_scheduler
scheduler_has false spool queue system w only = only
scheduler_has true spool queue system w only =
    let queued = record system { kernel = with_schedule_queue system.kernel } in
    resident_has (lowest_free queued.kernel.dispatcher.procs) scheduler_process (Sched (opening_scheduler queue)) queued (resident_queues spool true) (has_schedule system.kernel spool w.sound only)

-- all of them

pub all_begun : (consoles : ℕ) (spool sched : Bool) (system : System) → IsWhole system → OnlyHas no_queues system.kernel → consoles ≡ length system.kernel.units.consoles
    → Begun system (begun_residents consoles spool sched system)
unfolding begun_residents
all_begun consoles spool sched system w only many =
    let first = with_interpreting consoles (begun_by_interpreter system) in
    let begun = first_here system first consoles w only refl in
    let terminals = terminals_begun consoles first begun.whole (omega (arith, many, begun.consoles)) in
    let so_far = begun_both system first (with_terminals consoles first) begun terminals.begun in
    let has = terminals.has command_queues (command_here system first consoles w only refl) in
    let spooler = spooler_begun spool (with_terminals consoles first) so_far.whole has in
    let middle = with_spooler spool (with_terminals consoles first) in
    let before = begun_both system (with_terminals consoles first) middle so_far spooler in
    begun_both system middle _ before
    (scheduler_begun sched spool (schedule_number spool) middle before.whole (spooler_has spool (with_terminals consoles first) so_far.whole has))

pub all_here : (old now : System) (consoles : ℕ) (spool sched : Bool) → IsWhole old → OnlyHas no_queues old.kernel → consoles ≡ length old.kernel.units.consoles → now ≡ begun_residents consoles spool sched old
    → Begun old now
all_here old now consoles spool sched w only many is = subst (λ (s : System). Begun old s) (sym is) (all_begun consoles spool sched old w only many)

pub residents_here : (old now : System) (kernel : Kernel) (consoles : ℕ) (spool sched : Bool) → now ≡ begun_residents consoles spool sched old → kernel ≡ dispatched (picked false) now.kernel
    → record now { kernel = kernel } ≡ with_residents consoles spool sched old
unfolding with_residents
residents_here old now kernel consoles spool sched is picks =
    ap (λ k. record now { kernel = k }) picks ∙ ap (λ (s : System). record s { kernel = dispatched (picked false) s.kernel }) is

pub begun_in_turn : (old first terminals spooled now : System) (consoles : ℕ) (spool sched : Bool) → first ≡ with_interpreting consoles (begun_by_interpreter old) → terminals ≡ with_terminals consoles first
    → spooled ≡ with_spooler spool terminals → now ≡ with_scheduler sched (schedule_number spool) spooled → now ≡ begun_residents consoles spool sched old
unfolding begun_residents
begun_in_turn old first terminals spooled now consoles spool sched one two three four =
    four ∙ ap (with_scheduler sched (schedule_number spool)) (three ∙ ap (with_spooler spool) (two ∙ ap (with_terminals consoles) one))

-- what each asks for

pub spooler_here : (old new : System) (spool : Bool) → IsWhole old → OnlyHas command_queues old.kernel → new ≡ with_spooler spool old → Begun old new
spooler_here old new spool w only is = subst (λ (s : System). Begun old s) (sym is) (spooler_begun spool old w only)

pub spooling_here : (old new : System) (spool : Bool) → IsWhole old → OnlyHas command_queues old.kernel → new ≡ with_spooler spool old → OnlyHas (spooling_queues spool) new.kernel
spooling_here old new spool w only is = subst (λ (s : System). OnlyHas (spooling_queues spool) s.kernel) (sym is) (spooler_has spool old w only)

pub spooler_few_here : (old new : System) (spool : Bool) → new ≡ with_spooler spool old → length new.residents ≤ length old.residents + 1
spooler_few_here old new spool is = subst (λ (s : System). length s.residents ≤ length old.residents + 1) (sym is) (spooler_few spool old)

-- a resident that begins after queues which were made for it

pub queued_here : (old : System) (queued made kernel : Kernel) (residents : List Native) (begun : Bool) (new is : NewProcess) (native : Native) → queued ≡ made
    → kernel ≡ with_begun (lowest_free queued.dispatcher.procs) new queued → begun ≡ is_some (lowest_free queued.dispatcher.procs) → begun ≡ true → residents ≡ old.residents ++ native ∷ [] → new ≡ is
    → record old { kernel = kernel; residents = residents } ≡ with_resident (lowest_free made.dispatcher.procs) is native (record old { kernel = made })
queued_here old queued made kernel residents begun new is native queue there some so more same =
    resident_here (record old { kernel = queued }) kernel residents (lowest_free queued.dispatcher.procs) begun new is native there some so more same
    ∙ ap (λ (k : Kernel). with_resident (lowest_free k.dispatcher.procs) is native (record old { kernel = k })) queue

pub queued_refused : (old : System) (queued made kernel : Kernel) (begun : Bool) (new is : NewProcess) (native : Native) → queued ≡ made → kernel ≡ with_begun (lowest_free queued.dispatcher.procs) new queued
    → begun ≡ is_some (lowest_free queued.dispatcher.procs) → begun ≡ false → new ≡ is → record old { kernel = kernel } ≡ with_resident (lowest_free made.dispatcher.procs) is native (record old { kernel = made })
queued_refused old queued made kernel begun new is native queue there some none same =
    resident_refused (record old { kernel = queued }) kernel (lowest_free queued.dispatcher.procs) begun new is native there some none same
    ∙ ap (λ (k : Kernel). with_resident (lowest_free k.dispatcher.procs) is native (record old { kernel = k })) queue

pub spooler_is : (old : System) (spool : Bool) → spool ≡ true
    → with_resident (lowest_free (with_spool_queues old.kernel).dispatcher.procs) spooler_process (Spool opening_spooler) (record old { kernel = with_spool_queues old.kernel }) ≡ with_spooler spool old
unfolding with_spooler
spooler_is old true e = refl
spooler_is old false e = absurd (cc)

pub no_spooler : (old : System) (spool : Bool) → spool ≡ false → old ≡ with_spooler spool old
unfolding with_spooler
no_spooler old false e = refl
no_spooler old true e = absurd (cc)

pub scheduler_is : (old : System) (sched : Bool) (queue : ℕ) → sched ≡ true
    → with_resident (lowest_free (with_schedule_queue old.kernel).dispatcher.procs) scheduler_process (Sched (opening_scheduler queue)) (record old { kernel = with_schedule_queue old.kernel }) ≡ with_scheduler sched queue old
unfolding with_scheduler
scheduler_is old true queue e = refl
scheduler_is old false queue e = absurd (cc)

pub no_scheduler : (old : System) (sched : Bool) (queue : ℕ) → sched ≡ false → old ≡ with_scheduler sched queue old
unfolding with_scheduler
no_scheduler old false queue e = refl
no_scheduler old true queue e = absurd (cc)

-- the kernel with these queues is sound, and has as many consoles

pub record Queued (queued : Kernel) : Type 0 where
  pub sound : IsSoundKernel queued
  pub some : 0 < length queued.units.consoles

pub spool_queued : (old : System) (queued : Kernel) → IsWhole old → OnlyHas command_queues old.kernel → queued ≡ with_spool_queues old.kernel → Queued queued
spool_queued old queued w only is =
    let whole = (spool_begun old w only).whole in
    subst Queued (sym is) (record { sound = whole.sound; some = omega (arith, whole.sound.units.some) })

pub schedule_queued : (old : System) (queued : Kernel) (spool : Bool) → IsWhole old → OnlyHas (spooling_queues spool) old.kernel → queued ≡ with_schedule_queue old.kernel → Queued queued
schedule_queued old queued spool w only is =
    let whole = (schedule_begun spool old w only).whole in
    subst Queued (sym is) (record { sound = whole.sound; some = omega (arith, whole.sound.units.some) })

pub schedule_fits : (kernel : Kernel) (spool : Bool) → OnlyHas (spooling_queues spool) kernel → make_error kernel.queues schedule_queue 128 8 ≡ None
schedule_fits kernel spool only = room_of kernel (spooling_queues spool) schedule_queue 128 8 only (schedule_room spool)
