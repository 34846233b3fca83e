-- A machine as it is run: the command queue, the command line interpreter, the terminal message processors.
use Rattle.std.proofs.lemmas.Bool.{false≢true}
use Rattle.std.proofs.Common.{◌≡◌, ◌∙◌, ℕ, ◌+◌, ◌<◌, ◌≤◌, Bool, true, false, is_some, ap₂, List, [], ◌∷◌, ◌++◌, Option, Some, None, codes, refl, sym, ap, subst, arith, add-one, length, length-append}
use Rattle.mpm_procs.specs.Table.{Lives, process_in, lowest_free}
use Rattle.mpm_procs.specs.declared.process.Process.{Process}
use Rattle.mpm_procs.specs.declared.process.NewProcess.{NewProcess}
use Rattle.mpm_procs.proofs.MapLaws.{lives_added, lives_changed, free_below}
use Rattle.mpm_queues.specs.Queues.{Queues, make_error, no_queues}
use Rattle.mpm_kernel.specs.Kernel.{Kernel, IsSoundKernel, CompletedLive, with_changed, new_kernel, dispatched}
use Rattle.mpm_dispatcher.specs.Dispatch.{admitted, in_slot, picked, new_dispatcher}
use Rattle.mpm_kernel.specs.Queueing.{OnlySystems, with_queue, with_system_queue}
use Rattle.mpm_kernel.proofs.SoundLaws.{sound_changed, sound_admitted, sound_picked, live_kept}
use Rattle.mpm_kernel.proofs.SystemQueues.{sound_system_queue, only_systems_new}
use Rattle.mpm_kernel.proofs.HomeLaws.{SameHomes, homes_stay, homes_both, homes_changed, homes_admitted, lives_on}
use Rattle.mpm_kernel.specs.Consoling.{given}
use Rattle.mpm_kernel.proofs.GivingLaws.{sound_gave}
use Rattle.mpm_kernel.proofs.EnsuredLaws.{many_new}
use Rattle.mpm_base.specs.declared.number.Name8.{Name8}
use Rattle.mpm_residents.specs.Terminals.{opening}
use Rattle.mpm_residents.specs.declared.native.Native.{Native}
use Rattle.mpm_residents.specs.declared.native.Native.TheVariants.{Tmp, Cli}
use Rattle.mpm_residents.specs.Interpreters.{opening as opening_interpreter}
use Rattle.mpm_script.specs.declared.event.Timed.{Timed}
use Rattle.mpm_machine_file.specs.declared.machine_file.MachineFile.{MachineFile}
use Rattle.mpm_system.specs.declared.system.System.{System}
use Rattle.mpm_system.specs.Whole.{IsWhole, NoCompletions}
use Rattle.mpm_system.specs.Opening.{resident_process, with_begun, with_resident, with_interpreter, terminal_name, terminal_process, Begun, with_terminal, with_terminals, command_queue, with_command_queue, command_queues, OnlyHas, begun_by_interpreter, with_interpreting, with_residents, moment_of, booted, opened}
use Rattle.mpm_system.proofs.QueuedLaws.{room_of, command_room, has_command}
use Rattle.mpm_system.proofs.WholeLaws.{whole_kernel, whole_residents}

-- what is so of a kernel in which a resident begins, whose process is then another one of no segment
pub record Begins (old new : Kernel) : Type 0 where
  pub sound : IsSoundKernel new
  pub homes : SameHomes old new
  pub live : CompletedLive old → CompletedLive new
  pub completed : new.dispatcher.completed ≡ old.dispatcher.completed
  pub consoles : length new.units.consoles ≡ length old.units.consoles
  pub disk : new.disk ≡ old.disk

-- after a process that has begun, its own process is changed
begins_changed : (old begun : Kernel) (p : ℕ) (process : Process) → Begins old begun → Lives begun.dispatcher.procs p
    → process.console ≡ (process_in begun.dispatcher.procs p).console → process.printer ≡ (process_in begun.dispatcher.procs p).printer
    → 1 ≤ process.multi → process.multi ≤ 16
    → process.seg ≡ (process_in begun.dispatcher.procs p).seg → process.abort_due ≡ (process_in begun.dispatcher.procs p).abort_due
    → process.procedure ≡ (process_in begun.dispatcher.procs p).procedure → Begins old (with_changed begun p process)
begins_changed old begun p process b h console printer some few seg due procedure =
    let fit = b.sound.fit p h in
    record {
      sound = sound_changed begun p process b.sound h (record {
        console = omega (arith, console, fit.console);
        printer = λ there. omega (arith, printer, fit.printer there);
        some = some;
        few = few;
      }) (λ q is. b.sound.inside p q h (sym procedure ∙ is));
      homes = homes_both old begun _ b.homes (homes_changed begun p process b.sound.slots h seg due);
      live = λ live. live_kept begun (with_changed begun p process) refl (λ q living. lives_changed begun.dispatcher.procs p q process ∙ living) (b.live live);
      completed = b.completed;
      consoles = b.consoles;
      disk = b.disk;
    }

homeless : (new : NewProcess) (seg : ℕ) (A : Type 0) → new.seg ≡ None → new.seg ≡ Some seg → A
homeless new seg A none some = absurd (none_is_some (sym none ∙ some)) where
  none_is_some : None ≡ Some seg → ⊥
  none_is_some e = absurd (cc)

begins_admitted : (kernel : Kernel) (p : ℕ) (new : NewProcess) → IsSoundKernel kernel → lowest_free kernel.dispatcher.procs ≡ Some p → new.console < length kernel.units.consoles
    → new.seg ≡ None → Begins kernel (dispatched (admitted p new) kernel)
begins_admitted kernel p new s free console none = record {
  sound = sound_admitted kernel p new s free console;
  homes = homes_admitted kernel p new s.slots free (λ seg some. homeless new seg _ none some);
  live = λ live. live_kept kernel (dispatched (admitted p new) kernel) refl (λ q living. lives_on kernel new (Some p) q free living) live;
  completed = refl;
  consoles = refl;
  disk = refl;
}

begins_nothing : (kernel : Kernel) → IsSoundKernel kernel → Begins kernel kernel
begins_nothing kernel s = record { sound = s; homes = homes_stay kernel kernel refl; live = λ live. live; completed = refl; consoles = refl; disk = refl }

lives_begun : (kernel : Kernel) (p : ℕ) (new : NewProcess) → IsSoundKernel kernel → lowest_free kernel.dispatcher.procs ≡ Some p → Lives (dispatched (admitted p new) kernel).dispatcher.procs p
lives_begun kernel p new s free = lives_added kernel.dispatcher.procs p new (free_below kernel.dispatcher.procs p free)

-- the command line interpreter

begins_interpreter : (slot : Option ℕ) (kernel : Kernel) → IsSoundKernel kernel → lowest_free kernel.dispatcher.procs ≡ slot → Begins kernel (with_interpreter slot kernel)
unfolding with_interpreter resident_process
begins_interpreter None kernel s free = begins_nothing kernel s
begins_interpreter (Some p) kernel s free =
    let new = resident_process (record { 0 = codes "cli     " }) 190 0 in
    begins_changed kernel (dispatched (admitted p new) kernel) p _ (begins_admitted kernel p new s free (omega (arith, s.units.some)) refl)
    (lives_begun kernel p new s free) refl refl (omega arith) (omega arith) refl refl refl

interpreter_has : (slot : Option ℕ) (kernel : Kernel) (queues : Queues) → OnlyHas queues kernel → OnlyHas queues (with_interpreter slot kernel)
unfolding with_interpreter
interpreter_has None kernel queues only = only
interpreter_has (Some p) kernel queues only = record { systems = record { all = only.systems.all }; are = only.are }

pub begins_queue : (kernel : Kernel) (name : Name8) (width count : ℕ) → IsSoundKernel kernel → OnlySystems kernel → make_error kernel.queues name width count ≡ None
    → Begins kernel (with_system_queue kernel name width count)
unfolding with_system_queue with_queue
begins_queue kernel name width count s only none = record {
  sound = sound_system_queue kernel name width count s only none;
  homes = homes_stay kernel (with_system_queue kernel name width count) refl;
  live = λ live. live;
  completed = refl;
  consoles = refl;
  disk = refl;
}

pub begins_both : (old middle new : Kernel) → Begins old middle → Begins middle new → Begins old new
begins_both old middle new one other = record {
  sound = other.sound;
  homes = homes_both old middle new one.homes other.homes;
  live = λ live. other.live (one.live live);
  completed = other.completed ∙ one.completed;
  consoles = other.consoles ∙ one.consoles;
  disk = other.disk ∙ one.disk;
}

begins_first : (kernel : Kernel) → IsSoundKernel kernel → OnlyHas no_queues kernel
    → Begins kernel (with_interpreter (lowest_free (with_command_queue kernel).dispatcher.procs) (with_command_queue kernel))
begins_first kernel s only =
    let queued = begins_queue kernel command_queue 130 15 s only.systems (room_of kernel no_queues command_queue 130 15 only command_room) in
    begins_both kernel (with_command_queue kernel) _ queued (begins_interpreter _ (with_command_queue kernel) queued.sound refl)

pub begun_kernel : (system : System) (kernel : Kernel) → IsWhole system → Begins system.kernel kernel → Begun system (record system { kernel = kernel })
begun_kernel system kernel w b = record {
  whole = whole_kernel system kernel w b.sound (b.live w.live) b.homes;
  completed = b.completed;
  consoles = b.consoles;
  disk = b.disk;
  steps = refl;
  records = refl;
  owed = refl;
}

first_begun : (system : System) → IsWhole system → OnlyHas no_queues system.kernel → Begun system (begun_by_interpreter system)
unfolding begun_by_interpreter
first_begun system w only = begun_kernel system _ w (begins_first system.kernel w.sound only)

pub begun_residing : (old new : System) (residents : List Native) → Begun old new → Begun old (record new { residents = residents })
begun_residing old new residents b =
    record { whole = whole_residents new residents b.whole; completed = b.completed; consoles = b.consoles; disk = b.disk; steps = b.steps; records = b.records; owed = b.owed }

pub begun_still : (system : System) → IsWhole system → Begun system system
begun_still system w = record { whole = w; completed = refl; consoles = refl; disk = refl; steps = refl; records = refl; owed = refl }

pub begun_both : (old middle new : System) → Begun old middle → Begun middle new → Begun old new
begun_both old middle new one other = record {
  whole = other.whole;
  completed = other.completed ∙ one.completed;
  consoles = other.consoles ∙ one.consoles;
  disk = other.disk ∙ one.disk;
  steps = other.steps ∙ one.steps;
  records = other.records ∙ one.records;
  owed = other.owed ∙ one.owed;
}

pub interpreting_begun : (consoles : ℕ) (system : System) → IsWhole system → OnlyHas no_queues system.kernel → Begun system (with_interpreting consoles (begun_by_interpreter system))
interpreting_begun consoles system w only = begun_residing system (begun_by_interpreter system) _ (first_begun system w only)

-- a resident that begins in a slot, with a console that is there

residing : (slot : Option ℕ) (new : NewProcess) (native : Native) (system : System) → IsWhole system → lowest_free system.kernel.dispatcher.procs ≡ slot → new.console < length system.kernel.units.consoles
    → new.seg ≡ None → Begun system (with_resident slot new native system)
unfolding with_resident with_begun
residing None new native system w free below none = begun_still system w
residing (Some p) new native system w free below none =
    let s = w.sound in
    let begun = dispatched (admitted p new) system.kernel in
    let admits = begins_admitted system.kernel p new s free below none in
    let lives_now = lives_begun system.kernel p new s free in
    let fit = admits.sound.fit p lives_now in
    let b = begins_changed system.kernel begun p (record (process_in begun.dispatcher.procs p) { error_mode = 255 }) admits lives_now refl refl fit.some fit.few refl refl refl in
    begun_residing system (record system { kernel = with_changed begun p (record (process_in begun.dispatcher.procs p) { error_mode = 255 }) }) _ (begun_kernel system _ w b)

pub resident_begun : (name : Name8) (priority console : ℕ) (native : Native) (system : System) → IsWhole system → console < length system.kernel.units.consoles
    → Begun system (with_resident (lowest_free system.kernel.dispatcher.procs) (resident_process name priority console) native system)
unfolding resident_process
resident_begun name priority console native system w below =
    residing (lowest_free system.kernel.dispatcher.procs) (resident_process name priority console) native system w refl below refl

pub terminal_begun : (console : ℕ) (system : System) → IsWhole system → console < length system.kernel.units.consoles
    → Begun system (with_terminal (lowest_free system.kernel.dispatcher.procs) console system)
terminal_begun console system w below = resident_begun (terminal_name console) 198 console (Tmp (opening console)) system w below

-- the queues stay

begun_has : (slot : Option ℕ) (new : NewProcess) (kernel : Kernel) (queues : Queues) → OnlyHas queues kernel → OnlyHas queues (with_begun slot new kernel)
unfolding with_begun
begun_has None new kernel queues only = only
begun_has (Some p) new kernel queues only = record { systems = record { all = only.systems.all }; are = only.are }

pub resident_has : (slot : Option ℕ) (new : NewProcess) (native : Native) (system : System) (queues : Queues) → OnlyHas queues system.kernel → OnlyHas queues (with_resident slot new native system).kernel
unfolding with_resident
resident_has slot new native system queues only = begun_has slot new system.kernel queues only

-- one for each console

pub no_terminals : (system : System) → with_terminals 0 system ≡ system
unfolding with_terminals
no_terminals system = refl

pub more_terminals : (n : ℕ) (system : System)
    → with_terminals (n + 1) system ≡ with_terminal (lowest_free (with_terminals n system).kernel.dispatcher.procs) n (with_terminals n system)
unfolding with_terminals
more_terminals n system = ap (λ k. with_terminals k system) (add-one n)

-- each is one resident more at most

residents_begun : (system : System) → (begun_by_interpreter system).residents ≡ system.residents
unfolding begun_by_interpreter
residents_begun system = refl

pub none_begun : (old now : System) → old.residents ≡ [] → now ≡ begun_by_interpreter old → now.residents ≡ []
none_begun old now none is = ap (λ (s : System). s.residents) is ∙ residents_begun old ∙ none

pub one_begun : (old now : System) (consoles : ℕ) → old.residents ≡ [] → now ≡ with_interpreting consoles (begun_by_interpreter old) → length now.residents ≡ 1
one_begun old now consoles none is =
    ap (λ (s : System). length s.residents) is
    ∙ ap (λ (residents : List Native). length (residents ++ Cli (opening_interpreter consoles) ∷ [])) (residents_begun old ∙ none)

pub few_resident : (slot : Option ℕ) (new : NewProcess) (native : Native) (system : System) → length (with_resident slot new native system).residents ≤ length system.residents + 1
unfolding with_resident
few_resident None new native system = omega arith
few_resident (Some p) new native system = omega (arith, length-append system.residents (native ∷ []))

-- some have begun
pub record BegunSo (start now : System) (n : ℕ) : Type 0 where
  pub is : now ≡ with_terminals n start
  pub begun : Begun start now
  pub few : length now.residents ≤ length start.residents + n
  pub has : (queues : Queues) → OnlyHas queues start.kernel → OnlyHas queues now.kernel

pub begun_none : (start : System) → IsWhole start → BegunSo start start 0
begun_none start w = record { is = sym (no_terminals start); begun = begun_still start w; few = omega arith; has = λ queues only. only }

pub begun_more : (start now next : System) (n : ℕ) → BegunSo start now n → n < length start.kernel.units.consoles
    → next ≡ with_terminal (lowest_free now.kernel.dispatcher.procs) n now → BegunSo start next (n + 1)
begun_more start now next n so below is =
    let slot = lowest_free now.kernel.dispatcher.procs in
    record {
      is = is ∙ ap (λ (s : System). with_terminal (lowest_free s.kernel.dispatcher.procs) n s) so.is ∙ sym (more_terminals n start);
      begun = subst (λ (s : System). Begun start s) (sym is)
          (begun_both start now _ so.begun (terminal_begun n now so.begun.whole (omega (arith, below, so.begun.consoles))));
      few = omega (arith, so.few, few_resident slot (terminal_process n) (Tmp (opening n)) now, ap (λ (s : System). length s.residents) is);
      has = λ queues only.
          subst (λ (s : System). OnlyHas queues s.kernel) (sym is) (resident_has slot (terminal_process n) (Tmp (opening n)) now queues (so.has queues only));
    }

-- and it is picked who runs
pub whole_picked : (afterwards : System) (kernel : Kernel) → IsWhole afterwards → kernel ≡ dispatched (picked false) afterwards.kernel → IsWhole (record afterwards { kernel = kernel })
whole_picked afterwards kernel w is =
    let P : Kernel → Type 0 = λ k. IsWhole (record afterwards { kernel = k }) in
    subst P (sym is)
    (whole_kernel afterwards _ w (sound_picked afterwards.kernel false w.sound) w.live (homes_stay _ _ refl))

pub no_completions_picked : (afterwards : System) (kernel : Kernel) → kernel ≡ dispatched (picked false) afterwards.kernel → NoCompletions afterwards
    → NoCompletions (record afterwards { kernel = kernel })
no_completions_picked afterwards kernel is none = record {
  answered = ap (λ (k : Kernel). k.dispatcher.completed) is ∙ none.answered;
  written = none.written;
  paid = λ idle. none.paid (ap (λ (k : Kernel). k.disk.served) (sym is) ∙ idle);
}

-- a process that begins gets its console

pub record AdmittedHere (kernel : Kernel) (p n : ℕ) : Type 0 where
  pub sound : IsSoundKernel kernel
  pub console : n < length kernel.units.consoles
  pub lives : Lives kernel.dispatcher.procs p

pub admitted_here : (old now : Kernel) (p : ℕ) (new : NewProcess) → IsSoundKernel old → new.console < length old.units.consoles → lowest_free old.dispatcher.procs ≡ Some p
    → now ≡ dispatched (in_slot new (lowest_free old.dispatcher.procs)) old → AdmittedHere now p new.console
admitted_here old now p new s below free is =
    let P : Kernel → Type 0 = λ kernel. AdmittedHere kernel p new.console in
    subst P (sym (is ∙ ap (λ o. dispatched (in_slot new o) old) free)) (record {
      sound = sound_admitted old p new s free below;
      console = below;
      lives = lives_begun old p new s free;
    })

pub sound_begun : (old now : Kernel) (console p : ℕ) → AdmittedHere old p console → now ≡ given console None (Some p) old → IsSoundKernel now
sound_begun old now console p a is = subst IsSoundKernel (sym is) (sound_gave console None (Some p) old a.sound a.console a.lives)

-- the system as it is reached

pub command_fits : (kernel : Kernel) → OnlyHas no_queues kernel → make_error kernel.queues command_queue 130 15 ≡ None
command_fits kernel only = room_of kernel no_queues command_queue 130 15 only command_room

pub sound_queued : (kernel queued : Kernel) → IsSoundKernel kernel → OnlyHas no_queues kernel → queued ≡ with_command_queue kernel → IsSoundKernel queued
sound_queued kernel queued s only is = subst IsSoundKernel (sym is) (begins_queue kernel command_queue 130 15 s only.systems (command_fits kernel only)).sound

interpreter : NewProcess
interpreter = resident_process (record { 0 = codes "cli     " }) 190 0

interpreter_at : (queued : Kernel) (p : ℕ) → with_interpreter (Some p) queued
    ≡ with_changed (dispatched (admitted p interpreter) queued) p
    (record (process_in (dispatched (admitted p interpreter) queued).dispatcher.procs p) { error_mode = 255; multi = 16 })
unfolding with_interpreter interpreter
interpreter_at queued p = refl

begun_is : (old : System) (queued : Kernel) → queued ≡ with_command_queue old.kernel
    → record old { kernel = with_interpreter (lowest_free queued.dispatcher.procs) queued } ≡ begun_by_interpreter old
unfolding begun_by_interpreter
begun_is old queued is = ap (λ (k : Kernel). record old { kernel = with_interpreter (lowest_free k.dispatcher.procs) k }) is

pub interpreter_here : (old : System) (queued now : Kernel) (p : ℕ) (new : NewProcess) (process : Process) → queued ≡ with_command_queue old.kernel
    → now ≡ dispatched (in_slot new (lowest_free queued.dispatcher.procs)) queued → lowest_free queued.dispatcher.procs ≡ Some p → new ≡ resident_process (record { 0 = codes "cli     " }) 190 0
    → process ≡ process_in now.dispatcher.procs p
    → record old { kernel = with_changed now p (record process { error_mode = 255; multi = 16 }) } ≡ begun_by_interpreter old
unfolding interpreter
interpreter_here old queued now p new process queue is free made same =
    let there : now ≡ dispatched (admitted p interpreter) queued =
    is ∙ ap (λ o. dispatched (in_slot new o) queued) free ∙ ap (λ n. dispatched (admitted p n) queued) made in
    ap (λ x. record old { kernel = with_changed now p (record x { error_mode = 255; multi = 16 }) }) same
    ∙ ap (λ (k : Kernel). record old { kernel = with_changed k p (record (process_in k.dispatcher.procs p) { error_mode = 255; multi = 16 }) }) there
    ∙ ap (λ k. record old { kernel = k }) (sym (interpreter_at queued p))
    ∙ ap (λ o. record old { kernel = with_interpreter o queued }) (sym free)
    ∙ begun_is old queued queue

pub no_interpreter : (old : System) (queued now : Kernel) (new : NewProcess) → queued ≡ with_command_queue old.kernel
    → now ≡ dispatched (in_slot new (lowest_free queued.dispatcher.procs)) queued → lowest_free queued.dispatcher.procs ≡ None → record old { kernel = now } ≡ begun_by_interpreter old
unfolding with_interpreter
no_interpreter old queued now new queue is none =
    ap (λ k. record old { kernel = k }) (is ∙ ap (λ o. dispatched (in_slot new o) queued) none)
    ∙ ap (λ o. record old { kernel = with_interpreter o queued }) (sym none)
    ∙ begun_is old queued queue

-- a resident, as it is reached

pub process_begun : (old now : Kernel) (p : ℕ) (new : NewProcess) (process : Process) → now ≡ dispatched (in_slot new (lowest_free old.dispatcher.procs)) old → lowest_free old.dispatcher.procs ≡ Some p
    → process ≡ process_in now.dispatcher.procs p → with_changed now p (record process { error_mode = 255 }) ≡ with_begun (lowest_free old.dispatcher.procs) new old
unfolding with_begun
process_begun old now p new process is free same =
    ap (λ x. with_changed now p (record x { error_mode = 255 })) same
    ∙ ap (λ (k : Kernel). with_changed k p (record (process_in k.dispatcher.procs p) { error_mode = 255 })) (is ∙ ap (λ o. dispatched (in_slot new o) old) free)
    ∙ ap (λ o. with_begun o new old) (sym free)

pub process_refused : (old now : Kernel) (new : NewProcess) → now ≡ dispatched (in_slot new (lowest_free old.dispatcher.procs)) old → lowest_free old.dispatcher.procs ≡ None
    → now ≡ with_begun (lowest_free old.dispatcher.procs) new old
unfolding with_begun
process_refused old now new is none = is ∙ ap (λ o. dispatched (in_slot new o) old) none ∙ ap (λ o. with_begun o new old) (sym none)

pub resident_here : (old : System) (kernel : Kernel) (residents : List Native) (slot : Option ℕ) (begun : Bool) (new is : NewProcess) (native : Native) → kernel ≡ with_begun slot new old.kernel
    → begun ≡ is_some slot → begun ≡ true → residents ≡ old.residents ++ native ∷ [] → new ≡ is → record old { kernel = kernel; residents = residents } ≡ with_resident slot is native old
unfolding with_resident
resident_here old kernel residents None begun new is native there some yes_so more same = absurd (false≢true (sym some ∙ yes_so))
resident_here old kernel residents (Some p) begun new is native there some yes_so more same =
    ap₂ (λ k r. record old { kernel = k; residents = r }) (there ∙ ap (λ n. with_begun (Some p) n old.kernel) same) more

pub resident_refused : (old : System) (kernel : Kernel) (slot : Option ℕ) (begun : Bool) (new is : NewProcess) (native : Native) → kernel ≡ with_begun slot new old.kernel
    → begun ≡ is_some slot → begun ≡ false → new ≡ is → record old { kernel = kernel } ≡ with_resident slot is native old
unfolding with_resident
resident_refused old kernel None begun new is native there some none same =
    ap (λ k. record old { kernel = k }) (there ∙ ap (λ n. with_begun None n old.kernel) same)
resident_refused old kernel (Some p) begun new is native there some none same = absurd (false≢true (sym none ∙ some))

-- all of it

pub first_here : (old afterwards : System) (consoles : ℕ) → IsWhole old → OnlyHas no_queues old.kernel → afterwards ≡ with_interpreting consoles (begun_by_interpreter old) → Begun old afterwards
first_here old afterwards consoles w only is = subst (λ s. Begun old s) (sym is) (interpreting_begun consoles old w only)

first_has : (old : System) (consoles : ℕ) → IsWhole old → OnlyHas no_queues old.kernel → OnlyHas command_queues (with_interpreting consoles (begun_by_interpreter old)).kernel
unfolding begun_by_interpreter
first_has old consoles w only =
    let queued = with_command_queue old.kernel in
    interpreter_has (lowest_free queued.dispatcher.procs) queued command_queues (has_command old.kernel w.sound only)

pub command_here : (old afterwards : System) (consoles : ℕ) → IsWhole old → OnlyHas no_queues old.kernel → afterwards ≡ with_interpreting consoles (begun_by_interpreter old)
    → OnlyHas command_queues afterwards.kernel
command_here old afterwards consoles w only is = subst (λ (s : System). OnlyHas command_queues s.kernel) (sym is) (first_has old consoles w only)

-- the machine of a machine file, before that

pub record Boots (file : MachineFile) (system : System) : Type 0 where
  pub consoles : file.consoles ≡ length system.kernel.units.consoles
  pub queues : OnlyHas no_queues system.kernel
  pub nobody : system.residents ≡ []

booted_so : (file : MachineFile) (events : List Timed) → Boots file (booted file events)
unfolding booted new_kernel new_dispatcher
booted_so file events = record {
  consoles = sym (many_new file.consoles file.printers (moment_of file));
  queues = record { systems = record { all = λ q made. (only_systems_new file.consoles file.printers (moment_of file)).all q made }; are = refl };
  nobody = refl;
}

pub boots : (file : MachineFile) (events : List Timed) (system : System) → system ≡ booted file events → Boots file system
boots file events system is = subst (Boots file) (sym is) (booted_so file events)

pub opened_here : (file : MachineFile) (events : List Timed) (system afterwards : System) → system ≡ booted file events
    → afterwards ≡ with_residents file.consoles file.spool file.sched system → afterwards ≡ opened file events
unfolding opened
opened_here file events system afterwards is was = was ∙ ap (with_residents file.consoles file.spool file.sched) is
