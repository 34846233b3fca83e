-- The residents of a machine as it is run stand in their slots.
use Rattle.std.proofs.Common.{◌≡◌, ◌≢◌, ◌∙◌, ℕ, zero, suc, ◌+◌, ◌<◌, ◌≤◌, Bool, true, false, not, List, [], ◌∷◌, ◌++◌, length, Option, Some, None, if◌then◌else◌, inl, inr, codes, refl, sym, ap, subst, arith, add-zero, add-one, get_or-set_same}
use Rattle.std.specs.Prelude.{slice_get, nat_lt}
use Rattle.std.proofs.lemmas.Bool.{cases_lt, cases_eq, false≢true}
use Rattle.std.proofs.lemmas.List.{length-map, length_push}
use Rattle.std.proofs.lemmas.Bool.Decides.{nat_tests}
use Rattle.std.proofs.lemmas.List.Sums.{position_or_len_is}
use Rattle.std.proofs.lemmas.Option.{slice_get_past}
use Rattle.mpm_ready.specs.Tables.{no_lists}
use Rattle.mpm_ready.proofs.TableLaws.{table_none, list_of_none, list_of_inserted, list_of_inserted_other}
use Rattle.mpm_base.specs.Calls.{Taken, no_call}
use Rattle.mpm_procs.specs.Table.{Table, HasSlots, lives, Lives, process_in, call_of, lowest_free, added, with_process, no_processes}
use Rattle.mpm_procs.specs.declared.process.Process.{Process}
use Rattle.mpm_procs.specs.declared.process.NewProcess.{NewProcess}
use Rattle.mpm_procs.specs.Opening.{opening as opening_process}
use Rattle.mpm_procs.proofs.MapLaws.{call_after, call_added_other, slots_none, nobody_lives, lives_changed, lives_added, lives_added_other, process_changed, process_kept, process_added, process_added_other, slots_added}
use Rattle.mpm_dispatcher.specs.Dispatch.{ready, picked, new_dispatcher}
use Rattle.mpm_dispatcher.specs.declared.dispatcher.Dispatcher.{Dispatcher}
use Rattle.mpm_kernel.specs.Disk.{in_turns}
use Rattle.mpm_kernel.specs.Kernel.{Kernel, new_kernel, dispatched}
use Rattle.mpm_base.specs.declared.number.Name8.{Name8}
use Rattle.mpm_base.proofs.CountLaws.{one_if, one_if_true, one_if_false, at_most_one}
use Rattle.mpm_sched.specs.Schedulers.{opening as opening_scheduler}
use Rattle.mpm_spool.specs.Spoolers.{opening as opening_spooler}
use Rattle.mpm_kernel.specs.Queueing.{with_queue, with_system_queue}
use Rattle.mpm_kernel.proofs.SoundLaws.{free_is_unlisted}
use Rattle.mpm_residents.specs.Terminals.{opening}
use Rattle.mpm_residents.specs.declared.native.Native.{Native}
use Rattle.mpm_residents.specs.declared.native.Native.TheVariants.{Tmp, Cli, Spool, Sched}
use Rattle.mpm_residents.specs.Interpreters.{opening as opening_interpreter}
use Rattle.mpm_script.specs.declared.event.Timed.{Timed}
use Rattle.mpm_machine_file.specs.declared.machine_file.MachineFile.{MachineFile}
use Rattle.mpm_kernel.specs.Awaiting.{completions}
use Rattle.mpm_banks.specs.Memory.{Memory, HasSegment}
use Rattle.mpm_banks.specs.Allocations.{new_segment, new_memory}
use Rattle.mpm_base.specs.declared.segment.SegmentSpec.{SegmentSpec}
use Rattle.mpm_machine_file.specs.MachineFiles.{IsMachine}
use Rattle.mpm_residents.specs.Natives.{native_in, interprets, interprets_if_there}
use Rattle.mpm_residents.proofs.StandingLaws.{stands_opening}
use Rattle.mpm_gate.specs.Gates.{IsHome}
use Rattle.mpm_service.specs.Disk.{DiskService, no_service}
use Rattle.mpm_service.specs.Places.{at_disk}
use Rattle.mpm_service.proofs.PlaceLaws.{at_none}
use Rattle.mpm_system.specs.declared.system.System.{System}
use Rattle.mpm_system.specs.Whole.{IsWhole, NoCompletions}
use Rattle.mpm_system.specs.Opening.{resident_process, with_begun, with_resident, with_interpreter, terminal_name, terminal_process, with_terminal, with_terminals, with_command_queue, begun_by_interpreter, with_interpreting, spool_queue, stop_queue, with_spool_queues, spooler_name, spooler_process, with_spooler, schedule_queue, schedule_number, with_schedule_queue, scheduler_name, scheduler_process, with_scheduler, command_queues, spooling_queues, resident_queues, OnlyHas, begun_residents, with_residents, moment_of, booted, opened}
use Rattle.mpm_system.proofs.PlacedLaws.{home_bare}
use Rattle.mpm_system.proofs.OpeningLaws.{interpreting_begun, command_here, boots}
use Rattle.mpm_system.proofs.ResidingLaws.{terminals_begun, spool_begun, spooler_begun, spooler_has, schedule_begun, scheduler_has, all_begun}
use Rattle.mpm_machine.specs.Interpreting.{sets_or_chains, Interprets}
use Rattle.mpm_machine.specs.Slots.{settings_of, first_settings, HasInterpreter, HasResident, HasTerminal, HasResidents}

-- the lowest free slot, where all below it have a process
if_in : (b : Bool) (p : ℕ) → b ≡ true → (if b then Some p else None) ≡ Some p
if_in true p e = refl
if_in false p e = absurd (cc)

lowest_is : (table : Table) (p : ℕ) → p < length table.alive → ((k : ℕ) → k < p → lives table k ≡ true) → lives table p ≡ false → lowest_free table ≡ Some p
unfolding lowest_free
lowest_is table p within below free =
    let at = position_or_len_is not table.alive p false (omega (arith, within)) (λ k less. ap not (below k less)) (λ _. ap not free) in
    ap (λ n. if nat_lt n (length table.alive) then Some n else None) at
    ∙ if_in (nat_lt p (length table.alive)) p (grind (arith, nat_tests, within))

-- the residents by slot

front : (xs ys : List Native) (i : ℕ) (x : Native) → slice_get xs i ≡ Some x → slice_get (xs ++ ys) i ≡ Some x
front [] ys i x e = absurd (cc)
front (y ∷ xs) ys zero x e = e
front (y ∷ xs) ys (suc i) x e = front xs ys i x e

last : (xs : List Native) (x : Native) → slice_get (xs ++ x ∷ []) (length xs) ≡ Some x
last [] x = refl
last (y ∷ xs) x = last xs x

-- a process that begins and is changed, in a table
abbrev begun_in : Table → ℕ → NewProcess → Process → Table
begun_in table p new process = with_process (added table p new) p process

lives_there : (table : Table) (p : ℕ) (new : NewProcess) (process : Process) → p < length table.alive → Lives (begun_in table p new process) p
lives_there table p new process within = lives_changed (added table p new) p p process ∙ lives_added table p new within

lives_as_before : (table : Table) (p q : ℕ) (new : NewProcess) (process : Process) → q ≢ p → lives (begun_in table p new process) q ≡ lives table q
lives_as_before table p q new process apart = lives_changed (added table p new) p q process ∙ lives_added_other table p q new apart

same_there : (table : Table) (p : ℕ) (new : NewProcess) (process : Process) → HasSlots table → p < 32 → process_in (begun_in table p new process) p ≡ process
same_there table p new process slots within =
    process_changed (added table p new) p process (omega (arith, within, (slots_added table p new slots).processes))

same_as_before : (table : Table) (p q : ℕ) (new : NewProcess) (process : Process) → q ≢ p → process_in (begun_in table p new process) q ≡ process_in table q
same_as_before table p q new process apart =
    process_kept (added table p new) p q process apart ∙ process_added_other table p q new apart

name_there : (table : Table) (p : ℕ) (new : NewProcess) → HasSlots table → p < 32 → (process_in (added table p new) p).name ≡ new.name
unfolding opening_process
name_there table p new slots within = ap (λ (x : Process). x.name) (process_added table p new (omega (arith, within, slots.processes)))

seg_there : (table : Table) (p : ℕ) (new : NewProcess) → HasSlots table → p < 32 → (process_in (added table p new) p).seg ≡ new.seg
unfolding opening_process
seg_there table p new slots within = ap (λ (x : Process). x.seg) (process_added table p new (omega (arith, within, slots.processes)))

due_there : (table : Table) (p : ℕ) (new : NewProcess) → HasSlots table → p < 32 → (process_in (added table p new) p).abort_due ≡ false
unfolding opening_process
due_there table p new slots within = ap (λ (x : Process). x.abort_due) (process_added table p new (omega (arith, within, slots.processes)))

set_there : (table : Table) (p : ℕ) (new : NewProcess) → HasSlots table → p < 32 → new.drive ≡ 0 → new.user ≡ 0 → settings_of (process_in (added table p new) p) ≡ first_settings
unfolding opening_process
set_there table p new slots within drive user =
    ap settings_of (process_added table p new (omega (arith, within, slots.processes)))
    ∙ ap (λ (d : ℕ). record { printer = 0; drive = d; user = new.user; multi = 1 }) drive ∙ ap (λ (u : ℕ). record { printer = 0; drive = 0; user = u; multi = 1 }) user

call_there : (table : Table) (p : ℕ) (new : NewProcess) (process : Process) → HasSlots table → p < 32 → call_of (begun_in table p new process) p ≡ no_call
unfolding added
call_there table p new process slots within = call_after (added table p new) p p process ∙ get_or-set_same table.calls p no_call no_call (omega (arith, within, slots.calls))

call_as_before : (table : Table) (p q : ℕ) (new : NewProcess) (process : Process) → q ≢ p → call_of (begun_in table p new process) q ≡ call_of table q
call_as_before table p q new process apart = call_after (added table p new) p q process ∙ call_added_other table p q new apart

-- a resident that begins in the lowest free slot: who is there stays, and it is there too
module _ (system : System) (w : IsWhole system) (p : ℕ) (few : p < 32) (free : lowest_free system.kernel.dispatcher.procs ≡ Some p) (new : NewProcess) (native : Native) where
  abbrev with_it : System
  with_it = with_resident (Some p) new native system

  resident_stays : (q : ℕ) (named : Name8) (other : Native) → q ≢ p → HasResident q named other system → HasResident q named other with_it
  unfolding with_resident with_begun
  resident_stays q named other apart has =
      let table = system.kernel.dispatcher.procs in
      let process = record (process_in (added table p new) p) { error_mode = 255 } in
      record {
        lives = lives_as_before table p q new process apart ∙ has.lives;
        name = ap (λ (x : Process). x.name) (same_as_before table p q new process apart) ∙ has.name;
        resides = ap (λ (x : Process). x.seg) (same_as_before table p q new process apart) ∙ has.resides;
        answers = ap (λ (x : Process). x.error_mode) (same_as_before table p q new process apart) ∙ has.answers;
        goes_on = ap (λ (x : Process). x.abort_due) (same_as_before table p q new process apart) ∙ has.goes_on;
        set = ap settings_of (same_as_before table p q new process apart) ∙ has.set;
        calls = ap (λ (c : Taken). c.function) (call_as_before table p q new process apart) ∙ has.calls;
        resident = front system.residents (native ∷ []) q other has.resident;
      }

  resident_there : (named : Name8) → new.name ≡ named → new.seg ≡ None → new.drive ≡ 0 → new.user ≡ 0 → length system.residents ≡ p → HasResident p named native with_it
  unfolding with_resident with_begun
  resident_there named is home drive user many =
      let table = system.kernel.dispatcher.procs in
      let slots = w.sound.slots in
      let process = record (process_in (added table p new) p) { error_mode = 255 } in
      record {
        lives = lives_there table p new process (omega (arith, few, slots.alive));
        name = ap (λ (x : Process). x.name) (same_there table p new process slots few) ∙ name_there table p new slots few ∙ is;
        resides = ap (λ (x : Process). x.seg) (same_there table p new process slots few) ∙ seg_there table p new slots few ∙ home;
        answers = ap (λ (x : Process). x.error_mode) (same_there table p new process slots few);
        goes_on = ap (λ (x : Process). x.abort_due) (same_there table p new process slots few) ∙ due_there table p new slots few;
        set = ap settings_of (same_there table p new process slots few) ∙ set_there table p new slots few drive user;
        calls = ap (λ (c : Taken). c.function) (call_there table p new process slots few);
        resident = ap (slice_get (system.residents ++ native ∷ [])) (sym many) ∙ last system.residents native;
      }

  interpreter_stays : (consoles : ℕ) → 0 ≢ p → HasInterpreter consoles system → HasInterpreter consoles with_it
  unfolding with_resident with_begun
  interpreter_stays consoles apart has =
      let table = system.kernel.dispatcher.procs in
      let process = record (process_in (added table p new) p) { error_mode = 255 } in
      record {
        lives = lives_as_before table p 0 new process apart ∙ has.lives;
        name = ap (λ (x : Process). x.name) (same_as_before table p 0 new process apart) ∙ has.name;
        ready = list_of_inserted_other system.kernel.dispatcher.lists ready (record { slot = p; priority = new.priority }) 0 w.sound.table (omega arith)
            few (free_is_unlisted system.kernel p w.sound free) (grind (arith, nat_tests)) ∙ has.ready;
        resides = ap (λ (x : Process). x.seg) (same_as_before table p 0 new process apart) ∙ has.resides;
        answers = ap (λ (x : Process). x.error_mode) (same_as_before table p 0 new process apart) ∙ has.answers;
        goes_on = ap (λ (x : Process). x.abort_due) (same_as_before table p 0 new process apart) ∙ has.goes_on;
        calls = ap (λ (c : Taken). c.function) (call_as_before table p 0 new process apart) ∙ has.calls;
        resident = front system.residents (native ∷ []) 0 (Cli (opening_interpreter consoles)) has.resident;
      }

  free_stays : (q : ℕ) → q ≢ p → lives with_it.kernel.dispatcher.procs q ≡ lives system.kernel.dispatcher.procs q
  unfolding with_resident with_begun
  free_stays q apart =
      let table = system.kernel.dispatcher.procs in
      lives_as_before table p q new (record (process_in (added table p new) p) { error_mode = 255 }) apart

  taken_there : lives with_it.kernel.dispatcher.procs p ≡ true
  unfolding with_resident with_begun
  taken_there =
      let table = system.kernel.dispatcher.procs in
      lives_there table p new (record (process_in (added table p new) p) { error_mode = 255 }) (omega (arith, few, w.sound.slots.alive))

  more_residents : length with_it.residents ≡ length system.residents + 1
  unfolding with_resident
  more_residents = length_push system.residents native

-- so many residents have begun, in the lowest slots: the interpreter, terminal message processors for the first consoles, and perhaps others
pub record Lodges (consoles n count : ℕ) (system : System) : Type 0 where
  pub interpreter : HasInterpreter consoles system
  pub terminals : (console : ℕ) → console < n → HasTerminal console system
  pub some : 0 < count
  pub above : n < count
  pub taken : (q : ℕ) → q < count → lives system.kernel.dispatcher.procs q ≡ true
  pub free : (q : ℕ) → count ≤ q → lives system.kernel.dispatcher.procs q ≡ false
  pub residents : length system.residents ≡ count

next_slot : (consoles n count : ℕ) (system : System) → HasSlots system.kernel.dispatcher.procs → count < 32 → Lodges consoles n count system → lowest_free system.kernel.dispatcher.procs ≡ Some count
next_slot consoles n count system slots few has =
    lowest_is system.kernel.dispatcher.procs count (omega (arith, few, slots.alive)) has.taken (has.free count (omega arith))

lodges_next : (consoles n count : ℕ) (system : System) (new : NewProcess) (native : Native) → IsWhole system → count < 32 → lowest_free system.kernel.dispatcher.procs ≡ Some count → Lodges consoles n count system
    → Lodges consoles n (count + 1) (with_resident (Some count) new native system)
lodges_next consoles n count system new native w few free has = record {
  interpreter = interpreter_stays system w count few free new native consoles (λ e. absurd (omega (arith, e, has.some))) has.interpreter;
  terminals = λ k less. resident_stays system w count few free new native (k + 1) (terminal_name k) (Tmp (opening k)) (λ e. absurd (omega (arith, e, less, has.above))) (has.terminals k less);
  some = omega arith;
  above = omega (arith, has.above);
  taken = λ q less. elim (cases_lt q count) [
    | inl below ↦ free_stays system w count few free new native q (λ e. absurd (omega (arith, e, below))) ∙ has.taken q below
    | inr past ↦
        let same : q ≡ count = omega (arith, less, past) in
        subst (λ (k : ℕ). lives (with_resident (Some count) new native system).kernel.dispatcher.procs k ≡ true) (sym same) (taken_there system w count few free new native)
  ];
  free = λ q more. free_stays system w count few free new native q (λ e. absurd (omega (arith, e, more))) ∙ has.free q (omega (arith, more));
  residents = more_residents system w count few free new native ∙ ap (λ m. m + 1) has.residents;
}

-- the terminal message processors, as many as there are consoles

terminal_called : (console : ℕ) → (terminal_process console).name ≡ terminal_name console
unfolding resident_process
terminal_called console = refl

terminal_home : (console : ℕ) → (terminal_process console).seg ≡ None
unfolding resident_process
terminal_home console = refl

terminal_drive : (console : ℕ) → (terminal_process console).drive ≡ 0
unfolding resident_process
terminal_drive console = refl

terminal_user : (console : ℕ) → (terminal_process console).user ≡ 0
unfolding resident_process
terminal_user console = refl

lodges_terminal : (consoles n : ℕ) (system : System) → IsWhole system → n < 8 → lowest_free system.kernel.dispatcher.procs ≡ Some (n + 1) → Lodges consoles n (n + 1) system
    → Lodges consoles (n + 1) (n + 1 + 1) (with_terminal (Some (n + 1)) n system)
lodges_terminal consoles n system w few free has =
    let next = lodges_next consoles n (n + 1) system (terminal_process n) (Tmp (opening n)) w (omega (arith, few)) free has in
    record {
      interpreter = next.interpreter;
      terminals = λ k less. elim (cases_lt k n) [
        | inl below ↦ next.terminals k below
        | inr past ↦
            let same : k ≡ n = omega (arith, less, past) in
            subst (λ (j : ℕ). HasTerminal j (with_terminal (Some (n + 1)) n system)) (sym same)
            (resident_there system w (n + 1) (omega (arith, few)) free (terminal_process n) (Tmp (opening n)) (terminal_name n) (terminal_called n) (terminal_home n) (terminal_drive n) (terminal_user n) has.residents)
      ];
      some = next.some;
      above = omega arith;
      taken = next.taken;
      free = next.free;
      residents = next.residents;
    }

lodges_more : (consoles n : ℕ) (system : System) → IsWhole system → n < 8 → Lodges consoles n (n + 1) system
    → Lodges consoles (n + 1) (n + 1 + 1) (with_terminal (lowest_free system.kernel.dispatcher.procs) n system)
lodges_more consoles n system w few has =
    let free = next_slot consoles n (n + 1) system w.sound.slots (omega (arith, few)) has in
    subst (λ (o : Option ℕ). Lodges consoles (n + 1) (n + 1 + 1) (with_terminal o n system)) (sym free) (lodges_terminal consoles n system w few free has)

all_lodge : (consoles n : ℕ) (start : System) → IsWhole start → n ≤ length start.kernel.units.consoles → Lodges consoles 0 1 start → Lodges consoles n (n + 1) (with_terminals n start)
unfolding with_terminals
all_lodge consoles zero start w few has = has
all_lodge consoles (suc n) start w few has =
    let others = all_lodge consoles n start w (omega (arith, few)) has in
    let begun = (terminals_begun n start w (omega (arith, few))).begun in
    let system = with_terminals n start in
    subst (λ (k : ℕ). Lodges consoles k (k + 1) (with_terminal (lowest_free system.kernel.dispatcher.procs) n system)) (add-one n)
    (lodges_more consoles n system begun.whole (omega (arith, few, begun.whole.sound.units.consoles, begun.consoles)) others)

-- the spooler and the scheduler after them

lodges_kernel : (consoles n count : ℕ) (system : System) (kernel : Kernel) → kernel.dispatcher ≡ system.kernel.dispatcher → Lodges consoles n count system → Lodges consoles n count (record system { kernel = kernel })
lodges_kernel consoles n count system kernel same has =
    let P : Dispatcher → Type 0 = λ d. Lodges consoles n count (record system { kernel = record kernel { dispatcher = d } }) in
    subst P (sym same) (record {
      interpreter = record {
        lives = has.interpreter.lives;
        name = has.interpreter.name;
        ready = has.interpreter.ready;
        resides = has.interpreter.resides;
        answers = has.interpreter.answers;
        goes_on = has.interpreter.goes_on;
        calls = has.interpreter.calls;
        resident = has.interpreter.resident;
      };
      terminals = λ k less. let there = has.terminals k less in record { lives = there.lives; name = there.name; resides = there.resides; answers = there.answers; goes_on = there.goes_on; set = there.set; calls = there.calls; resident = there.resident };
      some = has.some;
      above = has.above;
      taken = has.taken;
      free = has.free;
      residents = has.residents;
    })

queue_beside : (kernel : Kernel) (name : Name8) (width count : ℕ) → (with_system_queue kernel name width count).dispatcher ≡ kernel.dispatcher
unfolding with_system_queue with_queue
queue_beside kernel name width count = refl

-- one that begins after the others, in the slot that is the lowest free one
resident_kernel : (q : ℕ) (named : Name8) (other : Native) (system : System) (kernel : Kernel) → kernel.dispatcher ≡ system.kernel.dispatcher → HasResident q named other system
    → HasResident q named other (record system { kernel = kernel })
resident_kernel q named other system kernel same has =
    let P : Dispatcher → Type 0 = λ d. HasResident q named other (record system { kernel = record kernel { dispatcher = d } }) in
    subst P (sym same) (record { lives = has.lives; name = has.name; resides = has.resides; answers = has.answers; goes_on = has.goes_on; set = has.set; calls = has.calls; resident = has.resident })

record LodgesOne (consoles n count : ℕ) (named : Name8) (native : Native) (old system : System) : Type 0 where
  lodges : Lodges consoles n (count + 1) system
  there : HasResident count named native system
  stays : (q : ℕ) (who : Name8) (other : Native) → q ≢ count → HasResident q who other old → HasResident q who other system

one_lodges : (consoles n count : ℕ) (named : Name8) (priority : ℕ) (native : Native) (system : System) → IsWhole system → count < 32 → Lodges consoles n count system
    → LodgesOne consoles n count named native system (with_resident (lowest_free system.kernel.dispatcher.procs) (resident_process named priority 0) native system)
unfolding resident_process
one_lodges consoles n count named priority native system w few has =
    let free = next_slot consoles n count system w.sound.slots few has in
    let new = resident_process named priority 0 in
    subst (λ (o : Option ℕ). LodgesOne consoles n count named native system (with_resident o new native system)) (sym free) (record {
      lodges = lodges_next consoles n count system new native w few free has;
      there = resident_there system w count few free new native named refl refl refl refl has.residents;
      stays = λ q who other apart there. resident_stays system w count few free new native q who other apart there;
    })

record LodgesSpooler (consoles : ℕ) (spool : Bool) (system : System) : Type 0 where
  lodges : Lodges consoles consoles (consoles + 1 + one_if spool) system
  spooler : spool ≡ true → HasResident (consoles + 1) spooler_name (Spool opening_spooler) system

spooler_lodges : (consoles : ℕ) (spool : Bool) (system : System) → IsWhole system → OnlyHas command_queues system.kernel → consoles < 9 → Lodges consoles consoles (consoles + 1) system
    → LodgesSpooler consoles spool (with_spooler spool system)
unfolding with_spooler
spooler_lodges consoles false system w only few has =
    record { lodges = subst (λ (k : ℕ). Lodges consoles consoles k system) (sym (add-zero (consoles + 1))) has; spooler = λ e. absurd (cc) }
spooler_lodges consoles true system w only few has =
    let kernel = with_spool_queues system.kernel in
    let queued = record system { kernel = kernel } in
    let beside = queue_beside (with_system_queue system.kernel spool_queue 128 8) stop_queue 1 1 ∙ queue_beside system.kernel spool_queue 128 8 in
    let one = one_lodges consoles consoles (consoles + 1) spooler_name 200 (Spool opening_spooler) queued (spool_begun system w only).whole (omega (arith, few)) (lodges_kernel consoles consoles (consoles + 1) system kernel beside has) in
    record { lodges = one.lodges; spooler = λ e. one.there }

record LodgesAll (consoles : ℕ) (spool sched : Bool) (system : System) : Type 0 where
  lodges : Lodges consoles consoles (consoles + 1 + one_if spool + one_if sched) system
  spooler : spool ≡ true → HasResident (consoles + 1) spooler_name (Spool opening_spooler) system
  scheduler : sched ≡ true → HasResident (consoles + 1 + one_if spool) scheduler_name (Sched (opening_scheduler (schedule_number spool))) system

scheduler_lodges : (consoles : ℕ) (spool sched : Bool) (system : System) → IsWhole system → OnlyHas (spooling_queues spool) system.kernel → consoles < 9 → LodgesSpooler consoles spool system
    → LodgesAll consoles spool sched (with_scheduler sched (schedule_number spool) system)
unfolding with_scheduler
scheduler_lodges consoles spool false system w only few has = record {
  lodges = subst (λ (k : ℕ). Lodges consoles consoles k system) (sym (add-zero (consoles + 1 + one_if spool))) has.lodges;
  spooler = has.spooler;
  scheduler = λ e. absurd (cc);
}
scheduler_lodges consoles spool true system w only few has =
    let kernel = with_schedule_queue system.kernel in
    let queued = record system { kernel = kernel } in
    let count = consoles + 1 + one_if spool in
    let beside = queue_beside system.kernel schedule_queue 128 8 in
    let one = one_lodges consoles consoles count scheduler_name 195 (Sched (opening_scheduler (schedule_number spool))) queued (schedule_begun spool system w only).whole
    (omega (arith, few, at_most_one spool)) (lodges_kernel consoles consoles count system kernel beside has.lodges) in
    record {
      lodges = one.lodges;
      spooler = λ e. one.stays (consoles + 1) spooler_name (Spool opening_spooler) (λ same. absurd (omega (arith, same, one_if_true spool e)))
          (resident_kernel (consoles + 1) spooler_name (Spool opening_spooler) system kernel beside (has.spooler e));
      scheduler = λ e. one.there;
    }

-- before them, the interpreter alone

placed : (file : MachineFile) (events : List Timed)
    → Lodges file.consoles 0 1 (record (booted file events) {
      kernel = with_interpreter (Some 0) (with_command_queue (in_turns file.disk_turn (new_kernel file.consoles file.printers (moment_of file))));
      residents = Cli (opening_interpreter file.consoles) ∷ [];
    })
unfolding booted new_kernel new_dispatcher with_system_queue with_queue with_interpreter resident_process
placed file events =
    let new = resident_process (record { 0 = codes "cli     " }) 190 0 in
    let process = record (process_in (added no_processes 0 new) 0) { error_mode = 255; multi = 16 } in
    record {
      interpreter = record {
        lives = lives_there no_processes 0 new process (omega (arith, slots_none.alive));
        name = ap (λ (x : Process). x.name) (same_there no_processes 0 new process slots_none (omega arith)) ∙ name_there no_processes 0 new slots_none (omega arith);
        ready = list_of_inserted no_lists ready (record { slot = 0; priority = 190 }) table_none (omega arith) (omega arith) (list_of_none 0);
        resides = ap (λ (x : Process). x.seg) (same_there no_processes 0 new process slots_none (omega arith)) ∙ seg_there no_processes 0 new slots_none (omega arith);
        answers = ap (λ (x : Process). x.error_mode) (same_there no_processes 0 new process slots_none (omega arith));
        goes_on = ap (λ (x : Process). x.abort_due) (same_there no_processes 0 new process slots_none (omega arith)) ∙ due_there no_processes 0 new slots_none (omega arith);
        calls = ap (λ (c : Taken). c.function) (call_there no_processes 0 new process slots_none (omega arith));
        resident = refl;
      };
      terminals = λ k less. absurd (omega (arith, less));
      some = omega arith;
      above = omega arith;
      taken = λ q less.
          let first : q ≡ 0 = omega (arith, less) in
          subst (λ (k : ℕ). lives (begun_in no_processes 0 new process) k ≡ true) (sym first) (lives_there no_processes 0 new process (omega (arith, slots_none.alive)));
      free = λ q more. lives_as_before no_processes 0 q new process (λ e. absurd (omega (arith, e, more))) ∙ nobody_lives q;
      residents = refl;
    }

interpreter_first : (file : MachineFile) (events : List Timed) → Lodges file.consoles 0 1 (with_interpreting file.consoles (begun_by_interpreter (booted file events)))
unfolding begun_by_interpreter booted new_kernel new_dispatcher with_system_queue with_queue
interpreter_first file events =
    let free = lowest_is no_processes 0 (omega (arith, slots_none.alive)) (λ k less. absurd (omega (arith, less))) (nobody_lives 0) in
    let kernel = with_command_queue (in_turns file.disk_turn (new_kernel file.consoles file.printers (moment_of file))) in
    let P : Option ℕ → Type 0 = λ o. Lodges file.consoles 0 1 (record (booted file events) { kernel = with_interpreter o kernel; residents = Cli (opening_interpreter file.consoles) ∷ [] }) in
    subst P (sym free) (placed file events)

-- no segment changes

resident_memory : (slot : Option ℕ) (new : NewProcess) (native : Native) (system : System) → (with_resident slot new native system).memory ≡ system.memory
unfolding with_resident
resident_memory slot new native system = refl

terminals_memory : (n : ℕ) (system : System) → (with_terminals n system).memory ≡ system.memory
unfolding with_terminals
terminals_memory zero system = refl
terminals_memory (suc n) system =
    resident_memory (lowest_free (with_terminals n system).kernel.dispatcher.procs) (terminal_process n) (Tmp (opening n)) (with_terminals n system) ∙ terminals_memory n system

spooler_memory : (spool : Bool) (system : System) → (with_spooler spool system).memory ≡ system.memory
unfolding with_spooler
spooler_memory false system = refl
spooler_memory true system =
    let queued = record system { kernel = with_spool_queues system.kernel } in
    resident_memory (lowest_free queued.kernel.dispatcher.procs) spooler_process (Spool opening_spooler) queued

scheduler_memory : (sched : Bool) (queue : ℕ) (system : System) → (with_scheduler sched queue system).memory ≡ system.memory
unfolding with_scheduler
scheduler_memory false queue system = refl
scheduler_memory true queue system =
    let queued = record system { kernel = with_schedule_queue system.kernel } in
    resident_memory (lowest_free queued.kernel.dispatcher.procs) scheduler_process (Sched (opening_scheduler queue)) queued

first_memory : (file : MachineFile) (events : List Timed) → (with_interpreting file.consoles (begun_by_interpreter (booted file events))).memory ≡ new_memory file.segments
unfolding begun_by_interpreter booted
first_memory file events = refl

-- and so after the dispatcher

-- the residents of a machine as it is run, with as many consoles and with the memory of its beginning
record Opens (file : MachineFile) (system : System) : Type 0 where
  pub residents : HasResidents file.consoles file.spool file.sched system
  pub consoles : file.consoles ≡ length system.kernel.units.consoles
  pub memory : system.memory ≡ new_memory file.segments

stays_picked : (q : ℕ) (named : Name8) (native : Native) (system : System) → HasResident q named native system → HasResident q named native (record system { kernel = dispatched (picked false) system.kernel })
stays_picked q named native system has = record { lives = has.lives; name = has.name; resides = has.resides; answers = has.answers; goes_on = has.goes_on; set = has.set; calls = has.calls; resident = has.resident }

picked_too : (consoles : ℕ) (spool sched : Bool) (system : System) → LodgesAll consoles spool sched system → OnlyHas (resident_queues spool sched) system.kernel
    → HasResidents consoles spool sched (record system { kernel = dispatched (picked false) system.kernel })
picked_too consoles spool sched system has only =
    let first = has.lodges.interpreter in
    record {
      interpreter = record {
        lives = first.lives;
        name = first.name;
        ready = first.ready;
        resides = first.resides;
        answers = first.answers;
        goes_on = first.goes_on;
        calls = first.calls;
        resident = first.resident;
      };
      terminals = λ k less. stays_picked (k + 1) (terminal_name k) (Tmp (opening k)) system (has.lodges.terminals k less);
      spooler = λ e. stays_picked (consoles + 1) spooler_name (Spool opening_spooler) system (has.spooler e);
      scheduler = λ e. stays_picked (consoles + 1 + one_if spool) scheduler_name (Sched (opening_scheduler (schedule_number spool))) system (has.scheduler e);
      only = has.lodges.residents;
      queues = record { systems = record { all = only.systems.all }; are = only.are };
    }

opened_lodges : (file : MachineFile) (events : List Timed) → IsWhole (booted file events) → Opens file (opened file events)
unfolding opened with_residents begun_residents
opened_lodges file events w =
    let old = booted file events in
    let consoles = file.consoles in
    let so = boots file events old refl in
    let start = with_interpreting consoles (begun_by_interpreter old) in
    let first = interpreting_begun consoles old w so.queues in
    let many : consoles ≤ length start.kernel.units.consoles = omega (arith, so.consoles, first.consoles) in
    let few : consoles < 9 = omega (arith, so.consoles, w.sound.units.consoles) in
    let turn = terminals_begun consoles start first.whole many in
    let terminals = with_terminals consoles start in
    let has = turn.has command_queues (command_here old start consoles w so.queues refl) in
    let spooled = with_spooler file.spool terminals in
    let spooler = spooler_lodges consoles file.spool terminals turn.begun.whole has few (all_lodge consoles consoles start first.whole many (interpreter_first file events)) in
    let whole = (spooler_begun file.spool terminals turn.begun.whole has).whole in
    let spooling = spooler_has file.spool terminals turn.begun.whole has in
    let begun = with_scheduler file.sched (schedule_number file.spool) spooled in
    record {
      residents = picked_too consoles file.spool file.sched begun (scheduler_lodges consoles file.spool file.sched spooled whole spooling few spooler)
          (scheduler_has file.sched file.spool (schedule_number file.spool) spooled whole spooling);
      consoles = so.consoles ∙ sym (all_begun consoles file.spool file.sched old w so.queues so.consoles).consoles;
      memory = scheduler_memory file.sched (schedule_number file.spool) spooled ∙ spooler_memory file.spool terminals ∙ terminals_memory consoles start ∙ first_memory file events;
    }

pub has_residents : (file : MachineFile) (events : List Timed) (bare afterwards : System) → bare ≡ booted file events → IsWhole bare
    → afterwards ≡ opened file events → HasResidents file.consoles file.spool file.sched afterwards
has_residents file events bare afterwards is w was =
    subst (HasResidents file.consoles file.spool file.sched) (sym was) (opened_lodges file events (subst IsWhole is w)).residents

-- the interpreter acts there, with each segment as its machine file has it

no_other : (native : Native) (residents : List Native) (p : ℕ) → interprets native ≡ false → native_in residents p ≡ Some native → interprets_if_there (native_in residents p) ≡ true → ⊥
no_other native residents p asks is acts = false≢true (sym asks ∙ sym (ap interprets_if_there is) ∙ acts)

nobody_behind : (residents : List Native) (p : ℕ) → length residents ≤ p → interprets_if_there (native_in residents p) ≡ true → ⊥
nobody_behind residents p past acts = false≢true (sym (ap interprets_if_there (slice_get_past residents p past)) ∙ acts)

no_scheduler : (consoles : ℕ) (spool sched b : Bool) (system : System) → sched ≡ b → HasResidents consoles spool sched system → (p : ℕ) → consoles + 1 + one_if spool ≤ p
    → interprets_if_there (native_in system.residents p) ≡ true → ⊥
no_scheduler consoles spool sched false system e has p behind acts = nobody_behind system.residents p (omega (arith, behind, has.only, one_if_false sched e)) acts
no_scheduler consoles spool sched true system e has p behind acts = elim (cases_eq p (consoles + 1 + one_if spool)) [
  | inl same ↦
      no_other (Sched (opening_scheduler (schedule_number spool))) system.residents p refl (ap (native_in system.residents) same ∙ (has.scheduler e).resident) acts
  | inr other ↦ nobody_behind system.residents p (omega (arith, behind, other, has.only, one_if_true sched e)) acts
]

no_spooler : (consoles : ℕ) (spool sched b : Bool) (system : System) → spool ≡ b → HasResidents consoles spool sched system → (p : ℕ) → consoles + 1 ≤ p
    → interprets_if_there (native_in system.residents p) ≡ true → ⊥
no_spooler consoles spool sched false system e has p behind acts = no_scheduler consoles spool sched sched system refl has p (omega (arith, behind, one_if_false spool e)) acts
no_spooler consoles spool sched true system e has p behind acts = elim (cases_eq p (consoles + 1)) [
  | inl same ↦ no_other (Spool opening_spooler) system.residents p refl (ap (native_in system.residents) same ∙ (has.spooler e).resident) acts
  | inr other ↦ no_scheduler consoles spool sched sched system refl has p (omega (arith, behind, other, one_if_true spool e)) acts
]

in_slot_zero : (consoles : ℕ) (spool sched : Bool) (system : System) → HasResidents consoles spool sched system → (p : ℕ) → interprets_if_there (native_in system.residents p) ≡ true → p ≡ 0
in_slot_zero consoles spool sched system has zero acts = refl
in_slot_zero consoles spool sched system has (suc k) acts = elim (cases_lt k consoles) [
  | inl less ↦
      let tmp : native_in system.residents (suc k) ≡ Some (Tmp (opening k)) = ap (native_in system.residents) (sym (add-one k)) ∙ (has.terminals k less).resident in
      absurd (no_other (Tmp (opening k)) system.residents (suc k) refl tmp acts)
  | inr past ↦ absurd (no_spooler consoles spool sched spool system refl has (suc k) (omega (arith, past)) acts)
]

few_segments : (segments : List SegmentSpec) → length segments ≤ 16 → length (new_memory segments).segments ≤ 16
unfolding new_memory
few_segments segments few = omega (arith, few, length-map segments new_segment)

segment_given : (segments : List SegmentSpec) (seg : ℕ) → HasSegment (new_memory segments) seg → seg < length segments
unfolding new_memory
segment_given segments seg there = omega (arith, there, length-map segments new_segment)

interprets_at : (file : MachineFile) (system : System) (turn_steps : ℕ) → IsMachine file → Opens file system → IsWhole system → NoCompletions system
    → system.kernel.disk ≡ no_service turn_steps → Interprets system
unfolding opening_interpreter
interprets_at file system turn_steps machine opens w none idle =
    let slot = opens.residents.interpreter in
    record {
      acting = record {
        cli = opening_interpreter file.consoles;
        acts = slot.resident;
        alone = in_slot_zero file.consoles file.spool file.sched system opens.residents;
        lives = slot.lives;
        resides = slot.resides;
        answers = slot.answers;
        goes_on = slot.goes_on;
        calls = ap sets_or_chains slot.calls;
        stands = stands_opening file.consoles (omega (arith, machine.some_console));
        consoles = opens.consoles;
      };
      few = subst (λ (memory : Memory). length memory.segments ≤ 16) (sym opens.memory) (few_segments file.segments machine.segments);
      homes = λ seg there.
          let bare = subst (λ m. HasSegment m seg) opens.memory there in
          subst (λ m. IsHome m seg) (sym opens.memory) (home_bare file.segments seg machine.each_segment (segment_given file.segments seg bare));
      has = λ loading. absurd (false≢true loading);
      filed = λ some. absurd (omega (arith, some, ap (λ (disk : DiskService). at_disk disk 0) idle, at_none turn_steps 0));
      awaits = record { table = w.sound.table; few = omega (arith, ap (completions 0) none.answered); at_once = λ _. slot.ready };
    }

pub interprets_opened : (file : MachineFile) (events : List Timed) (bare afterwards : System) (turn_steps : ℕ) → IsMachine file → bare ≡ booted file events → IsWhole bare
    → afterwards ≡ opened file events → IsWhole afterwards → NoCompletions afterwards → afterwards.kernel.disk ≡ no_service turn_steps → Interprets afterwards
interprets_opened file events bare afterwards turn_steps machine is w was whole none idle =
    subst Interprets (sym was)
    (interprets_at file (opened file events) turn_steps machine (opened_lodges file events (subst IsWhole is w)) (subst IsWhole was whole) (subst NoCompletions was none)
    (ap (λ (s : System). s.kernel.disk) (sym was) ∙ idle))
