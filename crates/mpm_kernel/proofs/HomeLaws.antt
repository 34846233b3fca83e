-- In which segments the processes live, which of them are aborted, and which calls they keep, after the kernel's calls and
-- events, and where a process is handed out. The laws on its parts are stated here too.
use Rattle.std.proofs.Common.{◌≡◌, ◌∙◌, ℕ, ◌||◌, Bool, true, false, ◌==◌, [], ◌∷◌, List, Option, Some, None, length, drop, refl, sym, ap, arith}
use Rattle.std.specs.Prelude.{nat_lt}
use Rattle.std.proofs.lemmas.Bool.{eqb-true}
use Rattle.std.proofs.lemmas.List.{length-set}
use Rattle.mpm_base.specs.Lists.{is_among}
use Rattle.mpm_base.proofs.Choices.{either}
use Rattle.mpm_base.specs.Calls.{Taken, word_at}
use Rattle.mpm_base.specs.declared.functions.TheConstants.{SET_MULTI_SECTOR_COUNT, SET_BDOS_ERROR_MODE, CALL_RESIDENT_SYSTEM_PROCEDURE}
use Rattle.mpm_procs.specs.Table.{HasSlots, lives, Lives, process_in, call_of, with_process}
use Rattle.mpm_procs.specs.declared.process.Process.{Process}
use Rattle.mpm_procs.proofs.MapLaws.{lives_changed, call_after}
use Rattle.mpm_dispatcher.specs.Dispatch.{ready, IsReady, with_completed, first_completed}
use Rattle.mpm_kernel.specs.Kernel.{Kernel, IsSoundKernel, CompletedLive, is_aborted, with_changed, call_begun, afresh, dispatched}
use Rattle.mpm_kernel.specs.Called.{Called, low_parameter}
use Rattle.mpm_kernel.specs.Calls.{call_done, called, does_echo}
use Rattle.mpm_kernel.specs.Waiting.{is_flag}
use Rattle.mpm_kernel.specs.Columns.{spoke}
use Rattle.mpm_kernel.specs.Consoling.{key_done, key_came, echoed, is_of_resident}
use Rattle.mpm_consoles.specs.Consoles.{owner_of}
use Rattle.mpm_consoles.specs.Handling.{key_answer}
use Rattle.mpm_consoles.specs.declared.keys.KeyDone.{KeyDone}
use Rattle.mpm_consoles.specs.declared.keys.KeyDone.TheVariants.{Stored, Dropped, Wakes, Aborts, Passes, Nothing}
use Rattle.mpm_base.specs.declared.unit.Unit.TheVariants.{Console as ConsoleUnit}
use Rattle.mpm_kernel.proofs.KeyLaws.{consoles_after_key}
use Rattle.mpm_kernel.specs.Events.{happens, clock_ticked, device_ready, flag_came, happened, inside_of, with_procedure, with_first, handed_out}
use Rattle.mpm_kernel.specs.Procedures.{procedure_queue, inside}
use Rattle.mpm_script.specs.declared.event.Event.{Event}
use Rattle.mpm_script.specs.declared.event.Event.TheVariants.{Tick, Key, Ready, Int}
use Rattle.mpm_kernel.proofs.SoundLaws.{listed_once, completed_lives, procs_happened, sound_begun}
use Rattle.mpm_kernel.proofs.Homes.{aborted_same}
use Rattle.mpm_kernel.proofs.Beside.{StaysBeside, beside_same, field_kept}
use Rattle.mpm_queues.specs.Queue.{block_size}
use Rattle.mpm_queues.specs.Queues.{waits}
pub use Rattle.mpm_kernel.proofs.Homes.{IsLivedIn, SameHomes, homes_stay, homes_both, lived_in_changed, homes_changed, homes_call, homes_vacated, opening_home, aborts_admitted, homes_admitted, homes_in_slot, lives_on, keeps_call, keeps_process, procs_spoke}
pub use Rattle.mpm_kernel.proofs.CallHomes.{KeepsHome, procs_with_other, kept_delivered_to}
use Rattle.mpm_kernel.proofs.RowLaws.{by_table}
use Rattle.mpm_kernel.proofs.CallHomes.{kept_same, kept_changed, kept_behind, kept_priority, kept_polled, kept_flag_waited, kept_flag_set, kept_delayed, kept_queue_made, kept_opened, kept_deleted, kept_read_at, kept_write_at, kept_procedure_called, kept_date_set, procs_date_answered, procs_time_answered, consoles_date_answered, consoles_time_answered, consoles_signalled}
use Rattle.mpm_kernel.proofs.UnitHomes.{kept_unit_called, kept_console_called, consoles_spoken}

-- the one function of a row
only : (one f : ℕ) → is_among f (one ∷ []) ≡ true → f ≡ one
only one f is = eqb-true f one (or_off (f == one) is) where
  or_off : (b : Bool) → (b || false) ≡ true → b ≡ true
  or_off true e = refl
  or_off false e = e

kept_call_done : (call : Taken) (p : ℕ) (kernel : Kernel) → IsSoundKernel kernel → Lives kernel.dispatcher.procs p → call ≡ call_of kernel.dispatcher.procs p
    → KeepsHome kernel (call_done call p (process_in kernel.dispatcher.procs p) kernel)
kept_call_done call p kernel s h own =
    let same : (called : Called) → called.kernel.dispatcher.procs ≡ kernel.dispatcher.procs
    → length called.kernel.units.consoles ≡ length kernel.units.consoles → KeepsHome kernel called = kept_same kernel in
    by_table (KeepsHome kernel) call p (process_in kernel.dispatcher.procs p) kernel (
      λ _. same _ refl refl,
      (
        λ _. kept_console_called call p kernel s h,
        (
          λ _. kept_unit_called call p kernel s h,
          (
            λ _. same _ refl refl,
            (
              λ _. same _ refl refl,
              (
                λ _. kept_changed p 0 kernel _ s h refl refl (λ _. refl) (λ _. refl),
                (
                  λ _. kept_changed p _ kernel _ s h refl refl (λ _. refl) (λ _. refl),
                  (
                    λ is. kept_changed p _ kernel _ s h refl refl (λ _. refl) (λ sets. absurd (sets (ap (λ (x : Taken). x.function) (sym own) ∙ only SET_MULTI_SECTOR_COUNT call.function is))),
                    (
                      λ is. kept_changed p 0 kernel _ s h refl refl (λ sets. absurd (sets (ap (λ (x : Taken). x.function) (sym own) ∙ only SET_BDOS_ERROR_MODE call.function is))) (λ _. refl),
                      (
                        λ _. kept_date_set call kernel,
                        (
                          λ _. same _ (procs_date_answered call kernel) (consoles_date_answered call kernel),
                          (
                            λ _. kept_changed p 0 kernel _ s h refl refl (λ _. refl) (λ _. refl),
                            (
                              λ _. kept_polled call p kernel,
                              (
                                λ _. kept_flag_waited call p kernel,
                                (
                                  λ _. kept_flag_set call kernel,
                                  (
                                    λ _. kept_queue_made call kernel,
                                    (
                                      λ _. kept_opened _ call kernel,
                                      (
                                        λ _. kept_deleted _ kernel,
                                        (
                                          λ _. kept_read_at _ true call p kernel,
                                          (
                                            λ _. kept_read_at _ false call p kernel,
                                            (
                                              λ _. kept_write_at _ true p kernel s,
                                              (
                                                λ _. kept_write_at _ false p kernel s,
                                                (
                                                  λ _. kept_delayed call p kernel,
                                                  (
                                                    λ _. kept_behind p 0 kernel,
                                                    (
                                                      λ _. kept_priority p 0 (low_parameter call) kernel s h,
                                                      (
                                                        λ _. kept_procedure_called call p kernel s h,
                                                        (
                                                          λ _. same _ (procs_time_answered call kernel) (consoles_time_answered call kernel),
                                                          tt,
                                                        ),
                                                      ),
                                                    ),
                                                  ),
                                                ),
                                              ),
                                            ),
                                          ),
                                        ),
                                      ),
                                    ),
                                  ),
                                ),
                              ),
                            ),
                          ),
                        ),
                      ),
                    ),
                  ),
                ),
              ),
            ),
          ),
        ),
      ),
    )
    (same _ refl refl)

homes_through : (echoes : Bool) (old new : Kernel) → SameHomes (call_begun echoes old) new → SameHomes old new
homes_through echoes old new homes = homes_both old (call_begun echoes old) new (homes_stay old (call_begun echoes old) refl) homes

-- the kernel as the call of a process begins
abbrev begun : ℕ → Kernel → Kernel
begun p kernel = call_begun (does_echo (call_of kernel.dispatcher.procs p).function) kernel

pub homes_called : (p : ℕ) (kernel : Kernel) → IsSoundKernel kernel → Lives kernel.dispatcher.procs p → SameHomes kernel (called p kernel).kernel
homes_called p kernel s h =
    homes_through _ kernel _ (kept_call_done (call_of kernel.dispatcher.procs p) p (begun p kernel) (sound_begun _ kernel s) h refl).homes

-- a call changes its own call as little as another that is kept, but that of a reader to whom it hands a message
pub calls_called : (p : ℕ) (kernel : Kernel) → IsSoundKernel kernel → Lives kernel.dispatcher.procs p
    → (q : ℕ) → waits kernel.queues q ≡ 0 → call_of (called p kernel).kernel.dispatcher.procs q ≡ call_of kernel.dispatcher.procs q
calls_called p kernel s h q none =
    (kept_call_done (call_of kernel.dispatcher.procs p) p (begun p kernel) (sound_begun _ kernel s) h refl).call q none

-- what it leaves of each process
pub beside_called : (p q : ℕ) (kernel : Kernel) → IsSoundKernel kernel → Lives kernel.dispatcher.procs p → StaysBeside q kernel.dispatcher.procs (called p kernel).kernel.dispatcher.procs
beside_called p q kernel s h =
    (kept_call_done (call_of kernel.dispatcher.procs p) p (begun p kernel) (sound_begun _ kernel s) h refl).beside q

pub consoles_called : (p : ℕ) (kernel : Kernel) → IsSoundKernel kernel → Lives kernel.dispatcher.procs p → length (called p kernel).kernel.units.consoles ≡ length kernel.units.consoles
consoles_called p kernel s h =
    (kept_call_done (call_of kernel.dispatcher.procs p) p (begun p kernel) (sound_begun _ kernel s) h refl).consoles

pub call_called : (p : ℕ) (kernel : Kernel) → IsSoundKernel kernel → Lives kernel.dispatcher.procs p → IsReady kernel.dispatcher p
    → call_of (called p kernel).kernel.dispatcher.procs p ≡ call_of kernel.dispatcher.procs p
call_called p kernel s h is_ready = calls_called p kernel s h p (omega (arith, listed_once kernel p ready s is_ready))

-- and so does an event
pub beside_happened : (event : Event) (q : ℕ) (kernel : Kernel) → StaysBeside q kernel.dispatcher.procs (happened event kernel).dispatcher.procs
beside_happened event q kernel = beside_same q kernel.dispatcher.procs (happened event kernel).dispatcher.procs (procs_happened event kernel)

pub consoles_spoke : (kernel : Kernel) (console : ℕ) (bytes : List ℕ) → length (spoke kernel console bytes).units.consoles ≡ length kernel.units.consoles
unfolding spoke
consoles_spoke kernel console bytes = consoles_spoken kernel.units console bytes

consoles_key_done : (answer : KeyDone) (console : ℕ) (waited : Bool) (kernel : Kernel) → length (key_done answer console waited kernel).units.consoles ≡ length kernel.units.consoles
unfolding key_done echoed spoke Rattle.mpm_consoles.specs.Handling.spoke
consoles_key_done Stored console waited kernel = refl
consoles_key_done Dropped console waited kernel = refl
consoles_key_done Nothing console waited kernel = refl
consoles_key_done (Wakes p) console waited kernel = refl
consoles_key_done (Aborts p) console waited kernel = length-set kernel.units.consoles console _
consoles_key_done (Passes from to) console waited kernel = refl

consoles_key_came : (console byte : ℕ) (kernel : Kernel) → length (key_came console byte kernel).units.consoles ≡ length kernel.units.consoles
unfolding key_came
consoles_key_came console byte kernel =
    let resident = is_of_resident kernel.dispatcher.procs (owner_of kernel.units (ConsoleUnit console)) in
    either (λ (k : Kernel). length k.units.consoles ≡ length kernel.units.consoles) (nat_lt console (length kernel.units.consoles)) _ _
    (λ _. consoles_key_done (key_answer kernel.units console byte resident) console _ _ ∙ consoles_after_key kernel.units console byte resident) (λ _. refl)

consoles_happens : (event : Event) (kernel : Kernel) → length (happens event kernel).units.consoles ≡ length kernel.units.consoles
unfolding happens clock_ticked device_ready flag_came
consoles_happens Tick kernel = refl
consoles_happens (Key console byte) kernel = consoles_key_came console byte kernel
consoles_happens (Ready device byte) kernel = refl
consoles_happens (Int flag) kernel =
    either (λ (k : Kernel). length k.units.consoles ≡ length kernel.units.consoles) (is_flag flag) _ _ (λ _. consoles_signalled flag kernel) (λ _. refl)

pub consoles_happened : (event : Event) (kernel : Kernel) → length (happened event kernel).units.consoles ≡ length kernel.units.consoles
consoles_happened event kernel = consoles_happens event (afresh kernel)

pub homes_happened : (event : Event) (kernel : Kernel) → SameHomes kernel (happened event kernel)
homes_happened event kernel = homes_stay kernel (happened event kernel) (procs_happened event kernel)

-- a process is handed out, which may be in a resident procedure now

record HandedFrom (old new : Kernel) : Type 0 where
  pub lives : (q : ℕ) → lives new.dispatcher.procs q ≡ lives old.dispatcher.procs q
  pub call : (q : ℕ) → call_of new.dispatcher.procs q ≡ call_of old.dispatcher.procs q
  pub seg : (q : ℕ) → (process_in new.dispatcher.procs q).seg ≡ (process_in old.dispatcher.procs q).seg
  pub due : (q : ℕ) → (process_in new.dispatcher.procs q).abort_due ≡ (process_in old.dispatcher.procs q).abort_due
  pub answers : (q : ℕ) → (process_in new.dispatcher.procs q).error_mode ≡ (process_in old.dispatcher.procs q).error_mode
  pub multi : (q : ℕ) → (process_in new.dispatcher.procs q).multi ≡ (process_in old.dispatcher.procs q).multi
  pub units : new.units ≡ old.units
  pub queues : new.queues ≡ old.queues
  pub completed : new.dispatcher.completed ≡ old.dispatcher.completed

handed_same : (kernel : Kernel) → HandedFrom kernel kernel
handed_same kernel = record { lives = λ q. refl; call = λ q. refl; seg = λ q. refl; due = λ q. refl; answers = λ q. refl; multi = λ q. refl; units = refl; queues = refl; completed = refl }

-- a process is another one, whose end by an abort is put off as before
pub aborted_changed : (kernel : Kernel) (p q : ℕ) (process : Process) → process.abort_due ≡ (process_in kernel.dispatcher.procs p).abort_due
    → is_aborted (with_changed kernel p process).dispatcher.procs q ≡ is_aborted kernel.dispatcher.procs q
aborted_changed kernel p q process same =
    aborted_same kernel.dispatcher.procs (with_process kernel.dispatcher.procs p process) q (lives_changed kernel.dispatcher.procs p q process)
    (field_kept (λ (x : Process). x.abort_due) kernel.dispatcher.procs p q process same)

handed_inside : (slot : Option ℕ) (p message : ℕ) (kernel : Kernel) → HandedFrom kernel (inside_of slot p message kernel)
unfolding inside
handed_inside None p message kernel = handed_same kernel
handed_inside (Some k) p message kernel =
    let process = record (process_in kernel.dispatcher.procs p) { procedure = Some k; kept = message } in
    record {
      lives = λ q. lives_changed kernel.dispatcher.procs p q process;
      call = λ q. call_after kernel.dispatcher.procs p q process;
      seg = λ q. field_kept (λ (x : Process). x.seg) kernel.dispatcher.procs p q process refl;
      due = λ q. field_kept (λ (x : Process). x.abort_due) kernel.dispatcher.procs p q process refl;
      answers = λ q. field_kept (λ (x : Process). x.error_mode) kernel.dispatcher.procs p q process refl;
      multi = λ q. field_kept (λ (x : Process). x.multi) kernel.dispatcher.procs p q process refl;
      units = refl;
      queues = refl;
      completed = refl;
    }

handed_first : (first : Option ℕ) (kernel : Kernel) → HandedFrom kernel (with_first first kernel)
unfolding with_procedure
handed_first None kernel = handed_same kernel
handed_first (Some p) kernel =
    let call = call_of kernel.dispatcher.procs p in
    either (HandedFrom kernel) (call.function == CALL_RESIDENT_SYSTEM_PROCEDURE) _ _ (λ _. handed_inside (procedure_queue kernel.queues call) p (word_at call block_size) kernel) (λ _. handed_same kernel)

handed_from : (kernel : Kernel) → HandedFrom (dispatched (with_completed (drop 1 kernel.dispatcher.completed)) kernel) (handed_out kernel)
unfolding handed_out
handed_from kernel = handed_first (first_completed kernel.dispatcher.completed) (dispatched (with_completed (drop 1 kernel.dispatcher.completed)) kernel)

pub lives_handed_out : (kernel : Kernel) (q : ℕ) → lives (handed_out kernel).dispatcher.procs q ≡ lives kernel.dispatcher.procs q
lives_handed_out kernel q = (handed_from kernel).lives q

pub call_handed_out : (kernel : Kernel) (q : ℕ) → call_of (handed_out kernel).dispatcher.procs q ≡ call_of kernel.dispatcher.procs q
call_handed_out kernel q = (handed_from kernel).call q

pub seg_handed_out : (kernel : Kernel) (q : ℕ) → (process_in (handed_out kernel).dispatcher.procs q).seg ≡ (process_in kernel.dispatcher.procs q).seg
seg_handed_out kernel q = (handed_from kernel).seg q

pub aborted_handed_out : (kernel : Kernel) (q : ℕ) → is_aborted (handed_out kernel).dispatcher.procs q ≡ is_aborted kernel.dispatcher.procs q
aborted_handed_out kernel q = aborted_same kernel.dispatcher.procs (handed_out kernel).dispatcher.procs q (lives_handed_out kernel q) ((handed_from kernel).due q)

pub beside_handed_out : (q : ℕ) (kernel : Kernel) → StaysBeside q kernel.dispatcher.procs (handed_out kernel).dispatcher.procs
beside_handed_out q kernel =
    let from = handed_from kernel in
    record { living = from.lives q; seg = from.seg q; due = from.due q; function = ap (λ (x : Taken). x.function) (from.call q); answers = λ _. from.answers q; multi = λ _. from.multi q }

pub units_handed_out : (kernel : Kernel) → (handed_out kernel).units ≡ kernel.units
units_handed_out kernel = (handed_from kernel).units

pub queues_handed_out : (kernel : Kernel) → (handed_out kernel).queues ≡ kernel.queues
queues_handed_out kernel = (handed_from kernel).queues

pub completed_handed_out : (kernel : Kernel) → (handed_out kernel).dispatcher.completed ≡ drop 1 kernel.dispatcher.completed
completed_handed_out kernel = (handed_from kernel).completed

-- it lives where it lived
homes_inside : (slot : Option ℕ) (p message : ℕ) (kernel : Kernel) → HasSlots kernel.dispatcher.procs → Lives kernel.dispatcher.procs p → SameHomes kernel (inside_of slot p message kernel)
unfolding inside
homes_inside None p message kernel slots h = homes_stay kernel kernel refl
homes_inside (Some k) p message kernel slots h =
    homes_changed kernel p (record (process_in kernel.dispatcher.procs p) { procedure = Some k; kept = message }) slots h refl refl

homes_first : (first : Option ℕ) (kernel : Kernel) → HasSlots kernel.dispatcher.procs → ((p : ℕ) → first ≡ Some p → Lives kernel.dispatcher.procs p)
    → SameHomes kernel (with_first first kernel)
unfolding with_procedure
homes_first None kernel slots living = homes_stay kernel kernel refl
homes_first (Some p) kernel slots living =
    let call = call_of kernel.dispatcher.procs p in
    either (SameHomes kernel) (call.function == CALL_RESIDENT_SYSTEM_PROCEDURE) _ _
    (λ _. homes_inside (procedure_queue kernel.queues call) p (word_at call block_size) kernel slots (living p refl)) (λ _. homes_stay kernel kernel refl)

pub homes_handed_out : (kernel : Kernel) → IsSoundKernel kernel → CompletedLive kernel → SameHomes kernel (handed_out kernel)
unfolding handed_out
homes_handed_out kernel s live =
    let left = dispatched (with_completed (drop 1 kernel.dispatcher.completed)) kernel in
    homes_both kernel left _ (homes_stay kernel left refl)
    (homes_first (first_completed kernel.dispatcher.completed) left s.slots (λ p first. completed_lives kernel p live first))
