-- A whole system stays whole through what a process does: its instruction, its call, its end.
use Rattle.std.proofs.Common.{◌≡◌, ◌≢◌, ◌∙◌, ◌<◌, ℕ, ◌&&◌, ◌||◌, Bool, true, false, not, List, [], Option, Some, None, ◌==◌, if◌then◌else◌, refl, sym, ap, subst, IsNone}
use Rattle.std.proofs.Math.Bool.{or-false}
use Rattle.std.proofs.lemmas.Bool.{false≢true, or_right, eq-eqb, or_parts}
use Rattle.std.proofs.lemmas.List.{set-get_or}
use Rattle.mpm_base.proofs.Choices.{either}
use Rattle.z80_regs.specs.Outcome.{StepOutcome}
use Rattle.mpm_base.specs.Calls.{Taken, Answer}
use Rattle.mpm_base.specs.declared.functions.TheConstants.{PRINT_STRING}
use Rattle.z80_ext.specs.Instruction.{registers_after, actions_of}
use Rattle.mpm_banks.specs.Memory.{Memory, segment_of, byte_at}
use Rattle.mpm_banks.specs.Allocations.{lowest_free}
use Rattle.mpm_banks.specs.Actions.{memory_after, devices_after}
use Rattle.mpm_gate.specs.Replies.{answered, returned}
use Rattle.mpm_procs.specs.Table.{Table, lives, Lives, process_in, call_of, with_process}
use Rattle.mpm_procs.specs.Opening.{blank}
use Rattle.mpm_procs.proofs.MapLaws.{lives_below, lives_changed, call_after}
use Rattle.mpm_dispatcher.specs.Dispatch.{IsReady, with_procs}
use Rattle.mpm_kernel.specs.Kernel.{Kernel, CompletedLive, with_changed, dispatched, is_resident}
use Rattle.mpm_kernel.specs.Columns.{spoke}
use Rattle.mpm_kernel.specs.Ending.{discharged}
use Rattle.mpm_queues.specs.Queues.{waits as waits_at_queues}
use Rattle.mpm_kernel.proofs.SoundLaws.{sound_process, sound_devices, sound_spoke, live_kept}
use Rattle.mpm_kernel.proofs.HomeLaws.{homes_stay, lived_in_changed, procs_spoke}
use Rattle.mpm_kernel.proofs.EndingLaws.{ready_waits_at_none, sound_discharged, live_discharged, homes_discharged, lives_discharged, call_discharged}
use Rattle.mpm_kernel.specs.Procedures.{given_back}
use Rattle.mpm_kernel.proofs.ProcedureLaws.{stays_given_back, homes_given_back}
use Rattle.mpm_xdos.specs.Creating.{home_base, created}
use Rattle.mpm_xdos.specs.Ending.{is_segment, lives_in, memory_without}
use Rattle.mpm_xdos.specs.Aborting.{waits_to_end, with_abort_due, target, abort_done, memory_after_abort}
use Rattle.mpm_xdos.specs.Procedures.{entering, entered, leaving, returned_from_procedure}
use Rattle.mpm_xdos.proofs.TargetLaws.{target_lives}
use Rattle.mpm_xdos.proofs.Homes.{home_here}
use Rattle.mpm_xdos.proofs.CreatedLaws.{made_created}
use Rattle.mpm_render.specs.Completions.{Completion}
use Rattle.mpm_output.specs.Texts.{illegal_text}
use Rattle.mpm_system.specs.declared.system.System.{System}
use Rattle.mpm_system.specs.Whole.{IsWhole, speaking}
use Rattle.mpm_system.specs.Owing.{owing_unless}
use Rattle.mpm_system.specs.Calling.{Served}
use Rattle.mpm_system.specs.Taking.{with_regs}
use Rattle.mpm_system.specs.Saying.{string_of, said_by}
use Rattle.mpm_system.specs.Answering.{popped, replied, recorded, answering_call}
use Rattle.mpm_system.specs.Written.{records_out}
use Rattle.mpm_system.proofs.HomeLaws.{KeepsHomes, keeps_placed, keeps_acted, free_or_lived, found_is_free}
use Rattle.mpm_system.proofs.WholeLaws.{whole_kernel, whole_memory, StaysWhole, whole_changed, whole_regs}
use Rattle.mpm_machine.specs.Ending.{ended}
use Rattle.mpm_machine.specs.Serving.{creating, aborted, aborting_this, aborting, is_entry, with_entry, reply_at_entry, fulfilling, completing, returning}
use Rattle.mpm_machine.specs.Step.{illegal, executed, instructed}
use Rattle.mpm_machine.proofs.HomeLaws.{leaves_without}

pub slot_is_there : (system : System) (p : ℕ) → IsWhole system → Lives system.kernel.dispatcher.procs p → p < 32
slot_is_there system p w h = lives_below system.kernel.dispatcher.procs p w.sound.slots h

-- a segment that can be reserved is nobody's home
pub free_is_empty : (system : System) (base : Option ℕ) (pages p seg : ℕ) → IsWhole system → lowest_free system.memory base pages ≡ Some seg
    → Lives system.kernel.dispatcher.procs p → (process_in system.kernel.dispatcher.procs p).seg ≢ Some seg
free_is_empty system base pages p seg w found h = λ home.
    free_or_lived (segment_of system.memory seg).allocation
    (found_is_free system.memory base pages seg found) (w.lived p seg h home)

-- more steps are counted
pub whole_steps : (system : System) (steps : ℕ) → IsWhole system → IsWhole (record system { steps = steps })
whole_steps system steps w = record { sound = w.sound; live = w.live; homes = w.homes; lived = w.lived; memory = w.memory; script = w.script; settled = w.settled }

-- other records are kept
pub whole_records : (system : System) (records : List Completion) → IsWhole system → IsWhole (record system { records = records })
whole_records system records w = record { sound = w.sound; live = w.live; homes = w.homes; lived = w.lived; memory = w.memory; script = w.script; settled = w.settled }

pub whole_owed : (system : System) (owed : List Bool) → IsWhole system → IsWhole (record system { owed = owed })
whole_owed system owed w = record { sound = w.sound; live = w.live; homes = w.homes; lived = w.lived; memory = w.memory; script = w.script; settled = w.settled }

pub whole_written : (answered written : System) → IsWhole answered → written ≡ (records_out answered).system → IsWhole written
whole_written answered written w is = subst IsWhole (sym is) (whole_records answered [] w)

-- so it is after a call is served, whose bytes may be those of a message by then: the process keeps its function and its parameter,
-- and a text
pub record StaysServed (p : ℕ) (old new : System) : Type 0 where
  pub whole : IsWhole new
  pub lives : Lives new.kernel.dispatcher.procs p
  pub function : (call_of new.kernel.dispatcher.procs p).function ≡ (call_of old.kernel.dispatcher.procs p).function
  pub word : (call_of new.kernel.dispatcher.procs p).word ≡ (call_of old.kernel.dispatcher.procs p).word
  pub text : (call_of old.kernel.dispatcher.procs p).function ≡ PRINT_STRING
      → (call_of new.kernel.dispatcher.procs p).bytes ≡ (call_of old.kernel.dispatcher.procs p).bytes

pub stays_as_served : (p : ℕ) (old new : System) → StaysWhole p old new → StaysServed p old new
stays_as_served p old new stays = record {
  whole = stays.whole;
  lives = stays.lives;
  function = ap (λ (c : Taken). c.function) stays.call;
  word = ap (λ (c : Taken). c.word) stays.call;
  text = λ _. ap (λ (c : Taken). c.bytes) stays.call;
}

-- bytes come to a console
live_spoke : (kernel : Kernel) (console : ℕ) (bytes : List ℕ) → CompletedLive kernel → CompletedLive (spoke kernel console bytes)
unfolding spoke
live_spoke kernel console bytes live = live

pub whole_speaking : (console p : ℕ) (bytes : List ℕ) (system : System) → IsWhole system → Lives system.kernel.dispatcher.procs p
    → StaysWhole p system (speaking console bytes system).system
unfolding speaking
whole_speaking console p bytes system w h =
    let same = procs_spoke system.kernel console bytes in
    record {
      whole = whole_kernel system _ w (sound_spoke system.kernel console bytes w.sound) (live_spoke system.kernel console bytes w.live) (homes_stay _ _ same);
      lives = ap (λ procs. lives procs p) same ∙ h;
      call = ap (λ procs. call_of procs p) same;
    }

pub whole_after_text : (system : System) (kernel : Kernel) (console : ℕ) (bytes : List ℕ) → IsWhole system → kernel ≡ spoke system.kernel console bytes
    → IsWhole (record system { kernel = kernel })
whole_after_text system kernel console bytes w is =
    let P : Kernel → Type 0 = λ k. IsWhole (record system { kernel = k }) in
    subst P (sym is)
    (whole_kernel system _ w (sound_spoke system.kernel console bytes w.sound) (live_spoke system.kernel console bytes w.live)
    (homes_stay _ _ (procs_spoke system.kernel console bytes)))

-- a process ends

lives_there : (procs : Table) (seg q : ℕ) → Lives procs q → (process_in procs q).seg ≡ Some seg → lives_in procs seg q ≡ true
lives_there procs seg q living there = ap (λ b. b && is_segment seg (process_in procs q).seg) living ∙ ap (is_segment seg) there ∙ eq-eqb seg seg refl

pub whole_ended : (p : ℕ) (system : System) → IsWhole system → Lives system.kernel.dispatcher.procs p → IsWhole (ended p system)
unfolding ended
whole_ended p system w h =
    let gone = record system { kernel = discharged system.kernel p } in
    let whole = whole_kernel system _ w (sound_discharged system.kernel p w.sound h) (live_discharged system.kernel p w.sound h)
    (homes_discharged system.kernel p w.sound h) in
    let leaves = leaves_without system.memory system.kernel p in
    record {
      sound = whole.sound;
      live = whole.live;
      script = w.script;
      settled = whole.settled;
      memory = leaves.memory w.memory;
      homes = λ q seg living there. leaves.all seg (whole.homes q seg living there);
      lived = λ q seg living there.
          leaves.lived seg (whole.homes q seg living there)
          (home_here gone.kernel.dispatcher.procs seg q (lives_below gone.kernel.dispatcher.procs q whole.sound.slots living) (lives_there gone.kernel.dispatcher.procs seg q living there))
          (whole.lived q seg living there);
    }

whole_illegal : (p : ℕ) (system : System) → IsWhole system → Lives system.kernel.dispatcher.procs p → IsWhole (illegal p system).system
unfolding illegal
whole_illegal p system w h =
    let spoke = whole_speaking (process_in system.kernel.dispatcher.procs p).console p (illegal_text (process_in system.kernel.dispatcher.procs p).regs.pc) system w h in
    whole_ended p _ spoke.whole spoke.lives

-- an instruction
whole_ran : (outcome : Option StepOutcome) (p seg : ℕ) (system : System) → IsWhole system → Lives system.kernel.dispatcher.procs p → IsWhole (instructed outcome p seg system)
unfolding instructed
whole_ran outcome p seg system w h =
    let polled = record system.kernel { devices = devices_after (actions_of outcome) system.kernel.devices } in
    let before = whole_kernel system polled w (sound_devices system.kernel _ w.sound) w.live (homes_stay _ _ refl) in
    whole_memory _ _ (whole_regs p (registers_after outcome (process_in system.kernel.dispatcher.procs p).regs) (record system { kernel = polled }) before h).whole
    (keeps_acted (actions_of outcome) seg system.memory)

pub whole_instructed : (outcome : Option StepOutcome) (p seg : ℕ) (system : System) → IsWhole system → Lives system.kernel.dispatcher.procs p
    → IsWhole (executed outcome p seg system).system
unfolding executed
whole_instructed None p seg system w h = whole_illegal p system w h
whole_instructed (Some outcome) p seg system w h = whole_ran (Some outcome) p seg system w h

-- where no listed instruction stands, nothing changes

pub same_regs : (kernel : Kernel) (p : ℕ) → with_regs kernel p (process_in kernel.dispatcher.procs p).regs ≡ kernel
unfolding with_process
same_regs kernel p = ap (λ processes. dispatched (with_procs (record kernel.dispatcher.procs { processes = processes })) kernel) (set-get_or kernel.dispatcher.procs.processes p blank)

pub ran_nothing : (outcome : Option StepOutcome) (p seg : ℕ) (system : System) → IsNone outcome → instructed outcome p seg system ≡ system
unfolding instructed memory_after devices_after
ran_nothing None p seg system none = ap (λ kernel. record system { kernel = kernel }) (same_regs system.kernel p)
ran_nothing (Some outcome) p seg system none = absurd (cc)

-- a call's text comes out, and its reply is placed
pub whole_said : (call : Taken) (string : List ℕ) (p : ℕ) (system : System) → IsWhole system → Lives system.kernel.dispatcher.procs p
    → StaysWhole p system (said_by call string p system).system
unfolding said_by
whole_said call string p system w h = whole_speaking (process_in system.kernel.dispatcher.procs p).console p _ system w h

pub whole_popped : (p seg : ℕ) (system : System) → IsWhole system → Lives system.kernel.dispatcher.procs p → StaysWhole p system (popped p seg system)
unfolding popped
whole_popped p seg system w h = whole_regs p (returned (byte_at system.memory seg) (process_in system.kernel.dispatcher.procs p).regs) system w h

pub whole_replied : (reply : Answer) (call : Taken) (p seg : ℕ) (system : System) → IsWhole system → Lives system.kernel.dispatcher.procs p
    → StaysWhole p system (answering_call reply call p seg system)
unfolding answering_call recorded replied
whole_replied reply call p seg system w h =
    let changed = whole_regs p (answered reply.hl (process_in system.kernel.dispatcher.procs p).regs) system w h in
    record {
      whole = whole_records _ _ (whole_memory _ _ changed.whole (keeps_placed reply call.word seg system.memory));
      lives = changed.lives;
      call = changed.call;
    }

-- a process enters a resident procedure

whole_entered : (p : ℕ) (system : System) → IsWhole system → Lives system.kernel.dispatcher.procs p
    → StaysWhole p system (record system { kernel = entered p system.kernel })
unfolding entered entering
whole_entered p system w h =
    whole_changed p (entering (call_of system.kernel.dispatcher.procs p) (process_in system.kernel.dispatcher.procs p)) system w h refl refl refl refl refl refl

pub whole_entry : (reply : Answer) (call : Taken) (p : ℕ) (system : System) → IsWhole system → Lives system.kernel.dispatcher.procs p
    → StaysWhole p system (with_entry reply call p system)
unfolding with_entry
whole_entry reply call p system w h =
    either (λ (kernel : Kernel). StaysWhole p system (record system { kernel = kernel })) (is_entry call reply) _ _
    (λ _. whole_entered p system w h) (λ _. record { whole = w; lives = h; call = refl })

pub whole_fulfilling : (reply : Answer) (call : Taken) (p seg : ℕ) (system : System) → IsWhole system → Lives system.kernel.dispatcher.procs p
    → IsWhole (fulfilling reply call p seg system)
unfolding fulfilling
whole_fulfilling reply call p seg system w h =
    let inside = whole_entry reply call p system w h in
    (whole_replied (reply_at_entry reply call p system) call p seg _ inside.whole inside.lives).whole

-- and leaves it
pub whole_returning : (p : ℕ) (system : System) → IsWhole system → Lives system.kernel.dispatcher.procs p → IsWhole (returning p system)
unfolding returning returned_from_procedure leaving
whole_returning p system w h =
    let stays = stays_given_back p system.kernel w.sound h in
    let afterwards = record system { kernel = given_back p system.kernel } in
    let whole = whole_kernel system _ w stays.sound stays.completed (homes_given_back p system.kernel w.sound h) in
    (whole_regs p _ afterwards whole stays.lives).whole

pub whole_completing : (reply : Answer) (call : Taken) (p seg : ℕ) (system : System) → IsWhole system → Lives system.kernel.dispatcher.procs p
    → IsWhole (completing reply call p seg system).system
unfolding completing
whole_completing reply call p seg system w h =
    let said = whole_said call (string_of call seg system.memory) p system w h in
    let afterwards = whole_popped p seg _ said.whole said.lives in
    whole_fulfilling reply call p seg _ afterwards.whole afterwards.lives

-- a call is done
pub whole_banks : (p : ℕ) (memory : Memory) (system : System) → IsWhole system → Lives system.kernel.dispatcher.procs p → KeepsHomes system.memory memory
    → StaysWhole p system (record system { memory = memory })
whole_banks p memory system w h keeps = record { whole = whole_memory system memory w keeps; lives = h; call = refl }

pub whole_creating : (p : ℕ) (system : System) → IsWhole system → Lives system.kernel.dispatcher.procs p → StaysWhole p system (creating p system).system
unfolding creating
whole_creating p system w h =
    let base = home_base system.memory (process_in system.kernel.dispatcher.procs p).seg in
    let made = made_created system.kernel p base w.sound h in
    record {
      whole = whole_kernel system _ w made.sound (live_kept system.kernel (created system.kernel p base) made.completed made.lives w.live) made.homes;
      lives = made.lives p h;
      call = made.call p h;
    }

-- a process is aborted, by itself or by another

-- a resident stays, the end of another process is put off, or it ends
abbrev pub aborted_by : Bool → Bool → ℕ → System → System
aborted_by stays waits p system = record system {
  kernel = if stays then system.kernel else (if waits then with_abort_due system.kernel p else (discharged system.kernel p));
  memory = if stays || waits then system.memory else (memory_without system.memory system.kernel p);
  abort_deferred = system.abort_deferred || waits;
  owed = owing_unless (stays || waits) p system.owed;
}

pub aborted_is : (stays waits : Bool) (p : ℕ) (system : System) → is_resident system.kernel.dispatcher.procs p ≡ stays → waits_to_end system.kernel p ≡ waits
    → aborted p system ≡ aborted_by stays waits p system
unfolding aborted abort_done memory_after_abort
aborted_is stays waits p system resident e =
    ap (λ b. aborted_by b (waits_to_end system.kernel p) p system) resident ∙ ap (λ b. aborted_by stays b p system) e

pub ends_at_once : (p : ℕ) (system : System) → aborted_by false false p system ≡ ended p system
unfolding ended
ends_at_once p system = ap (λ b. record (ended p system) { abort_deferred = b }) (or-false system.abort_deferred)

pub abort_deferred_is : (p : ℕ) (system : System) → aborted_by false true p system ≡ record system { kernel = with_abort_due system.kernel p; abort_deferred = true }
abort_deferred_is p system = ap (λ b. record system { kernel = with_abort_due system.kernel p; abort_deferred = b }) (or_right system.abort_deferred true refl)

pub whole_resident : (waits : Bool) (p : ℕ) (system : System) → IsWhole system → IsWhole (aborted_by true waits p system)
whole_resident waits p system w = record {
  sound = w.sound;
  live = w.live;
  homes = w.homes;
  lived = w.lived;
  memory = w.memory;
  script = w.script;
  settled = λ off. w.settled ((or_parts system.abort_deferred waits off).0);
}

pub whole_abort_deferred : (p : ℕ) (system : System) → IsWhole system → Lives system.kernel.dispatcher.procs p
    → IsWhole (record system { kernel = with_abort_due system.kernel p; abort_deferred = true })
whole_abort_deferred p system w h =
    let process = record (process_in system.kernel.dispatcher.procs p) { abort_due = true } in
    let kernel = with_changed system.kernel p process in
    let there = lived_in_changed system.kernel p process w.sound.slots h refl in
    record {
      sound = sound_process system.kernel p process w.sound h refl refl refl refl;
      live = live_kept system.kernel kernel refl (λ q living. lives_changed system.kernel.dispatcher.procs p q process ∙ living) w.live;
      script = w.script;
      memory = w.memory;
      settled = λ off. absurd (false≢true (sym off));
      homes = λ q seg living home. let lived = there q seg living home in w.homes lived.who seg lived.lives lived.home;
      lived = λ q seg living home. let lived = there q seg living home in w.lived lived.who seg lived.lives lived.home;
    }

stays_aborted : (stays waits : Bool) (other p : ℕ) (system : System) → IsWhole system → Lives system.kernel.dispatcher.procs p → Lives system.kernel.dispatcher.procs other
    → (waits ≡ false → p ≢ other) → waits_at_queues system.kernel.queues p ≡ 0 → StaysWhole p system (aborted_by stays waits other system)
stays_aborted true waits other p system w h living apart none =
    record { whole = whole_resident waits other system w; lives = h; call = refl }
stays_aborted false true other p system w h living apart none =
    let process = record (process_in system.kernel.dispatcher.procs other) { abort_due = true } in
    record {
      whole = subst IsWhole (sym (abort_deferred_is other system)) (whole_abort_deferred other system w living);
      lives = lives_changed system.kernel.dispatcher.procs other p process ∙ h;
      call = call_after system.kernel.dispatcher.procs other p process;
    }
stays_aborted false false other p system w h living apart none = record {
  whole = subst IsWhole (sym (ends_at_once other system)) (whole_ended other system w living);
  lives = lives_discharged system.kernel other p w.sound living (apart refl) ∙ h;
  call = call_discharged system.kernel other p w.sound living (apart refl) none;
}

-- unless it ends itself, the one that asks is another where the end isn't put off
another : (waits : Bool) (other p : ℕ) → (other == p && not waits) ≡ false → waits ≡ false → p ≢ other
another true other p e off = absurd (false≢true (sym off))
another false other p e off = λ same. false≢true (sym e ∙ ap (λ b. b && true) (eq-eqb other p (sym same)))

whole_aborting_this : (named : Option ℕ) (p : ℕ) (system : System) → IsWhole system → Lives system.kernel.dispatcher.procs p
    → ((q : ℕ) → named ≡ Some q → Lives system.kernel.dispatcher.procs q) → waits_at_queues system.kernel.queues p ≡ 0
    → StaysWhole p system (aborting_this named p system).system
whole_aborting_this None p system w h living none = record { whole = w; lives = h; call = refl }
whole_aborting_this (Some other) p system w h living none =
    let stays = is_resident system.kernel.dispatcher.procs other in
    let waits = waits_to_end system.kernel other in
    either (λ (s : Served). StaysWhole p system s.system) (other == p && not (waits_to_end system.kernel p)) _ _
    (λ _. record { whole = w; lives = h; call = refl }) (λ e.
    subst (StaysWhole p system) (sym (aborted_is stays waits other system refl refl))
    (stays_aborted stays waits other p system w h (living other refl) (apart other p system e) none))
  where
    apart : (other p : ℕ) (system : System) → (other == p && not (waits_to_end system.kernel p)) ≡ false
        → waits_to_end system.kernel other ≡ false → p ≢ other
    apart other p system e off = λ same.
        let there : waits_to_end system.kernel p ≡ false = ap (λ n. waits_to_end system.kernel n) same ∙ off in
        another (waits_to_end system.kernel p) other p e there same

pub whole_aborting : (p : ℕ) (system : System) → IsWhole system → Lives system.kernel.dispatcher.procs p → IsReady system.kernel.dispatcher p
    → StaysWhole p system (aborting p system).system
unfolding aborting
whole_aborting p system w h is_ready =
    whole_aborting_this (target system.kernel.dispatcher.procs p) p system w h (λ q named. target_lives system.kernel.dispatcher.procs p q named)
    (ready_waits_at_none system.kernel p w.sound is_ready)
