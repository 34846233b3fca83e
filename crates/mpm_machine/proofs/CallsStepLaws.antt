-- Who is at the disk keeps his call through what a step begins with: an event, or what the running process does, who isn't at the disk.
use Rattle.std.proofs.Common.{◌≡◌, ◌≢◌, ◌∙◌, ℕ, ◌<◌, ◌==◌, ◌&&◌, not, Bool, true, false, if◌then◌else◌, List, Option, Some, None, IfSome, refl, ap}
use Rattle.mpm_base.specs.Lists.{in_width}
use Rattle.mpm_base.specs.Calls.{Taken, Answer}
use Rattle.mpm_base.specs.declared.call.Outcome.{Outcome}
use Rattle.mpm_base.specs.declared.call.Outcome.TheVariants.{Done, Held, Retry, Ended}
use Rattle.mpm_base.specs.declared.functions.TheConstants.{ABSOLUTE_MEMORY_REQUEST, RELOCATABLE_MEMORY_REQUEST, MEMORY_FREE, CREATE_PROCESS, CHAIN_TO_PROGRAM, SEND_CLI_COMMAND, PARSE_FILENAME, ABORT_SPECIFIED_PROCESS, SYSTEM_DATA_ADDRESS, RETURN_PROCESS_DESCRIPTOR_ADDRESS}
use Rattle.mpm_base.proofs.Choices.{either}
use Rattle.mpm_procs.specs.Table.{Lives, process_in, call_of}
use Rattle.mpm_procs.specs.declared.process.Process.{Process}
use Rattle.mpm_procs.proofs.MapLaws.{lives_after, process_after}
use Rattle.mpm_script.specs.declared.event.Event.{Event}
use Rattle.mpm_service.specs.Places.{at_disk}
use Rattle.mpm_dispatcher.specs.Dispatch.{IsReady}
use Rattle.mpm_kernel.specs.Kernel.{Kernel, IsSoundKernel, is_resident}
use Rattle.mpm_kernel.specs.Called.{Called}
use Rattle.mpm_kernel.specs.Calls.{called}
use Rattle.mpm_kernel.specs.Consoling.{abort_taken}
use Rattle.mpm_kernel.specs.Ending.{discharged}
use Rattle.mpm_kernel.specs.Events.{MayCome, happened}
use Rattle.mpm_kernel.proofs.AbortLaws.{sound_abort_taken}
use Rattle.mpm_xdos.specs.Procedures.{entered}
use Rattle.mpm_kernel.proofs.SoundLaws.{sound_call, procs_happened}
use Rattle.mpm_kernel.proofs.DiskStays.{disk_happened}
use Rattle.mpm_kernel.proofs.Beside.{call_beside}
use Rattle.mpm_xdos.specs.Aborting.{waits_to_end, with_abort_due, target, abort_done}
use Rattle.mpm_xdos.specs.Creating.{created, home_base}
use Rattle.mpm_xdos.proofs.TargetLaws.{target_lives}
use Rattle.mpm_xdos.proofs.CreatedLaws.{made_created}
use Rattle.mpm_interrupts.specs.Interrupts.{due_taken}
use Rattle.mpm_system.specs.declared.system.System.{System}
use Rattle.mpm_system.specs.Whole.{IsWhole, speaking}
use Rattle.mpm_system.specs.Calling.{Served as Attended, with_kept}
use Rattle.mpm_system.specs.Sending.{sent, sending, chaining, has_interpreter, framed, renamed, chained, may_send}
use Rattle.mpm_system.specs.Taking.{asked, keeping, with_regs}
use Rattle.mpm_system.specs.Segments.{reserving, releasing}
use Rattle.mpm_system.specs.Parsing.{parsing}
use Rattle.mpm_system.specs.Saying.{string_of, said_by}
use Rattle.mpm_system.specs.Answering.{popped, answering_call, recorded, replied}
use Rattle.mpm_system.specs.Coming.{unhalted}
use Rattle.mpm_system.proofs.WholeLaws.{keeps_call as keeps_asked_call}
use Rattle.mpm_machine.specs.Serving.{aborted, aborting, aborting_this, creating, served_to_all, served, is_entry, with_entry, fulfilling, completing, outcome_of, gate_step}
use Rattle.mpm_machine.specs.Step.{key_aborted, happened_to, event_come, interrupted}
use Rattle.mpm_machine.proofs.ActedLaws.{whole_served}
use Rattle.mpm_machine.proofs.WholeStepLaws.{whole_happened, whole_due, aborted_lives}
use Rattle.mpm_machine.proofs.SendingLaws.{procs_after}
use Rattle.mpm_machine.proofs.KeepingLaws.{passed_after_disk, created_disk}
use Rattle.mpm_machine.proofs.CallsLaws.{KeepsCalls, SystemKeepsCalls, calls_stay, calls_same, calls_then, calls_nothing, calls_changed, not_ready, at_disk_lives, calls_of_called, calls_discharged, calls_ended, calls_entered, calls_spoke}

-- a process isn't at the disk
abbrev pub IsApart : ℕ → Kernel → Type 0
IsApart p kernel = (q : ℕ) → 0 < at_disk kernel.disk q → q ≢ p

pub ready_apart : (p : ℕ) (kernel : Kernel) → IsSoundKernel kernel → IsReady kernel.dispatcher p → IsApart p kernel
ready_apart p kernel s is_ready = λ q at. not_ready kernel p q s is_ready at

pub apart_still : (p : ℕ) (old new : Kernel) → KeepsCalls old new → IsApart p old → IsApart p new
apart_still p old new keeps apart = λ q at. apart q (keeps.was q at)

-- it keeps another call
pub calls_kept : (p : ℕ) (call : Taken) (kernel : Kernel) → IsApart p kernel → KeepsCalls kernel (with_kept p call kernel)
calls_kept p call kernel apart =
    calls_stay kernel (with_kept p call kernel) refl (λ q at. call_beside kernel.dispatcher.procs p q call (apart q at))
    (λ q at _. ap (λ (x : Process). x.multi) (process_after kernel.dispatcher.procs p q call))

-- a command is sent
calls_sent : (function : ℕ) (message : List ℕ) (p : ℕ) (kernel : Kernel) → IsSoundKernel kernel → Lives kernel.dispatcher.procs p → IsApart p kernel
    → KeepsCalls kernel (sent function message p kernel).kernel
unfolding sent
calls_sent function message p kernel s h apart =
    let call = framed message (call_of kernel.dispatcher.procs p) in
    let asks = with_kept p call kernel in
    let done = called p asks in
    let named = renamed function p done.kernel in
    let first = calls_kept p call kernel apart in
    let second = calls_of_called p asks (sound_call kernel p call s) (lives_after kernel.dispatcher.procs p p call ∙ h) in
    let both = calls_then kernel asks done.kernel first second in
    calls_then kernel named _
    (calls_then kernel done.kernel named both (calls_kept p _ done.kernel (apart_still p kernel done.kernel both apart)))
    (calls_same named _ (passed_after_disk done.outcome done.reply p named) (procs_after done.outcome done.reply p named))

called_by : (old : Kernel) (b : Bool) (x y : Called) → KeepsCalls old x.kernel → KeepsCalls old y.kernel → KeepsCalls old (if b then x else y).kernel
called_by old true x y one other = one
called_by old false x y one other = other

calls_sending : (interprets : Bool) (p : ℕ) (kernel : Kernel) → IsSoundKernel kernel → Lives kernel.dispatcher.procs p → IsApart p kernel
    → KeepsCalls kernel (sending interprets p kernel).kernel
unfolding sending
calls_sending interprets p kernel s h apart =
    let call = call_of kernel.dispatcher.procs p in
    called_by kernel (may_send interprets call kernel) _ _ (calls_sent SEND_CLI_COMMAND (in_width 130 call.bytes) p kernel s h apart) (calls_nothing kernel)

calls_chaining : (interprets : Bool) (p : ℕ) (kernel : Kernel) → IsSoundKernel kernel → Lives kernel.dispatcher.procs p → IsApart p kernel
    → KeepsCalls kernel (chaining interprets p kernel).kernel
unfolding chaining
calls_chaining interprets p kernel s h apart =
    called_by kernel interprets _ _
    (calls_sent CHAIN_TO_PROGRAM (chained (process_in kernel.dispatcher.procs p) (call_of kernel.dispatcher.procs p).bytes) p kernel s h apart) (calls_nothing kernel)

-- processes are created, or one is aborted
calls_created : (p base : ℕ) (kernel : Kernel) → IsSoundKernel kernel → Lives kernel.dispatcher.procs p → KeepsCalls kernel (created kernel p base)
calls_created p base kernel s h =
    calls_stay kernel (created kernel p base) (created_disk kernel p base) (λ q at. (made_created kernel p base s h).call q (at_disk_lives kernel q s at))
    (λ q at _. ap (λ (x : Process). x.multi) ((made_created kernel p base s h).process q (at_disk_lives kernel q s at)))

abort_calls : (p : ℕ) (kernel : Kernel) (stays waits : Bool) → IsSoundKernel kernel → Lives kernel.dispatcher.procs p
    → KeepsCalls kernel (if stays then kernel else (if waits then with_abort_due kernel p else (discharged kernel p)))
abort_calls p kernel true waits s h = calls_nothing kernel
abort_calls p kernel false true s h = calls_changed kernel p _ refl
abort_calls p kernel false false s h = calls_discharged kernel p s h

pub calls_aborted : (p : ℕ) (system : System) → IsSoundKernel system.kernel → Lives system.kernel.dispatcher.procs p → SystemKeepsCalls system (aborted p system)
unfolding aborted abort_done
calls_aborted p system s h = abort_calls p system.kernel (is_resident system.kernel.dispatcher.procs p) (waits_to_end system.kernel p) s h

calls_aborting_this : (named : Option ℕ) (p : ℕ) (system : System) → IsSoundKernel system.kernel → ((q : ℕ) → named ≡ Some q → Lives system.kernel.dispatcher.procs q)
    → SystemKeepsCalls system (aborting_this named p system).system
calls_aborting_this None p system s living = calls_nothing system.kernel
calls_aborting_this (Some other) p system s living =
    either (λ (d : Attended). SystemKeepsCalls system d.system) (other == p && not (waits_to_end system.kernel p)) _ _
    (λ _. calls_nothing system.kernel) (λ _. calls_aborted other system s (living other refl))

calls_aborting : (p : ℕ) (system : System) → IsSoundKernel system.kernel → SystemKeepsCalls system (aborting p system).system
unfolding aborting
calls_aborting p system s =
    calls_aborting_this (target system.kernel.dispatcher.procs p) p system s (λ q named. target_lives system.kernel.dispatcher.procs p q named)

-- a call is served
pub calls_to_all : (call : Taken) (p : ℕ) (system : System) → IsSoundKernel system.kernel → Lives system.kernel.dispatcher.procs p → IsApart p system.kernel
    → SystemKeepsCalls system (served_to_all call p system).system
unfolding served_to_all reserving releasing
calls_to_all call p system s h apart =
    let P = λ (d : Attended). SystemKeepsCalls system d.system in
    let none = calls_nothing system.kernel in
    either P (call.function == ABSOLUTE_MEMORY_REQUEST) _ _ (λ _. none)
    (λ _. either P (call.function == RELOCATABLE_MEMORY_REQUEST) _ _ (λ _. none)
    (λ _. either P (call.function == MEMORY_FREE) _ _ (λ _. none)
    (λ _. either P (call.function == SEND_CLI_COMMAND) _ _ (λ _. calls_sending (has_interpreter system) p system.kernel s h apart)
    (λ _. calls_of_called p system.kernel s h))))

pub calls_served : (call : Taken) (p : ℕ) (system : System) → IsSoundKernel system.kernel → Lives system.kernel.dispatcher.procs p → IsApart p system.kernel
    → SystemKeepsCalls system (served call p system).system
unfolding served creating parsing
calls_served call p system s h apart =
    let P = λ (d : Attended). SystemKeepsCalls system d.system in
    let none = calls_nothing system.kernel in
    either P (call.function == CREATE_PROCESS) _ _
    (λ _. calls_created p (home_base system.memory (process_in system.kernel.dispatcher.procs p).seg) system.kernel s h)
    (λ _. either P (call.function == ABORT_SPECIFIED_PROCESS) _ _ (λ _. calls_aborting p system s)
    (λ _. either P (call.function == PARSE_FILENAME) _ _ (λ _. none)
    (λ _. either P (call.function == SYSTEM_DATA_ADDRESS) _ _ (λ _. none)
    (λ _. either P (call.function == RETURN_PROCESS_DESCRIPTOR_ADDRESS) _ _ (λ _. none)
    (λ _. either P (call.function == CHAIN_TO_PROGRAM) _ _ (λ _. calls_chaining (has_interpreter system) p system.kernel s h apart)
    (λ _. calls_to_all call p system s h apart))))))

-- an event comes
calls_unhalted : (running : Option ℕ) (kernel : Kernel) → KeepsCalls kernel (unhalted running kernel)
calls_unhalted None kernel = calls_nothing kernel
calls_unhalted (Some p) kernel = calls_changed kernel p _ refl

pub calls_happened : (event : Event) (system : System) → SystemKeepsCalls system (happened_to event system)
calls_happened event system =
    let afterwards = unhalted system.kernel.dispatcher.running system.kernel in
    calls_then system.kernel afterwards _ (calls_unhalted system.kernel.dispatcher.running system.kernel)
    (calls_same afterwards (happened event afterwards) (disk_happened event afterwards) (procs_happened event afterwards))

calls_key : (aborts : Option ℕ) (system : System) → IsSoundKernel system.kernel → IfSome aborts (λ p. Lives system.kernel.dispatcher.procs p) → SystemKeepsCalls system (key_aborted aborts system)
calls_key None system s lives = calls_nothing system.kernel
calls_key (Some p) system s lives =
    let taken = record system { kernel = abort_taken system.kernel } in
    calls_then system.kernel taken.kernel _ (calls_same system.kernel taken.kernel refl refl) (calls_aborted p taken (sound_abort_taken system.kernel s) lives)

pub calls_event : (event : Event) (system : System) → MayCome event → IsWhole system → SystemKeepsCalls system (interrupted event system).system
unfolding interrupted event_come
calls_event event system may w =
    let timed = record system { interrupts = due_taken system.steps system.interrupts } in
    let unhalts = record timed { kernel = unhalted timed.kernel.dispatcher.running timed.kernel } in
    let afterwards = happened_to event timed in
    let whole = whole_due system (due_taken system.steps system.interrupts) w refl in
    let come = whole_happened event timed unhalts (happened event unhalts.kernel) may whole refl refl in
    calls_then system.kernel afterwards.kernel _ (calls_happened event timed)
    (calls_key afterwards.kernel.aborted afterwards come.sound (aborted_lives event timed unhalts (happened event unhalts.kernel) whole refl refl))

-- the gate step of a call
calls_outcome : (outcome : Outcome) (reply : Answer) (call : Taken) (p seg : ℕ) (system : System) → IsWhole system → Lives system.kernel.dispatcher.procs p
    → SystemKeepsCalls system (outcome_of outcome reply call p seg system).system
unfolding completing said_by speaking popped fulfilling answering_call recorded replied with_entry
calls_outcome Done reply call p seg system w h =
    let said = (said_by call (string_of call seg system.memory) p system).system in
    let behind = popped p seg said in
    let enters = is_entry call reply in
    let middle = if enters then entered p behind.kernel else behind.kernel in
    calls_then system.kernel middle _
    (calls_then system.kernel behind.kernel middle
    (calls_then system.kernel said.kernel behind.kernel (calls_spoke system.kernel (process_in system.kernel.dispatcher.procs p).console _) (calls_changed said.kernel p _ refl))
    (calls_entered enters p behind.kernel))
    (calls_changed middle p _ refl)
calls_outcome Ended reply call p seg system w h = calls_ended p system w h
calls_outcome Held reply call p seg system w h = calls_changed system.kernel p _ refl
calls_outcome Retry reply call p seg system w h = calls_nothing system.kernel

pub calls_keeping : (p : ℕ) (call : Taken) (system : System) → IsApart p system.kernel → SystemKeepsCalls system (keeping p call system)
unfolding keeping
calls_keeping p call system apart =
    let quiet = with_regs system.kernel p (record (process_in system.kernel.dispatcher.procs p).regs { shadow = false }) in
    let first = calls_changed system.kernel p (record (process_in system.kernel.dispatcher.procs p) { regs = record (process_in system.kernel.dispatcher.procs p).regs { shadow = false } }) refl in
    calls_then system.kernel quiet _ first (calls_kept p call quiet (apart_still p system.kernel quiet first apart))

pub calls_gate_step : (p seg : ℕ) (system : System) → IsWhole system → Lives system.kernel.dispatcher.procs p → IsReady system.kernel.dispatcher p
    → SystemKeepsCalls system (gate_step p seg system).system
unfolding gate_step
calls_gate_step p seg system w h is_ready =
    let call = asked p seg system in
    let kept = keeping p call system in
    let keeps = keeps_asked_call p call system w h in
    let done = served call p kept in
    let stays = whole_served call p kept keeps.call keeps.whole keeps.lives (keeps.ready is_ready) in
    let apart = ready_apart p system.kernel w.sound is_ready in
    let first = calls_keeping p call system apart in
    let second = calls_served call p kept keeps.whole.sound keeps.lives (apart_still p system.kernel kept.kernel first apart) in
    calls_then system.kernel done.system.kernel _ (calls_then system.kernel kept.kernel done.system.kernel first second)
    (calls_outcome done.outcome done.reply call p seg done.system stays.whole stays.lives)
