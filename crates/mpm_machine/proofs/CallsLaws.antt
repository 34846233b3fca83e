-- Who waits for the disk, or is served, keeps his call and his multi-sector count through each part of a step: it isn't his, and no
-- message comes to him.
use Rattle.std.proofs.Common.{◌≡◌, ◌≢◌, ◌∙◌, ℕ, ◌<◌, ◌==◌, Bool, true, false, if◌then◌else◌, List, [], ◌∷◌, Option, Some, None, refl, sym, ap, subst, arith}
use Rattle.std.specs.List.{range_with_len}
use Rattle.mpm_base.specs.Calls.{Taken, Answer}
use Rattle.mpm_base.specs.declared.functions.TheConstants.{SET_MULTI_SECTOR_COUNT}
use Rattle.mpm_base.proofs.Choices.{either}
use Rattle.mpm_procs.specs.Table.{Table, Lives, process_in, call_of}
use Rattle.mpm_procs.specs.declared.process.Process.{Process}
use Rattle.mpm_procs.proofs.MapLaws.{call_after}
use Rattle.mpm_dispatcher.specs.Dispatch.{IsReady}
use Rattle.mpm_queues.specs.Queues.{waits}
use Rattle.mpm_service.specs.Disk.{DiskService, turned, turn_answer, served_process, begun}
use Rattle.mpm_service.specs.declared.service.Turn.{Turn}
use Rattle.mpm_service.specs.declared.service.Turn.TheVariants.{Idle, Passing, Work, Starts}
use Rattle.mpm_service.specs.Places.{at_disk, without_call}
use Rattle.mpm_service.proofs.PlaceLaws.{at_turned, at_begun, at_without, at_without_other}
use Rattle.mpm_kernel.specs.Kernel.{Kernel, IsSoundKernel, with_changed}
use Rattle.mpm_kernel.specs.Calls.{called}
use Rattle.mpm_kernel.specs.Ending.{discharged}
use Rattle.mpm_kernel.proofs.DiskLaws.{ready_not_at_disk, over_turned}
use Rattle.mpm_kernel.proofs.DiskStays.{disk_called, disk_handed_out, disk_discharged}
use Rattle.mpm_kernel.proofs.HomeLaws.{calls_called, call_handed_out, beside_called, beside_handed_out}
use Rattle.mpm_kernel.proofs.EndingLaws.{call_discharged, beside_discharged}
use Rattle.mpm_kernel.proofs.Beside.{field_kept}
use Rattle.mpm_kernel.specs.Disk.{with_disk, IsOver}
use Rattle.mpm_kernel.specs.Waiting.{completion_reply}
use Rattle.mpm_kernel.specs.Columns.{spoke}
use Rattle.mpm_xdos.specs.Procedures.{entered, entering}
use Rattle.mpm_output.specs.Texts.{error_text}
use Rattle.mpm_file_functions.specs.declared.refusals.Extended.{Extended}
use Rattle.mpm_directories.specs.Direct.{Directly, CallerChange, Stays, Selects, Resets}
use Rattle.mpm_system.specs.declared.system.System.{System}
use Rattle.mpm_system.specs.Whole.{SystemChange, IsWhole, speaking}
use Rattle.mpm_system.specs.Answering.{answering_call, recorded, replied}
use Rattle.mpm_system.specs.FileCalling.{with_caller, reply_by, file_replied, error_told}
use Rattle.mpm_machine.specs.Ending.{ended}
use Rattle.mpm_machine.specs.Finishing.{finished, completion_dequeued, finishing, all_finished}
use Rattle.mpm_machine.specs.Due.{is_due, ended_if_due, due_terminated, with_ends}
use Rattle.mpm_machine.specs.Serving.{is_entry, with_entry, fulfilling}
use Rattle.mpm_machine.specs.FileCalls.{told_then, error_met, answered_by, concluded}
use Rattle.mpm_machine.specs.DiskStep.{ready_again, call_over, step_passed, over_after, served_by, disk_served, entered_by, entered_unless, call_entered}
use Rattle.mpm_machine.proofs.FileLaws.{whole_told, whole_caller}
use Rattle.mpm_machine.proofs.DiskStepLaws.{whole_passed, whole_ready_again}
use Rattle.mpm_machine.proofs.WholeStepLaws.{whole_if_due, due_lives}

-- a process has the multi-sector count that it had, but where it sets it
abbrev pub KeepsMulti : ℕ → Table → Table → Type 0
KeepsMulti q old new = (call_of old q).function ≢ SET_MULTI_SECTOR_COUNT → (process_in new q).multi ≡ (process_in old q).multi

-- who is at the disk was so before, and keeps his call and his multi-sector count
pub record KeepsCalls (old new : Kernel) : Type 0 where
  pub was : (q : ℕ) → 0 < at_disk new.disk q → 0 < at_disk old.disk q
  pub call : (q : ℕ) → 0 < at_disk new.disk q → call_of new.dispatcher.procs q ≡ call_of old.dispatcher.procs q
  pub multi : (q : ℕ) → 0 < at_disk new.disk q → KeepsMulti q old.dispatcher.procs new.dispatcher.procs

abbrev pub SystemKeepsCalls : System → System → Type 0
SystemKeepsCalls old new = KeepsCalls old.kernel new.kernel

at_same : (one other : DiskService) (q : ℕ) → other ≡ one → 0 < at_disk other q → 0 < at_disk one q
at_same one other q is at = subst (λ (d : DiskService). 0 < at_disk d q) is at

pub calls_stay : (old new : Kernel) → new.disk ≡ old.disk → ((q : ℕ) → 0 < at_disk old.disk q → call_of new.dispatcher.procs q ≡ call_of old.dispatcher.procs q)
    → ((q : ℕ) → 0 < at_disk old.disk q → KeepsMulti q old.dispatcher.procs new.dispatcher.procs) → KeepsCalls old new
calls_stay old new is stays multi = record {
  was = λ q at. at_same old.disk new.disk q is at;
  call = λ q at. stays q (at_same old.disk new.disk q is at);
  multi = λ q at. multi q (at_same old.disk new.disk q is at);
}

pub calls_same : (old new : Kernel) → new.disk ≡ old.disk → new.dispatcher.procs ≡ old.dispatcher.procs → KeepsCalls old new
calls_same old new is procs = calls_stay old new is (λ q at. ap (λ (t : Table). call_of t q) procs) (λ q at _. ap (λ (t : Table). (process_in t q).multi) procs)

pub calls_then : (old middle new : Kernel) → KeepsCalls old middle → KeepsCalls middle new → KeepsCalls old new
calls_then old middle new first second = record {
  was = λ q at. first.was q (second.was q at);
  call = λ q at. second.call q at ∙ first.call q (second.was q at);
  multi = λ q at other.
      second.multi q at (λ is. other (ap (λ (c : Taken). c.function) (sym (first.call q (second.was q at))) ∙ is)) ∙ first.multi q (second.was q at) other;
}

-- he waits at no queue, isn't ready, and lives
pub waits_not : (kernel : Kernel) (q : ℕ) → IsSoundKernel kernel → 0 < at_disk kernel.disk q → waits kernel.queues q ≡ 0
waits_not kernel q s at = omega (arith, s.once q, at)

pub at_disk_lives : (kernel : Kernel) (q : ℕ) → IsSoundKernel kernel → 0 < at_disk kernel.disk q → Lives kernel.dispatcher.procs q
at_disk_lives kernel q s at = s.live q (omega (arith, at))

pub not_ready : (kernel : Kernel) (p q : ℕ) → IsSoundKernel kernel → IsReady kernel.dispatcher p → 0 < at_disk kernel.disk q → q ≢ p
not_ready kernel p q s is_ready at = λ same. omega (arith, at, ap (at_disk kernel.disk) same, ready_not_at_disk kernel p s is_ready)

-- another process changes, or keeps another call
pub calls_changed : (kernel : Kernel) (p : ℕ) (process : Process) → process.multi ≡ (process_in kernel.dispatcher.procs p).multi
    → KeepsCalls kernel (with_changed kernel p process)
calls_changed kernel p process same =
    calls_stay kernel (with_changed kernel p process) refl (λ q at. call_after kernel.dispatcher.procs p q process)
    (λ q at _. field_kept (λ (x : Process). x.multi) kernel.dispatcher.procs p q process same)

-- a ready process's call
pub calls_of_called : (p : ℕ) (kernel : Kernel) → IsSoundKernel kernel → Lives kernel.dispatcher.procs p → KeepsCalls kernel (called p kernel).kernel
calls_of_called p kernel s h =
    calls_stay kernel (called p kernel).kernel (disk_called p kernel) (λ q at. calls_called p kernel s h q (waits_not kernel q s at)) (λ q at. (beside_called p q kernel s h).multi)

-- an end
apart_from : (kernel : Kernel) (p q : ℕ) → 0 < at_disk (without_call kernel.disk p) q → q ≢ p
apart_from kernel p q at = λ same. omega (arith, at, ap (at_disk (without_call kernel.disk p)) same, at_without kernel.disk p)

still_at : (kernel : Kernel) (p q : ℕ) → 0 < at_disk (without_call kernel.disk p) q → 0 < at_disk kernel.disk q
still_at kernel p q left = omega (arith, left, at_without_other kernel.disk p q (apart_from kernel p q left))

left_at : (kernel : Kernel) (p q : ℕ) → 0 < at_disk (discharged kernel p).disk q → 0 < at_disk (without_call kernel.disk p) q
left_at kernel p q at = at_same (without_call kernel.disk p) (discharged kernel p).disk q (disk_discharged kernel p) at

pub calls_discharged : (kernel : Kernel) (p : ℕ) → IsSoundKernel kernel → Lives kernel.dispatcher.procs p → KeepsCalls kernel (discharged kernel p)
calls_discharged kernel p s h = record {
  was = λ q at. still_at kernel p q (left_at kernel p q at);
  call = λ q at. call_discharged kernel p q s h (apart_from kernel p q (left_at kernel p q at)) (waits_not kernel q s (still_at kernel p q (left_at kernel p q at)));
  multi = λ q at. (beside_discharged kernel p q s h (apart_from kernel p q (left_at kernel p q at))).multi;
}

pub calls_ended : (p : ℕ) (system : System) → IsWhole system → Lives system.kernel.dispatcher.procs p → SystemKeepsCalls system (ended p system)
unfolding ended
calls_ended p system w h = calls_discharged system.kernel p w.sound h

-- held calls that are completed
pub calls_dequeued : (system : System) → SystemKeepsCalls system (completion_dequeued system)
calls_dequeued system = calls_stay system.kernel _ (disk_handed_out system.kernel) (λ q at. call_handed_out system.kernel q) (λ q at. (beside_handed_out q system.kernel).multi)

pub calls_nothing : (kernel : Kernel) → KeepsCalls kernel kernel
calls_nothing kernel = calls_same kernel kernel refl refl

pub calls_entered : (b : Bool) (p : ℕ) (kernel : Kernel) → KeepsCalls kernel (if b then entered p kernel else kernel)
unfolding entered entering
calls_entered true p kernel = calls_changed kernel p (entering (call_of kernel.dispatcher.procs p) (process_in kernel.dispatcher.procs p)) refl
calls_entered false p kernel = calls_nothing kernel

pub calls_finished : (seg : Option ℕ) (p : ℕ) (system : System) → SystemKeepsCalls system (finished seg p system)
unfolding fulfilling answering_call recorded replied with_entry
calls_finished None p system = calls_nothing system.kernel
calls_finished (Some seg) p system =
    let enters = is_entry (call_of system.kernel.dispatcher.procs p) (completion_reply system.kernel p) in
    let middle = if enters then entered p system.kernel else system.kernel in
    calls_then system.kernel middle _ (calls_entered enters p system.kernel) (calls_changed middle p _ refl)

calls_each : (ps : List ℕ) (system : System) → SystemKeepsCalls system (finishing ps system)
unfolding finishing
calls_each [] system = calls_nothing system.kernel
calls_each (p ∷ ps) system =
    let dequeued = completion_dequeued system in
    let first = finished (process_in system.kernel.dispatcher.procs p).seg p dequeued in
    calls_then system.kernel first.kernel _
    (calls_then system.kernel dequeued.kernel first.kernel (calls_dequeued system) (calls_finished (process_in system.kernel.dispatcher.procs p).seg p dequeued))
    (calls_each ps first)

pub calls_all_finished : (system : System) → SystemKeepsCalls system (all_finished system)
calls_all_finished system = calls_each system.kernel.dispatcher.completed system

-- ends that are due
calls_due : (p : ℕ) (system : System) → IsWhole system → SystemKeepsCalls system (ended_if_due p system)
unfolding ended_if_due
calls_due p system w =
    either (SystemKeepsCalls system) (is_due system.kernel p) _ _
    (λ due. calls_then system.kernel (ended p system).kernel _ (calls_ended p system w (due_lives system.kernel p due)) (calls_all_finished (ended p system)))
    (λ _. calls_nothing system.kernel)

calls_terminated : (ps : List ℕ) (system : System) → IsWhole system → SystemKeepsCalls system (due_terminated ps system)
unfolding due_terminated
calls_terminated [] system w = calls_nothing system.kernel
calls_terminated (p ∷ ps) system w =
    calls_then system.kernel (ended_if_due p system).kernel _ (calls_due p system w) (calls_terminated ps (ended_if_due p system) (whole_if_due p system w))

pub calls_with_ends : (system : System) → IsWhole system → SystemKeepsCalls system (with_ends system)
unfolding with_ends
calls_with_ends system w = calls_terminated (range_with_len 0 32) system w

-- a file call is concluded
calls_caller : (change : CallerChange) (p : ℕ) (system : System) → SystemKeepsCalls system (with_caller change p system)
unfolding with_caller
calls_caller Stays p system = calls_nothing system.kernel
calls_caller (Selects drive) p system = calls_changed system.kernel p _ refl
calls_caller Resets p system = calls_changed system.kernel p _ refl

calls_reply : (seg : Option ℕ) (reply : Answer) (p : ℕ) (system : System) → SystemKeepsCalls system (reply_by seg reply p system)
unfolding answering_call recorded replied
calls_reply None reply p system = calls_nothing system.kernel
calls_reply (Some seg) reply p system = calls_changed system.kernel p _ refl

calls_replied : (reply : Answer) (p : ℕ) (system : System) → SystemKeepsCalls system (file_replied reply p system)
unfolding file_replied
calls_replied reply p system = calls_reply (process_in system.kernel.dispatcher.procs p).seg reply p system

pub calls_spoke : (kernel : Kernel) (console : ℕ) (bytes : List ℕ) → KeepsCalls kernel (spoke kernel console bytes)
unfolding spoke
calls_spoke kernel console bytes = calls_same kernel _ refl refl

calls_error : (error : Extended) (p : ℕ) (system : System) → SystemKeepsCalls system (error_told error p system).system
unfolding error_told speaking
calls_error error p system = calls_spoke system.kernel (process_in system.kernel.dispatcher.procs p).console (error_text error.code error.drive)

calls_told : (answers : Bool) (error : Extended) (reply : Answer) (p : ℕ) (system : System) → IsWhole system → Lives system.kernel.dispatcher.procs p
    → SystemKeepsCalls system (told_then answers error reply p system).system
unfolding told_then
calls_told answers error reply p system w h =
    let told = (error_told error p system).system in
    let stays = whole_told error p system w h in
    calls_then system.kernel told.kernel _ (calls_error error p system)
    (either (SystemKeepsCalls told) answers _ _ (λ _. calls_replied reply p told) (λ _. calls_ended p told stays.whole stays.lives))

calls_met : (error : Extended) (reply : Answer) (p : ℕ) (system : System) → IsWhole system → Lives system.kernel.dispatcher.procs p
    → SystemKeepsCalls system (error_met error reply p system).system
unfolding error_met
calls_met error reply p system w h =
    let mode = (process_in system.kernel.dispatcher.procs p).error_mode in
    either (λ (c : SystemChange). SystemKeepsCalls system c.system) (mode == 255) _ _ (λ _. calls_replied reply p system) (λ _. calls_told (mode == 254) error reply p system w h)

calls_answered : (error : Option Extended) (reply : Answer) (p : ℕ) (system : System) → IsWhole system → Lives system.kernel.dispatcher.procs p
    → SystemKeepsCalls system (answered_by error reply p system).system
calls_answered None reply p system w h = calls_replied reply p system
calls_answered (Some error) reply p system w h = calls_met error reply p system w h

pub calls_concluded : (told : Directly) (p : ℕ) (system : System) → IsWhole system → Lives system.kernel.dispatcher.procs p
    → SystemKeepsCalls system (concluded told p system).system
unfolding concluded
calls_concluded told p system w h =
    let changed = with_caller told.caller p system in
    let stays = whole_caller told.caller p system w h in
    calls_then system.kernel changed.kernel _ (calls_caller told.caller p system)
    (calls_answered told.extended told.answer p changed stays.whole stays.lives)

-- the disk's own step
pub calls_turned : (kernel : Kernel) → KeepsCalls kernel (with_disk turned kernel)
calls_turned kernel = record { was = λ q at. omega (arith, at, at_turned kernel.disk q); call = λ q at. refl; multi = λ q at _. refl }

pub calls_begun : (turns : ℕ) (kernel : Kernel) → KeepsCalls kernel (with_disk (λ disk. begun disk turns) kernel)
calls_begun turns kernel = record { was = λ q at. omega (arith, at, at_begun kernel.disk turns q); call = λ q at. refl; multi = λ q at _. refl }

pub calls_over : (told : Directly) (p : ℕ) (system : System) → IsWhole system → IsOver p system.kernel → SystemKeepsCalls system (call_over told p system).system
unfolding call_over
calls_over told p system w over =
    let again = ready_again p system in
    let done = (concluded told p again).system in
    calls_then system.kernel done.kernel _
    (calls_then system.kernel again.kernel done.kernel (calls_same system.kernel again.kernel refl refl) (calls_concluded told p again (whole_ready_again p system w over) over.lives))
    (calls_all_finished done)

calls_behind : (turn : Turn) (told : Directly) (system : System) → IsWhole system → ((p : ℕ) → turn ≡ Work p true → IsOver p system.kernel)
    → SystemKeepsCalls system (over_after turn told system).system
calls_behind Idle told system w over = calls_nothing system.kernel
calls_behind Passing told system w over = calls_nothing system.kernel
calls_behind (Starts p) told system w over = calls_nothing system.kernel
calls_behind (Work p true) told system w over = calls_over told p system w (over p refl)
calls_behind (Work p false) told system w over = calls_nothing system.kernel

calls_served_by : (p : Option ℕ) (told : Directly) (system : System) → IsWhole system → SystemKeepsCalls system (served_by p told system).system
calls_served_by None told system w = calls_nothing system.kernel
calls_served_by (Some p) told system w =
    calls_then system.kernel (step_passed system).kernel _ (calls_turned system.kernel)
    (calls_behind (turn_answer system.kernel.disk) told (step_passed system) (whole_passed system w) (λ q last. over_turned system.kernel q w.sound last))

pub calls_disk_served : (told : Directly) (system : System) → IsWhole system → SystemKeepsCalls system (disk_served told system).system
unfolding disk_served
calls_disk_served told system w = calls_served_by (served_process system.kernel.disk) told system w

-- and the entry of the next call
calls_entered_by : (turn : Turn) (turns : ℕ) (system : System) → SystemKeepsCalls system (entered_by turn turns system)
calls_entered_by Idle turns system = calls_nothing system.kernel
calls_entered_by Passing turns system = calls_nothing system.kernel
calls_entered_by (Work p last) turns system = calls_nothing system.kernel
calls_entered_by (Starts p) turns system = calls_begun turns system.kernel

calls_entered_unless : (served : Option ℕ) (turns : ℕ) (system : System) → SystemKeepsCalls system (entered_unless served turns system)
calls_entered_unless (Some p) turns system = calls_nothing system.kernel
calls_entered_unless None turns system =
    calls_then system.kernel (step_passed system).kernel _ (calls_turned system.kernel) (calls_entered_by (turn_answer system.kernel.disk) turns (step_passed system))

pub calls_call_entered : (turns : ℕ) (system : System) → SystemKeepsCalls system (call_entered turns system)
unfolding call_entered
calls_call_entered turns system = calls_entered_unless (served_process system.kernel.disk) turns system
