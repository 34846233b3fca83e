-- What a sound kernel stays through at the disk: a call waits, is served and is over.
use Rattle.std.proofs.Common.{◌≡◌, ◌≢◌, ◌∙◌, ℕ, ◌<◌, ◌≤◌, ◌==◌, true, false, Option, Some, None, option_map, IfSome, if◌then◌else◌, inl, inr, refl, sym, ap, arith}
use Rattle.std.proofs.lemmas.Bool.{cases_eq, eqb-true, ne_eqb}
use Rattle.mpm_ready.specs.Order.{in_list}
use Rattle.mpm_ready.proofs.TableLaws.{list_of_removed}
use Rattle.mpm_procs.specs.Table.{lives, Lives, process_in}
use Rattle.mpm_procs.proofs.MapLaws.{lives_below}
use Rattle.mpm_service.specs.declared.service.Served.{Served}
use Rattle.mpm_service.specs.declared.service.Turn.TheVariants.{Work}
use Rattle.mpm_service.specs.Disk.{DiskService, no_service, entered, served_process, turned, turn_answer, begun}
use Rattle.mpm_service.specs.Ahead.{passed_by, unserved}
use Rattle.mpm_service.specs.Places.{is_call_of, at_disk, served_without, without_call}
use Rattle.mpm_service.proofs.PlaceLaws.{at_none, at_entered, at_entered_other, at_turned, at_last, at_begun, at_passed, at_unserved, at_unserved_own, waits_not, served_not, without_absent}
use Rattle.mpm_dispatcher.specs.declared.dispatcher.Dispatcher.{Dispatcher}
use Rattle.mpm_dispatcher.specs.Dispatch.{ready, IsReady, descheduled, lists_ready}
use Rattle.mpm_kernel.specs.Kernel.{Kernel, places, IsSoundKernel, dispatched}
use Rattle.mpm_kernel.specs.Disk.{with_disk, is_served, in_turns, waiting_for_disk, ready_again, IsOver}
use Rattle.mpm_kernel.specs.Ending.{discharged}
use Rattle.mpm_kernel.proofs.DiskStays.{disk_discharged}
use Rattle.mpm_kernel.proofs.PlaceLaws.{in_none, list_moved}
use Rattle.mpm_kernel.proofs.Soundness.{own_queues, listed_once, sound_unlisted, sound_ready}

-- another service, at which everybody stands in at most one place that only living processes have
pub sound_with_disk : (kernel : Kernel) (disk : DiskService) → IsSoundKernel kernel → ((q : ℕ) → places (record kernel { disk = disk }) q ≤ 1)
    → ((q : ℕ) → 0 < places (record kernel { disk = disk }) q → Lives kernel.dispatcher.procs q) → IsSoundKernel (record kernel { disk = disk })
sound_with_disk kernel disk s once live = record {
  units = s.units;
  owners = s.owners;
  slots = s.slots;
  table = s.table;
  fit = s.fit;
  flags = s.flags;
  queues = s.queues;
  system = s.system;
  inside = s.inside;
  once = once;
  live = live;
  runs = s.runs;
}

-- one at which nobody stands who didn't before
sound_fewer : (kernel : Kernel) (disk : DiskService) → IsSoundKernel kernel → ((q : ℕ) → at_disk disk q ≤ at_disk kernel.disk q) → IsSoundKernel (record kernel { disk = disk })
sound_fewer kernel disk s fewer =
    sound_with_disk kernel disk s (λ q. omega (arith, s.once q, fewer q)) (λ q some. s.live q (omega (arith, fewer q, some)))

pub sound_in_turns : (turn_steps : ℕ) (kernel : Kernel) → IsSoundKernel kernel → IsSoundKernel (in_turns turn_steps kernel)
sound_in_turns turn_steps kernel s = sound_fewer kernel (no_service turn_steps) s (λ q. omega (arith, at_none turn_steps q))

pub sound_turned : (kernel : Kernel) → IsSoundKernel kernel → IsSoundKernel (with_disk turned kernel)
sound_turned kernel s = sound_fewer kernel (turned kernel.disk) s (λ q. at_turned kernel.disk q)

pub sound_begun_call : (kernel : Kernel) (turns : ℕ) → IsSoundKernel kernel → IsSoundKernel (with_disk (λ disk. begun disk turns) kernel)
sound_begun_call kernel turns s = sound_fewer kernel (begun kernel.disk turns) s (λ q. omega (arith, at_begun kernel.disk turns q))

pub sound_passed_by : (kernel : Kernel) (steps : ℕ) → IsSoundKernel kernel → IsSoundKernel (with_disk (passed_by steps) kernel)
sound_passed_by kernel steps s = sound_fewer kernel (passed_by steps kernel.disk) s (λ q. omega (arith, at_passed kernel.disk steps q))

pub sound_unserved : (kernel : Kernel) → IsSoundKernel kernel → IsSoundKernel (with_disk unserved kernel)
sound_unserved kernel s = sound_fewer kernel (unserved kernel.disk) s (λ q. at_unserved kernel.disk q)

-- who is ready isn't at the disk
pub ready_not_at_disk : (kernel : Kernel) (p : ℕ) → IsSoundKernel kernel → IsReady kernel.dispatcher p → at_disk kernel.disk p ≡ 0
ready_not_at_disk kernel p s is_ready = omega (arith, listed_once kernel p ready s is_ready)

pub ready_waits_not : (kernel : Kernel) (p : ℕ) → IsSoundKernel kernel → IsReady kernel.dispatcher p → in_list p kernel.disk.waiting ≡ false
ready_waits_not kernel p s is_ready = waits_not kernel.disk p (ready_not_at_disk kernel p s is_ready)

pub ready_served_not : (kernel : Kernel) (p : ℕ) → IsSoundKernel kernel → IsReady kernel.dispatcher p → IfSome kernel.disk.served (λ call. call.p ≢ p)
ready_served_not kernel p s is_ready = served_not kernel.disk p (ready_not_at_disk kernel p s is_ready)

-- whether a process is served, by whom the disk serves
served_by : (served : Option Served) (p q : ℕ) → option_map (λ call. call.p) served ≡ Some q → is_call_of p served ≡ (q == p)
served_by None p q is = absurd (cc)
served_by (Some call) p q is = ap (λ (k : ℕ). k == p) cc

pub served_is : (kernel : Kernel) (p q : ℕ) → served_process kernel.disk ≡ Some q → is_served kernel p ≡ (q == p)
unfolding served_process
served_is kernel p q is = served_by kernel.disk.served p q is

served_by_none : (served : Option Served) (p : ℕ) → option_map (λ call. call.p) served ≡ None → is_call_of p served ≡ false
served_by_none None p is = refl
served_by_none (Some call) p is = absurd (cc)

pub served_none : (kernel : Kernel) (p : ℕ) → served_process kernel.disk ≡ None → is_served kernel p ≡ false
unfolding served_process
served_none kernel p is = served_by_none kernel.disk.served p is

-- who ends leaves the service of another
still_served : (served : Option Served) (p q : ℕ) → q ≢ p → is_call_of q served ≡ true → is_call_of q (served_without p served) ≡ true
still_served None p q other is = is
still_served (Some call) p q other is =
    let apart : (call.p == p) ≡ false = ne_eqb call.p p (λ same. other (sym (eqb-true call.p q is) ∙ same)) in
    ap (λ b. is_call_of q (if b then None else (Some call))) apart ∙ is

pub served_discharged : (kernel : Kernel) (p q : ℕ) → q ≢ p → is_served kernel q ≡ true → is_served (discharged kernel p) q ≡ true
unfolding without_call
served_discharged kernel p q other is =
    ap (λ (disk : DiskService). is_call_of q disk.served) (disk_discharged kernel p) ∙ still_served kernel.disk.served p q other is

-- so the end of one who is ready leaves the disk as it is
pub disk_ended : (kernel : Kernel) (p : ℕ) → IsSoundKernel kernel → IsReady kernel.dispatcher p → (discharged kernel p).disk ≡ kernel.disk
disk_ended kernel p s is_ready = disk_discharged kernel p ∙ without_absent kernel.disk p (ready_not_at_disk kernel p s is_ready)

-- the parts of the kernel in which a process's call waits
pub waits_for_disk : (kernel : Kernel) (p : ℕ) (d : Dispatcher) (disk : DiskService) → d ≡ descheduled p kernel.dispatcher
    → disk ≡ entered kernel.disk p (process_in kernel.dispatcher.procs p).priority → record kernel { dispatcher = d; disk = disk } ≡ waiting_for_disk p kernel
unfolding waiting_for_disk
waits_for_disk kernel p d disk quiet waits =
    ap (λ d. record kernel { dispatcher = d; disk = disk }) quiet ∙ ap (λ disk. record kernel { dispatcher = descheduled p kernel.dispatcher; disk = disk }) waits

-- a ready process's call waits
pub sound_waiting_for_disk : (kernel : Kernel) (p : ℕ) → IsSoundKernel kernel → Lives kernel.dispatcher.procs p → IsReady kernel.dispatcher p → IsSoundKernel (waiting_for_disk p kernel)
unfolding waiting_for_disk
sound_waiting_for_disk kernel p s h is_ready =
    let quiet = dispatched (descheduled p) kernel in
    let priority = (process_in kernel.dispatcher.procs p).priority in
    let once = listed_once kernel p ready s is_ready in
    let none = in_none _ (list_of_removed kernel.dispatcher.lists p) in
    let sound : IsSoundKernel quiet =
    sound_unlisted kernel p kernel.flags kernel.clock kernel.queues s h s.flags (own_queues kernel s) (omega (arith, once)) (λ q other. refl) in
    sound_with_disk quiet (entered kernel.disk p priority) sound
    (λ q. elim (cases_eq q p) [
      | inl same ↦ omega (arith, ap (places (waiting_for_disk p kernel)) same, none, once, at_entered kernel.disk p priority)
      | inr other ↦ omega (arith, sound.once q, at_entered_other kernel.disk p q priority other)
    ])
    (λ q some. elim (cases_eq q p) [
      | inl same ↦ ap (lives kernel.dispatcher.procs) same ∙ h
      | inr other ↦ sound.live q (omega (arith, some, at_entered_other kernel.disk p q priority other))
    ])

-- whose last turn ended lives and stands nowhere
pub over_turned : (kernel : Kernel) (p : ℕ) → IsSoundKernel kernel → turn_answer kernel.disk ≡ Work p true → IsOver p (with_disk turned kernel)
over_turned kernel p s is = record {
  lives = s.live p (omega (arith, at_last kernel.disk p is));
  nowhere = omega (arith, s.once p, at_last kernel.disk p is);
}

-- and so does he whose service ends
pub over_unserved : (kernel : Kernel) (p : ℕ) → IsSoundKernel kernel → served_process kernel.disk ≡ Some p → IsOver p (with_disk unserved kernel)
over_unserved kernel p s is = record {
  lives = s.live p (omega (arith, at_unserved_own kernel.disk p is));
  nowhere = omega (arith, s.once p, at_unserved_own kernel.disk p is);
}

-- it is ready again
pub sound_ready_again : (kernel : Kernel) (p : ℕ) → IsSoundKernel kernel → IsOver p kernel → IsSoundKernel (ready_again p kernel)
unfolding lists_ready
sound_ready_again kernel p s over = sound_ready kernel p s over.lives (omega (arith, over.nowhere))

pub ready_ready_again : (kernel : Kernel) (p : ℕ) → IsSoundKernel kernel → IsOver p kernel → IsReady (ready_again p kernel).dispatcher p
unfolding lists_ready
ready_ready_again kernel p s over =
    list_moved kernel.dispatcher.lists ready p (process_in kernel.dispatcher.procs p).priority s.table (omega arith) (lives_below kernel.dispatcher.procs p s.slots over.lives)
