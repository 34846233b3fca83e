-- Where processes live, and which calls they keep, after the calls that wait, those on queues and the others but those on units.
use Rattle.std.proofs.Common.{◌≡◌, ◌≢◌, ◌∙◌, ℕ, Bool, true, false, ◌==◌, List, Option, Some, None, if◌then◌else◌, refl, sym, ap, length, subst, arith}
use Rattle.mpm_base.specs.Calls.{Taken, name_at, word_at}
use Rattle.mpm_procs.specs.Table.{HasSlots, lives, Lives, process_in, call_of, with_call}
use Rattle.mpm_procs.specs.declared.process.Process.{Process}
use Rattle.mpm_procs.proofs.MapLaws.{call_after}
use Rattle.mpm_kernel.specs.Kernel.{Kernel, IsSoundKernel, with_changed, dispatched}
use Rattle.mpm_kernel.specs.Called.{Called, valued, low_parameter}
use Rattle.mpm_kernel.specs.Waiting.{polled, is_flag, flag_waited_for, waited, with_woken, signalled, flag_waited, set_if_flag, flag_set, process_delayed}
use Rattle.mpm_clock.specs.PackedDecimal.{names_time}
use Rattle.mpm_kernel.specs.Dates.{date_set, date_answered, time_answered}
use Rattle.mpm_kernel.specs.Calls.{called}
use Rattle.mpm_kernel.specs.Procedures.{procedure_queue, inside, procedure_read, procedure_at, procedure_called}
use Rattle.mpm_flags.specs.States.{flag_at, wait_answer, set_answer, after_set, with_flag}
use Rattle.mpm_flags.specs.declared.flags.FlagSet.{FlagSet}
use Rattle.mpm_flags.specs.declared.flags.FlagSet.TheVariants.{Set as SetOnce, Overrun, Woke}
use Rattle.mpm_flags.specs.declared.flags.FlagWait.{FlagWait}
use Rattle.mpm_flags.specs.declared.flags.FlagWait.TheVariants.{Passed, Waits, Underrun}
use Rattle.std.specs.Prelude.{nat_lt, is_some, is_none, slice_index_or}
use Rattle.mpm_base.proofs.Choices.{either}
use Rattle.mpm_kernel.proofs.SoundLaws.{procs_signalled}
use Rattle.mpm_queues.specs.Queue.{with_given, is_full as is_full_queue}
use Rattle.mpm_queues.specs.Queues.{waits, queue_in, make_error}
use Rattle.mpm_queues.specs.Handling.{first_reader, written_by, delivered_to, read_outcome, write_outcome, procs_after_write}
use Rattle.mpm_queues.specs.declared.queues.QueueOutcome.{QueueOutcome}
use Rattle.mpm_queues.specs.declared.queues.QueueOutcome.TheVariants.{Done as Handled, NotNow}
use Rattle.mpm_queues.proofs.SoundLaws.{reader_waits}
use Rattle.mpm_queues.proofs.WaitLaws.{waits_one}
use Rattle.mpm_dispatcher.specs.Dispatch.{with_other, lists_ready, also_completed, behind_equals, with_priority, with_procs}
use Rattle.mpm_kernel.specs.Queueing.{with_queue, queue_made, opened, may_delete, deleted, queued, blocked_or_refused, taken_from, was_read, read_at, given_to, was_written, write_at}
use Rattle.mpm_base.specs.declared.functions.TheConstants.{SET_MULTI_SECTOR_COUNT, SET_BDOS_ERROR_MODE}
use Rattle.mpm_kernel.proofs.Beside.{StaysBeside, beside_same, beside_both, beside_changed, beside_call, call_beside}
use Rattle.mpm_kernel.proofs.Homes.{SameHomes, homes_stay, homes_both, homes_changed, homes_call}
use Rattle.mpm_kernel.proofs.AnswerLaws.{function_given}

-- the calls of the kernel: who lives, lives where somebody lived, and each process that waits at no queue keeps its call

pub record KeepsHome (old : Kernel) (called : Called) : Type 0 where
  pub homes : SameHomes old called.kernel
  pub call : (q : ℕ) → waits old.queues q ≡ 0 → call_of called.kernel.dispatcher.procs q ≡ call_of old.dispatcher.procs q
  pub beside : (q : ℕ) → StaysBeside q old.dispatcher.procs called.kernel.dispatcher.procs
  pub consoles : length called.kernel.units.consoles ≡ length old.units.consoles

pub kept_if : (old : Kernel) (b : Bool) (x y : Called) → KeepsHome old x → KeepsHome old y → KeepsHome old (if b then x else y)
kept_if old b x y s t = either (KeepsHome old) b x y (λ _. s) (λ _. t)

pub kept_kernel_if : (old : Kernel) (b : Bool) (x y : Kernel) (value : ℕ) → KeepsHome old (valued value x) → KeepsHome old (valued value y)
    → KeepsHome old (valued value (if b then x else y))
kept_kernel_if old b x y value s t = either (λ (kernel : Kernel). KeepsHome old (valued value kernel)) b x y (λ _. s) (λ _. t)

pub kept_same : (kernel : Kernel) (called : Called) → called.kernel.dispatcher.procs ≡ kernel.dispatcher.procs
    → length called.kernel.units.consoles ≡ length kernel.units.consoles → KeepsHome kernel called
kept_same kernel called e count = record {
  homes = homes_stay kernel called.kernel e;
  call = λ q _. ap (λ procs. call_of procs q) e;
  beside = λ q. beside_same q kernel.dispatcher.procs called.kernel.dispatcher.procs e;
  consoles = count;
}

pub kept_changed : (p value : ℕ) (kernel : Kernel) (process : Process) → IsSoundKernel kernel → Lives kernel.dispatcher.procs p
    → process.seg ≡ (process_in kernel.dispatcher.procs p).seg → process.abort_due ≡ (process_in kernel.dispatcher.procs p).abort_due
    → ((call_of kernel.dispatcher.procs p).function ≢ SET_BDOS_ERROR_MODE → process.error_mode ≡ (process_in kernel.dispatcher.procs p).error_mode)
    → ((call_of kernel.dispatcher.procs p).function ≢ SET_MULTI_SECTOR_COUNT → process.multi ≡ (process_in kernel.dispatcher.procs p).multi)
    → KeepsHome kernel (valued value (with_changed kernel p process))
kept_changed p value kernel process s h same due mode multi = record {
  homes = homes_changed kernel p process s.slots h same due;
  call = λ q _. call_after kernel.dispatcher.procs p q process;
  beside = λ q. beside_changed kernel.dispatcher.procs p q process same due mode multi;
  consoles = refl;
}

-- a part of a call after another one
pub kept_then : (old middle : Kernel) (called : Called) → KeepsHome old (valued 0 middle) → middle.queues ≡ old.queues → KeepsHome middle called → KeepsHome old called
kept_then old middle called first e second = record {
  homes = homes_both old middle called.kernel first.homes second.homes;
  call = λ q none. second.call q (ap (λ t. waits t q) e ∙ none) ∙ first.call q none;
  beside = λ q. beside_both q old.dispatcher.procs middle.dispatcher.procs called.kernel.dispatcher.procs (first.beside q) (second.beside q);
  consoles = second.consoles ∙ first.consoles;
}

pub kept_procs : (old middle : Kernel) (called : Called) → KeepsHome old (valued 0 middle) → called.kernel.dispatcher.procs ≡ middle.dispatcher.procs
    → length called.kernel.units.consoles ≡ length middle.units.consoles → KeepsHome old called
kept_procs old middle called first e count = record {
  homes = homes_both old middle called.kernel first.homes (homes_stay middle called.kernel e);
  call = λ q none. ap (λ procs. call_of procs q) e ∙ first.call q none;
  beside = λ q. beside_both q old.dispatcher.procs middle.dispatcher.procs called.kernel.dispatcher.procs (first.beside q)
      (beside_same q middle.dispatcher.procs called.kernel.dispatcher.procs e);
  consoles = count ∙ first.consoles;
}

pub kept_behind : (p value : ℕ) (kernel : Kernel) → KeepsHome kernel (valued value (dispatched (behind_equals p) kernel))
kept_behind p value kernel = kept_same kernel _ refl refl

pub kept_priority : (p value priority : ℕ) (kernel : Kernel) → IsSoundKernel kernel → Lives kernel.dispatcher.procs p
    → KeepsHome kernel (valued value (dispatched (with_priority p priority) kernel))
kept_priority p value priority kernel s h =
    let process = record (process_in kernel.dispatcher.procs p) { priority = priority } in
    record {
      homes = homes_both kernel (with_changed kernel p process) _ (homes_changed kernel p process s.slots h refl refl) (homes_stay _ _ refl);
      call = λ q _. call_after kernel.dispatcher.procs p q process;
      beside = λ q. beside_changed kernel.dispatcher.procs p q process refl refl (λ _. refl) (λ _. refl);
      consoles = refl;
    }

pub kept_polled : (call : Taken) (p : ℕ) (kernel : Kernel) → KeepsHome kernel (polled call p kernel)
unfolding polled
kept_polled call p kernel =
    kept_if kernel (nat_lt 15 (low_parameter call)) _ _ (kept_same kernel _ refl refl)
    (kept_if kernel (slice_index_or kernel.devices.ready (low_parameter call) false) _ _ (kept_same kernel _ refl refl) (kept_same kernel _ refl refl))

consoles_waited : (answer : FlagWait) (p : ℕ) (kernel : Kernel) → length (waited answer p kernel).kernel.units.consoles ≡ length kernel.units.consoles
unfolding waited
consoles_waited Passed p kernel = refl
consoles_waited Waits p kernel = refl
consoles_waited Underrun p kernel = refl

kept_waited : (answer : FlagWait) (p : ℕ) (kernel : Kernel) → (waited answer p kernel).kernel.dispatcher.procs ≡ kernel.dispatcher.procs
unfolding waited
kept_waited Passed p kernel = refl
kept_waited Waits p kernel = refl
kept_waited Underrun p kernel = refl

pub kept_flag_waited : (call : Taken) (p : ℕ) (kernel : Kernel) → KeepsHome kernel (flag_waited call p kernel)
unfolding flag_waited
kept_flag_waited call p kernel =
    let flag = low_parameter call in
    kept_if kernel (is_flag flag) _ _
    (kept_same kernel _ (kept_waited (wait_answer p (flag_at kernel.flags flag)) p (flag_waited_for kernel p flag))
    (consoles_waited (wait_answer p (flag_at kernel.flags flag)) p (flag_waited_for kernel p flag))) (kept_same kernel _ refl refl)

consoles_with_woken : (answer : FlagSet) (kernel : Kernel) → length (with_woken answer kernel).units.consoles ≡ length kernel.units.consoles
unfolding with_woken
consoles_with_woken SetOnce kernel = refl
consoles_with_woken Overrun kernel = refl
consoles_with_woken (Woke p) kernel = refl

pub consoles_signalled : (flag : ℕ) (kernel : Kernel) → length (signalled flag kernel).units.consoles ≡ length kernel.units.consoles
unfolding signalled
consoles_signalled flag kernel =
    consoles_with_woken (set_answer (flag_at kernel.flags flag)) (record kernel { flags = with_flag kernel.flags flag (after_set (flag_at kernel.flags flag)) })

pub kept_flag_set : (call : Taken) (kernel : Kernel) → KeepsHome kernel (flag_set call kernel)
unfolding set_if_flag
kept_flag_set call kernel =
    kept_if kernel (is_flag (low_parameter call)) _ _ (kept_same kernel _ (procs_signalled (low_parameter call) kernel) (consoles_signalled (low_parameter call) kernel)) (kept_same kernel _ refl refl)

pub kept_delayed : (call : Taken) (p : ℕ) (kernel : Kernel) → KeepsHome kernel (process_delayed call p kernel)
unfolding process_delayed
kept_delayed call p kernel = kept_if kernel (call.word == 0) _ _ (kept_behind p 0 kernel) (kept_same kernel _ refl refl)

-- queues
pub kept_queue_made : (call : Taken) (kernel : Kernel) → KeepsHome kernel (queue_made call kernel)
unfolding queue_made with_queue
kept_queue_made call kernel =
    kept_if kernel (is_none (make_error kernel.queues (name_at call 2) (word_at call 10) (word_at call 12))) _ _ (kept_same kernel _ refl refl) (kept_same kernel _ refl refl)

pub kept_opened : (slot : Option ℕ) (call : Taken) (kernel : Kernel) → KeepsHome kernel (opened slot call kernel)
unfolding opened
kept_opened None call kernel = kept_same kernel _ refl refl
kept_opened (Some q) call kernel = kept_same kernel _ refl refl

pub kept_deleted : (slot : Option ℕ) (kernel : Kernel) → KeepsHome kernel (deleted slot kernel)
unfolding deleted
kept_deleted None kernel = kept_same kernel _ refl refl
kept_deleted (Some q) kernel = kept_if kernel (may_delete kernel q) _ _ (kept_same kernel _ refl refl) (kept_same kernel _ refl refl)

kept_blocked_or_refused : (may_wait : Bool) (p q : ℕ) (reader : Bool) (kernel : Kernel) → KeepsHome kernel (blocked_or_refused may_wait p q reader kernel)
unfolding blocked_or_refused queued
kept_blocked_or_refused may_wait p q reader kernel = kept_if kernel may_wait _ _ (kept_same kernel _ refl refl) (kept_same kernel _ refl refl)

pub procs_with_other : (other : Option ℕ) (kernel : Kernel) → (dispatched (with_other other) kernel).dispatcher.procs ≡ kernel.dispatcher.procs
unfolding lists_ready also_completed
procs_with_other None kernel = refl
procs_with_other (Some p) kernel = refl

kept_was_read : (outcome : QueueOutcome) (may_wait : Bool) (call : Taken) (p q : ℕ) (kernel : Kernel) → KeepsHome kernel (was_read outcome may_wait call p q kernel)
unfolding was_read
kept_was_read (Handled other) may_wait call p q kernel = kept_same kernel _ (procs_with_other other (taken_from kernel p q)) refl
kept_was_read NotNow may_wait call p q kernel = kept_blocked_or_refused may_wait p q true kernel

pub kept_read_at : (slot : Option ℕ) (may_wait : Bool) (call : Taken) (p : ℕ) (kernel : Kernel) → KeepsHome kernel (read_at slot may_wait call p kernel)
unfolding read_at
kept_read_at None may_wait call p kernel = kept_same kernel _ refl refl
kept_read_at (Some q) may_wait call p kernel = kept_was_read (read_outcome kernel.queues q) may_wait call p q kernel

-- a message may come into the call of a process that waits for it
pub kept_delivered_to : (b : Bool) (o : Option ℕ) (message : List ℕ) (kernel : Kernel) (called : Called)
    → called.kernel.dispatcher.procs ≡ (if b then kernel.dispatcher.procs else (delivered_to o message kernel.dispatcher.procs)) → ((r : ℕ) → o ≡ Some r → waits kernel.queues r ≡ 1)
    → length called.kernel.units.consoles ≡ length kernel.units.consoles → KeepsHome kernel called
kept_delivered_to true o message kernel called e one count = kept_same kernel called e count
kept_delivered_to false None message kernel called e one count = kept_same kernel called e count
kept_delivered_to false (Some r) message kernel called e one count =
    let call = with_given message (call_of kernel.dispatcher.procs r) in
    let afterwards = dispatched (with_procs (with_call kernel.dispatcher.procs r call)) kernel in
    record {
      homes = homes_both kernel afterwards called.kernel (homes_call kernel r call) (homes_stay afterwards called.kernel e);
      call = λ q none. ap (λ procs. call_of procs q) e ∙ call_beside kernel.dispatcher.procs r q call (λ same. omega (arith, one r refl, none, ap (waits kernel.queues) same));
      beside = λ q. beside_both q kernel.dispatcher.procs afterwards.dispatcher.procs called.kernel.dispatcher.procs
          (beside_call kernel.dispatcher.procs r q call (function_given message (call_of kernel.dispatcher.procs r)))
          (beside_same q afterwards.dispatcher.procs called.kernel.dispatcher.procs e);
      consoles = count;
    }

kept_was_written : (outcome : QueueOutcome) (may_wait : Bool) (p q : ℕ) (kernel : Kernel) → IsSoundKernel kernel → KeepsHome kernel (was_written outcome may_wait p q kernel)
unfolding was_written procs_after_write
kept_was_written (Handled other) may_wait p q kernel s =
    let t = kernel.queues in
    kept_delivered_to (is_full_queue (queue_in t q)) (first_reader t q) (written_by t q kernel.dispatcher.procs p) kernel _ (procs_with_other other (given_to kernel p q))
    (λ r first. waits_one t q r s.queues (reader_waits t q r first)) refl
kept_was_written NotNow may_wait p q kernel s = kept_blocked_or_refused may_wait p q false kernel

pub kept_write_at : (slot : Option ℕ) (may_wait : Bool) (p : ℕ) (kernel : Kernel) → IsSoundKernel kernel → KeepsHome kernel (write_at slot may_wait p kernel)
unfolding write_at
kept_write_at None may_wait p kernel s = kept_same kernel _ refl refl
kept_write_at (Some q) may_wait p kernel s = kept_was_written (write_outcome kernel.queues q) may_wait p q kernel s

-- a process is in a resident procedure from now on
kept_inside : (p q message value : ℕ) (old kernel : Kernel) → IsSoundKernel old → Lives old.dispatcher.procs p → kernel.dispatcher.procs ≡ old.dispatcher.procs
    → length kernel.units.consoles ≡ length old.units.consoles
    → KeepsHome old (valued value (inside p q message kernel))
unfolding inside
kept_inside p q message value old kernel s h same count =
    let process = record (process_in kernel.dispatcher.procs p) { procedure = Some q; kept = message } in
    record {
      homes = homes_both old kernel (with_changed kernel p process) (homes_stay old kernel same)
          (homes_changed kernel p process (subst HasSlots (sym same) s.slots) (ap (λ procs. lives procs p) same ∙ h) refl refl);
      call = λ k _. call_after kernel.dispatcher.procs p k process ∙ ap (λ procs. call_of procs k) same;
      beside = λ k. beside_both k old.dispatcher.procs kernel.dispatcher.procs (with_changed kernel p process).dispatcher.procs
          (beside_same k old.dispatcher.procs kernel.dispatcher.procs same) (beside_changed kernel.dispatcher.procs p k process refl refl (λ _. refl) (λ _. refl));
      consoles = count;
    }

kept_procedure_read : (outcome : QueueOutcome) (p q : ℕ) (kernel : Kernel) → IsSoundKernel kernel → Lives kernel.dispatcher.procs p
    → KeepsHome kernel (procedure_read outcome p q kernel)
unfolding procedure_read
kept_procedure_read (Handled other) p q kernel s h =
    kept_inside p q _ 0 kernel (dispatched (with_other other) (taken_from kernel p q)) s h (procs_with_other other (taken_from kernel p q)) refl
kept_procedure_read NotNow p q kernel s h = kept_blocked_or_refused true p q true kernel

kept_procedure_at : (slot : Option ℕ) (p : ℕ) (kernel : Kernel) → IsSoundKernel kernel → Lives kernel.dispatcher.procs p → KeepsHome kernel (procedure_at slot p kernel)
unfolding procedure_at
kept_procedure_at None p kernel s h = kept_same kernel _ refl refl
kept_procedure_at (Some q) p kernel s h = kept_procedure_read (read_outcome kernel.queues q) p q kernel s h

pub kept_procedure_called : (call : Taken) (p : ℕ) (kernel : Kernel) → IsSoundKernel kernel → Lives kernel.dispatcher.procs p
    → KeepsHome kernel (procedure_called call p kernel)
unfolding procedure_called
kept_procedure_called call p kernel s h =
    kept_if kernel (is_some (process_in kernel.dispatcher.procs p).procedure) _ _ (kept_same kernel _ refl refl)
    (kept_procedure_at (procedure_queue kernel.queues call) p kernel s h)

pub kept_date_set : (call : Taken) (kernel : Kernel) → KeepsHome kernel (date_set call kernel)
unfolding date_set
kept_date_set call kernel = kept_if kernel (names_time call) _ _ (kept_same kernel _ refl refl) (kept_same kernel _ refl refl)

pub procs_date_answered : (call : Taken) (kernel : Kernel) → (date_answered call kernel).kernel.dispatcher.procs ≡ kernel.dispatcher.procs
unfolding date_answered
procs_date_answered call kernel = refl

pub consoles_date_answered : (call : Taken) (kernel : Kernel) → length (date_answered call kernel).kernel.units.consoles ≡ length kernel.units.consoles
unfolding date_answered
consoles_date_answered call kernel = refl

pub consoles_time_answered : (call : Taken) (kernel : Kernel) → length (time_answered call kernel).kernel.units.consoles ≡ length kernel.units.consoles
unfolding time_answered
consoles_time_answered call kernel = refl

pub procs_time_answered : (call : Taken) (kernel : Kernel) → (time_answered call kernel).kernel.dispatcher.procs ≡ kernel.dispatcher.procs
unfolding time_answered
procs_time_answered call kernel = refl
