-- What stays so after the calls on queues.
use Rattle.std.proofs.Common.{◌≡◌, ◌∙◌, ℕ, Bool, true, false, not, ◌&&◌, [], ◌∷◌, ◌++◌, Option, Some, None, refl, ap, subst, arith}
use Rattle.std.specs.Prelude.{is_some, is_none, nat_le}
use Rattle.std.proofs.lemmas.Bool.Decides.{nat_tests}
use Rattle.std.proofs.lemmas.Option.{none-some, same_Some}
use Rattle.mpm_base.specs.Calls.{Taken, word_at, name_at}
use Rattle.mpm_procs.specs.Table.{Lives, process_in}
use Rattle.mpm_procs.specs.Finding.{is_entered}
use Rattle.mpm_procs.proofs.MapLaws.{lives_below, lives_changed}
use Rattle.mpm_queues.specs.Queues.{Queues, IsMade, found, width_of, may_end, without_queue, make_error}
use Rattle.mpm_queues.specs.declared.queues.QueueOutcome.{QueueOutcome}
use Rattle.mpm_queues.specs.declared.queues.QueueOutcome.TheVariants.{Done as Passed, NotNow}
use Rattle.mpm_queues.specs.Handling.{read_outcome, write_outcome, enlisted, must_wait, woken_by}
use Rattle.mpm_queues.proofs.WaitLaws.{waits_enlisted, waits_enlisted_other}
use Rattle.mpm_dispatcher.specs.Dispatch.{ready, at_rest, moved, lists_ready, also_completed, with_other}
use Rattle.mpm_kernel.specs.Kernel.{Kernel, IsOfTwo, IsSoundKernel, CompletedLive, with_changed, dispatched}
use Rattle.mpm_kernel.specs.Called.{valued, done, failure_code}
use Rattle.mpm_kernel.specs.Queueing.{with_queue, queue_made, opened, queue_opened, may_delete, deleted, queue_deleted, pointed, queued, blocked_or_refused, taken_from, was_read, read_at, queue_read, given_to, was_written, write_at, queue_written}
use Rattle.mpm_kernel.specs.Procedures.{no_procedure, is_two, of_two_bytes, procedure_queue, inside, procedure_read, procedure_at, procedure_called}
use Rattle.mpm_kernel.proofs.Soundness.{MayBeReady, listed_once, sound_changed, sound_ready, sound_unlisted, sound_with_completed}
use Rattle.mpm_kernel.proofs.Staying.{StaysSound, Calls, nobody, all_and_one, live_kept, called_if, same}
use Rattle.mpm_kernel.proofs.QueueingLaws.{ready_waits_nowhere, found_made, pointed_if, pointed_made, two_made, sound_with_queue, sound_with_deleted, width_read, sound_taken, may_by_read, sound_given, may_by_write, lives_written, must_wait_read, must_wait_write, queues_enlisted}

pub stays_queue_made : (call : Taken) (p : ℕ) (kernel : Kernel) → Calls p kernel → StaysSound p (queue_made call kernel)
unfolding queue_made with_queue
stays_queue_made call p kernel c =
    called_if p (is_none (make_error kernel.queues (name_at call 2) (word_at call 10) (word_at call 12))) _ _
    (λ none. record {
      sound = sound_with_queue kernel (name_at call 2) (word_at call 10) (word_at call 12) c.sound none;
      lives = c.lives;
      completed = nobody (with_queue kernel (name_at call 2) (word_at call 10) (word_at call 12)) c.none;
    })
    (λ _. same p failure_code kernel c)

stays_opened : (slot : Option ℕ) (call : Taken) (p : ℕ) (kernel : Kernel) → Calls p kernel → StaysSound p (opened slot call kernel)
unfolding opened
stays_opened None call p kernel c = same p failure_code kernel c
stays_opened (Some q) call p kernel c =
    let s = same p 0 kernel c in
    record { sound = s.sound; lives = s.lives; completed = s.completed }

pub stays_queue_opened : (call : Taken) (p : ℕ) (kernel : Kernel) → Calls p kernel → StaysSound p (queue_opened call kernel)
stays_queue_opened call p kernel c = stays_opened (found kernel.queues (name_at call 4)) call p kernel c

first_of_both : (a b : Bool) → (a && b) ≡ true → a ≡ true
first_of_both true b h = refl
first_of_both false b h = absurd (cc)

not_second : (a b c : Bool) → (a && (not b && c)) ≡ true → b ≡ false
not_second true false c h = refl
not_second true true c h = absurd (cc)
not_second false b c h = absurd (cc)

stays_deleted : (slot : Option ℕ) (p : ℕ) (kernel : Kernel) → Calls p kernel → ((q : ℕ) → slot ≡ Some q → IsMade kernel.queues q)
    → StaysSound p (deleted slot kernel)
unfolding deleted
stays_deleted None p kernel c is = same p failure_code kernel c
stays_deleted (Some q) p kernel c is =
    called_if p (may_delete kernel q) _ _
    (λ may. let own = first_of_both (nat_le kernel.system_queues q) _ may in
    record {
      sound = sound_with_deleted kernel q c.sound (is q refl) (grind (arith, nat_tests, own))
          (not_second (nat_le kernel.system_queues q) (is_entered kernel.dispatcher.procs q) (may_end kernel.queues q) may);
      lives = c.lives;
      completed = nobody (record kernel { queues = without_queue kernel.queues q }) c.none;
    })
    (λ _. same p failure_code kernel c)

pub stays_queue_deleted : (call : Taken) (p : ℕ) (kernel : Kernel) → Calls p kernel → StaysSound p (queue_deleted call kernel)
stays_queue_deleted call p kernel c =
    stays_deleted (found kernel.queues (name_at call 2)) p kernel c (λ q is. found_made kernel.queues (name_at call 2) q is)

-- a call that can't be done now
pub stays_blocked_or_refused : (waits : Bool) (p q : ℕ) (reader : Bool) (kernel : Kernel) → Calls p kernel → IsMade kernel.queues q
    → must_wait kernel.queues q reader ≡ true → StaysSound p (blocked_or_refused waits p q reader kernel)
unfolding blocked_or_refused queued
stays_blocked_or_refused waits p q reader kernel c is may =
    let t = kernel.queues in
    let priority = (process_in kernel.dispatcher.procs p).priority in
    let below = lives_below kernel.dispatcher.procs p c.sound.slots c.lives in
    let nowhere = ready_waits_nowhere kernel p c.sound c.ready in
    called_if p waits _ _
    (λ _. record {
      sound = sound_unlisted kernel p kernel.flags kernel.clock (enlisted t p priority q reader) c.sound c.lives c.sound.flags
          (queues_enlisted kernel p priority q reader c.sound c.lives c.ready is may)
          (omega (arith, listed_once kernel p ready c.sound c.ready, waits_enlisted t p priority q reader c.sound.queues is below nowhere))
          (λ k other. omega (arith, waits_enlisted_other t p priority q reader k c.sound.queues is below nowhere other));
      lives = c.lives;
      completed = nobody (dispatched (at_rest p) (queued kernel p q reader)) c.none;
    })
    (λ _. same p failure_code kernel c)

-- the call of another process is completed
pub stays_other : (other : Option ℕ) (p value : ℕ) (kernel : Kernel) → IsSoundKernel kernel → Lives kernel.dispatcher.procs p → CompletedLive kernel
    → ((w : ℕ) → other ≡ Some w → MayBeReady kernel w) → StaysSound p (valued value (dispatched (with_other other) kernel))
unfolding lists_ready also_completed
stays_other None p value kernel s h live may = record { sound = s; lives = h; completed = live }
stays_other (Some w) p value kernel s h live may = record {
  sound = sound_with_completed (dispatched (moved ready w) kernel) (kernel.dispatcher.completed ++ w ∷ []) (sound_ready kernel w s (may w refl).0 (may w refl).1);
  lives = h;
  completed = all_and_one (λ q. Lives kernel.dispatcher.procs q) kernel.dispatcher.completed w live (may w refl).0;
}

-- a message is read
stays_was_read : (outcome : QueueOutcome) (waits : Bool) (call : Taken) (p q : ℕ) (kernel : Kernel) → Calls p kernel → IsMade kernel.queues q
    → read_outcome kernel.queues q ≡ outcome → StaysSound p (was_read outcome waits call p q kernel)
unfolding was_read
stays_was_read (Passed other) waits call p q kernel c is done =
    let s = stays_other other p 0 (taken_from kernel p q) (sound_taken kernel p q c.sound is) c.lives (nobody (taken_from kernel p q) c.none)
    (λ w first. may_by_read kernel p q w c.sound (ap woken_by done ∙ first)) in
    record { sound = s.sound; lives = s.lives; completed = s.completed }
stays_was_read NotNow waits call p q kernel c is not = stays_blocked_or_refused waits p q true kernel c is (must_wait_read kernel.queues q not)

stays_read_at : (slot : Option ℕ) (waits : Bool) (call : Taken) (p : ℕ) (kernel : Kernel) → Calls p kernel
    → ((q : ℕ) → slot ≡ Some q → IsMade kernel.queues q) → StaysSound p (read_at slot waits call p kernel)
unfolding read_at
stays_read_at None waits call p kernel c is = same p failure_code kernel c
stays_read_at (Some q) waits call p kernel c is = stays_was_read (read_outcome kernel.queues q) waits call p q kernel c (is q refl) refl

pub stays_queue_read : (waits : Bool) (call : Taken) (p : ℕ) (kernel : Kernel) → Calls p kernel → StaysSound p (queue_read waits call p kernel)
stays_queue_read waits call p kernel c =
    stays_read_at (pointed kernel.queues (word_at call 0)) waits call p kernel c (λ q is. pointed_made kernel.queues (word_at call 0) q is)

-- a message is written
stays_was_written : (outcome : QueueOutcome) (waits : Bool) (p q : ℕ) (kernel : Kernel) → Calls p kernel → IsMade kernel.queues q
    → write_outcome kernel.queues q ≡ outcome → StaysSound p (was_written outcome waits p q kernel)
unfolding was_written
stays_was_written (Passed other) waits p q kernel c is done =
    stays_other other p 0 (given_to kernel p q) (sound_given kernel p q c.sound is) (lives_written kernel.queues p q kernel.dispatcher.procs p ∙ c.lives) (nobody (given_to kernel p q) c.none)
    (λ r first. may_by_write kernel p q r c.sound (ap woken_by done ∙ first))
stays_was_written NotNow waits p q kernel c is not = stays_blocked_or_refused waits p q false kernel c is (must_wait_write kernel.queues q not)

stays_write_at : (slot : Option ℕ) (waits : Bool) (p : ℕ) (kernel : Kernel) → Calls p kernel
    → ((q : ℕ) → slot ≡ Some q → IsMade kernel.queues q) → StaysSound p (write_at slot waits p kernel)
unfolding write_at
stays_write_at None waits p kernel c is = same p failure_code kernel c
stays_write_at (Some q) waits p kernel c is = stays_was_written (write_outcome kernel.queues q) waits p q kernel c (is q refl) refl

pub stays_queue_written : (waits : Bool) (call : Taken) (p : ℕ) (kernel : Kernel) → Calls p kernel → StaysSound p (queue_written waits call p kernel)
stays_queue_written waits call p kernel c =
    stays_write_at (pointed kernel.queues (word_at call 0)) waits p kernel c (λ q is. pointed_made kernel.queues (word_at call 0) q is)

-- a resident procedure is called
two_bytes : (width : Option ℕ) → is_two width ≡ true → width ≡ Some 2
two_bytes None is = absurd (cc)
two_bytes (Some n) is = (let same : n ≡ 2 = grind (arith, nat_tests, is) in ap (λ (k : ℕ). Some k) same)

procedure_there : (slot : Option ℕ) (t : Queues) (k : ℕ) → of_two_bytes slot t ≡ Some k → IsOfTwo t k
unfolding of_two_bytes
procedure_there None t k is = absurd (none-some k is)
procedure_there (Some q) t k is =
    let chosen = pointed_if (is_two (width_of t q)) q k is in subst (IsOfTwo t) chosen.1 (two_bytes (width_of t q) chosen.0)

pub procedure_of_two : (t : Queues) (call : Taken) (k : ℕ) → procedure_queue t call ≡ Some k → IsOfTwo t k
procedure_of_two t call k is = procedure_there (found t (name_at call 4)) t k is

pub procedure_made : (t : Queues) (call : Taken) (k : ℕ) → procedure_queue t call ≡ Some k → IsMade t k
procedure_made t call k is = two_made t k (procedure_of_two t call k is)

pub stays_inside : (p q message value : ℕ) (kernel : Kernel) → IsOfTwo kernel.queues q → StaysSound p (valued value kernel)
    → StaysSound p (valued value (inside p q message kernel))
unfolding inside
stays_inside p q message value kernel two s =
    let fit = s.sound.fit p s.lives in
    let process = record (process_in kernel.dispatcher.procs p) { procedure = Some q; kept = message } in
    record {
      sound = sound_changed kernel p process s.sound s.lives (record { console = fit.console; printer = fit.printer; some = fit.some; few = fit.few })
          (λ k is. subst (IsOfTwo kernel.queues) (same_Some q k is) two);
      lives = lives_changed kernel.dispatcher.procs p p process ∙ s.lives;
      completed = live_kept kernel (with_changed kernel p process) refl (λ k living. lives_changed kernel.dispatcher.procs p k process ∙ living) s.completed;
    }

pub queues_with_other : (other : Option ℕ) (kernel : Kernel) → (dispatched (with_other other) kernel).queues ≡ kernel.queues
unfolding lists_ready also_completed
queues_with_other None kernel = refl
queues_with_other (Some p) kernel = refl

stays_procedure_read : (outcome : QueueOutcome) (p q : ℕ) (kernel : Kernel) → Calls p kernel → IsOfTwo kernel.queues q
    → read_outcome kernel.queues q ≡ outcome → StaysSound p (procedure_read outcome p q kernel)
unfolding procedure_read
stays_procedure_read (Passed other) p q kernel c two done =
    let is = two_made kernel.queues q two in
    stays_inside p q _ 0 (dispatched (with_other other) (taken_from kernel p q))
    (ap (λ (queues : Queues). width_of queues q) (queues_with_other other (taken_from kernel p q)) ∙ width_read kernel.queues p q q kernel.dispatcher.procs c.sound.queues is ∙ two)
    (stays_other other p 0 (taken_from kernel p q) (sound_taken kernel p q c.sound is) c.lives (nobody (taken_from kernel p q) c.none)
    (λ w first. may_by_read kernel p q w c.sound (ap woken_by done ∙ first)))
stays_procedure_read NotNow p q kernel c two not =
    stays_blocked_or_refused true p q true kernel c (two_made kernel.queues q two) (must_wait_read kernel.queues q not)

stays_procedure_at : (slot : Option ℕ) (p : ℕ) (kernel : Kernel) → Calls p kernel → ((q : ℕ) → slot ≡ Some q → IsOfTwo kernel.queues q)
    → StaysSound p (procedure_at slot p kernel)
unfolding procedure_at
stays_procedure_at None p kernel c two = same p no_procedure kernel c
stays_procedure_at (Some q) p kernel c two = stays_procedure_read (read_outcome kernel.queues q) p q kernel c (two q refl) refl

pub stays_procedure_called : (call : Taken) (p : ℕ) (kernel : Kernel) → Calls p kernel → StaysSound p (procedure_called call p kernel)
unfolding procedure_called
stays_procedure_called call p kernel c =
    called_if p (is_some (process_in kernel.dispatcher.procs p).procedure) _ _ (λ _. same p no_procedure kernel c)
    (λ _. stays_procedure_at (procedure_queue kernel.queues call) p kernel c (λ q is. procedure_of_two kernel.queues call q is))
