-- What stays so where a process's resident procedure ends.
use Rattle.std.proofs.Common.{◌≡◌, ◌≢◌, ◌∙◌, ℕ, ◌≤◌, ◌==◌, Bool, true, false, List, length, Option, Some, None, if◌then◌else◌, refl, sym, ap, arith}
use Rattle.std.specs.List.{AllByRecursion}
use Rattle.std.proofs.lemmas.Bool.{false≢true, eq-eqb}
use Rattle.std.proofs.lemmas.Option.{none-some}
use Rattle.mpm_base.proofs.Choices.{either}
use Rattle.mpm_procs.specs.Table.{Table, lives, Lives, process_in, with_process}
use Rattle.mpm_procs.proofs.MapLaws.{lives_changed, lives_after}
use Rattle.mpm_queues.specs.Queue.{is_full, with_given}
use Rattle.mpm_queues.specs.Queues.{IsMade, is_made, queue_in}
use Rattle.mpm_queues.specs.Handling.{first_reader, written_by, delivered_to, procs_after_write, write_outcome, woken_by}
use Rattle.mpm_kernel.specs.Kernel.{Kernel, IsSoundKernel, CompletedLive, with_changed, dispatched}
use Rattle.mpm_kernel.specs.Called.{valued}
use Rattle.mpm_dispatcher.specs.Dispatch.{first_completed, with_other}
use Rattle.mpm_kernel.specs.Queueing.{given_to}
use Rattle.mpm_kernel.specs.Procedures.{writing, still_completed, outside, given_back_to, given_back}
use Rattle.mpm_kernel.proofs.Soundness.{sound_changed, sound_call, sound_with_completed}
use Rattle.mpm_kernel.proofs.Staying.{StaysSound, live_kept, kernel_if}
use Rattle.mpm_kernel.proofs.QueueingLaws.{sound_given, may_by_write, lives_written}
use Rattle.mpm_kernel.proofs.QueueCalls.{stays_other}
use Rattle.mpm_kernel.proofs.HomeLaws.{SameHomes, homes_stay, homes_both, homes_changed, homes_call, procs_with_other}
pub use Rattle.mpm_kernel.proofs.QueueCalls.{procedure_made}

-- the process is in no procedure any more

pub sound_outside : (p : ℕ) (kernel : Kernel) → IsSoundKernel kernel → Lives kernel.dispatcher.procs p → IsSoundKernel (outside p kernel)
unfolding outside
sound_outside p kernel s h =
    let fit = s.fit p h in
    let process = record (process_in kernel.dispatcher.procs p) { procedure = None } in
    sound_with_completed _ (still_completed (first_completed kernel.dispatcher.completed) p kernel.dispatcher.procs)
    (sound_call (with_changed kernel p process) p (writing (process_in kernel.dispatcher.procs p).kept)
    (sound_changed kernel p process s h (record { console = fit.console; printer = fit.printer; some = fit.some; few = fit.few }) (λ q is. absurd (none-some q is))))

pub lives_outside : (p q : ℕ) (kernel : Kernel) → Lives kernel.dispatcher.procs q → Lives (outside p kernel).dispatcher.procs q
unfolding outside
lives_outside p q kernel h =
    let process = record (process_in kernel.dispatcher.procs p) { procedure = None } in
    lives_after (with_process kernel.dispatcher.procs p process) p q (writing (process_in kernel.dispatcher.procs p).kept) ∙ lives_changed kernel.dispatcher.procs p q process ∙ h

-- the queue of the procedure that it was in is there

there_by_width : (alive : Bool) (width : ℕ) → (if alive then Some width else None) ≡ Some 2 → alive ≡ true
there_by_width true width is = refl
there_by_width false width is = absurd (cc is)

pub queue_outside : (p q : ℕ) (kernel : Kernel) → IsSoundKernel kernel → Lives kernel.dispatcher.procs p
    → (process_in kernel.dispatcher.procs p).procedure ≡ Some q → IsMade (outside p kernel).queues q
unfolding outside
queue_outside p q kernel s h is = there_by_width (is_made kernel.queues q) _ (s.inside p q h is)

-- who is still to be answered lives and is another process, and there is one at most

all_still : (P : ℕ → Type 0) (first : Option ℕ) (p : ℕ) (procs : Table) → ((q : ℕ) → Lives procs q → q ≢ p → P q) → AllByRecursion P (still_completed first p procs)
all_still P None p procs each = tt
all_still P (Some q) p procs each =
    either (AllByRecursion P) (q == p) _ _ (λ _. tt)
    (λ other.
    let apart : q ≢ p = λ same. false≢true (sym other ∙ (ap (λ (x : ℕ). q == x) (sym same) ∙ eq-eqb q q refl)) in
    either (AllByRecursion P) (lives procs q) _ _ (λ living. (each q living apart, tt)) (λ _. tt))

few_still : (first : Option ℕ) (p : ℕ) (procs : Table) → length (still_completed first p procs) ≤ 1
few_still None p procs = omega arith
few_still (Some q) p procs =
    either (λ (ps : List ℕ). length ps ≤ 1) (q == p) _ _ (λ _. omega arith)
    (λ _. either (λ (ps : List ℕ). length ps ≤ 1) (lives procs q) _ _ (λ _. omega arith) (λ _. omega arith))

pub few_outside : (p : ℕ) (kernel : Kernel) → length (outside p kernel).dispatcher.completed ≤ 1
unfolding outside
few_outside p kernel = few_still (first_completed kernel.dispatcher.completed) p kernel.dispatcher.procs

pub others_outside : (p : ℕ) (kernel : Kernel) → AllByRecursion (λ q. Lives (outside p kernel).dispatcher.procs q × (q ≢ p)) (outside p kernel).dispatcher.completed
unfolding outside
others_outside p kernel =
    all_still (λ q. Lives (outside p kernel).dispatcher.procs q × (q ≢ p)) (first_completed kernel.dispatcher.completed) p kernel.dispatcher.procs
    (λ q living apart. (lives_outside p q kernel living, apart))

pub live_outside : (p : ℕ) (kernel : Kernel) → CompletedLive (outside p kernel)
unfolding outside
live_outside p kernel =
    all_still (λ q. Lives (outside p kernel).dispatcher.procs q) (first_completed kernel.dispatcher.completed) p kernel.dispatcher.procs
    (λ q living _. lives_outside p q kernel living)

homes_outside : (p : ℕ) (kernel : Kernel) → IsSoundKernel kernel → Lives kernel.dispatcher.procs p → SameHomes kernel (outside p kernel)
unfolding outside
homes_outside p kernel s h =
    let process = record (process_in kernel.dispatcher.procs p) { procedure = None } in
    let changed = with_changed kernel p process in
    let call = writing (process_in kernel.dispatcher.procs p).kept in
    homes_both kernel changed _ (homes_changed kernel p process s.slots h refl refl)
    (homes_both changed _ (outside p kernel) (homes_call changed p call) (homes_stay _ (outside p kernel) refl))

-- and its message is written

stays_given : (queue : Option ℕ) (p : ℕ) (kernel : Kernel) → IsSoundKernel kernel → Lives kernel.dispatcher.procs p → CompletedLive kernel
    → StaysSound p (valued 0 (given_back_to queue p kernel))
unfolding given_back_to
stays_given None p kernel s h live = record { sound = s; lives = h; completed = live }
stays_given (Some q) p kernel s h live =
    kernel_if p (is_made kernel.queues q) _ _ 0
    (λ is. stays_other (woken_by (write_outcome kernel.queues q)) p 0 (given_to kernel p q) (sound_given kernel p q s is)
    (lives_written kernel.queues p q kernel.dispatcher.procs p ∙ h) (live_kept kernel (given_to kernel p q) refl (λ k living. lives_written kernel.queues p q kernel.dispatcher.procs k ∙ living) live)
    (λ r first. may_by_write kernel p q r s first))
    (λ _. record { sound = s; lives = h; completed = live })

-- of the queue whose procedure it left
pub stays_written_back : (queue : Option ℕ) (p : ℕ) (kernel : Kernel) → IsSoundKernel kernel → Lives kernel.dispatcher.procs p
    → StaysSound p (valued 0 (given_back_to queue p (outside p kernel)))
stays_written_back queue p kernel s h =
    stays_given queue p (outside p kernel) (sound_outside p kernel s h) (lives_outside p p kernel h) (live_outside p kernel)

pub stays_given_back : (p : ℕ) (kernel : Kernel) → IsSoundKernel kernel → Lives kernel.dispatcher.procs p → StaysSound p (valued 0 (given_back p kernel))
unfolding given_back
stays_given_back p kernel s h = stays_written_back (process_in kernel.dispatcher.procs p).procedure p kernel s h

homes_delivered : (o : Option ℕ) (b : Bool) (kernel new : Kernel) (message : _) → new.dispatcher.procs ≡ (if b then kernel.dispatcher.procs else (delivered_to o message kernel.dispatcher.procs)) → SameHomes kernel new
homes_delivered o true kernel new message e = homes_stay kernel new e
homes_delivered None false kernel new message e = homes_stay kernel new e
homes_delivered (Some r) false kernel new message e =
    let call = with_given message _ in
    homes_both kernel _ new (homes_call kernel r call) (homes_stay _ new e)

pub homes_given : (queue : Option ℕ) (p : ℕ) (kernel : Kernel) → SameHomes kernel (given_back_to queue p kernel)
unfolding given_back_to procs_after_write
homes_given None p kernel = homes_stay kernel kernel refl
homes_given (Some q) p kernel =
    let t = kernel.queues in
    either (SameHomes kernel) (is_made t q) _ _
    (λ _. homes_delivered (first_reader t q) (is_full (queue_in t q)) kernel _ (written_by t q kernel.dispatcher.procs p) (procs_with_other (woken_by (write_outcome t q)) (given_to kernel p q)))
    (λ _. homes_stay kernel kernel refl)

pub homes_given_back : (p : ℕ) (kernel : Kernel) → IsSoundKernel kernel → Lives kernel.dispatcher.procs p → SameHomes kernel (given_back p kernel)
unfolding given_back
homes_given_back p kernel s h =
    homes_both kernel (outside p kernel) _ (homes_outside p kernel s h) (homes_given (process_in kernel.dispatcher.procs p).procedure p (outside p kernel))

pub lives_given_back : (p : ℕ) (old new : Kernel) → IsSoundKernel old → Lives old.dispatcher.procs p → new ≡ given_back p old → Lives new.dispatcher.procs p
lives_given_back p old new s h is = ap (λ (kernel : Kernel). lives kernel.dispatcher.procs p) is ∙ (stays_given_back p old s h).lives

-- the held call of another process is completed
pub lives_other : (other : Option ℕ) (p : ℕ) (old new : Kernel) → Lives old.dispatcher.procs p → new ≡ dispatched (with_other other) old → Lives new.dispatcher.procs p
lives_other other p old new h is =
    ap (λ (kernel : Kernel). lives kernel.dispatcher.procs p) is ∙ ap (λ procs. lives procs p) (procs_with_other other old) ∙ h
