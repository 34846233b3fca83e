-- Laws of queues in the kernel: who waits at one lives, those of the system stay, and what a change of the queues leaves
-- sound.
use Rattle.std.proofs.Common.{◌≡◌, ◌≢◌, ◌∙◌, ℕ, ◌*◌, ◌<◌, ◌≤◌, Bool, true, false, cond, ◌||◌, ◌&&◌, ◌==◌, List, Option, Some, None, if◌then◌else◌, ◌⊎◌, inl, inr, refl, sym, ap, subst, arith, get_or-set_other}
use Rattle.std.specs.Prelude.{IfSome, nat_lt, is_some, is_none, slice_index_or}
use Rattle.std.specs.Option.{option_map_or}
use Rattle.std.proofs.lemmas.Bool.{false≢true, cases_eq, cases_lt, not-true, not-false, or_parts}
use Rattle.std.proofs.lemmas.Bool.Decides.{nat_tests}
use Rattle.std.proofs.lemmas.Option.{none-some, same_Some}
use Rattle.mpm_base.proofs.Choices.{either}
use Rattle.mpm_base.proofs.Options.{none_there}
use Rattle.mpm_base.specs.declared.number.Name8.{Name8}
use Rattle.mpm_ready.specs.Order.{Member}
use Rattle.mpm_ready.specs.Tables.{list_of}
use Rattle.mpm_procs.specs.Table.{Table, lives, Lives, process_in, call_of}
use Rattle.mpm_procs.specs.Finding.{is_queue, is_inside_of, is_entered}
use Rattle.mpm_procs.proofs.MapLaws.{lives_below, lives_after}
use Rattle.mpm_queues.specs.Queue.{new_queue, no_queue, with_given, is_drained, is_full}
use Rattle.mpm_queues.specs.Queues.{Queues, IsMade, is_made, is_free, is_named, queue_in, width_of, lowest, found, lowest_free, waits, waits_at, WaitsAtNoQueue, made, may_end, without_queue, without, AreSoundQueues, make_error}
use Rattle.mpm_queues.specs.declared.queues.MakeRefused.{MakeRefused}
use Rattle.mpm_queues.specs.declared.queues.MakeRefused.TheVariants.{BadCount, Exists, NoQueueRoom}
use Rattle.mpm_queues.specs.declared.queues.QueueOutcome.{QueueOutcome}
use Rattle.mpm_queues.specs.declared.queues.QueueOutcome.TheVariants.{Done as Passed, NotNow}
use Rattle.mpm_queues.specs.Handling.{message_read, read_outcome, message_written, write_outcome, procs_after_write, first_reader, first_writer, written_by, delivered_to, enlisted, must_wait, woken_by}
use Rattle.mpm_queues.specs.Runs.{Reads, Writes, Waits}
use Rattle.mpm_queues.proofs.Finding.{lowest_passes, lowest_none}
use Rattle.mpm_queues.proofs.SoundLaws.{sound_made, sound_delete, sound_read, sound_write, sound_enlisted}
use Rattle.mpm_queues.proofs.RunLaws.{made_operation}
use Rattle.mpm_queues.proofs.WaitLaws.{waits_one, nowhere_waits, named_made, kept_read, kept_write, waiters_made, waiters_delete, waits_read_woken, waits_read_other, waits_write_woken, waits_write_other, read_ends_waiter, write_ends_waiter}
use Rattle.mpm_dispatcher.specs.Dispatch.{ready, IsReady, with_procs}
use Rattle.mpm_kernel.specs.Kernel.{Kernel, IsOfTwo, IsSoundKernel, dispatched}
use Rattle.mpm_kernel.specs.Queueing.{OnlySystems, IfNotNow, made_at, pointed, taken_from, given_to}
use Rattle.mpm_kernel.proofs.Soundness.{AreQueues, own_queues, MayBeReady, listed_once, sound_fewer, sound_call}

-- who waits at a queue lives
pub waiters_live : (kernel : Kernel) (q p : ℕ) → IsSoundKernel kernel → waits_at kernel.queues q p ≡ true → Lives kernel.dispatcher.procs p
waiters_live kernel q p s there = s.live p (omega (arith, waits_one kernel.queues q p s.queues there))

-- who is ready waits at none
pub ready_waits_nowhere : (kernel : Kernel) (p : ℕ) → IsSoundKernel kernel → IsReady kernel.dispatcher p → WaitsAtNoQueue kernel.queues p
ready_waits_nowhere kernel p s is_ready =
    nowhere_waits kernel.queues p (omega (arith, listed_once kernel p ready s is_ready))

-- where only the system's queues are there, the lowest free number is theirs
pub number_below : (t : Queues) (q : ℕ) → lowest_free t ≡ Some q → q < 32
number_below t q free = (lowest_passes (is_free t) q free).1

number_free : (t : Queues) (q : ℕ) → lowest_free t ≡ Some q → is_made t q ≡ false
number_free t q free = not-true (is_made t q) (lowest_passes (is_free t) q free).0

pub system_is_lowest : (kernel : Kernel) (q : ℕ) → IsSoundKernel kernel → OnlySystems kernel → lowest_free kernel.queues ≡ Some q → q ≡ kernel.system_queues
system_is_lowest kernel q s only free =
    let passes = lowest_passes (is_free kernel.queues) q free in
    elim (cases_lt q kernel.system_queues) [
      | inl below ↦ absurd (false≢true (sym (number_free kernel.queues q free) ∙ s.system q below))
      | inr above ↦ elim (cases_lt kernel.system_queues q) [
        | inl more ↦ absurd (
            let below = only.all kernel.system_queues (not-false (is_made kernel.queues kernel.system_queues) (passes.2 kernel.system_queues more)) in
            omega (arith, below))
        | inr less ↦ omega (arith, above, less)
      ]
    ]

-- a queue that is found is there, and so is one that a pointer names
pub found_made : (t : Queues) (name : Name8) (q : ℕ) → found t name ≡ Some q → IsMade t q
found_made t name q is = named_made t name q (lowest_passes (is_named t name) q is).0

both : (a b c : Bool) → (a && (b && c)) ≡ true → c ≡ true
both true true true h = refl
both true true false h = absurd (cc)
both true false c h = absurd (cc)
both false b c h = absurd (cc)

pub pointed_if : (b : Bool) (n q : ℕ) → (if b then Some n else None) ≡ Some q → (b ≡ true) × (n ≡ q)
pointed_if true n q is = (refl, same_Some n q is)
pointed_if false n q is = absurd (none-some q is)

pub pointed_made : (t : Queues) (pointer q : ℕ) → pointed t pointer ≡ Some q → IsMade t q
unfolding pointed
pointed_made t pointer q is =
    let named = pointed_if _ _ q is in
    subst (IsMade t) named.1 (both _ _ _ named.0)

-- queues are others at which nobody waits who didn't before
pub sound_queues : (kernel : Kernel) (queues : Queues) → IsSoundKernel kernel → AreQueues kernel queues → ((q : ℕ) → waits queues q ≤ waits kernel.queues q)
    → IsSoundKernel (record kernel { queues = queues })
sound_queues kernel queues s are fewer = sound_fewer kernel kernel.flags kernel.clock queues s s.flags are (λ q. omega (arith, fewer q))

waits_same : (t new : Queues) (p : ℕ) → new.waiters ≡ t.waiters → waits new p ≡ waits t p
unfolding waits
waits_same t new p same = ap (λ (lists : List (List Member)). option_map_or (λ _. 1) (list_of lists p) 0) same

alive_same : (t new : Queues) (q : ℕ) → new.alive ≡ t.alive → is_made new q ≡ is_made t q
alive_same t new q same = ap (λ (alive : List Bool). slice_index_or alive q false) same

made_same : (t new : Queues) (q : ℕ) → new.alive ≡ t.alive → IsMade t q → IsMade new q
made_same t new q same is = alive_same t new q same ∙ is

width_same : (t new : Queues) (q : ℕ) → is_made new q ≡ is_made t q → (queue_in new q).width ≡ (queue_in t q).width → width_of new q ≡ width_of t q
width_same t new q made width =
    ap (λ (b : Bool). if b then Some (queue_in new q).width else None) made ∙ ap (λ (n : ℕ). if is_made t q then Some n else None) width

-- a queue of messages of two bytes
pub two_made : (t : Queues) (q : ℕ) → IsOfTwo t q → IsMade t q
two_made t q two = (pointed_if (is_made t q) (queue_in t q).width 2 two).0

pub two_width : (t : Queues) (q : ℕ) → IsOfTwo t q → (queue_in t q).width ≡ 2
two_width t q two = (pointed_if (is_made t q) (queue_in t q).width 2 two).1

-- a queue is made
pub record Accepts (t : Queues) (name : Name8) (width count : ℕ) : Type 0 where
  pub some : 1 ≤ count
  pub new : found t name ≡ None
  pub free : is_none (lowest_free t) ≡ false
  pub few : width * count ≤ 2048

unless : (b : Bool) (why : MakeRefused) (rest : Option MakeRefused) → is_none (if b then Some why else rest) ≡ true → (b ≡ false) × (is_none rest ≡ true)
unless true why rest h = absurd (cc)
unless false why rest h = (refl, h)

pub accepts : (t : Queues) (name : Name8) (width count : ℕ) → is_none (make_error t name width count) ≡ true → Accepts t name width count
unfolding make_error
accepts t name width count none =
    let counted = unless (count == 0) BadCount _ none in
    let named = unless (is_some (found t name)) Exists _ counted.1 in
    let room = or_parts _ _ (unless (is_none (lowest_free t) || nat_lt 2048 (width * count)) NoQueueRoom None named.1).0 in
    record {
      some = grind (arith, nat_tests, counted.0);
      new = none_there (found t name) named.0;
      free = room.0;
      few = grind (arith, nat_tests, room.1);
    }

made_more : (t : Queues) (q k : ℕ) (name : Name8) (width count : ℕ) → IsMade t k → k ≢ q → IsMade (made t q name width count) k
unfolding made
made_more t q k name width count is other = get_or-set_other t.alive q k true false other ∙ is

width_more : (t : Queues) (q k : ℕ) (name : Name8) (width count : ℕ) → k ≢ q → width_of (made t q name width count) k ≡ width_of t k
unfolding made
width_more t q k name width count other =
    width_same t (made t q name width count) k (get_or-set_other t.alive q k true false other)
    (ap (λ x. x.width) (get_or-set_other t.queues q k (new_queue name width count) no_queue other))

-- one that is there hasn't a free number
made_apart : (t : Queues) (q k : ℕ) → lowest_free t ≡ Some q → IsMade t k → k ≢ q
made_apart t q k free is = λ same. false≢true (sym (number_free t q free) ∙ ap (is_made t) (sym same) ∙ is)

made_queues : (kernel : Kernel) (slot : Option ℕ) (name : Name8) (width count : ℕ) → IsSoundKernel kernel → lowest_free kernel.queues ≡ slot
    → Accepts kernel.queues name width count → AreQueues kernel (made_at slot kernel.queues name width count)
made_queues kernel None name width count s free a = own_queues kernel s
made_queues kernel (Some q) name width count s free a = record {
  sound = sound_made kernel.queues q name width count s.queues free a.new a.some a.few;
  system = λ k below. made_more kernel.queues q k name width count (s.system k below) (made_apart kernel.queues q k free (s.system k below));
  inside = λ p k living is.
      let two = s.inside p k living is in
      width_more kernel.queues q k name width count (made_apart kernel.queues q k free (two_made kernel.queues k two)) ∙ two;
}

waits_made : (slot : Option ℕ) (t : Queues) (name : Name8) (width count p : ℕ) → waits (made_at slot t name width count) p ≡ waits t p
waits_made None t name width count p = refl
waits_made (Some q) t name width count p = waits_same t (made t q name width count) p (waiters_made t q name width count)

pub sound_with_queue : (kernel : Kernel) (name : Name8) (width count : ℕ) → IsSoundKernel kernel → is_none (make_error kernel.queues name width count) ≡ true
    → IsSoundKernel (record kernel { queues = made_at (lowest_free kernel.queues) kernel.queues name width count })
sound_with_queue kernel name width count s none =
    sound_queues kernel _ s (made_queues kernel (lowest_free kernel.queues) name width count s refl (accepts kernel.queues name width count none))
    (λ p. omega (arith, waits_made (lowest_free kernel.queues) kernel.queues name width count p))

-- a queue is deleted that isn't the system's
deleted_other : (b : Bool) (t : Queues) (q k : ℕ) → k ≢ q → is_made (cond b (without t q) t) k ≡ is_made t k
unfolding without
deleted_other true t q k other = get_or-set_other t.alive q k false false other
deleted_other false t q k other = refl

width_left : (b : Bool) (t : Queues) (q k : ℕ) → k ≢ q → width_of (cond b (without t q) t) k ≡ width_of t k
unfolding without
width_left true t q k other =
    width_same t (without t q) k (get_or-set_other t.alive q k false false other) (ap (λ x. x.width) (get_or-set_other t.queues q k no_queue no_queue other))
width_left false t q k other = refl

-- and in whose resident procedure nobody is
is_this : (k q : ℕ) (o : Option ℕ) → o ≡ Some k → k ≡ q → is_queue q o ≡ true
is_this k q None is same = absurd (none-some k is)
is_this k q (Some other) is same = (let equal = same_Some other k is in grind (arith, nat_tests, equal, same))

inside_apart : (kernel : Kernel) (q p k : ℕ) → IsSoundKernel kernel → is_entered kernel.dispatcher.procs q ≡ false → Lives kernel.dispatcher.procs p
    → (process_in kernel.dispatcher.procs p).procedure ≡ Some k → k ≢ q
unfolding is_entered
inside_apart kernel q p k s none living is = λ same.
    let test = is_inside_of kernel.dispatcher.procs q in
    let fails : test p ≡ false = lowest_none test (none_there (lowest test) none) p (lives_below kernel.dispatcher.procs p s.slots living) in
    false≢true (sym fails ∙ ap (λ b. b && is_queue q (process_in kernel.dispatcher.procs p).procedure) living ∙ is_this k q _ is same)

pub sound_with_deleted : (kernel : Kernel) (q : ℕ) → IsSoundKernel kernel → IsMade kernel.queues q → kernel.system_queues ≤ q → is_entered kernel.dispatcher.procs q ≡ false
    → IsSoundKernel (record kernel { queues = without_queue kernel.queues q })
unfolding without_queue
sound_with_deleted kernel q s is own none =
    let gone = may_end kernel.queues q in
    sound_queues kernel (without_queue kernel.queues q) s
    (record {
      sound = sound_delete kernel.queues q s.queues is;
      system = λ k below. deleted_other gone kernel.queues q k (λ same. omega (arith, own, below, same)) ∙ s.system k below;
      inside = λ p k living there. width_left gone kernel.queues q k (inside_apart kernel q p k s none living there) ∙ s.inside p k living there;
    })
    (λ p. omega (arith, waits_same kernel.queues (without_queue kernel.queues q) p (waiters_delete kernel.queues q)))

-- a message is read
woken_or_not : (o : Option ℕ) (p : ℕ) → (o ≡ Some p) ⊎ (o ≢ Some p)
woken_or_not None p = inr (λ is. none-some p is)
woken_or_not (Some other) p = elim (cases_eq other p) [
  | inl same ↦ inl (ap (λ (n : ℕ). Some n) same)
  | inr apart ↦ inr (λ is. apart (same_Some other p is))
]

read_waits : (t : Queues) (p q : ℕ) (procs : Table) (k : ℕ) → AreSoundQueues t → waits (message_read t p q procs) k ≤ waits t k
read_waits t p q procs k s = elim (woken_or_not (woken_by (read_outcome t q)) k) [
  | inl is ↦ omega (arith, waits_read_woken t p q procs k is)
  | inr apart ↦ omega (arith, waits_read_other t p q procs k s apart)
]

pub width_read : (t : Queues) (p q k : ℕ) (procs : Table) → AreSoundQueues t → IsMade t q → width_of (message_read t p q procs) k ≡ width_of t k
width_read t p q k procs s is =
    width_same t (message_read t p q procs) k (alive_same t (message_read t p q procs) k (made_operation t q (Reads p procs))) (kept_read t p q k procs s is).width

pub width_written : (t : Queues) (p q k : ℕ) (procs : Table) → AreSoundQueues t → IsMade t q → width_of (message_written t p q procs) k ≡ width_of t k
width_written t p q k procs s is =
    width_same t (message_written t p q procs) k (alive_same t (message_written t p q procs) k (made_operation t q (Writes p procs))) (kept_write t p q k procs s is).width

pub sound_taken : (kernel : Kernel) (p q : ℕ) → IsSoundKernel kernel → IsMade kernel.queues q → IsSoundKernel (taken_from kernel p q)
sound_taken kernel p q s is =
    let t = kernel.queues in
    sound_queues kernel (message_read t p q kernel.dispatcher.procs) s
    (record {
      sound = sound_read t p q kernel.dispatcher.procs s.queues is;
      system = λ k below. made_same t (message_read t p q kernel.dispatcher.procs) k (made_operation t q (Reads p kernel.dispatcher.procs)) (s.system k below);
      inside = λ r k living there. width_read t p q k kernel.dispatcher.procs s.queues is ∙ s.inside r k living there;
    })
    (λ k. read_waits t p q kernel.dispatcher.procs k s.queues)

-- whose wait at a queue was ended lives, and waits for nothing else
pub may_by_read : (kernel : Kernel) (p q w : ℕ) → IsSoundKernel kernel → woken_by (read_outcome kernel.queues q) ≡ Some w → MayBeReady (taken_from kernel p q) w
may_by_read kernel p q w s is =
    let t = kernel.queues in
    let one = waits_one t q w s.queues (read_ends_waiter t q w is) in
    (s.live w (omega (arith, one)), omega (arith, one, s.once w, waits_read_woken t p q kernel.dispatcher.procs w is))

-- a message is written, which may come into the call that another process keeps
sound_delivered : (o : Option ℕ) (message : List ℕ) (kernel : Kernel) → IsSoundKernel kernel → IsSoundKernel (dispatched (with_procs (delivered_to o message kernel.dispatcher.procs)) kernel)
sound_delivered None message kernel s = s
sound_delivered (Some r) message kernel s = sound_call kernel r (with_given message (call_of kernel.dispatcher.procs r)) s

sound_delivered_if : (b : Bool) (o : Option ℕ) (message : List ℕ) (kernel : Kernel) → IsSoundKernel kernel
    → IsSoundKernel (dispatched (with_procs (if b then kernel.dispatcher.procs else (delivered_to o message kernel.dispatcher.procs))) kernel)
sound_delivered_if true o message kernel s = s
sound_delivered_if false o message kernel s = sound_delivered o message kernel s

lives_delivered : (o : Option ℕ) (message : List ℕ) (procs : Table) (k : ℕ) → lives (delivered_to o message procs) k ≡ lives procs k
lives_delivered None message procs k = refl
lives_delivered (Some r) message procs k = lives_after procs r k (with_given message (call_of procs r))

pub lives_written : (t : Queues) (p q : ℕ) (procs : Table) (k : ℕ) → lives (procs_after_write t p q procs) k ≡ lives procs k
unfolding procs_after_write
lives_written t p q procs k =
    either (λ (now : Table). lives now k ≡ lives procs k) (is_full (queue_in t q)) _ _ (λ _. refl) (λ _. lives_delivered (first_reader t q) (written_by t q procs p) procs k)

pub write_waits : (t : Queues) (p q : ℕ) (procs : Table) (k : ℕ) → AreSoundQueues t → waits (message_written t p q procs) k ≤ waits t k
write_waits t p q procs k s = elim (woken_or_not (woken_by (write_outcome t q)) k) [
  | inl is ↦ omega (arith, waits_write_woken t p q procs k is)
  | inr apart ↦ omega (arith, waits_write_other t p q procs k s apart)
]

pub sound_given : (kernel : Kernel) (p q : ℕ) → IsSoundKernel kernel → IsMade kernel.queues q → IsSoundKernel (given_to kernel p q)
unfolding procs_after_write
sound_given kernel p q s is =
    let t = kernel.queues in
    sound_delivered_if (is_full (queue_in t q)) (first_reader t q) (written_by t q kernel.dispatcher.procs p) (record kernel { queues = message_written t p q kernel.dispatcher.procs })
    (sound_queues kernel (message_written t p q kernel.dispatcher.procs) s
    (record {
      sound = sound_write t p q kernel.dispatcher.procs s.queues is;
      system = λ k below. made_same t (message_written t p q kernel.dispatcher.procs) k (made_operation t q (Writes p kernel.dispatcher.procs)) (s.system k below);
      inside = λ r k living there. width_written t p q k kernel.dispatcher.procs s.queues is ∙ s.inside r k living there;
    })
    (λ k. write_waits t p q kernel.dispatcher.procs k s.queues))

pub may_by_write : (kernel : Kernel) (p q r : ℕ) → IsSoundKernel kernel → woken_by (write_outcome kernel.queues q) ≡ Some r → MayBeReady (given_to kernel p q) r
may_by_write kernel p q r s is =
    let t = kernel.queues in
    let one = waits_one t q r s.queues (write_ends_waiter t q r is) in
    (lives_written t p q kernel.dispatcher.procs r ∙ s.live r (omega (arith, one)), omega (arith, one, s.once r, waits_write_woken t p q kernel.dispatcher.procs r is))

-- where nothing can be done, nothing changes
not_now_if : (b : Bool) (o : Option ℕ) → (if b then NotNow else (Passed o)) ≡ NotNow → b ≡ true
not_now_if true o is = refl
not_now_if false o is = absurd (cc)

pub must_wait_read : (t : Queues) (q : ℕ) → read_outcome t q ≡ NotNow → must_wait t q true ≡ true
unfolding read_outcome
must_wait_read t q is = not_now_if (is_drained (queue_in t q)) (first_writer t q) is

pub must_wait_write : (t : Queues) (q : ℕ) → write_outcome t q ≡ NotNow → must_wait t q false ≡ true
unfolding write_outcome
must_wait_write t q is = not_now_if (is_full (queue_in t q)) (first_reader t q) is

read_if : (b : Bool) (kernel : Kernel) (queues : Queues) → b ≡ true → record kernel { queues = if b then kernel.queues else queues } ≡ kernel
read_if true kernel queues is = refl
read_if false kernel queues is = absurd (cc)

pub same_read : (kernel : Kernel) (p q : ℕ) → read_outcome kernel.queues q ≡ NotNow → taken_from kernel p q ≡ kernel
unfolding message_read
same_read kernel p q is = read_if (is_drained (queue_in kernel.queues q)) kernel _ (must_wait_read kernel.queues q is)

written_if : (b : Bool) (kernel : Kernel) (queues : Queues) (procs : Table) → b ≡ true
    → record kernel { dispatcher = record kernel.dispatcher { procs = if b then kernel.dispatcher.procs else procs }; queues = if b then kernel.queues else queues } ≡ kernel
written_if true kernel queues procs is = refl
written_if false kernel queues procs is = absurd (cc)

pub same_written : (kernel : Kernel) (p q : ℕ) → write_outcome kernel.queues q ≡ NotNow → given_to kernel p q ≡ kernel
unfolding message_written procs_after_write
same_written kernel p q is = written_if (is_full (queue_in kernel.queues q)) kernel _ _ (must_wait_write kernel.queues q is)

-- after a read and a write: whose wait was ended lives; where nothing could be done nothing changed, and the process may wait
pub some_lives : (o : Option ℕ) (kernel : Kernel) → ((w : ℕ) → o ≡ Some w → MayBeReady kernel w) → IfSome o (λ w. Lives kernel.dispatcher.procs w)
some_lives None kernel may = tt
some_lives (Some w) kernel may = (may w refl).0

pub lives_by_read : (kernel : Kernel) (p q : ℕ) (procs : Table) (outcome : QueueOutcome) → IsSoundKernel kernel → outcome ≡ read_outcome kernel.queues q
    → procs ≡ kernel.dispatcher.procs → IfSome (woken_by outcome) (λ w. Lives procs w)
lives_by_read kernel p q procs outcome s is same =
    let P : Table → Type 0 = λ table. IfSome (woken_by outcome) (λ w. Lives table w) in
    subst P (sym same) (some_lives (woken_by outcome) (taken_from kernel p q) (λ w first. may_by_read kernel p q w s (ap woken_by (sym is) ∙ first)))

pub lives_by_write : (kernel : Kernel) (p q : ℕ) (outcome : QueueOutcome) → IsSoundKernel kernel → outcome ≡ write_outcome kernel.queues q
    → IfSome (woken_by outcome) (λ w. Lives (given_to kernel p q).dispatcher.procs w)
lives_by_write kernel p q outcome s is =
    some_lives (woken_by outcome) (given_to kernel p q) (λ w first. may_by_write kernel p q w s (ap woken_by (sym is) ∙ first))

-- the kernel with other queues and processes, which is the one before where they didn't change
with_parts : Kernel → Queues → Table → Kernel
with_parts kernel queues procs = record kernel { dispatcher = record kernel.dispatcher { procs = procs }; queues = queues }

parts_are : (kernel old : Kernel) (queues afterwards : Queues) (procs now : Table) → queues ≡ afterwards → procs ≡ now → with_parts kernel afterwards now ≡ kernel
    → kernel ≡ old → with_parts kernel queues procs ≡ old
parts_are kernel old queues afterwards procs now one other same is =
    ap (λ x. with_parts kernel x procs) one ∙ ap (λ x. with_parts kernel afterwards x) other ∙ same ∙ is

must_wait_in : (kernel old : Kernel) (q : ℕ) (reader : Bool) → kernel ≡ old → must_wait kernel.queues q reader ≡ true → must_wait old.queues q reader ≡ true
must_wait_in kernel old q reader is may = ap (λ (k : Kernel). must_wait k.queues q reader) (sym is) ∙ may

pub waits_by_read : (kernel old : Kernel) (p q : ℕ) (queues : Queues) (procs : Table) (outcome : QueueOutcome) → kernel ≡ old
    → outcome ≡ read_outcome kernel.queues q → queues ≡ message_read kernel.queues p q kernel.dispatcher.procs → procs ≡ kernel.dispatcher.procs
    → IfNotNow outcome ((record kernel { dispatcher = record kernel.dispatcher { procs = procs }; queues = queues } ≡ old) × (must_wait old.queues q true ≡ true))
unfolding with_parts
waits_by_read kernel old p q queues procs (Passed other) is outcome afterwards same = tt
waits_by_read kernel old p q queues procs NotNow is outcome afterwards same = (
  parts_are kernel old queues _ procs kernel.dispatcher.procs afterwards same (same_read kernel p q (sym outcome)) is,
  must_wait_in kernel old q true is (must_wait_read kernel.queues q (sym outcome)),
)

pub waits_by_write : (kernel old : Kernel) (p q : ℕ) (queues : Queues) (procs : Table) (outcome : QueueOutcome) → kernel ≡ old
    → outcome ≡ write_outcome kernel.queues q → queues ≡ message_written kernel.queues p q kernel.dispatcher.procs
    → procs ≡ procs_after_write kernel.queues p q kernel.dispatcher.procs
    → IfNotNow outcome ((record kernel { dispatcher = record kernel.dispatcher { procs = procs }; queues = queues } ≡ old) × (must_wait old.queues q false ≡ true))
unfolding with_parts
waits_by_write kernel old p q queues procs (Passed other) is outcome afterwards same = tt
waits_by_write kernel old p q queues procs NotNow is outcome afterwards same = (
  parts_are kernel old queues _ procs _ afterwards same (same_written kernel p q (sym outcome)) is,
  must_wait_in kernel old q false is (must_wait_write kernel.queues q (sym outcome)),
)

-- a process waits at a queue
two_enlisted : (t : Queues) (p priority q : ℕ) (reader : Bool) (k : ℕ) → IsOfTwo t k → IsOfTwo (enlisted t p priority q reader) k
unfolding enlisted
two_enlisted t p priority q reader k two = two

pub queues_enlisted : (kernel : Kernel) (p priority q : ℕ) (reader : Bool) → IsSoundKernel kernel → Lives kernel.dispatcher.procs p → IsReady kernel.dispatcher p
    → IsMade kernel.queues q → must_wait kernel.queues q reader ≡ true → AreQueues kernel (enlisted kernel.queues p priority q reader)
queues_enlisted kernel p priority q reader s h is_ready is may =
    let t = kernel.queues in
    record {
      sound = sound_enlisted t p priority q reader s.queues is (lives_below kernel.dispatcher.procs p s.slots h) (ready_waits_nowhere kernel p s is_ready) may;
      system = λ k below. made_same t (enlisted t p priority q reader) k (made_operation t q (Waits p priority reader)) (s.system k below);
      inside = λ r k living there. two_enlisted t p priority q reader k (s.inside r k living there);
    }
