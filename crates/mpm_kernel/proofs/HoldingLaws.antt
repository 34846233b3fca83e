-- Who ended holds no message, and who didn't holds what it held.
use Rattle.std.proofs.Common.{◌≡◌, ◌≢◌, ◌∙◌, ℕ, zero, suc, ◌+◌, ◌<◌, ◌≤◌, Bool, true, false, cond, List, [], ◌∷◌, length, Option, Some, None, inl, inr, refl, sym, ap, arith}
use Rattle.std.specs.List.{range_with_len}
use Rattle.std.specs.Option.{option_map_or}
use Rattle.std.proofs.lemmas.Bool.{false≢true, cases_eq, cases_lt, false_from_ne_true}
use Rattle.std.proofs.lemmas.Bool.Decides.{nat_tests}
use Rattle.std.proofs.lemmas.Option.{same_Some}
use Rattle.mpm_base.proofs.Choices.{either}
use Rattle.mpm_procs.specs.Table.{Lives, process_in}
use Rattle.mpm_queues.specs.Queue.{is_full, is_exclusive}
use Rattle.mpm_queues.specs.Queues.{Queues, is_made, queue_in, is_holder, holds, waits, AreSoundQueues}
use Rattle.mpm_queues.specs.Handling.{queues_without_waiter, first_reader, write_outcome, woken_by}
use Rattle.mpm_queues.proofs.QueueLaws.{no_bytes}
use Rattle.mpm_queues.proofs.SoundLaws.{made_below, reader_waits}
use Rattle.mpm_queues.proofs.WaitLaws.{waits_one, holds_made, holder_write, write_else}
use Rattle.mpm_kernel.specs.Kernel.{Kernel, IsOfTwo, IsSoundKernel}
use Rattle.mpm_kernel.specs.Queueing.{given_to}
use Rattle.mpm_kernel.specs.Procedures.{outside, given_back_to, given_back}
use Rattle.mpm_kernel.specs.Ending.{dropped_out, returned, all_returned, relieved, discharged, IsLeaving}
use Rattle.mpm_kernel.proofs.QueueingLaws.{two_width}
use Rattle.mpm_kernel.proofs.QueueCalls.{queues_with_other}
use Rattle.mpm_kernel.proofs.EndingLaws.{sound_dropped, lives_dropped, leaves_given_back, leaves_returned, leaves_messages, leaves_relieved}
use Rattle.mpm_kernel.proofs.LeavingLaws.{left_units}

-- a queue whose message is held has room for it
holder_is : (o : Option ℕ) (p : ℕ) → is_holder o p ≡ true → o ≡ Some p
holder_is None p e = absurd (cc)
holder_is (Some other) p e = grind (arith, nat_tests, e)

room_where_held : (t : Queues) (p q : ℕ) → AreSoundQueues t → holds t p q ≡ true → is_full (queue_in t q) ≡ false
room_where_held t p q s held =
    let none = ap (λ (ms : List (List ℕ)). length ms) ((s.proper q).away p (holder_is (queue_in t q).holder p held)) in
    let some = s.some q (holds_made t p q s held) in
    grind (arith, nat_tests, none, some)

-- it goes back, and is nobody's or another's
other_holder : (b : Bool) (o : Option ℕ) (p : ℕ) → ((r : ℕ) → o ≡ Some r → r ≢ p) → is_holder (option_map_or (λ r. cond b (Some r) None) o None) p ≡ false
other_holder b None p apart = refl
other_holder true (Some r) p apart = (let other = apart r refl in grind (arith, nat_tests, other))
other_holder false (Some r) p apart = refl

reader_apart : (p q r : ℕ) (kernel : Kernel) → IsLeaving p kernel → first_reader kernel.queues q ≡ Some r → r ≢ p
reader_apart p q r kernel l first = λ same.
    let t = kernel.queues in
    omega (arith, waits_one t q r l.sound.queues (reader_waits t q r first), ap (waits t) same, l.nowhere)

held_no_more : (p q : ℕ) (kernel : Kernel) → IsLeaving p kernel → holds kernel.queues p q ≡ true → holds (given_back_to (Some q) p kernel).queues p q ≡ false
unfolding given_back_to
held_no_more p q kernel l held =
    let t = kernel.queues in
    let made = holds_made t p q l.sound.queues held in
    either (λ (k : Kernel). holds k.queues p q ≡ false) (is_made t q) _ _
    (λ _.
    ap (λ (queues : Queues). holds queues p q) (queues_with_other (woken_by (write_outcome t q)) (given_to kernel p q))
    ∙ ap (λ (o : Option ℕ). is_holder o p) (holder_write t p q kernel.dispatcher.procs l.sound.queues made (room_where_held t p q l.sound.queues held))
    ∙ other_holder (is_exclusive (queue_in t q)) (first_reader t q) p (λ r first. reader_apart p q r kernel l first))
    (λ free. absurd (false≢true (sym free ∙ made)))

-- those of other queues stay
held_elsewhere : (p q holder k : ℕ) (kernel : Kernel) → k ≢ q → holds (given_back_to (Some q) p kernel).queues holder k ≡ holds kernel.queues holder k
unfolding given_back_to
held_elsewhere p q holder k kernel other =
    let t = kernel.queues in
    either (λ (k' : Kernel). holds k'.queues holder k ≡ holds kernel.queues holder k) (is_made t q) _ _
    (λ _. ap (λ (queues : Queues). holds queues holder k) (queues_with_other (woken_by (write_outcome t q)) (given_to kernel p q))
    ∙ ap (λ x. is_holder x.holder holder) (write_else t p q k kernel.dispatcher.procs other))
    (λ _. refl)

-- after each number, and after all
own_gone : (p q : ℕ) (kernel : Kernel) → IsLeaving p kernel → holds (returned p q kernel).queues p q ≡ false
unfolding returned
own_gone p q kernel l = either (λ (k : Kernel). holds k.queues p q ≡ false) (holds kernel.queues p q) _ _ (λ held. held_no_more p q kernel l held) (λ free. free)

stays_gone : (p q k : ℕ) (kernel : Kernel) → holds kernel.queues p k ≡ false → holds (returned p q kernel).queues p k ≡ false
unfolding returned
stays_gone p q k kernel none =
    either (λ (k' : Kernel). holds k'.queues p k ≡ false) (holds kernel.queues p q) _ _
    (λ held. held_elsewhere p q p k kernel (λ same. false≢true (sym none ∙ ap (holds kernel.queues p) same ∙ held)) ∙ none) (λ _. none)

all_stay_gone : (qs : List ℕ) (p k : ℕ) (kernel : Kernel) → holds kernel.queues p k ≡ false → holds (all_returned qs p kernel).queues p k ≡ false
unfolding all_returned
all_stay_gone [] p k kernel none = none
all_stay_gone (q ∷ qs) p k kernel none = all_stay_gone qs p k (returned p q kernel) (stays_gone p q k kernel none)

all_gone : (n a p k : ℕ) (kernel : Kernel) → IsLeaving p kernel → a ≤ k → k < a + n → holds (all_returned (range_with_len a n) p kernel).queues p k ≡ false
unfolding all_returned
all_gone zero a p k kernel l from below = absurd (omega (arith, from, below))
all_gone (suc n) a p k kernel l from below = elim (cases_eq k a) [
  | inl same ↦
      all_stay_gone (range_with_len (a + 1) n) p k (returned p a kernel)
      (ap (λ (j : ℕ). holds (returned p a kernel).queues p j) same ∙ own_gone p a kernel l)
  | inr other ↦ all_gone n (a + 1) p k (returned p a kernel) (leaves_returned p a kernel l) (omega (arith, from, other)) (omega (arith, below))
]

relieved_gone : (p k : ℕ) (kernel : Kernel) → IsSoundKernel kernel → Lives kernel.dispatcher.procs p → k < 32 → holds (relieved p kernel).queues p k ≡ false
unfolding relieved
relieved_gone p k kernel s h below =
    ap (λ (queues : Queues). holds queues p k) (left_units p _ (leaves_messages p kernel s h).sound).queues
    ∙ all_gone 32 0 p k _ (leaves_given_back p kernel s h) (omega arith) (omega (arith, below))

pub nothing_held : (kernel : Kernel) (p q : ℕ) → IsSoundKernel kernel → Lives kernel.dispatcher.procs p → holds (discharged kernel p).queues p q ≡ false
unfolding discharged
nothing_held kernel p q s h = elim (cases_lt q 32) [
  | inl below ↦ relieved_gone p q kernel s h below
  | inr past ↦
      let sound = (leaves_relieved p kernel s h).sound.queues in
      let t = (relieved p kernel).queues in
      false_from_ne_true (holds t p q) (λ held. omega (arith, past, made_below t q sound (holds_made t p q sound held)))
]

-- the message of a mutual exclusion queue has no bytes, so that no procedure has one
held_apart : (t : Queues) (holder q other : ℕ) → AreSoundQueues t → holds t holder q ≡ true → IsOfTwo t other → q ≢ other
held_apart t holder q other s held two = λ same.
    let none = no_bytes (queue_in t q) ((s.proper q).exclusive holder (holder_is (queue_in t q).holder holder held)) in
    omega (arith, none, ap (λ n. (queue_in t n).width) same, two_width t other two)

one_holder : (o : Option ℕ) (p holder : ℕ) → is_holder o p ≡ true → is_holder o holder ≡ true → holder ≡ p
one_holder o p holder own held = same_Some holder p (sym (holder_is o holder held) ∙ holder_is o p own)

-- who holds a message still does where another one drops out, and gives its own back
holds_dropped : (p holder q : ℕ) (kernel : Kernel) → holds (dropped_out p kernel).queues holder q ≡ holds kernel.queues holder q
unfolding dropped_out queues_without_waiter
holds_dropped p holder q kernel = refl

holds_outside : (p holder q : ℕ) (kernel : Kernel) → holds (outside p kernel).queues holder q ≡ holds kernel.queues holder q
unfolding outside
holds_outside p holder q kernel = refl

still_given : (queue : Option ℕ) (p holder q : ℕ) (kernel : Kernel) → ((other : ℕ) → queue ≡ Some other → q ≢ other)
    → holds (given_back_to queue p kernel).queues holder q ≡ holds kernel.queues holder q
unfolding given_back_to
still_given None p holder q kernel apart = refl
still_given (Some other) p holder q kernel apart = held_elsewhere p other holder q kernel (apart other refl)

still_given_back : (p holder q : ℕ) (kernel : Kernel) → IsSoundKernel kernel → Lives kernel.dispatcher.procs p → holds kernel.queues holder q ≡ true
    → holds (given_back p kernel).queues holder q ≡ true
unfolding given_back
still_given_back p holder q kernel s h held =
    still_given (process_in kernel.dispatcher.procs p).procedure p holder q (outside p kernel)
    (λ other is. held_apart kernel.queues holder q other s.queues held (s.inside p other h is))
    ∙ holds_outside p holder q kernel ∙ held

still_returned : (p other holder q : ℕ) (kernel : Kernel) → holder ≢ p → holds kernel.queues holder q ≡ true → holds (returned p other kernel).queues holder q ≡ true
unfolding returned
still_returned p other holder q kernel apart held =
    either (λ (k : Kernel). holds k.queues holder q ≡ true) (holds kernel.queues p other) _ _
    (λ own.
    let elsewhere : q ≢ other = λ same.
    apart (one_holder (queue_in kernel.queues other).holder p holder own (ap (holds kernel.queues holder) (sym same) ∙ held)) in
    held_elsewhere p other holder q kernel elsewhere ∙ held)
    (λ _. held)

all_still_returned : (qs : List ℕ) (p holder q : ℕ) (kernel : Kernel) → holder ≢ p → holds kernel.queues holder q ≡ true
    → holds (all_returned qs p kernel).queues holder q ≡ true
unfolding all_returned
all_still_returned [] p holder q kernel apart held = held
all_still_returned (other ∷ qs) p holder q kernel apart held =
    all_still_returned qs p holder q (returned p other kernel) apart (still_returned p other holder q kernel apart held)

still_relieved : (p holder q : ℕ) (kernel : Kernel) → IsSoundKernel kernel → Lives kernel.dispatcher.procs p → holder ≢ p → holds kernel.queues holder q ≡ true
    → holds (relieved p kernel).queues holder q ≡ true
unfolding relieved
still_relieved p holder q kernel s h apart held =
    let gone = dropped_out p kernel in
    ap (λ (queues : Queues). holds queues holder q) (left_units p _ (leaves_messages p kernel s h).sound).queues
    ∙ all_still_returned (range_with_len 0 32) p holder q (given_back p gone) apart
    (still_given_back p holder q gone (sound_dropped p kernel s h) (lives_dropped p p kernel h) (holds_dropped p holder q kernel ∙ held))

pub still_held : (kernel : Kernel) (p holder q : ℕ) → IsSoundKernel kernel → Lives kernel.dispatcher.procs p → holder ≢ p → holds kernel.queues holder q ≡ true
    → holds (discharged kernel p).queues holder q ≡ true
unfolding discharged
still_held kernel p holder q s h apart held = still_relieved p holder q kernel s h apart held
