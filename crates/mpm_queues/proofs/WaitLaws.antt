-- Who waits after each call: only its own process, and the one whose wait it ends, come to wait or cease to. And who holds a
-- message.
use Rattle.std.proofs.Common.{◌≡◌, ◌≢◌, ◌∙◌, ℕ, ◌+◌, ◌<◌, Bool, true, false, not, cond, List, Option, Some, None, ◌&&◌, inl, inr, refl, sym, ap, subst, arith}
use Rattle.std.specs.Option.{option_map_or}
use Rattle.std.proofs.lemmas.Bool.{false≢true, cases_Bool, cases_eq, ne_eqb, or_cases}
use Rattle.mpm_base.specs.declared.number.Name8.{Name8}
use Rattle.mpm_ready.specs.Order.{Member, in_list}
use Rattle.mpm_ready.specs.Tables.{list_of, removed, IsTable, dequeued}
use Rattle.mpm_ready.proofs.TableLaws.{list_of_known, list_of_removed, list_of_removed_other, list_of_inserted, list_of_inserted_other}
use Rattle.mpm_ready.proofs.Circles.{slot_has}
use Rattle.mpm_procs.specs.Table.{Table}
use Rattle.mpm_queues.specs.Queue.{Queue, no_queue, is_drained, is_full, is_exclusive, held_by, shortened, read_by, with_message}
use Rattle.mpm_queues.specs.Queues.{Queues, IsMade, is_made, is_named, is_holder, holds, queue_in, readers_of, writers_of, waits_at, waits, WaitsAtNoQueue, made, may_end, without, without_queue, AreSoundQueues}
use Rattle.mpm_queues.specs.Handling.{first_reader, first_writer, written_by, let_in, delivered, message_read, read_outcome, message_written, write_outcome, woken_by, enlisted, queues_without_waiter, place_for}
use Rattle.mpm_queues.specs.declared.queues.QueueOutcome.TheVariants.{Done, NotNow}
use Rattle.mpm_queues.proofs.SoundLaws.{made_below, changed, queue_there, queue_else, reader_waits, writer_waits}

-- a process waits at one queue, or at none
abbrev pub one_at : Option ℕ → ℕ
one_at o = option_map_or (λ _. 1) o 0

pub waits_nowhere : (t : Queues) (p : ℕ) → WaitsAtNoQueue t p → waits t p ≡ 0
unfolding waits
waits_nowhere t p none = ap one_at none

-- who is at no list is at none
pub none_of : (o : Option ℕ) → one_at o ≡ 0 → o ≡ None
none_of None is = refl
none_of (Some list) is = absurd (omega (arith, is))

pub nowhere_waits : (t : Queues) (p : ℕ) → waits t p ≡ 0 → WaitsAtNoQueue t p
unfolding waits
nowhere_waits t p is = none_of (list_of t.waiters p) is

one_of : (t : Queues) (p list : ℕ) → list_of t.waiters p ≡ Some list → waits t p ≡ 1
unfolding waits
one_of t p list is = ap one_at is

-- who waits at a queue waits at one, has a number below 32, and waits at no other
pub waits_one : (t : Queues) (q p : ℕ) → AreSoundQueues t → waits_at t q p ≡ true → waits t p ≡ 1
waits_one t q p sound there = elim (or_cases (in_list p (readers_of t q)) (in_list p (writers_of t q)) there) [
  | inl reads ↦ one_of t p q (list_of_known t.waiters p q sound.table reads)
  | inr writes ↦ one_of t p (32 + q) (list_of_known t.waiters p (32 + q) sound.table writes)
]

pub waiter_below : (t : Queues) (q p : ℕ) → AreSoundQueues t → waits_at t q p ≡ true → p < 32
waiter_below t q p sound there = elim (or_cases (in_list p (readers_of t q)) (in_list p (writers_of t q)) there) [
  | inl reads ↦ slot_has (λ s. s < 32) (readers_of t q) p (sound.table.slots q) reads
  | inr writes ↦ slot_has (λ s. s < 32) (writers_of t q) p (sound.table.slots (32 + q)) writes
]

-- a process waits no more
pub waits_nowhere_without : (t : Queues) (p : ℕ) → WaitsAtNoQueue (queues_without_waiter t p) p
unfolding queues_without_waiter
waits_nowhere_without t p = list_of_removed t.waiters p

pub waits_elsewhere_without : (t : Queues) (p r : ℕ) → AreSoundQueues t → r ≢ p → list_of (queues_without_waiter t p).waiters r ≡ list_of t.waiters r
unfolding queues_without_waiter
waits_elsewhere_without t p r sound apart =
    list_of_removed_other t.waiters p r sound.table (ne_eqb p r (λ same. apart (sym same)))

same_place : (t new : Queues) (p : ℕ) → list_of new.waiters p ≡ list_of t.waiters p → waits new p ≡ waits t p
unfolding waits
same_place t new p same = ap one_at same

pub waits_without_waiter : (t : Queues) (p : ℕ) → waits (queues_without_waiter t p) p ≡ 0
waits_without_waiter t p = waits_nowhere (queues_without_waiter t p) p (waits_nowhere_without t p)

pub waits_without_other : (t : Queues) (p r : ℕ) → AreSoundQueues t → r ≢ p → waits (queues_without_waiter t p) r ≡ waits t r
waits_without_other t p r sound apart = same_place t (queues_without_waiter t p) r (waits_elsewhere_without t p r sound apart)

-- a process waits
place_below : (q : ℕ) (reader : Bool) → q < 32 → place_for q reader < 96
place_below q true below = omega arith
place_below q false below = omega arith

pub enlisted_there : (t : Queues) (p priority q : ℕ) (reader : Bool) → AreSoundQueues t → IsMade t q → p < 32 → WaitsAtNoQueue t p → list_of (enlisted t p priority q reader).waiters p ≡ Some (place_for q reader)
unfolding enlisted
enlisted_there t p priority q reader sound is small nowhere =
    list_of_inserted t.waiters (place_for q reader) (record { slot = p; priority = priority }) sound.table (place_below q reader (made_below t q sound is)) small nowhere

pub enlisted_other : (t : Queues) (p priority q : ℕ) (reader : Bool) (r : ℕ) → AreSoundQueues t → IsMade t q → p < 32 → WaitsAtNoQueue t p → r ≢ p → list_of (enlisted t p priority q reader).waiters r ≡ list_of t.waiters r
unfolding enlisted
enlisted_other t p priority q reader r sound is small nowhere apart =
    list_of_inserted_other t.waiters (place_for q reader) (record { slot = p; priority = priority }) r sound.table (place_below q reader (made_below t q sound is)) small nowhere (ne_eqb p r (λ same. apart (sym same)))

pub waits_enlisted : (t : Queues) (p priority q : ℕ) (reader : Bool) → AreSoundQueues t → IsMade t q → p < 32 → WaitsAtNoQueue t p → waits (enlisted t p priority q reader) p ≡ 1
waits_enlisted t p priority q reader sound is small nowhere =
    one_of (enlisted t p priority q reader) p _ (enlisted_there t p priority q reader sound is small nowhere)

pub waits_enlisted_other : (t : Queues) (p priority q : ℕ) (reader : Bool) (r : ℕ) → AreSoundQueues t → IsMade t q → p < 32 → WaitsAtNoQueue t p → r ≢ p → waits (enlisted t p priority q reader) r ≡ waits t r
waits_enlisted_other t p priority q reader r sound is small nowhere apart =
    same_place t (enlisted t p priority q reader) r (enlisted_other t p priority q reader r sound is small nowhere apart)

-- a queue is made or deleted: nobody comes to wait or ceases to
pub waiters_made : (t : Queues) (q : ℕ) (name : Name8) (width count : ℕ) → (made t q name width count).waiters ≡ t.waiters
unfolding made
waiters_made t q name width count = refl

waiters_chosen : (b : Bool) (t other : Queues) → other.waiters ≡ t.waiters → (cond b other t).waiters ≡ t.waiters
waiters_chosen true t other same = same
waiters_chosen false t other same = refl

pub waiters_delete : (t : Queues) (q : ℕ) → (without_queue t q).waiters ≡ t.waiters
unfolding without_queue without
waiters_delete t q = waiters_chosen (may_end t q) t (without t q) refl

-- a message is read or written: who was first waits no more, all others as before
read_at : (b : Bool) (t : Queues) (o : Option ℕ) (queues : List Queue) → (cond b t (record t { queues = queues; waiters = dequeued o t.waiters })).waiters ≡ dequeued (woken_by (cond b NotNow (Done o))) t.waiters
read_at true t o queues = refl
read_at false t o queues = refl

pub waiters_read : (t : Queues) (p q : ℕ) (procs : Table) → (message_read t p q procs).waiters ≡ dequeued (woken_by (read_outcome t q)) t.waiters
unfolding message_read read_outcome
waiters_read t p q procs = read_at (is_drained (queue_in t q)) t (first_writer t q) _

pub waiters_write : (t : Queues) (p q : ℕ) (procs : Table) → (message_written t p q procs).waiters ≡ dequeued (woken_by (write_outcome t q)) t.waiters
unfolding message_written write_outcome
waiters_write t p q procs = read_at (is_full (queue_in t q)) t (first_reader t q) _

dequeued_nowhere : (o : Option ℕ) (lists : List (List Member)) (w : ℕ) → o ≡ Some w → list_of (dequeued o lists) w ≡ None
dequeued_nowhere None lists w is = absurd (cc)
dequeued_nowhere (Some f) lists w is =
    let same : f ≡ w = cc in subst (λ (x : ℕ). list_of (removed lists f) x ≡ None) same (list_of_removed lists f)

dequeued_other : (o : Option ℕ) (lists : List (List Member)) (r : ℕ) → IsTable lists → o ≢ Some r → list_of (dequeued o lists) r ≡ list_of lists r
dequeued_other None lists r table apart = refl
dequeued_other (Some f) lists r table apart =
    list_of_removed_other lists f r table (ne_eqb f r (λ same. apart (ap (λ (x : ℕ). Some x) same)))

pub read_woken : (t : Queues) (p q : ℕ) (procs : Table) (w : ℕ) → woken_by (read_outcome t q) ≡ Some w → WaitsAtNoQueue (message_read t p q procs) w
read_woken t p q procs w is =
    ap (λ (ls : List (List Member)). list_of ls w) (waiters_read t p q procs) ∙ dequeued_nowhere (woken_by (read_outcome t q)) t.waiters w is

pub read_other : (t : Queues) (p q : ℕ) (procs : Table) (r : ℕ) → AreSoundQueues t → woken_by (read_outcome t q) ≢ Some r → list_of (message_read t p q procs).waiters r ≡ list_of t.waiters r
read_other t p q procs r sound apart =
    ap (λ (ls : List (List Member)). list_of ls r) (waiters_read t p q procs) ∙ dequeued_other (woken_by (read_outcome t q)) t.waiters r sound.table apart

pub write_woken : (t : Queues) (p q : ℕ) (procs : Table) (r : ℕ) → woken_by (write_outcome t q) ≡ Some r → WaitsAtNoQueue (message_written t p q procs) r
write_woken t p q procs r is =
    ap (λ (ls : List (List Member)). list_of ls r) (waiters_write t p q procs) ∙ dequeued_nowhere (woken_by (write_outcome t q)) t.waiters r is

pub write_other : (t : Queues) (p q : ℕ) (procs : Table) (r : ℕ) → AreSoundQueues t → woken_by (write_outcome t q) ≢ Some r → list_of (message_written t p q procs).waiters r ≡ list_of t.waiters r
write_other t p q procs r sound apart =
    ap (λ (ls : List (List Member)). list_of ls r) (waiters_write t p q procs) ∙ dequeued_other (woken_by (write_outcome t q)) t.waiters r sound.table apart

pub waits_read_woken : (t : Queues) (p q : ℕ) (procs : Table) (w : ℕ) → woken_by (read_outcome t q) ≡ Some w → waits (message_read t p q procs) w ≡ 0
waits_read_woken t p q procs w is = waits_nowhere (message_read t p q procs) w (read_woken t p q procs w is)

pub waits_read_other : (t : Queues) (p q : ℕ) (procs : Table) (r : ℕ) → AreSoundQueues t → woken_by (read_outcome t q) ≢ Some r → waits (message_read t p q procs) r ≡ waits t r
waits_read_other t p q procs r sound apart = same_place t (message_read t p q procs) r (read_other t p q procs r sound apart)

pub waits_write_woken : (t : Queues) (p q : ℕ) (procs : Table) (r : ℕ) → woken_by (write_outcome t q) ≡ Some r → waits (message_written t p q procs) r ≡ 0
waits_write_woken t p q procs r is = waits_nowhere (message_written t p q procs) r (write_woken t p q procs r is)

pub waits_write_other : (t : Queues) (p q : ℕ) (procs : Table) (r : ℕ) → AreSoundQueues t → woken_by (write_outcome t q) ≢ Some r → waits (message_written t p q procs) r ≡ waits t r
waits_write_other t p q procs r sound apart = same_place t (message_written t p q procs) r (write_other t p q procs r sound apart)

-- who was ended waited at that queue
woken_by_first : (b : Bool) (o : Option ℕ) (w : ℕ) → woken_by (cond b NotNow (Done o)) ≡ Some w → o ≡ Some w
woken_by_first true o w is = absurd (cc)
woken_by_first false o w is = is

pub read_ends_waiter : (t : Queues) (q w : ℕ) → woken_by (read_outcome t q) ≡ Some w → waits_at t q w ≡ true
unfolding read_outcome
read_ends_waiter t q w is = writer_waits t q w (woken_by_first (is_drained (queue_in t q)) (first_writer t q) w is)

pub write_ends_waiter : (t : Queues) (q r : ℕ) → woken_by (write_outcome t q) ≡ Some r → waits_at t q r ≡ true
unfolding write_outcome
write_ends_waiter t q r is = reader_waits t q r (woken_by_first (is_full (queue_in t q)) (first_reader t q) r is)

-- a number that is found names a queue
pub named_made : (t : Queues) (name : Name8) (q : ℕ) → is_named t name q ≡ true → IsMade t q
named_made t name q is = and_first (is_made t q) _ is
  where
    and_first : (a b : Bool) → (a && b) ≡ true → a ≡ true
    and_first true b h = refl
    and_first false b h = absurd (cc)

-- and so does one whose message is held
nobody_holds : (p : ℕ) → is_holder no_queue.holder p ≡ false
unfolding no_queue Rattle.mpm_queues.specs.Queue.new_queue
nobody_holds p = refl

pub holds_made : (t : Queues) (p q : ℕ) → AreSoundQueues t → holds t p q ≡ true → IsMade t q
holds_made t p q sound is = elim (cases_Bool (is_made t q)) [
  | inl there ↦ there
  | inr free ↦ absurd (false≢true (sym (nobody_holds p) ∙ ap (λ (x : Queue). is_holder x.holder p) (sym (sound.blank q free)) ∙ is))
]

-- the message of a mutual exclusion queue: who reads it holds it, unless a waiting writer's goes in
abbrev after_one : Queues → ℕ → Bool → Queue → List (List Member) → Queues
after_one t q b queue waiters = cond b t (changed t q queue waiters)

there_after : (t : Queues) (q : ℕ) (b : Bool) (queue : Queue) (waiters : List (List Member)) → AreSoundQueues t → IsMade t q → b ≡ false → queue_in (after_one t q b queue waiters) q ≡ queue
there_after t q true queue waiters sound is not = absurd (cc)
there_after t q false queue waiters sound is not = queue_there t q queue waiters sound is

let_in_holder : (procs : Table) (o : Option ℕ) (queue : Queue) → (let_in procs o queue).holder ≡ option_map_or (λ _. None) o queue.holder
unfolding with_message
let_in_holder procs None queue = refl
let_in_holder procs (Some w) queue = refl

read_holder : (p : ℕ) (queue : Queue) → (read_by p queue).holder ≡ cond (is_exclusive queue) (Some p) None
unfolding held_by shortened is_exclusive
read_holder p queue = refl

pub holder_read : (t : Queues) (p q : ℕ) (procs : Table) → AreSoundQueues t → IsMade t q → is_drained (queue_in t q) ≡ false → (queue_in (message_read t p q procs) q).holder ≡ option_map_or (λ _. None) (first_writer t q) (cond (is_exclusive (queue_in t q)) (Some p) None)
unfolding message_read
holder_read t p q procs sound is some =
    ap (λ (x : Queue). x.holder) (there_after t q (is_drained (queue_in t q)) _ (dequeued (first_writer t q) t.waiters) sound is some)
    ∙ let_in_holder procs (first_writer t q) (read_by p (queue_in t q))
    ∙ ap (λ (o : Option ℕ). option_map_or (λ _. None) (first_writer t q) o) (read_holder p (queue_in t q))

-- and a write makes it nobody's, or the waiting reader's that gets it
delivered_holder : (o : Option ℕ) (message : List ℕ) (queue : Queue) → (delivered o message queue).holder ≡ option_map_or (λ r. cond (is_exclusive queue) (Some r) None) o None
unfolding with_message held_by
delivered_holder None message queue = refl
delivered_holder (Some r) message queue = refl

pub holder_write : (t : Queues) (p q : ℕ) (procs : Table) → AreSoundQueues t → IsMade t q → is_full (queue_in t q) ≡ false → (queue_in (message_written t p q procs) q).holder ≡ option_map_or (λ r. cond (is_exclusive (queue_in t q)) (Some r) None) (first_reader t q) None
unfolding message_written
holder_write t p q procs sound is room =
    ap (λ (x : Queue). x.holder) (there_after t q (is_full (queue_in t q)) _ (dequeued (first_reader t q) t.waiters) sound is room)
    ∙ delivered_holder (first_reader t q) (written_by t q procs p) (queue_in t q)

-- other queues stay
else_after : (t : Queues) (q k : ℕ) (b : Bool) (queue : Queue) (waiters : List (List Member)) → k ≢ q → queue_in (after_one t q b queue waiters) k ≡ queue_in t k
else_after t q k true queue waiters apart = refl
else_after t q k false queue waiters apart = queue_else t q k queue waiters apart

pub write_else : (t : Queues) (p q k : ℕ) (procs : Table) → k ≢ q → queue_in (message_written t p q procs) k ≡ queue_in t k
unfolding message_written
write_else t p q k procs apart = else_after t q k (is_full (queue_in t q)) _ (dequeued (first_reader t q) t.waiters) apart

-- a queue keeps its name, the length of its messages, and how many it has room for
pub record IsKept (old new : Queue) : Type 0 where
  pub name : new.name ≡ old.name
  pub width : new.width ≡ old.width
  pub count : new.count ≡ old.count

kept_let_in : (p : ℕ) (procs : Table) (o : Option ℕ) (queue : Queue) → IsKept queue (let_in procs o (read_by p queue))
unfolding held_by shortened with_message
kept_let_in p procs None queue = record { name = refl; width = refl; count = refl }
kept_let_in p procs (Some w) queue = record { name = refl; width = refl; count = refl }

kept_delivered : (o : Option ℕ) (message : List ℕ) (queue : Queue) → IsKept queue (delivered o message queue)
unfolding held_by with_message
kept_delivered None message queue = record { name = refl; width = refl; count = refl }
kept_delivered (Some r) message queue = record { name = refl; width = refl; count = refl }

kept_same : (queue : Queue) → IsKept queue queue
kept_same queue = record { name = refl; width = refl; count = refl }

kept_after : (t : Queues) (q k : ℕ) (b : Bool) (queue : Queue) (waiters : List (List Member)) → AreSoundQueues t → IsMade t q → IsKept (queue_in t q) queue → IsKept (queue_in t k) (queue_in (after_one t q b queue waiters) k)
kept_after t q k true queue waiters sound is kept = kept_same (queue_in t k)
kept_after t q k false queue waiters sound is kept = elim (cases_eq k q) [
  | inl same ↦ subst (λ (j : ℕ). IsKept (queue_in t j) (queue_in (changed t q queue waiters) j)) (sym same) (subst (IsKept (queue_in t q)) (sym (queue_there t q queue waiters sound is)) kept)
  | inr apart ↦ subst (IsKept (queue_in t k)) (sym (queue_else t q k queue waiters apart)) (kept_same (queue_in t k))
]

pub kept_read : (t : Queues) (p q k : ℕ) (procs : Table) → AreSoundQueues t → IsMade t q → IsKept (queue_in t k) (queue_in (message_read t p q procs) k)
unfolding message_read
kept_read t p q k procs sound is =
    kept_after t q k (is_drained (queue_in t q)) _ (dequeued (first_writer t q) t.waiters) sound is (kept_let_in p procs (first_writer t q) (queue_in t q))

pub kept_write : (t : Queues) (p q k : ℕ) (procs : Table) → AreSoundQueues t → IsMade t q → IsKept (queue_in t k) (queue_in (message_written t p q procs) k)
unfolding message_written
kept_write t p q k procs sound is =
    kept_after t q k (is_full (queue_in t q)) _ (dequeued (first_reader t q) t.waiters) sound is (kept_delivered (first_reader t q) (written_by t q procs p) (queue_in t q))
