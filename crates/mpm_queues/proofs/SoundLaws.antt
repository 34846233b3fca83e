-- What is so of the queues stays so after each call.
use Rattle.std.proofs.Common.{◌≡◌, ◌≢◌, ◌∙◌, ℕ, ◌+◌, ◌*◌, ◌<◌, ◌≤◌, ◌⊎◌, inl, inr, Bool, true, false, cond, List, [], ◌∷◌, Option, Some, None, ◌&&◌, ◌||◌, ◌==◌, length, get_or, replicate, refl, sym, ap, subst, arith}
use Rattle.std.proofs.Math.Bool.{or-false}
use Rattle.std.specs.Prelude.{bytes_eq, slice_set, is_none}
use Rattle.std.proofs.lemmas.Bool.{false≢true, cases_Bool, cases_eq, cases_lt, eqb-true, and_parts, not-true}
use Rattle.std.proofs.lemmas.List.{get_or-set_same, get_or-set_other, get_or_default, get_or_past, length-replicate, length-set}
use Rattle.std.proofs.lemmas.Slice.Eq.{bytes_eq-Decides}
use Rattle.mpm_queues.proofs.Finding.{lowest_passes, lowest_none}
use Rattle.mpm_base.specs.declared.number.Name8.{Name8}
use Rattle.mpm_base.proofs.Lists.{all_at}
use Rattle.mpm_ready.specs.Order.{Member, first_of, in_list}
use Rattle.mpm_ready.specs.Tables.{list_at, list_of, no_lists, inserted, removed, IsTable, dequeued}
use Rattle.mpm_ready.proofs.TableLaws.{still_listed, in_list_inserted, table_removed, table_inserted, table_none, list_at_none, none_in_none}
use Rattle.mpm_ready.proofs.OrderLaws.{first_is_in}
use Rattle.mpm_procs.specs.Table.{Table, call_of}
use Rattle.mpm_queues.specs.Queue.{Queue, new_queue, no_queue, is_drained, is_full, first_message, held_by, read_by, with_message, message_of, IsProperQueue}
use Rattle.mpm_queues.specs.Queues.{Queues, waits_at, IsMade, is_made, is_free, is_named, found, lowest_free, queue_in, readers_of, writers_of, no_queues, made, may_end, without, without_queue, AreSoundQueues}
use Rattle.mpm_queues.specs.Handling.{let_in, delivered, first_reader, first_writer, message_read, message_written, written_by, read_by_waiter, delivered_to, procs_after_write, queues_without_waiter, enlisted, must_wait}
use Rattle.mpm_queues.proofs.QueueLaws.{length_message, proper_none, proper_new, new_count, new_name, proper_read, proper_held, proper_written, room_after, full_again, read_at_once, first_written}

-- a number that names a queue is below 32
pub made_below : (t : Queues) (q : ℕ) → AreSoundQueues t → IsMade t q → q < 32
made_below t q sound is = elim (cases_lt q 32) [
  | inl below ↦ below
  | inr past ↦ absurd (false≢true (sym (get_or_past t.alive q false (omega (arith, sound.alive))) ∙ is))
]

-- the waiters without one
pub in_dequeued : (o : Option ℕ) (lists : List (List Member)) (p k : ℕ) → in_list p (list_at (dequeued o lists) k) ≡ true → in_list p (list_at lists k) ≡ true
in_dequeued None lists p k there = there
in_dequeued (Some w) lists p k there = still_listed lists w p k there

pub table_dequeued : (o : Option ℕ) (lists : List (List Member)) → IsTable lists → IsTable (dequeued o lists)
table_dequeued None lists table = table
table_dequeued (Some w) lists table = table_removed lists w table

-- where nobody is first, nobody waits
pub nobody_there : (ms : List Member) (p : ℕ) → first_of ms ≡ None → in_list p ms ≡ false
unfolding first_of
nobody_there [] p none = none_in_none p
nobody_there (m ∷ ms) p none = absurd (cc)

-- one queue changed, and some waiters gone
pub record IsChange (t : Queues) (q : ℕ) (queue : Queue) (waiters : List (List Member)) : Type 0 where
  pub proper : IsProperQueue queue
  pub some : 1 ≤ queue.count
  pub name : queue.name ≡ (queue_in t q).name
  pub table : IsTable waiters
  pub fewer : (p k : ℕ) → in_list p (list_at waiters k) ≡ true → in_list p (list_at t.waiters k) ≡ true
  pub readers : (p : ℕ) → in_list p (list_at waiters q) ≡ true → is_drained queue ≡ true
  pub writers : (p : ℕ) → in_list p (list_at waiters (32 + q)) ≡ true → is_full queue ≡ true

abbrev pub changed : Queues → ℕ → Queue → List (List Member) → Queues
changed t q queue waiters = record { alive = t.alive; queues = slice_set t.queues q queue; waiters = waiters }

pub queue_there : (t : Queues) (q : ℕ) (queue : Queue) (waiters : List (List Member)) → AreSoundQueues t → IsMade t q → queue_in (changed t q queue waiters) q ≡ queue
queue_there t q queue waiters sound is =
    let below = made_below t q sound is in get_or-set_same t.queues q queue no_queue (omega (arith, sound.queues))

pub queue_else : (t : Queues) (q other : ℕ) (queue : Queue) (waiters : List (List Member)) → other ≢ q → queue_in (changed t q queue waiters) other ≡ queue_in t other
queue_else t q other queue waiters apart = get_or-set_other t.queues q other queue no_queue apart

-- what is so of the changed queue and of each other one is so of all
each_queue : (P : ℕ → Queue → Type 0) (t : Queues) (q : ℕ) (queue : Queue) (waiters : List (List Member)) → AreSoundQueues t → IsMade t q → P q queue → ((k : ℕ) → k ≢ q → P k (queue_in t k)) → (k : ℕ) → P k (queue_in (changed t q queue waiters) k)
each_queue P t q queue waiters sound is here others k = elim (cases_eq k q) [
  | inl same ↦ subst (λ (j : ℕ). P j (queue_in (changed t q queue waiters) j)) (sym same) (subst (P q) (sym (queue_there t q queue waiters sound is)) here)
  | inr apart ↦ subst (P k) (sym (queue_else t q k queue waiters apart)) (others k apart)
]

names_kept : (t : Queues) (q : ℕ) (queue : Queue) (waiters : List (List Member)) → AreSoundQueues t → IsMade t q → queue.name ≡ (queue_in t q).name → (k : ℕ) → (queue_in (changed t q queue waiters) k).name ≡ (queue_in t k).name
names_kept t q queue waiters sound is same k =
    each_queue (λ j x. x.name ≡ (queue_in t j).name) t q queue waiters sound is same (λ j apart. refl) k

pub sound_changed : (t : Queues) (q : ℕ) (queue : Queue) (waiters : List (List Member)) → AreSoundQueues t → IsMade t q → IsChange t q queue waiters → AreSoundQueues (changed t q queue waiters)
sound_changed t q queue waiters sound is change = record {
  alive = sound.alive;
  queues = length-set t.queues q queue ∙ sound.queues;
  table = change.table;
  blank = λ k dead. elim (cases_eq k q) [
    | inl same ↦ absurd (false≢true (sym dead ∙ ap (is_made t) same ∙ is))
    | inr apart ↦ queue_else t q k queue waiters apart ∙ sound.blank k dead
  ];
  proper = each_queue (λ k x. IsProperQueue x) t q queue waiters sound is change.proper (λ k apart. sound.proper k);
  some = each_queue (λ k x. IsMade t k → 1 ≤ x.count) t q queue waiters sound is (λ live. change.some) (λ k apart. sound.some k);
  names = λ a b live alive same. sound.names a b live alive (sym (names_kept t q queue waiters sound is change.name a) ∙ same ∙ names_kept t q queue waiters sound is change.name b);
  readers = λ k p below there. (((sound.readers k p below (change.fewer p k there)).0), each_queue (λ j x. in_list p (list_at waiters j) ≡ true → j < 32 → is_drained x ≡ true) t q queue waiters sound is (λ h low. change.readers p h) (λ j apart h low. (sound.readers j p low (change.fewer p j h)).1) k there below);
  writers = λ k p below there. (((sound.writers k p below (change.fewer p (32 + k) there)).0), each_queue (λ j x. in_list p (list_at waiters (32 + j)) ≡ true → j < 32 → is_full x ≡ true) t q queue waiters sound is (λ h low. change.writers p h) (λ j apart h low. (sound.writers j p low (change.fewer p (32 + j) h)).1) k there below);
}

-- a message read
proper_let_in : (procs : Table) (o : Option ℕ) (queue : Queue) → IsProperQueue queue → is_full queue ≡ false → IsProperQueue (let_in procs o queue)
proper_let_in procs None queue proper room = proper
proper_let_in procs (Some w) queue proper room =
    proper_written queue (message_of queue.width (call_of procs w)) proper room (length_message queue.width (call_of procs w))

let_in_keeps : (procs : Table) (o : Option ℕ) (queue : Queue) → ((let_in procs o queue).name ≡ queue.name) × ((let_in procs o queue).count ≡ queue.count)
unfolding with_message
let_in_keeps procs None queue = (refl, refl)
let_in_keeps procs (Some w) queue = (refl, refl)

read_keeps : (p : ℕ) (queue : Queue) → ((read_by p queue).name ≡ queue.name) × ((read_by p queue).count ≡ queue.count)
unfolding Rattle.mpm_queues.specs.Queue.held_by Rattle.mpm_queues.specs.Queue.shortened
read_keeps p queue = (refl, refl)

writers_full : (t : Queues) (p q : ℕ) (procs : Table) (o : Option ℕ) → AreSoundQueues t → IsMade t q → is_drained (queue_in t q) ≡ false → first_writer t q ≡ o → (w : ℕ) → in_list w (list_at (dequeued o t.waiters) (32 + q)) ≡ true → is_full (let_in procs o (read_by p (queue_in t q))) ≡ true
writers_full t p q procs None sound is some first w there =
    absurd (false≢true (sym (nobody_there (writers_of t q) w first) ∙ there))
writers_full t p q procs (Some f) sound is some first w there =
    let was = in_dequeued (Some f) t.waiters w (32 + q) there in
    full_again (queue_in t q) p _ some (sound.writers q w (made_below t q sound is) was).1

pub read_changes : (t : Queues) (p q : ℕ) (procs : Table) → AreSoundQueues t → IsMade t q → is_drained (queue_in t q) ≡ false → IsChange t q (let_in procs (first_writer t q) (read_by p (queue_in t q))) (dequeued (first_writer t q) t.waiters)
read_changes t p q procs sound is some =
    let o = first_writer t q in
    let read = read_by p (queue_in t q) in
    let kept = let_in_keeps procs o read in
    let same = read_keeps p (queue_in t q) in
    record {
      proper = proper_let_in procs o read (proper_read (queue_in t q) p (sound.proper q)) (room_after (queue_in t q) p (sound.proper q) some);
      some = subst (λ (n : ℕ). 1 ≤ n) (sym (kept.1 ∙ same.1)) (sound.some q is);
      name = kept.0 ∙ same.0;
      table = table_dequeued o t.waiters sound.table;
      fewer = λ r k there. in_dequeued o t.waiters r k there;
      readers = λ r there. absurd (false≢true (sym some ∙ (sound.readers q r (made_below t q sound is) (in_dequeued o t.waiters r q there)).1));
      writers = writers_full t p q procs o sound is some refl;
    }

-- a message written
proper_delivered : (o : Option ℕ) (message : List ℕ) (queue : Queue) → IsProperQueue queue → is_full queue ≡ false → length message ≡ queue.width → ((r : ℕ) → o ≡ Some r → is_drained queue ≡ true) → IsProperQueue (delivered o message queue)
proper_delivered None message queue proper room size empty = proper_written queue message proper room size
proper_delivered (Some r) message queue proper room size empty = proper_held queue r proper (empty r refl)

delivered_keeps : (o : Option ℕ) (message : List ℕ) (queue : Queue) → ((delivered o message queue).name ≡ queue.name) × ((delivered o message queue).count ≡ queue.count)
unfolding with_message held_by
delivered_keeps None message queue = (refl, refl)
delivered_keeps (Some r) message queue = (refl, refl)

pub reader_drained : (t : Queues) (q r : ℕ) → AreSoundQueues t → IsMade t q → first_reader t q ≡ Some r → is_drained (queue_in t q) ≡ true
reader_drained t q r sound is first =
    (sound.readers q r (made_below t q sound is) (first_is_in (readers_of t q) r first)).1

readers_drained : (t : Queues) (q : ℕ) (message : List ℕ) (o : Option ℕ) → AreSoundQueues t → IsMade t q → first_reader t q ≡ o → (r : ℕ) → in_list r (list_at (dequeued o t.waiters) q) ≡ true → is_drained (delivered o message (queue_in t q)) ≡ true
unfolding held_by
readers_drained t q message None sound is first r there =
    absurd (false≢true (sym (nobody_there (readers_of t q) r first) ∙ there))
readers_drained t q message (Some f) sound is first r there = reader_drained t q f sound is first

pub write_changes : (t : Queues) (q : ℕ) (message : List ℕ) → AreSoundQueues t → IsMade t q → is_full (queue_in t q) ≡ false → length message ≡ (queue_in t q).width → IsChange t q (delivered (first_reader t q) message (queue_in t q)) (dequeued (first_reader t q) t.waiters)
write_changes t q message sound is room size =
    let o = first_reader t q in
    let same = delivered_keeps o message (queue_in t q) in
    record {
      proper = proper_delivered o message (queue_in t q) (sound.proper q) room size (λ r first. reader_drained t q r sound is first);
      some = subst (λ (n : ℕ). 1 ≤ n) (sym same.1) (sound.some q is);
      name = same.0;
      table = table_dequeued o t.waiters sound.table;
      fewer = λ r k there. in_dequeued o t.waiters r k there;
      readers = readers_drained t q message o sound is refl;
      writers = λ w there. absurd (false≢true (sym room ∙ (sound.writers q w (made_below t q sound is) (in_dequeued o t.waiters w (32 + q) there)).1));
    }

-- after the calls
pub sound_read : (t : Queues) (p q : ℕ) (procs : Table) → AreSoundQueues t → IsMade t q → AreSoundQueues (message_read t p q procs)
unfolding message_read
sound_read t p q procs sound is = elim (cases_Bool (is_drained (queue_in t q))) [
  | inl none ↦ subst AreSoundQueues (sym (ap (λ (b : Bool). cond b t (changed t q (let_in procs (first_writer t q) (read_by p (queue_in t q))) (dequeued (first_writer t q) t.waiters))) none)) sound
  | inr some ↦ subst AreSoundQueues (sym (ap (λ (b : Bool). cond b t (changed t q (let_in procs (first_writer t q) (read_by p (queue_in t q))) (dequeued (first_writer t q) t.waiters))) some)) (sound_changed t q _ _ sound is (read_changes t p q procs sound is some))
]

pub sound_write : (t : Queues) (p q : ℕ) (procs : Table) → AreSoundQueues t → IsMade t q → AreSoundQueues (message_written t p q procs)
unfolding message_written
sound_write t p q procs sound is = elim (cases_Bool (is_full (queue_in t q))) [
  | inl full ↦ subst AreSoundQueues (sym (ap (λ (b : Bool). cond b t (changed t q (delivered (first_reader t q) (written_by t q procs p) (queue_in t q)) (dequeued (first_reader t q) t.waiters))) full)) sound
  | inr room ↦ subst AreSoundQueues (sym (ap (λ (b : Bool). cond b t (changed t q (delivered (first_reader t q) (written_by t q procs p) (queue_in t q)) (dequeued (first_reader t q) t.waiters))) room)) (sound_changed t q _ _ sound is (write_changes t q _ sound is room (length_message _ _)))
]

-- the first of those who wait waits
pub writer_waits : (t : Queues) (q w : ℕ) → first_writer t q ≡ Some w → waits_at t q w ≡ true
writer_waits t q w first =
    ap (λ (b : Bool). in_list w (readers_of t q) || b) (first_is_in (writers_of t q) w first) ∙ or_true (in_list w (readers_of t q))
  where
    or_true : (b : Bool) → (b || true) ≡ true
    or_true true = refl
    or_true false = refl

pub reader_waits : (t : Queues) (q r : ℕ) → first_reader t q ≡ Some r → waits_at t q r ≡ true
reader_waits t q r first = ap (λ (b : Bool). b || in_list r (writers_of t q)) (first_is_in (readers_of t q) r first)

-- the queue that was picked by its number
pub picked : (t : Queues) (q k : ℕ) (queue : Queue) → AreSoundQueues t → IsMade t q → k ≡ q → queue ≡ get_or t.queues k queue → queue ≡ queue_in t q
picked t q k queue sound is same value =
    let below = made_below t q sound is in
    value ∙ ap (λ (j : ℕ). get_or t.queues j queue) same ∙ get_or_default t.queues q queue no_queue (omega (arith, sound.queues))

-- a change as the code makes it
same_change : (t : Queues) (k q : ℕ) (store queue : Queue) (waiters left : List (List Member)) → k ≡ q → store ≡ queue → waiters ≡ left → changed t k store waiters ≡ changed t q queue left
same_change t k q store queue waiters left number same less =
    ap (λ (j : ℕ). changed t j store waiters) number ∙ ap (λ (x : Queue). changed t q x waiters) same ∙ ap (λ (ws : List (List Member)). changed t q queue ws) less

-- the parts of a read: the queue was picked and read, and a writer let in
pub record IsRead (t : Queues) (p q k : ℕ) (procs : Table) (queue afterwards store : Queue) (other : Option ℕ) (left : List (List Member)) : Type 0 where
  pub number : k ≡ q
  pub value : queue ≡ get_or t.queues k queue
  pub some : is_drained queue ≡ false
  pub reading : afterwards ≡ read_by p queue
  pub first : other ≡ first_writer t q
  pub letting : store ≡ let_in procs other afterwards
  pub leaving : left ≡ dequeued other t.waiters

pub sound_read_parts : (t : Queues) (p q k : ℕ) (procs : Table) (queue afterwards store : Queue) (other : Option ℕ) (left : List (List Member)) → AreSoundQueues t → IsMade t q → IsRead t p q k procs queue afterwards store other left → AreSoundQueues (changed t k store left)
sound_read_parts t p q k procs queue afterwards store other left sound is parts =
    let it = picked t q k queue sound is parts.number parts.value in
    let some = ap is_drained (sym it) ∙ parts.some in
    let after : store ≡ let_in procs (first_writer t q) (read_by p (queue_in t q)) = parts.letting ∙ ap (λ (o : Option ℕ). let_in procs o afterwards) parts.first ∙ ap (let_in procs (first_writer t q)) (parts.reading ∙ ap (read_by p) it) in
    let less = parts.leaving ∙ ap (λ (o : Option ℕ). dequeued o t.waiters) parts.first in
    subst AreSoundQueues (sym (same_change t k q store _ left _ parts.number after less)) (sound_changed t q _ _ sound is (read_changes t p q procs sound is some))

-- the parts of a write: the message was added, and handed to a reader
pub record IsWritten (t : Queues) (p q k : ℕ) (procs new : Table) (queue afterwards store : Queue) (other : Option ℕ) (left : List (List Member)) : Type 0 where
  pub number : k ≡ q
  pub value : queue ≡ get_or t.queues k queue
  pub room : is_full queue ≡ false
  pub adding : afterwards ≡ with_message (message_of queue.width (call_of procs p)) queue
  pub first : other ≡ first_reader t q
  pub taking : store ≡ read_by_waiter other afterwards
  pub telling : new ≡ delivered_to other (first_message afterwards) procs
  pub leaving : left ≡ dequeued other t.waiters

delivered_is : (o : Option ℕ) (message : List ℕ) (queue : Queue) → ((r : ℕ) → o ≡ Some r → is_drained queue ≡ true) → read_by_waiter o (with_message message queue) ≡ delivered o message queue
delivered_is None message queue none = refl
delivered_is (Some r) message queue none = read_at_once queue r message (none r refl)

delivered_to_is : (o : Option ℕ) (message : List ℕ) (queue : Queue) (procs : Table) → ((r : ℕ) → o ≡ Some r → is_drained queue ≡ true) → delivered_to o (first_message (with_message message queue)) procs ≡ delivered_to o message procs
delivered_to_is None message queue procs none = refl
delivered_to_is (Some r) message queue procs none =
    ap (λ (m : List ℕ). delivered_to (Some r) m procs) (first_written queue message (none r refl))

pub write_is_change : (t : Queues) (p q k : ℕ) (procs new : Table) (queue afterwards store : Queue) (other : Option ℕ) (left : List (List Member)) → AreSoundQueues t → IsMade t q → IsWritten t p q k procs new queue afterwards store other left → (is_full (queue_in t q) ≡ false) × (changed t k store left ≡ changed t q (delivered (first_reader t q) (written_by t q procs p) (queue_in t q)) (dequeued (first_reader t q) t.waiters)) × (new ≡ delivered_to (first_reader t q) (written_by t q procs p) procs)
write_is_change t p q k procs new queue afterwards store other left sound is parts =
    let it = picked t q k queue sound is parts.number parts.value in
    let message = written_by t q procs p in
    let o = first_reader t q in
    let none = λ (r : ℕ) (first : o ≡ Some r). reader_drained t q r sound is first in
    let added : afterwards ≡ with_message message (queue_in t q) = parts.adding ∙ ap (λ (x : Queue). with_message (message_of x.width (call_of procs p)) x) it in
    let after : store ≡ delivered o message (queue_in t q) = parts.taking ∙ ap (λ (f : Option ℕ). read_by_waiter f afterwards) parts.first ∙ ap (read_by_waiter o) added ∙ delivered_is o message (queue_in t q) none in
    let less = parts.leaving ∙ ap (λ (f : Option ℕ). dequeued f t.waiters) parts.first in (
      ap is_full (sym it) ∙ parts.room,
      same_change t k q store _ left _ parts.number after less,
      parts.telling ∙ ap (λ (f : Option ℕ). delivered_to f (first_message afterwards) procs) parts.first ∙ ap (λ (x : Queue). delivered_to o (first_message x) procs) added ∙ delivered_to_is o message (queue_in t q) procs none,
    )

pub sound_write_parts : (t : Queues) (p q k : ℕ) (procs new : Table) (queue afterwards store : Queue) (other : Option ℕ) (left : List (List Member)) → AreSoundQueues t → IsMade t q → IsWritten t p q k procs new queue afterwards store other left → AreSoundQueues (changed t k store left)
sound_write_parts t p q k procs new queue afterwards store other left sound is parts =
    let all = write_is_change t p q k procs new queue afterwards store other left sound is parts in
    subst AreSoundQueues (sym all.1) (sound_changed t q _ _ sound is (write_changes t q _ sound is all.0 (length_message _ _)))

pub write_parts : (t : Queues) (p q k : ℕ) (procs new : Table) (queue afterwards store : Queue) (other : Option ℕ) (left : List (List Member)) → AreSoundQueues t → IsMade t q → IsWritten t p q k procs new queue afterwards store other left → (changed t k store left ≡ message_written t p q procs) × (new ≡ procs_after_write t p q procs)
unfolding message_written procs_after_write
write_parts t p q k procs new queue afterwards store other left sound is parts =
    let all = write_is_change t p q k procs new queue afterwards store other left sound is parts in
    let o = first_reader t q in
    let message = written_by t q procs p in (
      all.1 ∙ sym (ap (λ (b : Bool). cond b t (changed t q (delivered o message (queue_in t q)) (dequeued o t.waiters))) all.0),
      all.2 ∙ sym (ap (λ (b : Bool). cond b procs (delivered_to o message procs)) all.0),
    )

-- no queues
none_waits : (p k : ℕ) → in_list p (list_at no_lists k) ≡ false
none_waits p k = ap (in_list p) (list_at_none k) ∙ none_in_none p

pub sound_none : AreSoundQueues no_queues
unfolding no_queues
sound_none = record {
  alive = length-replicate 32 false;
  queues = length-replicate 32 no_queue;
  table = table_none;
  blank = λ q dead. all_at 32 q no_queue;
  proper = λ q. subst IsProperQueue (sym (all_at 32 q no_queue)) proper_none;
  some = λ q is. absurd (false≢true (sym (all_at 32 q false) ∙ is));
  names = λ a b is other same. absurd (false≢true (sym (all_at 32 a false) ∙ is));
  readers = λ q p below there. absurd (false≢true (sym (none_waits p q) ∙ there));
  writers = λ q p below there. absurd (false≢true (sym (none_waits p (32 + q)) ∙ there));
}

pub sound_blank : (alive : List Bool) (queues : List Queue) (waiters : List (List Member)) → alive ≡ replicate 32 false → queues ≡ replicate 32 no_queue → waiters ≡ no_lists → AreSoundQueues (record { alive = alive; queues = queues; waiters = waiters })
unfolding no_queues
sound_blank alive queues waiters a b c =
    let same : record { alive = alive; queues = queues; waiters = waiters } ≡ no_queues = ap (λ (xs : List Bool). record { alive = xs; queues = queues; waiters = waiters }) a ∙ ap (λ (xs : List Queue). record { alive = replicate 32 false; queues = xs; waiters = waiters }) b ∙ ap (λ (xs : List (List Member)). record { alive = replicate 32 false; queues = replicate 32 no_queue; waiters = xs }) c in
    subst AreSoundQueues (sym same) sound_none

-- a process waits no more
pub sound_fewer : (alive : List Bool) (queues : List Queue) (waiters left : List (List Member)) (p : ℕ) → AreSoundQueues (record { alive = alive; queues = queues; waiters = waiters }) → left ≡ removed waiters p → AreSoundQueues (record { alive = alive; queues = queues; waiters = left })
sound_fewer alive queues waiters left p sound is = record {
  alive = sound.alive;
  queues = sound.queues;
  table = subst IsTable (sym is) (table_removed waiters p sound.table);
  blank = sound.blank;
  proper = sound.proper;
  some = sound.some;
  names = sound.names;
  readers = λ q r below there. sound.readers q r below (in_dequeued (Some p) waiters r q (ap (λ (ws : List (List Member)). in_list r (list_at ws q)) (sym is) ∙ there));
  writers = λ q w below there. sound.writers q w below (in_dequeued (Some p) waiters w (32 + q) (ap (λ (ws : List (List Member)). in_list w (list_at ws (32 + q))) (sym is) ∙ there));
}

pub sound_queues_without : (t : Queues) (p : ℕ) → AreSoundQueues t → AreSoundQueues (queues_without_waiter t p)
unfolding queues_without_waiter
sound_queues_without t p sound = sound_fewer t.alive t.queues t.waiters (removed t.waiters p) p sound refl

-- who is in a list after an insertion was there before, or was put in
was_or_put : (lists : List (List Member)) (list : ℕ) (member : Member) (p k : ℕ) → IsTable lists → list < 96 → in_list p (list_at (inserted lists list member) k) ≡ true → (in_list p (list_at lists k) ≡ true) ⊎ (k ≡ list)
was_or_put lists list member p k table below there =
    either (k == list) (member.slot == p) (in_list p (list_at lists k)) refl (sym (in_list_inserted lists list member p k (omega (arith, table.size))) ∙ there)
  where
    from_test : (a b : Bool) → a ≡ (k == list) → (a && b) ≡ true → k ≡ list
    from_test true b is h = eqb-true k list (sym is)
    from_test false b is h = absurd (cc)

    either : (a b c : Bool) → a ≡ (k == list) → ((a && b) || c) ≡ true → (c ≡ true) ⊎ (k ≡ list)
    either a b true is h = inl refl
    either a b false is h = inr (from_test a b is (sym (or-false (a && b)) ∙ h))

enlisted_in : (t : Queues) (list : ℕ) (member : Member) → AreSoundQueues t → list < 96 → member.slot < 32 → list_of t.waiters member.slot ≡ None → ((q p : ℕ) → q < 32 → q ≡ list → IsMade t q × (is_drained (queue_in t q) ≡ true)) → ((q p : ℕ) → q < 32 → 32 + q ≡ list → IsMade t q × (is_full (queue_in t q) ≡ true)) → AreSoundQueues (record t { waiters = inserted t.waiters list member })
enlisted_in t list member sound below small nowhere reads writes = record {
  alive = sound.alive;
  queues = sound.queues;
  table = table_inserted t.waiters list member sound.table below small nowhere;
  blank = sound.blank;
  proper = sound.proper;
  some = sound.some;
  names = sound.names;
  readers = λ q p low there. elim (was_or_put t.waiters list member p q sound.table below there) [
    | inl was ↦ sound.readers q p low was
    | inr put ↦ reads q p low put
  ];
  writers = λ q p low there. elim (was_or_put t.waiters list member p (32 + q) sound.table below there) [
    | inl was ↦ sound.writers q p low was
    | inr put ↦ writes q p low put
  ];
}

-- a process waits
pub sound_enlisted : (t : Queues) (p priority q : ℕ) (reader : Bool) → AreSoundQueues t → IsMade t q → p < 32 → list_of t.waiters p ≡ None → must_wait t q reader ≡ true → AreSoundQueues (enlisted t p priority q reader)
unfolding enlisted
sound_enlisted t p priority q true sound is small nowhere may =
    let low = made_below t q sound is in
    enlisted_in t q (record { slot = p; priority = priority }) sound (omega arith) small nowhere
    (λ k r below same. (subst (IsMade t) (sym same) is, ap (λ (j : ℕ). is_drained (queue_in t j)) same ∙ may))
    (λ k r below same. absurd (omega arith))
sound_enlisted t p priority q false sound is small nowhere may =
    let low = made_below t q sound is in
    enlisted_in t (32 + q) (record { slot = p; priority = priority }) sound (omega arith) small nowhere
    (λ k r below same. absurd (omega arith))
    (λ k r below same. let here : k ≡ q = omega arith in (subst (IsMade t) (sym here) is, ap (λ (j : ℕ). is_full (queue_in t j)) here ∙ may))

-- one number changed, both whether it names a queue and which
abbrev set_at : Queues → ℕ → Bool → Queue → Queues
set_at t q flag queue = record t { alive = slice_set t.alive q flag; queues = slice_set t.queues q queue }

each_set : (P : ℕ → Bool → Queue → Type 0) (t : Queues) (q : ℕ) (flag : Bool) (queue : Queue) → AreSoundQueues t → q < 32 → P q flag queue → ((k : ℕ) → k ≢ q → P k (is_made t k) (queue_in t k)) → (k : ℕ) → P k (is_made (set_at t q flag queue) k) (queue_in (set_at t q flag queue) k)
each_set P t q flag queue sound below here others k = elim (cases_eq k q) [
  | inl same ↦ subst (λ (j : ℕ). P j (is_made (set_at t q flag queue) j) (queue_in (set_at t q flag queue) j)) (sym same)
      (subst (λ (b : Bool). P q b (queue_in (set_at t q flag queue) q)) (sym (get_or-set_same t.alive q flag false (omega (arith, sound.alive))))
      (subst (P q flag) (sym (get_or-set_same t.queues q queue no_queue (omega (arith, sound.queues)))) here))
  | inr apart ↦ subst (λ (b : Bool). P k b (queue_in (set_at t q flag queue) k)) (sym (get_or-set_other t.alive q k flag false apart))
      (subst (P k (is_made t k)) (sym (get_or-set_other t.queues q k queue no_queue apart)) (others k apart))
]

-- what a change of one number needs
pub record IsSetting (t : Queues) (q : ℕ) (flag : Bool) (queue : Queue) : Type 0 where
  pub blank : flag ≡ false → queue ≡ no_queue
  pub proper : IsProperQueue queue
  pub some : flag ≡ true → 1 ≤ queue.count
  pub names : (k : ℕ) → flag ≡ true → k ≢ q → IsMade t k → queue.name ≡ (queue_in t k).name → ⊥
  pub readers : (p : ℕ) → in_list p (readers_of t q) ≡ true → ⊥
  pub writers : (p : ℕ) → in_list p (writers_of t q) ≡ true → ⊥

pub sound_set : (t : Queues) (q : ℕ) (flag : Bool) (queue : Queue) → AreSoundQueues t → q < 32 → IsSetting t q flag queue → AreSoundQueues (set_at t q flag queue)
sound_set t q flag queue sound below setting = record {
  alive = length-set t.alive q flag ∙ sound.alive;
  queues = length-set t.queues q queue ∙ sound.queues;
  table = sound.table;
  blank = each_set (λ k b x. b ≡ false → x ≡ no_queue) t q flag queue sound below setting.blank (λ k apart. sound.blank k);
  proper = each_set (λ k b x. IsProperQueue x) t q flag queue sound below setting.proper (λ k apart. sound.proper k);
  some = each_set (λ k b x. b ≡ true → 1 ≤ x.count) t q flag queue sound below setting.some (λ k apart. sound.some k);
  names = λ a b live alive same. names_apart a b live alive same;
  readers = λ k p low there. each_set (λ j b x. j < 32 → in_list p (readers_of t j) ≡ true → (b ≡ true) × (is_drained x ≡ true)) t q flag queue sound below (λ h here. absurd (setting.readers p here)) (λ j apart h here. sound.readers j p h here) k low there;
  writers = λ k p low there. each_set (λ j b x. j < 32 → in_list p (writers_of t j) ≡ true → (b ≡ true) × (is_full x ≡ true)) t q flag queue sound below (λ h here. absurd (setting.writers p here)) (λ j apart h here. sound.writers j p h here) k low there;
}
  where
    new : Queues
    new = set_at t q flag queue

    names_apart : (a b : ℕ) → IsMade new a → IsMade new b → (queue_in new a).name ≡ (queue_in new b).name → a ≡ b
    names_apart a b live alive same =
        each_set (λ j l x. l ≡ true → x.name ≡ (queue_in new b).name → j ≡ b) t q flag queue sound below
        (λ is equal. each_set (λ k m y. m ≡ true → queue.name ≡ y.name → q ≡ k) t q flag queue sound below (λ here both. refl) (λ k apart there both. absurd (setting.names k is apart there both)) b alive equal)
        (λ j apart is equal. each_set (λ k m y. m ≡ true → (queue_in t j).name ≡ y.name → j ≡ k) t q flag queue sound below (λ here both. absurd (setting.names j here apart is (sym both))) (λ k other there both. sound.names j k is there both) b alive equal)
        a live same

-- a queue is made
free_number : (t : Queues) (q : ℕ) → lowest_free t ≡ Some q → (is_made t q ≡ false) × (q < 32)
free_number t q is =
    let lowest = lowest_passes (is_free t) q is in (not-true (is_made t q) lowest.0, lowest.1)

nobody_at : (t : Queues) (q : ℕ) → AreSoundQueues t → is_made t q ≡ false → q < 32 → ((p : ℕ) → in_list p (readers_of t q) ≡ true → ⊥) × ((p : ℕ) → in_list p (writers_of t q) ≡ true → ⊥)
nobody_at t q sound free below = (
  λ p there. false≢true (sym free ∙ (sound.readers q p below there).0),
  λ p there. false≢true (sym free ∙ (sound.writers q p below there).0),
)

no_such_name : (t : Queues) (name : Name8) (k : ℕ) → AreSoundQueues t → found t name ≡ None → IsMade t k → name ≡ (queue_in t k).name → ⊥
no_such_name t name k sound none is same =
    let other = lowest_none (is_named t name) none k (made_below t k sound is) in
    let equal : bytes_eq (queue_in t k).name.0 name.0 ≡ true = (bytes_eq-Decides (queue_in t k).name.0 name.0).1 (ap (λ (n : Name8). n.0) (sym same)) in
    false≢true (sym other ∙ ap (λ (b : Bool). b && bytes_eq (queue_in t k).name.0 name.0) is ∙ equal)

pub sound_made : (t : Queues) (q : ℕ) (name : Name8) (width count : ℕ) → AreSoundQueues t → lowest_free t ≡ Some q → found t name ≡ None → 1 ≤ count → width * count ≤ 2048 → AreSoundQueues (made t q name width count)
unfolding made
sound_made t q name width count sound free none some few =
    let number = free_number t q free in
    let nobody = nobody_at t q sound number.0 number.1 in
    sound_set t q true (new_queue name width count) sound number.1 (record {
      blank = λ dead. absurd (false≢true (sym dead));
      proper = proper_new name width count few;
      some = λ live. subst (λ (n : ℕ). 1 ≤ n) (sym (new_count name width count)) some;
      names = λ k live apart is same. no_such_name t name k sound none is (sym (new_name name width count) ∙ same);
      readers = nobody.0;
      writers = nobody.1;
    })

-- a queue is deleted
no_first : (ms : List Member) → is_none (first_of ms) ≡ true → (p : ℕ) → in_list p ms ≡ true → ⊥
no_first ms none p there = false≢true (sym (nobody_there ms p (none_is (first_of ms) none)) ∙ there)
  where
    none_is : (o : Option ℕ) → is_none o ≡ true → o ≡ None
    none_is None h = refl
    none_is (Some x) h = absurd (cc)

pub sound_without : (t : Queues) (q : ℕ) → AreSoundQueues t → IsMade t q → may_end t q ≡ true → AreSoundQueues (without t q)
unfolding without may_end
sound_without t q sound is may =
    let parts = and_parts (is_none (first_of (readers_of t q))) _ may in
    sound_set t q false no_queue sound (made_below t q sound is) (record {
      blank = λ dead. refl;
      proper = proper_none;
      some = λ live. absurd (false≢true live);
      names = λ k live apart there same. false≢true live;
      readers = no_first (readers_of t q) parts.0;
      writers = no_first (writers_of t q) (and_parts _ _ parts.1).0;
    })

pub sound_delete : (t : Queues) (q : ℕ) → AreSoundQueues t → IsMade t q → AreSoundQueues (without_queue t q)
unfolding without_queue
sound_delete t q sound is = elim (cases_Bool (may_end t q)) [
  | inl may ↦ subst AreSoundQueues (sym (ap (λ (b : Bool). cond b (without t q) t) may)) (sound_without t q sound is may)
  | inr kept ↦ subst AreSoundQueues (sym (ap (λ (b : Bool). cond b (without t q) t) kept)) sound
]
