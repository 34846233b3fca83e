-- Queues stay proper.
use Rattle.std.proofs.Common.{◌≡◌, ℕ, ◌*◌, ◌<◌, ◌≤◌, Bool, true, false, cond, List, [], ◌∷◌, ◌++◌, Option, Some, None, ◌==◌, length, drop, replicate, get_or, refl, arith}
use Rattle.std.specs.List.{AllByRecursion}
use Rattle.std.proofs.lemmas.Bool.Decides.{nat_tests}
use Rattle.std.proofs.lemmas.List.{length-append, length-drop}
use Rattle.mpm_base.specs.Calls.{Taken}
use Rattle.mpm_base.specs.declared.number.Name8.{Name8}
use Rattle.mpm_base.proofs.Widths.{length_in_width}
use Rattle.mpm_queues.specs.Queue.{Queue, new_queue, no_queue, is_drained, is_full, is_exclusive, first_message, held_by, shortened, read_by, with_message, message_of, IsProperQueue}

-- a message has its queue's length
pub length_message : (width : ℕ) (call : Taken) → length (message_of width call) ≡ width
unfolding message_of
length_message width call = length_in_width width (drop 12 call.bytes)

-- a queue without messages
no_messages : (ms : List (List ℕ)) → (length ms == 0) ≡ true → ms ≡ []
no_messages [] none = refl
no_messages (m ∷ ms) none = absurd (grind (arith, nat_tests))

pub drained_empty : (queue : Queue) → is_drained queue ≡ true → queue.messages ≡ []
drained_empty queue none = no_messages queue.messages none

some_message : (ms : List (List ℕ)) → (length ms == 0) ≡ false → 0 < length ms
some_message ms some = grind (arith, nat_tests)

-- an exclusive queue has room for one message
pub one_message : (queue : Queue) → is_exclusive queue ≡ true → queue.count ≡ 1
unfolding is_exclusive
one_message queue is = grind (arith, nat_tests)

-- which has no bytes
pub no_bytes : (queue : Queue) → is_exclusive queue ≡ true → queue.width ≡ 0
unfolding is_exclusive
no_bytes queue is = grind (arith, nat_tests)

-- as it is made
pub proper_new : (name : Name8) (width count : ℕ) → width * count ≤ 2048 → IsProperQueue (new_queue name width count)
unfolding new_queue
proper_new name width count few = record {
  widths = tt;
  room = omega arith;
  bytes = few;
  exclusive = λ p is. absurd (cc);
  away = λ p is. absurd (cc);
}

pub new_count : (name : Name8) (width count : ℕ) → (new_queue name width count).count ≡ count
unfolding new_queue
new_count name width count = refl

pub new_name : (name : Name8) (width count : ℕ) → (new_queue name width count).name ≡ name
unfolding new_queue
new_name name width count = refl

pub proper_none : IsProperQueue no_queue
unfolding no_queue
proper_none = proper_new (record { 0 = replicate 8 0 }) 0 0 (omega arith)

-- after a message read
all_dropped : (P : List ℕ → Type 0) (ms : List (List ℕ)) → AllByRecursion P ms → AllByRecursion P (drop 1 ms)
all_dropped P [] all = tt
all_dropped P (m ∷ ms) all = all.1

held_exclusive : (b : Bool) (r p : ℕ) → cond b (Some r) None ≡ Some p → b ≡ true
held_exclusive true r p is = refl
held_exclusive false r p is = absurd (cc)

none_left : (ms : List (List ℕ)) → length ms ≤ 1 → drop 1 ms ≡ []
none_left [] few = refl
none_left (m ∷ []) few = refl
none_left (m ∷ n ∷ ms) few = absurd (omega arith)

pub proper_read : (queue : Queue) (p : ℕ) → IsProperQueue queue → IsProperQueue (read_by p queue)
unfolding held_by shortened is_exclusive
proper_read queue p proper = record {
  widths = all_dropped (λ message. length message ≡ queue.width) queue.messages proper.widths;
  room = (let fewer = length-drop 1 queue.messages in let room = proper.room in omega arith);
  bytes = proper.bytes;
  exclusive = λ r is. held_exclusive (is_exclusive queue) p r is;
  away = λ r is. none_left queue.messages (let one = one_message queue (held_exclusive (is_exclusive queue) p r is) in let room = proper.room in omega arith);
}

-- after a message handed over
pub proper_held : (queue : Queue) (p : ℕ) → IsProperQueue queue → is_drained queue ≡ true → IsProperQueue (held_by p queue)
unfolding held_by is_exclusive
proper_held queue p proper none = record {
  widths = proper.widths;
  room = proper.room;
  bytes = proper.bytes;
  exclusive = λ r is. held_exclusive (is_exclusive queue) p r is;
  away = λ r is. drained_empty queue none;
}

-- after a message written
all_appended : (P : List ℕ → Type 0) (ms : List (List ℕ)) (message : List ℕ) → AllByRecursion P ms → P message → AllByRecursion P (ms ++ message ∷ [])
all_appended P [] message all one = (one, tt)
all_appended P (m ∷ ms) message all one = (all.0, all_appended P ms message all.1 one)

pub proper_written : (queue : Queue) (message : List ℕ) → IsProperQueue queue → is_full queue ≡ false → length message ≡ queue.width → IsProperQueue (with_message message queue)
unfolding with_message
proper_written queue message proper some is = record {
  widths = all_appended (λ m. length m ≡ queue.width) queue.messages message proper.widths is;
  room = (let more = length-append queue.messages (message ∷ []) in let room = proper.room in grind (arith, nat_tests));
  bytes = proper.bytes;
  exclusive = λ p is. absurd (cc);
  away = λ p is. absurd (cc);
}

-- a read makes room for one message, and one message more fills it again
pub room_after : (queue : Queue) (p : ℕ) → IsProperQueue queue → is_drained queue ≡ false → is_full (read_by p queue) ≡ false
unfolding held_by shortened
room_after queue p proper some =
    let fewer = length-drop 1 queue.messages in
    let room = proper.room in
    let one = some_message queue.messages some in
    grind (arith, nat_tests)

pub full_again : (queue : Queue) (p : ℕ) (message : List ℕ) → is_drained queue ≡ false → is_full queue ≡ true → is_full (with_message message (read_by p queue)) ≡ true
unfolding with_message held_by shortened
full_again queue p message some full =
    let fewer = length-drop 1 queue.messages in
    let more = length-append (drop 1 queue.messages) (message ∷ []) in
    let one = some_message queue.messages some in
    grind (arith, nat_tests)

-- a message that goes into a queue without any and is read at once leaves it as it was
written_read : (name : Name8) (width count : ℕ) (ms : List (List ℕ)) (holder : Option ℕ) (r : ℕ) (message : List ℕ) → ms ≡ [] → read_by r (with_message message (record { name = name; width = width; count = count; messages = ms; holder = holder })) ≡ held_by r (record { name = name; width = width; count = count; messages = ms; holder = holder })
unfolding with_message held_by shortened is_exclusive
written_read name width count [] holder r message none = refl
written_read name width count (m ∷ ms) holder r message none = absurd (cc)

pub read_at_once : (queue : Queue) (r : ℕ) (message : List ℕ) → is_drained queue ≡ true → read_by r (with_message message queue) ≡ held_by r queue
read_at_once queue r message none =
    written_read queue.name queue.width queue.count queue.messages queue.holder r message (drained_empty queue none)

written_first : (ms : List (List ℕ)) (message : List ℕ) → ms ≡ [] → get_or (ms ++ message ∷ []) 0 [] ≡ message
written_first [] message none = refl
written_first (m ∷ ms) message none = absurd (cc)

pub first_written : (queue : Queue) (message : List ℕ) → is_drained queue ≡ true → first_message (with_message message queue) ≡ message
unfolding first_message with_message
first_written queue message none = written_first queue.messages message (drained_empty queue none)

pub some_written : (queue : Queue) (message : List ℕ) → is_drained (with_message message queue) ≡ false
unfolding with_message
some_written queue message =
    let more = length-append queue.messages (message ∷ []) in
    grind (arith, nat_tests)
