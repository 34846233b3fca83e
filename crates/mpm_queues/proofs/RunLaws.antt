-- No message is lost or doubled, and all keep their order.
use Rattle.mpm_ready.specs.Tables.{dequeued}
use Rattle.std.proofs.Common.{◌≡◌, ◌∙◌, ℕ, inl, inr, Bool, true, false, cond, List, [], ◌∷◌, ◌++◌, Option, Some, None, ◌==◌, length, drop, get_or, refl, sym, ap, subst, arith}
use Rattle.std.proofs.lemmas.Bool.{cases_Bool}
use Rattle.std.proofs.lemmas.Bool.Decides.{nat_tests}
use Rattle.std.proofs.lemmas.List.{append-nil}
use Rattle.mpm_base.proofs.Lists.{joined}
use Rattle.mpm_procs.specs.Table.{Table}
use Rattle.mpm_queues.specs.Queue.{Queue, is_drained, is_full, first_message, held_by, shortened, read_by, with_message}
use Rattle.mpm_queues.specs.Queues.{Queues, IsMade, queue_in, AreSoundQueues}
use Rattle.mpm_queues.specs.Handling.{first_reader, first_writer, written_by, let_in, delivered, message_read, message_written, enlisted, queues_without_waiter}
use Rattle.mpm_queues.specs.Runs.{out_by_read, in_by_read, waiting_message, out_by_write, in_by_write, delivered_message, ConservesMessages, QueueOperation, Reads, Writes, Waits, Leaves, operation_made, out_by, in_by, MayBe, operations_made, all_out, all_in, AllMayBe}
use Rattle.mpm_queues.proofs.QueueLaws.{drained_empty}
use Rattle.mpm_queues.proofs.SoundLaws.{changed, queue_there, reader_drained, sound_read, sound_write, sound_enlisted, sound_queues_without}

-- nothing happened
nothing : (t : Queues) (q : ℕ) → ConservesMessages t t q [] []
nothing t q = sym (append-nil (queue_in t q).messages)

-- a message read
first_rest : (ms : List (List ℕ)) → (length ms == 0) ≡ false → get_or ms 0 [] ∷ drop 1 ms ≡ ms
first_rest [] some = absurd (grind (arith, nat_tests))
first_rest (m ∷ ms) some = refl

read_messages : (t : Queues) (p q : ℕ) (procs : Table) (o : Option ℕ) → is_drained (queue_in t q) ≡ false → (first_message (queue_in t q) ∷ []) ++ (let_in procs o (read_by p (queue_in t q))).messages ≡ (queue_in t q).messages ++ waiting_message t q procs o
unfolding first_message held_by shortened with_message
read_messages t p q procs None some =
    first_rest (queue_in t q).messages some ∙ sym (append-nil (queue_in t q).messages)
read_messages t p q procs (Some w) some =
    ap (λ (ms : List (List ℕ)). ms ++ written_by t q procs w ∷ []) (first_rest (queue_in t q).messages some)

read_done : (t : Queues) (p q : ℕ) (procs : Table) → AreSoundQueues t → IsMade t q → is_drained (queue_in t q) ≡ false → (first_message (queue_in t q) ∷ []) ++ (queue_in (changed t q (let_in procs (first_writer t q) (read_by p (queue_in t q))) (dequeued (first_writer t q) t.waiters)) q).messages ≡ (queue_in t q).messages ++ waiting_message t q procs (first_writer t q)
read_done t p q procs sound is some =
    ap (λ (x : Queue). (first_message (queue_in t q) ∷ []) ++ x.messages) (queue_there t q _ (dequeued (first_writer t q) t.waiters) sound is)
    ∙ read_messages t p q procs (first_writer t q) some

pub conserves_read : (t : Queues) (p q : ℕ) (procs : Table) → AreSoundQueues t → IsMade t q → ConservesMessages t (message_read t p q procs) q (out_by_read t q) (in_by_read t q procs)
unfolding message_read out_by_read in_by_read
conserves_read t p q procs sound is = elim (cases_Bool (is_drained (queue_in t q))) [
  | inl none ↦ subst P (sym none) (nothing t q)
  | inr some ↦ subst P (sym some) (read_done t p q procs sound is some)
]
  where
    P : Bool → Type 0
    P b = cond b [] (first_message (queue_in t q) ∷ []) ++ (queue_in (cond b t (changed t q (let_in procs (first_writer t q) (read_by p (queue_in t q))) (dequeued (first_writer t q) t.waiters))) q).messages ≡ (queue_in t q).messages ++ cond b [] (waiting_message t q procs (first_writer t q))

-- a message written
written_messages : (t : Queues) (q : ℕ) (message : List ℕ) (o : Option ℕ) → ((r : ℕ) → o ≡ Some r → is_drained (queue_in t q) ≡ true) → delivered_message message o ++ (delivered o message (queue_in t q)).messages ≡ (queue_in t q).messages ++ message ∷ []
unfolding held_by with_message
written_messages t q message None none = refl
written_messages t q message (Some r) none =
    let empty = drained_empty (queue_in t q) (none r refl) in
    ap (λ (ms : List (List ℕ)). message ∷ ms) empty ∙ sym (ap (λ (ms : List (List ℕ)). ms ++ message ∷ []) empty)

write_done : (t : Queues) (p q : ℕ) (procs : Table) → AreSoundQueues t → IsMade t q → delivered_message (written_by t q procs p) (first_reader t q) ++ (queue_in (changed t q (delivered (first_reader t q) (written_by t q procs p) (queue_in t q)) (dequeued (first_reader t q) t.waiters)) q).messages ≡ (queue_in t q).messages ++ written_by t q procs p ∷ []
write_done t p q procs sound is =
    ap (λ (x : Queue). delivered_message (written_by t q procs p) (first_reader t q) ++ x.messages) (queue_there t q _ (dequeued (first_reader t q) t.waiters) sound is)
    ∙ written_messages t q (written_by t q procs p) (first_reader t q) (λ r first. reader_drained t q r sound is first)

pub conserves_write : (t : Queues) (p q : ℕ) (procs : Table) → AreSoundQueues t → IsMade t q → ConservesMessages t (message_written t p q procs) q (out_by_write t p q procs) (in_by_write t p q procs)
unfolding message_written out_by_write in_by_write
conserves_write t p q procs sound is =
    by_test (is_full (queue_in t q)) (nothing t q) (write_done t p q procs sound is)
  where
    by_test : (b : Bool) → ConservesMessages t t q [] [] → delivered_message (written_by t q procs p) (first_reader t q) ++ (queue_in (changed t q (delivered (first_reader t q) (written_by t q procs p) (queue_in t q)) (dequeued (first_reader t q) t.waiters)) q).messages ≡ (queue_in t q).messages ++ written_by t q procs p ∷ [] → cond b [] (delivered_message (written_by t q procs p) (first_reader t q)) ++ (queue_in (cond b t (changed t q (delivered (first_reader t q) (written_by t q procs p) (queue_in t q)) (dequeued (first_reader t q) t.waiters))) q).messages ≡ (queue_in t q).messages ++ cond b [] (written_by t q procs p ∷ [])
    by_test true full room = full
    by_test false full room = room

-- one operation
pub conserves_operation : (t : Queues) (q : ℕ) (operation : QueueOperation) → AreSoundQueues t → IsMade t q → ConservesMessages t (operation_made t q operation) q (out_by t q operation) (in_by t q operation)
unfolding enlisted queues_without_waiter
conserves_operation t q (Reads p procs) sound is = conserves_read t p q procs sound is
conserves_operation t q (Writes p procs) sound is = conserves_write t p q procs sound is
conserves_operation t q (Waits p priority reader) sound is = nothing t q
conserves_operation t q (Leaves p) sound is = nothing t q

pub sound_operation : (t : Queues) (q : ℕ) (operation : QueueOperation) → AreSoundQueues t → IsMade t q → MayBe t q operation → AreSoundQueues (operation_made t q operation)
sound_operation t q (Reads p procs) sound is may = sound_read t p q procs sound is
sound_operation t q (Writes p procs) sound is may = sound_write t p q procs sound is
sound_operation t q (Waits p priority reader) sound is may = sound_enlisted t p priority q reader sound is may.0 may.1 may.2
sound_operation t q (Leaves p) sound is may = sound_queues_without t p sound

alive_kept : (b : Bool) (t other : Queues) → other.alive ≡ t.alive → (cond b t other).alive ≡ t.alive
alive_kept true t other same = refl
alive_kept false t other same = same

pub made_operation : (t : Queues) (q : ℕ) (operation : QueueOperation) → (operation_made t q operation).alive ≡ t.alive
unfolding message_read message_written enlisted queues_without_waiter
made_operation t q (Reads p procs) = alive_kept (is_drained (queue_in t q)) t _ refl
made_operation t q (Writes p procs) = alive_kept (is_full (queue_in t q)) t _ refl
made_operation t q (Waits p priority reader) = refl
made_operation t q (Leaves p) = refl

-- all operations

pub conserves_all : (t : Queues) (q : ℕ) (operations : List QueueOperation) → AreSoundQueues t → IsMade t q → AllMayBe t q operations → ConservesMessages t (operations_made t q operations) q (all_out t q operations) (all_in t q operations)
unfolding operations_made all_out all_in AllMayBe
conserves_all t q [] sound is may = nothing t q
conserves_all t q (operation ∷ operations) sound is may =
    let still = ap (λ (alive : List Bool). get_or alive q false) (made_operation t q operation) ∙ is in
    joined (out_by t q operation) (all_out (operation_made t q operation) q operations) _ (queue_in t q).messages (in_by t q operation) (all_in (operation_made t q operation) q operations) _
    (conserves_operation t q operation sound is)
    (conserves_all (operation_made t q operation) q operations (sound_operation t q operation sound is may.0) still may.1)
