-- What calls on queues leave: a message read, a message written, a queue deleted, and who is served.
use Rattle.std.specs.Prelude.{◌≡◌, ◌↔◌, ℕ, ◌+◌, ◌<◌, ◌≤◌, Bool, false, List, Option, IfSome, IsSome, length}
use Rattle.mpm_base.specs.Calls.{Taken, Answer}
use Rattle.mpm_ready.specs.Order.{Member}
use Rattle.mpm_procs.specs.Table.{Table}
use Rattle.mpm_queues.specs.Queue.{Queue, is_drained, first_message, read_by, shortened, with_given}
use Rattle.mpm_queues.specs.Queues.{Queues, IsMade, lowest_free, width_of, may_end, without_queue, AreSoundQueues}
use Rattle.mpm_queues.specs.Handling.{let_in, read_by_waiter, delivered_to, message_read, read_outcome, read_reply, message_written, write_outcome, procs_after_write, ServesFirst}
use Rattle.mpm_queues.specs.Runs.{ConservesMessages, out_by_read, in_by_read, out_by_write, in_by_write}
use Rattle.mpm_queues.specs.declared.queues.QueueOutcome.{QueueOutcome}

-- the first message may be taken out of a queue, into bytes of its length
pub record MayTakeFirst (old : Queue) (into : List ℕ) : Type 0 where
  pub some : is_drained old ≡ false
  pub width : length into ≡ old.width

-- the first message is taken out, and stands in these bytes then
pub record TakesOutFirst (old new : Queue) (into : List ℕ) : Type 0 where
  pub queue : new ≡ shortened old
  pub message : into ≡ first_message old

-- the length of the first message, which has room in the ring
pub record IsFirstSize (old : Queue) (result : ℕ) : Type 0 where
  pub size : result ≡ old.width
  pub few : result ≤ 2048
  pub first : length (first_message old) ≡ result

-- a process reads the first message into the bytes of a reply, whose other parts stay
pub record AnswersMessage (p : ℕ) (old new : Queue) (begun answer : Answer) : Type 0 where
  pub queue : new ≡ read_by p old
  pub reply : answer ≡ record begun { bytes = first_message old }

-- a process reads the first message into the call that it keeps
pub record GivesMessage (p : ℕ) (old new : Queue) (kept given : Taken) : Type 0 where
  pub queue : new ≡ read_by p old
  pub call : given ≡ with_given (first_message old) kept

-- the lowest number that names no queue
pub record FindsFree (t : Queues) (result : Option ℕ) : Type 0 where
  pub value : result ≡ lowest_free t
  pub below : IfSome result (λ q. q < 32)

-- the length of a queue's messages, where a queue has that number
pub record TellsWidth (t : Queues) (q : ℕ) (result : Option ℕ) : Type 0 where
  pub value : result ≡ width_of t q
  pub made : IsSome result ↔ IsMade t q
  pub sound : AreSoundQueues t

-- a queue is deleted, or nothing changes, and the answer says which
pub record DeletesQueue (t : Queues) (q : ℕ) (new : Queues) (result : Bool) : Type 0 where
  pub queues : new ≡ without_queue t q
  pub answered : result ≡ may_end t q

-- the writer that waits first, if any, is let in with its message, and waits no more
pub record LetsWriterIn (q : ℕ) (table : Table) (old new : Queue) (waiters after : List (List Member)) (result : Option ℕ) : Type 0 where
  pub first : ServesFirst (32 + q) waiters after result
  pub queue : new ≡ let_in table result old

-- the first message goes to the reader that waits first, if any, and it waits no more
pub record ServesReader (q : ℕ) (old new : Queue) (waiters after : List (List Member)) (table told : Table) (result : Option ℕ) : Type 0 where
  pub first : ServesFirst q waiters after result
  pub queue : new ≡ read_by_waiter result old
  pub procs : told ≡ delivered_to result (first_message old) table

-- a process reads a message of a queue into a reply, where there is one
pub record TakesMessage (p q : ℕ) (t : Queues) (table : Table) (begun : Answer) (new : Queues) (answer : Answer) (result : QueueOutcome) : Type 0 where
  pub queues : new ≡ message_read t p q table
  pub answered : result ≡ read_outcome t q
  pub reply : answer ≡ read_reply t q begun
  pub sound : AreSoundQueues t

-- and so that no message is lost or doubled, and the processes stay
pub record ReadsMessage (p q : ℕ) (t : Queues) (table : Table) (begun : Answer) (new : Queues) (after : Table) (answer : Answer) (result : QueueOutcome) : Type 0 where
  pub queues : new ≡ message_read t p q table
  pub answered : result ≡ read_outcome t q
  pub reply : answer ≡ read_reply t q begun
  pub procs : after ≡ table
  pub messages : ConservesMessages t new q (out_by_read t q) (in_by_read t q table)

-- a process writes a message to a queue, where there is room, or to the reader that waits first
pub record PutsMessage (p q : ℕ) (t : Queues) (table : Table) (new : Queues) (after : Table) (result : QueueOutcome) : Type 0 where
  pub queues : new ≡ message_written t p q table
  pub answered : result ≡ write_outcome t q
  pub procs : after ≡ procs_after_write t p q table
  pub sound : AreSoundQueues t

-- and so that no message is lost or doubled
pub record WritesMessage (p q : ℕ) (t : Queues) (table : Table) (new : Queues) (after : Table) (result : QueueOutcome) : Type 0 where
  pub queues : new ≡ message_written t p q table
  pub answered : result ≡ write_outcome t q
  pub procs : after ≡ procs_after_write t p q table
  pub messages : ConservesMessages t new q (out_by_write t p q table) (in_by_write t p q table)
