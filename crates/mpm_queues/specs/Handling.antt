-- Messages read and written. A reader of a queue without messages and a writer to a full one wait, or learn that it can't be
-- done now. (MP/M II Programmer's Guide, "Function 137: Read Queue", "Function 138: Conditional Read Queue", "Function 139:
-- Write Queue", "Function 140: Conditional Write Queue", "Mutual Exclusion Queues".)
use Rattle.std.specs.Prelude.{◌≡◌, ℕ, ◌+◌, ◌<◌, Bool, true, false, List, Option, Some, None, ◌&&◌, is_none, slice_set, if◌then◌else◌}
use Rattle.std.specs.Option.{ForSome}
use Rattle.mpm_base.specs.Calls.{Answer}
use Rattle.mpm_ready.specs.Order.{Member, first_of}
use Rattle.mpm_ready.specs.Tables.{list_at, list_of, inserted, removed, dequeued}
use Rattle.mpm_procs.specs.Table.{Table, Lives, call_of, with_call}
use Rattle.mpm_queues.specs.Queue.{Queue, is_drained, is_full, first_message, held_by, read_by, with_message, message_of, with_given}
use Rattle.mpm_queues.specs.Queues.{Queues, is_made, IsMade, WaitsAtNoQueue, waits_at, queue_in, readers_of, writers_of}
use Rattle.mpm_queues.specs.declared.queues.QueueOutcome.{QueueOutcome}
use Rattle.mpm_queues.specs.declared.queues.QueueOutcome.TheVariants.{Done, NotNow}

-- the first of those who wait to read from a queue, or to write to it
abbrev pub first_reader : Queues → ℕ → Option ℕ
first_reader t q = first_of (readers_of t q)

abbrev pub first_writer : Queues → ℕ → Option ℕ
first_writer t q = first_of (writers_of t q)

-- the message that a process writes to a queue
abbrev pub written_by : Queues → ℕ → Table → ℕ → List ℕ
written_by t q procs p = message_of (queue_in t q).width (call_of procs p)

-- the message of a writer that waited, if any, goes in last
abbrev pub let_in : Table → Option ℕ → Queue → Queue
let_in procs None queue = queue
let_in procs (Some w) queue = with_message (message_of queue.width (call_of procs w)) queue

-- a process reads a message, where there is one, and so makes room for that of the writer that waits first
unfoldable pub message_read : Queues → ℕ → ℕ → Table → Queues
message_read t p q procs =
    if is_drained (queue_in t q) then t
    else (record t {
      queues = slice_set t.queues q (let_in procs (first_writer t q) (read_by p (queue_in t q)));
      waiters = dequeued (first_writer t q) t.waiters;
    })

unfoldable pub read_outcome : Queues → ℕ → QueueOutcome
read_outcome t q = if is_drained (queue_in t q) then NotNow else (Done (first_writer t q))

-- the message that was read stands in the reply, whose other parts stay
unfoldable pub read_reply : Queues → ℕ → Answer → Answer
read_reply t q reply =
    if is_drained (queue_in t q) then reply else (record reply { bytes = first_message (queue_in t q) })

-- a reader that waited, if any, reads the first message
abbrev pub read_by_waiter : Option ℕ → Queue → Queue
read_by_waiter None queue = queue
read_by_waiter (Some r) queue = read_by r queue

-- a message goes to a reader that waited, if any, or else into the queue
abbrev pub delivered : Option ℕ → List ℕ → Queue → Queue
delivered None message queue = with_message message queue
delivered (Some r) message queue = held_by r queue

-- a process writes a message, where there is room
unfoldable pub message_written : Queues → ℕ → ℕ → Table → Queues
message_written t p q procs =
    if is_full (queue_in t q) then t
    else (record t {
      queues = slice_set t.queues q (delivered (first_reader t q) (written_by t q procs p) (queue_in t q));
      waiters = dequeued (first_reader t q) t.waiters;
    })

unfoldable pub write_outcome : Queues → ℕ → QueueOutcome
write_outcome t q = if is_full (queue_in t q) then NotNow else (Done (first_reader t q))

-- a message that a reader waited for stands in the call that it keeps
abbrev pub delivered_to : Option ℕ → List ℕ → Table → Table
delivered_to None message procs = procs
delivered_to (Some r) message procs = with_call procs r (with_given message (call_of procs r))

unfoldable pub procs_after_write : Queues → ℕ → ℕ → Table → Table
procs_after_write t p q procs =
    if is_full (queue_in t q) then procs else (delivered_to (first_reader t q) (written_by t q procs p) procs)

-- a process waits no more
unfoldable pub queues_without_waiter : Queues → ℕ → Queues
queues_without_waiter t p = record t { waiters = removed t.waiters p }

-- the list in which a process waits to read from a queue, or to write to it
abbrev pub place_for : ℕ → Bool → ℕ
place_for q reader = if reader then q else (32 + q)

-- a process waits at a queue, after all of equal or better priority
unfoldable pub enlisted : Queues → ℕ → ℕ → ℕ → Bool → Queues
enlisted t p priority q reader =
    record t { waiters = inserted t.waiters (place_for q reader) (record { slot = p; priority = priority }) }

-- who must wait at a queue: a reader where there is no message, a writer where there is no room
abbrev pub must_wait : Queues → ℕ → Bool → Bool
must_wait t q reader = if reader then is_drained (queue_in t q) else is_full (queue_in t q)

-- and a process may, where the queue is there and it waits at none
abbrev pub may_wait : Queues → ℕ → ℕ → Bool → Bool
may_wait t p q reader = is_made t q && (is_none (list_of t.waiters p) && must_wait t q reader)

pub record MayEnlist (p q : ℕ) (reader : Bool) (t : Queues) : Type 0 where
  pub queue : IsMade t q
  pub nowhere : WaitsAtNoQueue t p
  pub must : must_wait t q reader ≡ true

-- a queue is there, and those who wait at it live
pub record MayReadQueue (q : ℕ) (procs : Table) (t : Queues) : Type 0 where
  pub queue : IsMade t q
  pub waiting : (w : ℕ) → waits_at t q w ≡ true → Lives procs w

-- and so does the process that writes
pub record MayWriteQueue (p q : ℕ) (procs : Table) (t : Queues) : Type 0 where
  pub queue : IsMade t q
  pub lives : Lives procs p
  pub waiting : (w : ℕ) → waits_at t q w ≡ true → Lives procs w

-- the process that waits first in a list of a queue may be served, if there is one: it lives, and need not wait any more
pub record MayServeFirst (q list : ℕ) (must : Bool) (waiters : List (List Member)) (procs : Table) : Type 0 where
  pub below : q < 32
  pub free : must ≡ false
  pub lives : ForSome (first_of (list_at waiters list)) (λ w. Lives procs w)

-- and waits no more
pub record ServesFirst (list : ℕ) (waiters after : List (List Member)) (result : Option ℕ) : Type 0 where
  pub first : result ≡ first_of (list_at waiters list)
  pub fewer : after ≡ dequeued result waiters

-- the process whose wait was ended, if any
abbrev pub woken_by : QueueOutcome → Option ℕ
woken_by (Done other) = other
woken_by NotNow = None
