-- Messages between processes, through queues. (MP/M II Programmer's Guide, "Function 134: Make Queue", "Function 135: Open
-- Queue", "Function 136: Delete Queue", "Function 137: Read Queue", "Function 138: Conditional Read Queue", "Function 139:
-- Write Queue", "Function 140: Conditional Write Queue".)
-- A queue control block has the queue's name at 2, the length of its messages at 10 and their number at 12. A user queue
-- control block has the queue's pointer, which is its number and 1, the message's address at 2 and the queue's name at 4; the
-- message that a call writes follows its twelve bytes.
use Rattle.std.specs.Prelude.{ℕ, ◌+◌, ◌<◌, Bool, true, false, not, [], ◌∷◌, ⊤, Option, Some, None, ◌&&◌, is_none, nat_le, if◌then◌else◌}
use Rattle.mpm_base.specs.Calls.{Taken, answering, word_at, name_at}
use Rattle.mpm_base.specs.declared.number.Name8.{Name8}
use Rattle.mpm_base.specs.declared.call.Outcome.TheVariants.{Done}
use Rattle.mpm_procs.specs.Table.{process_in}
use Rattle.mpm_procs.specs.Finding.{is_entered}
use Rattle.mpm_queues.specs.Queues.{Queues, IsMade, found, lowest_free, made, may_end, without_queue, make_error}
unfoldable pub use Rattle.mpm_queues.specs.Blocks.{pointed}
use Rattle.mpm_queues.specs.Handling.{message_read, read_outcome, read_reply, message_written, write_outcome, procs_after_write, enlisted}
use Rattle.mpm_queues.specs.declared.queues.QueueOutcome.{QueueOutcome}
use Rattle.mpm_queues.specs.declared.queues.QueueOutcome.TheVariants.{Done as Passed, NotNow}
use Rattle.mpm_dispatcher.specs.Dispatch.{with_procs, unlisted, with_other}
use Rattle.mpm_kernel.specs.Kernel.{Kernel, dispatched}
use Rattle.mpm_kernel.specs.Called.{Called, valued, done, blocked, failure_code}

-- a queue more, with that number
abbrev pub made_at : Option ℕ → Queues → Name8 → ℕ → ℕ → Queues
made_at None t name width count = t
made_at (Some q) t name width count = made t q name width count

-- with the lowest free number
unfoldable pub with_queue : Kernel → Name8 → ℕ → ℕ → Kernel
with_queue kernel name width count =
    record kernel { queues = made_at (lowest_free kernel.queues) kernel.queues name width count }

-- function 134
unfoldable pub queue_made : Taken → Kernel → Called
queue_made call kernel =
    if is_none (make_error kernel.queues (name_at call 2) (word_at call 10) (word_at call 12))
    then done (with_queue kernel (name_at call 2) (word_at call 10) (word_at call 12))
    else (valued failure_code kernel)

-- a queue more of the system's
unfoldable pub with_system_queue : Kernel → Name8 → ℕ → ℕ → Kernel
with_system_queue kernel name width count =
    record (with_queue kernel name width count) { system_queues = kernel.system_queues + 1 }

-- there are only queues of the system
pub record OnlySystems (kernel : Kernel) : Type 0 where
  pub all : (q : ℕ) → IsMade kernel.queues q → q < kernel.system_queues

-- function 135: the queue's pointer is written where the block stands
unfoldable pub opened : Option ℕ → Taken → Kernel → Called
opened None call kernel = valued failure_code kernel
opened (Some q) call kernel =
    record { kernel = kernel; outcome = Done; reply = record (answering 0) { at = call.word; bytes = (q + 1) ∷ 0 ∷ [] } }

abbrev pub queue_opened : Taken → Kernel → Called
queue_opened call kernel = opened (found kernel.queues (name_at call 4)) call kernel

-- function 136: a queue is deleted that isn't the system's, in whose resident procedure nobody is, at which nobody waits and
-- whose message nobody holds
abbrev pub may_delete : Kernel → ℕ → Bool
may_delete kernel q = nat_le kernel.system_queues q && (not (is_entered kernel.dispatcher.procs q) && may_end kernel.queues q)

unfoldable pub deleted : Option ℕ → Kernel → Called
deleted None kernel = valued failure_code kernel
deleted (Some q) kernel =
    if may_delete kernel q then done (record kernel { queues = without_queue kernel.queues q }) else (valued failure_code kernel)

abbrev pub queue_deleted : Taken → Kernel → Called
queue_deleted call kernel = deleted (found kernel.queues (name_at call 2)) kernel

-- a process waits at a queue, to read from it or to write to it, and stands in no list
unfoldable pub queued : Kernel → ℕ → ℕ → Bool → Kernel
queued kernel p q reader =
    record (dispatched (unlisted p) kernel) { queues = enlisted kernel.queues p (process_in kernel.dispatcher.procs p).priority q reader }

-- a call that can't be done now is held, if it may wait, or else refused
unfoldable pub blocked_or_refused : Bool → ℕ → ℕ → Bool → Kernel → Called
blocked_or_refused waits p q reader kernel = if waits then blocked p (queued kernel p q reader) else (valued failure_code kernel)

-- what is so where nothing could be done
abbrev pub IfNotNow : QueueOutcome → Type 0 → Type 0
IfNotNow (Passed other) Fact = ⊤
IfNotNow NotNow Fact = Fact

-- functions 137, which may wait, and 138, which may not: the message comes to its address
abbrev pub taken_from : Kernel → ℕ → ℕ → Kernel
taken_from kernel p q = record kernel { queues = message_read kernel.queues p q kernel.dispatcher.procs }

unfoldable pub was_read : QueueOutcome → Bool → Taken → ℕ → ℕ → Kernel → Called
was_read (Passed other) waits call p q kernel = record {
  kernel = dispatched (with_other other) (taken_from kernel p q);
  outcome = Done;
  reply = read_reply kernel.queues q (record (answering 0) { at = word_at call 2 });
}
was_read NotNow waits call p q kernel = blocked_or_refused waits p q true kernel

unfoldable pub read_at : Option ℕ → Bool → Taken → ℕ → Kernel → Called
read_at None waits call p kernel = valued failure_code kernel
read_at (Some q) waits call p kernel = was_read (read_outcome kernel.queues q) waits call p q kernel

abbrev pub queue_read : Bool → Taken → ℕ → Kernel → Called
queue_read waits call p kernel = read_at (pointed kernel.queues (word_at call 0)) waits call p kernel

-- functions 139, which may wait, and 140, which may not
abbrev pub given_to : Kernel → ℕ → ℕ → Kernel
given_to kernel p q = record kernel {
  queues = message_written kernel.queues p q kernel.dispatcher.procs;
  dispatcher = with_procs (procs_after_write kernel.queues p q kernel.dispatcher.procs) kernel.dispatcher;
}

unfoldable pub was_written : QueueOutcome → Bool → ℕ → ℕ → Kernel → Called
was_written (Passed other) waits p q kernel = done (dispatched (with_other other) (given_to kernel p q))
was_written NotNow waits p q kernel = blocked_or_refused waits p q false kernel

unfoldable pub write_at : Option ℕ → Bool → ℕ → Kernel → Called
write_at None waits p kernel = valued failure_code kernel
write_at (Some q) waits p kernel = was_written (write_outcome kernel.queues q) waits p q kernel

abbrev pub queue_written : Bool → Taken → ℕ → Kernel → Called
queue_written waits call p kernel = write_at (pointed kernel.queues (word_at call 0)) waits p kernel
