-- Resident procedures: a process that calls one reads the message of its queue, which is the procedure's address, and keeps it
-- until it is written back. (MP/M II Programmer's Guide, "Function 151: Call Resident System Procedure".)
use Rattle.std.specs.Prelude.{ℕ, Bool, true, false, List, [], ◌∷◌, Option, Some, None, is_some, ◌==◌, if◌then◌else◌}
use Rattle.mpm_base.specs.Calls.{Taken, answering, name_at}
use Rattle.mpm_procs.specs.Table.{Table, lives, process_in, with_process, with_call}
use Rattle.mpm_queues.specs.Queues.{Queues, is_made, found, width_of}
use Rattle.mpm_queues.specs.Blocks.{address_of}
unfoldable pub use Rattle.mpm_queues.specs.Blocks.{writing}
use Rattle.mpm_queues.specs.Handling.{read_outcome, read_reply, write_outcome, woken_by}
use Rattle.mpm_queues.specs.declared.queues.QueueOutcome.{QueueOutcome}
use Rattle.mpm_queues.specs.declared.queues.QueueOutcome.TheVariants.{Done as Passed, NotNow}
use Rattle.mpm_kernel.specs.Kernel.{Kernel, with_changed, dispatched}
use Rattle.mpm_kernel.specs.Called.{Called, valued, done}
use Rattle.mpm_dispatcher.specs.Dispatch.{first_completed, with_other, with_procs, with_completed}
use Rattle.mpm_kernel.specs.Queueing.{taken_from, given_to, blocked_or_refused}

-- what a call 151 answers that is refused
abbrev pub no_procedure : ℕ
no_procedure = 65535

-- the queue that a call 151 names, where its messages are of two bytes; its bytes are the name's address, the parameter, and
-- the name
abbrev pub is_two : Option ℕ → Bool
is_two None = false
is_two (Some width) = width == 2

unfoldable pub of_two_bytes : Option ℕ → Queues → Option ℕ
of_two_bytes None t = None
of_two_bytes (Some q) t = if is_two (width_of t q) then Some q else None

abbrev pub procedure_queue : Queues → Taken → Option ℕ
procedure_queue t call = of_two_bytes (found t (name_at call 4)) t

-- a process is in the procedure of a queue from now on, whose message it keeps
unfoldable pub inside : ℕ → ℕ → ℕ → Kernel → Kernel
inside p q message kernel =
    with_changed kernel p (record (process_in kernel.dispatcher.procs p) { procedure = Some q; kept = message })

-- function 151: the message is read, which may wait
unfoldable pub procedure_read : QueueOutcome → ℕ → ℕ → Kernel → Called
procedure_read (Passed other) p q kernel =
    done (inside p q (address_of (read_reply kernel.queues q (answering 0)).bytes) (dispatched (with_other other) (taken_from kernel p q)))
procedure_read NotNow p q kernel = blocked_or_refused true p q true kernel

unfoldable pub procedure_at : Option ℕ → ℕ → Kernel → Called
procedure_at None p kernel = valued no_procedure kernel
procedure_at (Some q) p kernel = procedure_read (read_outcome kernel.queues q) p q kernel

unfoldable pub procedure_called : Taken → ℕ → Kernel → Called
procedure_called call p kernel =
    if is_some (process_in kernel.dispatcher.procs p).procedure then valued no_procedure kernel
    else (procedure_at (procedure_queue kernel.queues call) p kernel)

-- whose held call the process's own call completed, before it ended by that: where it lives and is another one it is still to be
-- answered. A call completes one at most (law `completes_one`), so that nobody else's is forgotten (laws `keeps_others`,
-- `forgets_none`; of function 47, `chain_forgets_none` of mpm_machine)
abbrev pub still_completed : Option ℕ → ℕ → Table → List ℕ
still_completed None p procs = []
still_completed (Some q) p procs = if q == p then [] else (if lives procs q then q ∷ [] else [])

-- a process is in no procedure any more, and keeps the call that writes the message of the one that it was in
unfoldable pub outside : ℕ → Kernel → Kernel
outside p kernel =
    let process = process_in kernel.dispatcher.procs p in
    let procs = with_call (with_process kernel.dispatcher.procs p (record process { procedure = None })) p (writing process.kept) in
    let completed = still_completed (first_completed kernel.dispatcher.completed) p kernel.dispatcher.procs in
    dispatched (with_completed completed) (dispatched (with_procs procs) kernel)

-- a message goes to a queue; one that is full loses it
unfoldable pub given_back_to : Option ℕ → ℕ → Kernel → Kernel
given_back_to None p kernel = kernel
given_back_to (Some q) p kernel =
    if is_made kernel.queues q then dispatched (with_other (woken_by (write_outcome kernel.queues q))) (given_to kernel p q) else kernel

unfoldable pub given_back : ℕ → Kernel → Kernel
given_back p kernel = given_back_to (process_in kernel.dispatcher.procs p).procedure p (outside p kernel)
