-- Messages that go into a queue and come out of it: none is lost, none is doubled, and they keep their order. (MP/M II
-- Programmer's Guide, "Queue Management".)
use Rattle.std.specs.Prelude.{◌≡◌, ℕ, ◌<◌, Bool, true, List, [], ◌∷◌, ◌++◌, Option, Some, None, ⊤, if◌then◌else◌}
use Rattle.mpm_procs.specs.Table.{Table}
use Rattle.mpm_queues.specs.Queue.{is_drained, is_full, first_message}
use Rattle.mpm_queues.specs.Queues.{Queues, WaitsAtNoQueue, queue_in}
use Rattle.mpm_queues.specs.Handling.{first_reader, first_writer, written_by, message_read, message_written, enlisted, queues_without_waiter, must_wait}

-- the message that a read takes out, and that of a waiting writer, which it lets in
unfoldable pub out_by_read : Queues → ℕ → List (List ℕ)
out_by_read t q = if is_drained (queue_in t q) then [] else (first_message (queue_in t q) ∷ [])

abbrev pub waiting_message : Queues → ℕ → Table → Option ℕ → List (List ℕ)
waiting_message t q procs None = []
waiting_message t q procs (Some w) = written_by t q procs w ∷ []

unfoldable pub in_by_read : Queues → ℕ → Table → List (List ℕ)
in_by_read t q procs =
    if is_drained (queue_in t q) then [] else (waiting_message t q procs (first_writer t q))

-- the message that a write brings in, and which goes out at once where a reader waits
unfoldable pub in_by_write : Queues → ℕ → ℕ → Table → List (List ℕ)
in_by_write t p q procs = if is_full (queue_in t q) then [] else (written_by t q procs p ∷ [])

abbrev pub delivered_message : List ℕ → Option ℕ → List (List ℕ)
delivered_message message None = []
delivered_message message (Some r) = message ∷ []

unfoldable pub out_by_write : Queues → ℕ → ℕ → Table → List (List ℕ)
out_by_write t p q procs =
    if is_full (queue_in t q) then [] else (delivered_message (written_by t q procs p) (first_reader t q))

-- what came out, followed by what is there now, is what was there before, followed by what went in
abbrev pub ConservesMessages : Queues → Queues → ℕ → List (List ℕ) → List (List ℕ) → Type 0
ConservesMessages before now q out into = out ++ (queue_in now q).messages ≡ (queue_in before q).messages ++ into

-- what is done at one queue, with the processes as they are then: a process reads, a process writes, a process waits with a
-- priority to read or to write, a process waits no more
pub data QueueOperation : Type 0 where
  Reads : ℕ → Table → QueueOperation
  Writes : ℕ → Table → QueueOperation
  Waits : ℕ → ℕ → Bool → QueueOperation
  Leaves : ℕ → QueueOperation

abbrev pub operation_made : Queues → ℕ → QueueOperation → Queues
operation_made t q (Reads p procs) = message_read t p q procs
operation_made t q (Writes p procs) = message_written t p q procs
operation_made t q (Waits p priority reader) = enlisted t p priority q reader
operation_made t q (Leaves p) = queues_without_waiter t p

abbrev pub out_by : Queues → ℕ → QueueOperation → List (List ℕ)
out_by t q (Reads p procs) = out_by_read t q
out_by t q (Writes p procs) = out_by_write t p q procs
out_by t q (Waits p priority reader) = []
out_by t q (Leaves p) = []

abbrev pub in_by : Queues → ℕ → QueueOperation → List (List ℕ)
in_by t q (Reads p procs) = in_by_read t q procs
in_by t q (Writes p procs) = in_by_write t p q procs
in_by t q (Waits p priority reader) = []
in_by t q (Leaves p) = []

-- who waits may do so
abbrev pub MayBe : Queues → ℕ → QueueOperation → Type 0
MayBe t q (Reads p procs) = ⊤
MayBe t q (Writes p procs) = ⊤
MayBe t q (Waits p priority reader) = (p < 32) × WaitsAtNoQueue t p × (must_wait t q reader ≡ true)
MayBe t q (Leaves p) = ⊤

-- the same for operations in order
unfoldable pub operations_made : Queues → ℕ → List QueueOperation → Queues
operations_made t q [] = t
operations_made t q (operation ∷ operations) = operations_made (operation_made t q operation) q operations

unfoldable pub all_out : Queues → ℕ → List QueueOperation → List (List ℕ)
all_out t q [] = []
all_out t q (operation ∷ operations) = out_by t q operation ++ all_out (operation_made t q operation) q operations

unfoldable pub all_in : Queues → ℕ → List QueueOperation → List (List ℕ)
all_in t q [] = []
all_in t q (operation ∷ operations) = in_by t q operation ++ all_in (operation_made t q operation) q operations

unfoldable pub AllMayBe : Queues → ℕ → List QueueOperation → Type 0
AllMayBe t q [] = ⊤
AllMayBe t q (operation ∷ operations) = MayBe t q operation × AllMayBe (operation_made t q operation) q operations
