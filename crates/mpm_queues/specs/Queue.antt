-- One message queue. (MP/M II Programmer's Guide, "Function 134: Make Queue", "Function 137: Read Queue", "Function 139:
-- Write Queue", "Mutual Exclusion Queues".)
use Rattle.std.specs.Prelude.{◌≡◌, ℕ, ◌*◌, ◌≤◌, Bool, true, List, [], ◌∷◌, ◌++◌, Option, Some, None, ◌&&◌, ◌==◌, length, drop, replicate, slice_index, slice_index_or, if◌then◌else◌}
use Rattle.std.specs.List.{AllByRecursion}
use Rattle.mpm_base.specs.Lists.{in_width}
use Rattle.mpm_base.specs.Calls.{Taken}
use Rattle.mpm_base.specs.declared.number.Name8.{Name8}

-- its name, the length of a message, how many messages it has room for, its messages, the oldest first, and the process
-- that holds its message
pub record Queue : Type 0 where
  pub name : Name8
  pub width : ℕ
  pub count : ℕ
  pub messages : List (List ℕ)
  pub holder : Option ℕ

-- a queue as it is made: without messages
unfoldable pub new_queue : Name8 → ℕ → ℕ → Queue
new_queue name width count =
    record { name = name; width = width; count = count; messages = []; holder = None }

-- what stands for a number that names no queue
unfoldable pub no_queue : Queue
no_queue = new_queue (record { 0 = replicate 8 0 }) 0 0

-- there is no message to be read; there is no room for one more
abbrev pub is_drained : Queue → Bool
is_drained queue = length queue.messages == 0

abbrev pub is_full : Queue → Bool
is_full queue = length queue.messages == queue.count

-- a mutual exclusion queue: its name begins with MX, and it has one message without bytes
unfoldable pub is_exclusive : Queue → Bool
is_exclusive queue =
    slice_index queue.name.0 0 == 77 && (slice_index queue.name.0 1 == 88 && (queue.width == 0 && (queue.count == 1)))

-- the message that is read next
unfoldable pub first_message : Queue → List ℕ
first_message queue = slice_index_or queue.messages 0 []

-- a process has got a message: of a mutual exclusion queue it holds it
unfoldable pub held_by : ℕ → Queue → Queue
held_by p queue = record queue { holder = if is_exclusive queue then Some p else None }

-- a queue without its first message
unfoldable pub shortened : Queue → Queue
shortened queue = record queue { messages = drop 1 queue.messages }

-- a process reads the first message
abbrev pub read_by : ℕ → Queue → Queue
read_by p queue = held_by p (shortened queue)

-- a message is written: it goes in last, and nobody holds it
unfoldable pub with_message : List ℕ → Queue → Queue
with_message message queue = record queue { messages = queue.messages ++ message ∷ []; holder = None }

-- where a message stands in the bytes of a call: after its user queue control block of twelve bytes
abbrev pub block_size : ℕ
block_size = 12

-- the message of a call that writes to a queue
unfoldable pub message_of : ℕ → Taken → List ℕ
message_of width call = in_width width (drop block_size call.bytes)

-- a call that reads, with the message that it was given
unfoldable pub with_given : List ℕ → Taken → Taken
with_given message call = record call { bytes = in_width block_size call.bytes ++ message }

-- what is so of a queue at any time. Its messages have its length, and there is room for all of them, in at most 2,048 bytes. A message
-- that is held is that of a mutual exclusion queue, which is empty
pub record IsProperQueue (queue : Queue) : Type 0 where
  pub widths : AllByRecursion (λ message. length message ≡ queue.width) queue.messages
  pub room : length queue.messages ≤ queue.count
  pub bytes : queue.width * queue.count ≤ 2048
  pub exclusive : (p : ℕ) → queue.holder ≡ Some p → is_exclusive queue ≡ true
  pub away : (p : ℕ) → queue.holder ≡ Some p → queue.messages ≡ []
