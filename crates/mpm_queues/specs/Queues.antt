-- The queues as a finite map from 32 numbers, and the processes that wait at them. (MP/M II Programmer's Guide, "Function
-- 134: Make Queue", "Function 135: Open Queue", "Function 136: Delete Queue".)
use Rattle.std.specs.Prelude.{◌≡◌, ℕ, ◌+◌, ◌*◌, ◌<◌, ◌≤◌, Bool, true, false, not, List, Option, Some, None, ◌&&◌, ◌||◌, ◌==◌, nat_lt, is_some, is_none, Result, IfOk, IfErr, IfSome, length, bytes_eq, replicate, slice_index_or, slice_set, if◌then◌else◌}
use Rattle.std.specs.Option.{option_map_or}
use Rattle.mpm_base.specs.declared.number.Name8.{Name8}
unfoldable pub use Rattle.mpm_procs.specs.Finding.{lowest}
use Rattle.mpm_ready.specs.Order.{Member, first_of, in_list}
use Rattle.mpm_ready.specs.Tables.{list_at, list_of, no_lists, IsTable}
use Rattle.mpm_queues.specs.Queue.{Queue, new_queue, no_queue, is_drained, is_full, IsProperQueue}
use Rattle.mpm_queues.specs.declared.queues.MakeRefused.{MakeRefused}
use Rattle.mpm_queues.specs.declared.queues.MakeRefused.TheVariants.{BadCount, Exists, NoQueueRoom}

-- by number: whether a queue is there, and the queue; and who waits, in the order of the ready list: as lists 0 to 31 the
-- readers of each queue, as lists 32 to 63 the writers
pub record Queues : Type 0 where
  pub alive : List Bool
  pub queues : List Queue
  pub waiters : List (List Member)

-- whether a number names a queue
abbrev pub is_made : Queues → ℕ → Bool
is_made t q = slice_index_or t.alive q false

abbrev pub IsMade : Queues → ℕ → Type 0
IsMade t q = is_made t q ≡ true

-- the queue that a number names
abbrev pub queue_in : Queues → ℕ → Queue
queue_in t q = slice_index_or t.queues q no_queue

-- who waits to read from a queue, and who to write to it
abbrev pub readers_of : Queues → ℕ → List Member
readers_of t q = list_at t.waiters q

abbrev pub writers_of : Queues → ℕ → List Member
writers_of t q = list_at t.waiters (32 + q)

-- whether a process waits at a queue
abbrev pub waits_at : Queues → ℕ → ℕ → Bool
waits_at t q p = in_list p (readers_of t q) || in_list p (writers_of t q)

-- at how many queues a process waits
unfoldable pub waits : Queues → ℕ → ℕ
waits t p = option_map_or (λ _. 1) (list_of t.waiters p) 0

-- a process waits at no queue
abbrev pub WaitsAtNoQueue : Queues → ℕ → Type 0
WaitsAtNoQueue t p = list_of t.waiters p ≡ None

-- no queue is made
unfoldable pub no_queues : Queues
no_queues = record { alive = replicate 32 false; queues = replicate 32 no_queue; waiters = no_lists }

-- whether a number names the queue of a name, and the number of that queue
abbrev pub is_named : Queues → Name8 → ℕ → Bool
is_named t name q = is_made t q && bytes_eq (queue_in t q).name.0 name.0

abbrev pub found : Queues → Name8 → Option ℕ
found t name = lowest (is_named t name)

-- whether a number is free, and the lowest free one
abbrev pub is_free : Queues → ℕ → Bool
is_free t q = not (is_made t q)

abbrev pub lowest_free : Queues → Option ℕ
lowest_free t = lowest (is_free t)

-- the length of a queue's messages
abbrev pub width_of : Queues → ℕ → Option ℕ
width_of t q = if is_made t q then Some (queue_in t q).width else None

-- whether a process holds a queue's message, and the lowest queue whose message it holds
abbrev pub is_holder : Option ℕ → ℕ → Bool
is_holder None p = false
is_holder (Some holder) p = holder == p

abbrev pub holds : Queues → ℕ → ℕ → Bool
holds t p q = is_holder (queue_in t q).holder p

abbrev pub lowest_held : Queues → ℕ → Option ℕ
lowest_held t p = lowest (holds t p)

-- why a queue isn't made
unfoldable pub make_error : Queues → Name8 → ℕ → ℕ → Option MakeRefused
make_error t name width count =
    if count == 0 then Some BadCount
    else (if is_some (found t name) then Some Exists
    else (if is_none (lowest_free t) || nat_lt 2048 (width * count) then Some NoQueueRoom
    else None))

-- a queue more
unfoldable pub made : Queues → ℕ → Name8 → ℕ → ℕ → Queues
made t q name width count = record t {
  alive = slice_set t.alive q true;
  queues = slice_set t.queues q (new_queue name width count);
}

-- a queue may be deleted: nobody waits at it, and nobody holds its message
unfoldable pub may_end : Queues → ℕ → Bool
may_end t q =
    is_none (first_of (readers_of t q)) && (is_none (first_of (writers_of t q)) && (is_none (queue_in t q).holder))

-- what comes of a queue to be made: with the lowest free number it is there, or nothing changed, and why
pub record MakesQueue (name : Name8) (width count : ℕ) (t new : Queues) (result : Result ℕ MakeRefused) : Type 0 where
  pub number : IfOk result (λ q. lowest_free t ≡ Some q)
  pub more : IfOk result (λ q. new ≡ made t q name width count)
  pub accepted : IfOk result (λ q. make_error t name width count ≡ None)
  pub refused : IfErr result (λ why. make_error t name width count ≡ Some why)
  pub unchanged : IfErr result (λ why. new ≡ t)

-- a queue fewer
unfoldable pub without : Queues → ℕ → Queues
without t q = record t {
  alive = slice_set t.alive q false;
  queues = slice_set t.queues q no_queue;
}

unfoldable pub without_queue : Queues → ℕ → Queues
without_queue t q = if may_end t q then without t q else t

-- what is so of the queues at any time. A number that names no queue has nothing. Queues are proper, have room, and differ in their names.
-- A process waits at most at one, a reader only at one without messages, a writer only at a full one
pub record AreSoundQueues (t : Queues) : Type 0 where
  pub alive : length t.alive ≡ 32
  pub queues : length t.queues ≡ 32
  pub table : IsTable t.waiters
  pub blank : (q : ℕ) → is_made t q ≡ false → queue_in t q ≡ no_queue
  pub proper : (q : ℕ) → IsProperQueue (queue_in t q)
  pub some : (q : ℕ) → IsMade t q → 1 ≤ (queue_in t q).count
  pub names : (a b : ℕ) → IsMade t a → IsMade t b → (queue_in t a).name ≡ (queue_in t b).name → a ≡ b
  pub readers : (q p : ℕ) → q < 32 → in_list p (readers_of t q) ≡ true → IsMade t q × (is_drained (queue_in t q) ≡ true)
  pub writers : (q p : ℕ) → q < 32 → in_list p (writers_of t q) ≡ true → IsMade t q × (is_full (queue_in t q) ≡ true)

-- the number that is sought, if there is one, is a queue's
pub record FindsQueue (sought : Option ℕ) (t : Queues) (result : Option ℕ) : Type 0 where
  pub number : result ≡ sought
  pub there : IfSome result (λ q. IsMade t q)
  pub sound : AreSoundQueues t
