-- How a ring of bytes stands for the messages of a queue: one after the other, the oldest first.
use Rattle.std.specs.Prelude.{◌≡◌, ℕ, zero, suc, ◌*◌, ◌≤◌, List, [], ◌∷◌, Option, length, take, drop}
use Rattle.circular_buffer.specs.Buffer.{Buffer}
use Rattle.mpm_base.specs.declared.number.Name8.{Name8}
use Rattle.mpm_queues.specs.Queue.{Queue}

-- so many messages of a length, out of their bytes
unfoldable pub parted : ℕ → ℕ → List ℕ → List (List ℕ)
parted zero width bytes = []
parted (suc n) width bytes = take width bytes ∷ parted n width (drop width bytes)

-- the queue that the parts of a store stand for
abbrev pub queue_of : Name8 → ℕ → ℕ → ℕ → Option ℕ → Buffer ℕ → Queue
queue_of name width count stored holder bytes =
    record { name = name; width = width; count = count; messages = parted stored width bytes.items; holder = holder }

-- what is so of the parts of a store: the ring has the bytes of its messages and room for all, of at most 2,048 bytes
pub record IsStore (width count stored : ℕ) (bytes : Buffer ℕ) : Type 0 where
  pub capacity : bytes.capacity ≡ 2048
  pub items : length bytes.items ≡ stored * width
  pub room : stored ≤ count
  pub few : width * count ≤ 2048
