-- Worked examples, by computation.
use Rattle.std.proofs.Common.{◌≡◌, ℕ, [], ◌∷◌, ◌++◌, Some, None, refl}
use Rattle.mpm_base.specs.Lists.{zeros, in_width}
use Rattle.mpm_base.specs.Calls.{no_call}
use Rattle.mpm_base.specs.declared.number.Name8.{Name8}
use Rattle.mpm_queues.specs.Queue.{Queue, first_message, read_by, held_by, shortened, with_message, message_of}
use Rattle.mpm_queues.specs.Queues.{no_queues, make_error, lowest}
use Rattle.mpm_queues.specs.declared.queues.MakeRefused.TheVariants.{NoQueueRoom, BadCount}

-- three messages of 1,024 bytes have no room; two have
pub three_messages_of_1024 : (name : Name8) → make_error no_queues name 1024 3 ≡ Some NoQueueRoom
unfolding make_error no_queues lowest
three_messages_of_1024 name = refl

pub two_messages_of_1024 : (name : Name8) → make_error no_queues name 1024 2 ≡ None
unfolding make_error no_queues lowest
two_messages_of_1024 name = refl

pub no_messages_of_1024 : (name : Name8) → make_error no_queues name 1024 0 ≡ Some BadCount
unfolding make_error no_queues lowest
no_messages_of_1024 name = refl

-- a queue of two messages of one byte, which is full; 41h is read, and 43h of the writer that waited is let in
abbrev two : Name8 → Queue
two name = record { name = name; width = 1; count = 2; messages = (65 ∷ []) ∷ (66 ∷ []) ∷ []; holder = None }

pub oldest_is_read : (name : Name8) → first_message (two name) ≡ 65 ∷ []
unfolding first_message
oldest_is_read name = refl

pub writer_is_let_in : (name : Name8) (p : ℕ)
    → (with_message (message_of 1 (record no_call { bytes = zeros 12 ++ 67 ∷ [] })) (read_by p (two name))).messages ≡ (66 ∷ []) ∷ (67 ∷ []) ∷ []
unfolding with_message message_of in_width held_by shortened zeros
writer_is_let_in name p = refl
