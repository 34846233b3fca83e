-- What a reader that waited is answered: the message that it was given, at the address that its block names.
use Rattle.std.proofs.Common.{◌≡◌, ◌∙◌, ℕ, ◌-◌, ◌<◌, Bool, true, false, ◌==◌, List, ◌++◌, length, get_or, take, drop, replicate, if◌then◌else◌, inl, inr, refl, sym, ap, arith}
use Rattle.std.proofs.lemmas.Bool.{cases_lt}
use Rattle.std.proofs.lemmas.Bool.Decides.{nat_tests}
use Rattle.std.proofs.lemmas.List.{get_or_append_left, get_or-append_right, get_or-take, get_or-replicate, get_or_past, length-take, length-replicate, drop-append-le, drop_all}
use Rattle.mpm_base.specs.Lists.{in_width}
use Rattle.mpm_base.proofs.Widths.{length_in_width}
use Rattle.mpm_base.specs.Calls.{Taken, Answer, answering, byte_in, word_at}
use Rattle.mpm_base.specs.declared.functions.TheConstants.{READ_QUEUE}
use Rattle.mpm_queues.specs.Queue.{block_size, with_given}
use Rattle.mpm_kernel.specs.Completion.{completion_of}

-- the block of a call stays as it is given a message, and the message follows it
zero_at : (n k : ℕ) → get_or (replicate {A = ℕ} n 0) k 0 ≡ 0
zero_at n k = elim (cases_lt k n) [
  | inl below ↦ get_or-replicate n k 0 0 below
  | inr past ↦ get_or_past (replicate {A = ℕ} n 0) k 0 (omega (arith, length-replicate {A = ℕ} n 0, past))
]

in_width_at : (width : ℕ) (bytes : List ℕ) (k : ℕ) → k < width → get_or (in_width width bytes) k 0 ≡ get_or bytes k 0
unfolding in_width
in_width_at width bytes k below = elim (cases_lt k (length bytes)) [
  | inl there ↦ get_or_append_left (take width bytes) (replicate {A = ℕ} (width - length bytes) 0) 0 k (omega (arith, length-take width bytes, there, below)) ∙ get_or-take width bytes k 0 below
  | inr past ↦
      get_or-append_right (take width bytes) (replicate {A = ℕ} (width - length bytes) 0) (length (take width bytes)) k 0 refl (omega (arith, length-take width bytes, past))
      ∙ zero_at (width - length bytes) (k - length (take width bytes)) ∙ sym (get_or_past bytes k 0 past)
]

byte_given : (message : List ℕ) (call : Taken) (k : ℕ) → k < 12 → byte_in (with_given message call) k ≡ byte_in call k
unfolding with_given
byte_given message call k below =
    get_or_append_left (in_width 12 call.bytes) message 0 k (omega (arith, length_in_width 12 call.bytes, below)) ∙ in_width_at 12 call.bytes k below

message_given : (message : List ℕ) (call : Taken) → drop block_size (with_given message call).bytes ≡ message
unfolding with_given
message_given message call =
    drop-append-le 12 (in_width 12 call.bytes) message (omega (arith, length_in_width 12 call.bytes))
    ∙ ap (λ (rest : List ℕ). rest ++ message) (drop_all 12 (in_width 12 call.bytes) (omega (arith, length_in_width 12 call.bytes)))

reading : (b : Bool) (other : Answer) (at at_call : ℕ) (bytes message : List ℕ) → b ≡ true → at ≡ at_call → bytes ≡ message
    → (if b then (record (answering 0) { at = at; bytes = bytes }) else other) ≡ record (answering 0) { at = at_call; bytes = message }
reading true other at at_call bytes message is same equal = cc
reading false other at at_call bytes message is same equal = absurd (cc)

-- a call with a message given asks for the function that it asked for
pub function_given : (message : List ℕ) (call : Taken) → (with_given message call).function ≡ call.function
unfolding with_given
function_given message call = refl

pub reader_is_answered : (message : List ℕ) (call : Taken) → call.function ≡ READ_QUEUE
    → completion_of (with_given message call) ≡ record (answering 0) { at = word_at call 2; bytes = message }
unfolding completion_of
reader_is_answered message call is =
    let given = with_given message call in
    reading (given.function == READ_QUEUE) _ (word_at given 2) (word_at call 2) (drop block_size given.bytes) message
    (grind (arith, nat_tests, function_given message call, is))
    (omega (arith, byte_given message call 2 (omega arith), byte_given message call 3 (omega arith)))
    (message_given message call)
