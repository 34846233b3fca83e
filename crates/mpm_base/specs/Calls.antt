-- A kernel call as it was taken, and its reply, as contracts see them: without what follows the bytes that count.
use Rattle.std.specs.Prelude.{ℕ, ◌+◌, ◌*◌, List, [], Option, None, drop, slice_index_or}
use Rattle.mpm_base.specs.Lists.{zeros, in_width}
use Rattle.mpm_base.specs.declared.number.Name8.{Name8}

-- a call: its function, its parameter, its caller's DMA address, the file control block at its parameter (zeros where
-- it reads none), and the other bytes that it reads, in order
pub record Taken : Type 0 where
  pub function : ℕ
  pub word : ℕ
  pub dma : ℕ
  pub fcb : List ℕ
  pub bytes : List ℕ

-- a reply: the value for HL, the file control block to place, if any, and the bytes to place from an address on
pub record Answer : Type 0 where
  pub hl : ℕ
  pub fcb : Option (List ℕ)
  pub at : ℕ
  pub bytes : List ℕ

-- the call with nothing in it
abbrev pub no_call : Taken
no_call = record { function = 0; word = 0; dma = 0; fcb = zeros 36; bytes = [] }

-- one of the bytes that a call read, 0 where it is missing, and the word at a place, its low byte first
abbrev pub byte_in : Taken → ℕ → ℕ
byte_in call place = slice_index_or call.bytes place 0

abbrev pub word_at : Taken → ℕ → ℕ
word_at call place = byte_in call place + 256 * byte_in call (place + 1)

-- a call without a file control block, by its function, its parameter and its bytes
abbrev pub asking : ℕ → ℕ → List ℕ → Taken
asking function word bytes = record { function = function; word = word; dma = 0; fcb = zeros 36; bytes = bytes }

-- the eight bytes that a call read at a place, with zeros for those that are missing, and the name that they are
abbrev pub eight_at : Taken → ℕ → List ℕ
eight_at call place = in_width 8 (drop place call.bytes)

abbrev pub name_at : Taken → ℕ → Name8
name_at call place = record { 0 = eight_at call place }

-- the reply with nothing in it
abbrev pub no_reply : Answer
no_reply = record { hl = 0; fcb = None; at = 0; bytes = [] }

-- a reply with a value alone
abbrev pub answering : ℕ → Answer
answering value = record { hl = value; fcb = None; at = 0; bytes = [] }
