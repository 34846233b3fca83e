-- How calls name queues and hand them messages. (MP/M II Programmer's Guide, "User Queue Control Block"; "Function 151: Call
-- Resident System Procedure".)
use Rattle.std.specs.Prelude.{◌≡◌, ℕ, ◌-◌, IfSome, List, ◌++◌, [], ◌∷◌, Option, Some, None, ◌&&◌, nat_le, if◌then◌else◌}
use Rattle.z80_regs.specs.Words.{low, high, word_of}
use Rattle.mpm_base.specs.Lists.{zeros}
use Rattle.mpm_base.specs.Calls.{Taken}
use Rattle.mpm_base.specs.declared.functions.TheConstants.{WRITE_QUEUE}
use Rattle.mpm_queues.specs.Queues.{Queues, is_made, IsMade}

-- the queue that a pointer names
unfoldable pub pointed : Queues → ℕ → Option ℕ
pointed t pointer =
    if nat_le 1 pointer && (nat_le pointer 32 && is_made t (pointer - 1)) then Some (pointer - 1) else None

-- that queue, which is there
pub record NamesQueue (t : Queues) (pointer : ℕ) (result : Option ℕ) : Type 0 where
  pub number : result ≡ pointed t pointer
  pub made : IfSome result (λ q. IsMade t q)

-- the address that a message is
abbrev pub address_of : List ℕ → ℕ
address_of [] = 0
address_of (l ∷ []) = 0
address_of (l ∷ h ∷ rest) = word_of l h

-- a call that writes a message of two bytes to a queue
unfoldable pub writing : ℕ → Taken
writing message =
    record { function = WRITE_QUEUE; word = 0; dma = 0; fcb = zeros 36; bytes = zeros 12 ++ (low message ∷ high message ∷ []) }
