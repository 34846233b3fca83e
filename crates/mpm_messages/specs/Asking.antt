-- The calls that the processes of the system make, each by a table of its own.
use Rattle.std.specs.Prelude.{◌≡◌, ℕ, List, Option, Some, None}
use Rattle.mpm_base.specs.Calls.{Taken}

-- a call on a file has its control block
abbrev pub asking_file : ℕ → List ℕ → List ℕ → Taken
asking_file function fcb bytes = record { function = function; word = 0; dma = 0; fcb = fcb; bytes = bytes }

-- the file control block as a call answers it
abbrev pub block_after : Option (List ℕ) → List ℕ → List ℕ
block_after None fcb = fcb
block_after (Some block) fcb = block

-- a process fills in the call of its row, and stays in that row
pub record Asks {A : Type 0} (call_of : A → Taken) (old new : A) (filled : Taken) : Type 0 where
  pub stays : new ≡ old
  pub call : filled ≡ call_of old
