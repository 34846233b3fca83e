-- Bytes of a caller's memory, which is seen as the byte of each address. Addresses go on from FFFFh to 0000h.
use Rattle.std.specs.Prelude.{◌≡◌, ℕ, ◌<◌, List, map}
use Rattle.std.specs.List.{range_with_len}
use Rattle.z80_regs.specs.Words.{onward}

-- so many bytes from an address on
unfoldable pub bytes_from : (ℕ → ℕ) → ℕ → ℕ → List ℕ
bytes_from memory address count = map (λ k. memory (onward address k)) (range_with_len 0 count)

-- an address is one of so many from one on
pub record IsNamed (address count at : ℕ) : Type 0 where
  pub index : ℕ
  pub below : index < count
  pub is : at ≡ onward address index
