-- What has its width: registers, and what an instruction does to a bus.
use Rattle.std.specs.Prelude.{ℕ, ◌<◌}
use Rattle.z80_regs.specs.Outcome.{Action, Write, Input}
use Rattle.z80_regs.specs.declared.regs.Regs.{Regs}

-- each register is below 2 to the power of its bits, and the interrupt mode is 0 to 2
pub record RegistersFit (regs : Regs) : Type 0 where
  pub a : regs.a < 256
  pub f : regs.f < 256
  pub b : regs.b < 256
  pub c : regs.c < 256
  pub d : regs.d < 256
  pub e : regs.e < 256
  pub h : regs.h < 256
  pub l : regs.l < 256
  pub a2 : regs.a2 < 256
  pub f2 : regs.f2 < 256
  pub b2 : regs.b2 < 256
  pub c2 : regs.c2 < 256
  pub d2 : regs.d2 < 256
  pub e2 : regs.e2 < 256
  pub h2 : regs.h2 < 256
  pub l2 : regs.l2 < 256
  pub ix : regs.ix < 65536
  pub iy : regs.iy < 65536
  pub sp : regs.sp < 65536
  pub pc : regs.pc < 65536
  pub i : regs.i < 256
  pub r : regs.r < 256
  pub mode : regs.mode < 3

-- each number below the count reads a byte: each address of 16 bits, or each port of 8
abbrev pub ReadsBytes : ℕ → (ℕ → ℕ) → Type 0
ReadsBytes count reads = (n : ℕ) → n < count → reads n < 256

-- an address has 16 bits, a byte and a port have 8
abbrev pub ActionFits : Action → Type 0
ActionFits (Write address byte) = (address < 65536) × (byte < 256)
ActionFits (Input port) = port < 256
