-- Jumps, calls and returns; PC stands after the instruction. (UM0080, "Jump Group", "Call and Return Group".)
use Rattle.std.specs.Prelude.{ℕ, ◌+◌, ◌-◌, ◌%◌, ◌==◌, Bool, true, false, not, nat_lt, if◌then◌else◌}
use Rattle.z80_regs.specs.Words.{onward, back, word_from}
use Rattle.z80_regs.specs.Outcome.{StepOutcome}
use Rattle.z80_regs.specs.declared.regs.Regs.{Regs}
use Rattle.z80_exec.specs.Operands.{quiet}
use Rattle.z80_exec.specs.StackPairs.{pushed}

-- where a relative jump goes: a displacement of 80h or more is negative, 256 less
abbrev pub relative : ℕ → ℕ → ℕ
relative address displacement =
    if nat_lt displacement 128 then onward address displacement else (back address (256 - displacement))

-- PC is an address, where a condition holds
abbrev pub jumped_if : Bool → ℕ → Regs → Regs
jumped_if true target regs = record regs { pc = target }
jumped_if false target regs = regs

-- B is 1 less; after 0 comes 255
abbrev pub counted_down : Regs → Regs
counted_down regs = record regs { b = (regs.b + 255) % 256 }

-- DJNZ: a jump where B isn't 0 then
abbrev pub decrement_jumped : ℕ → Regs → Regs
decrement_jumped displacement regs =
    jumped_if (not ((counted_down regs).b == 0)) (relative regs.pc displacement) (counted_down regs)

-- a call: PC is pushed, and is then an address
abbrev pub called : ℕ → Regs → StepOutcome
called target regs = record {
  registers = record regs { pc = target; sp = back regs.sp 2 };
  actions = pushed regs.pc regs;
}

-- the same where a condition holds
abbrev pub called_if : Bool → ℕ → Regs → StepOutcome
called_if true target regs = called target regs
called_if false target regs = quiet regs

-- a return: PC is popped
abbrev pub returned : Regs → (ℕ → ℕ) → Regs
returned regs memory = record regs { pc = word_from memory regs.sp; sp = onward regs.sp 2 }

-- the same where a condition holds
abbrev pub returned_if : Bool → Regs → (ℕ → ℕ) → Regs
returned_if true regs memory = returned regs memory
returned_if false regs memory = regs
