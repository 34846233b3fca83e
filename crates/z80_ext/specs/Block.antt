-- The block instructions: one transfer a step. (UM0080, "Exchange, Block Transfer, and Search Group", "Input and Output
-- Group".)
use Rattle.std.specs.Prelude.{ℕ, ◌∷◌, ◌==◌, ◌&&◌, Bool, true, false, not}
use Rattle.z80_regs.specs.Words.{onward, back}
use Rattle.z80_regs.specs.Outcome.{Input, StepOutcome}
use Rattle.z80_regs.specs.declared.regs.Regs.{Regs}
use Rattle.z80_alu.specs.Single.{block_load_flags_of, block_compare_flags_of, block_port_flags_of}
use Rattle.z80_decode.specs.declared.forms.Pair.TheVariants.{BC, DE, HL}
use Rattle.z80_decode.specs.declared.page_forms.Transfer.{Transfer}
use Rattle.z80_decode.specs.declared.page_forms.Transfer.TheVariants as transfer
use Rattle.z80_decode.specs.declared.page_forms.Direction.{Direction}
use Rattle.z80_decode.specs.declared.page_forms.Direction.TheVariants.{Up, Down}
use Rattle.z80_exec.specs.Operands.{quiet, stored, hl_of, pair_word, with_pair}
use Rattle.z80_exec.specs.Flow.{counted_down}

-- an address one on or one back
abbrev pub walked : Direction → ℕ → ℕ
walked Up address = onward address 1
walked Down address = back address 1

-- PC stands before the instruction again, where it is repeated
abbrev pub again_if : Bool → Regs → Regs
again_if true regs = record regs { pc = back regs.pc 2 }
again_if false regs = regs

-- BC one less
abbrev pub left_over : Regs → ℕ
left_over regs = back (pair_word BC regs) 1

-- whether it isn't 0
abbrev pub has_more : Regs → Bool
has_more regs = not (left_over regs == 0)

-- HL one on or one back
abbrev pub hl_walked : Direction → Regs → Regs
hl_walked direction regs = with_pair HL (walked direction (hl_of regs)) regs

-- HL and BC after a step of LD or CP
abbrev pub counted : Direction → Regs → Regs
counted direction regs = with_pair BC (left_over regs) (hl_walked direction regs)

-- the registers after a step of LD
abbrev pub load_stepped : Direction → Regs → Regs
load_stepped direction regs = record (with_pair DE (walked direction (pair_word DE regs)) (counted direction regs)) {
  f = block_load_flags_of (has_more regs) regs.f;
}

-- LDI, LDD, LDIR, LDDR: the byte at HL goes to DE
abbrev pub block_loaded : Direction → Bool → Regs → (ℕ → ℕ) → StepOutcome
block_loaded direction repeats regs memory =
    stored (pair_word DE regs) (memory (hl_of regs)) (again_if (repeats && has_more regs) (load_stepped direction regs))

-- the registers after a step of CP with a byte
abbrev pub compare_stepped : Direction → ℕ → Regs → Regs
compare_stepped direction byte regs = record (counted direction regs) {
  f = block_compare_flags_of regs.a byte (has_more regs) regs.f;
}

-- CPI, CPD, CPIR, CPDR: A is compared with the byte at HL; a repeat ends where they are equal
abbrev pub block_compared : Direction → Bool → ℕ → Regs → Regs
block_compared direction repeats byte regs =
    again_if (repeats && (has_more regs && not (regs.a == byte))) (compare_stepped direction byte regs)

-- the registers after a step of IN or OUT: B is one less
abbrev pub port_stepped : Direction → Regs → Regs
port_stepped direction regs = record (counted_down (hl_walked direction regs)) {
  f = block_port_flags_of ((counted_down regs).b == 0) regs.f;
}

-- the same, repeated while B isn't 0
abbrev pub port_repeated : Direction → Bool → Regs → Regs
port_repeated direction repeats regs =
    again_if (repeats && not ((counted_down regs).b == 0)) (port_stepped direction regs)

-- a port is read before what else an instruction does
abbrev pub after_input : ℕ → StepOutcome → StepOutcome
after_input port outcome = record { registers = outcome.registers; actions = Input port ∷ outcome.actions }

-- INI, IND, INIR, INDR: the byte of the port C goes to HL
abbrev pub block_input : Direction → Bool → Regs → (ℕ → ℕ) → StepOutcome
block_input direction repeats regs ports =
    after_input regs.c (stored (hl_of regs) (ports regs.c) (port_repeated direction repeats regs))

-- the block instructions; OUTI, OUTD, OTIR, OTDR change registers alone
abbrev pub block_performed : Transfer → Direction → Bool → Regs → (ℕ → ℕ) → (ℕ → ℕ) → StepOutcome
block_performed transfer.Load direction repeats regs memory ports = block_loaded direction repeats regs memory
block_performed transfer.Compare direction repeats regs memory ports =
    quiet (block_compared direction repeats (memory (hl_of regs)) regs)
block_performed transfer.Input direction repeats regs memory ports = block_input direction repeats regs ports
block_performed transfer.Output direction repeats regs memory ports = quiet (port_repeated direction repeats regs)
