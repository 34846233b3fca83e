-- Loads of HL, exchanges, the stack, and input. (UM0080, "16-Bit Load Group", "Exchange, Block Transfer, and Search
-- Group", "Input and Output Group".)
use Rattle.std.specs.Prelude.{ℕ, List, [], ◌∷◌}
use Rattle.z80_regs.specs.Words.{onward, back, low, high, word_from}
use Rattle.z80_regs.specs.Outcome.{Action, Write, Input, StepOutcome}
use Rattle.z80_regs.specs.declared.regs.Regs.{Regs}
use Rattle.z80_decode.specs.declared.forms.Pair.TheVariants.{HL}
use Rattle.z80_decode.specs.declared.forms.StackPair.{StackPair}
use Rattle.z80_exec.specs.Operands.{hl_of, with_pair}
use Rattle.z80_exec.specs.StackPairs.{stack_pair_word, with_stack_pair, pushed}

-- a word goes to memory, low byte first: LD (nn),HL and its kin
abbrev pub word_written : ℕ → ℕ → List Action
word_written address word = Write address (low word) ∷ Write (onward address 1) (high word) ∷ []

abbrev pub word_stored : ℕ → ℕ → Regs → StepOutcome
word_stored address word regs = record { registers = regs; actions = word_written address word }

-- EX AF,AF'
abbrev pub af_exchanged : Regs → Regs
af_exchanged regs = record regs { a = regs.a2; f = regs.f2; a2 = regs.a; f2 = regs.f }

-- EXX
abbrev pub set_exchanged : Regs → Regs
set_exchanged regs = record regs {
  b = regs.b2;
  c = regs.c2;
  d = regs.d2;
  e = regs.e2;
  h = regs.h2;
  l = regs.l2;
  b2 = regs.b;
  c2 = regs.c;
  d2 = regs.d;
  e2 = regs.e;
  h2 = regs.h;
  l2 = regs.l;
}

-- EX DE,HL
abbrev pub de_exchanged : Regs → Regs
de_exchanged regs = record regs { d = regs.h; e = regs.l; h = regs.d; l = regs.e }

-- a word in the place of that on the stack, high byte first
abbrev pub top_replaced : ℕ → Regs → List Action
top_replaced word regs = Write (onward regs.sp 1) (high word) ∷ Write regs.sp (low word) ∷ []

-- EX (SP),HL: both bytes are read before one is written
abbrev pub stack_exchanged : Regs → (ℕ → ℕ) → StepOutcome
stack_exchanged regs memory = record {
  registers = with_pair HL (word_from memory regs.sp) regs;
  actions = top_replaced (hl_of regs) regs;
}

-- a word is pushed
abbrev pub word_pushed : ℕ → Regs → StepOutcome
word_pushed word regs = record {
  registers = record regs { sp = back regs.sp 2 };
  actions = pushed word regs;
}

-- PUSH qq
abbrev pub pair_pushed : StackPair → Regs → StepOutcome
pair_pushed pair regs = word_pushed (stack_pair_word pair regs) regs

-- POP qq
abbrev pub pair_popped : StackPair → Regs → (ℕ → ℕ) → Regs
pair_popped pair regs memory =
    with_stack_pair pair (word_from memory regs.sp) (record regs { sp = onward regs.sp 2 })

-- IN A,(n)
abbrev pub a_input : ℕ → Regs → (ℕ → ℕ) → StepOutcome
a_input port regs ports = record {
  registers = record regs { a = ports port };
  actions = Input port ∷ [];
}
