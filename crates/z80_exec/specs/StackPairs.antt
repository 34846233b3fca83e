-- What is pushed and popped. (UM0080, "PUSH qq" and "POP qq".)
use Rattle.std.specs.Prelude.{ℕ, List, [], ◌∷◌}
use Rattle.z80_regs.specs.Words.{back, word_of, low, high}
use Rattle.z80_regs.specs.Outcome.{Action, Write}
use Rattle.z80_regs.specs.declared.regs.Regs.{Regs}
use Rattle.z80_decode.specs.declared.forms.StackPair.{StackPair}
use Rattle.z80_decode.specs.declared.forms.StackPair.TheVariants.{BC, DE, HL, AF}

-- the word in a pair
abbrev pub stack_pair_word : StackPair → Regs → ℕ
stack_pair_word BC regs = word_of regs.c regs.b
stack_pair_word DE regs = word_of regs.e regs.d
stack_pair_word HL regs = word_of regs.l regs.h
stack_pair_word AF regs = word_of regs.f regs.a

-- the registers with a word in a pair
abbrev pub with_stack_pair : StackPair → ℕ → Regs → Regs
with_stack_pair BC word regs = record regs { b = high word; c = low word }
with_stack_pair DE word regs = record regs { d = high word; e = low word }
with_stack_pair HL word regs = record regs { h = high word; l = low word }
with_stack_pair AF word regs = record regs { a = high word; f = low word }

-- a word pushed: first its high byte goes to SP - 1, then its low byte to SP - 2
abbrev pub pushed : ℕ → Regs → List Action
pushed word regs = Write (back regs.sp 1) (high word) ∷ Write (back regs.sp 2) (low word) ∷ []
