-- The parts of the text of a command: it ends at 00h or CR, and spaces part its words. (MP/M II Programmer's Guide, "Function
-- 150: Send CLI Command".)
use Rattle.std.specs.Prelude.{ℕ, Bool, not, ◌==◌, List, drop, take_while}
use Rattle.std.specs.List.{prefix_len}
use Rattle.mpm_base.specs.Texts.{ends_text}
use Rattle.mpm_command.specs.declared.text.Run.{Run}
use Rattle.mpm_command.specs.declared.text.Run.TheVariants.{Text, Word, Spaces}

-- whether a byte may stand in a run
abbrev pub is_of : Run → ℕ → Bool
is_of Text byte = not (ends_text byte)
is_of Word byte = not (byte == 32)
is_of Spaces byte = byte == 32

-- the run with which a text begins, and what follows it
abbrev pub run_of : Run → List ℕ → List ℕ
run_of kind text = take_while (is_of kind) text

abbrev pub behind_run : Run → List ℕ → List ℕ
behind_run kind text = drop (prefix_len (is_of kind) text) text

-- the first word, what follows it, and the second word
unfoldable pub first_word : List ℕ → List ℕ
first_word text = run_of Word (behind_run Spaces text)

unfoldable pub behind_first : List ℕ → List ℕ
behind_first text = behind_run Word (behind_run Spaces text)

abbrev pub second_word : List ℕ → List ℕ
second_word text = first_word (behind_first text)
