-- Texts in a caller's memory. (MP/M II Programmer's Guide, "Function 9: Print String", "Function 47: Chain to Program", "Function
-- 150: Send CLI Command".)
use Rattle.std.specs.Prelude.{ℕ, List, Bool, not, ◌==◌, take_while}
use Rattle.mpm_base.specs.Texts.{ends_text}
use Rattle.mpm_gate.specs.Bytes.{bytes_from}
use Rattle.mpm_gate.specs.declared.take.TextEnd.{TextEnd}
use Rattle.mpm_gate.specs.declared.take.TextEnd.TheVariants.{Dollar, NullOrReturn}

-- whether a byte ends a text: a dollar sign that of a string to print
abbrev pub ends : TextEnd → ℕ → Bool
ends Dollar byte = byte == 36
ends NullOrReturn byte = ends_text byte

-- the text at an address: the bytes before its end, at most so many
unfoldable pub text_from : TextEnd → (ℕ → ℕ) → ℕ → ℕ → List ℕ
text_from end memory address most = take_while (λ byte. not (ends end byte)) (bytes_from memory address most)
