-- The text of a message, and its parts without the spaces around them. (MP/M II Programmer's Guide, "Function 150: Send CLI
-- Command"; User's Guide, "Terminal Message Processor".)
use Rattle.std.specs.Prelude.{ℕ, ◌-◌, Bool, not, ◌==◌, List, length, take, drop, take_while}
use Rattle.std.specs.List.{prefix_len, suffix_len}
use Rattle.mpm_base.specs.Texts.{ends_text}

-- the text goes on with a byte: 00h and CR end it
abbrev pub is_text : ℕ → Bool
is_text byte = not (ends_text byte)

abbrev pub text_in : List ℕ → List ℕ
text_in message = take_while is_text message

abbrev pub is_space : ℕ → Bool
is_space byte = byte == 32

-- a text without the spaces at its front, at its end, and at both
abbrev pub without_front : List ℕ → List ℕ
without_front text = drop (prefix_len is_space text) text

abbrev pub without_end : List ℕ → List ℕ
without_end text = take (length text - suffix_len is_space text) text

unfoldable pub stripped : List ℕ → List ℕ
stripped text = without_end (without_front text)
