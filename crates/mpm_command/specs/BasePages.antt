-- The base page of a program. (MP/M II System Guide, "Memory Segment Base Page Initialization"; Programmer's Guide, "Function
-- 152: Parse Filename".)
use Rattle.std.specs.Prelude.{ℕ, List, [], ◌∷◌, ◌++◌, length, map, drop, Option, Some, None}
use Rattle.std.specs.Char.{to_ascii_uppercase}
use Rattle.mpm_base.specs.Lists.{zeros}
use Rattle.mpm_banks.specs.Gates.{end_gate, call_gate}
use Rattle.mpm_names.specs.Spellings.{parsed}
use Rattle.mpm_names.specs.declared.file_name.Parsed.{Parsed}
use Rattle.mpm_command.specs.Texts.{first_word, second_word}

-- the jumps to the gates of a last page: at 00h to the one that ends the process, at 05h to the one that calls the kernel
abbrev pub gate_jumps : ℕ → List ℕ
gate_jumps page = 195 ∷ end_gate ∷ page ∷ 0 ∷ 0 ∷ 195 ∷ call_gate ∷ page ∷ []

-- the first sixteen bytes of a file control block: the drive, the name with its type, four zeros
abbrev pub block_named : Parsed → List ℕ
block_named name = name.drive ∷ (name.name ++ (0 ∷ 0 ∷ 0 ∷ 0 ∷ []))

-- those without a name: drive 0 and eleven spaces
abbrev pub no_name : List ℕ
no_name = 0 ∷ 32 ∷ 32 ∷ 32 ∷ 32 ∷ 32 ∷ 32 ∷ 32 ∷ 32 ∷ 32 ∷ 32 ∷ 32 ∷ 0 ∷ 0 ∷ 0 ∷ 0 ∷ []

-- those of a word: without a name where it is no file name
abbrev pub block_or_none : Option Parsed → List ℕ
block_or_none None = no_name
block_or_none (Some name) = block_named name

abbrev pub block_of : List ℕ → List ℕ
block_of word = block_or_none (parsed word)

-- a tail in upper case, with zeros after it, in 127 bytes; and after its length
abbrev pub upper_tail : List ℕ → List ℕ
upper_tail tail = map to_ascii_uppercase (tail ++ drop (length tail) (zeros 127))

abbrev pub tail_bytes : List ℕ → List ℕ
tail_bytes tail = length tail ∷ upper_tail tail

-- the base page: the jumps, at 5Ch and 6Ch the file control blocks of the tail's first two words, at 80h the tail
unfoldable pub base_page : ℕ → List ℕ → List ℕ
base_page page tail =
    gate_jumps page ++ (zeros 84 ++ (block_of (first_word tail) ++ (block_of (second_word tail) ++ (zeros 4 ++ tail_bytes tail))))
