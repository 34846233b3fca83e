-- A line that is read from a console, one key a step: what is written for each key, where the line ends, and what is
-- answered. (MP/M II Programmer's Guide, "Function 10: Read Console Buffer".)
use Rattle.std.specs.Prelude.{◌≡◌, ℕ, ◌+◌, ◌%◌, Bool, true, false, ◌==◌, ◌||◌, nat_le, nat_lt, if◌then◌else◌, List, [], ◌∷◌, ◌++◌, length, take, drop}
use Rattle.mpm_base.specs.Calls.{Answer, answering}
use Rattle.mpm_line_input.specs.Keys.{key_of, line_after}
use Rattle.mpm_line_input.specs.declared.line.LineKey.{LineKey}
use Rattle.mpm_line_input.specs.declared.line.LineKey.TheVariants.{End, Rubout, Cancel, Join}

-- the line so far is the first bytes of those that are kept
abbrev pub so_far : List ℕ → ℕ → List ℕ
so_far kept count = take count kept

-- a line as it is kept: at the front, and the bytes after it as they were
unfoldable pub stored : List ℕ → List ℕ → List ℕ
stored line kept = line ++ drop (length line) kept

-- a key changes a line that is kept
pub record ChangesLine (key : ℕ) (kept : List ℕ) (count : ℕ) (afterwards : List ℕ) (left : ℕ) : Type 0 where
  pub line : afterwards ≡ stored (line_after (so_far kept count) key) kept
  pub size : left ≡ length (line_after (so_far kept count) key)
  pub front : so_far afterwards left ≡ line_after (so_far kept count) key

-- a line is full that has the greatest length or more
abbrev pub is_full : ℕ → ℕ → Bool
is_full count greatest = nat_le greatest count

-- a key that joined the line is shown as itself, below 20h as `^` and the letter
abbrev pub shown : ℕ → List ℕ
shown key = if nat_lt key 32 then 94 ∷ (key + 64) ∷ [] else (key ∷ [])

-- what is written for a key of a meaning
abbrev pub echo_by : LineKey → List ℕ → ℕ → List ℕ
echo_by End line key = []
echo_by Rubout line key = if length line == 0 then [] else (8 ∷ 32 ∷ 8 ∷ [])
echo_by Cancel line key = 35 ∷ 13 ∷ 10 ∷ []
echo_by Join line key = shown key

-- what is written for a key, but for the end
unfoldable pub echo_of : List ℕ → ℕ → List ℕ
echo_of line key = echo_by (key_of key) line key

abbrev pub is_end : LineKey → Bool
is_end End = true
is_end _ = false

-- whether a line ends that has so many bytes after a key: the key is CR or LF, or the line is full
unfoldable pub ends_at : ℕ → ℕ → ℕ → Bool
ends_at count greatest key = is_end (key_of key) || is_full count greatest

-- whether a line ends with a key
abbrev pub ends : List ℕ → ℕ → ℕ → Bool
ends line greatest key = ends_at (length (line_after line key)) greatest key

-- CR is written where a line ends
abbrev pub line_end : List ℕ
line_end = 13 ∷ []

-- what is written in the step in which a line takes a key
abbrev pub written_by : List ℕ → ℕ → ℕ → List ℕ
written_by line greatest key = echo_of line key ++ (if ends line greatest key then line_end else [])

-- the answer to a line that ended, for a buffer at an address: its length after the greatest length, and its bytes
unfoldable pub line_answer : List ℕ → ℕ → Answer
line_answer line address = record (answering 0) { at = (address + 1) % 65536; bytes = length line ∷ line }
