-- A script: lines in the order of their steps.
use Rattle.std.specs.Prelude.{ℕ, ◌+◌, ◌==◌, nat_lt, if◌then◌else◌, length, List, [], ◌∷◌, ◌++◌, map, fold, All, Option, Some, None, Result, Ok, Err}
use Rattle.std.specs.List.{before_first, after_first}
use Rattle.std.specs.List.Sorted.{IsNonDecreasing}
use Rattle.std.specs.Str.Lines.{lines, strip_carriage_return}
use Rattle.mpm_script.specs.declared.event.Timed.{Timed}
use Rattle.mpm_script.specs.Events.{line_of, IsTimed}

-- the first line of a text: up to its LF, without one CR before that, or the whole text
abbrev pub first_line : List ℕ → List ℕ
first_line text =
    let line = before_first (λ byte. byte == 10) text in
    if nat_lt (length line) (length text) then strip_carriage_return line else line

-- what follows the first line
abbrev pub behind_line : List ℕ → List ℕ
behind_line text = after_first (λ byte. byte == 10) text

-- the step of the last event, 0 where there is none
abbrev pub last_step : List Timed → ℕ
last_step events = fold (λ _ timed. timed.step) 0 events

-- what a line's events lead to, or the line's number where it is bad
abbrev pub unless_bad : ℕ → Option (List Timed) → (List Timed → Result (List Timed) ℕ) → Result (List Timed) ℕ
unless_bad number None more = Err number
unless_bad number (Some events) more = more events

-- the events so far and those of some lines, of which the first has a number; the number of the first bad line
unfoldable pub lines_from : ℕ → List Timed → List (List ℕ) → Result (List Timed) ℕ
lines_from number so_far [] = Ok so_far
lines_from number so_far (line ∷ rest) =
    unless_bad number (line_of (last_step so_far) line) (λ events. lines_from (number + 1) (so_far ++ events) rest)

-- the events of a text, or the number of its first bad line, counted from 1. A line ends with LF, before which one CR is
-- dropped; the last may end with the text
unfoldable pub script_of : List ℕ → Result (List Timed) ℕ
script_of text = lines_from 1 [] (lines text)

-- events that there may be, none of them before the one in front of it
pub record IsScript (events : List Timed) : Type 0 where
  pub each : All IsTimed events
  pub order : IsNonDecreasing (map (λ timed. timed.step) events)
