-- The events of a line of a script.
use Rattle.std.specs.Prelude.{ℕ, ◌<◌, ◌≤◌, Bool, ◌==◌, ◌||◌, nat_le, if◌then◌else◌, List, [], ◌∷◌, length, map, slice_index, bytes_eq, codes, Option, Some, None, option_map}
use Rattle.std.specs.List.{before_first, after_first}
use Rattle.mpm_script.specs.declared.line.TheConstants.{GREATEST_STEP}
use Rattle.mpm_script.specs.declared.event.Event.{Event}
use Rattle.mpm_script.specs.declared.event.Event.TheVariants.{Tick, Key, Ready, Int}
use Rattle.mpm_script.specs.declared.event.Timed.{Timed}
use Rattle.mpm_script.specs.Numbers.{◌>>=◌, number_of, hex_byte}
use Rattle.mpm_script.specs.Keys.{typed_of}

-- a text up to its first space, and what follows that space
abbrev pub word : List ℕ → List ℕ
word text = before_first (λ byte. byte == 32) text

abbrev pub behind : List ℕ → List ℕ
behind text = after_first (λ byte. byte == 32) text

-- `C TEXT`: the keys that are typed at a console
unfoldable pub typed_events : List ℕ → Option (List Event)
typed_events text = do
  console ← number_of 7 (word text)
  keys ← typed_of (behind text)
  Some (map (λ byte. Key console byte) keys)

-- two hexadecimal digits
abbrev pub byte_of : List ℕ → Option ℕ
byte_of text = if length text == 2 then hex_byte (slice_index text 0) (slice_index text 1) else None

-- `D HH`: a device that becomes ready with a byte
unfoldable pub ready_event : List ℕ → Option Event
ready_event text = do
  device ← number_of 15 (word text)
  byte ← byte_of (behind text)
  Some (Ready device byte)

-- `F`: a flag that is set; flags 0 to 3 are the system's
unfoldable pub flag_event : List ℕ → Option Event
flag_event text = do
  flag ← number_of 31 text
  if nat_le 4 flag then Some (Int flag) else None

-- `tick`, `ready D HH` or `int F`
unfoldable pub event_of : List ℕ → Option Event
event_of text =
    if bytes_eq text (codes "tick") then Some Tick
    else if bytes_eq (word text) (codes "ready") then ready_event (behind text)
    else if bytes_eq (word text) (codes "int") then flag_event (behind text)
    else None

-- what follows the step of a line
unfoldable pub events_of : List ℕ → Option (List Event)
events_of text =
    if bytes_eq (word text) (codes "key") then typed_events (behind text) else option_map (λ event. event ∷ []) (event_of text)

-- events at a step
abbrev pub at_step : ℕ → List Event → List Timed
at_step step events = map (λ event. record { step = step; event = event }) events

-- keys that are typed at a console, at a step
abbrev pub keys_at : ℕ → ℕ → List ℕ → List Timed
keys_at step console keys = at_step step (map (λ byte. Key console byte) keys)

-- the step of a line, which doesn't go back
abbrev pub step_of : ℕ → List ℕ → Option ℕ
step_of least text = do
  step ← number_of GREATEST_STEP text
  if nat_le least step then Some step else None

-- an empty line and one that begins with `#` say nothing
abbrev pub is_skipped : List ℕ → Bool
is_skipped line = length line == 0 || slice_index line 0 == 35

-- the events of a line whose step is no less than the least
unfoldable pub line_of : ℕ → List ℕ → Option (List Timed)
line_of least line =
    if is_skipped line then Some [] else (do
      step ← step_of least (word line)
      events ← events_of (behind line)
      Some (at_step step events))

-- an event of a console, a device or a flag that there may be
abbrev pub IsEvent : Event → Type 0
IsEvent Tick = Unit {0}
IsEvent (Key console byte) = console < 8
IsEvent (Ready device byte) = device < 16
IsEvent (Int flag) = (4 ≤ flag) × (flag ≤ 31)

-- at a step that a run may have
pub record IsTimed (timed : Timed) : Type 0 where
  pub step : timed.step ≤ GREATEST_STEP
  pub event : IsEvent timed.event
