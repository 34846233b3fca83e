-- One console: its owner, the keys that were typed, whether its output is stopped, its column. (MP/M II Programmer's Guide,
-- "Function 146: Attach Console"; MP/M II User's Guide, control characters of a console.)
use Rattle.std.specs.Prelude.{◌≡◌, ℕ, ◌+◌, ◌-◌, ◌^◌, ◌≤◌, Bool, true, false, List, [], ◌∷◌, ◌++◌, Option, Some, None, ◌==◌, nat_lt, min, length, drop, slice_get, if◌then◌else◌}
use Rattle.mpm_consoles.specs.declared.console.TheConstants.{KEYS}
use Rattle.mpm_consoles.specs.declared.console.Awaited.{Awaited}
use Rattle.mpm_consoles.specs.declared.console.Awaited.TheVariants.{Key, Output}
use Rattle.mpm_consoles.specs.Columns.{columns_after, text_of}

-- the process that owns it, the typed keys that nobody took yet, the oldest first, how many were lost, whether control
-- characters are keys like others, whether output is stopped, the column, and what its owner waits for at its gate
pub record Console : Type 0 where
  pub owner : Option ℕ
  pub keys : List ℕ
  pub lost : ℕ
  pub raw : Bool
  pub stopped : Bool
  pub column : ℕ
  pub awaits : Option Awaited

-- as it is at first: nobody owns it
unfoldable pub new_console : Console
new_console = record { owner = None; keys = []; lost = 0; raw = false; stopped = false; column = 0; awaits = None }

-- whether it is this process that owns a unit, where one does
abbrev pub is_owner : Option ℕ → ℕ → Bool
is_owner None p = false
is_owner (Some owner) p = owner == p

-- a change of owner: it is neither raw nor stopped, and nobody waits at its gate; typed keys, their count and the column stay
unfoldable pub passed_to : Option ℕ → Console → Console
passed_to owner console = record console { owner = owner; raw = false; stopped = false; awaits = None }

-- it is made raw, or not; one that is made raw isn't stopped any more
unfoldable pub with_raw : Bool → Console → Console
with_raw raw console = record console { raw = raw; stopped = if raw then false else console.stopped }

-- its output is stopped
unfoldable pub with_output_stopped : Console → Console
with_output_stopped console = record console { stopped = true }

-- its owner waits at its gate: for a key, or for stopped output to go on
abbrev pub awaited_for : Bool → Awaited
awaited_for key = if key then Key else Output

unfoldable pub awaiting : Awaited → Console → Console
awaiting what console = record console { awaits = Some what }

abbrev pub is_for : Option Awaited → Awaited → Bool
is_for None what = false
is_for (Some Key) Key = true
is_for (Some Key) Output = false
is_for (Some Output) Key = false
is_for (Some Output) Output = true

-- the owner that waits for something, if it does, and that it waits no more where it did
unfoldable pub woken : Awaited → Console → Option ℕ
woken what console = if is_for console.awaits what then console.owner else None

unfoldable pub awakened : Awaited → Console → Console
awakened what console = if is_for console.awaits what then record console { awaits = None } else console

-- its owner, if that is the process, waits at its gate no more
unfoldable pub without_wait_of : ℕ → Console → Console
without_wait_of p console = if is_owner console.owner p then record console { awaits = None } else console

-- its output goes on
unfoldable pub resumed : Console → Console
resumed console = awakened Output (record console { stopped = false })

-- it has room for so many keys; one for which there is no room is counted, as far as the count goes
abbrev pub has_room : Console → Bool
has_room console = nat_lt (length console.keys) KEYS

unfoldable pub with_key : ℕ → Console → Console
with_key byte console =
    if has_room console then record console { keys = console.keys ++ byte ∷ [] }
    else (record console { lost = min (console.lost + 1) (2 ^ 64 - 1) })

-- a key is typed
unfoldable pub typed : ℕ → Console → Console
typed byte console = awakened Key (with_key byte console)

-- the oldest key, and the console without it
abbrev pub first_key : Console → Option ℕ
first_key console = slice_get console.keys 0

unfoldable pub without_first : Console → Console
without_first console = record console { keys = drop 1 console.keys }

-- bytes come to it as they are
unfoldable pub spoken : List ℕ → Console → Console
spoken bytes console = record console { column = columns_after console.column bytes }

-- a byte is written, as itself or with a tab expanded
unfoldable pub written : ℕ → Bool → Console → Console
written byte tabs console = spoken (text_of console.column byte tabs) console

-- a call makes one value of another, and answers something
pub record MakesAndAnswers {T A : Type 0} (value : T) (answer : A) (now : T) (result : A) : Type 0 where
  pub made : now ≡ value
  pub answered : result ≡ answer

-- what is so of a console at any time: at most so many keys are there, a raw console isn't stopped, and who waits at its gate is
-- its owner
pub record IsProperConsole (console : Console) : Type 0 where
  pub keys : length console.keys ≤ KEYS
  pub lost : console.lost ≤ 2 ^ 64 - 1
  pub column : console.column ≤ 65535
  pub raw : console.raw ≡ true → console.stopped ≡ false
  pub gate : console.owner ≡ None → console.awaits ≡ None
