-- What is typed is a script of six keys.
use Rattle.std.proofs.Common.{◌≡◌, ℕ, List, Result, Ok, Err, refl}
use Rattle.mpm_script.specs.declared.event.Timed.{Timed}
use Rattle.mpm_script.specs.Numbers.{value_from, is_plain, decimal_of, number_of, hex_digit}
use Rattle.mpm_script.specs.Keys.{escaped, key_of, keys_of, typed_of}
use Rattle.mpm_script.specs.Events.{typed_events, ready_event, flag_event, event_of, events_of, line_of}
use Rattle.mpm_script.specs.Scripts.{lines_from, script_of}
use Rattle.mpm_generator.specs.Machines.{typed, script}

pub typed_script : script_of typed ≡ Ok script
unfolding typed value_from is_plain decimal_of number_of hex_digit escaped key_of keys_of typed_of typed_events ready_event flag_event event_of events_of line_of lines_from script_of
typed_script = refl

injective : (one other : List Timed) (read : Result (List Timed) ℕ) → read ≡ Ok one → read ≡ Ok other → one ≡ other
injective one other read was is = cc

pub script_is : (events : List Timed) → script_of typed ≡ Ok events → events ≡ script
script_is events is = injective events script (script_of typed) is typed_script

apart : (one : List Timed) (line : ℕ) (read : Result (List Timed) ℕ) → read ≡ Ok one → read ≡ Err line → ⊥
apart one line read was is = cc

pub no_fault : (line : ℕ) → script_of typed ≡ Err line → ⊥
no_fault line is = apart script line (script_of typed) typed_script is
