-- What the reading of a line and of a script answers.
use Rattle.std.specs.Prelude.{◌≡◌, ℕ, List, ◌++◌, Option, Some, None, option_map, Result, Ok, Err}
use Rattle.mpm_script.specs.declared.event.Timed.{Timed}
use Rattle.mpm_script.specs.declared.error.LineRefusal.{LineRefusal}
use Rattle.mpm_script.specs.declared.error.LineRefusal.TheVariants.{Bad, OutOfMemory}
use Rattle.mpm_script.specs.declared.error.ScriptError.{ScriptError}
use Rattle.mpm_script.specs.declared.error.ScriptError.TheVariants as script

-- a refusal comes exactly where nothing is found; want of memory may come in any case
abbrev pub Refuses : {A : Type 0} → LineRefusal → Option A → Type 0
Refuses Bad found = found ≡ None
Refuses OutOfMemory found = Unit {0}

-- what is found joins the old events
abbrev pub AddsEvent : List Timed → List Timed → Result (Unit {0}) LineRefusal → Option (List Timed) → Type 0
AddsEvent old new (Ok _) found = option_map (λ events. old ++ events) found ≡ Some new
AddsEvent old new (Err refusal) found = Refuses refusal found

-- the first bad line is reported; want of memory may come in any case
abbrev pub FaultsScript : {A : Type 0} → ScriptError → Result A ℕ → Type 0
FaultsScript (script.Fault line) read = read ≡ Err line
FaultsScript script.OutOfMemory read = Unit {0}
