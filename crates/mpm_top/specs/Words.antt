-- The words of the command line.
use Rattle.std.specs.Prelude.{◌≡◌, ◌≤◌, slice_index_or, ℕ, Bool, true, false, List, [], ◌∷◌, map, length, String, string_bytes, bytes_eq, codes, Option, Some, None, if◌then◌else◌}
use Rattle.std.specs.declared.alloc.Global.{Global}
use Rattle.mpm_script.specs.Numbers.{number_of}
use Rattle.mpm_script.specs.declared.line.TheConstants.{GREATEST_STEP}
use Rattle.mpm_top.specs.declared.words.Form.{Form}
use Rattle.mpm_top.specs.declared.words.Form.TheVariants.{Program, Run}
use Rattle.mpm_top.specs.declared.words.Asked.{Asked}

-- what a command asks: its form, the name of its file, how many steps, and whether completed calls are recorded
pub record Command : Type 0 where
  pub form : Form
  pub name : List ℕ
  pub steps : ℕ
  pub trace : Bool

-- the words as their bytes
abbrev pub texts : List (String Global) → List (List ℕ)
texts words = map string_bytes words

-- a number of steps: decimal digits without a leading zero, at most 4,000,000,000
unfoldable pub steps_of : List ℕ → Option ℕ
steps_of text = number_of GREATEST_STEP text

-- the form of a command by its first word
unfoldable pub form_of : List ℕ → Option Form
form_of word =
    if bytes_eq word (codes "program") then Some Program
    else (if bytes_eq word (codes "run") then Some Run else None)

-- the command of a form and a file, which has a name
unfoldable pub command_with : Option Form → List ℕ → Option ℕ → Bool → Option Command
command_with None name steps trace = None
command_with (Some form) [] steps trace = None
command_with (Some form) (byte ∷ name) None trace = None
command_with (Some form) (byte ∷ name) (Some steps) trace =
    Some (record { form = form; name = byte ∷ name; steps = steps; trace = trace })

-- what the words ask: `program` or `run`, a file, a number of steps, and perhaps `--trace`; None where they have no such
-- form
unfoldable pub command_of : List (List ℕ) → Option Command
command_of [] = None
command_of (word ∷ []) = None
command_of (word ∷ file ∷ []) = None
command_of (word ∷ file ∷ steps ∷ []) = command_with (form_of word) file (steps_of steps) false
command_of (word ∷ file ∷ steps ∷ last ∷ []) =
    if bytes_eq last (codes "--trace") then command_with (form_of word) file (steps_of steps) true else None
command_of (word ∷ file ∷ steps ∷ last ∷ more ∷ rest) = None

-- a command asks that of a file of that name
pub record IsAsked (command : Option Command) (name : List ℕ) (asked : Asked) : Type 0 where
  pub is : command ≡ Some (record { form = asked.form; name = name; steps = asked.steps; trace = asked.trace })
  pub limit : asked.steps ≤ GREATEST_STEP

-- the words ask that of the file of the second of them
pub record AreAsking (words : List (List ℕ)) (asked : Asked) : Type 0 where
  pub command : IsAsked (command_of words) (slice_index_or words 1 []) asked
  pub count : 3 ≤ length words
