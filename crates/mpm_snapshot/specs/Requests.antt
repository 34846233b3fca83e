-- What the words after the program's name ask.
use Rattle.std.specs.Prelude.{◌≡◌, ◌≤◌, ℕ, false, List, [], ◌∷◌, Option, Some, None, ⊤, codes, bytes_eq, if◌then◌else◌}
use Rattle.mpm_script.specs.Numbers.{number_of}
use Rattle.mpm_script.specs.declared.line.TheConstants.{GREATEST_STEP}
use Rattle.mpm_top.specs.declared.words.Form.TheVariants.{Program}
use Rattle.mpm_top.specs.Words.{Command, steps_of, form_of, command_with}
use Rattle.mpm_top.specs.Beginnings.{command_on}
use Rattle.mpm_snapshot.specs.declared.words.ToSave.{ToSave}

-- to save the core of a process after the steps of a command; or to run the core on that a file has, by at most so many instructions
pub data Request : Type 0 where
  Save : Command → ℕ → Request
  Resume : List ℕ → ℕ → Request

-- a process: decimal digits without a leading zero, at most 31
abbrev pub process_of : List ℕ → Option ℕ
process_of text = number_of 31 text

-- of a command and a process
unfoldable pub save_of : Option Command → Option ℕ → Option Request
save_of None process = None
save_of (Some command) None = None
save_of (Some command) (Some process) = Some (Save command process)

-- of a file, which has a name, and a number of instructions
unfoldable pub resume_of : List ℕ → Option ℕ → Option Request
resume_of [] most = None
resume_of (byte ∷ name) None = None
resume_of (byte ∷ name) (Some most) = Some (Resume (byte ∷ name) most)

-- by the first word
abbrev pub save_by : List ℕ → Option Command → Option ℕ → Option Request
save_by word command process = if bytes_eq word (codes "save") then save_of command process else None

abbrev pub resume_by : List ℕ → List ℕ → Option ℕ → Option Request
resume_by word name most = if bytes_eq word (codes "resume") then resume_of name most else None

-- `save program FILE STEPS PID`, `save run MACHINE STEPS PID` or `resume CORE M`; None where the words have none of these forms
unfoldable pub request_of : List (List ℕ) → Option Request
request_of [] = None
request_of (word ∷ []) = None
request_of (word ∷ name ∷ []) = None
request_of (word ∷ name ∷ most ∷ []) = resume_by word name (steps_of most)
request_of (word ∷ form ∷ name ∷ steps ∷ []) = None
request_of (word ∷ form ∷ name ∷ steps ∷ process ∷ []) =
    save_by word (command_with (form_of form) name (steps_of steps) false) (process_of process)
request_of (word ∷ form ∷ name ∷ steps ∷ process ∷ more ∷ rest) = None

-- that of a file of a name is to be saved
pub record IsSave (request : Option Request) (name : List ℕ) (said : ToSave) : Type 0 where
  pub is : request ≡ Some (Save (command_on name said.asked) said.process)
  pub limit : said.asked.steps ≤ GREATEST_STEP

-- it needs no drive
abbrev pub UsesNoDrive : Request → Type 0
UsesNoDrive (Save command process) = command.form ≡ Program
UsesNoDrive (Resume name most) = ⊤

-- words ask to save what was made of them, or nothing; or to run the core of a name on so far
abbrev pub AsksToSave : Option Request → List ℕ → Option ToSave → Type 0
AsksToSave request name None = request ≡ None
AsksToSave request name (Some said) = IsSave request name said

abbrev pub AsksToResume : Option Request → List ℕ → Option ℕ → Type 0
AsksToResume request name None = request ≡ None
AsksToResume request name (Some most) = request ≡ Some (Resume name most)
