-- What contracts say of all drives for which images stand, of each call as it enters service, and while it is served.
use Rattle.std.specs.Prelude.{◌≡◌, ℕ, ◌<◌, Bool, List, Option, Some}
use Rattle.mpm_base.specs.Calls.{Taken}
use Rattle.mpm_mount.specs.Drives.{Drive}
use Rattle.mpm_jobs.specs.declared.jobs.Job.{Job}
use Rattle.mpm_opens.specs.Opens.{OpenFiles}
use Rattle.mpm_files.specs.Plans.{turns_of}
use Rattle.mpm_files.specs.Turning.{Suits}
use Rattle.mpm_file_functions.specs.declared.functions.FileFunction.{FileFunction}
use Rattle.mpm_file_functions.specs.Functions.{function_of}
use Rattle.mpm_refusals.specs.declared.caller.FileCall.{FileCall}
use Rattle.mpm_refusals.specs.Asking.{called}
use Rattle.mpm_refusals.specs.Filing.{LastSearch, Filing, Situation}
use Rattle.mpm_bdos.specs.Serving.{Kept, StandEach, Serves, filing_of}

-- something is so of what is kept, with any drives for which some images stand
abbrev pub OnItsDrives : Kept → (Filing → Type 0) → Type 0
OnItsDrives kept P = (images : ℕ → List ℕ) (drives : List (Option Drive)) → StandEach images kept.mounted drives → P (filing_of kept drives)

-- something is so of the function of a call, if that is one on files and drives
abbrev pub OfFunction : Taken → (FileFunction → Type 0) → Type 0
OfFunction call P = (function : FileFunction) → function_of call.function ≡ Some function → P function

-- something is so of that function upon all drives for which these images stand
abbrev pub UponDrives : (ℕ → List ℕ) → Kept → Taken → (List (Option Drive) → FileFunction → Type 0) → Type 0
UponDrives images kept call P =
    (drives : List (Option Drive)) (function : FileFunction) → function_of call.function ≡ Some function → StandEach images kept.mounted drives → P drives function

-- something is so of that function upon all drives for which any images stand
abbrev pub UponAnyDrives : Kept → Taken → ((ℕ → List ℕ) → List (Option Drive) → FileFunction → Type 0) → Type 0
UponAnyDrives kept call P = (images : ℕ → List ℕ) → UponDrives images kept call (P images)

-- something is so of each call that is in service with so many turns ended
abbrev pub WhileServing : (ℕ → List ℕ) → Kept → (Situation → ℕ → Type 0) → Type 0
WhileServing images kept P = (s : Situation) (ended : ℕ) → Serves images kept s ended → P s ended

-- something is so of each job that suits its drive and is in service there, with so many turns ended and others left
abbrev pub WhileWorking : (Drive → Job → ℕ → Type 0) → (Drive → Job → ℕ → Type 0) → Type 0
WhileWorking works P = (before : Drive) (job : Job) (j : ℕ) → Suits before job → works before job j → j < turns_of before job → P before job j

-- a call upon what is kept, as it enters service at a moment
abbrev pub entered_at : FileCall → List ℕ → List Bool → OpenFiles → List (Option LastSearch) → List (Option Drive) → List ℕ → Situation
entered_at call moment protected opens searches drives marks =
    called drives protected opens marks searches call.caller call.function call.call.now moment

-- a call upon what is kept, as it enters service at its own moment
abbrev pub entered_at_own_moment : FileCall → List Bool → OpenFiles → List (Option LastSearch) → List (Option Drive) → List ℕ → Situation
entered_at_own_moment call protected opens searches drives marks = entered_at call call.moment protected opens searches drives marks
