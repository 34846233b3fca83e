-- Laws of the words of a request.
use Rattle.std.proofs.Common.{◌≡◌, ◌≢◌, ℕ, List, [], ◌∷◌, Option, Some, None, length, refl, arith}
use Rattle.mpm_top.specs.declared.words.Asked.{Asked}
use Rattle.mpm_top.specs.Words.{Command, IsAsked}
use Rattle.mpm_snapshot.specs.Requests.{save_of, resume_of, IsSave, Resume}

-- a command and a process ask what they say

pub saves : (command : Option Command) (process : Option ℕ) (name : List ℕ) (asked : Asked) (said : ℕ) → IsAsked command name asked → process ≡ Some said
    → IsSave (save_of command process) name (record { asked = asked; process = said })
unfolding save_of
saves command process name asked said is there = record { is = rw is.is (rw there refl); limit = is.limit }

pub no_command : (command : Option Command) (process : Option ℕ) → command ≡ None → save_of command process ≡ None
unfolding save_of
no_command command process none = rw none refl

pub no_process : (command : Option Command) (process : Option ℕ) → process ≡ None → save_of command process ≡ None
unfolding save_of
no_process None process none = refl
no_process (Some command) process none = rw none refl

-- so do a name and a number

pub resumes : (name : List ℕ) (said : Option ℕ) (most : ℕ) → length name ≢ 0 → said ≡ Some most → resume_of name said ≡ Some (Resume name most)
unfolding resume_of
resumes [] said most named is = absurd (named refl)
resumes (byte ∷ name) said most named is = rw is refl

pub unnamed : (name : List ℕ) (said : Option ℕ) → length name ≡ 0 → resume_of name said ≡ None
unfolding resume_of
unnamed [] said none = refl
unnamed (byte ∷ name) said none = absurd (omega arith)

pub no_most : (name : List ℕ) (said : Option ℕ) → said ≡ None → resume_of name said ≡ None
unfolding resume_of
no_most [] said none = refl
no_most (byte ∷ name) said none = rw none refl
