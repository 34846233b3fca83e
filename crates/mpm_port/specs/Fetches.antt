-- What a fetch leaves in the vector, by what is known of the file.
use Rattle.std.specs.Prelude.{◌≡◌, ◌↔◌, IsErr, ℕ, ◌+◌, ◌<◌, ◌≤◌, List, ◌++◌, take, length, Option, Result, Ok, Err, MatchOption, ⊤}
use Rattle.mpm_port.specs.Causes.{names_after}
use Rattle.mpm_port.specs.Texts.{Begins}
use Rattle.mpm_port.specs.declared.files.Fetched.{Fetched}
use Rattle.mpm_port.specs.declared.files.Fetched.TheVariants.{Whole, Longer}
use Rattle.mpm_port.specs.declared.files.FetchError.{FetchError}

-- the whole contents were appended
pub record TakesWhole (told : Option (List ℕ)) (limit : ℕ) (before after : List ℕ) : Type 0 where
  pub kept : Begins before after
  pub within : length after ≤ length before + limit
  pub contents : MatchOption told ⊤ (λ file. after ≡ before ++ file)

-- the first bytes were appended, as many as the limit, and there are more
pub record TakesFirst (told : Option (List ℕ)) (limit : ℕ) (before after : List ℕ) : Type 0 where
  pub kept : Begins before after
  pub full : length after ≡ length before + limit
  pub contents : MatchOption told ⊤ (λ file. after ≡ before ++ take limit file)
  pub more : MatchOption told ⊤ (λ file. limit < length file)

-- some first part of the contents was appended, of no more bytes than the limit
pub record TakesPart (told : Option (List ℕ)) (limit : ℕ) (before after : List ℕ) : Type 0 where
  pub kept : Begins before after
  pub within : length after ≤ length before + limit
  pub contents : MatchOption told ⊤ (λ file. Begins after (before ++ file))

-- what each answer of a fetch says
abbrev pub Fetches : Option (List ℕ) → ℕ → List ℕ → List ℕ → Result Fetched FetchError → Type 0
Fetches told limit before after (Ok Whole) = TakesWhole told limit before after
Fetches told limit before after (Ok Longer) = TakesFirst told limit before after
Fetches told limit before after (Err refusal) = TakesPart told limit before after

-- a fetch of a name, by what is seen of files: what each holds, which are missing, and the names that failed. The bytes that came follow
-- those that were in the vector; a missing file gives none; no file changes
pub record AnswersFetch {F : Type 0} (told_by : F → List ℕ → Option (List ℕ)) (IsMissing : F → List ℕ → Type 0) (failed_by : F → List (List ℕ)) (name : List ℕ) (limit : ℕ) (before after : List ℕ) (old new : F) (result : Result Fetched FetchError) : Type 0 where
  pub bytes : Fetches (told_by old name) limit before after result
  pub names : failed_by new ≡ names_after (failed_by old) name result
  pub missing : IsMissing old name → IsErr result
  pub nothing : IsMissing old name → after ≡ before
  pub stays_missing : (other : List ℕ) → IsMissing new other ↔ IsMissing old other
  pub stays : (other : List ℕ) → told_by new other ≡ told_by old other
