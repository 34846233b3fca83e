-- When a renderer and what its sink was given stand for a list of outputs.
use Rattle.std.specs.Prelude.{◌≡◌, ℕ, ◌<◌, List, [], ◌++◌, Bool, length, slice_index_or}
use Rattle.mpm_port.specs.Texts.{Begins}
use Rattle.mpm_render.specs.Outputs.{Output, pending, rendered}

-- what a renderer keeps: the unfinished line of each place, and whether it writes the records of completed calls
pub record KeptLines : Type 0 where
  pub lines : List (List ℕ)
  pub trace : Bool

-- the unfinished line of a place
abbrev pub line_of : KeptLines → ℕ → List ℕ
line_of kept place = slice_index_or kept.lines place []

-- each place's line is what is pending there, and the sink was given the first text and then the outputs' text
pub record Shows (kept : KeptLines) (written : List ℕ) (outputs : List Output) (first : List ℕ) : Type 0 where
  pub lines : (place : ℕ) → place < 12 → line_of kept place ≡ pending place outputs
  pub written_is : written ≡ first ++ rendered kept.trace outputs

-- writing stopped: the sink was given the first text, then all of one text and a part, perhaps none, of what another
-- adds to it; the other adds something
pub record EndsBetween (written first : List ℕ) (from to : List ℕ) : Type 0 where
  pub text : List ℕ
  pub written_is : written ≡ first ++ text
  pub all_before : Begins from text
  pub part : Begins text to
  pub more : length from < length to
