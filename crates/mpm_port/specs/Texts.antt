-- Lists of bytes of which a part stands.
use Rattle.std.specs.Prelude.{◌≡◌, ℕ, List, ◌++◌}

-- the whole begins with the part
pub record Begins (part whole : List ℕ) : Type 0 where
  pub rest : List ℕ
  pub whole_is : whole ≡ part ++ rest

-- some first part of the bytes follows the old text
pub record AppendsPart (old more new : List ℕ) : Type 0 where
  pub part : List ℕ
  pub begins : Begins part more
  pub new_is : new ≡ old ++ part
