-- What stands in a list of bytes once more came to it, after a success.
use Rattle.std.specs.Prelude.{◌≡◌, ◌≤◌, ℕ, List, length, Result, OnOk}
use Rattle.mpm_generator.specs.Draws.{nth_behind}

-- these bytes, at most so many
pub record PutsBytes {A E : Type 0} (all : List ℕ) (most : ℕ) (now : List ℕ) (result : Result A E) : Type 0 where
  pub bytes : OnOk result (now ≡ all)
  pub size : OnOk result (length now ≤ most)

-- these bytes, so many
pub record PutsAll {A E : Type 0} (all : List ℕ) (count : ℕ) (now : List ℕ) (result : Result A E) : Type 0 where
  pub bytes : OnOk result (now ≡ all)
  pub size : OnOk result (length now ≡ count)

-- these bytes, at most so many, by the next 1,200 numbers
pub record PutsDrawn {A E : Type 0} (all : List ℕ) (most : ℕ) (now : List ℕ) (seed last : ℕ) (result : Result A E) : Type 0 where
  pub bytes : OnOk result (now ≡ all)
  pub size : OnOk result (length now ≤ most)
  pub draws : OnOk result (last ≡ nth_behind 1200 seed)

-- two programs have as many bytes as programs can have
pub record AreSmall (one other : ℕ) : Type 0 where
  pub first : one ≤ 9344
  pub second : other ≤ 9344
