-- What a reader of texts answers.
use Rattle.std.specs.Prelude.{◌≡◌, ℕ, ◌≤◌, List, length, Option, Some, None, Result, IfOk, OnErr}

-- the bytes are known, and they are so many at most
pub record IsBytes (known : List ℕ) (most : ℕ) (list : List ℕ) : Type 0 where
  pub bytes : list ≡ known
  pub size : length list ≤ most

-- the number is known, and it is so much at most
pub record IsNumber (known most n : ℕ) : Type 0 where
  pub number : n ≡ known
  pub limit : n ≤ most

-- the value is the one that is defined, or none is
pub record Reads {A E : Type 0} (defined : Option A) (result : Result A E) : Type 0 where
  pub ok : IfOk result (λ value. defined ≡ Some value)
  pub err : OnErr result (defined ≡ None)

-- beside that, what was read spells the value, or else spells none
pub record ReadsForm {A E : Type 0} (defined : Option A) (Spells : A → Type 0) (IsFormless : Type 0) (result : Result A E) : Type 0 where
  pub ok : IfOk result (λ value. defined ≡ Some value)
  pub err : OnErr result (defined ≡ None)
  pub form : IfOk result Spells
  pub formless : OnErr result IsFormless

-- a value that is known, and of which something is so
pub record IsSuch {A : Type 0} (known : A) (Such : A → Type 0) (value : A) : Type 0 where
  pub is : value ≡ known
  pub such : Such value
