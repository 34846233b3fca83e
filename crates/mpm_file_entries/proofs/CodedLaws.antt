-- How many records a call tells as done, and the code of what ended them.
use Rattle.std.proofs.Common.{◌≡◌, ◌∙◌, ℕ, ◌-◌, ◌<◌, Option, Some, None, IfSome, ap, arith}
use Rattle.std.specs.Prelude.{min}
use Rattle.mpm_file_functions.specs.declared.functions.FileFunction.{FileFunction}
use Rattle.mpm_file_functions.specs.declared.ends.RecordEnd.{RecordEnd}
use Rattle.mpm_file_functions.specs.Ends.{coded}

-- so many are answered, and never more than that
pub told_whole : (function : FileFunction) (moved multi : ℕ) (end : Option RecordEnd) (value : ℕ) → IfSome end (λ end. moved < multi) → value ≡ coded function (min moved (multi - 1)) end
    → value ≡ coded function moved end
told_whole function moved multi None value few is = is
told_whole function moved multi (Some end) value few is = is ∙ ap (λ n. coded function n (Some end)) (at_most moved multi few)
  where
    at_most : (n most : ℕ) → n < most → min n (most - 1) ≡ n
    at_most n most h = omega (arith, h)
