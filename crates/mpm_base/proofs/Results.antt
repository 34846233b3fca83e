-- What is so of a result.
use Rattle.std.proofs.Common.{Result, Ok, Err, OnOk}

-- what is so in any case is so where it is one of success
pub on_ok : {A E P : Type 0} (result : Result A E) → P → OnOk result P
on_ok (Ok answer) so = so
on_ok (Err error) so = tt
