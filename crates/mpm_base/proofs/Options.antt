-- A value that may be there.
use Rattle.std.proofs.Common.{◌≡◌, false, Option, Some, None, refl}
use Rattle.std.specs.Prelude.{is_some}
use Rattle.std.specs.Option.{option_map}

-- what isn't there is nothing
pub none_there : {X : Type 0} (o : Option X) → is_some o ≡ false → o ≡ None
none_there None none = refl
none_there (Some x) none = absurd (cc)

-- what is made of a value is there where the value is
pub still_some : {X Y : Type 0} (o : Option X) (f : X → Y) → is_some (option_map f o) ≡ is_some o
still_some None f = refl
still_some (Some x) f = refl
