-- Where no resident acts, none takes an answer.
use Rattle.std.proofs.Common.{◌≡◌, ℕ, false, List, Option, Some, None, is_some, refl, sym}
use Rattle.std.proofs.lemmas.Bool.{false≢true}
use Rattle.mpm_base.specs.Calls.{Answer}
use Rattle.mpm_residents.specs.Natives.{native_in, answer_taken}
use Rattle.mpm_residents.specs.declared.native.Native.{Native}

-- where none acts there, nobody takes an answer
pub nobody_takes : (reply : Answer) (p : ℕ) (natives : List Native) → is_some (native_in natives p) ≡ false
    → natives ≡ answer_taken (native_in natives p) reply p natives
nobody_takes reply p natives none = nobody_by (native_in natives p) none where
  nobody_by : (o : Option Native) → is_some o ≡ false → natives ≡ answer_taken o reply p natives
  nobody_by None none = refl
  nobody_by (Some native) none = absurd (false≢true (sym none))
