-- A resident that took its answer, among the others.
use Rattle.std.proofs.Common.{◌≡◌, ◌∙◌, ℕ, zero, suc, true, List, [], ◌∷◌, Option, Some, get_or, refl, sym, ap}
use Rattle.std.specs.Prelude.{is_some, slice_get, slice_set}
use Rattle.mpm_base.specs.Calls.{Answer}
use Rattle.mpm_residents.specs.Natives.{native_in, native_took, answer_taken}
use Rattle.mpm_residents.specs.declared.native.Native.{Native}

found_there : {X : Type 0} (xs : List X) (p : ℕ) (other : X) → is_some (slice_get xs p) ≡ true → slice_get xs p ≡ Some (get_or xs p other)
found_there [] p other some = absurd (cc)
found_there (x ∷ xs) zero other some = refl
found_there (x ∷ xs) (suc p) other some = found_there xs p other some

-- the residents, of which one took its answer
pub taken_here : (natives lent : List Native) (p from : ℕ) (other taken : Native) (reply : Answer) → is_some (native_in natives p) ≡ true → lent ≡ natives → from ≡ p
    → taken ≡ native_took (get_or lent from other) reply → slice_set lent from taken ≡ answer_taken (native_in natives p) reply p natives
taken_here natives lent p from other taken reply some whole here is =
    ap (λ (native : Native). slice_set lent from native) is
    ∙ ap (λ (all : List Native). slice_set all from (native_took (get_or all from other) reply)) whole
    ∙ ap (λ (place : ℕ). slice_set natives place (native_took (get_or natives place other) reply)) here
    ∙ sym (ap (λ (o : Option Native). answer_taken o reply p natives) (found_there natives p other some))
