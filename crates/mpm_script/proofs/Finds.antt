-- Steps of a reading that find something or nothing.
use Rattle.std.proofs.Common.{◌≡◌, Bool, true, false, if◌then◌else◌, List, [], ◌∷◌, ◌++◌, Option, Some, None, option_map, refl, sym, ap, append_assoc}
use Rattle.std.proofs.lemmas.Option.{none-some}
use Rattle.mpm_script.specs.Numbers.{◌>>=◌}

-- what is found, with some before it
abbrev pub onto : {A : Type 0} → List A → Option (List A) → Option (List A)
onto front rest = option_map (λ items. front ++ items) rest

pub onto_more : {A : Type 0} (front : List A) (first : A) (rest : Option (List A)) → onto front (option_map (λ items. first ∷ items) rest) ≡ onto (front ++ first ∷ []) rest
onto_more front first None = refl
onto_more front first (Some items) = ap Some (sym (append_assoc front (first ∷ []) items))

-- a step that found something found it from something
pub bind_some : {A B : Type 0} (found : Option A) (more : A → Option B) (y : B) → (found >>= more) ≡ Some y → (x : A) × (found ≡ Some x) × (more x ≡ Some y)
bind_some None more y e = absurd (none-some y e)
bind_some (Some x) more y e = (x, refl, e)

pub map_some : {A B : Type 0} (f : A → B) (found : Option A) (y : B) → option_map f found ≡ Some y → (x : A) × (found ≡ Some x) × (Some (f x) ≡ Some y)
map_some f None y e = absurd (none-some y e)
map_some f (Some x) y e = (x, refl, e)

-- one of two readings found something
pub either_some : {A P : Type 0} (test : Bool) (one other : Option A) (y : A) → (if test then one else other) ≡ Some y → (one ≡ Some y → P) → (other ≡ Some y → P) → P
either_some true one other y e first second = first e
either_some false one other y e first second = second e

pub onto_none : {A : Type 0} (front : List A) (rest : Option (List A)) → onto front rest ≡ None → rest ≡ None
onto_none front None e = refl
onto_none front (Some items) e = absurd cc

pub nothing_from : {A B : Type 0} (f : A → B) (found : Option A) (seen : Option B) → option_map f found ≡ seen → ((x : A) → found ≡ Some x → ⊥) → seen ≡ None
nothing_from f None seen e never = sym e
nothing_from f (Some x) seen e never = absurd (never x refl)
