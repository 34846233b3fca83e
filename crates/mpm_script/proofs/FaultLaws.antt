-- The line of a fault is the first that may not follow those before it.
use Rattle.std.proofs.Common.{◌≡◌, ℕ, suc, ◌+◌, ◌<◌, List, [], ◌∷◌, ◌++◌, length, take, get_or, Option, Some, None, Ok, Err, refl, arith}
use Rattle.mpm_script.specs.declared.event.Timed.{Timed}
use Rattle.mpm_script.specs.Events.{line_of}
use Rattle.mpm_script.specs.Scripts.{last_step, unless_bad, lines_from}

-- a line's number, where the lines before it are read and it may not follow them
pub record IsFirstBad (number : ℕ) (so_far : List Timed) (texts : List (List ℕ)) (bad : ℕ) : Type 0 where
  pub place : ℕ
  pub counted : bad ≡ number + place
  pub within : place < length texts
  pub before : List Timed
  pub read : lines_from number so_far (take place texts) ≡ Ok before
  pub refused : line_of (last_step before) (get_or texts place []) ≡ None

bad_at : (found : Option (List Timed)) (number : ℕ) (so_far : List Timed) (line : List ℕ) (rest : List (List ℕ)) (bad : ℕ) → line_of (last_step so_far) line ≡ found
    → ((more : List Timed) → lines_from (number + 1) (so_far ++ more) rest ≡ Err bad → IsFirstBad (number + 1) (so_far ++ more) rest bad)
    → unless_bad number found (λ more. lines_from (number + 1) (so_far ++ more) rest) ≡ Err bad → IsFirstBad number so_far (line ∷ rest) bad
unfolding lines_from
bad_at None number so_far line rest bad is_found later e =
    let same : number ≡ bad = cc in
    record { place = 0; counted = omega arith; within = omega arith; before = so_far; read = refl; refused = is_found }
bad_at (Some more) number so_far line rest bad is_found later e =
    let first = later more e in
    let within : first.place < length rest = first.within in
    let counted : bad ≡ number + 1 + first.place = first.counted in
    record {
      place = suc first.place;
      counted = omega arith;
      within = omega arith;
      before = first.before;
      read = rw is_found first.read;
      refused = first.refused;
    }

pub first_bad : (number : ℕ) (so_far : List Timed) (texts : List (List ℕ)) (bad : ℕ) → lines_from number so_far texts ≡ Err bad → IsFirstBad number so_far texts bad
unfolding lines_from
first_bad number so_far [] bad e = absurd cc
first_bad number so_far (line ∷ rest) bad e =
    bad_at (line_of (last_step so_far) line) number so_far line rest bad refl (λ more later. first_bad (number + 1) (so_far ++ more) rest bad later) e
