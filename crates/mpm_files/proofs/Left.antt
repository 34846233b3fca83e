-- What is left of a call that writes, by its first unit.
use Rattle.std.proofs.Common.{◌≡◌, ℕ, suc, zero, ◌+◌, ◌<◌, false, List, [], ◌∷◌, ◌++◌, Option, Some, None, drop, length, refl, ap, ◌∙◌, arith}
use Rattle.std.specs.Prelude.{slice_index_or}
use Rattle.std.proofs.lemmas.List.{append_assoc}
use Rattle.mpm_mount.specs.Drives.{FileName, Drive}
use Rattle.mpm_file_functions.specs.declared.errors.RecordError.{RecordError}
use Rattle.mpm_files.specs.Units.{FileUnit, all_applied}
use Rattle.mpm_files.specs.Plans.{CallPlan, behind, unless_failing, write_error, write_units, writing}
use Rattle.mpm_files.specs.Serving.{left_writing, Follows}

-- the plan of a call that writes has the first of the units that there would be if none could fail
ahead_of_all : (error : Option RecordError) (units : List FileUnit) (plan : CallPlan) (left : List FileUnit) → Follows plan.units 0 left
    → Follows (unless_failing error (behind units plan)).units 0 (units ++ left)
ahead_of_all None units plan left first = record { rest = first.rest; same = append_assoc units plan.units first.rest ∙ ap (λ l. units ++ l) first.same }
ahead_of_all (Some error) units plan left first = record { rest = units ++ left; same = refl }

pub writing_first : (records : List (List ℕ)) (drive : Drive) (file : FileName) (n : ℕ) (stamp : Option (List ℕ))
    → Follows (writing drive file n records stamp).units 0 (left_writing drive false file n records stamp)
unfolding writing left_writing
writing_first [] drive file n stamp = record { rest = []; same = refl }
writing_first (bytes ∷ records) drive file n stamp =
    let units : List FileUnit = write_units drive false file n bytes stamp in
    let rest : CallPlan = writing (all_applied drive units) file (n + 1) records None in
    ahead_of_all (write_error drive file n) units rest (left_writing (all_applied drive units) false file (n + 1) records None)
    (writing_first records (all_applied drive units) file (n + 1) None)

-- the next unit is the first that is left
head_of : (units rest : List FileUnit) (j : ℕ) (unit other : FileUnit) (left : List FileUnit) → drop j units ++ rest ≡ unit ∷ left → j < length units
    → (slice_index_or units j other ≡ unit) × (drop (suc j) units ++ rest ≡ left)
head_of [] rest j unit other left same h = absurd (omega arith)
head_of (u ∷ units) rest zero unit other left same h = (ap (λ (us : List FileUnit). slice_index_or us 0 other) same, ap (drop 1) same)
head_of (u ∷ units) rest (suc j) unit other left same h = head_of units rest j unit other left same (omega arith)

pub first_left : (units : List FileUnit) (j : ℕ) (unit other : FileUnit) (left : List FileUnit) → Follows units j (unit ∷ left) → j < length units
    → (slice_index_or units j other ≡ unit) × Follows units (suc j) left
first_left units j unit other left follows h =
    let both = head_of units follows.rest j unit other left follows.same h in
    (both.0, record { rest = follows.rest; same = both.1 })

-- where nothing is left, whatever a cursor says follows
pub no_front : (xs ys : List FileUnit) → xs ++ ys ≡ [] → xs ≡ []
no_front [] ys none = refl
no_front (x ∷ xs) ys none = absurd (omega (arith, ap length none))

pub nothing_left : (units : List FileUnit) (j : ℕ) (left : List FileUnit) → Follows units j [] → Follows units j left
nothing_left units j left follows = record { rest = left; same = ap (λ l. l ++ left) (no_front (drop j units) follows.rest follows.same) }
