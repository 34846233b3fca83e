-- The processes whose held calls were completed, as the front of an array.
use Rattle.std.proofs.Common.{◌≡◌, ◌∙◌, ℕ, zero, suc, ◌+◌, ◌-◌, ◌<◌, ◌≤◌, List, [], ◌∷◌, ◌++◌, length, get_or, take, drop, Some, refl, sym, ap, arith}
use Rattle.std.proofs.lemmas.List.{take-append-le, drop-take, length-drop}
use Rattle.std.proofs.lemmas.Option.{same_Some}
use Rattle.std.specs.List.{AllByRecursion}
use Rattle.mpm_procs.specs.Table.{Table, lives, Lives}
use Rattle.mpm_dispatcher.specs.Dispatch.{first_completed}

-- what was copied to the front is what stands there
pub taken_front : (ps rest : List ℕ) → take (length ps) (ps ++ rest) ≡ ps
taken_front [] rest = refl
taken_front (p ∷ ps) rest = ap (λ (qs : List ℕ). p ∷ qs) (taken_front ps rest)

-- the first of some
pub first_of_some : (pids : List ℕ) (count d : ℕ) → 0 < count → count ≤ length pids → Some (get_or pids 0 d) ≡ first_completed (take count pids)
first_of_some [] count d some fits = absurd (omega (arith, some, fits))
first_of_some (p ∷ pids) zero d some fits = absurd (omega (arith, some))
first_of_some (p ∷ pids) (suc n) d some fits = refl

-- the others, where the first was moved to the end
pub rest_of_some : (pids : List ℕ) (count : ℕ) → 0 < count → count ≤ length pids
    → take (count - 1) (drop 1 pids ++ take 1 pids) ≡ drop 1 (take count pids)
rest_of_some pids count some fits =
    let n : ℕ = count - 1 in
    let all : 1 + n ≡ count = omega (arith, some) in
    take-append-le n (drop 1 pids) (take 1 pids) (omega (arith, some, fits, length-drop 1 pids)) ∙ sym (drop-take 1 n pids)
    ∙ ap (λ (k : ℕ). drop 1 (take k pids)) all

-- each of them lives, and so does the first
pub first_lives : (procs : Table) (ps : List ℕ) (p : ℕ) → AllByRecursion (λ q. Lives procs q) ps → first_completed ps ≡ Some p → Lives procs p
first_lives procs [] p live e = absurd (cc)
first_lives procs (q ∷ ps) p live e = ap (lives procs) (sym (same_Some q p e)) ∙ live.0
