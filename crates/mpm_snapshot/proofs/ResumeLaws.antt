-- What came of a file that was fetched.
use Rattle.std.proofs.Common.{◌∙◌, ℕ, ◌≤◌, List, [], Option, Some, None, Ok, length, sym, subst}
use Rattle.std.proofs.lemmas.List.{take_all}
use Rattle.mpm_port.specs.declared.files.Fetched.{Fetched}
use Rattle.mpm_port.specs.declared.files.Fetched.TheVariants.{Whole, Longer}
use Rattle.mpm_port.specs.Fetches.{Fetches}
use Rattle.mpm_snapshot.specs.Endings.{Came}

pub came : (missing : Type 0) (contents : Option (List ℕ)) (text : List ℕ) (fetched : Fetched) → (missing → ⊥)
    → Fetches contents 65588 [] text (Ok fetched) → Came missing contents text
came missing None text fetched there taken = record { there = there; known = tt }
came missing (Some file) text Whole there taken =
    record { there = there; known = taken.contents ∙ sym (take_all 65588 file (subst (λ t. length t ≤ 65588) taken.contents taken.within)) }
came missing (Some file) text Longer there taken = record { there = there; known = taken.contents }
