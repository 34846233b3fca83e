-- What calls leave of open files.
use Rattle.std.proofs.Common.{◌≡◌, ◌⊎◌, inl, inr, ℕ, zero, suc, ◌≤◌, ◌<◌, List, [], ◌∷◌, Option, length, arith}
use Rattle.std.specs.Prelude.{IsSome}
use Rattle.std.proofs.lemmas.Bool.{cases_lt, false≢true}
use Rattle.mpm_opens.specs.declared.kinds.Item.{Item}
use Rattle.mpm_opens.specs.Items.{place_at}
use Rattle.mpm_opens.specs.Opens.{OpenFiles, IsLive, AreOpen}

-- an open file's number is below 64
nothing_behind : (places : List (Option Item)) (n : ℕ) → length places ≤ n → IsSome (place_at places n) → ⊥
nothing_behind [] n h there = absurd (false≢true there)
nothing_behind (place ∷ places) zero h there = omega (arith, h)
nothing_behind (place ∷ places) (suc n) h there = nothing_behind places n (omega (arith, h)) there

number_by : (places : List (Option Item)) (n : ℕ) → length places ≡ 64 → IsSome (place_at places n) → (n < 64) ⊎ (64 ≤ n) → n ≤ 63
number_by places n size there (inl low) = omega (arith, low)
number_by places n size there (inr high) = absurd (nothing_behind places n (omega (arith, size, high)) there)

pub number_small : (opens : OpenFiles) (n : ℕ) → AreOpen opens → IsLive opens n → n ≤ 63
number_small opens n sound there = number_by opens.items n sound.items.places there (cases_lt n 64)
