-- Where files stand in the image.
use Rattle.std.proofs.Common.{◌≡◌, ℕ, ◌-◌, ◌*◌, ◌<◌, ◌≤◌, List, [], ◌++◌, length, replicate, inl, inr, ap, sym, arith, ◌∙◌}
use Rattle.std.proofs.lemmas.Bool.{cases_lt}
use Rattle.std.proofs.lemmas.Bool.Decides.{nat_tests}
use Rattle.std.proofs.lemmas.List.{append_assoc}
use Rattle.mpm_generator.specs.Sizes.{filled_to, blocks_for, in_blocks}
use Rattle.mpm_generator.specs.Images.{number_at}

-- after a file's blocks there is no number
pub none_behind : (first count place : ℕ) → count ≤ place → number_at first count place ≡ 0
none_behind first count place behind = grind (arith, nat_tests)

pub each_number : (first count place x : ℕ) → (place < count → x ≡ number_at first count place) → (count ≤ place → x ≡ 0)
    → x ≡ number_at first count place
each_number first count place x among behind = elim (cases_lt place count) [
  | inl there ↦ among there
  | inr beyond ↦ behind beyond ∙ sym (none_behind first count place beyond)
]

-- three parts, one after the other, where nothing was
pub three_parts : (none x y z a b c one two three : List ℕ) → none ≡ [] → x ≡ none ++ a → y ≡ x ++ b → z ≡ y ++ c
    → a ≡ one → b ≡ two → c ≡ three → z ≡ one ++ (two ++ three)
three_parts none x y z a b c one two three n ex ey ez ea eb ec =
    ez ∙ ap (λ xs. xs ++ c) (ey ∙ ap (λ xs. xs ++ b) (ex ∙ ap (λ xs. xs ++ a) n))
    ∙ append_assoc a b c
    ∙ ap (λ p. p ++ (b ++ c)) ea
    ∙ ap (λ p. one ++ (p ++ c)) eb
    ∙ ap (λ p. one ++ (two ++ p)) ec

-- a file in whole blocks after what is there
pub put_behind : (image file : List ℕ) (count : ℕ) → count ≡ blocks_for (length file)
    → (image ++ file) ++ replicate (2048 * count - length file) 0 ≡ image ++ in_blocks file
unfolding filled_to
put_behind image file count e =
    append_assoc image file (replicate (2048 * count - length file) 0)
    ∙ ap (λ n. image ++ (file ++ replicate (2048 * n - length file) 0)) e
