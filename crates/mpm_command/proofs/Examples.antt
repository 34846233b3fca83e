-- Worked examples, by computation.
use Rattle.std.proofs.Common.{◌≡◌, [], ◌∷◌, refl}
use Rattle.std.specs.Prelude.{◌++◌, codes}
use Rattle.mpm_names.specs.Characters.{is_delimiter, is_character}
use Rattle.mpm_names.specs.Spellings.{parsed, spelling, drive_of, marked, filled, kept_at, next_of}
use Rattle.mpm_command.specs.Texts.{first_word, behind_first, second_word}
use Rattle.mpm_command.specs.Commands.{text_of, tail_in}
use Rattle.mpm_command.specs.BasePages.{block_of, no_name}

-- the tail begins with its space
pub tail_of_dir : tail_in (0 ∷ 0 ∷ codes "dir b: x" ++ 0 ∷ 0 ∷ []) ≡ codes " b: x"
unfolding text_of tail_in
tail_of_dir = refl

pub second_word_of_tail : second_word (codes "  b:  x y") ≡ codes "x"
unfolding first_word behind_first
second_word_of_tail = refl

-- a word on drive B, and one that is no file name
pub block_of_name : block_of (codes "b:a.c") ≡ 2 ∷ codes "A       C  " ++ 0 ∷ 0 ∷ 0 ∷ 0 ∷ []
unfolding parsed spelling drive_of marked filled kept_at next_of is_delimiter is_character
block_of_name = refl

pub block_of_no_name : block_of (codes "a.b.c") ≡ no_name
unfolding parsed spelling drive_of marked filled kept_at next_of is_delimiter is_character
block_of_no_name = refl
