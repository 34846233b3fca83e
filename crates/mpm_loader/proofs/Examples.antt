-- Worked examples, by computation.
use Rattle.std.proofs.Common.{◌≡◌, [], ◌∷◌, refl}
use Rattle.mpm_loader.specs.Plans.{relocatable_plan, absolute_plan, pages_of}
use Rattle.mpm_loader.specs.Pieces.{part}

-- 256 bytes and the stack need a second page
pub pages_of_256 : pages_of (relocatable_plan 200 56) ≡ 4
unfolding relocatable_plan pages_of
pages_of_256 = refl

pub pages_of_no_records : pages_of (absolute_plan 0) ≡ 3
unfolding absolute_plan pages_of
pages_of_no_records = refl

-- bytes 2 to 5 of a file, of a piece that begins at its byte 4
pub part_of_second_piece : part 4 2 6 (10 ∷ 11 ∷ 12 ∷ 13 ∷ []) ≡ 10 ∷ 11 ∷ []
unfolding part
part_of_second_piece = refl
