-- Worked examples, by computation.
use Rattle.std.proofs.Common.{◌≡◌, [], ◌∷◌, ◌++◌, refl}
use Rattle.std.specs.Prelude.{codes}
use Rattle.mpm_line_input.specs.Keys.{key_of, line_after}
use Rattle.mpm_line_input.specs.Lines.{echo_of, ends_at, written_by}

-- `ab`, BS, `c` and CR
pub typed_line : line_after (line_after (line_after (line_after (line_after [] 97) 98) 8) 99) 13 ≡ codes "ac"
unfolding key_of line_after
typed_line = refl

pub written_for_rubout : written_by (codes "ab") 127 8 ≡ 8 ∷ 32 ∷ 8 ∷ []
unfolding key_of line_after echo_of ends_at
written_for_rubout = refl

pub written_for_rubout_of_nothing : written_by [] 127 127 ≡ []
unfolding key_of line_after echo_of ends_at
written_for_rubout_of_nothing = refl

pub written_for_end : written_by (codes "ac") 127 13 ≡ 13 ∷ []
unfolding key_of line_after echo_of ends_at
written_for_end = refl

pub written_for_cancel : written_by [] 127 24 ≡ codes "#" ++ 13 ∷ 10 ∷ []
unfolding key_of line_after echo_of ends_at
written_for_cancel = refl

-- the key that fills a line ends it
pub written_for_last : written_by (codes "ab") 3 27 ≡ codes "^[" ++ 13 ∷ []
unfolding key_of line_after echo_of ends_at
written_for_last = refl

-- what is written in the five steps of the line `ab`, BS, `c` and CR
pub written_for_line : written_by [] 127 97 ++ (written_by (codes "a") 127 98 ++ (written_by (codes "ab") 127 8 ++ (written_by (codes "a") 127 99 ++ written_by (codes "ac") 127 13)))
    ≡ codes "ab" ++ (8 ∷ 32 ∷ 8 ∷ (codes "c" ++ 13 ∷ []))
unfolding key_of line_after echo_of ends_at
written_for_line = refl
