-- Worked examples, by computation.
use Rattle.std.proofs.Common.{◌≡◌, Some, None, true, false, replicate, refl}
use Rattle.std.specs.Prelude.{codes}
use Rattle.mpm_names.specs.Characters.{is_delimiter, is_character}
use Rattle.mpm_names.specs.Matching.{does_match}
use Rattle.mpm_names.specs.Spellings.{drive_of, marked, spelling, kept_at, filled, next_of, parsed}

-- a drive, a name and a type
pub parsed_letter : parsed (codes "b:letter.txt now") ≡ Some (record { drive = 2; name = codes "LETTER  TXT"; password = replicate 8 0; password_length = 0; next = Some 12 })
unfolding is_delimiter is_character drive_of marked spelling kept_at filled next_of parsed
parsed_letter = refl

-- a password, and a `*` in a type
pub parsed_star : parsed (codes " a.t*;Key") ≡ Some (record { drive = 0; name = codes "A       T??"; password = codes "KEY     "; password_length = 3; next = None })
unfolding is_delimiter is_character drive_of marked spelling kept_at filled next_of parsed
parsed_star = refl

-- two points
pub parsed_points : parsed (codes "a..b") ≡ None
unfolding is_delimiter is_character drive_of marked spelling kept_at filled next_of parsed
parsed_points = refl

-- nine characters
pub parsed_nine : parsed (codes "*abcdefgh") ≡ None
unfolding is_delimiter is_character drive_of marked spelling kept_at filled next_of parsed
parsed_nine = refl

-- each `?` fits a character
pub match_marks : does_match (codes "A?C     ???") (codes "ABC     TXT") ≡ true
unfolding does_match
match_marks = refl

-- a letter does not fit another
pub match_letters : does_match (codes "ABD     TXT") (codes "ABC     TXT") ≡ false
unfolding does_match
match_letters = refl
