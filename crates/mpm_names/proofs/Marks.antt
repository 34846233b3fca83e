-- Which bytes may stand where: characters, blanks, marks, and what ends a name.
use Rattle.std.proofs.Common.{◌≡◌, ℕ, Bool, true, false, ◌==◌, ◌&&◌, ◌||◌, sym, ap, ◌∙◌, refl}
use Rattle.std.specs.Prelude.{nat_le}
use Rattle.std.specs.Cmp.{first_so, second_so}
use Rattle.std.proofs.lemmas.Bool.{ne_eqb, false≢true, not-true}
use Rattle.mpm_names.specs.Characters.{is_blank, is_delimiter, is_character}
use Rattle.mpm_names.specs.Spellings.{is_end}

no_and : (a b : Bool) → (a && b && false) ≡ false
no_and true true = refl
no_and true false = refl
no_and false b = refl

none_of : (a b c : Bool) → (a || b || c) ≡ false → (a ≡ false) × (b ≡ false) × (c ≡ false)
none_of true b c h = absurd (false≢true (sym h))
none_of false true c h = absurd (false≢true (sym h))
none_of false false true h = absurd (false≢true (sym h))
none_of false false false h = (refl, refl, refl)

-- a delimiter is no character
pub no_character : (byte : ℕ) → is_delimiter byte ≡ true → is_character byte ≡ false
unfolding is_character
no_character byte ends = rw ends (no_and (nat_le 33 byte) (nat_le byte 126))

-- a character is not a byte that is none
pub other_than : (byte mark : ℕ) → is_character byte ≡ true → is_character mark ≡ false → (byte == mark) ≡ false
other_than byte mark is none = ne_eqb byte mark (λ same. false≢true (sym none ∙ ap is_character (sym same) ∙ is))

pub tab_is_none : is_character 9 ≡ false
unfolding is_character is_delimiter
tab_is_none = refl

pub space_is_none : is_character 32 ≡ false
unfolding is_character is_delimiter
space_is_none = refl

pub point_is_none : is_character 46 ≡ false
unfolding is_character is_delimiter
point_is_none = refl

pub colon_is_none : is_character 58 ≡ false
unfolding is_character is_delimiter
colon_is_none = refl

pub semicolon_is_none : is_character 59 ≡ false
unfolding is_character is_delimiter
semicolon_is_none = refl

pub no_blank : (byte : ℕ) → is_character byte ≡ true → is_blank byte ≡ false
no_blank byte is = rw (other_than byte 32 is space_is_none, other_than byte 9 is tab_is_none) refl

-- what may follow a name is no character, and none of the three marks
pub record Ends (byte : ℕ) : Type 0 where
  pub character : is_character byte ≡ false
  pub point : (byte == 46) ≡ false
  pub colon : (byte == 58) ≡ false
  pub semicolon : (byte == 59) ≡ false

pub what_ends : (byte : ℕ) → is_end byte ≡ true → Ends byte
what_ends byte h =
    let marks = none_of (byte == 46) (byte == 58) (byte == 59) (not-true _ (second_so (is_delimiter byte) _ h)) in
    record { character = no_character byte (first_so (is_delimiter byte) _ h); point = marks.0; colon = marks.1; semicolon = marks.2 }
