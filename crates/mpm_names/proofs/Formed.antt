-- A text in the form is spelled by its parts.
use Rattle.std.proofs.Common.{◌≡◌, ℕ, zero, suc, ◌+◌, ◌-◌, ◌<◌, ◌≤◌, Bool, true, false, ◌==◌, ◌&&◌, List, [], ◌∷◌, ◌++◌, length, get_or, drop, sym, ap, ◌∙◌, arith, refl}
use Rattle.std.specs.Prelude.{nat_le, Some, if◌then◌else◌, slice_index}
use Rattle.std.specs.List.{AllPass}
use Rattle.std.proofs.lemmas.Bool.{ne_eqb, eq-eqb}
use Rattle.std.proofs.lemmas.Bool.Decides.{nat_tests}
use Rattle.std.proofs.lemmas.List.{get_or_append_left, drop_at}
use Rattle.mpm_names.specs.Characters.{is_blank, is_character, upper}
use Rattle.mpm_names.specs.Spellings.{Spelling, field_of, behind_blanks, drive_of, behind_drive, marked, behind_type, behind_password, spelling, is_form, is_end, meaning, parsed}
use Rattle.mpm_names.specs.Forms.{drive_text, type_text, password_text, HasForm}
use Rattle.mpm_names.proofs.Runs.{run_before, taken_before}
use Rattle.mpm_names.proofs.Marks.{Ends, what_ends, other_than, no_blank, point_is_none, colon_is_none, semicolon_is_none}

-- what is after blanks, where something else follows
behind_blanks_is : (blanks rest : List ℕ) → AllPass is_blank blanks → is_blank (get_or rest 0 0) ≡ false → behind_blanks (blanks ++ rest) ≡ rest
behind_blanks_is blanks rest all off =
    ap (λ n. drop n (blanks ++ rest)) (run_before is_blank blanks rest all off) ∙ drop_at blanks rest (length blanks) refl

-- a mark and a field
marked_is : (mark : ℕ) (field rest : List ℕ) → AllPass is_character field → is_character (get_or rest 0 0) ≡ false → marked mark (mark ∷ (field ++ rest)) ≡ field
unfolding marked
marked_is mark field rest all off = rw (eq-eqb mark mark refl) (taken_before is_character field rest all off)

pub unmarked : (mark : ℕ) (text : List ℕ) → (get_or text 0 0 == mark) ≡ false → marked mark text ≡ []
unfolding marked
unmarked mark text off = rw off refl

behind_field : (mark : ℕ) (field rest : List ℕ) → drop (1 + length field) (mark ∷ (field ++ rest)) ≡ rest
behind_field mark field rest = drop_at (mark ∷ field) rest (1 + length field) (omega arith)

-- the password
password_is : (password rest : List ℕ) → AllPass is_character password → Ends (get_or rest 0 0) → marked 59 (password_text password ++ rest) ≡ password
password_is [] rest all ends = unmarked 59 rest ends.semicolon
password_is (c ∷ cs) rest all ends = marked_is 59 (c ∷ cs) rest all ends.character

behind_password_is : (password rest : List ℕ) → AllPass is_character password → Ends (get_or rest 0 0) → behind_password (password_text password ++ rest) ≡ rest
behind_password_is [] rest all ends = rw (unmarked 59 rest ends.semicolon) refl
behind_password_is (c ∷ cs) rest all ends =
    rw (marked_is 59 (c ∷ cs) rest all ends.character, ne_eqb (length (c ∷ cs)) 0 (λ same. absurd (omega arith))) (behind_field 59 (c ∷ cs) rest)

-- what follows a type: the password's mark, or the end
pub record Follows (byte : ℕ) : Type 0 where
  pub character : is_character byte ≡ false
  pub point : (byte == 46) ≡ false
  pub colon : (byte == 58) ≡ false

behind_a_type : (password rest : List ℕ) → Ends (get_or rest 0 0) → Follows (get_or (password_text password ++ rest) 0 0)
behind_a_type [] rest ends = record { character = ends.character; point = ends.point; colon = ends.colon }
behind_a_type (c ∷ cs) rest ends = record { character = semicolon_is_none; point = refl; colon = refl }

-- the type
type_is : (dotted : Bool) (kind rest : List ℕ) → (dotted ≡ false → kind ≡ []) → AllPass is_character kind → Follows (get_or rest 0 0) → marked 46 (type_text dotted kind ++ rest) ≡ kind
type_is true kind rest none all ends = marked_is 46 kind rest all ends.character
type_is false kind rest none all ends = unmarked 46 rest ends.point ∙ sym (none refl)

behind_type_is : (dotted : Bool) (kind rest : List ℕ) → AllPass is_character kind → Follows (get_or rest 0 0) → behind_type (type_text dotted kind ++ rest) ≡ rest
behind_type_is true kind rest all ends = rw (marked_is 46 kind rest all ends.character) (behind_field 46 kind rest)
behind_type_is false kind rest all ends = rw ends.point refl

-- what follows a name: a mark but `:`, or the end
pub record Stops (byte : ℕ) : Type 0 where
  pub character : is_character byte ≡ false
  pub colon : (byte == 58) ≡ false

behind_a_name : (dotted : Bool) (kind rest : List ℕ) → Follows (get_or rest 0 0) → Stops (get_or (type_text dotted kind ++ rest) 0 0)
behind_a_name true kind rest ends = record { character = point_is_none; colon = refl }
behind_a_name false kind rest ends = record { character = ends.character; colon = ends.colon }

-- the drive
no_colon : (name rest : List ℕ) → 1 ≤ length name → AllPass is_character name → Stops (get_or rest 0 0) → (get_or (name ++ rest) 1 0 == 58) ≡ false
no_colon [] rest few all ends = absurd (omega arith)
no_colon (c ∷ []) rest few all ends = ends.colon
no_colon (c ∷ d ∷ cs) rest few all ends = other_than d 58 (all 1 0 (omega arith)) colon_is_none

pub no_drive : (text : List ℕ) → (get_or text 1 0 == 58) ≡ false → drive_of text ≡ 0
unfolding drive_of
no_drive text off = rw off refl

drive_from : (letter drive : ℕ) → suc drive ≤ 16 → letter ≡ 64 + suc drive → (if nat_le 65 letter && nat_le letter 80 then letter - 64 else 0) ≡ suc drive
drive_from letter drive few is = grind (arith, nat_tests)

a_drive : (letter drive : ℕ) (rest : List ℕ) → suc drive ≤ 16 → upper letter ≡ 64 + suc drive → drive_of (letter ∷ 58 ∷ rest) ≡ suc drive
unfolding drive_of
a_drive letter drive rest few is = drive_from (upper letter) drive few is

drive_is : (letter drive : ℕ) (rest : List ℕ) → drive ≤ 16 → (0 < drive → upper letter ≡ 64 + drive) → (get_or rest 1 0 == 58) ≡ false → drive_of (drive_text letter drive ++ rest) ≡ drive
drive_is letter zero rest few is off = no_drive rest off
drive_is letter (suc drive) rest few is off = a_drive letter drive rest few (is (omega arith))

behind_drive_is : (letter drive : ℕ) (rest : List ℕ) → drive ≤ 16 → (0 < drive → upper letter ≡ 64 + drive) → (get_or rest 1 0 == 58) ≡ false → behind_drive (drive_text letter drive ++ rest) ≡ rest
behind_drive_is letter zero rest few is off = rw (no_drive rest off) refl
behind_drive_is letter (suc drive) rest few is off = rw (a_drive letter drive rest few (is (omega arith)), ne_eqb (suc drive) 0 (λ same. absurd (omega arith))) refl

-- the first byte after the blanks
not_upper : (blank letter drive : ℕ) → letter ≡ blank → upper blank ≡ blank → upper letter ≡ 64 + suc drive → blank ≤ 32 → ⊥
not_upper blank letter drive same stays is low =
    let at : blank ≡ 64 + suc drive = sym stays ∙ ap upper (sym same) ∙ is in
    omega arith

letter_no_blank : (letter drive : ℕ) → upper letter ≡ 64 + suc drive → is_blank letter ≡ false
letter_no_blank letter drive is =
    rw (ne_eqb letter 32 (λ same. absurd (not_upper 32 letter drive same refl is (omega arith))), ne_eqb letter 9 (λ same. absurd (not_upper 9 letter drive same refl is (omega arith)))) refl

first_no_blank : (letter drive : ℕ) (name rest : List ℕ) → (0 < drive → upper letter ≡ 64 + drive) → 1 ≤ length name → AllPass is_character name → is_blank (get_or (drive_text letter drive ++ (name ++ rest)) 0 0) ≡ false
first_no_blank letter zero name rest is few all =
    no_blank (get_or (name ++ rest) 0 0) (ap is_character (get_or_append_left name rest 0 0 few) ∙ all 0 0 few)
first_no_blank letter (suc drive) name rest is few all = letter_no_blank letter drive (is (omega arith))

-- a spelling, part by part
abbrev from_locked : ℕ → List ℕ → List ℕ → List ℕ → Spelling
from_locked drive name kind locked = record { drive = drive; name = name; kind = kind; password = marked 59 locked; rest = behind_password locked }

abbrev from_typed : ℕ → List ℕ → List ℕ → Spelling
from_typed drive name typed = from_locked drive name (marked 46 typed) (behind_type typed)

abbrev from_named : ℕ → List ℕ → Spelling
from_named drive named = from_typed drive (field_of named) (drop (length (field_of named)) named)

abbrev from_start : List ℕ → Spelling
from_start start = from_named (drive_of start) (behind_drive start)

spelling_from : (text : List ℕ) → spelling text ≡ from_start (behind_blanks text)
unfolding spelling
spelling_from text = refl

pub spelled : (text : List ℕ) (s : Spelling) → HasForm text s → spelling text ≡ s
spelled text s form =
    let locked = password_text s.password ++ s.rest in
    let typed = type_text form.dotted s.kind ++ locked in
    let named = s.name ++ typed in
    let start = drive_text form.letter s.drive ++ named in
    let ends = what_ends (get_or s.rest 0 0) form.end in
    let follows = behind_a_type s.password s.rest ends in
    let stops = behind_a_name form.dotted s.kind locked follows in
    let colon = no_colon s.name typed form.name.few form.name.characters stops in
    let begun = first_no_blank form.letter s.drive s.name typed form.drive_letter form.name.few form.name.characters in
    let name_is : field_of named ≡ s.name = taken_before is_character s.name typed form.name.characters stops.character in
    ap spelling form.parts
    ∙ spelling_from (form.blanks ++ start)
    ∙ ap from_start (behind_blanks_is form.blanks start form.blank begun)
    ∙ ap (λ d. from_named d (behind_drive start)) (drive_is form.letter s.drive named form.drive form.drive_letter colon)
    ∙ ap (from_named s.drive) (behind_drive_is form.letter s.drive named form.drive form.drive_letter colon)
    ∙ ap (λ n. from_typed s.drive n (drop (length n) named)) name_is
    ∙ ap (from_typed s.drive s.name) (drop_at s.name typed (length s.name) refl)
    ∙ ap (λ k. from_locked s.drive s.name k (behind_type typed)) (type_is form.dotted s.kind locked form.no_type form.kind.characters follows)
    ∙ ap (from_locked s.drive s.name s.kind) (behind_type_is form.dotted s.kind locked form.kind.characters follows)
    ∙ ap (λ p. record s { password = p; rest = behind_password locked }) (password_is s.password s.rest form.password.characters ends)
    ∙ ap (λ r. record s { rest = r }) (behind_password_is s.password s.rest form.password.characters ends)

form_holds : (s : Spelling) → 1 ≤ length s.name → length s.name ≤ 8 → length s.kind ≤ 3 → length s.password ≤ 8 → is_end (slice_index s.rest 0) ≡ true → is_form s ≡ true
form_holds s few name kind password end = rw end (grind (arith, nat_tests))

pub parsed_form : (text : List ℕ) (s : Spelling) → HasForm text s → parsed text ≡ Some (meaning (length text) s)
unfolding parsed
parsed_form text s form =
    rw (spelled text s form, form_holds s form.name.few form.name.many form.kind.many form.password.many form.end) refl
