-- The parts that are taken from a text stand in it one after the other.
use Rattle.std.proofs.Common.{◌≡◌, ℕ, zero, suc, ◌+◌, ◌-◌, ◌<◌, ◌≤◌, Bool, true, false, ◌==◌, ◌&&◌, List, [], ◌∷◌, ◌++◌, length, get_or, take, drop, sym, ap, ◌∙◌, arith, refl}
use Rattle.std.specs.Prelude.{nat_le, Some, None, if◌then◌else◌, slice_index}
use Rattle.std.specs.List.{AllPass, prefix_len}
use Rattle.std.proofs.lemmas.Bool.{eq-eqb, eqb-true, ne_eqb}
use Rattle.std.proofs.lemmas.Bool.Decides.{nat_tests}
use Rattle.std.proofs.lemmas.List.{drop_at, take-append-drop}
use Rattle.std.proofs.lemmas.List.Folds.{length-prefix_len}
use Rattle.std.proofs.lemmas.Option.{none-some, same_Some}
use Rattle.mpm_names.specs.Characters.{is_blank, is_character, upper}
use Rattle.mpm_names.specs.Spellings.{Spelling, field_of, behind_blanks, drive_of, behind_drive, marked, behind_type, behind_password, spelling, is_form, is_end, meaning, parsed}
use Rattle.mpm_names.specs.Forms.{drive_text, type_text, password_text, HasForm, Spells, IsFormless}
use Rattle.mpm_names.specs.declared.file_name.Parsed.{Parsed}
use Rattle.mpm_names.proofs.Runs.{taken_passes}
use Rattle.mpm_names.proofs.Formed.{unmarked, parsed_form}

field_split : (text : List ℕ) → text ≡ field_of text ++ drop (length (field_of text)) text
field_split text =
    sym (ap (λ n. field_of text ++ drop n text) (length-prefix_len is_character text) ∙ take-append-drop (prefix_len is_character text) text)

-- a mark, its field and what is after it
mark_field : (mark first : ℕ) (text : List ℕ) → first ≡ mark → marked mark (first ∷ text) ≡ field_of text
unfolding marked
mark_field mark first text same = rw (eq-eqb first mark same) refl

behind_mark : (first : ℕ) (text : List ℕ) → drop (1 + length (field_of text)) (first ∷ text) ≡ drop (length (field_of text)) text
behind_mark first text =
    ap (λ t. drop (1 + length (field_of text)) (first ∷ t)) (field_split text) ∙ drop_at (first ∷ field_of text) (drop (length (field_of text)) text) (1 + length (field_of text)) (omega arith)

mark_split : (mark first : ℕ) (text : List ℕ) → first ≡ mark → first ∷ text ≡ mark ∷ (marked mark (first ∷ text) ++ drop (1 + length (marked mark (first ∷ text))) (first ∷ text))
mark_split mark first text same =
    ap (λ f. f ∷ text) same
    ∙ ap (λ t. mark ∷ t) (field_split text)
    ∙ ap (λ t. mark ∷ (field_of text ++ t)) (sym (behind_mark first text))
    ∙ ap (λ f. mark ∷ (f ++ drop (1 + length f) (first ∷ text))) (sym (mark_field mark first text same))

-- the type
type_split_by : (dotted : Bool) (first : ℕ) (text : List ℕ) → (first == 46) ≡ dotted → first ∷ text ≡ type_text dotted (marked 46 (first ∷ text)) ++ (if dotted then drop (1 + length (marked 46 (first ∷ text))) (first ∷ text) else (first ∷ text))
type_split_by true first text is = mark_split 46 first text (eqb-true first 46 is)
type_split_by false first text is = refl

type_split : (text : List ℕ) → text ≡ type_text (slice_index text 0 == 46) (marked 46 text) ++ behind_type text
type_split [] = refl
type_split (first ∷ text) = type_split_by (first == 46) first text refl

-- the password
begins_by : (is : Bool) (mark character : ℕ) (text password : List ℕ) → (get_or text 0 0 == mark) ≡ is → marked mark text ≡ character ∷ password → get_or text 0 0 ≡ mark
begins_by true mark character text password is more = eqb-true (get_or text 0 0) mark is
begins_by false mark character text password is more =
    let none : 0 ≡ length (character ∷ password) = ap length (sym (unmarked mark text is) ∙ more) in
    absurd (omega arith)

begins : (mark character : ℕ) (text password : List ℕ) → marked mark text ≡ character ∷ password → get_or text 0 0 ≡ mark
begins mark character text password more = begins_by (get_or text 0 0 == mark) mark character text password refl more

password_split_by : (password text : List ℕ) → marked 59 text ≡ password → text ≡ password_text password ++ (if length password == 0 then text else (drop (1 + length password) text))
password_split_by [] text is = refl
password_split_by (c ∷ cs) [] is =
    let none = begins 59 c [] cs is in
    absurd (omega arith)
password_split_by (c ∷ cs) (first ∷ text) is =
    rw (ne_eqb (length (c ∷ cs)) 0 (λ same. absurd (omega arith))) (mark_split 59 first text (begins 59 c (first ∷ text) cs is) ∙ ap (λ m. 59 ∷ (m ++ drop (1 + length m) (first ∷ text))) is)

password_split : (text : List ℕ) → text ≡ password_text (marked 59 text) ++ behind_password text
password_split text = password_split_by (marked 59 text) text refl

-- the drive
drive_facts : (mark letter drive : ℕ) → (if mark == 58 && nat_le 65 letter && nat_le letter 80 then letter - 64 else 0) ≡ suc drive → (mark ≡ 58) × (letter ≡ 64 + suc drive) × (suc drive ≤ 16)
drive_facts mark letter drive is = (grind (arith, nat_tests), grind (arith, nat_tests), grind (arith, nat_tests))

drive_facts_of : (text : List ℕ) (drive : ℕ) → drive_of text ≡ suc drive → (get_or text 1 0 ≡ 58) × (upper (get_or text 0 0) ≡ 64 + suc drive) × (suc drive ≤ 16)
unfolding drive_of
drive_facts_of text drive is = drive_facts (get_or text 1 0) (upper (get_or text 0 0)) drive is

drive_split_by : (drive : ℕ) (text : List ℕ) → drive_of text ≡ drive → text ≡ drive_text (slice_index text 0) drive ++ (if drive == 0 then text else (drop 2 text))
drive_split_by zero text is = refl
drive_split_by (suc drive) [] is =
    let facts = drive_facts_of [] drive is in
    absurd (omega (arith, facts.0))
drive_split_by (suc drive) (a ∷ []) is =
    let facts = drive_facts_of (a ∷ []) drive is in
    absurd (omega (arith, facts.0))
drive_split_by (suc drive) (a ∷ b ∷ text) is =
    let facts = drive_facts_of (a ∷ b ∷ text) drive is in
    rw (ne_eqb (suc drive) 0 (λ same. absurd (omega arith))) (ap (λ m. a ∷ m ∷ text) facts.0)

drive_split : (text : List ℕ) → text ≡ drive_text (slice_index text 0) (drive_of text) ++ behind_drive text
drive_split text = drive_split_by (drive_of text) text refl

drive_few : (drive : ℕ) (text : List ℕ) → drive_of text ≡ drive → drive ≤ 16
drive_few zero text is = omega arith
drive_few (suc drive) text is = (drive_facts_of text drive is).2

drive_letter : (drive : ℕ) (text : List ℕ) → drive_of text ≡ drive → 0 < drive → upper (get_or text 0 0) ≡ 64 + drive
drive_letter zero text is more = absurd (omega arith)
drive_letter (suc drive) text is more = (drive_facts_of text drive is).1

-- what is taken after a mark are characters
marked_passes_by : (is : Bool) (mark : ℕ) (text : List ℕ) → (get_or text 0 0 == mark) ≡ is → AllPass is_character (marked mark text)
unfolding marked
marked_passes_by true mark text is = rw is (taken_passes is_character (drop 1 text))
marked_passes_by false mark text is = rw is (λ k d h. absurd (omega arith))

marked_passes : (mark : ℕ) (text : List ℕ) → AllPass is_character (marked mark text)
marked_passes mark text = marked_passes_by (get_or text 0 0 == mark) mark text refl

-- what the test of a spelling tells
pub record Sizes (s : Spelling) : Type 0 where
  pub name_few : 1 ≤ length s.name
  pub name_many : length s.name ≤ 8
  pub kind_many : length s.kind ≤ 3
  pub password_many : length s.password ≤ 8
  pub end : is_end (slice_index s.rest 0) ≡ true

sizes : (s : Spelling) → is_form s ≡ true → Sizes s
sizes s h = record {
  name_few = grind (arith, nat_tests);
  name_many = grind (arith, nat_tests);
  kind_many = grind (arith, nat_tests);
  password_many = grind (arith, nat_tests);
  end = grind (arith, nat_tests);
}

form_taken : (text : List ℕ) → is_form (spelling text) ≡ true → HasForm text (spelling text)
unfolding spelling
form_taken text h =
    let start = behind_blanks text in
    let named = behind_drive start in
    let typed = drop (length (field_of named)) named in
    let locked = behind_type typed in
    let all = sizes (spelling text) h in
    record {
      blanks = take (prefix_len is_blank text) text;
      letter = slice_index start 0;
      dotted = slice_index typed 0 == 46;
      parts =
          sym (take-append-drop (prefix_len is_blank text) text)
          ∙ ap (λ t. take (prefix_len is_blank text) text ++ t) (drive_split start ∙ ap (λ t. drive_text (slice_index start 0) (drive_of start) ++ t) (field_split named ∙ ap (λ t. field_of named ++ t) (type_split typed ∙ ap (λ t. type_text (slice_index typed 0 == 46) (marked 46 typed) ++ t) (password_split locked))));
      blank = taken_passes is_blank text;
      drive = drive_few (drive_of start) start refl;
      drive_letter = drive_letter (drive_of start) start refl;
      name = record { few = all.name_few; many = all.name_many; characters = taken_passes is_character named };
      kind = record { few = omega arith; many = all.kind_many; characters = marked_passes 46 typed };
      no_type = unmarked 46 typed;
      password = record { few = omega arith; many = all.password_many; characters = marked_passes 59 locked };
      end = all.end;
    }

-- a text that is a file name has the form, of parts that mean that name
found_by : (is : Bool) (text : List ℕ) (name : Parsed) → is_form (spelling text) ≡ is → (if is then Some (meaning (length text) (spelling text)) else None) ≡ Some name → Spells text name
unfolding Spells
found_by true text name is found = (spelling text, form_taken text is, sym (same_Some (meaning (length text) (spelling text)) name found))
found_by false text name is found = absurd (none-some name found)

pub form_found : (text : List ℕ) (name : Parsed) → parsed text ≡ Some name → Spells text name
unfolding parsed
form_found text name found = found_by (is_form (spelling text)) text name refl found

-- a text that is none has no form
pub no_form : (text : List ℕ) → parsed text ≡ None → IsFormless text
unfolding IsFormless
no_form text none s form = none-some (meaning (length text) s) (sym none ∙ parsed_form text s form)
