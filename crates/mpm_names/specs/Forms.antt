-- The form of a file name, by its parts as they stand one after the other. (MP/M II Programmer's Guide, "Function 152:
-- Parse Filename".)
use Rattle.std.specs.Prelude.{◌≡◌, ◌≤◌, ◌<◌, ℕ, zero, suc, ◌+◌, Bool, true, false, List, [], ◌∷◌, ◌++◌, length, slice_index}
use Rattle.std.specs.List.{AllPass}
use Rattle.mpm_names.specs.Characters.{is_blank, is_character, upper}
use Rattle.mpm_names.specs.Spellings.{Spelling, is_end, meaning}
use Rattle.mpm_names.specs.declared.file_name.Parsed.{Parsed}

-- from so many to so many characters
pub record IsField (least most : ℕ) (field : List ℕ) : Type 0 where
  pub few : least ≤ length field
  pub many : length field ≤ most
  pub characters : AllPass is_character field

-- a letter and `:`, where there is a drive
abbrev pub drive_text : ℕ → ℕ → List ℕ
drive_text letter zero = []
drive_text letter (suc drive) = letter ∷ 58 ∷ []

-- `.` and a type, where there is a `.`
abbrev pub type_text : Bool → List ℕ → List ℕ
type_text true kind = 46 ∷ kind
type_text false kind = []

-- `;` and a password, where there is one
abbrev pub password_text : List ℕ → List ℕ
password_text [] = []
password_text (character ∷ password) = 59 ∷ character ∷ password

-- a text in the form: spaces and tabs, a letter A to P of either case and `:` or none, a name of 1 to 8 characters, `.`
-- and a type of 0 to 3 or none, `;` and a password of 1 to 8 or none, and what may follow
pub record HasForm (text : List ℕ) (s : Spelling) : Type 0 where
  pub blanks : List ℕ
  pub letter : ℕ
  pub dotted : Bool
  pub parts : text ≡ blanks ++ (drive_text letter s.drive ++ (s.name ++ (type_text dotted s.kind ++ (password_text s.password ++ s.rest))))
  pub blank : AllPass is_blank blanks
  pub drive : s.drive ≤ 16
  pub drive_letter : 0 < s.drive → upper letter ≡ 64 + s.drive
  pub name : IsField 1 8 s.name
  pub kind : IsField 0 3 s.kind
  pub no_type : dotted ≡ false → s.kind ≡ []
  pub password : IsField 0 8 s.password
  pub end : is_end (slice_index s.rest 0) ≡ true

-- parts of the text in the form, which mean that name
unfoldable pub Spells : List ℕ → Parsed → Type 0
Spells text name = (s : Spelling) × HasForm text s × (name ≡ meaning (length text) s)

-- no parts of the text are in the form
unfoldable pub IsFormless : List ℕ → Type 0
IsFormless text = (s : Spelling) → HasForm text s → ⊥
