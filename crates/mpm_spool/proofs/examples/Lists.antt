-- Worked examples of lists, by computation.
use Rattle.std.proofs.Common.{◌≡◌, ◌∷◌, [], ◌++◌, Some, None, true, false, replicate, refl, List, ℕ}
use Rattle.std.specs.Prelude.{codes, length, option_map, ⊤}
use Rattle.mpm_spool.specs.declared.list.SpoolItem.{SpoolItem}
use Rattle.mpm_base.specs.Lists.{in_width, zeros}
use Rattle.mpm_names.specs.Characters.{is_delimiter, is_character}
use Rattle.mpm_names.specs.Spellings.{drive_of, marked, spelling, kept_at, filled, next_of, parsed}
use Rattle.mpm_messages.specs.Texts.{stripped}
use Rattle.mpm_spool.specs.SpoolLists.{is_ambiguous, item_of, items_of, parts_of, list_of}

-- what they unfold
unfoldable pub lists : ⊤
unfolding is_delimiter is_character drive_of marked spelling kept_at filled next_of parsed stripped is_ambiguous item_of items_of parts_of list_of in_width zeros
lists = tt

-- a message of the queue, as a command's tail comes in: with the space before it, and zeros after it
abbrev pub message : List ℕ → List ℕ
message text = in_width 128 text

-- one file, which is deleted then
pub one_file : list_of (message (codes " a.txt[d]"))
    ≡ Some (record { drive = 0; name = codes "A       TXT"; password = replicate 8 0; delete = true } ∷ [])
unfolding lists
one_file = refl

-- two files, one with a drive and a password; spaces stand before a name, and at both ends
pub two_files : list_of (message (codes " B:LETTER;key, a.txt  "))
    ≡ Some (record { drive = 2; name = codes "LETTER     "; password = codes "KEY     "; delete = false }
    ∷ record { drive = 0; name = codes "A       TXT"; password = replicate 8 0; delete = false } ∷ [])
unfolding lists
two_files = refl

-- a text after CR doesn't count
pub after_return : list_of (message (codes "a" ++ 13 ∷ codes ",b")) ≡ Some (record { drive = 0; name = codes "A          "; password = replicate 8 0; delete = false } ∷ [])
unfolding lists
after_return = refl

-- a `*`, a space before a comma, a comma at the end, two marks, no name, and nine names
pub with_star : list_of (message (codes " *.txt")) ≡ None
unfolding lists
with_star = refl

pub space_before_comma : list_of (message (codes "a ,b")) ≡ None
unfolding lists
space_before_comma = refl

pub comma_at_end : list_of (message (codes "a,")) ≡ None
unfolding lists
comma_at_end = refl

pub two_marks : list_of (message (codes "a[d][D]")) ≡ None
unfolding lists
two_marks = refl

pub no_name : list_of (message (codes "  ")) ≡ None
unfolding lists
no_name = refl

pub nine_names : list_of (message (codes "a,b,c,d,e,f,g,h,i")) ≡ None
unfolding lists
nine_names = refl

-- eight names are a list; a mark is whole and ends its item, a drive is no name, a password has one before it; a tab may stand before a name,
-- and nowhere else
pub eighth_name : option_map (λ (items : List SpoolItem). length items) (list_of (message (codes "a,b,c,d,e,f,g,h"))) ≡ Some 8
unfolding lists
eighth_name = refl

pub mark_in_parts : list_of (message (codes "a[D ]")) ≡ None
unfolding lists
mark_in_parts = refl

pub after_mark : list_of (message (codes "a[D]b")) ≡ None
unfolding lists
after_mark = refl

pub drive_alone : list_of (message (codes "a:")) ≡ None
unfolding lists
drive_alone = refl

pub password_alone : list_of (message (codes ";x")) ≡ None
unfolding lists
password_alone = refl

pub tab_before_name : list_of (message (9 ∷ codes "a")) ≡ list_of (message (codes "a"))
unfolding lists
tab_before_name = refl

pub tab_after_name : list_of (message (codes "a" ++ 9 ∷ [])) ≡ None
unfolding lists
tab_after_name = refl
