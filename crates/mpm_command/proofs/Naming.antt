-- What is so of file names: the drive that is spelled is one of sixteen or none, and nothing is no name.
use Rattle.std.proofs.Common.{◌≡◌, ℕ, ◌≤◌, List, [], length, refl, sym, subst}
use Rattle.std.specs.Prelude.{None}
use Rattle.mpm_names.specs.Characters.{is_delimiter, is_character}
use Rattle.mpm_names.specs.Spellings.{Spelling, parsed, spelling, drive_of, marked, meaning}
use Rattle.mpm_names.specs.Forms.{HasForm, Spells}
use Rattle.mpm_names.specs.declared.file_name.Parsed.{Parsed}

by_form : (text : List ℕ) (name : Parsed) (s : Spelling) → HasForm text s → name ≡ meaning (length text) s → name.drive ≤ 16
by_form text name s form means = subst (λ (n : Parsed). n.drive ≤ 16) (sym means) form.drive

pub spelled_drive : (text : List ℕ) (name : Parsed) → Spells text name → name.drive ≤ 16
unfolding Spells
spelled_drive text name spelled = by_form text name spelled.0 spelled.1 spelled.2

pub is_no_name : parsed [] ≡ None
unfolding parsed spelling drive_of marked is_delimiter is_character
is_no_name = refl
