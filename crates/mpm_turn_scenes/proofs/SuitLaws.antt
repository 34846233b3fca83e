-- What a directory says of a job that suits its drive.
use Rattle.std.proofs.Common.{◌≡◌, ◌∙◌, ℕ, ◌%◌, ◌≤◌, ◌==◌, false, List, length, take, take_all, sym, ap, subst, arith}
use Rattle.std.specs.List.{list_any}
use Rattle.std.proofs.lemmas.Bool.{true≢false}
use Rattle.std.proofs.lemmas.List.Folds.{list_any_at}
use Rattle.mpm_mount.specs.Drives.{FileName, Drive, free_entries}
use Rattle.mpm_mount.specs.Directories.{Directory, Stands, free_entries_in}
use Rattle.mpm_mount.specs.Files.{has_file, is_part_of}
use Rattle.mpm_mount.specs.Searching.{IsUnambiguous}
use Rattle.mpm_mount.proofs.FreeEntries.{free_entries_same}
use Rattle.mpm_files.proofs.CountedEntries.{there_same}

-- a name without a mark
pub one_name : (name : List ℕ) → length name ≡ 11 → list_any (λ byte. byte % 128 == 63) name ≡ false → IsUnambiguous name
one_name name size none = record {
  size = size;
  marks = λ k low same. true≢false (sym (list_any_at (λ byte. byte % 128 == 63) name k 0 (omega (arith, size, low)) (ap (λ byte. byte == 63) same)) ∙ none);
}

-- a file of which no slot has an entry
pub not_there : (image : List ℕ) (d : Directory) (drive : Drive) (file : FileName) (slot : ℕ) → length d.entries ≤ slot → list_any (is_part_of file) (take slot d.entries) ≡ false → Stands image d drive
    → has_file drive file ≡ false
unfolding has_file
not_there image d drive file slot all none stands =
    there_same image d drive file stands ∙ ap (list_any (is_part_of file)) (sym (take_all slot d.entries all)) ∙ none

-- entries that are free
pub room_there : (image : List ℕ) (d : Directory) (drive : Drive) (needed : ℕ) → needed ≤ free_entries_in d → Stands image d drive → needed ≤ free_entries drive
room_there image d drive needed room stands = subst (λ n. needed ≤ n) (free_entries_same image d drive stands) room
