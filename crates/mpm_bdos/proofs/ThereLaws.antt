-- A file is there where it has a directory entry, and so as long as its entries are as they were.
use Rattle.std.proofs.Common.{◌≡◌, ◌∙◌, ℕ, Bool, true, false, ◌==◌, ◌||◌, cond, List, [], ◌∷◌, map, refl, sym, ap}
use Rattle.std.specs.Prelude.{is_some, bytes_eq}
use Rattle.std.specs.List.{list_any, filter}
use Rattle.std.specs.FinMap.{get, entries, contains_key-keys}
use Rattle.std.specs.Ordering.{eq_by_cmp, is_eq}
use Rattle.std.specs.Cmp.{tied_itself}
use Rattle.std.proofs.Math.Bool.{or-true}
use Rattle.std.proofs.lemmas.Bool.{true≢false, false≢true, and_parts, eqb-true}
use Rattle.std.proofs.lemmas.Slice.Eq.{bytes_eq-Decides}
use Rattle.mpm_mount.specs.declared.slots.EntryName.{EntryName}
use Rattle.mpm_mount.specs.Drives.{FileName, entry_cmp, PhysicalExtent, Drive, is_of, extents_of}
use Rattle.mpm_mount.specs.Attributes.{first_attributes}
use Rattle.mpm_mount.specs.Looking.{file_attributes}
use Rattle.mpm_mount.proofs.Orders.{entry_total}
use Rattle.mpm_files.specs.Containment.{KeepsEntries}
use Rattle.mpm_files.proofs.NoFile.{no_entry}
use Rattle.mpm_refusals.specs.Subjects.{is_there}
use Rattle.mpm_bdos.proofs.Absent.{absent}

-- an entry of a file by its number
abbrev its_name : FileName → ℕ → EntryName
its_name file number = record { user = file.user; name = file.name; number = number }

its_own : (file : FileName) (entry : EntryName × PhysicalExtent) → is_of file entry ≡ true → eq_by_cmp entry_cmp (its_name file entry.0.number) entry.0 ≡ true
its_own file entry is =
    let parts = and_parts (entry.0.user == file.user) (bytes_eq entry.0.name file.name) is in
    let user : entry.0.user ≡ file.user = eqb-true entry.0.user file.user parts.0 in
    let name : entry.0.name ≡ file.name = (bytes_eq-Decides entry.0.name file.name).0 parts.1 in
    let same : entry.0 ≡ its_name file entry.0.number = λ i. record { user = user i; name = name i; number = entry.0.number } in
    ap (eq_by_cmp entry_cmp (its_name file entry.0.number)) same ∙ ap is_eq (tied_itself entry_total (its_name file entry.0.number))

-- where an entry of the file is among others
abbrev IsNamedIn : FileName → List (EntryName × PhysicalExtent) → Type 0
IsNamedIn file es = (number : ℕ) × (list_any (eq_by_cmp entry_cmp (its_name file number)) (map (λ e. e.0) es) ≡ true)

named_step : (file : FileName) (e : EntryName × PhysicalExtent) (es kept : List (EntryName × PhysicalExtent)) (b : Bool) → is_of file e ≡ b
    → (is_some (first_attributes kept) ≡ true → IsNamedIn file es) → is_some (first_attributes (cond b (e ∷ kept) kept)) ≡ true → IsNamedIn file (e ∷ es)
named_step file e es kept true is rest there =
    (e.0.number, ap (λ b. b || list_any (eq_by_cmp entry_cmp (its_name file e.0.number)) (map (λ x. x.0) es)) (its_own file e is))
named_step file e es kept false is rest there =
    let named = rest there in
    (named.0, ap (λ b. eq_by_cmp entry_cmp (its_name file named.0) e.0 || b) named.1 ∙ or-true (eq_by_cmp entry_cmp (its_name file named.0) e.0))

named_among : (file : FileName) (es : List (EntryName × PhysicalExtent)) → is_some (first_attributes (filter (is_of file) es)) ≡ true → IsNamedIn file es
named_among file [] there = absurd (false≢true there)
named_among file (e ∷ es) there = named_step file e es (filter (is_of file) es) (is_of file e) refl (named_among file es) there

pub there_has : (drive : Drive) (file : FileName) → is_there drive file ≡ true
    → (number : ℕ) × (is_some (get drive.extents (record { user = file.user; name = file.name; number = number })) ≡ true)
unfolding file_attributes extents_of
there_has drive file there =
    let found = named_among file (entries drive.extents) there in
    (found.0, contains_key-keys drive.extents (its_name file found.0) ∙ found.1)

pub has_there : (drive : Drive) (file : FileName) (number : ℕ) → is_some (get drive.extents (record { user = file.user; name = file.name; number = number })) ≡ true
    → is_there drive file ≡ true
has_there drive file number is = by_test (is_there drive file) refl
  where
    by_test : (b : Bool) → is_there drive file ≡ b → b ≡ true
    by_test true e = refl
    by_test false e = absurd (true≢false (sym is ∙ ap is_some (no_entry drive file number (absent drive file e))))

pub there_stays : (file : FileName) (old new : Drive) → KeepsEntries file old new → is_there old file ≡ true → is_there new file ≡ true
there_stays file old new keeps there =
    let found = there_has old file there in
    has_there new file found.0 (ap is_some (keeps.entries found.0) ∙ found.1)
