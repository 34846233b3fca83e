-- A file that isn't there has no directory entry, and is another than one that is.
use Rattle.std.proofs.Common.{◌≡◌, ◌∙◌, Bool, true, false, ◌||◌, cond, List, [], ◌∷◌, map, sym, refl, ap}
use Rattle.std.specs.Prelude.{is_some}
use Rattle.std.specs.List.{list_any, filter}
use Rattle.std.specs.FinMap.{entries}
use Rattle.std.proofs.lemmas.Bool.{true≢false, false_from_ne_true}
use Rattle.mpm_mount.specs.Drives.{FileName, PhysicalExtent, Drive, is_of, extents_of}
use Rattle.mpm_mount.specs.Attributes.{first_attributes}
use Rattle.mpm_mount.specs.Files.{is_same_file, entries_named, is_entry_of, has_file}
use Rattle.mpm_mount.proofs.Names.{one_file, same_back}
use Rattle.mpm_mount.specs.Looking.{file_attributes}
use Rattle.mpm_refusals.specs.Subjects.{is_there}

no_first : {K : Type 0} (found : List (K × PhysicalExtent)) → is_some (first_attributes found) ≡ false → found ≡ []
no_first [] e = refl
no_first (entry ∷ found) e = absurd (cc)

none_kept : {X : Type 0} (p : X → Bool) (x : X) (xs kept : List X) (b : Bool) → p x ≡ b → cond b (x ∷ kept) kept ≡ [] → (kept ≡ [] → list_any p xs ≡ false)
    → p x || list_any p xs ≡ false
none_kept p x xs kept true is none rest = absurd (cc)
none_kept p x xs kept false is none rest = ap (λ b. b || list_any p xs) is ∙ rest none

none_passes : {X : Type 0} (p : X → Bool) (xs : List X) → filter p xs ≡ [] → list_any p xs ≡ false
none_passes p [] e = refl
none_passes p (x ∷ xs) e = none_kept p x xs (filter p xs) (p x) refl e (none_passes p xs)

any_named : {X Y Z : Type 0} (f : X → Y) (g : Y → Z) (p : Z → Bool) (q : X → Bool) (xs : List X) → ((x : X) → p (g (f x)) ≡ q x)
    → list_any p (map g (map f xs)) ≡ list_any q xs
any_named f g p q [] same = refl
any_named f g p q (x ∷ xs) same =
    ap (λ b. b || list_any p (map g (map f xs))) (same x) ∙ ap (λ b. q x || b) (any_named f g p q xs same)

pub absent : (drive : Drive) (file : FileName) → is_there drive file ≡ false → has_file drive file ≡ false
unfolding has_file entries_named file_attributes extents_of
absent drive file none =
    any_named (λ entry. entry.0) (λ name. (record { user = name.user; name = name.name }, name.number)) (is_entry_of file) (is_of file) (entries drive.extents)
    (λ entry. same_back file (record { user = entry.0.user; name = entry.0.name }))
    ∙ none_passes (is_of file) (entries drive.extents) (no_first (filter (is_of file) (entries drive.extents)) none)

pub is_other : (drive : Drive) (file other : FileName) → is_there drive file ≡ true → is_there drive other ≡ false → is_same_file other file ≡ false
is_other drive file other there none =
    false_from_ne_true (is_same_file other file) (λ same. true≢false (sym there ∙ ap (is_there drive) (sym (one_file other file same)) ∙ none))
