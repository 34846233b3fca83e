-- A file that isn't there has no entry; entries in slots, against the drive.
use Rattle.std.proofs.Common.{◌≡◌, ℕ, ◌<◌, Bool, true, false, cond, ◌&&◌, ◌||◌, List, [], ◌∷◌, Some, None, map, length, refl, sym, ap, ◌∙◌}
use Rattle.std.specs.List.{list_any, list_all, filter}
use Rattle.std.specs.declared.cmp.Ordering.{Ordering}
use Rattle.std.specs.Ordering.{eq_by_cmp}
use Rattle.std.specs.FinMap.{find, get, entries, keys, get-entries}
use Rattle.std.proofs.lemmas.Bool.{true≢false, or_parts}
use Rattle.mpm_blocks.specs.Sectors.{sectors_of}
use Rattle.mpm_dirent.specs.declared.kinds.Entry.TheVariants.{File}
use Rattle.mpm_dirent.specs.declared.kinds.FileEntry.{FileEntry}
use Rattle.mpm_mount.specs.Drives.{FileName, entry_cmp, Drive, is_of, extents_of}
use Rattle.mpm_mount.specs.Faults.{name_of, is_named}
use Rattle.mpm_mount.specs.Images.{extent_in}
use Rattle.mpm_mount.specs.Directories.{Directory, Stands, entry_in}
use Rattle.mpm_mount.specs.Files.{is_same_file, entries_named, is_entry_of, has_file}
use Rattle.mpm_mount.proofs.LookedUp.{extent_there}
use Rattle.mpm_mount.proofs.Distinct.{own_name}
use Rattle.mpm_mount.proofs.Names.{entry_parts}

-- a key of which no entry passes a test that all its ties pass
no_tie : {K X : Type 0} (R : K → K → Ordering) (p : K → Bool) (q : K) (e : K × X) (es : List (K × X)) (b : Bool) → eq_by_cmp R q e.0 ≡ b → (eq_by_cmp R q e.0 ≡ true → p e.0 ≡ true) → p e.0 ≡ false
    → find R q es ≡ None → find R q (e ∷ es) ≡ None
no_tie R p q e es true is passes fails rest = absurd (true≢false (sym (passes is) ∙ fails))
no_tie R p q e es false is passes fails rest = ap (λ b. cond b (Some e.1) (find R q es)) is ∙ rest

not_found : {K X : Type 0} (R : K → K → Ordering) (p : K → Bool) (q : K) (es : List (K × X)) → ((k : K) → eq_by_cmp R q k ≡ true → p k ≡ true) → list_any (λ e. p e.0) es ≡ false → find R q es ≡ None
not_found R p q [] passes none = refl
not_found R p q (e ∷ es) passes none =
    let parts = or_parts (p e.0) (list_any (λ x. p x.0) es) none in
    no_tie R p q e es (eq_by_cmp R q e.0) refl (passes e.0) parts.0 (not_found R p q es passes parts.1)

any_made : {X Y : Type 0} (q : Y → Bool) (f : X → Y) (xs : List X) → list_any q (map f xs) ≡ list_any (λ x. q (f x)) xs
any_made q f [] = refl
any_made q f (x ∷ xs) = ap (λ b. q (f x) || b) (any_made q f xs)

pub no_entry : (drive : Drive) (file : FileName) (number : ℕ) → has_file drive file ≡ false → get drive.extents (record { user = file.user; name = file.name; number = number }) ≡ None
unfolding has_file entries_named
no_entry drive file number none =
    get-entries drive.extents (record { user = file.user; name = file.name; number = number })
    ∙ not_found entry_cmp (λ name. is_same_file file (record { user = name.user; name = name.name })) (record { user = file.user; name = file.name; number = number }) (entries drive.extents)
    (λ name tied. (entry_parts file (record { user = name.user; name = name.name }) number name.number tied).0)
    (sym (any_made (λ name. is_same_file file (record { user = name.user; name = name.name })) (λ e. e.0) (entries drive.extents))
    ∙ sym (any_made (is_entry_of file) (λ name. (record { user = name.user; name = name.name }, name.number)) (keys drive.extents)) ∙ none)

-- what the drive has of an entry in a slot
pub there_at : (image : List ℕ) (d : Directory) (files : Drive) (slot : ℕ) (f : FileEntry) → Stands image d files → slot < length d.entries → entry_in d slot ≡ File f
    → get files.extents (name_of d.kind f) ≡ Some (extent_in (sectors_of image d.kind) d.kind f)
there_at image d files slot f stands h is =
    ap (λ (drive : Drive). get drive.extents (name_of d.kind f)) stands.drive
    ∙ extent_there (sectors_of image d.kind) d.kind d.entries slot (name_of d.kind f) f stands.faultless h is (ap (is_named d.kind (name_of d.kind f)) is ∙ own_name d.kind f) refl

-- the entries of a file are its own
one_passes : {X : Type 0} (p : X → Bool) (x : X) (rest : List X) (b : Bool) → p x ≡ b → list_all p rest ≡ true → list_all p (cond b (x ∷ rest) rest) ≡ true
one_passes p x rest true passes all = ap (λ b. b && list_all p rest) passes ∙ all
one_passes p x rest false fails all = all

all_pass : {X : Type 0} (p : X → Bool) (xs : List X) → list_all p (filter p xs) ≡ true
all_pass p [] = refl
all_pass p (x ∷ xs) = one_passes p x (filter p xs) (p x) refl (all_pass p xs)

pub all_of_file : (files : Drive) (file : FileName) → list_all (is_of file) (extents_of files file) ≡ true
unfolding extents_of
all_of_file files file = all_pass (is_of file) (entries files.extents)
