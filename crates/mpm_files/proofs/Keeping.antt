-- What a change of one file keeps of all others.
use Rattle.std.proofs.Common.{◌≡◌, ℕ, Bool, false, cond, ◌||◌, List, [], ◌∷◌, ◌++◌, Some, None, refl, ap, ◌∙◌}
use Rattle.std.specs.List.{AllByRecursion}
use Rattle.std.specs.FinMap.{get, get-insert, get-remove}
use Rattle.std.proofs.lemmas.Bool.{or_parts}
use Rattle.mpm_mount.specs.Drives.{FileName, PhysicalExtent, Protection, Drive, with_extent, without_extent, with_xfcb, without_xfcb}
use Rattle.mpm_mount.specs.Files.{is_same_file}
use Rattle.mpm_mount.proofs.Orders.{entry_total, file_total}
use Rattle.mpm_mount.proofs.Names.{entries_differ, files_differ}
use Rattle.mpm_files.specs.Units.{last_of}
use Rattle.mpm_files.specs.Containment.{KeepsOtherFiles}

pub keeps_itself : (p : FileName → Bool) (l : Bool) (drive : Drive) → KeepsOtherFiles p l drive drive
keeps_itself p l drive = record { kind = refl; kept = refl; files = λ file no. record { extents = λ number. refl; xfcb = refl }; label = λ no. refl }

pub keeps_after : (p : FileName → Bool) (l : Bool) (a b c : Drive) → KeepsOtherFiles p l a b → KeepsOtherFiles p l b c → KeepsOtherFiles p l a c
keeps_after p l a b c first second = record {
  kind = second.kind ∙ first.kind;
  kept = second.kept ∙ first.kept;
  files = λ file no. record {
    extents = λ number. (second.files file no).extents number ∙ (first.files file no).extents number;
    xfcb = (second.files file no).xfcb ∙ (first.files file no).xfcb;
  };
  label = λ no. second.label no ∙ first.label no;
}

pub keeps_wider : (p q : FileName → Bool) (l m : Bool) (a b : Drive) → ((file : FileName) → q file ≡ false → p file ≡ false) → (m ≡ false → l ≡ false)
    → KeepsOtherFiles p l a b → KeepsOtherFiles q m a b
keeps_wider p q l m a b files label keeps = record {
  kind = keeps.kind;
  kept = keeps.kept;
  files = λ file no. keeps.files file (files file no);
  label = λ no. keeps.label (label no);
}

-- an entry of a file
abbrev pub Of : FileName → Drive → Drive → Type 0
Of file = KeepsOtherFiles (λ other. is_same_file other file) false

pub entry_put : (drive : Drive) (file : FileName) (number : ℕ) (entry : PhysicalExtent)
    → Of file drive (with_extent drive (record { user = file.user; name = file.name; number = number }) entry)
entry_put drive file number entry = record {
  kind = refl;
  kept = refl;
  files = λ other no. record {
    extents = λ k.
        get-insert entry_total drive.extents (record { user = file.user; name = file.name; number = number }) entry (record { user = other.user; name = other.name; number = k })
        ∙ ap (λ b. cond b (Some entry) (get drive.extents (record { user = other.user; name = other.name; number = k }))) (entries_differ other file k number no);
    xfcb = refl;
  };
  label = λ no. refl;
}

pub entry_taken : (drive : Drive) (file : FileName) (number : ℕ)
    → Of file drive (without_extent drive (record { user = file.user; name = file.name; number = number }))
entry_taken drive file number = record {
  kind = refl;
  kept = refl;
  files = λ other no. record {
    extents = λ k.
        get-remove entry_total drive.extents (record { user = file.user; name = file.name; number = number }) (record { user = other.user; name = other.name; number = k })
        ∙ ap (λ b. cond b None (get drive.extents (record { user = other.user; name = other.name; number = k }))) (entries_differ other file k number no);
    xfcb = refl;
  };
  label = λ no. refl;
}

-- its XFCB
pub xfcb_put : (drive : Drive) (file : FileName) (xfcb : Protection) → Of file drive (with_xfcb drive file xfcb)
xfcb_put drive file xfcb = record {
  kind = refl;
  kept = refl;
  files = λ other no. record {
    extents = λ k. refl;
    xfcb = get-insert file_total drive.xfcbs file xfcb other ∙ ap (λ b. cond b (Some xfcb) (get drive.xfcbs other)) (files_differ other file no);
  };
  label = λ no. refl;
}

pub xfcb_taken : (drive : Drive) (file : FileName) → Of file drive (without_xfcb drive file)
xfcb_taken drive file = record {
  kind = refl;
  kept = refl;
  files = λ other no. record {
    extents = λ k. refl;
    xfcb = get-remove file_total drive.xfcbs file other ∙ ap (λ b. cond b None (get drive.xfcbs other)) (files_differ other file no);
  };
  label = λ no. refl;
}

-- two files
abbrev pub OfBoth : FileName → FileName → Drive → Drive → Type 0
OfBoth file new = KeepsOtherFiles (λ other. is_same_file other file || is_same_file other new) false

pub first_of_both : (file new : FileName) (a b : Drive) → Of file a b → OfBoth file new a b
first_of_both file new a b = keeps_wider (λ other. is_same_file other file) (λ other. is_same_file other file || is_same_file other new) false false a b
    (λ other no. (or_parts (is_same_file other file) (is_same_file other new) no).0) (λ no. no)

pub second_of_both : (file new : FileName) (a b : Drive) → Of new a b → OfBoth file new a b
second_of_both file new a b = keeps_wider (λ other. is_same_file other new) (λ other. is_same_file other file || is_same_file other new) false false a b
    (λ other no. (or_parts (is_same_file other file) (is_same_file other new) no).1) (λ no. no)

-- what is so of each of some drives is so of the last
pub last_too : (P : Drive → Type 0) (drives : List Drive) (drive : Drive) → P drive → AllByRecursion P drives → P (last_of drive drives)
unfolding last_of
last_too P [] drive here each = here
last_too P (next ∷ drives) drive here each = last_too P drives next each.0 each.1

pub all_both : {X : Type 0} (P : X → Type 0) (xs ys : List X) → AllByRecursion P xs → AllByRecursion P ys → AllByRecursion P (xs ++ ys)
all_both P [] ys each more = more
all_both P (x ∷ xs) ys each more = (each.0, all_both P xs ys each.1 more)

pub all_so : (P Q : Drive → Type 0) (xs : List Drive) → ((x : Drive) → P x → Q x) → AllByRecursion P xs → AllByRecursion Q xs
all_so P Q [] so each = tt
all_so P Q (x ∷ xs) so each = (so x each.0, all_so P Q xs so each.1)

pub last_append : (xs : List Drive) (y drive : Drive) → last_of drive (xs ++ (y ∷ [])) ≡ y
unfolding last_of
last_append [] y drive = refl
last_append (x ∷ xs) y drive = last_append xs y x
