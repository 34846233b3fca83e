-- Directories in the places of their drives.
use Rattle.std.proofs.Common.{◌≡◌, ℕ, zero, suc, List, [], ◌∷◌, ◌++◌, Option, Some, None, IfSome, length, refl, ap, ◌∙◌}
use Rattle.std.specs.Prelude.{replicate, slice_index_or, slice_set}
use Rattle.mpm_mount.specs.Directories.{Directory, IsDirectory}
use Rattle.mpm_directories.specs.Places.{AreInPlace, all_put}

set_long : {X : Type 0} (xs : List X) (n : ℕ) (x : X) → length (slice_set xs n x) ≡ length xs
set_long [] n x = refl
set_long (y ∷ ys) zero x = refl
set_long (y ∷ ys) (suc n) x = ap (λ k. suc k) (set_long ys n x)

-- what is so of what comes into a place and of what stands in each stays so of each
pub set_each : {X : Type 0} (P : ℕ → X → Type 0) (xs : List (Option X)) (n : ℕ) (x : X) → P n x → ((number : ℕ) → IfSome (slice_index_or xs number None) (P number))
    → (number : ℕ) → IfSome (slice_index_or (slice_set xs n (Some x)) number None) (P number)
set_each P [] n x here each number = tt
set_each P (y ∷ ys) zero x here each zero = here
set_each P (y ∷ ys) zero x here each (suc number) = each (suc number)
set_each P (y ∷ ys) (suc n) x here each zero = each 0
set_each P (y ∷ ys) (suc n) x here each (suc number) = set_each (λ k. P (suc k)) ys n x here (λ k. each (suc k)) number

pub no_place : {X : Type 0} (P : ℕ → X → Type 0) (n number : ℕ) → IfSome (slice_index_or (replicate n None) number None) (P number)
no_place P zero number = tt
no_place P (suc n) zero = tt
no_place P (suc n) (suc number) = no_place (λ k. P (suc k)) n number

-- in places that are free, and in those in which one more directory without a fault was put
pub none_placed : AreInPlace (replicate 16 None)
none_placed = record {
  places = refl;
  each = no_place (λ number (directory : Directory). directory.drive ≡ number) 16;
  directories = no_place (λ number (directory : Directory). IsDirectory directory.kind directory.entries) 16;
}

pub one_placed : (places : List (Option Directory)) (directory : Directory) → AreInPlace places → IsDirectory directory.kind directory.entries → AreInPlace (slice_set places directory.drive (Some directory))
one_placed places directory placed is = record {
  places = set_long places directory.drive (Some directory) ∙ placed.places;
  each = set_each (λ number (one : Directory). one.drive ≡ number) places directory.drive directory refl placed.each;
  directories = set_each (λ number (one : Directory). IsDirectory one.kind one.entries) places directory.drive directory is placed.directories;
}

-- the last of them is put before the others
pub last_put : (rest : List Directory) (directory : Directory) (places : List (Option Directory)) → all_put (rest ++ (directory ∷ [])) places ≡ all_put rest (slice_set places directory.drive (Some directory))
unfolding all_put
last_put [] directory places = refl
last_put (first ∷ rest) directory places = ap (λ found. slice_set found first.drive (Some first)) (last_put rest directory places)

pub none_put : (rest : List Directory) (places : List (Option Directory)) → rest ≡ [] → all_put rest places ≡ places
unfolding all_put
none_put rest places is = ap (λ one. all_put one places) is
