-- Slots of a directory.
use Rattle.std.proofs.Common.{◌≡◌, ℕ, ◌+◌, ◌/◌, ◌≤◌, Bool, List, [], ◌∷◌, Option, Some, None, length, refl, sym, subst, arith}
use Rattle.std.specs.Prelude.{position, count_by, IfSome}
use Rattle.std.proofs.lemmas.List.Quantifiers.{position-Some}
use Rattle.std.proofs.lemmas.List.Sums.{count_by-le-length}
use Rattle.mpm_base.specs.declared.kind.Kind.{Kind}
use Rattle.mpm_base.specs.declared.kind.Kind.TheVariants.{Ibm3740, Hd4, Hd8}
use Rattle.mpm_blocks.specs.Geometries.{geometry_of}
use Rattle.mpm_dirent.specs.declared.kinds.Entry.{Entry}
use Rattle.mpm_dirent.specs.declared.kinds.Entry.TheVariants.{Free}
use Rattle.mpm_mount.specs.Drives.{FileName, entry_name}
use Rattle.mpm_mount.specs.Faults.{is_named}
use Rattle.mpm_mount.specs.Directories.{Directory, extent_slot, is_free}

some_small : (o : Option ℕ) (bound : ℕ) → ((i : ℕ) → o ≡ Some i → i ≤ bound) → IfSome o (λ p. p ≤ bound)
some_small None bound each = tt
some_small (Some i) bound each = each i refl

pub slot_small : {X : Type 0} (p : X → Bool) (xs : List X) → length xs ≤ 65535 → IfSome (position p xs) (λ place. place ≤ 65535)
slot_small p [] h = tt
slot_small p (x ∷ xs) h = some_small (position p (x ∷ xs)) 65535 (λ i found. let at = position-Some p (x ∷ xs) i x found in omega (arith, at.0))

pub found_small : {X : Type 0} (o : Option ℕ) (p : X → Bool) (xs : List X) → o ≡ position p xs → length xs ≤ 65535 → IfSome o (λ place. place ≤ 65535)
found_small o p xs is h = subst (λ (q : Option ℕ). IfSome q (λ place. place ≤ 65535)) (sym is) (slot_small p xs h)

pub free_within : (n : ℕ) (entries : List Entry) → n ≡ count_by is_free entries → n ≤ length entries
free_within n entries is = omega (arith, count_by-le-length is_free entries)

pub last_entry_small : (kind : Kind) → (geometry_of kind).drm ≤ 511
last_entry_small Ibm3740 = omega arith
last_entry_small Hd4 = omega arith
last_entry_small Hd8 = omega arith

pub block_small : (kind : Kind) → (geometry_of kind).block / 128 ≤ 32
block_small Ibm3740 = omega arith
block_small Hd4 = omega arith
block_small Hd8 = omega arith

-- a slot that is found is one of the directory
pub slot_within : (d : Directory) (file : FileName) (extent slot : ℕ) → length d.entries ≡ (geometry_of d.kind).drm + 1 → extent_slot d file extent ≡ Some slot
    → slot ≤ (geometry_of d.kind).drm
slot_within d file extent slot full found =
    let at = position-Some (is_named d.kind (entry_name d.kind file extent)) d.entries slot Free found in
    omega (arith, at.0, full)
