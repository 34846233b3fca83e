-- What attaching a drive over memory, and writing to it, leave of the drives with their images and of what is known of images.
use Rattle.std.proofs.Common.{◌≡◌, ◌≢◌, ℕ, ◌+◌, ◌*◌, ◌≤◌, List, Option, Some, None, IfSome, IsSome, IsSomeAnd, length, option_map, option_and_then, refl, ap, sym, subst, ◌∙◌}
use Rattle.mpm_port.specs.Disks.{Untold, Brings, Attaches, IsInsideDrive, KeepsTold, size_of, with_sector, WritesSector}
use Rattle.mpm_port.specs.MemoryDisks.{shelved, found, told_in}
use Rattle.mpm_port.specs.Named.{contents_of, with_contents, name_of_drive, with_drive}
use Rattle.mpm_port.specs.declared.named.Named.{Named}
use Rattle.mpm_port.specs.declared.links.Link.{Link}
use Rattle.mpm_port.proofs.Shelves.{contents_of_here, contents_of_other, name_of_here, name_of_other, sizes_kept}

-- ---- a drive is attached

brought : (there : Option (List ℕ)) → IsSome there → IsSomeAnd there (Brings (found there))
brought None h = absurd (cc)
brought (Some bytes) h = refl

pub attaches : (items : List Named) (links new : List Link) (drive : ℕ) (name : List ℕ) → new ≡ with_drive links drive name → IsSome (contents_of items name)
    → Attaches drive name (found (contents_of items name)) (shelved items links) (shelved items new)
attaches items links new drive name is there = record {
  here = rw is (name_of_here links drive name);
  image = rw is (rw (name_of_here links drive name) (brought (contents_of items name) there));
  names = λ other apart. rw is (name_of_other links drive name other apart);
  others = λ other apart. rw is (ap (option_and_then (contents_of items)) (name_of_other links drive name other apart));
}

-- ---- a sector is written

-- the image of a name has a sector, which has new bytes now
record HasSector (items new : List Named) (name : List ℕ) (sector : ℕ) (bytes : List ℕ) : Type 0 where
  image : List ℕ
  there : contents_of items name ≡ Some image
  inside : 128 * sector + 128 ≤ length image
  new_is : new ≡ with_contents items name (with_sector image sector bytes)

has_sector : (items new : List Named) (links : List Link) (drive : ℕ) (name : List ℕ) (sector : ℕ) (bytes : List ℕ) → name_of_drive links drive ≡ Some name
    → IfSome (contents_of items name) (λ image. new ≡ with_contents items name (with_sector image sector bytes)) → IsInsideDrive (size_of (shelved items links) drive) sector
    → HasSector items new name sector bytes
has_sector items new links drive name sector bytes named is inside =
    by_image (contents_of items name) refl is (subst (λ (n : Option (List ℕ)). IsInsideDrive (option_map length (option_and_then (contents_of items) n)) sector) named inside)
  where
    by_image : (o : Option (List ℕ)) → contents_of items name ≡ o → IfSome o (λ image. new ≡ with_contents items name (with_sector image sector bytes)) → IsInsideDrive (option_map length o) sector
        → HasSector items new name sector bytes
    by_image None there is inside = absurd inside
    by_image (Some image) there is inside = record { image = image; there = there; inside = inside; new_is = is }

-- the image of another name is as it was
image_other : (items : List Named) (name contents : List ℕ) (o : Option (List ℕ)) → o ≢ Some name
    → option_and_then (contents_of (with_contents items name contents)) o ≡ option_and_then (contents_of items) o
image_other items name contents None apart = refl
image_other items name contents (Some other) apart = contents_of_other items name contents other (λ same. apart (ap Some same))

pub writes_sector : (items new : List Named) (links : List Link) (drive : ℕ) (name : List ℕ) (sector : ℕ) (bytes : List ℕ) → name_of_drive links drive ≡ Some name
    → IfSome (contents_of items name) (λ image. new ≡ with_contents items name (with_sector image sector bytes)) → IsInsideDrive (size_of (shelved items links) drive) sector
    → length bytes ≡ 128 → WritesSector drive sector bytes (shelved items links) (shelved new links)
writes_sector items new links drive name sector bytes named is inside long =
    let has = has_sector items new links drive name sector bytes named is inside in
    let contents = with_sector has.image sector bytes in
    subst (λ (n : List Named). WritesSector drive sector bytes (shelved items links) (shelved n links)) (sym has.new_is) (record {
      names = λ other. refl;
      here = rw (named, has.there) (contents_of_here items name contents);
      others = λ other apart. image_other items name contents (name_of_drive links other) (λ same. apart (same ∙ sym named));
      sizes = λ other. sizes_kept items links name has.image sector bytes other has.there long has.inside;
    })

-- of no image nothing is known
is_known : (there : Option (List ℕ)) → found there ≢ Untold
is_known None h = cc
is_known (Some bytes) h = cc

pub keeps_told : (items new : List Named) (links : List Link) (drive : ℕ) (name : List ℕ) (sector : ℕ) (bytes : List ℕ) → name_of_drive links drive ≡ Some name
    → IfSome (contents_of items name) (λ image. new ≡ with_contents items name (with_sector image sector bytes)) → IsInsideDrive (size_of (shelved items links) drive) sector
    → KeepsTold (name_of_drive links drive) (told_in items) (told_in new)
keeps_told items new links drive name sector bytes named is inside =
    let has = has_sector items new links drive name sector bytes named is inside in
    rw named (subst (λ (n : List Named). KeepsTold (Some name) (told_in items) (told_in n)) (sym has.new_is) (record {
      others = λ other apart. ap found (contents_of_other items name (with_sector has.image sector bytes) other (λ same. apart (ap Some (sym same))));
      still = λ other h. absurd (is_known (contents_of (with_contents items name (with_sector has.image sector bytes)) other) h);
    }))

pub told_same : (items : List Named) (name : Option (List ℕ)) → KeepsTold name (told_in items) (told_in items)
told_same items name = record { others = λ other apart. refl; still = λ other h. h }
