-- The images of attached drives, what is known of images before they are attached, and what a sector of one is.
use Rattle.std.specs.Prelude.{◌≡◌, ◌≢◌, ℕ, ◌+◌, ◌*◌, ◌≤◌, List, ◌++◌, take, drop, length, slice_range, Option, Some, IfSome, IsSomeAnd, option_map, ⊤}

-- what is known of the image of a name, before a drive is attached to it or after: nothing, that there is none, or its bytes
pub data ToldImage : Type 0 where
  Untold : ToldImage
  Missing : ToldImage
  Bytes : List ℕ → ToldImage

-- an attach by that name may bring these bytes
abbrev pub Brings : ToldImage → List ℕ → Type 0
Brings Untold bytes = ⊤
Brings Missing bytes = ⊥
Brings (Bytes told) bytes = bytes ≡ told

-- the image of each attached drive, and the name that it was attached by
pub record Disks : Type 0 where
  pub image : ℕ → Option (List ℕ)
  pub name_of : ℕ → Option (List ℕ)

-- the size of an attached drive
abbrev pub size_of : Disks → ℕ → Option ℕ
size_of disks drive = option_map length (disks.image drive)

-- sector s of an image is its bytes 128s to 128s + 127
abbrev pub sector_of : List ℕ → ℕ → List ℕ
sector_of image sector = slice_range image (128 * sector) (128 * sector + 128)

-- the image with other bytes in a sector
abbrev pub with_sector : List ℕ → ℕ → List ℕ → List ℕ
with_sector image sector bytes = take (128 * sector) image ++ (bytes ++ drop (128 * sector + 128) image)

-- the sector lies inside an attached drive of this size
abbrev pub IsInsideDrive : Option ℕ → ℕ → Type 0
IsInsideDrive size sector = IsSomeAnd size (λ bytes. 128 * sector + 128 ≤ bytes)

-- one drive is attached by a name, and has an image that it may bring
pub record Attaches (drive : ℕ) (name : List ℕ) (told : ToldImage) (old new : Disks) : Type 0 where
  pub here : new.name_of drive ≡ Some name
  pub image : IsSomeAnd (new.image drive) (Brings told)
  pub names : (other : ℕ) → other ≢ drive → new.name_of other ≡ old.name_of other
  pub others : (other : ℕ) → other ≢ drive → new.image other ≡ old.image other

-- a sector of a drive has new bytes; a drive that was attached by another name has its image as it was, and each its size
pub record WritesSector (drive sector : ℕ) (bytes : List ℕ) (old new : Disks) : Type 0 where
  pub names : (other : ℕ) → new.name_of other ≡ old.name_of other
  pub here : IfSome (old.image drive) (λ image. new.image drive ≡ Some (with_sector image sector bytes))
  pub others : (other : ℕ) → old.name_of other ≢ old.name_of drive → new.image other ≡ old.image other
  pub sizes : (other : ℕ) → size_of new other ≡ size_of old other

-- what is known of images but that of one name is as it was, and what was known stays known
pub record KeepsTold (name : Option (List ℕ)) (old new : List ℕ → ToldImage) : Type 0 where
  pub others : (other : List ℕ) → name ≢ Some other → new other ≡ old other
  pub still : (other : List ℕ) → new other ≡ Untold → old other ≡ Untold
