-- The drives over memory.
use Rattle.std.specs.Prelude.{◌≡◌, ◌≢◌, ◌≤◌, IsTrue, ℕ, false, true, List, [], replicate, slice_set, slice_index_or, Option, Some, None, option_and_then, unwrap_or, is_some, not, Bool, ◌||◌, if◌then◌else◌, Result, Ok, Err, IfSome}
use Rattle.std.proofs.Common.{subst, sym, refl}
use Rattle.mpm_port.specs.Calls.{Calls, one_more, next_is_listed, after_call, listing}
use Rattle.mpm_port.specs.Causes.{names_with, Rose}
use Rattle.mpm_port.specs.Disks.{Disks, ToldImage, Missing, Bytes, Brings, with_sector}
use Rattle.mpm_port.specs.Named.{contents_of, with_contents, name_of_drive, with_drive}
use Rattle.mpm_port.specs.declared.named.Named.{Named}
use Rattle.mpm_port.specs.declared.links.Link.{Link}
use Rattle.mpm_port.specs.declared.files.FetchError.{FetchError}

-- the images, the attached drives, the names on which attach answered that it failed, oldest first, the calls, the count of faults, and of
-- each drive by its number whether it has unsynced writes
pub record MemoryDisks : Type 0 where
  pub images : List Named
  pub links : List Link
  pub failed : List (List ℕ)
  pub calls : Calls
  pub faults : ℕ
  pub unsynced : List Bool

-- no write was asked for, to none of the 256 drives
unfoldable pub none_unsynced : List Bool
none_unsynced = replicate 256 false

-- no image is there, and no drive is attached
abbrev pub no_disks : MemoryDisks
no_disks = record { images = []; links = []; failed = []; calls = record { done = 0; failing = [] }; faults = 0; unsynced = none_unsynced }

-- the image of each attached drive, and the name that it was attached by
abbrev pub shelved : List Named → List Link → Disks
shelved images links = record { image = λ drive. option_and_then (contents_of images) (name_of_drive links drive); name_of = name_of_drive links }

abbrev pub disks_of : MemoryDisks → Disks
disks_of table = shelved table.images table.links

-- what is known of an image that is there, or isn't
abbrev pub found : Option (List ℕ) → ToldImage
found None = Missing
found (Some bytes) = Bytes bytes

abbrev pub told_in : List Named → List ℕ → ToldImage
told_in images name = found (contents_of images name)

abbrev pub told_of : MemoryDisks → List ℕ → ToldImage
told_of table = told_in table.images

-- whether a write to a drive was asked for since it was last attached or synced
abbrev pub is_unsynced : MemoryDisks → ℕ → Bool
is_unsynced table drive = slice_index_or table.unsynced drive false

agree : (images : List Named) (name : List ℕ) (found_there : Option (List ℕ)) → contents_of images name ≡ found_there → IfSome found_there (Brings (found (contents_of images name)))
agree images name None there = tt
agree images name (Some bytes) there = subst (λ (o : Option (List ℕ)). Brings (found o) bytes) (sym there) refl

-- an attached drive has the image of its name
pub memory_agrees : (table : MemoryDisks) (drive : ℕ) (name : List ℕ) → name_of_drive table.links drive ≡ Some name
    → IfSome (option_and_then (contents_of table.images) (name_of_drive table.links drive)) (Brings (told_of table name))
memory_agrees table drive name named =
    subst (λ (o : Option (List ℕ)). IfSome (option_and_then (contents_of table.images) o) (Brings (told_of table name))) (sym named)
    (agree table.images name (contents_of table.images name) refl)

-- no drive is attached by this name
abbrev pub IsFree : MemoryDisks → List ℕ → Type 0
IsFree table name = (drive : ℕ) → name_of_drive table.links drive ≢ Some name

-- one more image is there, or another in the place of one that was
abbrev pub with_image : MemoryDisks → List ℕ → List ℕ → MemoryDisks
with_image table name image = record table { images = with_contents table.images name image }

-- one more number is listed
abbrev pub listing_call : MemoryDisks → ℕ → MemoryDisks
listing_call table call = record table { calls = listing table.calls call }

-- the next attach by this name fails: its number is listed, or there is no image of this name
unfoldable pub attach_fails : MemoryDisks → List ℕ → Bool
attach_fails table name = next_is_listed table.calls || not (is_some (contents_of table.images name))

-- after an attach with this answer
unfoldable pub after_attach : {A : Type 0} → MemoryDisks → ℕ → List ℕ → Result A FetchError → MemoryDisks
after_attach table drive name (Ok _) =
    record table { links = with_drive table.links drive name; calls = after_call table.calls; unsynced = slice_set table.unsynced drive false }
after_attach table drive name (Err refusal) =
    record table { failed = names_with table.failed name refusal; calls = after_call table.calls }

-- after a call that changes no image: where its number is listed it fails
unfoldable pub after_access : MemoryDisks → MemoryDisks
after_access table = record table {
  calls = after_call table.calls;
  faults = if next_is_listed table.calls then one_more table.faults else table.faults;
}

-- a call of size, read, write or sync begins: it is to fail where its number is listed, and then it is a fault
pub record BeginsAccess (old new : MemoryDisks) (fails : Bool) : Type 0 where
  pub after : new ≡ after_access old
  pub listed : fails ≡ next_is_listed old.calls
  pub rose : IsTrue fails → Rose old.faults new.faults × (old.faults ≤ new.faults)
  pub stays : fails ≡ false → new.faults ≡ old.faults
  pub names : new.failed ≡ old.failed
  pub images : new.images ≡ old.images
  pub links : new.links ≡ old.links
  pub unsynced : new.unsynced ≡ old.unsynced

-- the images with other bytes in a sector of an attached drive
unfoldable pub images_with_sector : MemoryDisks → ℕ → ℕ → List ℕ → List Named
images_with_sector table drive sector bytes =
    with_contents table.images (unwrap_or (name_of_drive table.links drive) []) (with_sector (unwrap_or ((disks_of table).image drive) []) sector bytes)

-- a write to a drive is asked for
abbrev pub asking_write : MemoryDisks → ℕ → MemoryDisks
asking_write table drive = record table { unsynced = slice_set table.unsynced drive true }

-- after a write to a sector of an attached drive: where its number is listed it fails and writes nothing
unfoldable pub after_write : MemoryDisks → ℕ → ℕ → List ℕ → MemoryDisks
after_write table drive sector bytes = if next_is_listed table.calls
    then after_access (asking_write table drive)
    else record (after_access (asking_write table drive)) { images = images_with_sector table drive sector bytes }

-- after a sync of an attached drive: where its number is listed it fails
unfoldable pub after_sync : MemoryDisks → ℕ → MemoryDisks
after_sync table drive = if next_is_listed table.calls
    then after_access table
    else record (after_access table) { unsynced = slice_set table.unsynced drive false }
