-- The drives over files of the host: what is kept of them, and what each call leaves.
use Rattle.std.specs.Prelude.{◌≡◌, ◌≢◌, ℕ, ◌+◌, ◌-◌, ◌^◌, min, Bool, true, false, List, [], Option, Some, None, IfSome, option_map, replicate, slice_index_or, slice_set, if◌then◌else◌}
use Rattle.mpm_port.specs.Disks.{Disks, ToldImage, Untold, Brings, with_sector}

-- an image as it was read, with what was written to it since, and the name that its drive was attached by
pub record Held : Type 0 where
  pub name : List ℕ
  pub bytes : List ℕ

-- of each of the sixteen drives what it holds, if it is attached, and whether it has unsynced writes; the names on which attach answered
-- that it failed, oldest first; and the count of faults
pub record RealDisks : Type 0 where
  pub held : List (Option Held)
  pub unsynced : List Bool
  pub failed : List (List ℕ)
  pub faults : ℕ

-- no drive is attached, and no call has failed
abbrev pub no_drives : RealDisks
no_drives = record { held = replicate 16 None; unsynced = replicate 16 false; failed = []; faults = 0 }

-- the image of each attached drive, and its name
abbrev pub held_by : List (Option Held) → ℕ → Option Held
held_by held drive = slice_index_or held drive None

abbrev pub disks_in : List (Option Held) → Disks
disks_in held = record { image = λ drive. option_map (λ h. h.bytes) (held_by held drive); name_of = λ drive. option_map (λ h. h.name) (held_by held drive) }

abbrev pub disks_of : RealDisks → Disks
disks_of disks = disks_in disks.held

-- each drive but one has its image as it was
abbrev pub KeepsOtherImages : ℕ → Disks → Disks → Type 0
KeepsOtherImages drive old new = (other : ℕ) → other ≢ drive → new.image other ≡ old.image other

-- of a name nothing is known before a drive is attached by it
abbrev pub told_of : RealDisks → List ℕ → ToldImage
told_of disks name = Untold

untold : (o : Option (List ℕ)) → IfSome o (Brings Untold)
untold None = tt
untold (Some bytes) = tt

pub real_agrees : (disks : RealDisks) (drive : ℕ) (name : List ℕ) → (disks_of disks).name_of drive ≡ Some name → IfSome ((disks_of disks).image drive) (Brings (told_of disks name))
real_agrees disks drive name named = untold ((disks_of disks).image drive)

-- whether a write to a drive was asked for since it was last attached or synced
abbrev pub is_unsynced : RealDisks → ℕ → Bool
is_unsynced disks drive = slice_index_or disks.unsynced drive false

-- an image with a sector written, where that was done
abbrev pub held_after : Held → ℕ → List ℕ → Bool → Held
held_after held sector bytes done = if done then record held { bytes = with_sector held.bytes sector bytes } else held

-- a write to a sector of an attached drive, which was done or not
abbrev pub written_if : Option Held → ℕ → List ℕ → Bool → Option Held
written_if held sector bytes done = option_map (λ h. held_after h sector bytes done) held

abbrev pub after_write : RealDisks → ℕ → ℕ → List ℕ → Bool → RealDisks
after_write disks drive sector bytes done =
    record disks { held = slice_set disks.held drive (written_if (held_by disks.held drive) sector bytes done); unsynced = slice_set disks.unsynced drive true }

-- after an attach of a drive to an image
abbrev pub after_attach : RealDisks → ℕ → Held → RealDisks
after_attach disks drive held = record disks { held = slice_set disks.held drive (Some held); unsynced = slice_set disks.unsynced drive false }

-- after a call that is done, or has failed: one more fault, unless the count stands at its last value
abbrev pub after_access : RealDisks → Bool → RealDisks
after_access disks done = if done then disks else record disks { faults = min (disks.faults + 1) (2 ^ 64 - 1) }
