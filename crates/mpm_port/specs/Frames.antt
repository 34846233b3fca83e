-- What a call that changes no image leaves of drives.
use Rattle.std.specs.Prelude.{◌≡◌}
use Rattle.mpm_port.specs.declared.drives.Drives.{Ghosts}

-- their images, what is known of images by their names, and the names on which an attach failed are as before
pub record SameDrives {D : Type 0} (of : Ghosts D) (old new : D) : Type 0 where
  pub images : of.disks new ≡ of.disks old
  pub told_are : of.told new ≡ of.told old
  pub failed : of.failed_names new ≡ of.failed_names old

-- and so is which of them are owed a sync: nothing changes but the count of faults
pub record OnlyCountsFaults {D : Type 0} (of : Ghosts D) (old new : D) : Type 0 where
  pub drives : SameDrives of old new
  pub unsynced_are : of.unsynced new ≡ of.unsynced old
