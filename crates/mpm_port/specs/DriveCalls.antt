-- What each call of drives leaves and answers, by what is seen of them: the images of attached drives with their names, what is known of
-- images by their names, which drives are owed a sync, the count of faults, and the names on which an attach failed.
use Rattle.std.specs.Prelude.{◌≡◌, ◌≢◌, ◌⊎◌, ℕ, Bool, true, false, List, Some, IfSome, Result, IfOk, OnOk, OnErr}
use Rattle.mpm_port.specs.Causes.{HasCause, names_after}
use Rattle.mpm_port.specs.Disks.{Disks, ToldImage, Attaches, WritesSector, KeepsTold, size_of, sector_of}
use Rattle.mpm_port.specs.declared.files.FetchError.{FetchError}

-- a drive is attached by a name, and no sync is owed to it; after an error no image has changed, and a name that failed joins the others
pub record AnswersAttach {D A : Type 0} (disks_of : D → Disks) (told_of : D → List ℕ → ToldImage) (is_unsynced : D → ℕ → Bool) (faults_of : D → ℕ) (failed_by : D → List (List ℕ)) (drive : ℕ) (name : List ℕ) (old new : D) (result : Result A FetchError) : Type 0 where
  pub ok : OnOk result (Attaches drive name (told_of old name) (disks_of old) (disks_of new))
  pub err : OnErr result (disks_of new ≡ disks_of old)
  pub told : told_of new ≡ told_of old
  pub names : failed_by new ≡ names_after (failed_by old) name result
  pub count : faults_of new ≡ faults_of old
  pub fresh : OnOk result (is_unsynced new drive ≡ false)
  pub unsynced : OnErr result (is_unsynced new drive ≡ is_unsynced old drive)
  pub beside : (other : ℕ) → other ≢ drive → is_unsynced new other ≡ is_unsynced old other

-- the size of a drive; nothing changes but the count of faults
pub record AnswersSize {D E : Type 0} (disks_of : D → Disks) (told_of : D → List ℕ → ToldImage) (is_unsynced : D → ℕ → Bool) (faults_of : D → ℕ) (failed_by : D → List (List ℕ)) (drive : ℕ) (old new : D) (result : Result ℕ E) : Type 0 where
  pub size : IfOk result (λ bytes. size_of (disks_of old) drive ≡ Some bytes)
  pub cause : HasCause (faults_of old) (faults_of new) result
  pub names : failed_by new ≡ failed_by old
  pub disks : disks_of new ≡ disks_of old
  pub told : told_of new ≡ told_of old
  pub unsynced : is_unsynced new ≡ is_unsynced old

-- a sector of a drive; nothing changes but the count of faults
pub record AnswersRead {D A E : Type 0} (disks_of : D → Disks) (told_of : D → List ℕ → ToldImage) (is_unsynced : D → ℕ → Bool) (faults_of : D → ℕ) (failed_by : D → List (List ℕ)) (drive sector : ℕ) (out : List ℕ) (old new : D) (result : Result A E) : Type 0 where
  pub bytes : OnOk result (IfSome ((disks_of old).image drive) (λ image. out ≡ sector_of image sector))
  pub cause : HasCause (faults_of old) (faults_of new) result
  pub names : failed_by new ≡ failed_by old
  pub disks : disks_of new ≡ disks_of old
  pub told : told_of new ≡ told_of old
  pub unsynced : is_unsynced new ≡ is_unsynced old

-- a sector of a drive has new bytes, or after an error perhaps its old ones; a sync is owed to the drive in any case
pub record AnswersWrite {D A E : Type 0} (disks_of : D → Disks) (told_of : D → List ℕ → ToldImage) (is_unsynced : D → ℕ → Bool) (faults_of : D → ℕ) (failed_by : D → List (List ℕ)) (drive sector : ℕ) (bytes : List ℕ) (old new : D) (result : Result A E) : Type 0 where
  pub ok : OnOk result (WritesSector drive sector bytes (disks_of old) (disks_of new))
  pub err : OnErr result ((disks_of new ≡ disks_of old) ⊎ WritesSector drive sector bytes (disks_of old) (disks_of new))
  pub told : KeepsTold ((disks_of old).name_of drive) (told_of old) (told_of new)
  pub cause : HasCause (faults_of old) (faults_of new) result
  pub names : failed_by new ≡ failed_by old
  pub unsynced : is_unsynced new drive ≡ true
  pub beside : (other : ℕ) → other ≢ drive → is_unsynced new other ≡ is_unsynced old other

-- no sync is owed to a drive, or after an error what was owed to it; nothing else changes but the count of faults
pub record AnswersSync {D A E : Type 0} (disks_of : D → Disks) (told_of : D → List ℕ → ToldImage) (is_unsynced : D → ℕ → Bool) (faults_of : D → ℕ) (failed_by : D → List (List ℕ)) (drive : ℕ) (old new : D) (result : Result A E) : Type 0 where
  pub cause : HasCause (faults_of old) (faults_of new) result
  pub names : failed_by new ≡ failed_by old
  pub disks : disks_of new ≡ disks_of old
  pub told : told_of new ≡ told_of old
  pub synced : OnOk result (is_unsynced new drive ≡ false)
  pub unsynced : OnErr result (is_unsynced new drive ≡ is_unsynced old drive)
  pub beside : (other : ℕ) → other ≢ drive → is_unsynced new other ≡ is_unsynced old other
