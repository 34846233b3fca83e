-- What is seen of files, drives and output before and after a run, and what a run makes of drive A and its image.
use Rattle.std.specs.Prelude.{◌≡◌, ◌≢◌, ◌⊎◌, ℕ, Bool, false, List, [], ◌∷◌, ◌++◌, Option, Some}
use Rattle.mpm_base.specs.declared.kind.Kind.{Kind}
use Rattle.mpm_port.specs.declared.files.Files as files
use Rattle.mpm_port.specs.declared.drives.Drives as drives
use Rattle.mpm_port.specs.declared.sink.Sink as sink
use Rattle.mpm_port.specs.Causes.{Rose}
use Rattle.mpm_port.specs.Disks.{Disks, ToldImage, Brings, Attaches, KeepsTold}
use Rattle.mpm_drives.specs.Mounted.{AsksNoWrite}
use Rattle.mpm_repair.specs.Freeing.{freed_image, FreesOn}

-- of drives: what is known of images by their names; the images of the drives that are attached, and which have unsynced writes; how many
-- faults there were, and the names on which an attach failed, oldest first
pub record DrivesSeen : Type 0 where
  pub known : List ℕ → ToldImage
  pub disks : Disks
  pub unsynced : ℕ → Bool
  pub faults : ℕ
  pub failed : List (List ℕ)

-- what files hold by their names, where that is known, and the names of those that couldn't be fetched, oldest first; the drives; what
-- was written, and how many faults the output had
pub record SeenOutside : Type 0 where
  pub contents : List ℕ → Option (List ℕ)
  pub unread : List (List ℕ)
  pub drives : DrivesSeen
  pub text : List ℕ
  pub faults : ℕ

abbrev pub drives_seen : {D : Type 0} → drives.Ghosts D → D → DrivesSeen
drives_seen of now = record {
  known = of.told now;
  disks = of.disks now;
  unsynced = of.unsynced now;
  faults = of.faults now;
  failed = of.failed_names now;
}

abbrev pub seen : {F D S : Type 0} → files.Ghosts F → drives.Ghosts D → sink.Ghosts S → F → D → S → SeenOutside
seen of_files of_drives of_sink files_now drives_now sink_now = record {
  contents = of_files.contents files_now;
  unread = of_files.failed_names files_now;
  drives = drives_seen of_drives drives_now;
  text = of_sink.written sink_now;
  faults = of_sink.faults sink_now;
}

-- no drive failed
pub record FailsNowhere (old new : DrivesSeen) : Type 0 where
  pub faults : new.faults ≡ old.faults
  pub failed : new.failed ≡ old.failed

-- drive A couldn't be attached by a name, which joined the failed names, or it failed, and the count of faults rose
abbrev pub FailsSomewhere : List ℕ → DrivesSeen → DrivesSeen → Type 0
FailsSomewhere name old new =
    ((new.failed ≡ old.failed ++ (name ∷ [])) × (new.faults ≡ old.faults)) ⊎ ((new.failed ≡ old.failed) × Rose old.faults new.faults)

-- drive A was attached by a name, and has this image: one that the name may bring by what was known of it. No image has changed, and no
-- drive has unsynced writes that had none: drive A has none, and which of the other drives have some is as before
pub record Attached (name image : List ℕ) (old new : DrivesSeen) : Type 0 where
  pub brought : Brings (old.known name) image
  pub here : new.disks.image 0 ≡ Some image
  pub attaches : Attaches 0 name (old.known name) old.disks new.disks
  pub known : new.known ≡ old.known
  pub asks : AsksNoWrite old.unsynced new.unsynced
  pub fresh : new.unsynced 0 ≡ false
  pub beside : (other : ℕ) → other ≢ 0 → new.unsynced other ≡ old.unsynced other

-- no image has changed, and drive A is attached so or as it was. No drive has unsynced writes that had none, and which of the drives but
-- A have some is as before
pub record KeepsEveryImage (name : List ℕ) (old new : DrivesSeen) : Type 0 where
  pub disks : (new.disks ≡ old.disks) ⊎ Attaches 0 name (old.known name) old.disks new.disks
  pub known : new.known ≡ old.known
  pub asks : AsksNoWrite old.unsynced new.unsynced
  pub beside : (other : ℕ) → other ≢ 0 → new.unsynced other ≡ old.unsynced other

-- drive A was attached so, and some slots of its image are free then: byte 0 of each is E5h, and no other byte has changed, of no image.
-- Which of the other drives have unsynced writes is as before
pub record Freed (name image : List ℕ) (kind : Kind) (slots : List ℕ) (old new : DrivesSeen) : Type 0 where
  pub brought : Brings (old.known name) image
  pub here : new.disks.image 0 ≡ Some (freed_image kind slots image)
  pub between : Disks
  pub attaches : Attaches 0 name (old.known name) old.disks between
  pub frees : FreesOn 0 kind slots between new.disks
  pub known : KeepsTold (Some name) old.known new.known
  pub beside : (other : ℕ) → other ≢ 0 → new.unsynced other ≡ old.unsynced other
