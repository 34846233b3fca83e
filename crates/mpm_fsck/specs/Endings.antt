-- How the checker ends, and why; what is written then, and what is left of the image.
use Rattle.std.specs.Prelude.{◌≡◌, ◌≢◌, ◌⊎◌, false, ℕ, ◌+◌, ◌*◌, ◌<◌, ◌≤◌, List, [], ◌∷◌, ◌++◌, Option, Some, Result, Ok, Err, ⊤, MatchOption, length}
use Rattle.mpm_base.specs.declared.kind.Kind.{Kind}
use Rattle.mpm_blocks.specs.Geometries.{geometry_of}
use Rattle.mpm_blocks.specs.Sectors.{sectors_of}
use Rattle.mpm_port.specs.Causes.{Rose}
use Rattle.mpm_port.specs.Disks.{ToldImage, Bytes}
use Rattle.mpm_port.specs.Texts.{AppendsPart}
use Rattle.mpm_mount.specs.declared.errors.ImageFault.{ImageFault}
use Rattle.mpm_mount.specs.Drives.{Drive, free_records}
use Rattle.mpm_mount.specs.Images.{entries_of, drive_of, files_of}
use Rattle.mpm_fault_lines.specs.declared.fault.SlotFault.{SlotFault}
use Rattle.mpm_fault_lines.specs.Lines.{list_text, sound_line, freed_line}
use Rattle.mpm_fault_lines.specs.Lists.{slots_of, different}
use Rattle.mpm_repair.specs.FaultLists.{faults_of}
use Rattle.mpm_repair.specs.Freeing.{freed, freed_image}
use Rattle.mpm_fsck.specs.declared.status.FsckStatus.{FsckStatus}
use Rattle.mpm_fsck.specs.declared.status.FsckStatus.TheVariants.{Done, Usage, Unsound, WrongSize, BadList, NotEnough, ReadFault, DiskFault, WriteFault, OutOfMemory, TooLong}
use Rattle.mpm_fsck.specs.Requests.{Request, Check, Apply}
use Rattle.mpm_fsck.specs.Outside.{DrivesSeen, SeenOutside, FailsNowhere, FailsSomewhere, Attached, KeepsEveryImage, Freed}

-- What a check says: an image that can be mounted is sound, with the free records of its drive; else the entries at fault are listed.
abbrev pub said_of : Result Drive ImageFault → List SlotFault → List ℕ
said_of (Ok files) faults = sound_line (free_records files)
said_of (Err fault) faults = list_text faults

abbrev pub status_of : Result Drive ImageFault → List SlotFault → FsckStatus
status_of (Ok files) faults = Done
status_of (Err fault) faults = Unsound (length faults)

abbrev pub said : Kind → List ℕ → List ℕ
said kind image = said_of (files_of image kind) (faults_of image kind)

-- drive A was attached by a name, and its image has the size of its kind, and is as `Is` says
pub record Checked (kind : Kind) (name : List ℕ) (old new : DrivesSeen) (Is : List ℕ → Type 0) : Type 0 where
  pub image : List ℕ
  pub attached : Attached name image old new
  pub size : length image ≡ (geometry_of kind).bytes
  pub is : Is image

-- all of that was said, with this status, or a first part of it
pub record Says (kind : Kind) (image : List ℕ) (old new : List ℕ) (status : FsckStatus) : Type 0 where
  pub status_is : status ≡ status_of (files_of image kind) (faults_of image kind)
  pub text : new ≡ old ++ said kind image

-- the image hasn't the size of its kind
pub record IsOfWrongSize (kind : Kind) (name : List ℕ) (old new : DrivesSeen) : Type 0 where
  pub image : List ℕ
  pub attached : Attached name image old new
  pub size : length image ≢ (geometry_of kind).bytes

-- a drive failed, and no image has changed
pub record IsLost (name : List ℕ) (old new : DrivesSeen) : Type 0 where
  pub why : FailsSomewhere name old new
  pub keeps : KeepsEveryImage name old new

-- how a check ends, by the drives and by what was written before and after
abbrev pub Checks : Kind → List ℕ → DrivesSeen → DrivesSeen → List ℕ → List ℕ → FsckStatus → Type 0
Checks kind name old new first written Done = Checked kind name old new (λ image. Says kind image first written Done)
Checks kind name old new first written Usage = ⊥
Checks kind name old new first written (Unsound count) = Checked kind name old new (λ image. Says kind image first written (Unsound count))
Checks kind name old new first written WrongSize = IsOfWrongSize kind name old new
Checks kind name old new first written (BadList line) = ⊥
Checks kind name old new first written (NotEnough slot cause) = ⊥
Checks kind name old new first written ReadFault = ⊥
Checks kind name old new first written DiskFault = IsLost name old new
Checks kind name old new first written WriteFault = Checked kind name old new (λ image. AppendsPart first (said kind image) written)
Checks kind name old new first written OutOfMemory = KeepsEveryImage name old new
Checks kind name old new first written TooLong = ⊥

-- A file is there and holds a text, that which it is known to hold; it isn't too long for a list.
pub record HoldsList (missing : Type 0) (contents : Option (List ℕ)) (text : List ℕ) : Type 0 where
  pub there : missing → ⊥
  pub known : MatchOption contents ⊤ (λ file. text ≡ file)
  pub fits : length text ≤ 65536

-- it is longer
pub record IsLonger (missing : Type 0) (contents : Option (List ℕ)) : Type 0 where
  pub there : missing → ⊥
  pub long : MatchOption contents ⊤ (λ file. 65536 < length file)

-- each of its lines is one of a list, and these are the slots that they name, line by line
pub record Lists (missing : Type 0) (contents : Option (List ℕ)) (kind : Kind) (lines : List ℕ) : Type 0 where
  pub text : List ℕ
  pub holds : HoldsList missing contents text
  pub read : slots_of (geometry_of kind).drm text ≡ Ok lines

-- that line is the first which isn't
pub record HasBadListLine (missing : Type 0) (contents : Option (List ℕ)) (kind : Kind) (line : ℕ) : Type 0 where
  pub text : List ℕ
  pub holds : HoldsList missing contents text
  pub bad : slots_of (geometry_of kind).drm text ≡ Err line

-- the different slots of lines, rising
abbrev pub slots_in : Kind → List ℕ → List ℕ
slots_in kind lines = different ((geometry_of kind).drm + 1) lines

-- the drive of the entries of an image without those of some slots
abbrev pub drive_without : Kind → List ℕ → List ℕ → Drive
drive_without kind slots image = drive_of (sectors_of image kind) kind (freed slots (entries_of (sectors_of image kind) kind))

-- the slots of a list are free in the image, which stands for the drive of the entries that aren't listed; it is synced, and their
-- number was said
pub record Mends (kind : Kind) (name : List ℕ) (missing : Type 0) (list : Option (List ℕ)) (old new : DrivesSeen) (Said : List ℕ → Type 0) : Type 0 where
  pub image : List ℕ
  pub size : length image ≡ (geometry_of kind).bytes
  pub lines : List ℕ
  pub listed : Lists missing list kind lines
  pub freed : Freed name image kind (slots_in kind lines) old new
  pub stands : files_of (freed_image kind (slots_in kind lines) image) kind ≡ Ok (drive_without kind (slots_in kind lines) image)
  pub synced : new.unsynced 0 ≡ false
  pub is_said : Said (freed_line (length (slots_in kind lines)))

-- without the slots of a list an image has a fault still
pub record Lacks (missing : Type 0) (list : Option (List ℕ)) (kind : Kind) (image : List ℕ) (fault : ImageFault) : Type 0 where
  pub lines : List ℕ
  pub listed : Lists missing list kind lines
  pub fault_is : files_of (freed_image kind (slots_in kind lines) image) kind ≡ Err fault

-- slots of a list were freed, without which the image has no fault: those of the first sectors of the directory, perhaps of none or all
pub record FreesPart (kind : Kind) (name image lines : List ℕ) (old new : DrivesSeen) : Type 0 where
  pub enough : files_of (freed_image kind (slots_in kind lines) image) kind ≡ Ok (drive_without kind (slots_in kind lines) image)
  pub sectors : ℕ
  pub within : 4 * sectors ≤ (geometry_of kind).drm + 1
  pub freed : Freed name image kind (different (4 * sectors) lines) old new

-- a drive failed after it was attached and its size was had, and after the list was read: as its directory was read, and no image has
-- changed, or as slots were freed
pub record IsLostListed (kind : Kind) (name : List ℕ) (missing : Type 0) (list : Option (List ℕ)) (old new : DrivesSeen) : Type 0 where
  pub failed : new.failed ≡ old.failed
  pub rose : Rose old.faults new.faults
  pub image : List ℕ
  pub size : length image ≡ (geometry_of kind).bytes
  pub lines : List ℕ
  pub listed : Lists missing list kind lines
  pub left : Attached name image old new ⊎ FreesPart kind name image lines old new

-- How a list ends that is applied. The image is attached and its size asked for, then the list is read, and then the directory: so a drive
-- fails before the list is asked for, and no image has changed, or after it was read.
abbrev pub Applies : (List ℕ → Type 0) → Kind → List ℕ → List ℕ → SeenOutside → SeenOutside → FsckStatus → Type 0
Applies missing kind name list old new Done =
    Mends kind name (missing list) (old.contents list) old.drives new.drives (λ text. new.text ≡ old.text ++ text)
Applies missing kind name list old new Usage = ⊥
Applies missing kind name list old new (Unsound count) = ⊥
Applies missing kind name list old new WrongSize = IsOfWrongSize kind name old.drives new.drives
Applies missing kind name list old new (BadList line) =
    Checked kind name old.drives new.drives (λ image. HasBadListLine (missing list) (old.contents list) kind line)
Applies missing kind name list old new (NotEnough slot cause) =
    Checked kind name old.drives new.drives (λ image. Lacks (missing list) (old.contents list) kind image (record { cause = cause; place = slot }))
Applies missing kind name list old new ReadFault = Checked kind name old.drives new.drives (λ image. new.unread ≡ old.unread ++ (list ∷ []))
Applies missing kind name list old new DiskFault =
    IsLost name old.drives new.drives ⊎ IsLostListed kind name (missing list) (old.contents list) old.drives new.drives
Applies missing kind name list old new WriteFault =
    Mends kind name (missing list) (old.contents list) old.drives new.drives (λ text. AppendsPart old.text text new.text)
Applies missing kind name list old new OutOfMemory = KeepsEveryImage name old.drives new.drives
Applies missing kind name list old new TooLong = Checked kind name old.drives new.drives (λ image. IsLonger (missing list) (old.contents list))

-- how a request ends
abbrev pub EndsRequest : (List ℕ → Type 0) → Request → SeenOutside → SeenOutside → FsckStatus → Type 0
EndsRequest missing (Check kind name) old new status = Checks kind name old.drives new.drives old.text new.text status
EndsRequest missing (Apply kind name list) old new status = Applies missing kind name list old new status

-- one of four, by what ended the program: no device, a file, a drive, or the output
abbrev pub by_fault : Type 0 → Type 0 → Type 0 → Type 0 → FsckStatus → Type 0
by_fault none file drive output Done = none
by_fault none file drive output Usage = none
by_fault none file drive output (Unsound count) = none
by_fault none file drive output WrongSize = none
by_fault none file drive output (BadList line) = none
by_fault none file drive output (NotEnough slot cause) = none
by_fault none file drive output ReadFault = file
by_fault none file drive output DiskFault = drive
by_fault none file drive output WriteFault = output
by_fault none file drive output OutOfMemory = none
by_fault none file drive output TooLong = none

-- no device failed but that which ended the program
abbrev pub FailsFiles : List (List ℕ) → List (List ℕ) → FsckStatus → Type 0
FailsFiles old new status = by_fault (new ≡ old) ⊤ (new ≡ old) (new ≡ old) status

abbrev pub FailsDrives : DrivesSeen → DrivesSeen → FsckStatus → Type 0
FailsDrives old new status = by_fault (FailsNowhere old new) (FailsNowhere old new) ⊤ (FailsNowhere old new) status

abbrev pub FailsOutput : ℕ → ℕ → FsckStatus → Type 0
FailsOutput before after status = by_fault (after ≡ before) (after ≡ before) (after ≡ before) (Rose before after) status

pub record FailsByEnding (old new : SeenOutside) (status : FsckStatus) : Type 0 where
  pub files : FailsFiles old.unread new.unread status
  pub drives : FailsDrives old.drives new.drives status
  pub output : FailsOutput old.faults new.faults status

-- the endings at which nothing is written
abbrev pub WritesNoText : FsckStatus → Type 0
WritesNoText Done = ⊥
WritesNoText Usage = ⊤
WritesNoText (Unsound count) = ⊥
WritesNoText WrongSize = ⊤
WritesNoText (BadList line) = ⊤
WritesNoText (NotEnough slot cause) = ⊤
WritesNoText ReadFault = ⊤
WritesNoText DiskFault = ⊤
WritesNoText WriteFault = ⊥
WritesNoText OutOfMemory = ⊤
WritesNoText TooLong = ⊤

-- those of a list that is not refused
abbrev pub IsUnrefused : FsckStatus → Type 0
IsUnrefused Done = ⊤
IsUnrefused Usage = ⊥
IsUnrefused (Unsound count) = ⊥
IsUnrefused WrongSize = ⊥
IsUnrefused (BadList line) = ⊥
IsUnrefused (NotEnough slot cause) = ⊥
IsUnrefused ReadFault = ⊤
IsUnrefused DiskFault = ⊤
IsUnrefused WriteFault = ⊤
IsUnrefused OutOfMemory = ⊤
IsUnrefused TooLong = ⊥

-- the list that a check of an image writes is never refused, where both are known
unfoldable pub TakesOwnList : (List ℕ → Option (List ℕ)) → (List ℕ → ToldImage) → Request → FsckStatus → Type 0
TakesOwnList contents known (Check kind name) status = ⊤
TakesOwnList contents known (Apply kind name list) status =
    (image : List ℕ) → known name ≡ Bytes image → length image ≡ (geometry_of kind).bytes → contents list ≡ Some (list_text (faults_of image kind)) → IsUnrefused status
