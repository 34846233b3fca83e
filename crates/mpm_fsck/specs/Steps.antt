-- The steps of a run: an image that is opened, a list that is read, and what each leaves where it refuses.
use Rattle.std.specs.Prelude.{◌≡◌, ◌≢◌, ◌⊎◌, ℕ, zero, suc, ◌+◌, List, [], ◌∷◌, ◌++◌, Bool, true, false, Option, Some, None, Result, Ok, Err, ⊤, length}
use Rattle.mpm_base.specs.declared.kind.Kind.{Kind}
use Rattle.mpm_blocks.specs.Geometries.{geometry_of}
use Rattle.mpm_dirent.specs.declared.kinds.Entry.{Entry}
use Rattle.mpm_port.specs.Causes.{Rose}
use Rattle.mpm_port.specs.Texts.{AppendsPart}
use Rattle.mpm_port.specs.Disks.{KeepsTold}
use Rattle.mpm_mount.specs.declared.errors.ImageFault.{ImageFault}
use Rattle.mpm_mount.specs.Directories.{free_records_in}
use Rattle.mpm_fault_lines.specs.declared.fault.SlotFault.{SlotFault}
use Rattle.mpm_fault_lines.specs.Lines.{list_text, sound_line, freed_line}
use Rattle.mpm_fault_lines.specs.Lists.{marked, listed}
use Rattle.mpm_mount.specs.Images.{files_of}
use Rattle.mpm_repair.specs.FaultLists.{fault_list, faults_of}
use Rattle.mpm_repair.specs.Freeing.{freed_image, FreesOn, FreesFirst}
use Rattle.mpm_fsck.specs.declared.checking.Findings.{Findings}
use Rattle.mpm_fsck.specs.declared.status.FsckStatus.{FsckStatus}
use Rattle.mpm_fsck.specs.declared.status.FsckStatus.TheVariants.{Done, Usage, Unsound, WrongSize, BadList, NotEnough, ReadFault, DiskFault, WriteFault, OutOfMemory, TooLong}
use Rattle.mpm_fsck.specs.Outside.{DrivesSeen, SeenOutside, FailsNowhere, KeepsEveryImage}
use Rattle.mpm_fsck.specs.Endings.{Checked, IsOfWrongSize, IsLost, IsLonger, Lists, HasBadListLine, said, status_of, drive_without, by_fault}

-- an image of another size
pub record Mismatches (kind : Kind) (name : List ℕ) (old new : DrivesSeen) : Type 0 where
  pub size : IsOfWrongSize kind name old new
  pub fails : FailsNowhere old new

-- no memory for it
pub record Starves (name : List ℕ) (old new : DrivesSeen) : Type 0 where
  pub keeps : KeepsEveryImage name old new
  pub fails : FailsNowhere old new

-- how an image isn't opened or its directory isn't read
abbrev pub Unopened : Kind → List ℕ → DrivesSeen → DrivesSeen → FsckStatus → Type 0
Unopened kind name old new Done = ⊥
Unopened kind name old new Usage = ⊥
Unopened kind name old new (Unsound count) = ⊥
Unopened kind name old new WrongSize = Mismatches kind name old new
Unopened kind name old new (BadList line) = ⊥
Unopened kind name old new (NotEnough slot cause) = ⊥
Unopened kind name old new ReadFault = ⊥
Unopened kind name old new DiskFault = IsLost name old new
Unopened kind name old new WriteFault = ⊥
Unopened kind name old new OutOfMemory = Starves name old new
Unopened kind name old new TooLong = ⊥

-- it is opened: it has its kind's size, and is as `Is` says
pub record Opened (kind : Kind) (name : List ℕ) (old new : DrivesSeen) (Is : List ℕ → Type 0) : Type 0 where
  pub checked : Checked kind name old new Is
  pub fails : FailsNowhere old new

abbrev pub Opens : {A : Type 0} → Kind → List ℕ → DrivesSeen → DrivesSeen → (A → List ℕ → Type 0) → Result A FsckStatus → Type 0
Opens kind name old new Is (Ok found) = Opened kind name old new (Is found)
Opens kind name old new Is (Err status) = Unopened kind name old new status

-- what a directory's entries say, and how a check of them ends
abbrev pub said_by : Kind → List Entry → List SlotFault → List ℕ
said_by kind entries [] = sound_line (free_records_in (record { drive = 0; kind = kind; entries = entries }))
said_by kind entries (fault ∷ faults) = list_text (fault ∷ faults)

abbrev pub ended_by : ℕ → FsckStatus
ended_by zero = Done
ended_by (suc more) = Unsound (suc more)

pub record FindsFaults (kind : Kind) (entries : List Entry) (found : Findings) : Type 0 where
  pub text : found.text.items ≡ said_by kind entries (fault_list kind entries)
  pub count : found.count ≡ length (fault_list kind entries)

-- what is found of one without a fault: its free records
pub record FindsNone (kind : Kind) (entries : List Entry) (found : Findings) : Type 0 where
  pub text : found.text.items ≡ said_by kind entries []
  pub count : found.count ≡ 0

-- what is found of an image
pub record FindsOf (kind : Kind) (found : Findings) (image : List ℕ) : Type 0 where
  pub text : found.text.items ≡ said kind image
  pub ends : ended_by found.count ≡ status_of (files_of image kind) (faults_of image kind)

-- a text was written, with an ending, or a first part of it
pub record PutsText (text : List ℕ) (old new : List ℕ) (before after : ℕ) : Type 0 where
  pub written : new ≡ old ++ text
  pub faults : after ≡ before

pub record PutsPart (text : List ℕ) (old new : List ℕ) (before after : ℕ) : Type 0 where
  pub written : AppendsPart old text new
  pub faults : Rose before after

abbrev pub Tells : List ℕ → FsckStatus → List ℕ → List ℕ → ℕ → ℕ → FsckStatus → Type 0
Tells text ending old new before after status =
    ((status ≡ ending) × PutsText text old new before after) ⊎ ((status ≡ WriteFault) × PutsPart text old new before after)

-- nothing of the drives has changed but perhaps their count of faults
pub record Untouched (old new : DrivesSeen) : Type 0 where
  pub disks : new.disks ≡ old.disks
  pub known : new.known ≡ old.known
  pub unsynced : new.unsynced ≡ old.unsynced
  pub failed : new.failed ≡ old.failed

-- what holds where an opened image's directory isn't read: of a drive that failed, and of want of memory
abbrev pub by_unread : Type 0 → Type 0 → FsckStatus → Type 0
by_unread drive memory Done = ⊥
by_unread drive memory Usage = ⊥
by_unread drive memory (Unsound count) = ⊥
by_unread drive memory WrongSize = ⊥
by_unread drive memory (BadList line) = ⊥
by_unread drive memory (NotEnough slot cause) = ⊥
by_unread drive memory ReadFault = ⊥
by_unread drive memory DiskFault = drive
by_unread drive memory WriteFault = ⊥
by_unread drive memory OutOfMemory = memory
by_unread drive memory TooLong = ⊥

-- the count of faults after a directory was read, or wasn't
abbrev pub CountsRead : {A : Type 0} → ℕ → ℕ → Result A FsckStatus → Type 0
CountsRead before after (Ok entries) = after ≡ before
CountsRead before after (Err status) = by_unread (Rose before after) (after ≡ before) status

-- the slots of a list, as they are marked
pub record ReadsSlots (missing : Type 0) (contents : Option (List ℕ)) (kind : Kind) (old new : List (List ℕ)) (marks : List Bool) : Type 0 where
  pub lines : List ℕ
  pub listed : Lists missing contents kind lines
  pub marks_are : marks ≡ marked lines
  pub names : new ≡ old

-- how a list isn't read: the names of files that couldn't be fetched, before and after
abbrev pub Unlisted : Type 0 → Option (List ℕ) → Kind → List ℕ → List (List ℕ) → List (List ℕ) → FsckStatus → Type 0
Unlisted missing contents kind list old new Done = ⊥
Unlisted missing contents kind list old new Usage = ⊥
Unlisted missing contents kind list old new (Unsound count) = ⊥
Unlisted missing contents kind list old new WrongSize = ⊥
Unlisted missing contents kind list old new (BadList line) = HasBadListLine missing contents kind line × (new ≡ old)
Unlisted missing contents kind list old new (NotEnough slot cause) = ⊥
Unlisted missing contents kind list old new ReadFault = new ≡ old ++ (list ∷ [])
Unlisted missing contents kind list old new DiskFault = ⊥
Unlisted missing contents kind list old new WriteFault = ⊥
Unlisted missing contents kind list old new OutOfMemory = new ≡ old
Unlisted missing contents kind list old new TooLong = IsLonger missing contents × (new ≡ old)

abbrev pub ReadsListText : Type 0 → Option (List ℕ) → Kind → List ℕ → List (List ℕ) → List (List ℕ) → Result (List Bool) FsckStatus → Type 0
ReadsListText missing contents kind list old new (Ok marks) = ReadsSlots missing contents kind old new marks
ReadsListText missing contents kind list old new (Err status) = Unlisted missing contents kind list old new status

-- what freed entries are: so many, and without a fault; or with this one
abbrev pub IsLeftAtFault : List ℕ → Option ImageFault → Result ℕ FsckStatus → Type 0
IsLeftAtFault slots fault (Ok count) = (count ≡ length slots) × (fault ≡ None)
IsLeftAtFault slots fault (Err Done) = ⊥
IsLeftAtFault slots fault (Err Usage) = ⊥
IsLeftAtFault slots fault (Err (Unsound count)) = ⊥
IsLeftAtFault slots fault (Err WrongSize) = ⊥
IsLeftAtFault slots fault (Err (BadList line)) = ⊥
IsLeftAtFault slots fault (Err (NotEnough slot cause)) = fault ≡ Some (record { cause = cause; place = slot })
IsLeftAtFault slots fault (Err ReadFault) = ⊥
IsLeftAtFault slots fault (Err DiskFault) = ⊥
IsLeftAtFault slots fault (Err WriteFault) = ⊥
IsLeftAtFault slots fault (Err OutOfMemory) = ⊤
IsLeftAtFault slots fault (Err TooLong) = ⊥

-- the marked slots of a directory
abbrev pub slots_marked : Kind → List Bool → List ℕ
slots_marked kind marks = listed marks ((geometry_of kind).drm + 1)

-- an image of which they are free: so many, and it has no fault; or it has this one
abbrev pub LeavesImage : Kind → List ℕ → List ℕ → Result ℕ FsckStatus → Type 0
LeavesImage kind slots image (Ok count) = (count ≡ length slots) × (files_of (freed_image kind slots image) kind ≡ Ok (drive_without kind slots image))
LeavesImage kind slots image (Err Done) = ⊥
LeavesImage kind slots image (Err Usage) = ⊥
LeavesImage kind slots image (Err (Unsound count)) = ⊥
LeavesImage kind slots image (Err WrongSize) = ⊥
LeavesImage kind slots image (Err (BadList line)) = ⊥
LeavesImage kind slots image (Err (NotEnough slot cause)) = files_of (freed_image kind slots image) kind ≡ Err (record { cause = cause; place = slot })
LeavesImage kind slots image (Err ReadFault) = ⊥
LeavesImage kind slots image (Err DiskFault) = ⊤
LeavesImage kind slots image (Err WriteFault) = ⊥
LeavesImage kind slots image (Err OutOfMemory) = ⊤
LeavesImage kind slots image (Err TooLong) = ⊥

-- the count of faults then: it rose where the drive failed
abbrev pub CountsLeft : {A : Type 0} → ℕ → ℕ → Result A FsckStatus → Type 0
CountsLeft before after (Ok count) = after ≡ before
CountsLeft before after (Err status) = by_fault (after ≡ before) ⊥ (Rose before after) ⊥ status

-- slots of an opened image are free
pub record FreesAll (kind : Kind) (slots image : List ℕ) (old new : DrivesSeen) (Said : List ℕ → Type 0) : Type 0 where
  pub stands : files_of (freed_image kind slots image) kind ≡ Ok (drive_without kind slots image)
  pub frees : FreesOn 0 kind slots old.disks new.disks
  pub known : KeepsTold (old.disks.name_of 0) old.known new.known
  pub fails : FailsNowhere old new
  pub synced : new.unsynced 0 ≡ false
  pub beside : (other : ℕ) → other ≢ 0 → new.unsynced other ≡ old.unsynced other
  pub is_said : Said (freed_line (length slots))

-- those of its first sectors, as the drive failed; all of them would have been enough
pub record FreesSome (kind : Kind) (marks : List Bool) (image : List ℕ) (old new : DrivesSeen) : Type 0 where
  pub enough : files_of (freed_image kind (slots_marked kind marks) image) kind ≡ Ok (drive_without kind (slots_marked kind marks) image)
  pub frees : FreesFirst 0 kind marks old.disks new.disks
  pub known : KeepsTold (old.disks.name_of 0) old.known new.known
  pub beside : (other : ℕ) → other ≢ 0 → new.unsynced other ≡ old.unsynced other
  pub failed : new.failed ≡ old.failed
  pub rose : Rose old.faults new.faults

-- it is as it was
pub record RefusesDrive (old new : DrivesSeen) (Why : Type 0) : Type 0 where
  pub same : Untouched old new
  pub faults : new.faults ≡ old.faults
  pub why : Why

-- how the slots of an opened image are freed
abbrev pub Mending : Kind → List Bool → List ℕ → DrivesSeen → DrivesSeen → (Bool → List ℕ → Type 0) → FsckStatus → Type 0
Mending kind marks image old new Said Done = FreesAll kind (slots_marked kind marks) image old new (Said true)
Mending kind marks image old new Said Usage = ⊥
Mending kind marks image old new Said (Unsound count) = ⊥
Mending kind marks image old new Said WrongSize = ⊥
Mending kind marks image old new Said (BadList line) = ⊥
Mending kind marks image old new Said (NotEnough slot cause) =
    RefusesDrive old new (files_of (freed_image kind (slots_marked kind marks) image) kind ≡ Err (record { cause = cause; place = slot }))
Mending kind marks image old new Said ReadFault = ⊥
Mending kind marks image old new Said DiskFault = (Untouched old new × Rose old.faults new.faults) ⊎ FreesSome kind marks image old new
Mending kind marks image old new Said WriteFault = FreesAll kind (slots_marked kind marks) image old new (Said false)
Mending kind marks image old new Said OutOfMemory = RefusesDrive old new ⊤
Mending kind marks image old new Said TooLong = ⊥

-- what is said, whole or in part
abbrev pub IsSaid : List ℕ → List ℕ → Bool → List ℕ → Type 0
IsSaid first written true text = written ≡ first ++ text
IsSaid first written false text = AppendsPart first text written

-- A list is read before the directory of the image that is opened. It isn't read, and the drives are as they were:
pub record RefusesList (missing : Type 0) (kind : Kind) (list : List ℕ) (old new : SeenOutside) (status : FsckStatus) : Type 0 where
  pub unlisted : Unlisted missing (old.contents list) kind list old.unread new.unread status
  pub drives : new.drives ≡ old.drives

-- or it is, and then its slots are freed, or not
pub record TakesList (missing : Type 0) (kind : Kind) (list image : List ℕ) (old new : SeenOutside) (status : FsckStatus) : Type 0 where
  pub marks : List Bool
  pub reads : ReadsSlots missing (old.contents list) kind old.unread new.unread marks
  pub mending : Mending kind marks image old.drives new.drives (IsSaid old.text new.text) status

abbrev pub MendsByList : Type 0 → Kind → List ℕ → List ℕ → SeenOutside → SeenOutside → FsckStatus → Type 0
MendsByList missing kind list image old new status = RefusesList missing kind list old new status ⊎ TakesList missing kind list image old new status
