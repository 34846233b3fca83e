-- What the parts of a run promise, each as one relation between what is there before it and after it.
use Rattle.std.specs.Prelude.{◌≡◌, ◌≢◌, ◌≤◌, ℕ, List, Bool, Some, Result, Vec, IfOk, IfSome, length}
use Rattle.std.specs.declared.alloc.Global.{Global}
use Rattle.mpm_base.specs.declared.kind.Kind.{Kind}
use Rattle.mpm_blocks.specs.Sectors.{sectors_of}
use Rattle.mpm_dirent.specs.declared.kinds.Entry.{Entry}
use Rattle.mpm_port.specs.declared.files.Files as files
use Rattle.mpm_port.specs.declared.drives.Drives as drives
use Rattle.mpm_port.specs.Frames.{OnlyCountsFaults}
use Rattle.mpm_mount.specs.Mounting.{FillDirectory}
use Rattle.mpm_mount.specs.Images.{entries_of}
use Rattle.mpm_fault_lines.specs.declared.fault.SlotFault.{SlotFault}
use Rattle.mpm_repair.specs.FaultLists.{ListsFaults}
use Rattle.mpm_fsck.specs.declared.status.FsckStatus.{FsckStatus}
use Rattle.mpm_fsck.specs.declared.status.FsckStatus.TheVariants.{Usage}
use Rattle.mpm_fsck.specs.Requests.{Apply}
use Rattle.mpm_fsck.specs.Outside.{DrivesSeen, SeenOutside}
use Rattle.mpm_fsck.specs.Endings.{Checks, Applies, TakesOwnList, FailsByEnding, FailsDrives, FailsOutput, WritesNoText}
use Rattle.mpm_fsck.specs.Steps.{ReadsListText, LeavesImage, CountsRead, CountsLeft, Mending, MendsByList, IsSaid, slots_marked}

-- an image was checked, or not: why it ends so, and which device failed. The output is as it was (`Same`) where nothing is written
pub record EndsCheck (Same : Type 0) (kind : Kind) (name : List ℕ) (old new : DrivesSeen) (first written : List ℕ) (before after : ℕ) (status : FsckStatus) : Type 0 where
  pub checks : Checks kind name old new first written status
  pub drives : FailsDrives old new status
  pub output : FailsOutput before after status
  pub nothing : WritesNoText status → Same
  pub usage : status ≢ Usage

-- a list was applied to an image, or not: why it ends so, which device failed, and that what files hold stays
pub record EndsList (Same : Type 0) (missing : List ℕ → Type 0) (kind : Kind) (name list : List ℕ) (old new : SeenOutside) (status : FsckStatus) : Type 0 where
  pub applies : Applies missing kind name list old new status
  pub own_list : TakesOwnList old.contents old.drives.known (Apply kind name list) status
  pub fails : FailsByEnding old new status
  pub nothing : WritesNoText status → Same
  pub files : (other : List ℕ) → new.contents other ≡ old.contents other
  pub usage : status ≢ Usage

-- a list was read and applied to an opened image, or not; a drive failed only after it was read
pub record EndsListed (Same : Type 0) (missing : List ℕ → Type 0) (kind : Kind) (list : List ℕ) (old new : SeenOutside) (status : FsckStatus) : Type 0 where
  pub ends : (image : List ℕ) → old.drives.disks.image 0 ≡ Some image → MendsByList (missing list) kind list image old new status
  pub fails : FailsByEnding old new status
  pub nothing : WritesNoText status → Same
  pub files : (other : List ℕ) → new.contents other ≡ old.contents other

-- slots of an opened image were freed and their number was written, or not
pub record EndsMending (Same : Type 0) (kind : Kind) (marks : List Bool) (old new : DrivesSeen) (first written : List ℕ) (before after : ℕ) (status : FsckStatus) : Type 0 where
  pub ends : (image : List ℕ) → old.disks.image 0 ≡ Some image → Mending kind marks image old new (IsSaid first written) status
  pub drives : FailsDrives old new status
  pub output : FailsOutput before after status
  pub nothing : WritesNoText status → Same

-- a list was read, or not; what files hold stays
pub record ReadsList {F : Type 0} (of : files.Ghosts F) (kind : Kind) (list : List ℕ) (old new : F) (result : Result (List Bool) FsckStatus) : Type 0 where
  pub reads : ReadsListText (of.missing old list) (of.contents old list) kind list (of.failed_names old) (of.failed_names new) result
  pub files : (other : List ℕ) → of.contents new other ≡ of.contents old other

-- the slots that are free then were counted, and the image without them has no fault; or it has one; or it wasn't read
pub record CountsFreed {D : Type 0} (of : drives.Ghosts D) (kind : Kind) (marks : List Bool) (old new : D) (result : Result ℕ FsckStatus) : Type 0 where
  pub left : (image : List ℕ) → (of.disks old).image 0 ≡ Some image → LeavesImage kind (slots_marked kind marks) image result
  pub count : CountsLeft (of.faults old) (of.faults new) result
  pub same : OnlyCountsFaults of old new

-- the directory of drive A was read: its entries are those of its image, and fill a directory; or it wasn't read
pub record ReadsImageEntries {D : Type 0} (of : drives.Ghosts D) (kind : Kind) (old new : D) (result : Result (Vec Entry Global) FsckStatus) : Type 0 where
  pub entries : IfOk result (λ read. IfSome ((of.disks old).image 0) (λ image. read.items ≡ entries_of (sectors_of image kind) kind))
  pub slots : IfOk result (λ read. FillDirectory kind read.items)
  pub count : CountsRead (of.faults old) (of.faults new) result
  pub same : OnlyCountsFaults of old new

-- the entries at fault are listed, of which there are at most as many as entries
pub record ListsFew (kind : Kind) (entries now : List Entry) (faults : List SlotFault) : Type 0 where
  pub lists : ListsFaults kind entries now faults
  pub few : length faults ≤ 512
