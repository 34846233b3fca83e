-- What freed slots leave of a directory and of its image.
use Rattle.std.proofs.Common.{◌≡◌, ℕ, ◌+◌, ◌≤◌, Bool, List, Option, Some, Result, Ok, Err, length, sym, ap, subst, ◌∙◌, arith}
use Rattle.std.specs.Prelude.{IfSome, option_map}
use Rattle.std.proofs.lemmas.Option.{same_Some}
use Rattle.mpm_port.specs.Disks.{Disks, size_of}
use Rattle.mpm_base.specs.declared.kind.Kind.{Kind}
use Rattle.mpm_blocks.specs.Geometries.{geometry_of}
use Rattle.mpm_blocks.specs.Sectors.{sectors_of}
use Rattle.mpm_dirent.specs.declared.kinds.Entry.{Entry}
use Rattle.mpm_mount.specs.Faults.{first_fault}
use Rattle.mpm_mount.specs.Images.{entries_of}
use Rattle.mpm_fault_lines.specs.Lists.{listed, marked, different}
use Rattle.mpm_repair.specs.Freeing.{freed}
use Rattle.mpm_repair.proofs.FreedImages.{files_freed, fault_freed}
use Rattle.mpm_fsck.specs.declared.status.FsckStatus.{FsckStatus}
use Rattle.mpm_fsck.specs.declared.status.FsckStatus.TheVariants.{Done, Usage, Unsound, WrongSize, BadList, NotEnough, ReadFault, DiskFault, WriteFault, OutOfMemory, TooLong}
use Rattle.mpm_fsck.specs.Steps.{IsLeftAtFault, LeavesImage, slots_marked}
use Rattle.mpm_fault_lines.proofs.Marks.{listed_marked}
use Rattle.mpm_repair.proofs.FreedSlots.{all_marked, few_slots}

-- what is left of an image by what is left of its entries
leaves : (kind : Kind) (marks : List Bool) (image : List ℕ) (result : Result ℕ FsckStatus) → length image ≡ (geometry_of kind).bytes
    → IsLeftAtFault (slots_marked kind marks) (first_fault kind (freed (slots_marked kind marks) (entries_of (sectors_of image kind) kind))) result → LeavesImage kind (slots_marked kind marks) image result
leaves kind marks image (Ok count) size left = (left.0, files_freed kind (slots_marked kind marks) image size (all_marked kind marks) left.1)
leaves kind marks image (Err Done) size left = left
leaves kind marks image (Err Usage) size left = left
leaves kind marks image (Err (Unsound count)) size left = left
leaves kind marks image (Err WrongSize) size left = left
leaves kind marks image (Err (BadList line)) size left = left
leaves kind marks image (Err (NotEnough slot cause)) size left = fault_freed kind (slots_marked kind marks) image (record { cause = cause; place = slot }) size (all_marked kind marks) left
leaves kind marks image (Err ReadFault) size left = left
leaves kind marks image (Err DiskFault) size left = absurd left
leaves kind marks image (Err WriteFault) size left = left
leaves kind marks image (Err OutOfMemory) size left = tt
leaves kind marks image (Err TooLong) size left = left

-- by the entries that were read
pub leaves_read : (kind : Kind) (marks : List Bool) (disks : Disks) (image : List ℕ) (entries : List Entry) (result : Result ℕ FsckStatus) → disks.image 0 ≡ Some image
    → size_of disks 0 ≡ Some (geometry_of kind).bytes → IfSome (disks.image 0) (λ one. entries ≡ entries_of (sectors_of one kind) kind)
    → IsLeftAtFault (slots_marked kind marks) (first_fault kind (freed (slots_marked kind marks) entries)) result → LeavesImage kind (slots_marked kind marks) image result
leaves_read kind marks disks image entries result here size read left =
    let are = subst (λ (o : Option (List ℕ)). IfSome o (λ one. entries ≡ entries_of (sectors_of one kind) kind)) here read in
    let long = same_Some (length image) (geometry_of kind).bytes (sym (ap (option_map length) here) ∙ size) in
    leaves kind marks image result long (subst (λ (es : List Entry). IsLeftAtFault (slots_marked kind marks) (first_fault kind (freed (slots_marked kind marks) es)) result) are left)

-- the marks of a list
pub marked_in : (kind : Kind) (lines : List ℕ) (count : ℕ) → count ≤ (geometry_of kind).drm + 1 → listed (marked lines) count ≡ different count lines
marked_in kind lines count within = listed_marked lines count (omega (arith, few_slots kind, within))
