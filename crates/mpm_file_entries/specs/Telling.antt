-- What is answered of a file: an entry as a search tells it, and what a file control block gets of a file that was opened, of a position,
-- of its size and of its XFCB. (MP/M II Programmer's Guide, "File Control Block Definition", "Function 17: Search for First".)
use Rattle.std.specs.Prelude.{ℕ, ◌<◌, ◌≤◌, ◌/◌, ◌%◌, false, List, [], ◌++◌, Option, Some, None, unwrap_or, replicate}
use Rattle.std.specs.FinMap.{get}
use Rattle.mpm_dirent.specs.declared.kinds.Entry.{Entry}
use Rattle.mpm_dirent.specs.declared.kinds.Entry.TheVariants.{Free, File, Xfcb, Label, Kept}
use Rattle.mpm_dirent.specs.declared.kinds.FileEntry.{FileEntry}
use Rattle.mpm_dirent.specs.Entries as entry
use Rattle.mpm_dirent.specs.Names.{plain}
use Rattle.mpm_dirent.specs.declared.limits.TheConstants.{LAST_EXTENT}
use Rattle.mpm_opens.specs.declared.kinds.Mode.{Mode}
use Rattle.mpm_mount.specs.Drives.{FileName, PhysicalExtent, Drive, extents_of}
use Rattle.mpm_mount.specs.Faults.{extent_of}
use Rattle.mpm_mount.specs.Directories.{Directory, entry_in, extent_slot}
use Rattle.mpm_mount.specs.Attributes.{attributes_of, attributes_in}
use Rattle.mpm_mount.specs.Files.{where_there}
use Rattle.mpm_mount.specs.Looking.{extent_count}
use Rattle.mpm_fcb.specs.declared.block.ControlBlock.{ControlBlock}
use Rattle.mpm_fcb.specs.Names.{with_attributes}
use Rattle.mpm_fcb.specs.Positions.{at_position}
use Rattle.mpm_fcb.specs.Positions as positions
use Rattle.mpm_fcb.specs.Opening.{opened}

-- a directory entry as a search tells it, with S1 and map zero, and three free ones after it
unfoldable pub told_bytes : ℕ → List ℕ → ℕ → ℕ → List ℕ
told_bytes user name last count =
    entry.bytes_of (File (record {
      user = user;
      name = name;
      ex = last % 32;
      s1 = 0;
      s2 = last / 32;
      rc = count;
      blocks = replicate 16 0;
    })) false
    ++ replicate 96 229

abbrev pub told_entry : FileName → PhysicalExtent → List ℕ
told_entry file extent = told_bytes file.user (with_attributes file.name extent.attributes) extent.last extent.count

abbrev pub found_bytes : Drive → Option (FileName × ℕ) → List ℕ
found_bytes drive None = []
found_bytes drive (Some found) =
    where_there (get drive.extents (record { user = found.0.user; name = found.0.name; number = found.1 })) (told_entry found.0)

-- an entry of a file, as a search tells it
abbrev pub told_file : FileEntry → List ℕ
told_file f = told_bytes f.user (with_attributes (plain f.name) (attributes_in f.name)) (extent_of f) f.rc

abbrev pub CanTell : Entry → Type 0
CanTell (File f) = (f.user < 16) × (extent_of f ≤ LAST_EXTENT)
CanTell Free = Unit {0}
CanTell (Xfcb x) = Unit {0}
CanTell (Label label) = Unit {0}
CanTell (Kept bytes) = Unit {0}

abbrev pub told_at : Entry → Option (List ℕ)
told_at (File f) = Some (told_file f)
told_at Free = None
told_at (Xfcb x) = None
told_at (Label label) = None
told_at (Kept bytes) = None

abbrev pub told_where : Directory → Option ℕ → Option (List ℕ)
told_where d None = None
told_where d (Some slot) = told_at (entry_in d slot)

unfoldable pub told_in : Directory → FileName → ℕ → Option (List ℕ)
told_in d file extent = told_where d (extent_slot d file extent)

-- how many records an extent of a file has; none where it isn't there
abbrev pub record_count : Drive → FileName → ℕ → ℕ
record_count drive file extent = unwrap_or (extent_count drive file extent) 0

-- the block of a file that was opened or made, and one at the position after a call on records
abbrev pub file_in : ℕ → ControlBlock → FileName
file_in owner b = record { user = owner; name = plain b.name }

abbrev pub opened_by : Drive → ℕ → ControlBlock → Mode → ℕ → ControlBlock
opened_by drive owner b mode item =
    opened b (attributes_of (extents_of drive (file_in owner b))) (record_count drive (file_in owner b) (b.ex % 32)) mode item

abbrev pub moved_to : Drive → ℕ → ControlBlock → ℕ → ControlBlock
moved_to drive owner b position = at_position b position (record_count drive (file_in owner b) (positions.extent_of position))
