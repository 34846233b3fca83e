-- What a mounted drive has that its directory says by itself: its label, a file's XFCB, how many records an extent has, attributes. A
-- definition over the directory stands beside one over the drive. (MP/M II Programmer's Guide, "Directory Labels", "Extended File
-- Control Blocks", "File Attributes".)
use Rattle.std.specs.Prelude.{ℕ, ◌==◌, Bool, List, Option, Some, None, option_map, unwrap_or, nat_le, if◌then◌else◌}
use Rattle.mpm_dirent.specs.declared.kinds.Entry.{Entry}
use Rattle.mpm_dirent.specs.declared.kinds.Entry.TheVariants.{Free, File, Xfcb, Label, Kept}
use Rattle.mpm_dirent.specs.declared.kinds.FileEntry.{FileEntry}
use Rattle.mpm_dirent.specs.declared.kinds.XfcbEntry.{XfcbEntry}
use Rattle.mpm_dirent.specs.declared.kinds.LabelEntry.{LabelEntry}
use Rattle.mpm_mount.specs.Drives.{FileName, PhysicalExtent, DirectoryLabel, Drive, count_in, extent_at, extents_of}
use Rattle.mpm_mount.specs.Faults.{extent_of}
use Rattle.mpm_mount.specs.Directories.{Directory, entry_in, extent_slot, xfcb_slot, label_slot}
use Rattle.mpm_mount.specs.Attributes.{first_attributes}

-- the label
abbrev pub label_at : Entry → Option LabelEntry
label_at (Label label) = Some label
label_at Free = None
label_at (File f) = None
label_at (Xfcb x) = None
label_at (Kept bytes) = None

abbrev pub label_where : Directory → Option ℕ → Option LabelEntry
label_where d None = None
label_where d (Some slot) = label_at (entry_in d slot)

unfoldable pub label_in : Directory → Option LabelEntry
label_in d = label_where d (label_slot d)

abbrev pub label_of : LabelEntry → DirectoryLabel
label_of l = record {
  name = l.name;
  protection = record { mode = l.mode; decode = l.decode; password = l.password; first = l.first; second = l.second };
}

-- its data byte, 0 where there is no label
abbrev pub data_byte : Drive → ℕ
data_byte drive = unwrap_or (option_map (λ label. label.protection.mode) drive.label) 0

-- an XFCB
abbrev pub xfcb_at : Entry → Option XfcbEntry
xfcb_at (Xfcb x) = Some x
xfcb_at Free = None
xfcb_at (File f) = None
xfcb_at (Label label) = None
xfcb_at (Kept bytes) = None

abbrev pub xfcb_where : Directory → Option ℕ → Option XfcbEntry
xfcb_where d None = None
xfcb_where d (Some slot) = xfcb_at (entry_in d slot)

unfoldable pub xfcb_in : Directory → FileName → Option XfcbEntry
xfcb_in d file = xfcb_where d (xfcb_slot d file)

-- the attributes of a file that is there
unfoldable pub file_attributes : Drive → FileName → Option (List Bool)
file_attributes drive file = first_attributes (extents_of drive file)

-- the record count of an extent that is there
unfoldable pub extent_count : Drive → FileName → ℕ → Option ℕ
extent_count drive file extent = option_map (λ (entry : PhysicalExtent). count_in entry extent) (extent_at drive file extent)

abbrev pub count_in_file : ℕ → FileEntry → Option ℕ
count_in_file extent f = if nat_le extent (extent_of f) then Some (if extent == extent_of f then f.rc else 128) else None

abbrev pub count_at : ℕ → Entry → Option ℕ
count_at extent (File f) = count_in_file extent f
count_at extent Free = None
count_at extent (Xfcb x) = None
count_at extent (Label label) = None
count_at extent (Kept bytes) = None

abbrev pub count_where : Directory → ℕ → Option ℕ → Option ℕ
count_where d extent None = None
count_where d extent (Some slot) = count_at extent (entry_in d slot)

unfoldable pub count_of : Directory → FileName → ℕ → Option ℕ
count_of d file extent = count_where d extent (extent_slot d file extent)
