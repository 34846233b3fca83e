-- What is summed of DATA.DAT, and how a directory in memory leads to its records. (MP/M II Programmer's Guide, "File Control Block
-- Definition": RC, D0 to Dn.)
use Rattle.std.specs.Prelude.{◌≡◌, ℕ, ◌+◌, ◌*◌, ◌/◌, ◌%◌, ◌==◌, ◌&&◌, not, List, [], Option, Some, None, IfSome, nat_lt, slice_index_or, unwrap_or, sum_by, codes, if◌then◌else◌, ◌<◌}
use Rattle.std.specs.List.{range_with_len}
use Rattle.std.specs.Option.{option_map_or}
use Rattle.mpm_port.specs.Disks.{Disks, size_of}
use Rattle.mpm_dirent.specs.declared.kinds.FileEntry.{FileEntry}
use Rattle.mpm_mount.specs.Drives.{FileName, Drive, visible_of}
use Rattle.mpm_mount.specs.Faults.{block_at}
use Rattle.mpm_mount.specs.Directories.{Directory, Stands}
use Rattle.mpm_base.specs.declared.kind.Kind.TheVariants.{Hd4}

-- the file, of user 0
abbrev pub data_file : FileName
data_file = record { user = 0; name = codes "DATA    DAT" }

-- the first byte of a record, or 0 where it isn't there
abbrev pub first_of : Option (List ℕ) → ℕ
first_of bytes = slice_index_or (unwrap_or bytes []) 0 0

-- a record's part of the sum: its number, counted from 1, times its first byte
abbrev pub weighed : Drive → ℕ → ℕ
weighed files place = (place + 1) * first_of (visible_of files data_file place)

-- the sum over the first 32 records
unfoldable pub data_of : Drive → ℕ
data_of files = sum_by (weighed files) (range_with_len 0 32)

-- that of drive A, or 0 where none is mounted
abbrev pub data_on : List (Option Drive) → ℕ
data_on drives = option_map_or data_of (slice_index_or drives 0 None) 0

-- a record of the file may be read on drive A, an hd4 disk of its full size
pub record MayReadData (disks : Disks) (mounted : Directory) (place : ℕ) : Type 0 where
  pub size : size_of disks 0 ≡ Some 4194304
  pub kind : mounted.kind ≡ Hd4
  pub below : place < 32

-- drives were read alone
pub record OnlyRead (old new : Disks) : Type 0 where
  pub size : size_of new 0 ≡ Some 4194304
  pub same : new ≡ old

-- the sector of a record below 128 on an hd4 disk, where the entry of its file's extent 0 has it
abbrev pub sector_in : ℕ → FileEntry → Option ℕ
sector_in place f =
    if nat_lt place f.rc && not (block_at f (place / 16) == 0) then Some (16 * block_at f (place / 16) + place % 16) else None

-- the image of drive A and its directory in memory stand for what is there
pub record HasDriveA (disks : Disks) (directory : Option Directory) (drives : List (Option Drive)) : Type 0 where
  pub image : List ℕ
  pub files : Drive
  pub attached : disks.image 0 ≡ Some image
  pub stands : IfSome directory (λ there. Stands image there files)
  pub here : slice_index_or drives 0 None ≡ Some files
