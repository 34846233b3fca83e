-- What keeps a record from being read, by its directory entry and on a drive. (MP/M II Programmer's Guide, "Function 20: Read
-- Sequential", "Function 33: Read Random".)
use Rattle.std.specs.Prelude.{ℕ, ◌/◌, ◌%◌, ◌==◌, ◌||◌, not, Option, Some, None, is_some, nat_lt, nat_le, if◌then◌else◌}
use Rattle.mpm_base.specs.declared.kind.Kind.{Kind}
use Rattle.mpm_dirent.specs.declared.kinds.Entry.{Entry}
use Rattle.mpm_dirent.specs.declared.kinds.Entry.TheVariants.{Free, File, Xfcb, Label, Kept}
use Rattle.mpm_dirent.specs.declared.kinds.FileEntry.{FileEntry}
use Rattle.mpm_mount.specs.Drives.{FileName, block_place, Drive, extent_at, visible_of}
use Rattle.mpm_mount.specs.Faults.{extent_of, block_at}
use Rattle.mpm_mount.specs.Directories.{Directory, entry_in, extent_slot}
use Rattle.mpm_file_functions.specs.declared.errors.RecordError.{RecordError}
use Rattle.mpm_file_functions.specs.declared.errors.RecordError.TheVariants.{UnwrittenExtent, UnwrittenData}

-- by its directory entry
abbrev pub count_there : FileEntry → ℕ → ℕ
count_there f extent = if extent == extent_of f then f.rc else 128

abbrev pub file_error : Kind → ℕ → FileEntry → Option RecordError
file_error kind n f =
    if nat_lt (extent_of f) (n / 128) then Some UnwrittenExtent
    else (if nat_le (count_there f (n / 128)) (n % 128) || (block_at f (block_place kind n) == 0) then Some UnwrittenData else None)

abbrev pub error_in : Kind → ℕ → Entry → Option RecordError
error_in kind n (File f) = file_error kind n f
error_in kind n Free = Some UnwrittenExtent
error_in kind n (Xfcb x) = Some UnwrittenExtent
error_in kind n (Label l) = Some UnwrittenExtent
error_in kind n (Kept bytes) = Some UnwrittenExtent

abbrev pub error_at : Directory → ℕ → Option ℕ → Option RecordError
error_at d n None = Some UnwrittenExtent
error_at d n (Some slot) = error_in d.kind n (entry_in d slot)

abbrev pub record_error : Directory → FileName → ℕ → Option RecordError
record_error d file n = error_at d n (extent_slot d file (n / 128))

-- on a drive
abbrev pub read_error : Drive → FileName → ℕ → Option RecordError
read_error drive file n =
    if not (is_some (extent_at drive file (n / 128))) then Some UnwrittenExtent
    else (if not (is_some (visible_of drive file n)) then Some UnwrittenData else None)
