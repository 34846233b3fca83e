-- Files by where they stand, and the modes in which they are opened. (MP/M II Programmer's Guide, "Function 15: Open File".)
use Rattle.std.specs.Prelude.{ℕ, Bool, true, false, ◌==◌, ◌&&◌, bytes_eq}
use Rattle.mpm_opens.specs.declared.kinds.FileKey.{FileKey}
use Rattle.mpm_opens.specs.declared.kinds.Mode.{Mode}
use Rattle.mpm_opens.specs.declared.kinds.Mode.TheVariants.{Locked, Unlocked, ReadOnly}
use Rattle.mpm_opens.specs.declared.kinds.FileSet.{FileSet}
use Rattle.mpm_opens.specs.declared.kinds.FileSet.TheVariants.{All, OnDrive, One}

-- a file is known by drive, user and name
abbrev pub is_same_file : FileKey → FileKey → Bool
is_same_file a b = (a.drive == b.drive) && ((a.user == b.user) && bytes_eq a.name b.name)

abbrev pub is_same_mode : Mode → Mode → Bool
is_same_mode Locked Locked = true
is_same_mode Unlocked Unlocked = true
is_same_mode ReadOnly ReadOnly = true
is_same_mode a b = false

-- two processes can have a file open where both have it in unlocked or both in read-only mode
abbrev pub do_modes_go_together : Mode → Mode → Bool
do_modes_go_together Unlocked Unlocked = true
do_modes_go_together ReadOnly ReadOnly = true
do_modes_go_together a b = false

-- files are named by a test: that of being one file, and that of being one of some
abbrev pub is_file : FileKey → FileKey → Bool
is_file one file = is_same_file file one

abbrev pub is_on_drive : ℕ → FileKey → Bool
is_on_drive drive file = file.drive == drive

abbrev pub is_any : FileKey → Bool
is_any file = true

abbrev pub is_among : FileSet → FileKey → Bool
is_among All file = is_any file
is_among (OnDrive drive) file = is_on_drive drive file
is_among (One one) file = is_file one file
