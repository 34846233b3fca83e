-- The functions on files and drives, by their numbers. (MP/M II Programmer's Guide, "BDOS Function Calls".)
use Rattle.std.specs.Prelude.{ℕ, ◌==◌, List, [], ◌∷◌, Option, option_map, find}
use Rattle.mpm_base.specs.declared.functions.TheConstants.{RESET_DISK_SYSTEM, OPEN_FILE, CLOSE_FILE, SEARCH_FOR_FIRST, SEARCH_FOR_NEXT, DELETE_FILE, READ_SEQUENTIAL, WRITE_SEQUENTIAL, MAKE_FILE, RENAME_FILE, WRITE_PROTECT_DISK, SET_FILE_ATTRIBUTES, READ_RANDOM, WRITE_RANDOM, COMPUTE_FILE_SIZE, RESET_DRIVE, ACCESS_DRIVE, FREE_DRIVE, WRITE_RANDOM_WITH_ZERO_FILL, TEST_AND_WRITE_RECORD, LOCK_RECORD, UNLOCK_RECORD, GET_DISK_FREE_SPACE, FLUSH_BUFFERS, SET_DIRECTORY_LABEL, RETURN_DIRECTORY_LABEL_DATA, READ_FILE_XFCB, WRITE_FILE_XFCB, SELECT_DISK, RETURN_LOGIN_VECTOR, GET_READ_ONLY_VECTOR, GET_DISK_PARAMETERS, SET_RANDOM_RECORD}
use Rattle.mpm_file_functions.specs.declared.functions.FileFunction.{FileFunction}
use Rattle.mpm_file_functions.specs.declared.functions.FileFunction.TheVariants.{ResetDisks, OpenFile, CloseFile, SearchFirst, SearchNext, DeleteFile, ReadSequential, WriteSequential, MakeFile, RenameFile, ProtectDisk, SetAttributes, ReadRandom, WriteRandom, FileSize, ResetDrives, AccessDrives, FreeDrives, TestAndWrite, LockRecord, UnlockRecord, FreeSpace, FlushBuffers, SetLabel, LabelData, ReadXfcb, WriteXfcb}
use Rattle.mpm_file_functions.specs.declared.functions.DirectFunction.{DirectFunction}
use Rattle.mpm_file_functions.specs.declared.functions.DirectFunction.TheVariants.{SelectDisk, LoginVector, ReadOnlyVector, DiskParameters, SetRandomRecord}

-- two of the numbers are one function
abbrev pub numbers : List (ℕ × FileFunction)
numbers =
    (RESET_DISK_SYSTEM, ResetDisks) ∷ (OPEN_FILE, OpenFile) ∷ (CLOSE_FILE, CloseFile) ∷ (SEARCH_FOR_FIRST, SearchFirst)
    ∷ (SEARCH_FOR_NEXT, SearchNext) ∷ (DELETE_FILE, DeleteFile) ∷ (READ_SEQUENTIAL, ReadSequential) ∷ (WRITE_SEQUENTIAL, WriteSequential)
    ∷ (MAKE_FILE, MakeFile) ∷ (RENAME_FILE, RenameFile) ∷ (WRITE_PROTECT_DISK, ProtectDisk) ∷ (SET_FILE_ATTRIBUTES, SetAttributes)
    ∷ (READ_RANDOM, ReadRandom) ∷ (WRITE_RANDOM, WriteRandom) ∷ (COMPUTE_FILE_SIZE, FileSize) ∷ (RESET_DRIVE, ResetDrives)
    ∷ (ACCESS_DRIVE, AccessDrives) ∷ (FREE_DRIVE, FreeDrives) ∷ (WRITE_RANDOM_WITH_ZERO_FILL, WriteRandom)
    ∷ (TEST_AND_WRITE_RECORD, TestAndWrite) ∷ (LOCK_RECORD, LockRecord) ∷ (UNLOCK_RECORD, UnlockRecord) ∷ (GET_DISK_FREE_SPACE, FreeSpace)
    ∷ (FLUSH_BUFFERS, FlushBuffers) ∷ (SET_DIRECTORY_LABEL, SetLabel) ∷ (RETURN_DIRECTORY_LABEL_DATA, LabelData)
    ∷ (READ_FILE_XFCB, ReadXfcb) ∷ (WRITE_FILE_XFCB, WriteXfcb) ∷ []

unfoldable pub function_of : ℕ → Option FileFunction
function_of number = option_map (λ row. row.1) (find (λ row. row.0 == number) numbers)

abbrev pub direct_numbers : List (ℕ × DirectFunction)
direct_numbers =
    (SELECT_DISK, SelectDisk) ∷ (RETURN_LOGIN_VECTOR, LoginVector) ∷ (GET_READ_ONLY_VECTOR, ReadOnlyVector)
    ∷ (GET_DISK_PARAMETERS, DiskParameters) ∷ (SET_RANDOM_RECORD, SetRandomRecord) ∷ []

unfoldable pub direct_of : ℕ → Option DirectFunction
direct_of number = option_map (λ row. row.1) (find (λ row. row.0 == number) direct_numbers)
