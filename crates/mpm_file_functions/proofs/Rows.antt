-- The rows of the table of refusals are in one order.
use Rattle.std.proofs.Common.{◌++◌, refl, ◌≡◌, true}
use Rattle.mpm_file_functions.specs.declared.functions.FileFunction.{FileFunction}
use Rattle.mpm_file_functions.specs.declared.functions.FileFunction.TheVariants.{ResetDisks, OpenFile, CloseFile, SearchFirst, SearchNext, DeleteFile, ReadSequential, WriteSequential, MakeFile, RenameFile, ProtectDisk, SetAttributes, ReadRandom, WriteRandom, FileSize, ResetDrives, AccessDrives, FreeDrives, TestAndWrite, LockRecord, UnlockRecord, FreeSpace, FlushBuffers, SetLabel, LabelData, ReadXfcb, WriteXfcb}
use Rattle.mpm_file_functions.specs.Refusals.{refusals_of, refusals_of_each}
use Rattle.mpm_file_functions.specs.Order.{is_rising}

-- refusals are asked in one order, whatever the call
pub in_order : (function : FileFunction) → is_rising (refusals_of function ++ refusals_of_each function) ≡ true
unfolding refusals_of refusals_of_each
in_order ResetDisks = refl
in_order OpenFile = refl
in_order CloseFile = refl
in_order SearchFirst = refl
in_order SearchNext = refl
in_order DeleteFile = refl
in_order ReadSequential = refl
in_order WriteSequential = refl
in_order MakeFile = refl
in_order RenameFile = refl
in_order ProtectDisk = refl
in_order SetAttributes = refl
in_order ReadRandom = refl
in_order WriteRandom = refl
in_order FileSize = refl
in_order ResetDrives = refl
in_order AccessDrives = refl
in_order FreeDrives = refl
in_order TestAndWrite = refl
in_order LockRecord = refl
in_order UnlockRecord = refl
in_order FreeSpace = refl
in_order FlushBuffers = refl
in_order SetLabel = refl
in_order LabelData = refl
in_order ReadXfcb = refl
in_order WriteXfcb = refl
