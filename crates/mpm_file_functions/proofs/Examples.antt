-- The numbers of the functions on files and drives, as the guide has them.
use Rattle.std.proofs.Common.{refl}
use Rattle.std.specs.Prelude.{◌≡◌, ℕ, List, [], ◌∷◌, Some, is_some, map, filter}
use Rattle.std.specs.List.{range_with_len}
use Rattle.mpm_file_functions.specs.declared.functions.FileFunction.TheVariants.{ResetDisks, OpenFile, CloseFile, SearchFirst, SearchNext, DeleteFile, ReadSequential, WriteSequential, MakeFile, RenameFile, ProtectDisk, SetAttributes, ReadRandom, WriteRandom, FileSize, ResetDrives, AccessDrives, FreeDrives, TestAndWrite, LockRecord, UnlockRecord, FreeSpace, FlushBuffers, SetLabel, LabelData, ReadXfcb, WriteXfcb}
use Rattle.mpm_file_functions.specs.declared.functions.DirectFunction.TheVariants.{SelectDisk, LoginVector, ReadOnlyVector, DiskParameters, SetRandomRecord}
use Rattle.mpm_file_functions.specs.Functions.{function_of, direct_of}

-- those that the disk serves, and no others; 40 is 34
abbrev numbers_served : List ℕ
numbers_served =
    13 ∷ 15 ∷ 16 ∷ 17 ∷ 18 ∷ 19 ∷ 20 ∷ 21 ∷ 22 ∷ 23 ∷ 28 ∷ 30 ∷ 33 ∷ 34 ∷ 35 ∷ 37 ∷ 38 ∷ 39 ∷ 40 ∷ 41 ∷ 42 ∷ 43 ∷ 46 ∷ 48 ∷ 100 ∷ 101
    ∷ 102 ∷ 103 ∷ []

pub functions_served : map function_of numbers_served
    ≡ map Some
    (ResetDisks ∷ OpenFile ∷ CloseFile ∷ SearchFirst ∷ SearchNext ∷ DeleteFile ∷ ReadSequential ∷ WriteSequential ∷ MakeFile ∷ RenameFile
    ∷ ProtectDisk ∷ SetAttributes ∷ ReadRandom ∷ WriteRandom ∷ FileSize ∷ ResetDrives ∷ AccessDrives ∷ FreeDrives ∷ WriteRandom ∷ TestAndWrite
    ∷ LockRecord ∷ UnlockRecord ∷ FreeSpace ∷ FlushBuffers ∷ SetLabel ∷ LabelData ∷ ReadXfcb ∷ WriteXfcb ∷ [])
unfolding function_of
functions_served = refl

pub no_others_served : filter (λ number. is_some (function_of number)) (range_with_len 0 256) ≡ numbers_served
unfolding function_of
no_others_served = refl

-- and those that no disk serves
abbrev numbers_direct : List ℕ
numbers_direct = 14 ∷ 24 ∷ 29 ∷ 31 ∷ 36 ∷ []

pub functions_direct : map direct_of numbers_direct ≡ map Some (SelectDisk ∷ LoginVector ∷ ReadOnlyVector ∷ DiskParameters ∷ SetRandomRecord ∷ [])
unfolding direct_of
functions_direct = refl

pub no_others_direct : filter (λ number. is_some (direct_of number)) (range_with_len 0 256) ≡ numbers_direct
unfolding direct_of
no_others_direct = refl
