-- What a file call is refused for: one table by function, and how each refusal is answered. (MP/M II Programmer's Guide, "BDOS Error
-- Handling", and the functions.)
use Rattle.std.specs.Prelude.{List, [], ◌∷◌, ℕ, ◌+◌, ◌*◌, Option, Some, None}
use Rattle.mpm_file_functions.specs.declared.answers.Answered.{Answered}
use Rattle.mpm_file_functions.specs.declared.answers.Answered.TheVariants.{AsExtended, AsRecord, AsNotFound}
use Rattle.mpm_file_functions.specs.declared.functions.FileFunction.{FileFunction}
use Rattle.mpm_file_functions.specs.declared.functions.FileFunction.TheVariants.{ResetDisks, OpenFile, CloseFile, SearchFirst, SearchNext, DeleteFile, ReadSequential, WriteSequential, MakeFile, RenameFile, ProtectDisk, SetAttributes, ReadRandom, WriteRandom, FileSize, ResetDrives, AccessDrives, FreeDrives, TestAndWrite, LockRecord, UnlockRecord, FreeSpace, FlushBuffers, SetLabel, LabelData, ReadXfcb, WriteXfcb}
use Rattle.mpm_file_functions.specs.declared.refusals.Refusal.{Refusal}
use Rattle.mpm_file_functions.specs.declared.refusals.Refusal.TheVariants.{NotMounted, Ambiguous, NotOpen, NotOpenToLock, BeyondFile, NotFound, ProtectedDrive, ReadOnlyFile, FileExists, WrongPassword, InUse, FileLimit, ListFull, DirectoryFull, Busy}
use Rattle.mpm_file_functions.specs.declared.refusals.Extended.{Extended}

-- the table: the refusals of a call
unfoldable pub refusals_of : FileFunction → List Refusal
refusals_of ResetDisks = Busy ∷ []
refusals_of OpenFile = NotMounted ∷ Ambiguous ∷ NotFound ∷ WrongPassword ∷ InUse ∷ FileLimit ∷ ListFull ∷ []
refusals_of CloseFile = NotMounted ∷ NotFound ∷ []
refusals_of SearchFirst = NotMounted ∷ NotFound ∷ []
refusals_of SearchNext = NotMounted ∷ NotFound ∷ []
refusals_of DeleteFile = NotMounted ∷ NotFound ∷ ProtectedDrive ∷ []
refusals_of ReadSequential = NotMounted ∷ NotOpen ∷ []
refusals_of WriteSequential = NotMounted ∷ NotOpen ∷ BeyondFile ∷ ProtectedDrive ∷ ReadOnlyFile ∷ []
refusals_of MakeFile = NotMounted ∷ Ambiguous ∷ ProtectedDrive ∷ FileExists ∷ FileLimit ∷ ListFull ∷ DirectoryFull ∷ []
refusals_of RenameFile = NotMounted ∷ Ambiguous ∷ NotFound ∷ ProtectedDrive ∷ ReadOnlyFile ∷ FileExists ∷ WrongPassword ∷ InUse ∷ []
refusals_of ProtectDisk = Busy ∷ []
refusals_of SetAttributes = NotMounted ∷ Ambiguous ∷ NotFound ∷ ProtectedDrive ∷ WrongPassword ∷ InUse ∷ []
refusals_of ReadRandom = NotMounted ∷ NotOpen ∷ BeyondFile ∷ []
refusals_of WriteRandom = NotMounted ∷ NotOpen ∷ BeyondFile ∷ ProtectedDrive ∷ ReadOnlyFile ∷ []
refusals_of FileSize = NotMounted ∷ Ambiguous ∷ NotFound ∷ []
refusals_of ResetDrives = Busy ∷ []
refusals_of AccessDrives = []
refusals_of FreeDrives = []
refusals_of TestAndWrite = NotMounted ∷ NotOpen ∷ BeyondFile ∷ ProtectedDrive ∷ ReadOnlyFile ∷ []
refusals_of LockRecord = NotMounted ∷ NotOpenToLock ∷ BeyondFile ∷ []
refusals_of UnlockRecord = NotMounted ∷ NotOpenToLock ∷ BeyondFile ∷ []
refusals_of FreeSpace = NotMounted ∷ []
refusals_of FlushBuffers = []
refusals_of SetLabel = NotMounted ∷ ProtectedDrive ∷ WrongPassword ∷ DirectoryFull ∷ []
refusals_of LabelData = NotMounted ∷ []
refusals_of ReadXfcb = NotMounted ∷ Ambiguous ∷ NotFound ∷ []
refusals_of WriteXfcb = NotMounted ∷ Ambiguous ∷ NotFound ∷ ProtectedDrive ∷ WrongPassword ∷ InUse ∷ DirectoryFull ∷ []

-- and after them those of each file that it names, file by file
unfoldable pub refusals_of_each : FileFunction → List Refusal
refusals_of_each DeleteFile = ReadOnlyFile ∷ WrongPassword ∷ InUse ∷ []
refusals_of_each function = []

-- how one is answered
abbrev pub answered : Refusal → Answered
answered NotMounted = AsExtended 4
answered Ambiguous = AsExtended 9
answered NotOpen = AsRecord 10
answered NotOpenToLock = AsRecord 13
answered BeyondFile = AsRecord 6
answered NotFound = AsNotFound
answered ProtectedDrive = AsExtended 2
answered ReadOnlyFile = AsExtended 3
answered FileExists = AsExtended 8
answered WrongPassword = AsExtended 7
answered InUse = AsExtended 5
answered FileLimit = AsExtended 10
answered ListFull = AsExtended 11
answered DirectoryFull = AsNotFound
answered Busy = AsNotFound

-- what a refused call answers in HL: 255 in L, with the code of its extended error in H; or a record call's own code in L
abbrev pub refused_value : Answered → ℕ
refused_value (AsExtended code) = 256 * code + 255
refused_value (AsRecord code) = code
refused_value AsNotFound = 255

abbrev pub refused_extended : ℕ → Answered → Option Extended
refused_extended drive (AsExtended code) = Some (record { code = code; drive = drive })
refused_extended drive (AsRecord code) = None
refused_extended drive AsNotFound = None
