-- The order in which refusals are asked, whatever the call.
use Rattle.std.specs.Prelude.{ℕ, ◌&&◌, Bool, true, List, [], ◌∷◌, nat_lt}
use Rattle.mpm_file_functions.specs.declared.refusals.Refusal.{Refusal}
use Rattle.mpm_file_functions.specs.declared.refusals.Refusal.TheVariants.{NotMounted, Ambiguous, NotOpen, NotOpenToLock, BeyondFile, NotFound, ProtectedDrive, ReadOnlyFile, FileExists, WrongPassword, InUse, FileLimit, ListFull, DirectoryFull, Busy}

abbrev pub rank : Refusal → ℕ
rank NotMounted = 1
rank Ambiguous = 2
rank NotOpen = 3
rank NotOpenToLock = 4
rank BeyondFile = 5
rank NotFound = 6
rank ProtectedDrive = 7
rank ReadOnlyFile = 8
rank FileExists = 9
rank WrongPassword = 10
rank InUse = 11
rank FileLimit = 12
rank ListFull = 13
rank DirectoryFull = 14
rank Busy = 15

-- each of some refusals ranks above those before it
abbrev pub is_rising : List Refusal → Bool
is_rising [] = true
is_rising (refusal ∷ []) = true
is_rising (refusal ∷ (next ∷ refusals)) = nat_lt (rank refusal) (rank next) && is_rising (next ∷ refusals)
