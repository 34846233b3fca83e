-- What ends the records of a call: one table by function, and how each end is answered. (MP/M II Programmer's Guide, functions 20,
-- 21, 33, 34, 40, 41 and 42.) The records that function 42 locks go by the table. Those of the others go by the plan of their job
-- (mpm_files, Plans.antt) and by the locks of others (mpm_bdos, Replies.antt): laws say that they end as the table has it.
use Rattle.std.specs.Prelude.{ℕ, ◌+◌, ◌*◌, ◌/◌, ◌==◌, ◌&&◌, Bool, List, [], ◌∷◌, Option, Some, None, is_some, if◌then◌else◌}
use Rattle.mpm_file_functions.specs.declared.errors.RecordError.{RecordError}
use Rattle.mpm_file_functions.specs.declared.errors.RecordError.TheVariants.{UnwrittenExtent, UnwrittenData, Mismatch, NoDirectorySpace, NoDataBlock}
use Rattle.mpm_file_functions.specs.declared.ends.RecordEnd.{RecordEnd}
use Rattle.mpm_file_functions.specs.declared.ends.RecordEnd.TheVariants.{Failing, LockedOff, TooManyLocks, NoLockRoom}
use Rattle.mpm_file_functions.specs.declared.functions.FileFunction.{FileFunction}
use Rattle.mpm_file_functions.specs.declared.functions.FileFunction.TheVariants.{ReadSequential, WriteSequential, ReadRandom, WriteRandom, TestAndWrite, LockRecord}

-- the table
unfoldable pub ends_of : FileFunction → List RecordEnd
ends_of ReadSequential = Failing UnwrittenExtent ∷ Failing UnwrittenData ∷ []
ends_of ReadRandom = Failing UnwrittenExtent ∷ Failing UnwrittenData ∷ []
ends_of WriteSequential = LockedOff ∷ Failing NoDirectorySpace ∷ Failing NoDataBlock ∷ []
ends_of WriteRandom = LockedOff ∷ Failing NoDirectorySpace ∷ Failing NoDataBlock ∷ []
ends_of TestAndWrite = Failing UnwrittenExtent ∷ Failing UnwrittenData ∷ LockedOff ∷ Failing Mismatch ∷ []
ends_of LockRecord = Failing UnwrittenExtent ∷ Failing UnwrittenData ∷ LockedOff ∷ TooManyLocks ∷ NoLockRoom ∷ []
ends_of function = []

-- the codes: function 20 has one for all that isn't there, and a full directory has another in function 21 than in 34
abbrev pub no_extent_code : FileFunction → ℕ
no_extent_code ReadSequential = 1
no_extent_code function = 4

abbrev pub no_space_code : FileFunction → ℕ
no_space_code WriteRandom = 5
no_space_code function = 1

abbrev pub error_code_of : FileFunction → RecordError → ℕ
error_code_of function UnwrittenExtent = no_extent_code function
error_code_of function UnwrittenData = 1
error_code_of function NoDirectorySpace = no_space_code function
error_code_of function NoDataBlock = 2
error_code_of function Mismatch = 7

abbrev pub code_of : FileFunction → RecordEnd → ℕ
code_of function (Failing error) = error_code_of function error
code_of function LockedOff = 8
code_of function TooManyLocks = 12
code_of function NoLockRoom = 14

-- why the records of a call end: what ended its job, or the lock of another process before which it was cut
abbrev pub end_by : Option RecordError → Bool → Option RecordEnd
end_by (Some error) cut = Some (Failing error)
end_by None cut = if cut then Some LockedOff else None

-- what a record answers: the records that are done and a code, in four and twelve bits; 0 where all are done
abbrev pub coded : FileFunction → ℕ → Option RecordEnd → ℕ
coded function moved None = 0
coded function moved (Some end) = 4096 * moved + code_of function end

-- so many of the records of a call are done by such a value
abbrev pub done_by : ℕ → ℕ → ℕ
done_by multi value = if value == 0 then multi else (value / 4096)

-- it stays where no record was moved and something ended the call
abbrev pub does_stay : ℕ → Option RecordEnd → Bool
does_stay moved end = (moved == 0) && is_some end
