-- What a program says of an ending on the standard error.
use Rattle.std.specs.Prelude.{ℕ, ◌+◌, ◌%◌, List, [], ◌∷◌, ◌++◌, codes, decimal}
use Rattle.mpm_top.specs.declared.status.Status.{Status}
use Rattle.mpm_top.specs.declared.status.Status.TheVariants.{Ran, Usage, MachineFault, ScriptFault, ImageFault, TooLong, ReadFault, DiskFault, WriteFault, OutOfMemory}

-- the letter of a drive, numbered from 0 to 15
abbrev pub letter_of : ℕ → ℕ
letter_of drive = 65 + drive % 16

abbrev pub message_of : Status → List ℕ
message_of Ran = []
message_of Usage = codes "usage: mpm program FILE STEPS [--trace] or mpm run MACHINE STEPS [--trace]"
message_of MachineFault = codes "bad machine file"
message_of (ScriptFault line) = codes "bad script line " ++ decimal line
message_of (ImageFault drive cause place) = codes "bad image " ++ (letter_of drive ∷ codes ": cause " ++ (decimal cause ++ (codes " at " ++ decimal place)))
message_of (TooLong what) = codes "input too long"
message_of ReadFault = codes "cannot read"
message_of (DiskFault step) = codes "disk failed at step " ++ decimal step
message_of (WriteFault step) = codes "output failed at step " ++ decimal step
message_of OutOfMemory = codes "out of memory"
