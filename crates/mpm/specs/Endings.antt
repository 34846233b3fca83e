-- The exit status of the program.
use Rattle.std.specs.Prelude.{ℕ}
use Rattle.mpm_top.specs.declared.status.Status.{Status}
use Rattle.mpm_top.specs.declared.status.Status.TheVariants.{Ran, Usage, MachineFault, ScriptFault, ImageFault, TooLong, ReadFault, DiskFault, WriteFault, OutOfMemory}

abbrev pub number_of : Status → ℕ
number_of Ran = 0
number_of Usage = 1
number_of MachineFault = 2
number_of (ScriptFault line) = 3
number_of (ImageFault drive cause place) = 4
number_of (TooLong what) = 5
number_of ReadFault = 6
number_of (DiskFault step) = 7
number_of (WriteFault step) = 8
number_of OutOfMemory = 9
