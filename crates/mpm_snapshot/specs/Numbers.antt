-- How the program ends: its exit status, and what it says on the standard error.
use Rattle.std.specs.Prelude.{ℕ, List, [], ◌++◌, codes, decimal}
use Rattle.mpm_top.specs.Messages as run
use Rattle.mpm_snapshot.specs.declared.status.SnapStatus.{SnapStatus}
use Rattle.mpm_snapshot.specs.declared.status.SnapStatus.TheVariants.{Done, Usage, MachineFault, ScriptFault, ImageFault, TooLong, ReadFault, DiskFault, WriteFault, OutOfMemory, NoProcess, CoreFault}
use Rattle.mpm_snapshot.specs.Endings.{run_of}

abbrev pub number_of : SnapStatus → ℕ
number_of Done = 0
number_of Usage = 1
number_of MachineFault = 2
number_of (ScriptFault line) = 3
number_of (ImageFault drive cause place) = 4
number_of (TooLong what) = 5
number_of ReadFault = 6
number_of (DiskFault step) = 7
number_of WriteFault = 8
number_of OutOfMemory = 9
number_of NoProcess = 10
number_of (CoreFault place) = 11

-- what its run of a machine can end with too is said as `mpm` says it
abbrev pub message_of : SnapStatus → List ℕ
message_of Done = []
message_of Usage = codes "usage: mpm_snapshot save program FILE STEPS PID or mpm_snapshot save run MACHINE STEPS PID or mpm_snapshot resume CORE M"
message_of MachineFault = run.message_of (run_of MachineFault)
message_of (ScriptFault line) = run.message_of (run_of (ScriptFault line))
message_of (ImageFault drive cause place) = run.message_of (run_of (ImageFault drive cause place))
message_of (TooLong what) = run.message_of (run_of (TooLong what))
message_of ReadFault = run.message_of (run_of ReadFault)
message_of (DiskFault step) = run.message_of (run_of (DiskFault step))
message_of WriteFault = codes "output failed"
message_of OutOfMemory = run.message_of (run_of OutOfMemory)
message_of NoProcess = codes "no process"
message_of (CoreFault place) = codes "bad core at " ++ decimal place
