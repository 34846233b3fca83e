-- How the program ends: its exit status, and what it says on the standard error.
use Rattle.std.specs.Prelude.{ℕ, List, [], ◌++◌, codes, decimal}
use Rattle.mpm_fsck.specs.declared.status.FsckStatus.{FsckStatus}
use Rattle.mpm_fsck.specs.declared.status.FsckStatus.TheVariants.{Done, Usage, Unsound, WrongSize, BadList, NotEnough, ReadFault, DiskFault, WriteFault, OutOfMemory, TooLong}

abbrev pub number_of : FsckStatus → ℕ
number_of Done = 0
number_of Usage = 1
number_of (Unsound count) = 2
number_of WrongSize = 3
number_of (BadList line) = 4
number_of (NotEnough slot cause) = 5
number_of ReadFault = 6
number_of DiskFault = 7
number_of WriteFault = 8
number_of OutOfMemory = 9
number_of TooLong = 10

abbrev pub message_of : FsckStatus → List ℕ
message_of Done = []
message_of Usage = codes "usage: mpm_fsck check KIND IMAGE or mpm_fsck apply KIND IMAGE LIST"
message_of (Unsound count) = []
message_of WrongSize = codes "wrong size"
message_of (BadList line) = codes "bad list line " ++ decimal line
message_of (NotEnough slot cause) = codes "not enough: cause " ++ (decimal cause ++ (codes " at " ++ decimal slot))
message_of ReadFault = codes "cannot read"
message_of DiskFault = codes "disk failed"
message_of WriteFault = codes "output failed"
message_of OutOfMemory = codes "out of memory"
message_of TooLong = codes "list too long"
