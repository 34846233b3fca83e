-- What the reply of a call that isn't refused goes by, besides what its drive then has; and the value and the file control block of that
-- reply. (MP/M II Programmer's Guide, "BDOS Function Calls".)
use Rattle.std.specs.Prelude.{◌≡◌, ℕ, ◌+◌, ◌%◌, ◌<◌, ◌≤◌, Bool, true, false, Option, Some, None, IfSome, unwrap_or, if◌then◌else◌}
use Rattle.std.specs.FinMap.{get}
use Rattle.mpm_dirent.specs.Names.{plain}
use Rattle.mpm_dirent.specs.declared.limits.TheConstants.{LAST_POSITION}
use Rattle.mpm_file_functions.specs.declared.functions.FileFunction.{FileFunction}
use Rattle.mpm_file_functions.specs.declared.functions.FileFunction.TheVariants.{OpenFile, ReadSequential, WriteSequential, MakeFile, ReadRandom, WriteRandom, FileSize, TestAndWrite, LockRecord, LabelData, ReadXfcb}
use Rattle.mpm_mount.specs.Drives.{FileName, Drive, extents_of}
use Rattle.mpm_mount.specs.Attributes.{attributes_of}
use Rattle.mpm_fcb.specs.declared.block.ControlBlock.{ControlBlock}
use Rattle.mpm_fcb.specs.Positions.{extent_of, at_position, with_random}
use Rattle.mpm_fcb.specs.Opening.{opened}
use Rattle.mpm_mount.specs.Looking.{data_byte}
use Rattle.mpm_file_entries.specs.Protections.{no_protection, told_xfcb}
use Rattle.mpm_file_entries.specs.Sizes.{size_of}
use Rattle.mpm_file_entries.specs.Telling.{record_count}
use Rattle.mpm_file_functions.specs.declared.ends.Ended.{Ended}
use Rattle.mpm_file_entries.specs.declared.granting.OpenedAs.{OpenedAs}
use Rattle.mpm_file_entries.specs.declared.granting.Granted.{Granted}
use Rattle.mpm_file_functions.specs.Ends.{coded, does_stay}

-- the calls whose job is on records: they move on a file's position
abbrev pub is_moving : FileFunction → Bool
is_moving ReadSequential = true
is_moving WriteSequential = true
is_moving ReadRandom = true
is_moving WriteRandom = true
is_moving TestAndWrite = true
is_moving function = false

-- where something ended the records of a call, fewer are done than it names
abbrev pub FewDone : ℕ → Ended → Type 0
FewDone multi ended = IfSome ended.end (λ end. ended.moved < multi)

-- its file, whose name is the block's
abbrev pub file_in : Granted → FileName
file_in g = record { user = g.owner; name = plain g.block.name }

-- the value: of a call on records how many are done, and the code of what ended them; a label's data byte; of another call nothing
unfoldable pub value_by : Drive → Granted → FileFunction → ℕ
value_by drive g ReadSequential = coded ReadSequential g.ended.moved g.ended.end
value_by drive g WriteSequential = coded WriteSequential g.ended.moved g.ended.end
value_by drive g ReadRandom = coded ReadRandom g.ended.moved g.ended.end
value_by drive g WriteRandom = coded WriteRandom g.ended.moved g.ended.end
value_by drive g TestAndWrite = coded TestAndWrite g.ended.moved g.ended.end
value_by drive g LockRecord = coded LockRecord g.ended.moved g.ended.end
value_by drive g LabelData = data_byte drive
value_by drive g function = 0

-- the block of a file that was opened or made: the extent is that of EX alone
abbrev pub opened_block : Drive → Granted → Option OpenedAs → ControlBlock
opened_block drive g None = g.block
opened_block drive g (Some made) =
    opened g.block (attributes_of (extents_of drive (file_in g))) (record_count drive (file_in g) (g.block.ex % 32)) made.mode made.number

-- the position after a call on records: that of a sequential one goes on by the records that were moved, that of a random one
-- becomes the random record
abbrev pub position_by : FileFunction → ℕ → ℕ → ℕ
position_by ReadSequential first moved = first + moved
position_by WriteSequential first moved = first + moved
position_by function first moved = first

abbrev pub position_of : Granted → ℕ
position_of g = position_by g.function g.first g.ended.moved

-- where its block doesn't stay, the position after a call is one that a block can have
abbrev pub IsPlaced : Granted → Type 0
IsPlaced g = does_stay g.ended.moved g.ended.end ≡ false → position_of g ≤ LAST_POSITION

abbrev pub moved_block : Drive → Granted → ControlBlock
moved_block drive g =
    if does_stay g.ended.moved g.ended.end then g.block
    else (at_position g.block (position_of g) (record_count drive (file_in g) (extent_of (position_of g))))

-- the file control block
unfoldable pub block_by : Drive → Granted → FileFunction → ControlBlock
block_by drive g OpenFile = opened_block drive g g.opened
block_by drive g MakeFile = opened_block drive g g.opened
block_by drive g ReadSequential = moved_block drive g
block_by drive g WriteSequential = moved_block drive g
block_by drive g ReadRandom = moved_block drive g
block_by drive g WriteRandom = moved_block drive g
block_by drive g TestAndWrite = moved_block drive g
block_by drive g FileSize = with_random g.block (size_of (extents_of drive (file_in g)))
block_by drive g ReadXfcb = told_xfcb (unwrap_or (get drive.xfcbs (file_in g)) no_protection) g.block
block_by drive g function = g.block
