-- Where in a file a control block stands. (MP/M II Programmer's Guide, "File Control Block Definition", "Function 33: Read
-- Random", "Function 35: Compute File Size", "Function 36: Set Random Record".)
use Rattle.std.specs.Prelude.{ℕ, ◌+◌, ◌-◌, ◌*◌, ◌/◌, ◌%◌, min, Bool, List, [], ◌∷◌, nat_lt, slice_index}
use Rattle.mpm_dirent.specs.declared.limits.TheConstants.{LAST_EXTENT, LAST_RECORD}
use Rattle.mpm_fcb.specs.declared.block.ControlBlock.{ControlBlock}

-- the sequential position: record CR of the extent that EX and S2 number, by five and six of their bits
abbrev pub sequential_record : ControlBlock → ℕ
sequential_record b = 128 * (32 * (b.s2 % 64) + b.ex % 32) + b.cr

-- the random record: R0, R1 and R2, the low byte first
abbrev pub random_record : ControlBlock → ℕ
random_record b = slice_index b.random 0 + 256 * slice_index b.random 1 + 65536 * slice_index b.random 2

-- some records from one on go beyond the last that a file can have
abbrev pub are_beyond : ℕ → ℕ → Bool
are_beyond first count = nat_lt (LAST_RECORD + 1) (first + count)

-- the extent of a position: the last one where it is beyond it
abbrev pub extent_of : ℕ → ℕ
extent_of position = min LAST_EXTENT (position / 128)

-- a block at a position, whose extent has so many records: EX, S2 and CR are whole bytes of it, and RC is the count
unfoldable pub at_position : ControlBlock → ℕ → ℕ → ControlBlock
at_position b position count = record b {
  ex = extent_of position % 32;
  s2 = extent_of position / 32;
  rc = count;
  cr = position - 128 * extent_of position;
}

-- the three bytes of a number of records, the low one first
abbrev pub three_bytes : ℕ → List ℕ
three_bytes n = n % 256 ∷ n / 256 % 256 ∷ n / 65536 % 256 ∷ []

-- a block whose random record is another
abbrev pub with_random : ControlBlock → ℕ → ControlBlock
with_random b n = record b { random = three_bytes n }
