-- Bytes that are filled up to a size: records of 128 bytes, blocks of 2,048.
use Rattle.std.specs.Prelude.{ℕ, ◌+◌, ◌-◌, ◌*◌, ◌/◌, List, ◌++◌, length, replicate}

-- some bytes, and after them as many of a value as come to a size
unfoldable pub filled_to : ℕ → ℕ → List ℕ → List ℕ
filled_to size value bytes = bytes ++ replicate (size - length bytes) value

-- how many records so many bytes take, and how many blocks
abbrev pub records_for : ℕ → ℕ
records_for count = (count + 127) / 128

abbrev pub blocks_for : ℕ → ℕ
blocks_for count = (count + 2047) / 2048

-- some bytes with zeros up to a full record, and up to a full block
abbrev pub in_records : List ℕ → List ℕ
in_records bytes = filled_to (128 * records_for (length bytes)) 0 bytes

abbrev pub in_blocks : List ℕ → List ℕ
in_blocks bytes = filled_to (2048 * blocks_for (length bytes)) 0 bytes
