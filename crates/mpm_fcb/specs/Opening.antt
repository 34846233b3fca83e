-- What a control block asks of an opening, what an opening puts into it, and which open file it then names. (MP/M II
-- Programmer's Guide, "Function 15: Open File", "Function 22: Make File", "Function 102: Read File XFCB".)
use Rattle.std.specs.Prelude.{ℕ, ◌+◌, ◌-◌, ◌==◌, ◌||◌, Bool, false, List, [], ◌∷◌, ◌++◌, Option, Some, None, take, drop, replicate, nat_lt, slice_index, bytes_eq, if◌then◌else◌}
use Rattle.mpm_dirent.specs.Entries.{part}
use Rattle.mpm_opens.specs.declared.kinds.Mode.{Mode}
use Rattle.mpm_opens.specs.declared.kinds.Mode.TheVariants.{Locked, Unlocked, ReadOnly}
use Rattle.mpm_fcb.specs.declared.block.ControlBlock.{ControlBlock}
use Rattle.mpm_fcb.specs.declared.opening.TheConstants.{LAST_NUMBER}
use Rattle.mpm_fcb.specs.Names.{has_f5, has_f6, with_attributes}

-- the mode in which a file is to be opened, by F6' and then by F5'; a file that is made is never opened in read-only mode
abbrev pub made_mode : ControlBlock → Mode
made_mode b = if has_f5 b then Unlocked else Locked

abbrev pub open_mode : ControlBlock → Mode
open_mode b = if has_f6 b then ReadOnly else (made_mode b)

-- the handle of an open file: its number and 1, and zeros
abbrev pub handle_of : ℕ → List ℕ
handle_of item = (item + 1) ∷ replicate 15 0

-- the open file that a number with 1 added names, where so many can be open
abbrev pub item_numbered : ℕ → Option ℕ
item_numbered number = if number == 0 || nat_lt LAST_NUMBER number then None else (Some (number - 1))

-- the open file of a block's handle, which has nothing but zeros after its number
unfoldable pub item_of : ControlBlock → Option ℕ
item_of b = if bytes_eq (drop 1 b.map) (replicate 15 0) then item_numbered (slice_index b.map 0) else None

-- a file's attributes as an opening puts them: without F5' and F6'
abbrev pub without_f5_f6 : List Bool → List Bool
without_f5_f6 attributes = take 4 attributes ++ (false ∷ false ∷ drop 6 attributes)

-- in unlocked mode the random record names the open file too
abbrev pub with_id : Mode → ℕ → ControlBlock → ControlBlock
with_id Unlocked item b = record b { random = (item + 1) ∷ 0 ∷ slice_index b.random 2 ∷ [] }
with_id Locked item b = b
with_id ReadOnly item b = b

-- the block of a file that was opened or made: its attributes, the record count of the block's extent, and the number of the open
-- file
unfoldable pub opened : ControlBlock → List Bool → ℕ → Mode → ℕ → ControlBlock
opened b attributes count mode item =
    with_id mode item
    (record b { name = with_attributes b.name (without_f5_f6 attributes); s1 = 0; s2 = 0; rc = count; map = handle_of item })

-- a block that tells of an XFCB: its mode and its two stamps
unfoldable pub with_xfcb : ControlBlock → ℕ → List ℕ → List ℕ → ControlBlock
with_xfcb b mode first second = record b { ex = mode; map = part 0 8 b.map ++ (first ++ second) }
