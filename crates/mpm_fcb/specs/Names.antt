-- Which file a control block names, and the attributes of its name. (MP/M II Programmer's Guide, "File Control Block
-- Definition", "File Attributes", "Function 23: Rename File".)
use Rattle.std.specs.Prelude.{ℕ, ◌+◌, ◌-◌, ◌%◌, ◌==◌, Bool, false, List, nat_le, map, slice_index, slice_index_or, if◌then◌else◌}
use Rattle.std.specs.List.{list_any, range_with_len}
use Rattle.mpm_dirent.specs.Entries.{part}
use Rattle.mpm_fcb.specs.declared.block.ControlBlock.{ControlBlock}

-- the drive, from 0: that of the process where the block has 0
abbrev pub drive_of : ℕ → ControlBlock → ℕ
drive_of own b = if b.drive == 0 then own else b.drive - 1

-- the name that a renaming gives, after the byte of a second drive
abbrev pub new_name_of : ControlBlock → List ℕ
new_name_of b = part 1 11 b.map

-- a `?` in a name or type
unfoldable pub is_ambiguous : List ℕ → Bool
is_ambiguous name = list_any (λ byte. byte % 128 == 63) name

-- the attributes F5' and F6': bit 7 of the fifth and the sixth byte of the name
abbrev pub has_f5 : ControlBlock → Bool
has_f5 b = nat_le 128 (slice_index b.name 4)

abbrev pub has_f6 : ControlBlock → Bool
has_f6 b = nat_le 128 (slice_index b.name 5)

-- a name with these attributes in place of its own
abbrev pub with_attribute : ℕ → Bool → ℕ
with_attribute byte attribute = byte % 128 + (if attribute then 128 else 0)

abbrev pub attributed_at : List ℕ → List Bool → ℕ → ℕ
attributed_at name attributes place = with_attribute (slice_index name place) (slice_index_or attributes place false)

unfoldable pub with_attributes : List ℕ → List Bool → List ℕ
with_attributes name attributes = map (attributed_at name attributes) (range_with_len 0 11)
