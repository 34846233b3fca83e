-- Which blocks of a disk are used.
use Rattle.std.specs.Prelude.{ℕ, ◌+◌, Bool, true, false, not, List, Option, map, nat_lt, slice_index_or, slice_set, count_by, position}
use Rattle.std.specs.List.{range_with_len}
use Rattle.mpm_base.specs.declared.kind.Kind.{Kind}
use Rattle.mpm_blocks.specs.Geometries.{geometry_of, last_block}

-- a disk's kind, and whether each of its blocks is used, from block 0 to the last
pub record Blocks : Type 0 where
  pub kind : Kind
  pub used : List Bool

-- for each of some blocks whether it is below a bound
unfoldable pub used_to : ℕ → ℕ → List Bool
used_to bound count = map (λ block. nat_lt block bound) (range_with_len 0 count)

-- the map of an empty disk: the directory's blocks are used, and no other
abbrev pub new_map : Kind → Blocks
new_map kind = record { kind = kind; used = used_to (geometry_of kind).directory_blocks (last_block kind + 1) }

-- whether a block is used
abbrev pub is_used : Blocks → ℕ → Bool
is_used blocks block = slice_index_or blocks.used block true

-- the lowest free block
abbrev pub least_of : Blocks → Option ℕ
least_of blocks = position not blocks.used

-- how many blocks are free
abbrev pub free_count : Blocks → ℕ
free_count blocks = count_by not blocks.used

-- one more block is used
abbrev pub claimed : Blocks → ℕ → Blocks
claimed blocks block = record blocks { used = slice_set blocks.used block true }

-- a block is free again
abbrev pub freed : Blocks → ℕ → Blocks
freed blocks block = record blocks { used = slice_set blocks.used block false }
