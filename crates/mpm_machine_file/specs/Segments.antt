-- The memory segments of a machine file: pages of 256 bytes below C000h, of which the last is page 191.
use Rattle.std.specs.Prelude.{ℕ, ◌+◌, ◌&&◌, ◌==◌, nat_le, if◌then◌else◌, List, [], ◌∷◌, codes, Option, Some, None}
use Rattle.toml.specs.Data.{Data, Members, get_member, as_table, as_array}
use Rattle.mpm_base.specs.declared.segment.SegmentSpec.{SegmentSpec}
use Rattle.mpm_script.specs.Numbers.{◌>>=◌}
use Rattle.mpm_machine_file.specs.Fields.{only_keys, number_at, all_of, counted}

abbrev pub segment_keys : List (List ℕ)
segment_keys = codes "base" ∷ codes "pages" ∷ []

-- a base page and a number of pages, which end below C000h
unfoldable pub segment_of : Data → Option SegmentSpec
segment_of value = do
  table ← as_table value
  base ← number_at (codes "base") 0 188 table
  pages ← number_at (codes "pages") 4 192 table
  if only_keys segment_keys table && nat_le (base + pages) 192 then Some (record { base = base; pages = pages }) else None

-- how many segments a machine file of a version may have
abbrev pub most_segments : ℕ → ℕ
most_segments version = if version == 1 then 8 else 16

-- 1 segment or more
unfoldable pub segments_of : ℕ → Data → Option (List SegmentSpec)
segments_of most value = do
  items ← as_array value
  segments ← all_of segment_of items
  counted 1 most segments

-- the segments of a machine file of a version, which must be there
unfoldable pub segments_in : ℕ → Members → Option (List SegmentSpec)
segments_in version table = get_member (codes "segment") table >>= segments_of (most_segments version)
