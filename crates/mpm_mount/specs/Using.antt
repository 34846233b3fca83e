-- Which blocks are used after those of an entry are used, or freed.
use Rattle.std.specs.Prelude.{◌≡◌, ℕ, ◌+◌, ◌==◌, ◌&&◌, ◌||◌, not, Bool, false, List, length, if◌then◌else◌}
use Rattle.mpm_base.specs.declared.kind.Kind.{Kind}
use Rattle.mpm_blocks.specs.Geometries.{last_block}
use Rattle.mpm_blocks.specs.Maps.{Blocks, is_used, claimed, freed}
use Rattle.mpm_dirent.specs.declared.kinds.Entry.{Entry}
use Rattle.mpm_dirent.specs.declared.kinds.Entry.TheVariants.{Free, File, Xfcb, Label, Kept}
use Rattle.mpm_dirent.specs.declared.kinds.FileEntry.{FileEntry}
use Rattle.mpm_mount.specs.Faults.{block_at, has_at, holds, is_outside, some_place}
use Rattle.mpm_mount.specs.Directories.{used_blocks}

-- the map says which blocks these entries use
pub record IsUsedBy (kind : Kind) (entries : List Entry) (blocks : Blocks) : Type 0 where
  pub of_kind : blocks.kind ≡ kind
  pub used : blocks.used ≡ used_blocks kind entries

-- an entry has no number of a block that files don't have
abbrev pub IsInsideBlocks : Kind → Entry → Type 0
IsInsideBlocks kind (File f) = some_place kind (is_outside kind f) ≡ false
IsInsideBlocks kind Free = Unit {0}
IsInsideBlocks kind (Xfcb x) = Unit {0}
IsInsideBlocks kind (Label l) = Unit {0}
IsInsideBlocks kind (Kept bytes) = Unit {0}

-- a map is of the kind's blocks, and has each block of an entry
pub record HasBlocks (kind : Kind) (entry : Entry) (blocks : Blocks) : Type 0 where
  pub of_kind : blocks.kind ≡ kind
  pub size : length blocks.used ≡ last_block kind + 1
  pub inside : IsInsideBlocks kind entry

-- a block among the first of an entry; number 0 is none
abbrev pub is_among : FileEntry → ℕ → ℕ → Bool
is_among f count block = not (block == 0) && has_at f count block

abbrev pub is_of : Kind → Entry → ℕ → Bool
is_of kind entry block = not (block == 0) && holds kind block entry

-- the map has its size and kind, and says of each block
pub record LeavesBlocks (change : Bool → ℕ → Bool) (before now : Blocks) : Type 0 where
  pub kind : now.kind ≡ before.kind
  pub size : length now.used ≡ length before.used
  pub used : (block : ℕ) → is_used now block ≡ change (is_used before block) block

-- an entry's blocks are used too
abbrev pub ClaimsTo : FileEntry → ℕ → Blocks → Blocks → Type 0
ClaimsTo f count = LeavesBlocks (λ was block. was || is_among f count block)

abbrev pub Claims : Kind → Entry → Blocks → Blocks → Type 0
Claims kind entry = LeavesBlocks (λ was block. was || is_of kind entry block)

-- an entry's blocks are free
abbrev pub FreesTo : FileEntry → ℕ → Blocks → Blocks → Type 0
FreesTo f count = LeavesBlocks (λ was block. was && not (is_among f count block))

abbrev pub Frees : Kind → Entry → Blocks → Blocks → Type 0
Frees kind entry = LeavesBlocks (λ was block. was && not (is_of kind entry block))

-- a block of an entry was used, or stands before in that entry
abbrev pub clashes : Blocks → FileEntry → ℕ → Bool
clashes blocks f i = not (block_at f i == 0) && (is_used blocks (block_at f i) || has_at f i (block_at f i))

-- one number's block is used, or freed; number 0 is none
abbrev pub claimed_unless_zero : Blocks → ℕ → Blocks
claimed_unless_zero blocks block = if block == 0 then blocks else claimed blocks block

abbrev pub freed_unless_zero : Blocks → ℕ → Blocks
freed_unless_zero blocks block = if block == 0 then blocks else freed blocks block
