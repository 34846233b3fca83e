-- A block that is claimed or freed: what is free then, and how many are.
use Rattle.std.proofs.Common.{◌≡◌, ◌≢◌, ℕ, ◌+◌, ◌<◌, Bool, true, false, not, cond, List, Some, length, ap, ◌∙◌, arith, sym}
use Rattle.std.specs.Prelude.{slice_set}
use Rattle.std.proofs.lemmas.Bool.{not-true, not-false}
use Rattle.std.proofs.lemmas.List.{get_or-set_same, get_or-set_other, set-get_or}
use Rattle.std.proofs.lemmas.List.Quantifiers.{position-Some}
use Rattle.std.proofs.lemmas.List.Sums.{sum_by-set}
use Rattle.mpm_blocks.specs.Maps.{Blocks, is_used, least_of, free_count, claimed, freed}

pub claimed_is_used : (blocks : Blocks) (block : ℕ) → block < length blocks.used → is_used (claimed blocks block) block ≡ true
claimed_is_used blocks block h = get_or-set_same blocks.used block true true h

pub freed_is_free : (blocks : Blocks) (block : ℕ) → block < length blocks.used → is_used (freed blocks block) block ≡ false
freed_is_free blocks block h = get_or-set_same blocks.used block false true h

pub claimed_keeps_others : (blocks : Blocks) (block other : ℕ) → other ≢ block → is_used (claimed blocks block) other ≡ is_used blocks other
claimed_keeps_others blocks block other apart = get_or-set_other blocks.used block other true true apart

pub freed_keeps_others : (blocks : Blocks) (block other : ℕ) → other ≢ block → is_used (freed blocks block) other ≡ is_used blocks other
freed_keeps_others blocks block other apart = get_or-set_other blocks.used block other false true apart

-- a used block that is claimed, and a free one that is freed, change nothing
pub claimed_again : (blocks : Blocks) (block : ℕ) → is_used blocks block ≡ true → claimed blocks block ≡ blocks
claimed_again blocks block was =
    ap (λ (used : List Bool). record blocks { used = used }) (ap (slice_set blocks.used block) (sym was) ∙ set-get_or blocks.used block true)

pub freed_again : (blocks : Blocks) (block : ℕ) → is_used blocks block ≡ false → freed blocks block ≡ blocks
freed_again blocks block was =
    ap (λ (used : List Bool). record blocks { used = used }) (ap (slice_set blocks.used block) (sym was) ∙ set-get_or blocks.used block true)

-- what a place adds to the count
abbrev free_bit : Bool → ℕ
free_bit used = cond (not used) 1 0

-- a free block that is claimed leaves one less
pub claimed_count : (blocks : Blocks) (block : ℕ) → block < length blocks.used → is_used blocks block ≡ false → free_count (claimed blocks block) + 1 ≡ free_count blocks
claimed_count blocks block h was_free =
    omega (arith, sum_by-set free_bit blocks.used block true true h, ap free_bit was_free)

-- a used block that is freed leaves one more
pub freed_count : (blocks : Blocks) (block : ℕ) → block < length blocks.used → is_used blocks block ≡ true → free_count (freed blocks block) ≡ free_count blocks + 1
freed_count blocks block h was_used =
    omega (arith, sum_by-set free_bit blocks.used block false true h, ap free_bit was_used)

-- the lowest free block is one of the disk's
pub least_within : (blocks : Blocks) (block : ℕ) → least_of blocks ≡ Some block → block < length blocks.used
least_within blocks block found = (position-Some not blocks.used block true found).0

-- it is free, and each block below it is used
pub least_is_free : (blocks : Blocks) (block : ℕ) → least_of blocks ≡ Some block → is_used blocks block ≡ false
least_is_free blocks block found = not-true (is_used blocks block) ((position-Some not blocks.used block true found).1)

pub below_least : (blocks : Blocks) (block other : ℕ) → least_of blocks ≡ Some block → other < block → is_used blocks other ≡ true
below_least blocks block other found below = not-false (is_used blocks other) ((position-Some not blocks.used block true found).2 other below)
