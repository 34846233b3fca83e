-- Entries of which slots are freed, and the slots of marks and of a list.
use Rattle.std.proofs.Common.{◌≡◌, ℕ, zero, suc, ◌+◌, ◌<◌, ◌≤◌, Bool, true, false, List, [], ◌∷◌, cond, length, refl, ◌∙◌, arith}
use Rattle.std.specs.Prelude.{slice_set, slice_index_or}
use Rattle.std.specs.List.{All, range_with_len, filter}
use Rattle.std.proofs.lemmas.List.{length-set}
use Rattle.std.proofs.lemmas.List.Elements.{All-set}
use Rattle.mpm_base.specs.declared.kind.Kind.{Kind}
use Rattle.mpm_base.specs.declared.kind.Kind.TheVariants.{Ibm3740, Hd4, Hd8}
use Rattle.mpm_blocks.specs.Geometries.{geometry_of}
use Rattle.mpm_dirent.specs.declared.kinds.Entry.{Entry}
use Rattle.mpm_dirent.specs.declared.kinds.Entry.TheVariants.{Free}
use Rattle.mpm_dirent.specs.Proper.{IsProper}
use Rattle.mpm_mount.specs.Directories.{IsWholeEntry}
use Rattle.mpm_fault_lines.specs.Lists.{listed, different, has_slot}
use Rattle.mpm_repair.specs.Freeing.{AllSlots, freed}

-- a property of all entries that a free one has stays
freed_all : (P : Entry → Type 0) (slots : List ℕ) (entries : List Entry) → P Free → All P entries → All P (freed slots entries)
unfolding freed
freed_all P [] entries free each = each
freed_all P (slot ∷ slots) entries free each = freed_all P slots (slice_set entries slot Free) free (All-set P entries slot Free free each)

pub freed_proper : (wide : Bool) (slots : List ℕ) (entries : List Entry) → All (IsProper wide) entries → All (IsProper wide) (freed slots entries)
freed_proper wide slots entries each = freed_all (IsProper wide) slots entries tt each

pub freed_whole : (slots : List ℕ) (entries : List Entry) → All IsWholeEntry entries → All IsWholeEntry (freed slots entries)
freed_whole slots entries each = freed_all IsWholeEntry slots entries tt each

pub freed_long : (slots : List ℕ) (entries : List Entry) → length (freed slots entries) ≡ length entries
unfolding freed
freed_long [] entries = refl
freed_long (slot ∷ slots) entries = freed_long slots (slice_set entries slot Free) ∙ length-set entries slot Free

-- the marked slots below a directory's size are slots of it
one_in : (kind : Kind) (marked_here : Bool) (slot : ℕ) (slots : List ℕ) → slot < (geometry_of kind).drm + 1 → AllSlots kind slots → AllSlots kind (cond marked_here (slot ∷ slots) slots)
one_in kind true slot slots low each = (low, each)
one_in kind false slot slots low each = each

all_in : (kind : Kind) (p : ℕ → Bool) (a n : ℕ) → a + n ≤ (geometry_of kind).drm + 1 → AllSlots kind (filter p (range_with_len a n))
all_in kind p a zero few = tt
all_in kind p a (suc n) few = one_in kind (p a) a (filter p (range_with_len (a + 1) n)) (omega (arith, few)) (all_in kind p (a + 1) n (omega (arith, few)))

pub all_marked : (kind : Kind) (marks : List Bool) → AllSlots kind (listed marks ((geometry_of kind).drm + 1))
unfolding listed
all_marked kind marks = all_in kind (λ slot. slice_index_or marks slot false) 0 ((geometry_of kind).drm + 1) (omega arith)

pub all_different : (kind : Kind) (lines : List ℕ) → AllSlots kind (different ((geometry_of kind).drm + 1) lines)
unfolding different
all_different kind lines = all_in kind (has_slot lines) 0 ((geometry_of kind).drm + 1) (omega arith)

-- a directory has at most 512 slots
pub few_slots : (kind : Kind) → (geometry_of kind).drm < 512
few_slots Ibm3740 = omega arith
few_slots Hd4 = omega arith
few_slots Hd8 = omega arith
