-- A directory in which one entry is replaced by another keeps what it keeps of itself.
use Rattle.std.proofs.Common.{◌≡◌, ℕ, ◌<◌, ◌==◌, Bool, true, false, ◌&&◌, ◌||◌, not, List, None, length, get_or, refl, sym, ap, subst, ◌∙◌, arith, ne_eqb}
use Rattle.std.proofs.Math.Bool.{or-false, or-true, and-true}
use Rattle.std.specs.Prelude.{nat_lt, slice_set}
use Rattle.std.specs.List.{list_any}
use Rattle.std.proofs.lemmas.Bool.{true≢false, le-ltb}
use Rattle.std.proofs.lemmas.List.{length-set, get_or-set_same}
use Rattle.std.proofs.lemmas.List.Elements.{All-set}
use Rattle.mpm_base.specs.declared.kind.Kind.{Kind}
use Rattle.mpm_blocks.specs.Geometries.{geometry_of}
use Rattle.mpm_blocks.specs.Maps.{Blocks}
use Rattle.mpm_blocks.specs.Maps as maps
use Rattle.mpm_dirent.specs.declared.kinds.Entry.{Entry}
use Rattle.mpm_dirent.specs.declared.kinds.Entry.TheVariants.{Free, File, Xfcb, Label, Kept}
use Rattle.mpm_dirent.specs.Proper.{IsProper}
use Rattle.mpm_mount.specs.Faults.{holds, first_fault}
use Rattle.mpm_mount.specs.Directories.{others, IsKept, IsWholeEntry}
use Rattle.mpm_mount.specs.Using.{IsUsedBy, Claims, Frees, IsInsideBlocks}
use Rattle.mpm_mount.proofs.UsedBy.{used_at, used_by, size_used, zero_used}
use Rattle.mpm_mount.proofs.Others.{any_split, any_set}
use Rattle.mpm_mount.proofs.Sound.{sound_at, held_once, block_within}

-- whether a block is used: by the directory, by another slot, by the old entry, by the new one
changed : (dir rest old new : Bool) → (old ≡ true → dir ≡ false) → (old ≡ true → rest ≡ false)
    → (((dir || (old || rest)) && not old) || new) ≡ (dir || (new || rest))
changed true rest true new d r = absurd (true≢false (d refl))
changed true rest false new d r = refl
changed false true true new d r = absurd (true≢false (r refl))
changed false true false new d r = sym (or-true new)
changed false false true new d r = sym (or-false new)
changed false false false new d r = sym (or-false new)

pub used_exchanged : (kind : Kind) (entries : List Entry) (slot : ℕ) (new : Entry) (before mid now : Blocks) → first_fault kind entries ≡ None
    → slot < length entries → IsUsedBy kind entries before → Frees kind (get_or entries slot Free) before mid → Claims kind new mid now
    → IsUsedBy kind (slice_set entries slot new) now
used_exchanged kind entries slot new before mid now faultless h by frees claims =
    let old : Entry = get_or entries slot Free in
    used_by kind (slice_set entries slot new) now (claims.kind ∙ frees.kind ∙ by.of_kind) (claims.size ∙ frees.size ∙ size_used kind entries before by)
    (λ block some within.
    let dir : Bool = nat_lt block (geometry_of kind).directory_blocks in
    let rest : Bool = list_any (holds kind block) (others entries slot) in
    let nonzero : not (block == 0) ≡ true = ap not (ne_eqb block 0 some) in
    let was : maps.is_used before block ≡ (dir || (holds kind block old || rest)) =
    used_at kind entries before block by within ∙ ap (λ b. dir || b) (any_split (holds kind block) entries slot Free h) in
    claims.used block
    ∙ ap (λ z. maps.is_used mid block || (z && holds kind block new)) nonzero
    ∙ ap (λ b. b || holds kind block new) (frees.used block ∙ ap (λ z. maps.is_used before block && not (z && holds kind block old)) nonzero)
    ∙ ap (λ b. (b && not (holds kind block old)) || holds kind block new) was
    ∙ changed dir rest (holds kind block old) (holds kind block new)
    (λ held. le-ltb block (geometry_of kind).directory_blocks ((block_within kind entries slot block faultless h some held).0))
    (λ held. held_once kind entries slot block faultless h some held)
    ∙ sym (ap (λ b. dir || b) (any_set (holds kind block) entries slot new h)))
    (claims.used 0 ∙ or-false (maps.is_used mid 0) ∙ frees.used 0 ∙ and-true (maps.is_used before 0) ∙ used_at kind entries before 0 by (omega arith) ∙ zero_used kind entries)

pub kept_used : (kind : Kind) (entries : List Entry) (blocks : Blocks) → IsKept kind entries blocks → IsUsedBy kind entries blocks
kept_used kind entries blocks kept = record { of_kind = kept.of_kind; used = kept.used }

pub kept_exchanged : (kind : Kind) (entries after : List Entry) (slot : ℕ) (new : Entry) (before mid now : Blocks) → IsKept kind entries before → slot < length entries
    → IsProper (geometry_of kind).wide new → IsWholeEntry new → first_fault kind (slice_set entries slot new) ≡ None
    → Frees kind (get_or entries slot Free) before mid → Claims kind new mid now → after ≡ slice_set entries slot new → IsKept kind after now
kept_exchanged kind entries after slot new before mid now kept h proper whole faultless frees claims is =
    let used = used_exchanged kind entries slot new before mid now kept.faultless h (kept_used kind entries before kept) frees claims in
    let P : List Entry → Type 0 = λ es. IsKept kind es now in
    subst P (sym is) (record {
      full = length-set entries slot new ∙ kept.full;
      faultless = faultless;
      proper = All-set (IsProper (geometry_of kind).wide) entries slot new proper kept.proper;
      whole = All-set IsWholeEntry entries slot new whole kept.whole;
      of_kind = used.of_kind;
      used = used.used;
    })

-- each entry of a directory without a fault has its blocks inside
inside_entry : (kind : Kind) (entries : List Entry) (slot : ℕ) (entry : Entry) → first_fault kind entries ≡ None → slot < length entries → get_or entries slot Free ≡ entry
    → IsInsideBlocks kind entry
inside_entry kind entries slot (File f) faultless h is = (sound_at kind entries slot f faultless h is).inside
inside_entry kind entries slot Free faultless h is = tt
inside_entry kind entries slot (Xfcb x) faultless h is = tt
inside_entry kind entries slot (Label l) faultless h is = tt
inside_entry kind entries slot (Kept bytes) faultless h is = tt

pub old_inside : (kind : Kind) (entries : List Entry) (slot : ℕ) → first_fault kind entries ≡ None → slot < length entries → IsInsideBlocks kind (get_or entries slot Free)
old_inside kind entries slot faultless h = inside_entry kind entries slot (get_or entries slot Free) faultless h refl

pub new_inside : (kind : Kind) (entries : List Entry) (slot : ℕ) (new : Entry) → first_fault kind (slice_set entries slot new) ≡ None → slot < length entries
    → IsInsideBlocks kind new
new_inside kind entries slot new faultless h =
    inside_entry kind (slice_set entries slot new) slot new faultless (omega (arith, length-set entries slot new)) (get_or-set_same entries slot new Free h)
