-- The blocks that a list of entries uses.
use Rattle.std.proofs.Common.{◌≡◌, ◌≢◌, ℕ, ◌+◌, ◌<◌, ◌≤◌, ◌==◌, Bool, true, false, ◌&&◌, ◌||◌, not, inl, inr, List, [], ◌∷◌, ◌++◌, length, get_or, refl, sym, ap, ◌∙◌, arith, eq-eqb, ne_eqb}
use Rattle.std.proofs.Math.Bool.{or-false}
use Rattle.std.specs.Prelude.{nat_lt, Option, Some, if◌then◌else◌}
use Rattle.std.specs.List.{list_any}
use Rattle.std.proofs.lemmas.Bool.{false≢true, cases_eq, le-ltb}
use Rattle.std.proofs.lemmas.List.Folds.{list_any-append}
use Rattle.std.proofs.lemmas.List.FromFn.{length-map-range_with_len, fill_by_all}
use Rattle.mpm_base.specs.declared.kind.Kind.{Kind}
use Rattle.mpm_base.specs.declared.kind.Kind.TheVariants.{Ibm3740, Hd4, Hd8}
use Rattle.mpm_blocks.specs.Geometries.{geometry_of, last_block}
use Rattle.mpm_blocks.specs.Maps.{Blocks, new_map, used_to}
use Rattle.mpm_blocks.specs.Maps as maps
use Rattle.mpm_dirent.specs.declared.kinds.Entry.{Entry}
use Rattle.mpm_dirent.specs.declared.kinds.FileEntry.{FileEntry}
use Rattle.mpm_mount.specs.Drives.{places}
use Rattle.mpm_mount.specs.Faults.{block_at, has_at, holds, is_outside, is_taken, some_place, name_cause, file_cause}
use Rattle.mpm_mount.specs.Directories.{is_used, used_blocks}
use Rattle.mpm_mount.specs.Using.{IsUsedBy, is_of, Claims, clashes}
use Rattle.mpm_mount.proofs.Ranges.{any_same, map_same, map_at}
use Rattle.mpm_mount.proofs.UsedBlocks.{inside_at, claims_none_bit}

pub used_size : (kind : Kind) (entries : List Entry) → length (used_blocks kind entries) ≡ last_block kind + 1
unfolding used_blocks
used_size kind entries = length-map-range_with_len (is_used kind entries) 0 (last_block kind + 1)

pub size_used : (kind : Kind) (entries : List Entry) (blocks : Blocks) → IsUsedBy kind entries blocks → length blocks.used ≡ last_block kind + 1
size_used kind entries blocks by = ap length by.used ∙ used_size kind entries

pub used_at : (kind : Kind) (entries : List Entry) (blocks : Blocks) (block : ℕ) → IsUsedBy kind entries blocks → block ≤ last_block kind
    → maps.is_used blocks block ≡ is_used kind entries block
unfolding used_blocks
used_at kind entries blocks block by h =
    ap (λ used. get_or used block true) by.used ∙ map_at (is_used kind entries) (last_block kind + 1) block true (omega arith)

-- block 0 is the directory's
pub zero_used : (kind : Kind) (entries : List Entry) → is_used kind entries 0 ≡ true
zero_used Ibm3740 entries = refl
zero_used Hd4 entries = refl
zero_used Hd8 entries = refl

-- a map that says what these entries use, block by block
pub used_by : (kind : Kind) (entries : List Entry) (blocks : Blocks) → blocks.kind ≡ kind → length blocks.used ≡ last_block kind + 1
    → ((block : ℕ) → block ≢ 0 → block ≤ last_block kind → maps.is_used blocks block ≡ is_used kind entries block) → maps.is_used blocks 0 ≡ true
    → IsUsedBy kind entries blocks
unfolding used_blocks
used_by kind entries blocks of_kind size each zero = record {
  of_kind = of_kind;
  used = fill_by_all (is_used kind entries) blocks.used (last_block kind + 1) true size (λ block h. elim (cases_eq block 0) [
    | inl none ↦ ap (λ (b : ℕ). get_or blocks.used b true) none ∙ zero ∙ sym (ap (is_used kind entries) none ∙ zero_used kind entries)
    | inr some ↦ each block some (omega arith)
  ]);
}

-- a new map is that of no entries
pub new_used : (kind : Kind) (blocks : Blocks) → blocks ≡ new_map kind → IsUsedBy kind [] blocks
unfolding used_blocks used_to
new_used kind blocks new = record {
  of_kind = ap (λ (b : Blocks). b.kind) new;
  used = ap (λ (b : Blocks). b.used) new
      ∙ map_same (λ block. nat_lt block (geometry_of kind).directory_blocks) (is_used kind []) (last_block kind + 1) (λ block h. sym (or-false _));
}

regroup : (a b c : Bool) → ((a || b) || c) ≡ (a || (b || (c || false)))
regroup true b c = refl
regroup false true c = refl
regroup false false c = sym (or-false c)

more_used : (kind : Kind) (earlier : List Entry) (entry : Entry) (block : ℕ) → block ≢ 0
    → (is_used kind earlier block || is_of kind entry block) ≡ is_used kind (earlier ++ (entry ∷ [])) block
more_used kind earlier entry block some =
    ap (λ z. is_used kind earlier block || (not z && holds kind block entry)) (ne_eqb block 0 some)
    ∙ regroup (nat_lt block (geometry_of kind).directory_blocks) (list_any (holds kind block) earlier) (holds kind block entry)
    ∙ ap (λ b. nat_lt block (geometry_of kind).directory_blocks || b) (sym (list_any-append (holds kind block) earlier (entry ∷ [])))

-- one entry more
pub used_behind : (kind : Kind) (earlier : List Entry) (entry : Entry) (before now : Blocks) → IsUsedBy kind earlier before → Claims kind entry before now
    → IsUsedBy kind (earlier ++ (entry ∷ [])) now
used_behind kind earlier entry before now by so =
    used_by kind (earlier ++ (entry ∷ [])) now (so.kind ∙ by.of_kind) (so.size ∙ size_used kind earlier before by)
    (λ block some h. so.used block ∙ ap (λ b. b || is_of kind entry block) (used_at kind earlier before block by h) ∙ more_used kind earlier entry block some)
    (so.used 0 ∙ or-false (maps.is_used before 0) ∙ used_at kind earlier before 0 by (omega arith) ∙ zero_used kind earlier)

-- an entry that has no blocks
pub claims_nothing : (kind : Kind) (entry : Entry) (blocks : Blocks) → ((block : ℕ) → holds kind block entry ≡ false) → Claims kind entry blocks blocks
claims_nothing kind entry blocks none = record {
  kind = refl;
  size = refl;
  used = λ block. claims_none_bit (maps.is_used blocks block) (not (block == 0)) ∙ ap (λ b. maps.is_used blocks block || (not (block == 0) && b)) (sym (none block));
}

-- what is taken is what was used
taken_at : (kind : Kind) (earlier : List Entry) (f : FileEntry) (blocks : Blocks) → IsUsedBy kind earlier blocks → some_place kind (is_outside kind f) ≡ false
    → (i : ℕ) → i < places kind → clashes blocks f i ≡ is_taken kind earlier f i
taken_at kind earlier f blocks by none i h = elim (cases_eq (block_at f i) 0) [
  | inl zero ↦
      ap (λ z. not z && (maps.is_used blocks (block_at f i) || has_at f i (block_at f i))) (eq-eqb (block_at f i) 0 zero)
      ∙ sym (ap (λ z. not z && (list_any (holds kind (block_at f i)) earlier || has_at f i (block_at f i))) (eq-eqb (block_at f i) 0 zero))
  | inr some ↦
      let inside = inside_at kind f i none h some in
      let was : maps.is_used blocks (block_at f i) ≡ list_any (holds kind (block_at f i)) earlier =
      used_at kind earlier blocks (block_at f i) by inside.1
      ∙ ap (λ b. b || list_any (holds kind (block_at f i)) earlier) (le-ltb (block_at f i) (geometry_of kind).directory_blocks inside.0) in
      ap (λ b. not (block_at f i == 0) && (b || has_at f i (block_at f i))) was
]

pub taken_same : (kind : Kind) (earlier : List Entry) (f : FileEntry) (blocks : Blocks) → IsUsedBy kind earlier blocks → some_place kind (is_outside kind f) ≡ false
    → some_place kind (clashes blocks f) ≡ some_place kind (is_taken kind earlier f)
unfolding some_place
taken_same kind earlier f blocks by none =
    any_same (clashes blocks f) (is_taken kind earlier f) (places kind) (taken_at kind earlier f blocks by none)

-- an entry without blocks after others
pub used_past : (kind : Kind) (earlier : List Entry) (entry same : Entry) (blocks : Blocks) → entry ≡ same → ((block : ℕ) → holds kind block same ≡ false)
    → IsUsedBy kind earlier blocks → IsUsedBy kind (earlier ++ (entry ∷ [])) blocks
used_past kind earlier entry same blocks is none by =
    used_behind kind earlier entry blocks blocks by (claims_nothing kind entry blocks (λ block. ap (holds kind block) is ∙ none block))

-- causes of a file's entry, by what was used
fourth : (a b t : Bool) (rest : Option ℕ) → a ≡ false → b ≡ false → t ≡ true → Some 4 ≡ (if a then Some 2 else (if b then Some 3 else (if t then Some 4 else rest)))
fourth true b t rest ea eb et = absurd (false≢true (sym ea))
fourth false true t rest ea eb et = absurd (false≢true (sym eb))
fourth false false true rest ea eb et = refl
fourth false false false rest ea eb et = absurd (false≢true et)

last_ones : (a b t : Bool) (rest : Option ℕ) → a ≡ false → b ≡ false → t ≡ false → rest ≡ (if a then Some 2 else (if b then Some 3 else (if t then Some 4 else rest)))
last_ones true b t rest ea eb et = absurd (false≢true (sym ea))
last_ones false true t rest ea eb et = absurd (false≢true (sym eb))
last_ones false false true rest ea eb et = absurd (false≢true (sym et))
last_ones false false false rest ea eb et = refl

pub cause_taken : (kind : Kind) (earlier : List Entry) (f : FileEntry) (blocks : Blocks) → IsUsedBy kind earlier blocks → nat_lt 128 f.rc ≡ false
    → some_place kind (is_outside kind f) ≡ false → some_place kind (clashes blocks f) ≡ true → Some 4 ≡ file_cause kind earlier f
unfolding file_cause
cause_taken kind earlier f blocks by few inside taken =
    fourth (nat_lt 128 f.rc) (some_place kind (is_outside kind f)) (some_place kind (is_taken kind earlier f)) (name_cause kind earlier f) few inside
    (sym (taken_same kind earlier f blocks by inside) ∙ taken)

pub cause_later : (kind : Kind) (earlier : List Entry) (f : FileEntry) (blocks : Blocks) → IsUsedBy kind earlier blocks → nat_lt 128 f.rc ≡ false
    → some_place kind (is_outside kind f) ≡ false → some_place kind (clashes blocks f) ≡ false → name_cause kind earlier f ≡ file_cause kind earlier f
unfolding file_cause
cause_later kind earlier f blocks by few inside free =
    last_ones (nat_lt 128 f.rc) (some_place kind (is_outside kind f)) (some_place kind (is_taken kind earlier f)) (name_cause kind earlier f) few inside
    (sym (taken_same kind earlier f blocks by inside) ∙ free)
