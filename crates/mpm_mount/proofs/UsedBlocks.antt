-- The blocks of an entry, used or freed one after another.
use Rattle.std.proofs.Common.{◌≡◌, ◌≢◌, ℕ, ◌+◌, ◌<◌, ◌≤◌, ◌==◌, Bool, true, false, ◌&&◌, ◌||◌, not, inl, inr, length, refl, sym, ap, subst, ◌∙◌, arith, eq-eqb, ne_eqb}
use Rattle.std.proofs.Math.Bool.{or-false, and-false, or-true}
use Rattle.std.specs.Prelude.{nat_lt, if◌then◌else◌}
use Rattle.std.specs.List.{range_with_len, list_any}
use Rattle.std.proofs.lemmas.Bool.{false≢true, cases_eq, ltb-false, or_parts, and_from}
use Rattle.std.proofs.lemmas.List.{length-set}
use Rattle.mpm_base.specs.declared.kind.Kind.{Kind}
use Rattle.mpm_base.proofs.Lists.{any_at}
use Rattle.mpm_blocks.specs.Geometries.{geometry_of, last_block}
use Rattle.mpm_blocks.specs.Maps.{Blocks, is_used, claimed, freed}
use Rattle.mpm_blocks.proofs.Laws.{claimed_is_used, claimed_keeps_others, freed_is_free, freed_keeps_others}
use Rattle.mpm_dirent.specs.declared.kinds.FileEntry.{FileEntry}
use Rattle.mpm_mount.specs.Drives.{places}
use Rattle.mpm_mount.specs.Faults.{block_at, has_at, is_outside, some_place}
use Rattle.mpm_mount.specs.Using.{is_among, ClaimsTo, FreesTo, clashes, claimed_unless_zero, freed_unless_zero}
use Rattle.mpm_mount.proofs.Ranges.{any_more, none_at, none_if}

pub some_found : (kind : Kind) (t : ℕ → Bool) (i : ℕ) → i < places kind → t i ≡ true → some_place kind t ≡ true
unfolding some_place
some_found kind t i h here = any_at t (places kind) i h here

pub some_none : (kind : Kind) (t : ℕ → Bool) → ((k : ℕ) → k < places kind → t k ≡ false) → some_place kind t ≡ false
unfolding some_place
some_none kind t each = none_if t (places kind) each

pub nowhere_at : (kind : Kind) (t : ℕ → Bool) (i : ℕ) → some_place kind t ≡ false → i < places kind → t i ≡ false
unfolding some_place
nowhere_at kind t i none h = none_at t (places kind) i none h

pub has_none : (f : FileEntry) (block : ℕ) → has_at f 0 block ≡ false
unfolding has_at
has_none f block = refl

pub has_more : (f : FileEntry) (i block : ℕ) → has_at f (i + 1) block ≡ (has_at f i block || block_at f i == block)
unfolding has_at
has_more f i block = any_more (λ j. block_at f j == block) i

-- a block of an entry that has none outside is at most the last
inside_of : (b first last : ℕ) → (not (b == 0) && (nat_lt b first || nat_lt last b)) ≡ false → b ≢ 0 → (first ≤ b) × (b ≤ last)
inside_of b first last inside some =
    let both : (nat_lt b first || nat_lt last b) ≡ false = sym (ap (λ z. not z && (nat_lt b first || nat_lt last b)) (ne_eqb b 0 some)) ∙ inside in
    let parts = or_parts (nat_lt b first) (nat_lt last b) both in
    (ltb-false b first parts.0, ltb-false last b parts.1)

pub inside_at : (kind : Kind) (f : FileEntry) (i : ℕ) → some_place kind (is_outside kind f) ≡ false → i < places kind → block_at f i ≢ 0
    → ((geometry_of kind).directory_blocks ≤ block_at f i) × (block_at f i ≤ last_block kind)
inside_at kind f i none h some =
    inside_of (block_at f i) (geometry_of kind).directory_blocks (last_block kind) (nowhere_at kind (is_outside kind f) i none h) some

pub within_at : (kind : Kind) (f : FileEntry) (i : ℕ) → some_place kind (is_outside kind f) ≡ false → i < places kind → block_at f i ≤ last_block kind
within_at kind f i none h = elim (cases_eq (block_at f i) 0) [
  | inl zero ↦ omega arith
  | inr some ↦ (inside_at kind f i none h some).1
]

-- used

pub claims_none_bit : (was other : Bool) → was ≡ (was || (other && false))
claims_none_bit true other = refl
claims_none_bit false true = refl
claims_none_bit false false = refl

pub claims_none : (f : FileEntry) (blocks : Blocks) → ClaimsTo f 0 blocks blocks
claims_none f blocks = record {
  kind = refl;
  size = refl;
  used = λ block. claims_none_bit (is_used blocks block) (not (block == 0)) ∙ ap (λ b. is_used blocks block || (not (block == 0) && b)) (sym (has_none f block));
}

frees_none_bit : (was other : Bool) → was ≡ (was && not (other && false))
frees_none_bit true true = refl
frees_none_bit true false = refl
frees_none_bit false other = refl

pub frees_none : (f : FileEntry) (blocks : Blocks) → FreesTo f 0 blocks blocks
frees_none f blocks = record {
  kind = refl;
  size = refl;
  used = λ block. frees_none_bit (is_used blocks block) (not (block == 0)) ∙ ap (λ b. is_used blocks block && not (not (block == 0) && b)) (sym (has_none f block));
}

-- whether a block is among one more
pub among_here : (f : FileEntry) (i block : ℕ) → block ≢ 0 → block_at f i ≡ block → is_among f (i + 1) block ≡ true
among_here f i block some same =
    let nonzero : not (block == 0) ≡ true = ap not (ne_eqb block 0 some) in
    let here : has_at f (i + 1) block ≡ true = has_more f i block ∙ ap (λ b. has_at f i block || b) (eq-eqb (block_at f i) block same) ∙ or-true (has_at f i block) in
    and_from (not (block == 0)) (has_at f (i + 1) block) nonzero here

pub among_other : (f : FileEntry) (i block : ℕ) → block_at f i ≢ block → is_among f (i + 1) block ≡ is_among f i block
among_other f i block other =
    ap (λ b. not (block == 0) && b) (has_more f i block ∙ ap (λ b. has_at f i block || b) (ne_eqb (block_at f i) block other) ∙ or-false (has_at f i block))

pub among_zero : (f : FileEntry) (i block : ℕ) → block_at f i ≡ 0 → is_among f (i + 1) block ≡ is_among f i block
among_zero f i block zero = elim (cases_eq block 0) [
  | inl none ↦ ap (λ z. not z && has_at f (i + 1) block) (eq-eqb block 0 none) ∙ sym (ap (λ z. not z && has_at f i block) (eq-eqb block 0 none))
  | inr some ↦ among_other f i block (λ same. some (sym same ∙ zero))
]

claims_skipped : (f : FileEntry) (i : ℕ) (before mid : Blocks) → ClaimsTo f i before mid → block_at f i ≡ 0 → ClaimsTo f (i + 1) before mid
claims_skipped f i before mid so zero = record {
  kind = so.kind;
  size = so.size;
  used = λ block. so.used block ∙ ap (λ b. is_used before block || b) (sym (among_zero f i block zero));
}

frees_skipped : (f : FileEntry) (i : ℕ) (before mid : Blocks) → FreesTo f i before mid → block_at f i ≡ 0 → FreesTo f (i + 1) before mid
frees_skipped f i before mid so zero = record {
  kind = so.kind;
  size = so.size;
  used = λ block. so.used block ∙ ap (λ b. is_used before block && not b) (sym (among_zero f i block zero));
}

claims_here : (f : FileEntry) (i : ℕ) (before mid : Blocks) → ClaimsTo f i before mid → block_at f i ≢ 0 → block_at f i < length before.used
    → ClaimsTo f (i + 1) before (claimed mid (block_at f i))
claims_here f i before mid so some h = record {
  kind = so.kind;
  size = length-set mid.used (block_at f i) true ∙ so.size;
  used = λ block. elim (cases_eq (block_at f i) block) [
    | inl same ↦
        ap (is_used (claimed mid (block_at f i))) (sym same) ∙ claimed_is_used mid (block_at f i) (omega (arith, so.size))
        ∙ sym (ap (λ b. is_used before block || b) (among_here f i block (λ zero. some (same ∙ zero)) same) ∙ or-true (is_used before block))
    | inr other ↦
        claimed_keeps_others mid (block_at f i) block (λ same. other (sym same)) ∙ so.used block ∙ ap (λ b. is_used before block || b) (sym (among_other f i block other))
  ];
}

frees_here : (f : FileEntry) (i : ℕ) (before mid : Blocks) → FreesTo f i before mid → block_at f i ≢ 0 → block_at f i < length before.used
    → FreesTo f (i + 1) before (freed mid (block_at f i))
frees_here f i before mid so some h = record {
  kind = so.kind;
  size = length-set mid.used (block_at f i) false ∙ so.size;
  used = λ block. elim (cases_eq (block_at f i) block) [
    | inl same ↦
        ap (is_used (freed mid (block_at f i))) (sym same) ∙ freed_is_free mid (block_at f i) (omega (arith, so.size))
        ∙ sym (ap (λ b. is_used before block && not b) (among_here f i block (λ zero. some (same ∙ zero)) same) ∙ and-false (is_used before block))
    | inr other ↦
        freed_keeps_others mid (block_at f i) block (λ same. other (sym same)) ∙ so.used block ∙ ap (λ b. is_used before block && not b) (sym (among_other f i block other))
  ];
}

-- one more of them
pub claims_more : (f : FileEntry) (i : ℕ) (before mid now : Blocks) → ClaimsTo f i before mid → block_at f i < length before.used
    → now ≡ claimed_unless_zero mid (block_at f i) → ClaimsTo f (i + 1) before now
claims_more f i before mid now so h is = elim (cases_eq (block_at f i) 0) [
  | inl zero ↦
      subst (ClaimsTo f (i + 1) before) (sym (is ∙ ap (λ b. if b then mid else claimed mid (block_at f i)) (eq-eqb (block_at f i) 0 zero))) (claims_skipped f i before mid so zero)
  | inr some ↦
      subst (ClaimsTo f (i + 1) before) (sym (is ∙ ap (λ b. if b then mid else claimed mid (block_at f i)) (ne_eqb (block_at f i) 0 some))) (claims_here f i before mid so some h)
]

pub frees_more : (f : FileEntry) (i : ℕ) (before mid now : Blocks) → FreesTo f i before mid → block_at f i < length before.used
    → now ≡ freed_unless_zero mid (block_at f i) → FreesTo f (i + 1) before now
frees_more f i before mid now so h is = elim (cases_eq (block_at f i) 0) [
  | inl zero ↦
      subst (FreesTo f (i + 1) before) (sym (is ∙ ap (λ b. if b then mid else freed mid (block_at f i)) (eq-eqb (block_at f i) 0 zero))) (frees_skipped f i before mid so zero)
  | inr some ↦
      subst (FreesTo f (i + 1) before) (sym (is ∙ ap (λ b. if b then mid else freed mid (block_at f i)) (ne_eqb (block_at f i) 0 some))) (frees_here f i before mid so some h)
]

-- whether one more was free
answer_bit : (zero was has : Bool) → (zero || not (was || (not zero && has))) ≡ not (not zero && (was || has))
answer_bit true was has = refl
answer_bit false was has = refl

pub answer_here : (f : FileEntry) (i : ℕ) (before mid : Blocks) → ClaimsTo f i before mid
    → (block_at f i == 0 || not (is_used mid (block_at f i))) ≡ not (clashes before f i)
answer_here f i before mid so =
    ap (λ b. block_at f i == 0 || not b) (so.used (block_at f i)) ∙ answer_bit (block_at f i == 0) (is_used before (block_at f i)) (has_at f i (block_at f i))

not_or : (a b : Bool) → (not a && not b) ≡ not (a || b)
not_or true b = refl
not_or false b = refl

pub answer_more : (t : ℕ → Bool) (i : ℕ) (before one now : Bool) → before ≡ not (list_any t (range_with_len 0 i)) → one ≡ not (t i) → now ≡ (before && one)
    → now ≡ not (list_any t (range_with_len 0 (i + 1)))
answer_more t i before one now was here is =
    is ∙ ap (λ b. b && one) was ∙ ap (λ b. not (list_any t (range_with_len 0 i)) && b) here ∙ not_or (list_any t (range_with_len 0 i)) (t i)
    ∙ ap not (sym (any_more t i))

pub answer_all : (kind : Kind) (t : ℕ → Bool) (n : ℕ) (now : Bool) → n ≡ places kind → now ≡ not (list_any t (range_with_len 0 n)) → now ≡ not (some_place kind t)
unfolding some_place
answer_all kind t n now all so = so ∙ ap (λ m. not (list_any t (range_with_len 0 m))) all

pub flipped : (r s : Bool) → r ≡ not s → r ≡ false → s ≡ true
flipped r true is off = refl
flipped r false is off = absurd (false≢true (sym off ∙ is))

pub kept_flip : (r s : Bool) → r ≡ not s → r ≡ true → s ≡ false
kept_flip r true is on = absurd (false≢true (sym is ∙ on))
kept_flip r false is on = refl
