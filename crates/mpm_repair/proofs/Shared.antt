-- A block that is used already: by an earlier entry, or twice in one.
use Rattle.std.proofs.Common.{◌≡◌, ℕ, ◌<◌, ◌==◌, Bool, true, false, ◌&&◌, ◌||◌, not, List, [], ◌∷◌, refl, sym, ap, ◌∙◌}
use Rattle.std.specs.Prelude.{Option, Some, None, is_some, position}
use Rattle.std.proofs.Math.Bool.{or_assoc, and-false}
use Rattle.std.proofs.lemmas.List.Folds.{list_any_at}
use Rattle.std.proofs.lemmas.List.Quantifiers.{position-Some}
use Rattle.mpm_base.proofs.Lists.{any_at}
use Rattle.mpm_dirent.specs.declared.kinds.Entry.TheVariants.{Free, File, Xfcb, Label, Kept}
use Rattle.mpm_mount.proofs.UsedBlocks.{some_none}
use Rattle.mpm_mount.proofs.LookedUp.{nowhere}
use Rattle.std.specs.List.{range_with_len, list_any}
use Rattle.mpm_base.specs.declared.kind.Kind.{Kind}
use Rattle.mpm_dirent.specs.declared.kinds.Entry.{Entry}
use Rattle.mpm_dirent.specs.declared.kinds.FileEntry.{FileEntry}
use Rattle.mpm_mount.specs.Drives.{places}
use Rattle.mpm_mount.specs.Faults.{block_at, has_at, holds, is_taken, some_place}
use Rattle.mpm_mount.proofs.Ranges.{any_same, none_if}
use Rattle.mpm_repair.specs.FaultLists.{shares_block, has_double, shared_at, shared_in}

or_middle : (a b c d : Bool) → ((a || b) || (c || d)) ≡ ((a || c) || (b || d))
or_middle true b c d = refl
or_middle false true true d = refl
or_middle false true false d = refl
or_middle false false c d = refl

any_both : {X : Type 0} (p q : X → Bool) (xs : List X) → list_any (λ x. p x || q x) xs ≡ (list_any p xs || list_any q xs)
any_both p q [] = refl
any_both p q (x ∷ xs) = ap (λ b. (p x || q x) || b) (any_both p q xs) ∙ or_middle (p x) (q x) (list_any p xs) (list_any q xs)

apart : (n h r d : Bool) → (n && ((h || r) || d)) ≡ ((n && h) || (n && (r || d)))
apart false h r d = refl
apart true true r d = refl
apart true false r d = refl

pub taken_by : (kind : Kind) (earlier : List Entry) (f : FileEntry) → some_place kind (is_taken kind earlier f) ≡ (list_any (shares_block kind f) earlier || has_double kind f)
unfolding some_place shares_block
taken_by kind [] f = refl
taken_by kind (e ∷ es) f =
    let nonzero : ℕ → Bool = λ i. not (block_at f i == 0) in
    let here : ℕ → Bool = λ i. nonzero i && holds kind (block_at f i) e in
    any_same (is_taken kind (e ∷ es) f) (λ i. here i || is_taken kind es f i) (places kind) (λ i h.
    apart (nonzero i) (holds kind (block_at f i) e) (list_any (holds kind (block_at f i)) es) (has_at f i (block_at f i)))
    ∙ any_both here (is_taken kind es f) (range_with_len 0 (places kind))
    ∙ ap (λ b. list_any here (range_with_len 0 (places kind)) || b) (taken_by kind es f)
    ∙ sym (or_assoc (list_any here (range_with_len 0 (places kind))) (list_any (shares_block kind f) es) (has_double kind f))

-- an entry passes a test exactly where there is a lowest one that does
pub any_at_place : (p : Entry → Bool) (entries : List Entry) (at : Option ℕ) → position p entries ≡ at → list_any p entries ≡ is_some at
any_at_place p entries None at = nowhere p entries at
any_at_place p entries (Some slot) at = let found = position-Some p entries slot Free at in list_any_at p entries slot Free found.0 found.1

-- the lowest slot that shares a block is there exactly where a block is used already
shared_bits : (at : Option ℕ) (double : Bool) (slot : ℕ) → is_some (shared_at at double slot) ≡ (is_some at || double)
shared_bits (Some other) double slot = refl
shared_bits None true slot = refl
shared_bits None false slot = refl

pub shared_is : (kind : Kind) (earlier : List Entry) (f : FileEntry) (slot : ℕ) → some_place kind (is_taken kind earlier f) ≡ is_some (shared_in kind earlier slot f)
shared_is kind earlier f slot =
    let at = position (shares_block kind f) earlier in
    taken_by kind earlier f ∙ ap (λ b. b || has_double kind f) (any_at_place (shares_block kind f) earlier at refl) ∙ sym (shared_bits at (has_double kind f) slot)

-- an entry of no file has no block
pub shares_none : (kind : Kind) (f : FileEntry) → some_place kind (λ i. not (block_at f i == 0) && false) ≡ false
shares_none kind f = some_none kind (λ i. not (block_at f i == 0) && false) (λ i h. and-false (not (block_at f i == 0)))

pub only_files_share : (kind : Kind) (f : FileEntry) (entry : Entry) → ((file : FileEntry) → entry ≡ File file → ⊥) → shares_block kind f entry ≡ false
unfolding shares_block
only_files_share kind f Free other = shares_none kind f
only_files_share kind f (File file) other = absurd (other file refl)
only_files_share kind f (Xfcb x) other = shares_none kind f
only_files_share kind f (Label l) other = shares_none kind f
only_files_share kind f (Kept bytes) other = shares_none kind f

pub has_found : (f : FileEntry) (count i block : ℕ) → i < count → (block_at f i == block) ≡ true → has_at f count block ≡ true
unfolding has_at
has_found f count i block h here = any_at (λ j. block_at f j == block) count i h here

pub has_nowhere : (f : FileEntry) (count block : ℕ) → ((k : ℕ) → k < count → (block_at f k == block) ≡ false) → has_at f count block ≡ false
unfolding has_at
has_nowhere f count block each = none_if (λ j. block_at f j == block) count each
