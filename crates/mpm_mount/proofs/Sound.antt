-- What holds between two slots of a directory without a fault.
use Rattle.std.proofs.Common.{◌≡◌, ◌≢◌, ℕ, ◌<◌, ◌≤◌, ◌==◌, Bool, true, false, ◌&&◌, ◌||◌, not, inl, inr, List, Option, Some, None, length, get_or, take, refl, sym, ap, subst, ◌∙◌, arith, ne_eqb}
use Rattle.std.specs.Prelude.{nat_lt, is_some, if◌then◌else◌}
use Rattle.std.specs.List.{list_any}
use Rattle.std.proofs.lemmas.Bool.{false≢true, true≢false, both_ways, false_from_ne_true, eqb-true, cases_order, or_parts}
use Rattle.std.proofs.lemmas.List.{get_or-take, length-take-le}
use Rattle.std.proofs.lemmas.List.Folds.{list_any_at}
use Rattle.mpm_base.specs.declared.kind.Kind.{Kind}
use Rattle.mpm_blocks.specs.Geometries.{geometry_of, last_block}
use Rattle.mpm_dirent.specs.declared.kinds.Entry.{Entry}
use Rattle.mpm_dirent.specs.declared.kinds.Entry.TheVariants.{Free, File, Xfcb, Label, Kept}
use Rattle.mpm_dirent.specs.declared.kinds.FileEntry.{FileEntry}
use Rattle.mpm_mount.specs.Drives.{places}
use Rattle.mpm_mount.specs.Faults.{name_of, block_at, has_at, holds, is_outside, is_taken, some_place, is_named, file_cause, cause_of, first_fault}
use Rattle.mpm_mount.specs.Directories.{others}
use Rattle.mpm_mount.proofs.Ranges.{any_where}
use Rattle.mpm_mount.proofs.UsedBlocks.{nowhere_at, inside_at}
use Rattle.mpm_mount.proofs.FirstFault.{faultless_at}
use Rattle.mpm_mount.proofs.Others.{others_none}

-- a file's entry that is not at fault after others
pub record IsSoundBehind (kind : Kind) (earlier : List Entry) (f : FileEntry) : Type 0 where
  pub few : nat_lt 128 f.rc ≡ false
  pub inside : some_place kind (is_outside kind f) ≡ false
  pub free : some_place kind (is_taken kind earlier f) ≡ false
  pub unnamed : list_any (is_named kind (name_of kind f)) earlier ≡ false
  pub extent : (nat_lt 63 f.s2 || nat_lt 31 f.ex) ≡ false

chosen : Bool → Bool → Bool → Bool → Bool → Option ℕ
chosen a b t n x = if a then Some 2 else (if b then Some 3 else (if t then Some 4 else (if n then Some 5 else (if x then Some 6 else None))))

none_chosen : (a b t n x : Bool) → chosen a b t n x ≡ None → (a ≡ false) × (b ≡ false) × (t ≡ false) × (n ≡ false) × (x ≡ false)
unfolding chosen
none_chosen true b t n x none = absurd (true≢false (ap is_some none))
none_chosen false true t n x none = absurd (true≢false (ap is_some none))
none_chosen false false true n x none = absurd (true≢false (ap is_some none))
none_chosen false false false true x none = absurd (true≢false (ap is_some none))
none_chosen false false false false true none = absurd (true≢false (ap is_some none))
none_chosen false false false false false none = (refl, refl, refl, refl, refl)

chosen_none : (a b t n x : Bool) → a ≡ false → b ≡ false → t ≡ false → n ≡ false → x ≡ false → chosen a b t n x ≡ None
unfolding chosen
chosen_none true b t n x ea eb et en ex = absurd (true≢false ea)
chosen_none false true t n x ea eb et en ex = absurd (true≢false eb)
chosen_none false false true n x ea eb et en ex = absurd (true≢false et)
chosen_none false false false true x ea eb et en ex = absurd (true≢false en)
chosen_none false false false false true ea eb et en ex = absurd (true≢false ex)
chosen_none false false false false false ea eb et en ex = refl

pub file_sound : (kind : Kind) (earlier : List Entry) (f : FileEntry) → file_cause kind earlier f ≡ None → IsSoundBehind kind earlier f
unfolding file_cause chosen
file_sound kind earlier f none =
    let parts = none_chosen (nat_lt 128 f.rc) (some_place kind (is_outside kind f)) (some_place kind (is_taken kind earlier f))
    (list_any (is_named kind (name_of kind f)) earlier) (nat_lt 63 f.s2 || nat_lt 31 f.ex) none in
    record { few = parts.0; inside = parts.1; free = parts.2; unnamed = parts.3; extent = parts.4 }

pub file_clean : (kind : Kind) (earlier : List Entry) (f : FileEntry) → IsSoundBehind kind earlier f → file_cause kind earlier f ≡ None
unfolding file_cause chosen
file_clean kind earlier f sound =
    chosen_none (nat_lt 128 f.rc) (some_place kind (is_outside kind f)) (some_place kind (is_taken kind earlier f))
    (list_any (is_named kind (name_of kind f)) earlier) (nat_lt 63 f.s2 || nat_lt 31 f.ex) sound.few sound.inside sound.free sound.unnamed sound.extent

-- only a file's entry holds blocks
pub record HeldBy (kind : Kind) (block : ℕ) (entry : Entry) : Type 0 where
  pub file : FileEntry
  pub is : entry ≡ File file
  pub place : ℕ
  pub within : place < places kind
  pub here : block_at file place ≡ block

held_at : (kind : Kind) (block : ℕ) (f : FileEntry) → has_at f (places kind) block ≡ true → HeldBy kind block (File f)
unfolding has_at
held_at kind block f has =
    let at = any_where (λ i. block_at f i == block) (places kind) has in
    record { file = f; is = refl; place = at.0; within = at.1; here = eqb-true (block_at f at.0) block at.2 }

pub held_by : (kind : Kind) (block : ℕ) (entry : Entry) → holds kind block entry ≡ true → HeldBy kind block entry
held_by kind block (File f) has = held_at kind block f has
held_by kind block Free has = absurd (false≢true has)
held_by kind block (Xfcb x) has = absurd (false≢true has)
held_by kind block (Label l) has = absurd (false≢true has)
held_by kind block (Kept bytes) has = absurd (false≢true has)

-- a file's entry in a slot
pub sound_at : (kind : Kind) (entries : List Entry) (slot : ℕ) (f : FileEntry) → first_fault kind entries ≡ None → slot < length entries
    → get_or entries slot Free ≡ File f → IsSoundBehind kind (take slot entries) f
sound_at kind entries slot f faultless h is =
    file_sound kind (take slot entries) f (ap (cause_of kind (take slot entries)) (sym is) ∙ faultless_at kind entries slot faultless h)

-- what passes in an earlier slot passes in the front of the list
pub any_earlier : (p : Entry → Bool) (entries : List Entry) (a c : ℕ) → a < c → c ≤ length entries → p (get_or entries a Free) ≡ true
    → list_any p (take c entries) ≡ true
any_earlier p entries a c less h here =
    list_any_at p (take c entries) a Free (omega (arith, length-take-le c entries h)) (ap p (get_or-take c entries a Free less) ∙ here)

pub untaken : (b : ℕ) (earlier before : Bool) → b ≢ 0 → (not (b == 0) && (earlier || before)) ≡ false → earlier ≡ false
untaken b earlier before some none =
    (or_parts earlier before (sym (ap (λ z. not z && (earlier || before)) (ne_eqb b 0 some)) ∙ none)).0

-- no two slots hold one block
used_once : (kind : Kind) (entries : List Entry) (a c block : ℕ) → first_fault kind entries ≡ None → a < c → c < length entries → block ≢ 0
    → holds kind block (get_or entries a Free) ≡ true → holds kind block (get_or entries c Free) ≡ true → ⊥
used_once kind entries a c block faultless less h some ha hc =
    let by = held_by kind block (get_or entries c Free) hc in
    let sound = sound_at kind entries c by.file faultless h by.is in
    let none : is_taken kind (take c entries) by.file by.place ≡ false = nowhere_at kind (is_taken kind (take c entries) by.file) by.place sound.free by.within in
    let nonzero : block_at by.file by.place ≢ 0 = λ zero. some (sym by.here ∙ zero) in
    let free : list_any (holds kind (block_at by.file by.place)) (take c entries) ≡ false =
    untaken (block_at by.file by.place) (list_any (holds kind (block_at by.file by.place)) (take c entries)) (has_at by.file by.place (block_at by.file by.place)) nonzero none in
    let held : holds kind (block_at by.file by.place) (get_or entries a Free) ≡ true = ap (λ b. holds kind b (get_or entries a Free)) by.here ∙ ha in
    both_ways (list_any (holds kind (block_at by.file by.place)) (take c entries)) free
    (any_earlier (holds kind (block_at by.file by.place)) entries a c less (omega arith) held)

pub blocks_differ : (kind : Kind) (entries : List Entry) (a c block : ℕ) → first_fault kind entries ≡ None → a < length entries → c < length entries → block ≢ 0
    → holds kind block (get_or entries a Free) ≡ true → holds kind block (get_or entries c Free) ≡ true → a ≡ c
blocks_differ kind entries a c block faultless h k some ha hc = elim (cases_order a c) [
  | inl same ↦ same
  | inr apart ↦ elim apart [
    | inl less ↦ absurd (used_once kind entries a c block faultless less k some ha hc)
    | inr more ↦ absurd (used_once kind entries c a block faultless more h some hc ha)
  ]
]

-- a block that a slot holds is held by no other, and is one of files
pub held_once : (kind : Kind) (entries : List Entry) (slot block : ℕ) → first_fault kind entries ≡ None → slot < length entries → block ≢ 0
    → holds kind block (get_or entries slot Free) ≡ true → list_any (holds kind block) (others entries slot) ≡ false
held_once kind entries slot block faultless h some here =
    others_none (holds kind block) entries slot Free (λ k less apart.
    false_from_ne_true (holds kind block (get_or entries k Free)) (λ held. apart (blocks_differ kind entries k slot block faultless less h some held here)))

pub block_within : (kind : Kind) (entries : List Entry) (slot block : ℕ) → first_fault kind entries ≡ None → slot < length entries → block ≢ 0
    → holds kind block (get_or entries slot Free) ≡ true → ((geometry_of kind).directory_blocks ≤ block) × (block ≤ last_block kind)
block_within kind entries slot block faultless h some here =
    let by = held_by kind block (get_or entries slot Free) here in
    let sound = sound_at kind entries slot by.file faultless h by.is in
    let nonzero : block_at by.file by.place ≢ 0 = λ zero. some (sym by.here ∙ zero) in
    let inside = inside_at kind by.file by.place sound.inside by.within nonzero in
    let P : ℕ → Type 0 = λ b. ((geometry_of kind).directory_blocks ≤ b) × (b ≤ last_block kind) in
    subst P by.here inside
