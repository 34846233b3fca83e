-- Mounted drives that are synced one after another.
use Rattle.std.proofs.Common.{◌≡◌, ◌≢◌, ◌∙◌, ℕ, suc, ◌+◌, ◌<◌, ◌≤◌, inl, inr, Bool, true, false, List, Option, Some, None, IfSome, refl, sym, ap, subst, length, get_or, take, arith}
use Rattle.std.specs.Prelude.{is_some, if◌then◌else◌}
use Rattle.std.proofs.lemmas.Bool.{cases_eq, false≢true}
use Rattle.std.proofs.lemmas.List.{get_or_default}
use Rattle.std.proofs.lemmas.List.Sums.{count_by_more_yes, sum_by_more, sum_by-take-le}
use Rattle.mpm_mount.specs.Directories.{Directory}
use Rattle.mpm_directories.specs.Places.{AreInPlace, directory_at}
use Rattle.mpm_bdos.specs.Syncing.{StopsAtDrive, mounted_count}

-- those of the first places are synced
abbrev pub AreSyncedTo : ℕ → (ℕ → Bool) → List (Option Directory) → Type 0
AreSyncedTo k unsynced mounted = (number : ℕ) → number < k → IfSome (directory_at mounted number) (λ directory. unsynced number ≡ false)

-- what is so of a place, by the number of its drive
by_number : (now : ℕ → Bool) (number : ℕ) (place : Option Directory) → IfSome place (λ d. d.drive ≡ number) → IfSome place (λ d. now d.drive ≡ false) → IfSome place (λ d. now number ≡ false)
by_number now number None its synced = tt
by_number now number (Some d) its synced = subst (λ n. now n ≡ false) its synced

still : (old now : ℕ → Bool) (number : ℕ) (place : Option Directory) → ((n : ℕ) → old n ≡ false → now n ≡ false) → IfSome place (λ d. old number ≡ false) → IfSome place (λ d. now number ≡ false)
still old now number None stay synced = tt
still old now number (Some d) stay synced = stay number synced

-- so they are with the drive of the next place synced
synced_more : (mounted : List (Option Directory)) (k : ℕ) (old now : ℕ → Bool) → AreInPlace mounted → AreSyncedTo k old mounted → ((n : ℕ) → old n ≡ false → now n ≡ false)
    → IfSome (directory_at mounted k) (λ d. now d.drive ≡ false) → AreSyncedTo (suc k) now mounted
synced_more mounted k old now placed before stay here number less = elim (cases_eq number k) [
  | inl same ↦ subst (λ n. IfSome (directory_at mounted n) (λ d. now n ≡ false)) (sym same) (by_number now k (directory_at mounted k) (placed.each k) here)
  | inr other ↦ still old now number (directory_at mounted number) stay (before number (omega (arith, less, other)))
]

-- and that of the item that stands there
item_there : (mounted : List (Option Directory)) (k : ℕ) (place : Option Directory) → k < length mounted → place ≡ get_or mounted k place → directory_at mounted k ≡ place
item_there mounted k place within is = get_or_default mounted k None place within ∙ sym is

pub item_synced : (mounted : List (Option Directory)) (k : ℕ) (place : Option Directory) (old now : ℕ → Bool) → AreInPlace mounted → k < length mounted → place ≡ get_or mounted k place
    → AreSyncedTo k old mounted → ((n : ℕ) → old n ≡ false → now n ≡ false) → IfSome place (λ d. now d.drive ≡ false) → AreSyncedTo (k + 1) now mounted
item_synced mounted k place old now placed within is before stay here =
    let next : suc k ≡ k + 1 = omega arith in
    subst (λ n. AreSyncedTo n now mounted) next
    (synced_more mounted k old now placed before stay (subst (λ p. IfSome p (λ d. now d.drive ≡ false)) (sym (item_there mounted k place within is)) here))

-- a drive in a place of the list isn't that of a number without a directory
elsewhere : (mounted : List (Option Directory)) (k number : ℕ) (d : Directory) → AreInPlace mounted → directory_at mounted k ≡ Some d → directory_at mounted number ≡ None → number ≢ d.drive
elsewhere mounted k number d placed is none same =
    let its : d.drive ≡ k = subst (λ found. IfSome found (λ one. one.drive ≡ k)) is (placed.each k) in
    subst (λ found. IfSome found (λ (one : Directory). ⊥)) (sym none ∙ ap (directory_at mounted) (same ∙ its) ∙ is) tt

away_from : (number : ℕ) (place : Option Directory) (mounted : List (Option Directory)) (k : ℕ) → directory_at mounted k ≡ place → AreInPlace mounted → directory_at mounted number ≡ None → IfSome place (λ d. number ≢ d.drive)
away_from number None mounted k is placed none = tt
away_from number (Some d) mounted k is placed none = elsewhere mounted k number d placed is none

-- so it is of none whose place is free
pub away : (mounted : List (Option Directory)) (k number : ℕ) (place : Option Directory) → AreInPlace mounted → k < length mounted → place ≡ get_or mounted k place → directory_at mounted number ≡ None
    → IfSome place (λ d. number ≢ d.drive)
away mounted k number place placed within is none = away_from number place mounted k (item_there mounted k place within is) placed none

-- nor of one after it
other_number : (number k : ℕ) (place : Option Directory) → k < number → IfSome place (λ d. d.drive ≡ k) → IfSome place (λ d. number ≢ d.drive)
other_number number k None behind its = tt
other_number number k (Some d) behind its = λ same. omega (arith, behind, same, its)

its_place : (mounted : List (Option Directory)) (k : ℕ) (place : Option Directory) → AreInPlace mounted → directory_at mounted k ≡ place → IfSome place (λ d. d.drive ≡ k)
its_place mounted k place placed is = subst (λ found. IfSome found (λ d. d.drive ≡ k)) is (placed.each k)

pub behind_place : (mounted : List (Option Directory)) (k number : ℕ) (place : Option Directory) → AreInPlace mounted → k < length mounted → place ≡ get_or mounted k place → k < number
    → IfSome place (λ d. number ≢ d.drive)
behind_place mounted k number place placed within is behind =
    other_number number k place behind (its_place mounted k place placed (item_there mounted k place within is))

-- the drive of a place that failed is as it was, and so are those after it
from_here : (k : ℕ) (place : Option Directory) (old now : ℕ → Bool) → is_some place ≡ true → IfSome place (λ d. d.drive ≡ k) → IfSome place (λ d. now d.drive ≡ old d.drive)
    → ((number : ℕ) → IfSome place (λ d. number ≢ d.drive) → now number ≡ old number) → (number : ℕ) → k ≤ number → now number ≡ old number
from_here k None old now some its failed beside number from = absurd (false≢true some)
from_here k (Some d) old now some its failed beside number from = elim (cases_eq number d.drive) [
  | inl same ↦ ap now same ∙ failed ∙ ap old (sym same)
  | inr apart ↦ beside number apart
]

still_to : (mounted : List (Option Directory)) (k : ℕ) (old now : ℕ → Bool) → AreSyncedTo k old mounted → ((n : ℕ) → old n ≡ false → now n ≡ false) → AreSyncedTo k now mounted
still_to mounted k old now synced stay number less = still old now number (directory_at mounted number) stay (synced number less)

one_place : (place : Option Directory) → is_some place ≡ true → ◌≡◌ {A = ℕ} (if is_some place then 1 else 0) 1
one_place None some = absurd (false≢true some)
one_place (Some d) some = refl

-- with the next place, one more where one is mounted in it
counted_more : (mounted : List (Option Directory)) (k : ℕ) (place : Option Directory) → k < length mounted → place ≡ get_or mounted k place
    → mounted_count (take (k + 1) mounted) ≡ mounted_count (take k mounted) + (if is_some place then 1 else 0)
counted_more mounted k place within is =
    let one : Option Directory → ℕ = λ d. if is_some d then 1 else 0 in
    sum_by_more one mounted k place within ∙ ap (λ d. mounted_count (take k mounted) + one d) (sym is)

pub steps_more : (mounted : List (Option Directory)) (k : ℕ) (place : Option Directory) (steps between behind : ℕ) → k < length mounted → place ≡ get_or mounted k place
    → between ≡ steps + mounted_count (take k mounted) → behind ≡ between + (if is_some place then 1 else 0) → behind ≡ steps + mounted_count (take (k + 1) mounted)
steps_more mounted k place steps between behind within is calls more = omega (arith, calls, more, counted_more mounted k place within is)

nobody : (place : Option Directory) → ◌≡◌ {A = ℕ} (if is_some place then 1 else 0) 0 → place ≡ None
nobody None none = refl
nobody (Some d) none = absurd (omega (arith, none))

pub none_more : {D : Type 0} (mounted : List (Option Directory)) (k : ℕ) (place : Option Directory) (first old now : D) → k < length mounted → place ≡ get_or mounted k place
    → (mounted_count (take k mounted) ≡ 0 → old ≡ first) → (place ≡ None → now ≡ old) → mounted_count (take (k + 1) mounted) ≡ 0 → now ≡ first
none_more mounted k place first old now within is before here none =
    let more = counted_more mounted k place within is in
    here (nobody place (omega (arith, more, none))) ∙ before (omega (arith, more, none))

pub some_mounted : (mounted : List (Option Directory)) (k : ℕ) (place : Option Directory) → k < length mounted → place ≡ get_or mounted k place → is_some place ≡ true → 0 < mounted_count mounted
some_mounted mounted k place within is some =
    omega (arith, one_place place some, counted_more mounted k place within is, sum_by-take-le (λ (d : Option Directory). if is_some d then 1 else 0) mounted (k + 1))

-- no more are mounted in the first places than in all
pub fewer_mounted : (mounted : List (Option Directory)) (k steps steps' : ℕ) → steps' ≡ steps + mounted_count (take k mounted) → steps' ≤ steps + mounted_count mounted
fewer_mounted mounted k steps steps' calls = omega (arith, calls, sum_by-take-le (λ (d : Option Directory). if is_some d then 1 else 0) mounted k)

pub stopped_there : (mounted : List (Option Directory)) (k : ℕ) (place : Option Directory) (first old now : ℕ → Bool) (steps between behind : ℕ) → AreInPlace mounted → k < length mounted
    → place ≡ get_or mounted k place → is_some place ≡ true → AreSyncedTo k old mounted → ((n : ℕ) → old n ≡ false → now n ≡ false) → IfSome place (λ d. now d.drive ≡ old d.drive)
    → ((number : ℕ) → IfSome place (λ d. number ≢ d.drive) → now number ≡ old number) → ((number : ℕ) → k ≤ number → old number ≡ first number)
    → between ≡ steps + mounted_count (take k mounted) → behind ≡ between + (if is_some place then 1 else 0)
    → StopsAtDrive mounted first now steps behind
stopped_there mounted k place first old now steps between behind placed within is some synced stay failed beside rest calls more =
    let there : directory_at mounted k ≡ place = item_there mounted k place within is in
    let counted : mounted_count (take (k + 1) mounted) ≡ mounted_count (take k mounted) + 1 =
    count_by_more_yes (λ (d : Option Directory). is_some d) mounted k place within (ap is_some (sym is) ∙ some) in
    let one = one_place place some in
    record {
      drive = k;
      there = ap is_some there ∙ some;
      front = still_to mounted k old now synced stay;
      rest = λ number from. from_here k place old now some (its_place mounted k place placed there) failed beside number from ∙ rest number from;
      calls = omega (arith, more, calls, counted, one);
    }
