-- What is left after a process gives back files, closes one, or frees a record: its own is gone, and all else is as it was.
use Rattle.std.proofs.Common.{◌≡◌, ◌≢◌, ◌∙◌, ℕ, zero, suc, ◌<◌, ◌≤◌, Bool, true, false, not, ◌==◌, ◌&&◌, if◌then◌else◌, List, [], ◌∷◌, Option, Some, None, length, filter, get_or, set, sym, refl, ap, arith}
use Rattle.std.specs.Prelude.{IsSome, count_by, nat_lt}
use Rattle.std.specs.List.{find}
use Rattle.std.proofs.lemmas.Bool.{false≢true, and_parts, eqb-true}
use Rattle.std.proofs.lemmas.Bool.Decides.{nat_tests}
use Rattle.std.proofs.lemmas.List.{get_or-set_other}
use Rattle.std.proofs.lemmas.List.Folds.{list_any_at}
use Rattle.std.proofs.lemmas.Option.{same_Some}
use Rattle.mpm_base.proofs.CountLaws.{count_cons, one_if_true, one_if_false}
use Rattle.mpm_opens.specs.declared.kinds.FileKey.{FileKey}
use Rattle.mpm_opens.specs.declared.kinds.Item.{Item}
use Rattle.mpm_opens.specs.declared.kinds.RecordLock.{RecordLock}
use Rattle.mpm_opens.specs.Kinds.{is_same_file, is_file}
use Rattle.mpm_opens.specs.Items.{place_at, item_at, has_item_of, items_without, with_changed, closed_once}
use Rattle.mpm_opens.specs.Locks.{is_lock_on, owner_of, is_lock_given_back, locks_without, is_lock_among}
use Rattle.mpm_opens.specs.Opens.{OpenFiles, AreItems, AreLocks, AreOpen, IsLive, item_of, process_of, file_of, given_back, closed_at, unlocked, owner_left, HasLeft, IsClosed, is_record, HasUnlocked}
use Rattle.mpm_opens.proofs.Keys.{is_itself, same_file, file_is_itself}
use Rattle.mpm_opens.proofs.Listing.{count_set, count_filter, counts_where_any, find_kept, found_counts, not_found_where_none, none_where_not_found}
use Rattle.mpm_opens.proofs.ItemLaws.{at_same, at_other, stands_within, place_left}
use Rattle.mpm_opens.proofs.OpeningLaws.{live_stands}
use Rattle.mpm_opens.proofs.LockLaws.{whose}

-- what is found and isn't left leaves fewer that pass
dropped_step : {X : Type 0} (test keep : X → Bool) (x y : X) (ys : List X) (a b : Bool) → test y ≡ a → keep y ≡ b → keep x ≡ false
    → (find test ys ≡ Some x → count_by test (filter keep ys) < count_by test ys)
    → (if a then Some y else find test ys) ≡ Some x → count_by test (if b then y ∷ filter keep ys else filter keep ys) < count_by test (y ∷ ys)
dropped_step test keep x y ys true true passes left gone rest e = absurd (false≢true (sym gone ∙ ap keep (sym (same_Some y x e)) ∙ left))
dropped_step test keep x y ys true false passes left gone rest e =
    omega (arith, count_cons test y ys, one_if_true (test y) passes, count_filter test keep ys)
dropped_step test keep x y ys false true fails left gone rest e =
    omega (arith, rest e, count_cons test y ys, count_cons test y (filter keep ys))
dropped_step test keep x y ys false false fails left gone rest e = omega (arith, rest e, count_cons test y ys)

dropped : {X : Type 0} (test keep : X → Bool) (xs : List X) (x : X) → find test xs ≡ Some x → keep x ≡ false → count_by test (filter keep xs) < count_by test xs
dropped test keep [] x e gone = absurd (cc)
dropped test keep (y ∷ ys) x e gone = dropped_step test keep x y ys (test y) (keep y) refl refl gone (λ found. dropped test keep ys x found gone) e

-- who has a record's lock after that
kept_owner : (p owner : ℕ) (leaves : Bool) → ((owner == p) && leaves) ≡ false → Some owner ≡ owner_left leaves p (Some owner)
kept_owner p owner false e = refl
kept_owner p owner true e = sym (by_test (owner == p) (own (owner == p) e))
  where
    own : (b : Bool) → (b && true) ≡ false → b ≡ false
    own true e = absurd (cc)
    own false e = refl

    by_test : (b : Bool) → b ≡ false → (if b then None else (Some owner)) ≡ Some owner
    by_test true e = absurd (cc)
    by_test false e = refl

gone_owner : (p owner : ℕ) (leaves : Bool) → ((owner == p) && leaves) ≡ true → None ≡ owner_left leaves p (Some owner)
gone_owner p owner leaves e =
    let parts = and_parts (owner == p) leaves e in
    sym (ap (λ b. owner_left b p (Some owner)) (parts.1) ∙ ap (λ b. if b then None else (Some owner)) (parts.0))

no_owner : (p : ℕ) (leaves : Bool) → None ≡ owner_left leaves p None
no_owner p true = refl
no_owner p false = refl

-- a process's locks that pass a test are given back, one that says of each lock on a record whether it leaves
owner_without : (on keep : RecordLock → Bool) (locks : List RecordLock) (p : ℕ) (leaves : Bool) → count_by on locks ≤ 1
    → ((lock : RecordLock) → on lock ≡ true → keep lock ≡ not ((lock.owner == p) && leaves))
    → whose (find on (filter keep locks)) ≡ owner_left leaves p (whose (find on locks))
owner_without on keep locks p leaves once means = by_found (find on locks) refl
  where
    by_given : (lock : RecordLock) (b : Bool) → ((lock.owner == p) && leaves) ≡ b → find on locks ≡ Some lock
        → whose (find on (filter keep locks)) ≡ owner_left leaves p (Some lock.owner)
    by_given lock false e found =
        let passes = (found_counts on locks lock found).0 in
        ap (λ o. whose o) (find_kept on keep locks lock found (means lock passes ∙ ap not e)) ∙ kept_owner p lock.owner leaves e
    by_given lock true e found =
        let passes = (found_counts on locks lock found).0 in
        let fewer = dropped on keep locks lock found (means lock passes ∙ ap not e) in
        let none : count_by on (filter keep locks) ≡ 0 = omega (arith, fewer, once) in
        ap (λ o. whose o) (not_found_where_none on (filter keep locks) none) ∙ gone_owner p lock.owner leaves e

    by_found : (o : Option RecordLock) → find on locks ≡ o → whose (find on (filter keep locks)) ≡ owner_left leaves p (whose (find on locks))
    by_found None e =
        let none = none_where_not_found on locks e in
        let left : count_by on (filter keep locks) ≡ 0 = omega (arith, none, count_filter on keep locks) in
        ap (λ o. whose o) (not_found_where_none on (filter keep locks) left) ∙ no_owner p leaves ∙ sym (ap (λ o. owner_left leaves p (whose o)) e)
    by_found (Some lock) e = by_given lock ((lock.owner == p) && leaves) refl e ∙ sym (ap (λ o. owner_left leaves p (whose o)) e)

owners_without : (locks : List RecordLock) (p : ℕ) (test : RecordLock → Bool) → AreLocks locks → (file : FileKey) (number : ℕ) (leaves : Bool)
    → ((lock : RecordLock) → is_lock_on file number lock ≡ true → test lock ≡ leaves)
    → owner_of (locks_without locks p test) file number ≡ owner_left leaves p (owner_of locks file number)
unfolding owner_of locks_without
owners_without locks p test sound file number leaves means =
    owner_without (is_lock_on file number) (λ lock. not (is_lock_given_back p test lock)) locks p leaves (sound.once file number)
    (λ lock is. ap (λ b. not ((lock.owner == p) && b)) (means lock is))

owners_left : (locks : List RecordLock) (p : ℕ) (among : FileKey → Bool) → AreLocks locks → (file : FileKey) (number : ℕ)
    → owner_of (locks_without locks p (is_lock_among among)) file number ≡ owner_left (among file) p (owner_of locks file number)
owners_left locks p among sound file number =
    owners_without locks p (is_lock_among among) sound file number (among file)
    (λ lock is. ap among (same_file lock.file file ((and_parts (lock.number == number) (is_same_file lock.file file) is).1)))

-- a process frees a record
pub unlocks : (opens : OpenFiles) (p : ℕ) (file : FileKey) (number : ℕ) → AreOpen opens → HasUnlocked p file number opens (unlocked opens p file number)
unfolding unlocked
unlocks opens p file number are_open = record {
  items = refl;
  owners = λ other n. owners_without opens.locks p (is_lock_on file number) are_open.locks other n (is_record file number other n)
      (λ lock is.
      let same = and_parts (lock.number == n) (is_same_file lock.file other) is in
      ap (λ m. (m == number) && is_same_file lock.file file) (eqb-true lock.number n (same.0))
      ∙ ap (λ f. (n == number) && is_same_file f file) (same_file lock.file other (same.1)));
}

-- a process gives back some files
pub leaves : (opens : OpenFiles) (p : ℕ) (among : FileKey → Bool) → AreOpen opens → HasLeft p among opens (given_back opens p among)
unfolding given_back items_without
leaves opens p among are_open = record {
  items = λ number. place_left opens.items p among number;
  owners = λ file number. owners_left opens.locks p among are_open.locks file number;
}

-- no two places have a process's item of a file
passes_within : {X : Type 0} (test : X → Bool) (xs : List X) (i : ℕ) (d : X) → test d ≡ false → test (get_or xs i d) ≡ true → i < length xs
passes_within test [] i d blank e = absurd (false≢true (sym blank ∙ e))
passes_within test (x ∷ xs) zero d blank e = omega arith
passes_within test (x ∷ xs) (suc i) d blank e = omega (arith, passes_within test xs i d blank e)

two_pass : {X : Type 0} (test : X → Bool) (xs : List X) (i j : ℕ) (d : X) → test d ≡ false → j ≢ i → test (get_or xs i d) ≡ true → test (get_or xs j d) ≡ true
    → 2 ≤ count_by test xs
two_pass test xs i j d blank apart here there =
    let within = passes_within test xs i d blank here in
    let also : test (get_or (set xs i d) j d) ≡ true = ap test (get_or-set_other xs i j d d apart) ∙ there in
    let some = counts_where_any test (set xs i d) (list_any_at test (set xs i d) j d (passes_within test (set xs i d) j d blank also) also) in
    omega (arith, some, count_set test xs i d d within, one_if_true (test (get_or xs i d)) here, one_if_false (test d) blank)

pub alone : (items : List (Option Item)) (number : ℕ) (k : ℕ) → AreItems items → IsSome (place_at items number) → k ≢ number
    → has_item_of (item_at items number).process (item_at items number).file (place_at items k) ≡ false
alone items number k sound live apart = by_test (has_item_of (item_at items number).process (item_at items number).file (place_at items k)) refl
  where
    here : has_item_of (item_at items number).process (item_at items number).file (place_at items number) ≡ true
    here =
        ap (has_item_of (item_at items number).process (item_at items number).file) (live_stands (place_at items number) live)
        ∙ ap (λ b. b && is_same_file (item_at items number).file (item_at items number).file) (is_itself (item_at items number).process)
        ∙ file_is_itself (item_at items number).file

    by_test : (b : Bool) → has_item_of (item_at items number).process (item_at items number).file (place_at items k) ≡ b
        → b ≡ false
    by_test true e =
        absurd (omega (
          arith,
          sound.once (item_at items number).process (item_at items number).file,
          two_pass (has_item_of (item_at items number).process (item_at items number).file) items number k None refl apart here e,
        ))
    by_test false e = refl

pub more_than_one : (n : ℕ) → nat_lt 1 n ≡ true → 1 < n
more_than_one n e = grind (arith, nat_tests)

at_most_one : (n : ℕ) → nat_lt 1 n ≡ false → n ≤ 1
at_most_one n e = grind (arith, nat_tests)

-- an item is closed
closes_again : (opens : OpenFiles) (number : ℕ) → IsLive opens number → 1 < (item_of opens number).count
    → IsClosed number opens (record opens { items = with_changed closed_once opens.items number })
closes_again opens number live more =
    let within = stands_within opens.items number (item_of opens number) (live_stands (place_at opens.items number) live) in
    record {
      others = λ k apart. at_other opens.items number k (Some (closed_once (item_of opens number))) apart;
      counted = λ _. at_same opens.items number (Some (closed_once (item_of opens number))) within;
      kept = λ _. refl;
      gone = λ last. absurd (omega (arith, last, more));
      owners = λ last. absurd (omega (arith, last, more));
    }

closes_last : (opens : OpenFiles) (number : ℕ) → AreOpen opens → IsLive opens number → (item_of opens number).count ≤ 1
    → IsClosed number opens (given_back opens (process_of opens number) (is_file (file_of opens number)))
unfolding given_back items_without
closes_last opens number are_open live last =
    let item = item_of opens number in
    let stands = live_stands (place_at opens.items number) live in
    let here = ap (has_item_of item.process item.file) stands
    ∙ ap (λ b. b && is_same_file item.file item.file) (is_itself item.process) ∙ file_is_itself item.file in
    record {
      others = λ k apart. place_left opens.items item.process (is_file item.file) k
          ∙ ap (λ b. if b then None else place_at opens.items k) (alone opens.items number k are_open.items live apart);
      counted = λ more. absurd (omega (arith, last, more));
      kept = λ more. absurd (omega (arith, last, more));
      gone = λ _. place_left opens.items item.process (is_file item.file) number
          ∙ ap (λ b. if b then None else place_at opens.items number) here;
      owners = λ _ file n. owners_left opens.locks item.process (is_file item.file) are_open.locks file n;
    }

pub closes : (opens : OpenFiles) (number : ℕ) → AreOpen opens → IsLive opens number → IsClosed number opens (closed_at opens number)
unfolding closed_at
closes opens number are_open live = by_count (nat_lt 1 (item_of opens number).count) refl
  where
    by_count : (b : Bool) → nat_lt 1 (item_of opens number).count ≡ b
        → IsClosed number opens (if b then record opens { items = with_changed closed_once opens.items number }
        else (given_back opens (process_of opens number) (is_file (file_of opens number))))
    by_count true e = closes_again opens number live (more_than_one (item_of opens number).count e)
    by_count false e = closes_last opens number are_open live (at_most_one (item_of opens number).count e)
