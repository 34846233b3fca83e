-- What stays so of locks as records are locked and freed, and who has them as one is locked.
use Rattle.std.proofs.Common.{◌≡◌, ◌∙◌, ℕ, ◌+◌, ◌<◌, ◌≤◌, Bool, true, false, ◌==◌, ◌&&◌, ◌||◌, if◌then◌else◌, List, [], ◌∷◌, ◌++◌, Option, Some, None, length, filter, sym, refl, ap, subst, arith, length-append}
use Rattle.std.specs.Option.{option_or}
use Rattle.std.specs.Prelude.{count_by, nat_le, option_map}
use Rattle.std.specs.List.{find}
use Rattle.std.proofs.lemmas.Bool.Decides.{nat_tests}
use Rattle.std.proofs.lemmas.List.Folds.{find-append}
use Rattle.std.proofs.lemmas.List.Sums.{length-filter, count_by-le-length}
use Rattle.std.proofs.lemmas.Bool.{and_parts, eqb-true}
use Rattle.mpm_base.proofs.CountLaws.{one_if, count_cons, one_if_true, one_if_false}
use Rattle.mpm_opens.specs.declared.kinds.FileKey.{FileKey}
use Rattle.mpm_opens.specs.declared.kinds.RecordLock.{RecordLock}
use Rattle.mpm_opens.specs.declared.kinds.LockDone.{LockDone}
use Rattle.mpm_opens.specs.declared.kinds.LockDone.TheVariants.{Locked, Other, ProcessLimit, NoRoom}
use Rattle.mpm_opens.specs.declared.limits.TheConstants.{LOCKS, LOCKS_OF_PROCESS}
use Rattle.mpm_opens.specs.Kinds.{is_same_file}
use Rattle.mpm_opens.specs.Locks.{is_lock_on, owner_of, is_owned_by, locks_of, with_lock, where_owned, lock_answer, has_limit, locked_by, locks_locked}
use Rattle.mpm_opens.specs.Opens.{OpenFiles, locked, AreLocks, is_record, HasLocked, IfLocked, UnlessLocked}
use Rattle.mpm_opens.proofs.Keys.{same_file, same_file_back, same_number_back}
use Rattle.mpm_opens.proofs.Listing.{count_append, count_filter, none_where_not_found, not_found_where_none}

pub no_locks : AreLocks []
unfolding locks_of
no_locks = record { once = λ file number. omega arith; few = λ p. omega arith; room = omega arith }

-- some are left
pub locks_left : (keep : RecordLock → Bool) (locks : List RecordLock) → AreLocks locks → AreLocks (filter keep locks)
unfolding locks_of
locks_left keep locks sound = record {
  once = λ file number. omega (arith, sound.once file number, count_filter (is_lock_on file number) keep locks);
  few = λ p. omega (arith, sound.few p, count_filter (is_owned_by p) keep locks);
  room = omega (arith, sound.room, length-filter keep locks, count_by-le-length keep locks);
}

-- nobody has a record's lock
pub nobodys : (locks : List RecordLock) (file : FileKey) (number : ℕ) → owner_of locks file number ≡ None → count_by (is_lock_on file number) locks ≡ 0
unfolding owner_of
nobodys locks file number e = none_where_not_found (is_lock_on file number) locks (not_found (find (is_lock_on file number) locks) e)
  where
    not_found : (o : Option RecordLock) → option_map (λ lock. lock.owner) o ≡ None → o ≡ None
    not_found None e = refl
    not_found (Some lock) e = absurd (cc)

-- one more
one_more : (test : RecordLock → Bool) (locks : List RecordLock) (lock : RecordLock) → count_by test (locks ++ lock ∷ []) ≡ count_by test locks + one_if (test lock)
one_more test locks lock = omega (arith, count_append test locks (lock ∷ []), count_cons test lock [])

more_once : (locks : List RecordLock) (p : ℕ) (file : FileKey) (number : ℕ) → owner_of locks file number ≡ None → AreLocks locks
    → (g : FileKey) (m : ℕ) → count_by (is_lock_on g m) (with_lock locks p file number) ≤ 1
unfolding with_lock
more_once locks p file number free sound g m = by_test ((number == m) && is_same_file file g) refl
  where
    lock : RecordLock
    lock = record { owner = p; file = file; number = number }

    its : (number == m) && is_same_file file g ≡ true → count_by (is_lock_on g m) locks ≡ 0
    its e =
        let same = and_parts (number == m) (is_same_file file g) e in
        ap (λ n. count_by (is_lock_on g n) locks) (sym (eqb-true number m (same.0)))
        ∙ ap (λ f. count_by (is_lock_on f number) locks) (sym (same_file file g (same.1))) ∙ nobodys locks file number free

    by_test : (b : Bool) → ((number == m) && is_same_file file g) ≡ b
        → count_by (is_lock_on g m) (locks ++ record { owner = p; file = file; number = number } ∷ []) ≤ 1
    by_test true e =
        omega (arith, one_more (is_lock_on g m) locks (record { owner = p; file = file; number = number }), one_if_true ((number == m) && is_same_file file g) e, its e)
    by_test false e =
        omega (arith, one_more (is_lock_on g m) locks (record { owner = p; file = file; number = number }), one_if_false ((number == m) && is_same_file file g) e, sound.once g m)

more_few : (locks : List RecordLock) (p : ℕ) (file : FileKey) (number : ℕ) → locks_of locks p < LOCKS_OF_PROCESS → AreLocks locks
    → (q : ℕ) → locks_of (with_lock locks p file number) q ≤ LOCKS_OF_PROCESS
unfolding with_lock locks_of
more_few locks p file number few sound q = by_test (p == q) refl
  where
    by_test : (b : Bool) → (p == q) ≡ b → count_by (is_owned_by q) (locks ++ record { owner = p; file = file; number = number } ∷ []) ≤ LOCKS_OF_PROCESS
    by_test true e =
        let its = ap (λ x. count_by (is_owned_by x) locks) (eqb-true p q e) in
        omega (arith, one_more (is_owned_by q) locks (record { owner = p; file = file; number = number }), one_if_true (p == q) e, its, few)
    by_test false e =
        omega (arith, one_more (is_owned_by q) locks (record { owner = p; file = file; number = number }), one_if_false (p == q) e, sound.few q)

pub locks_more : (locks : List RecordLock) (p : ℕ) (file : FileKey) (number : ℕ) → owner_of locks file number ≡ None → locks_of locks p < LOCKS_OF_PROCESS → length locks < LOCKS
    → AreLocks locks → AreLocks (with_lock locks p file number)
unfolding with_lock
locks_more locks p file number free few room sound = record {
  once = more_once locks p file number free sound;
  few = more_few locks p file number few sound;
  room = omega (arith, room, length-append locks (record { owner = p; file = file; number = number } ∷ []));
}

none_after : {X : Type 0} (o : Option X) → option_or o None ≡ o
none_after None = refl
none_after (Some x) = refl

below_where : (n limit : ℕ) → nat_le limit n ≡ false → n < limit
below_where n limit e = grind (arith, nat_tests)

-- no limit is reached
below_limits : (locks : List RecordLock) (p : ℕ) → has_limit locks p ≡ false → (locks_of locks p < LOCKS_OF_PROCESS) × (length locks < LOCKS)
below_limits locks p e = by_tests (nat_le LOCKS_OF_PROCESS (locks_of locks p)) (nat_le LOCKS (length locks)) refl refl e
  where
    by_tests : (a b : Bool) → nat_le LOCKS_OF_PROCESS (locks_of locks p) ≡ a → nat_le LOCKS (length locks) ≡ b → (a || b) ≡ false → (locks_of locks p < LOCKS_OF_PROCESS) × (length locks < LOCKS)
    by_tests true b is also e = absurd (cc)
    by_tests false true is also e = absurd (cc)
    by_tests false false is also e = (below_where (locks_of locks p) LOCKS_OF_PROCESS is, below_where (length locks) LOCKS also)

pub locks_are_locked : (locks : List RecordLock) (p : ℕ) (file : FileKey) (number : ℕ) → AreLocks locks → AreLocks (locks_locked locks p file number)
unfolding locks_locked
locks_are_locked locks p file number sound = by_owner (owner_of locks file number) refl
  where
    by_limit : (b : Bool) → has_limit locks p ≡ b → owner_of locks file number ≡ None → AreLocks (if b then locks else (with_lock locks p file number))
    by_limit true at e = sound
    by_limit false at e = locks_more locks p file number e ((below_limits locks p at).0) ((below_limits locks p at).1) sound

    by_owner : (o : Option ℕ) → owner_of locks file number ≡ o → AreLocks (locked_by locks p file number o)
    by_owner (Some owner) e = sound
    by_owner None e = by_limit (has_limit locks p) refl e

-- who has each record after one was locked
one_record : (file other : FileKey) (number n : ℕ) → is_record file number other n ≡ true → (other ≡ file) × (n ≡ number)
one_record file other number n e =
    let same = and_parts (n == number) (is_same_file other file) e in
    (same_file other file (same.1), eqb-true n number (same.0))

owners_had : (locks : List RecordLock) (p : ℕ) (file : FileKey) (number : ℕ) (other : FileKey) (n : ℕ) → owner_of locks file number ≡ Some p
    → owner_of locks other n ≡ (if is_record file number other n then Some p else owner_of locks other n)
owners_had locks p file number other n has = by_test (is_record file number other n) refl
  where
    by_test : (b : Bool) → is_record file number other n ≡ b → owner_of locks other n ≡ (if b then Some p else owner_of locks other n)
    by_test true e =
        let same = one_record file other number n e in
        ap (λ f. owner_of locks f n) (same.0) ∙ ap (owner_of locks file) (same.1) ∙ has
    by_test false e = refl

-- the process that owns a lock, if there is one
abbrev pub whose : Option RecordLock → Option ℕ
whose lock = option_map (λ l. l.owner) lock

abbrev new_lock : ℕ → FileKey → ℕ → RecordLock
new_lock p file number = record { owner = p; file = file; number = number }

owners_more : (locks : List RecordLock) (p : ℕ) (file : FileKey) (number : ℕ) (other : FileKey) (n : ℕ) → owner_of locks file number ≡ None
    → owner_of (with_lock locks p file number) other n ≡ (if is_record file number other n then Some p else owner_of locks other n)
unfolding owner_of with_lock
owners_more locks p file number other n free = by_test (is_record file number other n) refl
  where
    its : is_lock_on other n (new_lock p file number) ≡ is_record file number other n
    its = ap (λ b. b && is_same_file file other) (same_number_back number n) ∙ ap (λ b. (n == number) && b) (same_file_back file other)

    before : is_record file number other n ≡ true → find (is_lock_on other n) locks ≡ None
    before e =
        let same = one_record file other number n e in
        ap (λ f. find (is_lock_on f n) locks) (same.0) ∙ ap (λ m. find (is_lock_on file m) locks) (same.1)
        ∙ not_found_where_none (is_lock_on file number) locks (nobodys locks file number free)

    by_test : (b : Bool) → is_record file number other n ≡ b
        → whose (find (is_lock_on other n) (locks ++ new_lock p file number ∷ [])) ≡ (if b then Some p else whose (find (is_lock_on other n) locks))
    by_test true e =
        ap (λ o. whose o) (find-append (is_lock_on other n) locks (new_lock p file number ∷ [])
        ∙ ap (λ o. option_or o (find (is_lock_on other n) (new_lock p file number ∷ []))) (before e)
        ∙ ap (λ b. if b then Some (new_lock p file number) else None) (its ∙ e))
    by_test false e =
        ap (λ o. whose o) (find-append (is_lock_on other n) locks (new_lock p file number ∷ [])
        ∙ ap (λ b. option_or (find (is_lock_on other n) locks) (if b then Some (new_lock p file number) else None)) (its ∙ e)
        ∙ none_after (find (is_lock_on other n) locks))

owners_locked : (locks : List RecordLock) (p : ℕ) (file : FileKey) (number : ℕ) → lock_answer locks p file number ≡ Locked → (other : FileKey) (n : ℕ)
    → owner_of (locks_locked locks p file number) other n ≡ (if is_record file number other n then Some p else owner_of locks other n)
unfolding lock_answer locks_locked
owners_locked locks p file number granted other n = by_owner (owner_of locks file number) refl granted
  where
    its_own : (owner : ℕ) (b : Bool) → (owner == p) ≡ b → (if b then Locked else (Other owner)) ≡ Locked → owner ≡ p
    its_own owner true is e = eqb-true owner p is
    its_own owner false is e = absurd (cc)

    no_limit : (a b : Bool) → (if a then ProcessLimit else (if b then NoRoom else Locked)) ≡ Locked → (a || b) ≡ false
    no_limit true b e = absurd (cc)
    no_limit false true e = absurd (cc)
    no_limit false false e = refl

    by_owner : (o : Option ℕ) → owner_of locks file number ≡ o → where_owned locks p o ≡ Locked
        → owner_of (locked_by locks p file number o) other n ≡ (if is_record file number other n then Some p else owner_of locks other n)
    by_owner (Some owner) is e =
        owners_had locks p file number other n (is ∙ ap (λ (q : ℕ). Some q) (its_own owner (owner == p) refl e))
    by_owner None is e =
        ap (λ b. owner_of (if b then locks else (with_lock locks p file number)) other n)
        (no_limit (nat_le LOCKS_OF_PROCESS (locks_of locks p)) (nat_le LOCKS (length locks)) e)
        ∙ owners_more locks p file number other n is

-- where it isn't granted nothing changes
locks_refused : (locks : List RecordLock) (p : ℕ) (file : FileKey) (number : ℕ) → UnlessLocked (lock_answer locks p file number) (locks_locked locks p file number ≡ locks)
unfolding lock_answer locks_locked
locks_refused locks p file number = by_owner (owner_of locks file number)
  where
    by_same : (owner : ℕ) (b : Bool) → UnlessLocked (if b then Locked else (Other owner)) (locks ≡ locks)
    by_same owner true = tt
    by_same owner false = refl

    by_limits : (a b : Bool) → UnlessLocked (if a then ProcessLimit else (if b then NoRoom else Locked)) ((if a || b then locks else (with_lock locks p file number)) ≡ locks)
    by_limits true b = refl
    by_limits false true = refl
    by_limits false false = tt

    by_owner : (o : Option ℕ) → UnlessLocked (where_owned locks p o) (locked_by locks p file number o ≡ locks)
    by_owner (Some owner) = by_same owner (owner == p)
    by_owner None = by_limits (nat_le LOCKS_OF_PROCESS (locks_of locks p)) (nat_le LOCKS (length locks))

unless_locked : (done : LockDone) (P Q : Type 0) → (P → Q) → UnlessLocked done P → UnlessLocked done Q
unless_locked Locked P Q means is = tt
unless_locked (Other owner) P Q means is = means is
unless_locked ProcessLimit P Q means is = means is
unless_locked NoRoom P Q means is = means is

-- what a lock that is asked for leaves
pub refused_lock : (opens : OpenFiles) (p : ℕ) (file : FileKey) (number : ℕ) (done : LockDone) → done ≡ lock_answer opens.locks p file number
    → UnlessLocked done (locked opens p file number ≡ opens)
unfolding locked
refused_lock opens p file number done is =
    let whole : List RecordLock → OpenFiles = λ ls. record opens { locks = ls } in
    let P : LockDone → Type 0 = λ d. UnlessLocked d (locks_locked opens.locks p file number ≡ opens.locks) in
    unless_locked done (locks_locked opens.locks p file number ≡ opens.locks) (record opens { locks = locks_locked opens.locks p file number } ≡ opens)
    (λ same. ap whole same) (subst P (sym is) (locks_refused opens.locks p file number))

pub granted_lock : (opens : OpenFiles) (p : ℕ) (file : FileKey) (number : ℕ) (done : LockDone) → done ≡ lock_answer opens.locks p file number
    → IfLocked done (HasLocked p file number opens (locked opens p file number))
unfolding locked
granted_lock opens p file number Locked is = record { items = refl; owners = owners_locked opens.locks p file number (sym is) }
granted_lock opens p file number (Other owner) is = tt
granted_lock opens p file number ProcessLimit is = tt
granted_lock opens p file number NoRoom is = tt
