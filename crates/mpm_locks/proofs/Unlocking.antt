-- Records that are freed, one after the other.
use Rattle.std.proofs.Common.{◌≡◌, ◌∙◌, refl, sym, ap, ℕ, ◌+◌, Bool, true, false, ◌==◌, ◌&&◌, ◌||◌, not, cond, List, [], ◌∷◌, filter, arith}
use Rattle.std.proofs.lemmas.Bool.{and_left, and_right}
use Rattle.std.proofs.lemmas.Bool.Decides.{nat_tests}
use Rattle.mpm_opens.specs.declared.kinds.FileKey.{FileKey}
use Rattle.mpm_opens.specs.Kinds.{is_same_file}
use Rattle.mpm_opens.specs.Locks.{is_owned_by, is_lock_on, is_lock_given_back, locks_without}
use Rattle.mpm_opens.specs.Opens.{OpenFiles, IsLive, process_of, file_of, unlocked, LeavesOthers}
use Rattle.mpm_opens.proofs.OthersLaws.{unlocked_leaves}
use Rattle.mpm_locks.specs.Locks.{is_within, is_lock_within, unlocking}

-- a list of which all is kept, and one of which is kept what passes two tests
all_kept : {X : Type 0} (test : X → Bool) → ((x : X) → test x ≡ true) → (xs : List X) → filter test xs ≡ xs
all_kept test each [] = refl
all_kept test each (x ∷ xs) = ap (λ b. cond b (x ∷ filter test xs) (filter test xs)) (each x) ∙ ap (λ ys. x ∷ ys) (all_kept test each xs)

kept_twice : {X : Type 0} (p q both : X → Bool) → ((x : X) → (p x && q x) ≡ both x) → (xs : List X) → filter q (filter p xs) ≡ filter both xs
kept_twice p q both each [] = refl
kept_twice p q both each (x ∷ xs) =
    one_kept (p x) q x (filter p xs) ∙ ap (λ b. cond b (x ∷ filter q (filter p xs)) (filter q (filter p xs))) (each x)
    ∙ ap (λ ys. cond (both x) (x ∷ ys) ys) (kept_twice p q both each xs)
  where
    one_kept : {X : Type 0} (b : Bool) (q : X → Bool) (x : X) (xs : List X) → filter q (cond b (x ∷ xs) xs) ≡ cond (b && q x) (x ∷ filter q xs) (filter q xs)
    one_kept true q x xs = refl
    one_kept false q x xs = refl

-- no record lies within none, and within one more lies the next
within_none : (n number : ℕ) → is_within n 0 number ≡ false
within_none n number = grind (arith, nat_tests)

within_more : (n k number : ℕ) → (is_within n k number || (number == n + k)) ≡ is_within n (k + 1) number
within_more n k number = grind (arith, nat_tests)

-- a lock that is neither among some nor the next stays
neither : (own among next on : Bool) → (not (own && (among && on)) && not (own && (next && on))) ≡ not (own && ((among || next) && on))
neither false among next on = refl
neither true false next on = refl
neither true true next true = refl
neither true true true false = refl
neither true true false false = refl

unlocking_none : (opens : OpenFiles) (p : ℕ) (file : FileKey) (n : ℕ) → opens ≡ unlocking opens p file n 0
unfolding unlocking locks_without
unlocking_none opens p file n =
    ap (λ locks. record opens { locks = locks })
    (sym (all_kept (λ lock. not (is_lock_given_back p (is_lock_within file n 0) lock))
    (λ lock. ap not (and_right (is_owned_by p lock) (is_lock_within file n 0 lock)
    (and_left (is_within n 0 lock.number) (is_same_file lock.file file) (within_none n lock.number))))
    opens.locks))

unlocking_more : (opens : OpenFiles) (p : ℕ) (file : FileKey) (n k : ℕ) → unlocked (unlocking opens p file n k) p file (n + k) ≡ unlocking opens p file n (k + 1)
unfolding unlocking unlocked locks_without
unlocking_more opens p file n k =
    ap (λ locks. record opens { locks = locks })
    (kept_twice (λ lock. not (is_lock_given_back p (is_lock_within file n k) lock)) (λ lock. not (is_lock_given_back p (is_lock_on file (n + k)) lock))
    (λ lock. not (is_lock_given_back p (is_lock_within file n (k + 1)) lock))
    (λ lock. neither (is_owned_by p lock) (is_within n k lock.number) (lock.number == n + k) (is_same_file lock.file file)
    ∙ ap (λ b. not (is_owned_by p lock && (b && is_same_file lock.file file))) (within_more n k lock.number))
    opens.locks)

-- so many were freed by way of an open file, which stays
pub record FreesTo (initial now : OpenFiles) (item first k : ℕ) : Type 0 where
  pub freed : now ≡ unlocking initial (process_of initial item) (file_of initial item) first k
  pub live : IsLive now item

pub none_freed : (opens : OpenFiles) (item first : ℕ) → IsLive opens item → FreesTo opens opens item first 0
none_freed opens item first live = record { freed = unlocking_none opens (process_of opens item) (file_of opens item) first; live = live }

-- its process and its file are as they were
same_item : (initial old : OpenFiles) (item first k n : ℕ) → FreesTo initial old item first k
    → unlocked old (process_of old item) (file_of old item) n
    ≡ unlocked (unlocking initial (process_of initial item) (file_of initial item) first k) (process_of initial item) (file_of initial item) n
unfolding unlocking
same_item initial old item first k n before = ap (λ o. unlocked o (process_of o item) (file_of o item) n) before.freed

pub one_freed : (initial old new : OpenFiles) (item first k m : ℕ) → FreesTo initial old item first k → m ≡ k
    → new ≡ unlocked old (process_of old item) (file_of old item) (first + m) → IsLive new item → FreesTo initial new item first (k + 1)
one_freed initial old new item first k m before at e live = record {
  freed = e ∙ ap (λ n. unlocked old (process_of old item) (file_of old item) (first + n)) at ∙ same_item initial old item first k (first + k) before
      ∙ unlocking_more initial (process_of initial item) (file_of initial item) first k;
  live = live;
}

pub all_freed : (initial now : OpenFiles) (item first count k : ℕ) → FreesTo initial now item first k → k ≡ count
    → now ≡ unlocking initial (process_of initial item) (file_of initial item) first count
all_freed initial now item first count k before ended = before.freed ∙ ap (unlocking initial (process_of initial item) (file_of initial item) first) ended

-- no open file changes by it, as none does by one record
pub unlocking_leaves : (opens : OpenFiles) (p : ℕ) (file : FileKey) (n count : ℕ) → LeavesOthers p opens (unlocking opens p file n count)
unfolding unlocking unlocked
unlocking_leaves opens p file n count =
    let one = unlocked_leaves opens p file n in
    record { stays = one.stays; was = one.was }
