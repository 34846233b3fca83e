-- What is given back twice in a row is given back once, by either test: so files by a pattern, or drives by a mask, one by one.
use Rattle.std.proofs.Common.{◌≡◌, ◌∙◌, ℕ, Bool, true, false, not, ◌==◌, ◌&&◌, ◌||◌, if◌then◌else◌, List, [], ◌∷◌, Option, Some, None, map, refl, ap}
use Rattle.mpm_opens.specs.declared.kinds.FileKey.{FileKey}
use Rattle.mpm_opens.specs.declared.kinds.Item.{Item}
use Rattle.mpm_opens.specs.declared.kinds.RecordLock.{RecordLock}
use Rattle.mpm_opens.specs.Items.{left_in, items_without}
use Rattle.mpm_opens.specs.Locks.{locks_without, is_lock_among}
use Rattle.mpm_opens.specs.Opens.{OpenFiles, given_back}

-- one place
left_twice_step : (p : ℕ) (b : FileKey → Bool) (item : Item) (own x : Bool) → (item.process == p) ≡ own
    → left_in p b (if own && x then None else (Some item)) ≡ (if own && (x || b item.file) then None else (Some item))
left_twice_step p b item true true e = refl
left_twice_step p b item true false e = ap (λ c. if c && b item.file then None else (Some item)) e
left_twice_step p b item false x e = ap (λ c. if c && b item.file then None else (Some item)) e

left_twice : (p : ℕ) (a b : FileKey → Bool) (place : Option Item) → left_in p b (left_in p a place) ≡ left_in p (λ file. a file || b file) place
left_twice p a b None = refl
left_twice p a b (Some item) = left_twice_step p b item (item.process == p) (a item.file) refl

items_twice : (items : List (Option Item)) (p : ℕ) (a b : FileKey → Bool)
    → items_without (items_without items p a) p b ≡ items_without items p (λ file. a file || b file)
unfolding items_without
items_twice [] p a b = refl
items_twice (x ∷ xs) p a b =
    ap (λ y. y ∷ map (left_in p b) (map (left_in p a) xs)) (left_twice p a b x)
    ∙ ap (λ rest. left_in p (λ file. a file || b file) x ∷ rest) (items_twice xs p a b)

-- one lock
locks_twice_step : (p : ℕ) (b : FileKey → Bool) (lock : RecordLock) (rest all : List RecordLock) (own x : Bool) → (lock.owner == p) ≡ own
    → locks_without rest p (is_lock_among b) ≡ all
    → locks_without (if not (own && x) then lock ∷ rest else rest) p (is_lock_among b) ≡ (if not (own && (x || b lock.file)) then lock ∷ all else all)
unfolding locks_without
locks_twice_step p b lock rest all true true e same = same
locks_twice_step p b lock rest all true false e same =
    ap (λ c. if not (c && b lock.file) then lock ∷ locks_without rest p (is_lock_among b) else locks_without rest p (is_lock_among b)) e
    ∙ ap (λ ls. if not (b lock.file) then lock ∷ ls else ls) same
locks_twice_step p b lock rest all false x e same =
    ap (λ c. if not (c && b lock.file) then lock ∷ locks_without rest p (is_lock_among b) else locks_without rest p (is_lock_among b)) e
    ∙ ap (λ (ls : List RecordLock). lock ∷ ls) same

locks_twice : (locks : List RecordLock) (p : ℕ) (a b : FileKey → Bool)
    → locks_without (locks_without locks p (is_lock_among a)) p (is_lock_among b) ≡ locks_without locks p (is_lock_among (λ file. a file || b file))
unfolding locks_without
locks_twice [] p a b = refl
locks_twice (lock ∷ locks) p a b =
    locks_twice_step p b lock (locks_without locks p (is_lock_among a)) (locks_without locks p (is_lock_among (λ file. a file || b file)))
    (lock.owner == p) (a lock.file) refl (locks_twice locks p a b)

pub given_back_twice : (opens : OpenFiles) (p : ℕ) (a b : FileKey → Bool)
    → given_back (given_back opens p a) p b ≡ given_back opens p (λ file. a file || b file)
unfolding given_back
given_back_twice opens p a b =
    let with_items : List (Option Item) → OpenFiles = λ items. record { items = items; locks = locks_without (locks_without opens.locks p (is_lock_among a)) p (is_lock_among b) } in
    let with_locks : List RecordLock → OpenFiles = λ locks. record { items = items_without opens.items p (λ file. a file || b file); locks = locks } in
    ap with_items (items_twice opens.items p a b) ∙ ap with_locks (locks_twice opens.locks p a b)
