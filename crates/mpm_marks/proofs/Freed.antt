-- Open files on the drives of a mask that are given back, drive after drive.
use Rattle.std.proofs.Common.{◌≡◌, ◌∙◌, refl, sym, ap, ℕ, ◌+◌, ◌<◌, ◌≤◌, ◌%◌, ◌^◌, Bool, true, false, not, ◌&&◌, ◌||◌, cond, List, [], ◌∷◌, Option, Some, None, arith}
use Rattle.std.specs.Prelude.{nat_eq, nat_lt}
use Rattle.std.proofs.lemmas.Bool.Decides.{nat_tests}
use Rattle.std.proofs.Math.Path.{fun_ext}
use Rattle.std.proofs.Math.Nat.{pow-le-pow_right, div-eq_of_lt}
use Rattle.std.proofs.lemmas.Bool.{eqb-true}
use Rattle.mpm_opens.specs.declared.kinds.FileKey.{FileKey}
use Rattle.mpm_opens.specs.declared.kinds.Item.{Item}
use Rattle.mpm_opens.specs.declared.kinds.RecordLock.{RecordLock}
use Rattle.mpm_opens.specs.Kinds.{is_on_drive}
use Rattle.mpm_opens.specs.Items.{left_in, items_without}
use Rattle.mpm_opens.specs.Locks.{locks_without, is_lock_among}
use Rattle.mpm_opens.specs.Opens.{OpenFiles, given_back}
use Rattle.mpm_opens.proofs.GivingLaws.{given_back_twice}
use Rattle.mpm_marks.specs.Marks.{is_bit}

-- the drives of a mask below one
abbrev pub freed : ℕ → ℕ → FileKey → Bool
freed mask k key = nat_lt key.drive k && is_bit mask key.drive

-- where no file is given back, all stay
abbrev pub no_file : FileKey → Bool
no_file key = false

item_kept : (item : Item) (own : Bool) → cond (own && false) None (Some item) ≡ Some item
item_kept item true = refl
item_kept item false = refl

place_kept : (p : ℕ) (place : Option Item) → left_in p no_file place ≡ place
place_kept p None = refl
place_kept p (Some item) = item_kept item (nat_eq item.process p)

items_kept : (items : List (Option Item)) (p : ℕ) → items_without items p no_file ≡ items
unfolding items_without
items_kept [] p = refl
items_kept (x ∷ xs) p = ap (λ y. y ∷ items_without xs p no_file) (place_kept p x) ∙ ap (λ rest. x ∷ rest) (items_kept xs p)

lock_kept : (lock : RecordLock) (rest : List RecordLock) (own : Bool) → cond (not (own && false)) (lock ∷ rest) rest ≡ lock ∷ rest
lock_kept lock rest true = refl
lock_kept lock rest false = refl

locks_kept : (locks : List RecordLock) (p : ℕ) → locks_without locks p (is_lock_among no_file) ≡ locks
unfolding locks_without
locks_kept [] p = refl
locks_kept (lock ∷ locks) p =
    lock_kept lock (locks_without locks p (is_lock_among no_file)) (nat_eq lock.owner p) ∙ ap (λ (rest : List RecordLock). lock ∷ rest) (locks_kept locks p)

pub all_kept : (opens : OpenFiles) (p : ℕ) → given_back opens p no_file ≡ opens
unfolding given_back
all_kept opens p =
    ap (λ items. record { items = items; locks = locks_without opens.locks p (is_lock_among no_file) }) (items_kept opens.items p)
    ∙ ap (λ locks. record opens { locks = locks }) (locks_kept opens.locks p)

-- tests that say the same give back the same
pub given_alike : (opens : OpenFiles) (p : ℕ) (a b : FileKey → Bool) → ((key : FileKey) → a key ≡ b key) → given_back opens p a ≡ given_back opens p b
given_alike opens p a b same = ap (given_back opens p) (fun_ext same)

below_none : (d : ℕ) → nat_lt d 0 ≡ false
below_none d = grind (arith, nat_tests)

pub no_drive_freed : (opens : OpenFiles) (p mask : ℕ) → opens ≡ given_back opens p (freed mask 0)
no_drive_freed opens p mask =
    sym (given_alike opens p (freed mask 0) no_file (λ key. ap (λ b. b && is_bit mask key.drive) (below_none key.drive)) ∙ all_kept opens p)

-- one drive more
below_next : (d k : ℕ) → nat_lt d (k + 1) ≡ (nat_lt d k || nat_eq d k)
below_next d k = grind (arith, nat_tests)

with_bit : (below same bit : Bool) → (same ≡ true → bit ≡ true) → ((below && bit) || same) ≡ ((below || same) && bit)
with_bit true true bit is = ap (λ b. b || true) (is refl) ∙ sym (is refl)
with_bit true false true is = refl
with_bit true false false is = refl
with_bit false true bit is = sym (is refl)
with_bit false false bit is = refl

without_bit : (below same bit : Bool) → (same ≡ true → bit ≡ false) → (below && bit) ≡ ((below || same) && bit)
without_bit true same bit is = refl
without_bit false true bit is = sym (is refl)
without_bit false false bit is = refl

drive_freed : (initial : OpenFiles) (p mask k : ℕ) (bit : Bool) → is_bit mask k ≡ bit
    → cond bit (given_back (given_back initial p (freed mask k)) p (is_on_drive k)) (given_back initial p (freed mask k)) ≡ given_back initial p (freed mask (k + 1))
drive_freed initial p mask k true is =
    given_back_twice initial p (freed mask k) (is_on_drive k)
    ∙ given_alike initial p (λ key. freed mask k key || is_on_drive k key) (freed mask (k + 1)) (λ key.
    with_bit (nat_lt key.drive k) (nat_eq key.drive k) (is_bit mask key.drive) (λ e. ap (is_bit mask) (eqb-true key.drive k e) ∙ is)
    ∙ ap (λ b. b && is_bit mask key.drive) (sym (below_next key.drive k)))
drive_freed initial p mask k false is =
    given_alike initial p (freed mask k) (freed mask (k + 1)) (λ key.
    without_bit (nat_lt key.drive k) (nat_eq key.drive k) (is_bit mask key.drive) (λ e. ap (is_bit mask) (eqb-true key.drive k e) ∙ is)
    ∙ ap (λ b. b && is_bit mask key.drive) (sym (below_next key.drive k)))

pub one_drive_freed : (initial old new : OpenFiles) (p mask k : ℕ) → old ≡ given_back initial p (freed mask k)
    → new ≡ cond (is_bit mask k) (given_back old p (is_on_drive k)) old → new ≡ given_back initial p (freed mask (k + 1))
one_drive_freed initial old new p mask k before e =
    e ∙ ap (λ opens. cond (is_bit mask k) (given_back opens p (is_on_drive k)) opens) before ∙ drive_freed initial p mask k (is_bit mask k) refl

-- a word has no bit above the sixteenth
no_bit : (mask d : ℕ) → mask < 65536 → 16 ≤ d → is_bit mask d ≡ false
no_bit mask d fits high =
    let few : 65536 ≤ 2 ^ d = pow-le-pow_right (omega arith) high in
    ap (λ q. not (nat_eq (q % 2) 0)) (div-eq_of_lt (omega (arith, fits, few)))

by_drive : (mask d : ℕ) (below : Bool) → mask < 65536 → nat_lt d 16 ≡ below → (below && is_bit mask d) ≡ is_bit mask d
by_drive mask d true fits e = refl
by_drive mask d false fits e = sym (no_bit mask d fits (grind (arith, nat_tests)))

pub all_drives_freed : (initial now : OpenFiles) (p mask k : ℕ) → mask < 65536 → now ≡ given_back initial p (freed mask k) → k ≡ 16
    → now ≡ given_back initial p (λ key. is_bit mask key.drive)
all_drives_freed initial now p mask k fits before over =
    before ∙ ap (λ n. given_back initial p (freed mask n)) over
    ∙ given_alike initial p (freed mask 16) (λ key. is_bit mask key.drive) (λ key. by_drive mask key.drive (nat_lt key.drive 16) fits refl)
