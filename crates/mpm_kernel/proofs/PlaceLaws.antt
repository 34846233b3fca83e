-- The places where a process stands: how a change of the lists, of the flags or of the clock changes their number.
use Rattle.std.proofs.Common.{◌≡◌, ◌≢◌, ℕ, ◌+◌, ◌<◌, ◌≤◌, true, false, ◌==◌, List, [], ◌∷◌, map, length, Option, Some, None, refl, ap, arith}
use Rattle.std.specs.Prelude.{count_by}
use Rattle.std.specs.List.{AllByRecursion}
use Rattle.std.proofs.lemmas.Bool.Decides.{nat_tests}
use Rattle.std.proofs.lemmas.List.Sums.{sum_by-set}
use Rattle.std.proofs.lemmas.List.{length-map}
use Rattle.std.proofs.lemmas.Bool.{or_right}
use Rattle.mpm_base.proofs.CountLaws.{one_if, one_if_true, one_if_false, count_cons}
use Rattle.mpm_flags.specs.declared.flags.Flag.{Flag}
use Rattle.mpm_flags.specs.declared.flags.Flag.TheVariants.{Clear, Set, Waits}
use Rattle.mpm_flags.specs.States.{no_flags, flag_at, with_flag, without_waiter, flags_without_waiter}
use Rattle.mpm_ready.specs.Order.{Member, in_list}
pub use Rattle.mpm_dispatcher.proofs.ReadyLaws.{not_equal, moved_lists, table_moved, list_moved, list_moved_other}
use Rattle.mpm_kernel.specs.Kernel.{in_lists, is_waiter, flags_of}

-- the lists

pub in_some : (o : Option ℕ) (list : ℕ) → o ≡ Some list → in_lists o ≡ 1
unfolding in_lists
in_some None list e = absurd (cc)
in_some (Some other) list e = refl

pub in_none : (o : Option ℕ) → o ≡ None → in_lists o ≡ 0
unfolding in_lists
in_none None e = refl
in_none (Some list) e = absurd (cc)

pub in_at_most : (o : Option ℕ) → in_lists o ≤ 1
unfolding in_lists
in_at_most None = omega arith
in_at_most (Some list) = omega arith

-- the flags

pub flags_with : (flags : List Flag) (flag : ℕ) (state : Flag) (q : ℕ) → flag < length flags
    → flags_of (with_flag flags flag state) q + one_if (is_waiter q (flag_at flags flag)) ≡ flags_of flags q + one_if (is_waiter q state)
unfolding flags_of
flags_with flags flag state q h = sum_by-set (λ f. one_if (is_waiter q f)) flags flag state Clear h

flags_cons : (flag : Flag) (flags : List Flag) (q : ℕ) → flags_of (flag ∷ flags) q ≡ one_if (is_waiter q flag) + flags_of flags q
unfolding flags_of
flags_cons flag flags q = count_cons (is_waiter q) flag flags

pub flags_none : (q : ℕ) → flags_of no_flags q ≡ 0
unfolding flags_of no_flags
flags_none q = refl

flags_nil : (q : ℕ) → flags_of [] q ≡ 0
unfolding flags_of
flags_nil q = refl

without_waiter_own : (flag : Flag) (p : ℕ) → is_waiter p (without_waiter p flag) ≡ false
without_waiter_own Clear p = refl
without_waiter_own Set p = refl
without_waiter_own (Waits other) p = grind (arith, nat_tests)

without_waiter_other : (flag : Flag) (p q : ℕ) → q ≢ p → is_waiter q (without_waiter p flag) ≡ is_waiter q flag
without_waiter_other Clear p q apart = refl
without_waiter_other Set p q apart = refl
without_waiter_other (Waits other) p q apart = grind (arith, nat_tests, apart)

pub flags_without_own : (flags : List Flag) (p : ℕ) → flags_of (flags_without_waiter flags p) p ≡ 0
unfolding flags_without_waiter
flags_without_own [] p = flags_nil p
flags_without_own (flag ∷ flags) p =
    omega (arith, flags_without_own flags p, flags_cons (without_waiter p flag) (flags_without_waiter flags p) p, one_if_false _ (without_waiter_own flag p))

pub flags_without_other : (flags : List Flag) (p q : ℕ) → q ≢ p → flags_of (flags_without_waiter flags p) q ≡ flags_of flags q
unfolding flags_without_waiter
flags_without_other [] p q apart = refl
flags_without_other (flag ∷ flags) p q apart =
    omega (arith, flags_without_other flags p q apart, flags_cons (without_waiter p flag) (flags_without_waiter flags p) q, flags_cons flag flags q, ap (λ b. one_if b) (without_waiter_other flag p q apart))

pub length_without_waiter : (flags : List Flag) (p : ℕ) → length (flags_without_waiter flags p) ≡ length flags
unfolding flags_without_waiter
length_without_waiter flags p = length-map flags (without_waiter p)

-- what is so of each number of a list, by the places where it stands
pub all_by_counts : (P : ℕ → Type 0) (ps : List ℕ) → ((p : ℕ) → 0 < count_by (λ x. x == p) ps → P p) → AllByRecursion P ps
all_by_counts P [] h = tt
all_by_counts P (p ∷ ps) h =
    let itself : one_if (p == p) ≡ 1 = one_if_true (p == p) (grind (arith, nat_tests)) in
    (h p (omega (arith, itself, count_cons (λ x. x == p) p ps)), all_by_counts P ps (λ q some. h q (omega (arith, some, count_cons (λ x. x == q) p ps))))

-- and of each member of a list
pub all_members : (P : ℕ → Type 0) (ms : List Member) → ((p : ℕ) → in_list p ms ≡ true → P p) → AllByRecursion P (map (λ m. m.slot) ms)
unfolding in_list
all_members P [] h = tt
all_members P (m ∷ ms) h =
    (h m.slot (grind (arith, nat_tests)), all_members P ms (λ p there. h p (or_right (m.slot == p) (in_list p ms) there)))
