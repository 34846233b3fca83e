-- Who is ready stays so, and no held call of its is completed, whatever other processes do with the lists.
use Rattle.std.proofs.Common.{◌≡◌, ◌≢◌, ◌∙◌, ℕ, ◌+◌, ◌<◌, ◌≤◌, false, ◌==◌, List, [], ◌∷◌, ◌++◌, Option, Some, None, inl, inr, map, refl, sym, ap, subst, arith}
use Rattle.std.specs.List.{AllByRecursion}
use Rattle.std.proofs.lemmas.Bool.{cases_eq, cases_lt, ne_eqb, or_parts}
use Rattle.mpm_base.proofs.CountLaws.{one_if, count_cons, one_if_false, at_most_one}
use Rattle.mpm_ready.specs.Order.{Member, in_list, IsOnce}
use Rattle.mpm_ready.specs.Tables.{list_of, removed, IsTable}
use Rattle.mpm_ready.proofs.TableLaws.{table_removed, list_of_removed_other}
use Rattle.mpm_procs.specs.Table.{Table, HasSlots, Lives, process_in}
use Rattle.mpm_procs.proofs.MapLaws.{lives_below}
use Rattle.mpm_queues.specs.Handling.{read_outcome, write_outcome, woken_by}
use Rattle.mpm_queues.proofs.WaitLaws.{waits_one, read_ends_waiter, write_ends_waiter}
use Rattle.mpm_dispatcher.specs.Dispatch.{ready, ready_in, lists_ready, also_completed, with_other}
use Rattle.mpm_kernel.specs.Awaiting.{Awaits, AwaitsIn, completions}
use Rattle.mpm_kernel.specs.Kernel.{Kernel, IsSoundKernel, waits_of, dispatched}
use Rattle.mpm_kernel.proofs.PlaceLaws.{not_equal, moved_lists, table_moved, list_moved, list_moved_other}
use Rattle.mpm_kernel.proofs.Soundness.{listed_once}

-- completions

pub apart_from : (p q : ℕ) → p ≢ q → one_if (p == q) ≡ 0
apart_from p q other = one_if_false (p == q) (ne_eqb p q other)

pub one_more : (q p : ℕ) (ps : List ℕ) → completions q (ps ++ p ∷ []) ≡ completions q ps + one_if (p == q)
one_more q p [] = omega (arith, count_cons (λ x. x == q) p [])
one_more q p (r ∷ ps) = omega (arith, one_more q p ps, count_cons (λ x. x == q) r ps, count_cons (λ x. x == q) r (ps ++ p ∷ []))

-- what is so of each of them is so of one that stands there
pub one_of_all : (P : ℕ → Type 0) (q : ℕ) (ps : List ℕ) → AllByRecursion P ps → 0 < completions q ps → P q
one_of_all P q [] all some = absurd (omega (arith, some))
one_of_all P q (p ∷ ps) all some = elim (cases_eq p q) [
  | inl same ↦ subst P same all.0
  | inr other ↦ one_of_all P q ps all.1 (omega (arith, some, count_cons (λ x. x == q) p ps, apart_from p q other))
]

-- lists

ready_still : (lists : List (List Member)) (h priority q : ℕ) → IsTable lists → h < 32 → list_of lists q ≡ Some ready
    → list_of (moved_lists lists ready h priority) q ≡ Some ready
ready_still lists h priority q table below is = elim (cases_eq q h) [
  | inl same ↦ ap (list_of (moved_lists lists ready h priority)) same ∙ list_moved lists ready h priority table (omega arith) below
  | inr other ↦ list_moved_other lists ready h priority q table (omega arith) below other ∙ is
]

-- another process comes to a list, or leaves its own
pub awaits_moved : (k q : ℕ) (lists : List (List Member)) (completed : List ℕ) (list p priority : ℕ) → list < 96 → p < 32 → q ≢ p
    → Awaits k q lists completed → Awaits k q (moved_lists lists list p priority) completed
awaits_moved k q lists completed list p priority fits below other a = record {
  table = table_moved lists list p priority a.table fits below;
  few = a.few;
  at_once = λ all. list_moved_other lists list p priority q a.table fits below other ∙ a.at_once all;
}

pub awaits_removed : (k q : ℕ) (lists : List (List Member)) (completed : List ℕ) (p : ℕ) → q ≢ p → Awaits k q lists completed → Awaits k q (removed lists p) completed
awaits_removed k q lists completed p other a = record {
  table = table_removed lists p a.table;
  few = a.few;
  at_once = λ all. list_of_removed_other lists p q a.table (not_equal p q (λ e. other (sym e))) ∙ a.at_once all;
}

-- any process becomes ready
pub awaits_ready : (k q : ℕ) (lists : List (List Member)) (completed : List ℕ) (h priority : ℕ) → h < 32
    → Awaits k q lists completed → Awaits k q (moved_lists lists ready h priority) completed
awaits_ready k q lists completed h priority below a = record {
  table = table_moved lists ready h priority a.table (omega arith) below;
  few = a.few;
  at_once = λ all. ready_still lists h priority q a.table below (a.at_once all);
}

pub awaits_heir : (k q : ℕ) (heir : Option ℕ) (procs : Table) (lists : List (List Member)) (completed : List ℕ) → HasSlots procs
    → ((h : ℕ) → heir ≡ Some h → Lives procs h) → Awaits k q lists completed → Awaits k q (lists_ready heir procs lists) completed
unfolding lists_ready
awaits_heir k q None procs lists completed slots living a = a
awaits_heir k q (Some h) procs lists completed slots living a =
    awaits_ready k q lists completed h (process_in procs h).priority (lives_below procs h slots (living h refl)) a

-- the held call of a process that isn't ready is completed

few_yet : (k n : ℕ) → n ≤ k → (k ≤ n → ⊥) → n < k
few_yet k n few not = elim (cases_lt n k) [
  | inl less ↦ less
  | inr enough ↦ absurd (not enough)
]

pub awaits_completed : (k q : ℕ) (lists : List (List Member)) (completed : List ℕ) (h priority : ℕ) → h < 32 → (list_of lists h ≡ Some ready → ⊥)
    → Awaits k q lists completed → Awaits k q (moved_lists lists ready h priority) (completed ++ h ∷ [])
awaits_completed k q lists completed h priority below waits a = elim (cases_eq h q) [
  | inl same ↦
      let less = few_yet k (completions q completed) a.few (λ all. waits (ap (list_of lists) same ∙ a.at_once all)) in
      record {
        table = table_moved lists ready h priority a.table (omega arith) below;
        few = omega (arith, less, one_more q h completed, at_most_one (h == q));
        at_once = λ _. ap (list_of (moved_lists lists ready h priority)) (sym same) ∙ list_moved lists ready h priority a.table (omega arith) below;
      }
  | inr other ↦
      let count = one_more q h completed in
      let none = apart_from h q other in
      record {
        table = table_moved lists ready h priority a.table (omega arith) below;
        few = omega (arith, a.few, count, none);
        at_once = λ all. ready_still lists h priority q a.table below (a.at_once (omega (arith, all, count, none)));
      }
]

-- nobody's is left
pub awaits_none : (k q : ℕ) (lists : List (List Member)) (completed : List ℕ) → Awaits k q lists completed → Awaits k q lists []
awaits_none k q lists completed a = record { table = a.table; few = omega arith; at_once = λ all. a.at_once (omega (arith, all)) }

-- those of several that aren't ready are completed, one after the other

table_in : (procs : Table) (ps : List ℕ) (lists : List (List Member)) → AllByRecursion (λ p. p < 32) ps → IsTable lists → IsTable (ready_in procs ps lists)
unfolding ready_in
table_in procs [] lists below table = table
table_in procs (p ∷ ps) lists below table =
    table_in procs ps (moved_lists lists ready p (process_in procs p).priority) below.1 (table_moved lists ready p (process_in procs p).priority table (omega arith) below.0)

stays_in : (procs : Table) (q : ℕ) (ps : List ℕ) (lists : List (List Member)) → AllByRecursion (λ p. p < 32) ps → IsTable lists → list_of lists q ≡ Some ready
    → list_of (ready_in procs ps lists) q ≡ Some ready
unfolding ready_in
stays_in procs q [] lists below table is = is
stays_in procs q (p ∷ ps) lists below table is =
    let priority = (process_in procs p).priority in
    stays_in procs q ps (moved_lists lists ready p priority) below.1 (table_moved lists ready p priority table (omega arith) below.0) (ready_still lists p priority q table below.0 is)

joins_in : (procs : Table) (q : ℕ) (ps : List ℕ) (lists : List (List Member)) → AllByRecursion (λ p. p < 32) ps → IsTable lists → 0 < completions q ps
    → list_of (ready_in procs ps lists) q ≡ Some ready
unfolding ready_in
joins_in procs q [] lists below table some = absurd (omega (arith, some))
joins_in procs q (p ∷ ps) lists below table some =
    let priority = (process_in procs p).priority in
    let next = table_moved lists ready p priority table (omega arith) below.0 in
    elim (cases_eq p q) [
      | inl same ↦
          stays_in procs q ps (moved_lists lists ready p priority) below.1 next
          (ap (list_of (moved_lists lists ready p priority)) (sym same) ∙ list_moved lists ready p priority table (omega arith) below.0)
      | inr other ↦
          joins_in procs q ps (moved_lists lists ready p priority) below.1 next (omega (arith, some, count_cons (λ x. x == q) p ps, apart_from p q other))
    ]

pub awaits_woken : (k q : ℕ) (procs : Table) (ps : List ℕ) (lists : List (List Member)) → AllByRecursion (λ p. p < 32) ps
    → AllByRecursion (λ p. list_of lists p ≡ Some ready → ⊥) ps → completions q ps ≤ 1 → Awaits k q lists [] → Awaits k q (ready_in procs ps lists) ps
awaits_woken k q procs ps lists below waits once a = elim (cases_lt 0 (completions q ps)) [
  | inl some ↦
      let less = few_yet k 0 (omega arith) (λ all. one_of_all (λ p. list_of lists p ≡ Some ready → ⊥) q ps waits some (a.at_once (omega (arith, all)))) in
      record {
        table = table_in procs ps lists below a.table;
        few = omega (arith, less, once);
        at_once = λ _. joins_in procs q ps lists below a.table some;
      }
  | inr none ↦ record {
    table = table_in procs ps lists below a.table;
    few = omega (arith, none);
    at_once = λ all. stays_in procs q ps lists below a.table (a.at_once (omega (arith, all, none)));
  }
]

-- a list has each once

absent : (q : ℕ) (ms : List Member) → in_list q ms ≡ false → completions q (map (λ m. m.slot) ms) ≡ 0
unfolding in_list
absent q [] none = refl
absent q (m ∷ ms) none =
    let parts = or_parts (m.slot == q) (in_list q ms) none in
    omega (arith, count_cons (λ x. x == q) m.slot (map (λ n. n.slot) ms), one_if_false (m.slot == q) parts.0, absent q ms parts.1)

pub once_in_list : (q : ℕ) (ms : List Member) → IsOnce ms → completions q (map (λ m. m.slot) ms) ≤ 1
unfolding IsOnce
once_in_list q [] once = omega arith
once_in_list q (m ∷ ms) once = elim (cases_eq m.slot q) [
  | inl same ↦
      let none = absent q ms (ap (λ n. in_list n ms) (sym same) ∙ once.0) in
      omega (arith, count_cons (λ x. x == q) m.slot (map (λ n. n.slot) ms), at_most_one (m.slot == q), none)
  | inr other ↦
      omega (arith, count_cons (λ x. x == q) m.slot (map (λ n. n.slot) ms), apart_from m.slot q other, once_in_list q ms once.1)
]

pub one_alone : (q p : ℕ) → completions q (p ∷ []) ≤ 1
one_alone q p = omega (arith, count_cons (λ x. x == q) p [], at_most_one (p == q))

-- who waits isn't ready

pub waits_apart : (kernel : Kernel) (w : ℕ) → IsSoundKernel kernel → 0 < waits_of kernel w → list_of kernel.dispatcher.lists w ≡ Some ready → ⊥
waits_apart kernel w s some is = omega (arith, some, listed_once kernel w ready s is)

-- the held call of another one at a queue is completed

pub record IsHeld (kernel : Kernel) (w : ℕ) : Type 0 where
  pub below : w < 32
  pub waits : list_of kernel.dispatcher.lists w ≡ Some ready → ⊥

held_at_queue : (kernel : Kernel) (w : ℕ) → IsSoundKernel kernel → 0 < waits_of kernel w → IsHeld kernel w
held_at_queue kernel w s some = record {
  below = lives_below kernel.dispatcher.procs w s.slots (s.live w (omega (arith, some)));
  waits = waits_apart kernel w s some;
}

pub held_by_read : (kernel : Kernel) (q w : ℕ) → IsSoundKernel kernel → woken_by (read_outcome kernel.queues q) ≡ Some w → IsHeld kernel w
held_by_read kernel q w s is = held_at_queue kernel w s (omega (arith, waits_one kernel.queues q w s.queues (read_ends_waiter kernel.queues q w is)))

pub held_by_write : (kernel : Kernel) (q w : ℕ) → IsSoundKernel kernel → woken_by (write_outcome kernel.queues q) ≡ Some w → IsHeld kernel w
held_by_write kernel q w s is = held_at_queue kernel w s (omega (arith, waits_one kernel.queues q w s.queues (write_ends_waiter kernel.queues q w is)))

pub awaits_other : (k q : ℕ) (other : Option ℕ) (kernel : Kernel) → ((w : ℕ) → other ≡ Some w → IsHeld kernel w) → AwaitsIn k q kernel
    → AwaitsIn k q (dispatched (with_other other) kernel)
unfolding lists_ready also_completed
awaits_other k q None kernel held a = a
awaits_other k q (Some w) kernel held a =
    let h = held w refl in
    awaits_completed k q kernel.dispatcher.lists kernel.dispatcher.completed w (process_in kernel.dispatcher.procs w).priority h.below h.waits a
