-- Processes that come to other lists, and that become ready one after the other.
use Rattle.std.proofs.Common.{◌≡◌, ◌≢◌, ◌∙◌, ◌<◌, ℕ, zero, suc, Bool, true, false, ◌&&◌, eqb, List, [], ◌∷◌, ◌++◌, get_or, length, Option, Some, None, refl, sym, subst, arith}
use Rattle.std.specs.List.{AllByRecursion}
use Rattle.std.proofs.lemmas.Bool.Decides.{nat_tests}
use Rattle.mpm_base.proofs.Choices.{either}
use Rattle.mpm_ready.specs.Order.{Member, first_of}
use Rattle.mpm_ready.specs.Tables.{list_at, list_of, inserted, removed, IsTable}
use Rattle.mpm_ready.proofs.TableLaws.{table_inserted, table_removed, list_of_inserted, list_of_inserted_other, list_of_removed, list_of_removed_other}
use Rattle.mpm_procs.specs.Table.{Table, Lives}
use Rattle.mpm_dispatcher.specs.Dispatch.{ready, is_ready, stays, runner, moved, ready_in, all_ready}
use Rattle.mpm_dispatcher.specs.declared.dispatcher.Dispatcher.{Dispatcher}

pub not_equal : (p q : ℕ) → p ≢ q → eqb p q ≡ false
not_equal p q h = grind (arith, nat_tests)

-- a process is taken out of its list, if it is in one, and put into another
abbrev pub moved_lists : List (List Member) → ℕ → ℕ → ℕ → List (List Member)
moved_lists lists list p priority = inserted (removed lists p) list (record { slot = p; priority = priority })

pub table_moved : (lists : List (List Member)) (list p priority : ℕ) → IsTable lists → list < 96 → p < 32 → IsTable (moved_lists lists list p priority)
table_moved lists list p priority table below slot =
    table_inserted (removed lists p) list (record { slot = p; priority = priority }) (table_removed lists p table) below slot (list_of_removed lists p)

pub list_moved : (lists : List (List Member)) (list p priority : ℕ) → IsTable lists → list < 96 → p < 32
    → list_of (moved_lists lists list p priority) p ≡ Some list
list_moved lists list p priority table below slot =
    list_of_inserted (removed lists p) list (record { slot = p; priority = priority }) (table_removed lists p table) below slot (list_of_removed lists p)

pub list_moved_other : (lists : List (List Member)) (list p priority q : ℕ) → IsTable lists → list < 96 → p < 32 → q ≢ p
    → list_of (moved_lists lists list p priority) q ≡ list_of lists q
list_moved_other lists list p priority q table below slot other =
    let apart = not_equal p q (λ e. other (sym e)) in
    list_of_inserted_other (removed lists p) list (record { slot = p; priority = priority }) q (table_removed lists p table) below slot (list_of_removed lists p) apart
    ∙ list_of_removed_other lists p q table apart

-- the first of a list is in it
pub is_ready_true : (o : Option ℕ) → is_ready o ≡ true → o ≡ Some ready
is_ready_true None e = absurd (cc)
is_ready_true (Some list) e = grind (arith, nat_tests, e)

-- one after the other
pub all_ready_none : (d : Dispatcher) → all_ready [] d ≡ d
unfolding ready_in
all_ready_none d = refl

pub all_ready_more : (ps : List ℕ) (p : ℕ) (d : Dispatcher) → all_ready (ps ++ p ∷ []) d ≡ moved ready p (all_ready ps d)
unfolding ready_in
all_ready_more [] p d = refl
all_ready_more (q ∷ ps) p d = all_ready_more ps p (moved ready q d)

-- each of those who become ready lives
pub live_at : (procs : Table) (ps : List ℕ) (i d : ℕ) → AllByRecursion (λ p. Lives procs p) ps → i < length ps → Lives procs (get_or ps i d)
live_at procs [] i d live below = absurd (omega (arith, below))
live_at procs (p ∷ ps) zero d live below = live.0
live_at procs (p ∷ ps) (suc i) d live below = live_at procs ps i d live.1 (omega (arith, below))

-- who runs lives, where it is known who that is
pub only_runner : (procs : Table) (running : Option ℕ) (p : ℕ) → running ≡ Some p → Lives procs p → (q : ℕ) → running ≡ Some q → Lives procs q
only_runner procs running p is lives q other = let same : p ≡ q = cc in subst (λ x. Lives procs x) same lives

pub no_runner : (procs : Table) (running : Option ℕ) → running ≡ None → (q : ℕ) → running ≡ Some q → Lives procs q
no_runner procs running none q is = absurd (cc)

-- who runs and is the first of the ready list, runs on after a step; and nobody does where nobody runs and none is ready
pub same_runner : (instruction : Bool) (procs : Table) (lists : List (List Member)) (running : Option ℕ) → first_of (list_at lists ready) ≡ running
    → runner instruction procs lists running ≡ running
unfolding runner
same_runner instruction procs lists running first =
    either (λ (runs : Option ℕ). runs ≡ running) (instruction && stays procs lists running) _ _ (λ _. refl) (λ _. first)
