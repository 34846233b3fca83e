-- What is so of the calls of each row of the table, and of the answer to a function that stands in none, is so of every call.
use Rattle.std.proofs.Common.{◌≡◌, ℕ, Bool, true, false, ◌||◌, ◌&&◌, ◌==◌, List, [], ◌∷◌, refl, sym, ap, subst}
use Rattle.std.specs.Prelude.{if◌then◌else◌}
use Rattle.std.proofs.lemmas.Bool.{eqb-true}
use Rattle.std.specs.List.{AllByRecursion, list_all, count_by}
use Rattle.mpm_base.proofs.Choices.{either}
use Rattle.mpm_base.specs.Lists.{is_among}
use Rattle.mpm_base.specs.Calls.{Taken, Answer}
use Rattle.mpm_base.specs.declared.call.Outcome.{Outcome}
use Rattle.mpm_procs.specs.Table.{call_of, process_in}
use Rattle.mpm_procs.specs.declared.process.Process.{Process}
use Rattle.mpm_kernel.specs.Kernel.{Kernel}
use Rattle.mpm_kernel.specs.Called.{Called, Yields, valued, CallRow, functions_of, done_by}
use Rattle.mpm_kernel.specs.Calls.{table, call_done}

-- a property of the call of a row's functions
abbrev pub IsSoOf : (Called → Type 0) → Taken → ℕ → Process → Kernel → CallRow → Type 0
IsSoOf P call p process kernel row = is_among call.function row.functions ≡ true → P (row.does call p process kernel)

pub by_rows : (P : Called → Type 0) (call : Taken) (p : ℕ) (process : Process) (kernel : Kernel) (rows : List CallRow)
    → AllByRecursion (IsSoOf P call p process kernel) rows → P (valued 65535 kernel) → P (done_by rows call p process kernel)
by_rows P call p process kernel [] each none = none
by_rows P call p process kernel (row ∷ rows) each none =
    either P (is_among call.function row.functions) _ _ each.0 (λ _. by_rows P call p process kernel rows each.1 none)

pub by_table : (P : Called → Type 0) (call : Taken) (p : ℕ) (process : Process) (kernel : Kernel)
    → AllByRecursion (IsSoOf P call p process kernel) table → P (valued 65535 kernel) → P (call_done call p process kernel)
unfolding call_done
by_table P call p process kernel each none = by_rows P call p process kernel table each none

-- a call of a number is done by the first row that names the number
abbrev pub done_at : ℕ → List CallRow → Taken → ℕ → Process → Kernel → Called
done_at n [] call p process kernel = valued 65535 kernel
done_at n (row ∷ rows) call p process kernel =
    if is_among n row.functions then row.does call p process kernel else (done_at n rows call p process kernel)

at_its_row : (call : Taken) (p : ℕ) (process : Process) (kernel : Kernel) (rows : List CallRow)
    → done_at call.function rows call p process kernel ≡ done_by rows call p process kernel
at_its_row call p process kernel [] = refl
at_its_row call p process kernel (row ∷ rows) =
    ap (λ other. if is_among call.function row.functions then row.does call p process kernel else other) (at_its_row call p process kernel rows)

pub numbered : (p : ℕ) (kernel : Kernel) (n : ℕ) → (call_of kernel.dispatcher.procs p).function ≡ n
    → done_at n table (call_of kernel.dispatcher.procs p) p (process_in kernel.dispatcher.procs p) kernel
    ≡ call_done (call_of kernel.dispatcher.procs p) p (process_in kernel.dispatcher.procs p) kernel
unfolding call_done
numbered p kernel n is =
    let call = call_of kernel.dispatcher.procs p in
    let process = process_in kernel.dispatcher.procs p in
    subst (λ f. done_at f table call p process kernel ≡ done_by table call p process kernel) is (at_its_row call p process kernel table)

-- what the row of a call's number yields, the call does
pub yields_at : (p : ℕ) (kernel : Kernel) (n : ℕ) (after : Kernel) (result : Outcome) (answer : Answer) → (call_of kernel.dispatcher.procs p).function ≡ n
    → Yields (done_at n table (call_of kernel.dispatcher.procs p) p (process_in kernel.dispatcher.procs p) kernel) after result answer
    → Yields (call_done (call_of kernel.dispatcher.procs p) p (process_in kernel.dispatcher.procs p) kernel) after result answer
yields_at p kernel n after result answer is did = subst (λ (called : Called). Yields called after result answer) (numbered p kernel n is) did

-- what is so of one of two is so where either is
pub in_both : (a b c : Bool) → (a || b) ≡ true → (a ≡ true → c ≡ true) → (b ≡ true → c ≡ true) → c ≡ true
in_both true b c e one other = one refl
in_both false b c e one other = other e

both_of : (a b c : Bool) → (a && b) ≡ true → (a ≡ true → b ≡ true → c ≡ true) → c ≡ true
both_of true b c e use_both = use_both refl e
both_of false b c e use_both = absurd (cc)

-- a number among some passes a test that all of them pass
pub among : (test : ℕ → Bool) (n : ℕ) (ns : List ℕ) → is_among n ns ≡ true → list_all test ns ≡ true → test n ≡ true
among test n [] is all = absurd (cc)
among test n (m ∷ ms) is all =
    both_of (test m) (list_all test ms) (test n) all (λ one rest.
    in_both (n == m) (is_among n ms) (test n) is (λ same. subst (λ k. test k ≡ true) (sym (eqb-true n m same)) one) (λ further. among test n ms further rest))

-- each function stands in the table once
pub each_once : list_all (λ function. count_by (λ other. other == function) (functions_of table) == 1) (functions_of table) ≡ true
each_once = refl
