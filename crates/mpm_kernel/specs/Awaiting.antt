-- How many held calls of a process may be completed at once: those of one that awaits none are never, and it is ready.
use Rattle.std.specs.Prelude.{◌≡◌, ℕ, ◌≤◌, ◌==◌, List, Some, count_by}
use Rattle.mpm_ready.specs.Order.{Member}
use Rattle.mpm_ready.specs.Tables.{list_of, IsTable}
use Rattle.mpm_dispatcher.specs.Dispatch.{ready}
use Rattle.mpm_kernel.specs.Kernel.{Kernel}

-- the times that a process stands among those whose held calls were completed
abbrev pub completions : ℕ → List ℕ → ℕ
completions q completed = count_by (λ p. p == q) completed

-- so many completions of a process are left to be answered at most; where there are so many, and so where it awaits none, it is
-- ready
pub record Awaits (k q : ℕ) (lists : List (List Member)) (completed : List ℕ) : Type 0 where
  pub table : IsTable lists
  pub few : completions q completed ≤ k
  pub at_once : k ≤ completions q completed → list_of lists q ≡ Some ready

abbrev pub AwaitsIn : ℕ → ℕ → Kernel → Type 0
AwaitsIn k q kernel = Awaits k q kernel.dispatcher.lists kernel.dispatcher.completed
