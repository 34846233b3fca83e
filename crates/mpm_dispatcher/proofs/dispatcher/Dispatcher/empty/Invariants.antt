use Rattle.std.proofs.Common.{◌≡◌, ◌++◌, ℕ, Some, length}
use Rattle.mpm_procs.specs.Table.{Lives}
use Rattle.mpm_ready.specs.Tables.{list_of, IsTable}
use Rattle.mpm_dispatcher.specs.Dispatch.{all_ready, slots_in}
use Rattle.mpm_dispatcher.proofs.dispatcher.Dispatcher.empty.Given as goal

abbrev pub decreases-loop-p : goal.decreases-loop-p
decreases-loop-p l = length (slots_in l.self.lists l.list)

abbrev pub invariant-loop-p : goal.invariant-loop-p
invariant-loop-p l = record {
  table : IsTable l.self.lists;
  live : (p : ℕ) → list_of l.self.lists p ≡ Some l.list → Lives l.self.procs p;
  dispatcher : l.self ≡ all_ready l.woken l.initial.self;
  rest : l.woken ++ slots_in l.self.lists l.list ≡ slots_in l.initial.self.lists l.list;
}
