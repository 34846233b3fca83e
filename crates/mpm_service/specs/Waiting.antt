-- One list of waiting processes in ready order. (MP/M II Programmer's Guide, "Dispatcher".)
use Rattle.std.specs.Prelude.{◌<◌, List, [], ◌∷◌, replicate}
use Rattle.std.specs.List.{AllByRecursion}
use Rattle.mpm_ready.specs.Order.{Member, IsInOrder, IsOnce}

-- what is so of the list at any time: it is in ready order, and each process is one that there can be, and in it once
pub record IsWaitList (waiting : List Member) : Type 0 where
  pub in_order : IsInOrder waiting
  pub once : IsOnce waiting
  pub slots : AllByRecursion (λ m. m.slot < 32) waiting

-- of ninety-six lists the first is this one, and nobody is in the others
unfoldable pub only_list : List Member → List (List Member)
only_list waiting = waiting ∷ replicate 95 []
