-- Ninety-six lists of processes, of which a process is in at most one.
use Rattle.std.specs.Prelude.{◌≡◌, ℕ, ◌<◌, true, List, [], Option, Some, None, length, map, replicate, position, slice_index_or, slice_set}
use Rattle.std.specs.List.{AllByRecursion}
use Rattle.mpm_ready.specs.Order.{Member, put_in, without_slot, in_list, IsInOrder, IsOnce}

-- one of the lists, by its number
abbrev pub list_at : List (List Member) → ℕ → List Member
list_at lists list = slice_index_or lists list []

-- the lists with nobody in them
unfoldable pub no_lists : List (List Member)
no_lists = replicate 96 []

-- the list that a process is in
unfoldable pub list_of : List (List Member) → ℕ → Option ℕ
list_of lists slot = position (in_list slot) lists

-- the lists with a process put into one of them
unfoldable pub inserted : List (List Member) → ℕ → Member → List (List Member)
inserted lists list member = slice_set lists list (put_in (list_at lists list) member)

-- the lists without a process
unfoldable pub removed : List (List Member) → ℕ → List (List Member)
removed lists slot = map (without_slot slot) lists

-- the lists without a process, if any
abbrev pub dequeued : Option ℕ → List (List Member) → List (List Member)
dequeued None lists = lists
dequeued (Some slot) lists = removed lists slot

-- the lists with a process taken out of its list and put back in with a priority
unfoldable pub reinserted : List (List Member) → ℕ → ℕ → Option ℕ → List (List Member)
reinserted lists slot priority None = lists
reinserted lists slot priority (Some list) = inserted (removed lists slot) list (record { slot = slot; priority = priority })

abbrev pub rotated : List (List Member) → ℕ → ℕ → List (List Member)
rotated lists slot priority = reinserted lists slot priority (list_of lists slot)

-- what is so of the lists at any time: each is in ready order, and a process is in at most one of them, and once
pub record IsTable (lists : List (List Member)) : Type 0 where
  pub size : length lists ≡ 96
  pub in_order : (list : ℕ) → IsInOrder (list_at lists list)
  pub once : (list : ℕ) → IsOnce (list_at lists list)
  pub slots : (list : ℕ) → AllByRecursion (λ m. m.slot < 32) (list_at lists list)
  pub one_list : (slot list other : ℕ) → in_list slot (list_at lists list) ≡ true → in_list slot (list_at lists other) ≡ true → list ≡ other
