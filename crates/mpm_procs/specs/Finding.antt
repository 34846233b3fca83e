-- The process that is looked for: that of a name, or one in the resident procedure of a queue.
use Rattle.std.specs.Prelude.{ℕ, Bool, false, Option, Some, None, ◌&&◌, ◌==◌, is_some, bytes_eq, find}
use Rattle.std.specs.List.{range_with_len}
use Rattle.mpm_base.specs.declared.number.Name8.{Name8}
use Rattle.mpm_procs.specs.Table.{Table, lives, process_in}

-- the lowest of the 32 numbers that passes a test
unfoldable pub lowest : (ℕ → Bool) → Option ℕ
lowest test = find test (range_with_len 0 32)

-- the lowest slot whose process has a name
abbrev pub is_called : Table → Name8 → ℕ → Bool
is_called procs name p = lives procs p && bytes_eq (process_in procs p).name.0 name.0

abbrev pub named : Table → Name8 → Option ℕ
named procs name = lowest (is_called procs name)

-- a process is in the resident procedure of a queue
abbrev pub is_queue : ℕ → Option ℕ → Bool
is_queue q None = false
is_queue q (Some other) = other == q

abbrev pub is_inside_of : Table → ℕ → ℕ → Bool
is_inside_of procs q p = lives procs p && is_queue q (process_in procs p).procedure

-- and some process is
unfoldable pub is_entered : Table → ℕ → Bool
is_entered procs q = is_some (lowest (is_inside_of procs q))
