-- Which of the gates of its segment a process has.
use Rattle.std.specs.Prelude.{ℕ, Bool, is_some}
use Rattle.mpm_procs.specs.Table.{Table, process_in}

-- a process is in a resident procedure
abbrev pub is_inside : Table → ℕ → Bool
is_inside procs p = is_some (process_in procs p).procedure
