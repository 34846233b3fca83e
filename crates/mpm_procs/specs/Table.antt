-- The processes as a finite map from the 32 slots, and the call that each keeps. A slot where no process lives is blank.
use Rattle.std.specs.Prelude.{◌≡◌, ℕ, Bool, true, false, not, List, Option, Some, None, length, position, count_by, replicate, slice_index_or, slice_set, if◌then◌else◌}
use Rattle.mpm_base.specs.Calls.{Taken, no_call}
use Rattle.mpm_procs.specs.declared.process.Process.{Process}
use Rattle.mpm_procs.specs.declared.process.NewProcess.{NewProcess}
use Rattle.mpm_procs.specs.Opening.{opening, blank}

-- by slot: whether a process lives there, the process, the call that it keeps
pub record Table : Type 0 where
  pub alive : List Bool
  pub processes : List Process
  pub calls : List Taken

-- there are 32 slots
pub record HasSlots (table : Table) : Type 0 where
  pub alive : length table.alive ≡ 32
  pub processes : length table.processes ≡ 32
  pub calls : length table.calls ≡ 32

-- whether a process lives in the slot
abbrev pub lives : Table → ℕ → Bool
lives table slot = slice_index_or table.alive slot false

-- a process lives in the slot
abbrev pub Lives : Table → ℕ → Type 0
Lives table slot = lives table slot ≡ true

-- what is in a slot
abbrev pub process_in : Table → ℕ → Process
process_in table slot = slice_index_or table.processes slot blank

-- the process that lives in a slot
abbrev pub process_at : Table → ℕ → Option Process
process_at table slot = if lives table slot then Some (process_in table slot) else None

-- the call that a process keeps
abbrev pub call_of : Table → ℕ → Taken
call_of table slot = slice_index_or table.calls slot no_call

-- what is so of the table at any time: there are 32 slots, and one in which nobody lives is blank
pub record IsMap (table : Table) : Type 0 where
  pub slots : HasSlots table
  pub blank : (slot : ℕ) → lives table slot ≡ false → (process_in table slot ≡ blank) × (call_of table slot ≡ no_call)

-- a process is another one
unfoldable pub with_process : Table → ℕ → Process → Table
with_process table slot process = record table { processes = slice_set table.processes slot process }

-- a process keeps another call
unfoldable pub with_call : Table → ℕ → Taken → Table
with_call table slot call = record table { calls = slice_set table.calls slot call }

-- nobody lives
unfoldable pub no_processes : Table
no_processes =
    record { alive = replicate 32 false; processes = replicate 32 blank; calls = replicate 32 no_call }

-- the lowest slot in which no process lives
unfoldable pub lowest_free : Table → Option ℕ
lowest_free table = position not table.alive

-- how many processes live
unfoldable pub living : Table → ℕ
living table = count_by (λ alive. alive) table.alive

-- how many slots are free
unfoldable pub free_slots : Table → ℕ
free_slots table = count_by not table.alive

-- a process begins in a slot
unfoldable pub added : Table → ℕ → NewProcess → Table
added table slot new = record {
  alive = slice_set table.alive slot true;
  processes = slice_set table.processes slot (opening new);
  calls = slice_set table.calls slot no_call;
}

-- the process of a slot ends
unfoldable pub without : Table → ℕ → Table
without table slot = record {
  alive = slice_set table.alive slot false;
  processes = slice_set table.processes slot blank;
  calls = slice_set table.calls slot no_call;
}
