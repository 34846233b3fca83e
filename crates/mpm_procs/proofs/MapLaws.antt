-- The table of processes is a finite map: what is changed in a slot is read back there, and every other slot stays.
use Rattle.std.proofs.Common.{◌≡◌, ◌≢◌, ◌∙◌, ℕ, ◌<◌, true, false, not, Some, inl, inr, length, replicate, refl, arith}
use Rattle.std.proofs.lemmas.Bool.{cases_lt, not-true}
use Rattle.std.proofs.lemmas.List.Quantifiers.{position-Some}
use Rattle.std.proofs.lemmas.List.{get_or-set_same, get_or-set_other, get_or_past, get_or-replicate, length-set, length-replicate}
use Rattle.mpm_base.specs.Calls.{Taken, no_call}
use Rattle.mpm_procs.specs.declared.process.Process.{Process}
use Rattle.mpm_procs.specs.declared.process.NewProcess.{NewProcess}
use Rattle.mpm_procs.specs.Opening.{opening, blank}
use Rattle.mpm_procs.specs.Table.{Table, HasSlots, lives, Lives, process_in, call_of, with_process, with_call, lowest_free, added, without, no_processes}

-- a process that lives has one of the slots
pub lives_below : (table : Table) (p : ℕ) → HasSlots table → Lives table p → p < 32
lives_below table p slots h = elim (cases_lt p 32) [
  | inl below ↦ below
  | inr past ↦ absurd (grind (arith, get_or_past table.alive p false (omega (arith, slots.alive)), h))
]

-- nobody lives

pub slots_none : HasSlots no_processes
unfolding no_processes
slots_none = record { alive = length-replicate 32 false; processes = length-replicate 32 blank; calls = length-replicate 32 no_call }

pub nobody_lives : (p : ℕ) → lives no_processes p ≡ false
unfolding no_processes
nobody_lives p = elim (cases_lt p 32) [
  | inl below ↦ get_or-replicate 32 p false false below
  | inr past ↦ get_or_past (replicate 32 false) p false (omega (arith, length-replicate 32 false))
]

-- one process changed

pub process_changed : (table : Table) (p : ℕ) (process : Process) → p < length table.processes → process_in (with_process table p process) p ≡ process
unfolding with_process
process_changed table p process h = get_or-set_same table.processes p process blank h

pub process_kept : (table : Table) (p q : ℕ) (process : Process) → q ≢ p → process_in (with_process table p process) q ≡ process_in table q
unfolding with_process
process_kept table p q process h = get_or-set_other table.processes p q process blank h

pub lives_changed : (table : Table) (p q : ℕ) (process : Process) → lives (with_process table p process) q ≡ lives table q
unfolding with_process
lives_changed table p q process = refl

pub call_after : (table : Table) (p q : ℕ) (process : Process) → call_of (with_process table p process) q ≡ call_of table q
unfolding with_process
call_after table p q process = refl

pub slots_changed : (table : Table) (p : ℕ) (process : Process) → HasSlots table → HasSlots (with_process table p process)
unfolding with_process
slots_changed table p process h =
    record { alive = h.alive; processes = length-set table.processes p process ∙ h.processes; calls = h.calls }

-- one call changed

pub call_changed : (table : Table) (p : ℕ) (call : Taken) → p < length table.calls → call_of (with_call table p call) p ≡ call
unfolding with_call
call_changed table p call h = get_or-set_same table.calls p call no_call h

pub process_after : (table : Table) (p q : ℕ) (call : Taken) → process_in (with_call table p call) q ≡ process_in table q
unfolding with_call
process_after table p q call = refl

pub lives_after : (table : Table) (p q : ℕ) (call : Taken) → lives (with_call table p call) q ≡ lives table q
unfolding with_call
lives_after table p q call = refl

pub slots_after : (table : Table) (p : ℕ) (call : Taken) → HasSlots table → HasSlots (with_call table p call)
unfolding with_call
slots_after table p call h =
    record { alive = h.alive; processes = h.processes; calls = length-set table.calls p call ∙ h.calls }

-- one process more

pub free_below : (table : Table) (p : ℕ) → lowest_free table ≡ Some p → p < length table.alive
unfolding lowest_free
free_below table p h = (position-Some not table.alive p false h).0

pub free_is_dead : (table : Table) (p : ℕ) → lowest_free table ≡ Some p → lives table p ≡ false
unfolding lowest_free
free_is_dead table p h = not-true _ (position-Some not table.alive p false h).1

pub lives_added : (table : Table) (p : ℕ) (new : NewProcess) → p < length table.alive → Lives (added table p new) p
unfolding added
lives_added table p new h = get_or-set_same table.alive p true false h

pub lives_added_other : (table : Table) (p q : ℕ) (new : NewProcess) → q ≢ p → lives (added table p new) q ≡ lives table q
unfolding added
lives_added_other table p q new h = get_or-set_other table.alive p q true false h

pub process_added : (table : Table) (p : ℕ) (new : NewProcess) → p < length table.processes → process_in (added table p new) p ≡ opening new
unfolding added
process_added table p new h = get_or-set_same table.processes p (opening new) blank h

pub process_added_other : (table : Table) (p q : ℕ) (new : NewProcess) → q ≢ p → process_in (added table p new) q ≡ process_in table q
unfolding added
process_added_other table p q new h = get_or-set_other table.processes p q (opening new) blank h

pub call_added_other : (table : Table) (p q : ℕ) (new : NewProcess) → q ≢ p → call_of (added table p new) q ≡ call_of table q
unfolding added
call_added_other table p q new h = get_or-set_other table.calls p q no_call no_call h

pub slots_added : (table : Table) (p : ℕ) (new : NewProcess) → HasSlots table → HasSlots (added table p new)
unfolding added
slots_added table p new h = record {
  alive = length-set table.alive p true ∙ h.alive;
  processes = length-set table.processes p (opening new) ∙ h.processes;
  calls = length-set table.calls p no_call ∙ h.calls;
}

-- one process fewer

pub lives_without : (table : Table) (p : ℕ) → p < length table.alive → lives (without table p) p ≡ false
unfolding without
lives_without table p h = get_or-set_same table.alive p false false h

pub lives_without_other : (table : Table) (p q : ℕ) → q ≢ p → lives (without table p) q ≡ lives table q
unfolding without
lives_without_other table p q h = get_or-set_other table.alive p q false false h

pub process_without_other : (table : Table) (p q : ℕ) → q ≢ p → process_in (without table p) q ≡ process_in table q
unfolding without
process_without_other table p q h = get_or-set_other table.processes p q blank blank h

pub slots_without : (table : Table) (p : ℕ) → HasSlots table → HasSlots (without table p)
unfolding without
slots_without table p h = record {
  alive = length-set table.alive p false ∙ h.alive;
  processes = length-set table.processes p blank ∙ h.processes;
  calls = length-set table.calls p no_call ∙ h.calls;
}
