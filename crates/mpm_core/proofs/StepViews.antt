-- A step in which a process does an instruction, and no call is over: what it leaves of that process and of memory is what the
-- instruction leaves.
use Rattle.std.proofs.Common.{◌≡◌, ◌∙◌, ℕ, zero, suc, ◌+◌, ◌<◌, ◌≤◌, Bool, not, ◌&&◌, Option, Some, None, is_some, length, refl, sym, ap, subst, arith, add-one}
use Rattle.z80_regs.specs.declared.regs.Regs.{Regs}
use Rattle.z80_ext.specs.Instruction.{registers_after, actions_of}
use Rattle.mpm_banks.specs.Memory.{Memory}
use Rattle.mpm_banks.specs.Sides.{reach_of}
use Rattle.mpm_banks.specs.Actions.{devices_after}
use Rattle.mpm_procs.specs.Table.{Table, process_in}
use Rattle.mpm_procs.specs.declared.process.Process.{Process}
use Rattle.mpm_procs.proofs.MapLaws.{lives_below, process_changed}
use Rattle.mpm_kernel.specs.Kernel.{Kernel}
use Rattle.mpm_kernel.proofs.HomeLaws.{aborted_changed}
use Rattle.mpm_kernel.proofs.SoundLaws.{runner_lives}
use Rattle.mpm_gate.specs.declared.gate.Gate.{Gate}
use Rattle.mpm_processor.specs.Moving.{moved, CanMove}
use Rattle.mpm_xdos.specs.Aborting.{waits_to_end}
use Rattle.mpm_system.specs.declared.system.System.{System}
use Rattle.mpm_system.specs.Whole.{SystemChange, IsWhole, NoCompletions, silent}
use Rattle.mpm_system.specs.Coming.{counted}
use Rattle.mpm_system.specs.Procedures.{is_inside}
use Rattle.mpm_machine.specs.Due.{NobodyDue}
use Rattle.mpm_machine.specs.Step.{instructed, instruction_at, acted_at, acted_by, acted, running_segment, at_instruction}
use Rattle.mpm_machine.specs.DiskStep.{process_over}
use Rattle.mpm_machine.specs.Stepping.{Telling, rest_of, step_with}
use Rattle.mpm_machine.specs.Contained.{Instructs}
use Rattle.mpm_machine.specs.Moving.{view_of}
use Rattle.mpm_machine.proofs.InstructedLaws.{runs_listed}
use Rattle.mpm_machine.proofs.FileStepLaws.{gateless}
use Rattle.mpm_machine.proofs.QuietLaws.{step_quiet}
use Rattle.mpm_machine.proofs.StepWithLaws.{whole_with, nobody_due_with, no_completions_with}
use Rattle.mpm_replay.specs.declared.replaying.Replayed.{Replayed}
use Rattle.mpm_replay.specs.Replays.{IsReplay}
use Rattle.mpm_replay.specs.Agreeing.{own_of, FollowsByOne, FollowEach, Agrees}
use Rattle.mpm_replay.proofs.AgreeLaws.{agreed_from}
use Rattle.mpm_core.specs.Alone.{StepsAlone, RunsAlone}
use Rattle.mpm_core.proofs.RestViews.{rest_same}

acts : (system : System) (p seg : ℕ) → Instructs system p seg → acted (counted system) ≡ silent (instructed (instruction_at p seg system) p seg (counted system))
unfolding acted
acts system p seg i =
    let begun = counted system in
    ap (λ running. acted_by running (running_segment running begun) begun) i.runs
    ∙ ap (λ home. acted_by (Some p) home begun) i.home
    ∙ ap (λ (gate : Option Gate). acted_at gate p seg begun) i.no_gate
    ∙ runs_listed (instruction_at p seg system) p seg begun i.listed

-- the system as its instruction was done
abbrev done : ℕ → ℕ → System → System
done p seg system = instructed (instruction_at p seg system) p seg (counted system)

step_is : (telling : Telling) (system : System) (p seg : ℕ) → NoCompletions system → Instructs system p seg
    → (step_with telling system).system ≡ (rest_of (at_instruction (counted system)) telling (silent (done p seg system))).system
unfolding instructed
step_is telling system p seg none i =
    ap (λ (change : SystemChange). change.system)
    (step_quiet telling system (done p seg system) (gateless system p seg i.runs i.home i.no_gate) i.quiet (acts system p seg i) none.answered)

over_stays : (p seg : ℕ) (system : System) → process_over system ≡ None → process_over (done p seg system) ≡ None
unfolding instructed process_over
over_stays p seg system none = none

due_stays : (p seg : ℕ) (system : System) → NobodyDue system.kernel → NobodyDue (done p seg system).kernel
unfolding instructed NobodyDue
due_stays p seg system none = λ q.
    let outcome = instruction_at p seg system in
    let polled : Kernel = record system.kernel { devices = devices_after (actions_of outcome) system.kernel.devices } in
    let process = record (process_in system.kernel.dispatcher.procs p) { regs = registers_after outcome (process_in system.kernel.dispatcher.procs p).regs } in
    ap (λ b. b && not (waits_to_end system.kernel q)) (aborted_changed polled p q process refl) ∙ none q

below_slots : (system : System) (p : ℕ) → IsWhole system → system.kernel.dispatcher.running ≡ Some p → p < length system.kernel.dispatcher.procs.processes
below_slots system p w runs =
    omega (arith, w.sound.slots.processes, lives_below system.kernel.dispatcher.procs p w.sound.slots (runner_lives system.kernel p w.sound runs))

process_done : (p seg : ℕ) (system : System) → p < length system.kernel.dispatcher.procs.processes
    → process_in (done p seg system).kernel.dispatcher.procs p ≡ record (process_in system.kernel.dispatcher.procs p) { regs = (moved seg (view_of system p)).regs }
unfolding instructed
process_done p seg system below =
    process_changed system.kernel.dispatcher.procs p (record (process_in system.kernel.dispatcher.procs p) { regs = (moved seg (view_of system p)).regs }) below

memory_done : (p seg : ℕ) (system : System) → (done p seg system).memory ≡ (moved seg (view_of system p)).memory
unfolding instructed
memory_done p seg system = refl

-- what such a step leaves of the process, and of memory
pub record LeavesView (p seg : ℕ) (old new : System) : Type 0 where
  pub process : process_in new.kernel.dispatcher.procs p ≡ record (process_in old.kernel.dispatcher.procs p) { regs = (moved seg (view_of old p)).regs }
  pub memory : new.memory ≡ (moved seg (view_of old p)).memory

pub leaves_view : (telling : Telling) (system : System) (p seg : ℕ) → IsWhole system → NoCompletions system → NobodyDue system.kernel → Instructs system p seg
    → process_over system ≡ None → LeavesView p seg system (step_with telling system).system
leaves_view telling system p seg w none due i over =
    let after = done p seg system in
    let same = rest_same (at_instruction (counted system)) telling after (over_stays p seg system over) (due_stays p seg system due) in
    subst (λ (s : System). LeavesView p seg system s) (sym (step_is telling system p seg none i)) (record {
      process = ap (λ (procs : Table). process_in procs p) same.procs ∙ process_done p seg system (below_slots system p w i.runs);
      memory = same.memory ∙ memory_done p seg system;
    })

-- what is so of each system of such a run
record Holds (inside : Bool) (p : ℕ) (system : System) : Type 0 where
  whole : IsWhole system
  no_completions : NoCompletions system
  due : NobodyDue system.kernel
  same : is_inside system.kernel.dispatcher.procs p ≡ inside

holds_on : (inside : Bool) (p seg : ℕ) (old new : System) → Holds inside p old → StepsAlone p seg old new → Holds inside p new
holds_on inside p seg old new h s =
    let left = leaves_view s.telling old p seg h.whole h.no_completions h.due s.alone.instructs s.alone.nobody in
    subst (λ (system : System). Holds inside p system) (sym s.is) (record {
      whole = whole_with s.telling old h.whole;
      no_completions = no_completions_with s.telling old;
      due = nobody_due_with s.telling old h.whole;
      same = ap (λ (process : Process). is_some process.procedure) left.process ∙ h.same;
    })

follows : (inside : Bool) (p seg : ℕ) (old new : System) → Holds inside p old → StepsAlone p seg old new → FollowsByOne inside seg (view_of old p) (view_of new p)
follows inside p seg old new h s =
    let left = leaves_view s.telling old p seg h.whole h.no_completions h.due s.alone.instructs s.alone.nobody in
    let to : LeavesView p seg old new = subst (λ (system : System). LeavesView p seg old system) (sym s.is) left in
    let lives = runner_lives old.kernel p h.whole.sound s.alone.instructs.runs in
    record {
      there = (h.whole.homes p seg lives s.alone.instructs.home).exists;
      can = subst (λ (b : Bool). CanMove b seg (view_of old p)) h.same (record { no_gate = s.alone.instructs.no_gate; listed = s.alone.instructs.listed });
      portless = s.alone.portless;
      regs = ap (λ (process : Process). process.regs) to.process;
      memory = ap (λ (m : Memory). reach_of m seg) to.memory;
    }

holds_at : (k : ℕ) (count p seg : ℕ) (systems : ℕ → System) → RunsAlone count p seg systems → k ≤ count
    → Holds (is_inside (systems 0).kernel.dispatcher.procs p) p (systems k)
holds_at zero count p seg systems runs below = record { whole = runs.whole; no_completions = runs.no_completions; due = runs.due; same = refl }
holds_at (suc k) count p seg systems runs below =
    let inside = is_inside (systems 0).kernel.dispatcher.procs p in
    subst (λ (n : ℕ). Holds inside p (systems n)) (add-one k)
    (holds_on inside p seg (systems k) (systems (k + 1)) (holds_at k count p seg systems runs (omega (arith, below))) (runs.each k (omega (arith, below))))

-- so their views follow one upon another
pub follow_each : (count p seg : ℕ) (systems : ℕ → System) → RunsAlone count p seg systems
    → FollowEach (is_inside (systems 0).kernel.dispatcher.procs p) seg count (λ k. view_of (systems k) p)
follow_each count p seg systems runs = λ k below.
    follows (is_inside (systems 0).kernel.dispatcher.procs p) p seg (systems k) (systems (k + 1))
    (holds_at k count p seg systems runs (omega (arith, below))) (runs.each k below)

-- and a replay of the first one's core leaves what the last one has
pub agrees_alone : (count p seg : ℕ) (systems : ℕ → System) (regs : Regs) (memory : Memory) (replayed : Replayed) → RunsAlone count p seg systems
    → IsReplay (is_inside (systems 0).kernel.dispatcher.procs p) count (own_of seg (view_of (systems 0) p)) regs memory replayed
    → Agrees seg count (view_of (systems count) p) regs memory replayed
agrees_alone count p seg systems regs memory replayed runs replay =
    agreed_from (is_inside (systems 0).kernel.dispatcher.procs p) seg count (λ k. view_of (systems k) p) (own_of seg (view_of (systems 0) p)) regs memory replayed
    replay refl (follow_each count p seg systems runs)

-- it is in a resident procedure, or in none, as it was
pub inside_stays : (count p seg : ℕ) (systems : ℕ → System) → RunsAlone count p seg systems
    → is_inside (systems count).kernel.dispatcher.procs p ≡ is_inside (systems 0).kernel.dispatcher.procs p
inside_stays count p seg systems runs = (holds_at count count p seg systems runs (omega arith)).same
