-- Steps that are instructions of one process.
use Rattle.std.proofs.Common.{◌≡◌, ◌∙◌, ℕ, zero, suc, ◌+◌, ◌-◌, ◌*◌, ◌<◌, ◌≤◌, false, ◌&&◌, Option, Some, None, is_some, option_map, inl, inr, length, refl, sym, ap, subst, arith, add-one, set-set, get_or-set_same}
use Rattle.std.proofs.lemmas.Bool.{cases_eq}
use Rattle.z80_regs.specs.declared.regs.Regs.{Regs}
use Rattle.z80_ext.specs.Instruction.{instruction, registers_after, actions_of}
use Rattle.mpm_base.specs.declared.devices.Devices.{Devices}
use Rattle.mpm_ready.specs.Order.{first_of}
use Rattle.mpm_ready.specs.Tables.{list_at}
use Rattle.mpm_banks.specs.Memory.{byte_at}
use Rattle.mpm_banks.specs.Ports.{port_byte}
use Rattle.mpm_procs.specs.Table.{lives, Lives, process_in, with_process}
use Rattle.mpm_procs.specs.Opening.{blank}
use Rattle.mpm_procs.specs.declared.process.Process.{Process}
use Rattle.mpm_procs.proofs.MapLaws.{lives_below, lives_changed, process_changed, process_kept}
use Rattle.mpm_dispatcher.specs.Dispatch.{ready, with_procs}
use Rattle.mpm_kernel.specs.Kernel.{Kernel, dispatched}
use Rattle.mpm_kernel.proofs.SoundLaws.{sound_devices, runner_lives}
use Rattle.mpm_kernel.proofs.HomeLaws.{homes_stay}
use Rattle.mpm_gate.specs.declared.gate.Gate.{Gate}
use Rattle.mpm_banks.specs.Gates.{last_page, call_gate}
use Rattle.mpm_banks.proofs.ActionLaws.{same_segments_after}
use Rattle.mpm_gate.specs.Gates.{gate_of}
use Rattle.mpm_gate.proofs.GateLaws.{page_stays}
use Rattle.mpm_processor.specs.Moving.{View, instruction_in, moved, moves, CanMove}
use Rattle.mpm_service.specs.Disk.{DiskService}
use Rattle.mpm_service.specs.Ahead.{passed_on, passed_by}
use Rattle.mpm_kernel.proofs.DiskLaws.{sound_passed_by}
use Rattle.mpm_interrupts.specs.Interrupts.{due}
use Rattle.mpm_system.specs.declared.system.System.{System}
use Rattle.mpm_system.specs.Procedures.{is_inside}
use Rattle.mpm_system.specs.Whole.{IsWhole, NobodyAborted, silent, NoCompletions}
use Rattle.mpm_system.specs.Taking.{with_regs}
use Rattle.mpm_system.specs.Coming.{coming, counted}
use Rattle.mpm_system.specs.Idling.{CanPass}
use Rattle.mpm_system.proofs.HomeLaws.{KeepsHomes, keeps_itself, keeps_both, keeps_acted}
use Rattle.mpm_system.proofs.WholeLaws.{whole_kernel, whole_memory, whole_regs}
use Rattle.mpm_system.proofs.IdlingLaws.{fewer_can}
use Rattle.mpm_machine.specs.declared.ahead.Ahead.{Ahead}
use Rattle.mpm_machine.specs.State.{State}
use Rattle.mpm_machine.specs.Step.{instructed, executed, instruction_at, acted_at, gate_before, acted_by, acted, running_segment, at_instruction, runner_picked}
use Rattle.mpm_machine.specs.FileCalls.{file_caller}
use Rattle.mpm_machine.specs.Files.{AreWithin}
use Rattle.mpm_machine.specs.Stepping.{Telling, step_with}
use Rattle.mpm_machine.specs.After.{next, after}
use Rattle.mpm_machine.specs.Moving.{Moved, view_of, with_view, RunsOn, RunsAhead, Quiet}
use Rattle.mpm_machine.proofs.InstructedLaws.{runs_listed}
use Rattle.mpm_machine.proofs.WholeLaws.{same_regs, whole_steps}
use Rattle.mpm_machine.proofs.FileStepLaws.{gateless}
use Rattle.mpm_machine.proofs.PlainLaws.{plain_next, files_still}
use Rattle.mpm_machine.proofs.QuietLaws.{none_comes, step_quiet, picked_same}
use Rattle.mpm_machine.proofs.PassingLaws.{still_ahead, passes_on, passes_nothing, fewer_pass, can_pass_on, rest_still, none_before, within_on}

-- a view that a process already has, and one after another
view_itself : (system : System) (p : ℕ) → with_view system p (view_of system p) 0 ≡ system
unfolding with_view
view_itself system p =
    ap (λ (disk : DiskService). record system {
      steps = system.steps + 0;
      kernel = with_regs (record system.kernel { disk = disk }) p (process_in system.kernel.dispatcher.procs p).regs;
    }) (passes_nothing system.kernel.disk)
    ∙ ap (λ (kernel : Kernel). record system { steps = system.steps + 0; kernel = kernel }) (same_regs system.kernel p)
    ∙ ap (λ (n : ℕ). record system { steps = n }) (omega arith)

regs_of_view : (system : System) (p n : ℕ) (view : View) → p < length system.kernel.dispatcher.procs.processes
    → process_in (with_view system p view n).kernel.dispatcher.procs p ≡ record (process_in system.kernel.dispatcher.procs p) { regs = view.regs }
unfolding with_view
regs_of_view system p n view below = process_changed system.kernel.dispatcher.procs p (record (process_in system.kernel.dispatcher.procs p) { regs = view.regs }) below

-- registers that change twice are the last ones
regs_twice : (kernel : Kernel) (p : ℕ) (first last : Regs) → p < length kernel.dispatcher.procs.processes
    → with_regs (with_regs kernel p first) p last ≡ with_regs kernel p last
unfolding with_process
regs_twice kernel p first last below =
    let old = process_in kernel.dispatcher.procs p in
    let once = with_process kernel.dispatcher.procs p (record old { regs = first }) in
    let at : process_in once p ≡ record old { regs = first } = get_or-set_same kernel.dispatcher.procs.processes p _ blank below in
    ap (λ (process : Process). dispatched (with_procs (with_process once p (record process { regs = last }))) kernel) at
    ∙ ap (λ processes. dispatched (with_procs (record kernel.dispatcher.procs { processes = processes })) kernel) (set-set kernel.dispatcher.procs.processes p _ _)

-- an instruction makes one view of another

-- as the disk has not made its step yet
abbrev unpassed : System → ℕ → View → ℕ → System
unpassed system p view n = record system {
  steps = system.steps + (n + 1);
  kernel = with_regs (record system.kernel { devices = view.devices; disk = passed_by n system.kernel.disk }) p view.regs;
  memory = view.memory;
}

ran_view : (system : System) (p seg n : ℕ) (view : View) → p < length system.kernel.dispatcher.procs.processes
    → instructed (instruction_in seg view) p seg (counted (with_view system p view n)) ≡ unpassed system p (moved seg view) n
unfolding instructed with_view
ran_view system p seg n view below =
    let outcome = instruction_in seg view in
    let next = moved seg view in
    let kernel = record system.kernel { devices = next.devices; disk = passed_by n system.kernel.disk } in
    let old = process_in system.kernel.dispatcher.procs p in
    let at : process_in (with_view system p view n).kernel.dispatcher.procs p ≡ record old { regs = view.regs } = regs_of_view system p n view below in
    ap (λ (regs : Regs). record system {
      steps = system.steps + n + 1;
      kernel = with_regs (with_regs kernel p view.regs) p (registers_after outcome regs);
      memory = next.memory;
    }) (ap (λ (process : Process). process.regs) at)
    ∙ ap (λ (k : Kernel). record system { steps = system.steps + n + 1; kernel = k; memory = next.memory }) (regs_twice kernel p view.regs next.regs below)
    ∙ ap (λ steps. record system { steps = steps; kernel = with_regs kernel p next.regs; memory = next.memory }) (omega arith)

-- no gate stands there

runs_view : (system : System) (p n : ℕ) (view : View) → system.kernel.dispatcher.running ≡ Some p → (with_view system p view n).kernel.dispatcher.running ≡ Some p
unfolding with_view
runs_view system p n view running = running

gate_of_view : (system : System) (p seg n : ℕ) (view : View) → p < length system.kernel.dispatcher.procs.processes → CanMove (is_inside system.kernel.dispatcher.procs p) seg view
    → gate_before p seg (with_view system p view n) ≡ None
unfolding with_view
gate_of_view system p seg n view below can =
    let begun = with_view system p view n in
    let at = regs_of_view system p n view below in
    let regs : (process_in begun.kernel.dispatcher.procs p).regs ≡ view.regs = ap (λ (process : Process). process.regs) at in
    let inside : is_inside begun.kernel.dispatcher.procs p ≡ is_inside system.kernel.dispatcher.procs p = ap (λ (process : Process). is_some process.procedure) at in
    ap (λ b. gate_of b view.memory seg (process_in begun.kernel.dispatcher.procs p).regs.pc) inside
    ∙ ap (λ (r : Regs). gate_of (is_inside system.kernel.dispatcher.procs p) view.memory seg r.pc) regs ∙ can.no_gate

-- the step is that instruction

acted_view : (system : System) (p seg n : ℕ) (view : View) → p < length system.kernel.dispatcher.procs.processes → RunsOn system p seg
    → CanMove (is_inside system.kernel.dispatcher.procs p) seg view
    → acted (counted (with_view system p view n)) ≡ silent (unpassed system p (moved seg view) n)
unfolding acted with_view
acted_view system p seg n view below on can =
    let begun = counted (with_view system p view n) in
    let at = regs_of_view system p n view below in
    let regs : (process_in begun.kernel.dispatcher.procs p).regs ≡ view.regs = ap (λ (process : Process). process.regs) at in
    let home : (process_in begun.kernel.dispatcher.procs p).seg ≡ Some seg = ap (λ (process : Process). process.seg) at ∙ on.home in
    let inside : is_inside begun.kernel.dispatcher.procs p ≡ is_inside system.kernel.dispatcher.procs p = ap (λ (process : Process). is_some process.procedure) at in
    let gate : gate_before p seg begun ≡ None =
    ap (λ b. gate_of b view.memory seg (process_in begun.kernel.dispatcher.procs p).regs.pc) inside
    ∙ ap (λ (r : Regs). gate_of (is_inside system.kernel.dispatcher.procs p) view.memory seg r.pc) regs ∙ can.no_gate in
    let there : instruction_at p seg begun ≡ instruction_in seg view =
    ap (λ r. instruction r (byte_at view.memory seg) (port_byte view.devices)) regs in
    ap (λ running. acted_by running (running_segment running begun) begun) on.running
    ∙ ap (λ segment. acted_by (Some p) segment begun) home
    ∙ ap (λ (g : Option Gate). acted_at g p seg begun) gate
    ∙ ap (λ outcome. executed outcome p seg begun) there
    ∙ runs_listed (instruction_in seg view) p seg begun can.listed
    ∙ ap silent (ran_view system p seg n view below)

-- no interrupt comes where none is due

quiet_view : (system : System) (p n : ℕ) (view : View) → due (system.steps + n + 1) system.interrupts ≡ None
    → coming (counted (with_view system p view n)) ≡ None
unfolding with_view
quiet_view system p n view quiet = none_comes (counted (with_view system p view n)) quiet

-- and nobody is aborted in them

nobody_view : (kernel : Kernel) (devices : Devices) (disk : DiskService) (p : ℕ) (regs : Regs) → p < length kernel.dispatcher.procs.processes → NobodyAborted kernel
    → NobodyAborted (with_regs (record kernel { devices = devices; disk = disk }) p regs)
nobody_view kernel devices disk p regs below none = λ q.
    let process = record (process_in kernel.dispatcher.procs p) { regs = regs } in
    let procs = with_process kernel.dispatcher.procs p process in
    let same : (process_in procs q).abort_due ≡ (process_in kernel.dispatcher.procs q).abort_due = elim (cases_eq q p) [
      | inl equal ↦
          ap (λ (x : Process). x.abort_due) (ap (process_in procs) equal ∙ process_changed kernel.dispatcher.procs p process below)
          ∙ ap (λ n. (process_in kernel.dispatcher.procs n).abort_due) (sym equal)
      | inr other ↦ ap (λ (x : Process). x.abort_due) (process_kept kernel.dispatcher.procs p q process other)
    ] in
    ap (λ b. b && (process_in procs q).abort_due) (lives_changed kernel.dispatcher.procs p q process) ∙ ap (λ b. lives kernel.dispatcher.procs q && b) same ∙ none q

settled_view : (system : System) (p n : ℕ) (view : View) → p < length system.kernel.dispatcher.procs.processes → NobodyAborted system.kernel
    → NobodyAborted (with_view system p view n).kernel
unfolding with_view
settled_view system p n view below none = nobody_view system.kernel view.devices (passed_by n system.kernel.disk) p view.regs below none

-- no call is in service after steps that passed where none was before
handed_unpassed : (system : System) (p n : ℕ) (view : View) → NoCompletions system → NoCompletions (unpassed system p view n)
unfolding passed_by
handed_unpassed system p n view none =
    record { answered = none.answered; written = none.written; paid = λ idle. none.paid (none_before system.kernel.disk.served n idle) }

step_view : (telling : Telling) (system : System) (p seg n : ℕ) (view : View) → p < length system.kernel.dispatcher.procs.processes → RunsOn system p seg
    → CanMove (is_inside system.kernel.dispatcher.procs p) seg view → due (system.steps + n + 1) system.interrupts ≡ None → CanPass (n + 1) system.kernel.disk
    → file_caller (with_view system p view n) ≡ None
    → step_with telling (with_view system p view n) ≡ silent (with_view system p (moved seg view) (n + 1))
unfolding with_view
step_view telling system p seg n view below on can quiet passing alone =
    let begun = counted (with_view system p view n) in
    let later = unpassed system p (moved seg view) n in
    let instruction = at_instruction begun in
    let last = with_view system p (moved seg view) (n + 1) in
    step_quiet telling (with_view system p view n) later alone (quiet_view system p n view quiet) (acted_view system p seg n view below on can) on.no_completions.answered
    ∙ rest_still instruction telling later (handed_unpassed system p n (moved seg view) on.no_completions)
    (nobody_view system.kernel (moved seg view).devices (passed_by n system.kernel.disk) p (moved seg view).regs below on.settled) on.none_deferred
    (still_ahead n system.kernel.disk passing)
    ∙ ap (λ (disk : DiskService). runner_picked instruction (silent (record later { kernel = record later.kernel { disk = disk } }))) (passes_on n system.kernel.disk passing)
    ∙ ap (λ (kernel : Kernel). silent (record last { kernel = kernel })) (picked_same instruction last.kernel (on.first ∙ sym on.running))

-- so n of them are n steps, which say nothing

abbrev with_system : State → System → State
with_system s system = record s { system = system }

handed_view : (system : System) (p n : ℕ) (view : View) → NoCompletions system → NoCompletions (with_view system p view n)
unfolding with_view passed_by
handed_view system p n view none =
    record { answered = none.answered; written = none.written; paid = λ idle. none.paid (none_before system.kernel.disk.served n idle) }

alone_view : (system : System) (p seg n : ℕ) (view : View) → p < length system.kernel.dispatcher.procs.processes → RunsOn system p seg
    → CanMove (is_inside system.kernel.dispatcher.procs p) seg view → file_caller (with_view system p view n) ≡ None
alone_view system p seg n view below on can =
    let at = regs_of_view system p n view below in
    gateless (with_view system p view n) p seg (runs_view system p n view on.running) (ap (λ (process : Process). process.seg) at ∙ on.home) (gate_of_view system p seg n view below can)

-- a machine that ran so is whole
whole_view : (system : System) (p n : ℕ) (view : View) → IsWhole system → Lives system.kernel.dispatcher.procs p → KeepsHomes system.memory view.memory
    → IsWhole (with_view system p view n)
unfolding with_view
whole_view system p n view w h keeps =
    let polled = record system.kernel { devices = view.devices; disk = passed_by n system.kernel.disk } in
    let sound = sound_passed_by (record system.kernel { devices = view.devices }) n (sound_devices system.kernel view.devices w.sound) in
    let before = whole_kernel system polled w sound w.live (homes_stay _ _ refl) in
    let changed = whole_regs p view.regs (record system { kernel = polled }) before h in
    let afterwards = whole_memory _ view.memory changed.whole keeps in
    whole_steps _ (system.steps + n) afterwards

keeps_moved : (n seg : ℕ) (view : View) → KeepsHomes view.memory (moves n seg view).memory
unfolding moves
keeps_moved zero seg view = keeps_itself view.memory
keeps_moved (suc n) seg view =
    let before = moves n seg view in
    keeps_both view.memory before.memory _ (keeps_moved n seg view) (keeps_acted (actions_of (instruction_in seg before)) seg before.memory)

-- files stay as they are in them
unpassed_within : (s : State) (p n : ℕ) (view : View) → AreWithin s.system.kernel.disk.served s.files → AreWithin (unpassed s.system p view n).kernel.disk.served s.files
unfolding passed_by
unpassed_within s p n view within = within_on s.system.kernel.disk.served s.files n within

next_view : (s : State) (p seg n : ℕ) (view : View) → p < length s.system.kernel.dispatcher.procs.processes → RunsOn s.system p seg
    → CanMove (is_inside s.system.kernel.dispatcher.procs p) seg view
    → due (s.system.steps + n + 1) s.system.interrupts ≡ None → CanPass (n + 1) s.system.kernel.disk → AreWithin s.system.kernel.disk.served s.files
    → next (with_system s (with_view s.system p view n)) ≡ with_system s (with_view s.system p (moved seg view) (n + 1))
next_view s p seg n view below on can quiet passing within =
    let here = with_system s (with_view s.system p view n) in
    let alone = alone_view s.system p seg n view below on can in
    plain_next here (with_view s.system p (moved seg view) (n + 1))
    (λ telling. step_view telling s.system p seg n view below on can quiet passing alone)
    (files_still here (unpassed s.system p (moved seg view) n) alone (quiet_view s.system p n view quiet) (acted_view s.system p seg n view below on can)
    (handed_unpassed s.system p n (moved seg view) on.no_completions)
    (nobody_view s.system.kernel (moved seg view).devices (passed_by n s.system.kernel.disk) p (moved seg view).regs below on.settled) on.none_deferred
    (still_ahead n s.system.kernel.disk passing) (unpassed_within s p n (moved seg view) within))

after_moves : (n : ℕ) (s : State) (p seg : ℕ) → p < length s.system.kernel.dispatcher.procs.processes → RunsOn s.system p seg
    → ((k : ℕ) → k < n → CanMove (is_inside s.system.kernel.dispatcher.procs p) seg (moves k seg (view_of s.system p))) → Quiet n s.system
    → CanPass n s.system.kernel.disk → AreWithin s.system.kernel.disk.served s.files
    → after n s ≡ with_system s (with_view s.system p (moves n seg (view_of s.system p)) n)
unfolding moves after
after_moves zero s p seg below on each quiet passing within = ap (λ system. record s { system = system }) (sym (view_itself s.system p))
after_moves (suc n) s p seg below on each quiet passing within =
    let view = moves n seg (view_of s.system p) in
    let more : CanPass (n + 1) s.system.kernel.disk = subst (λ (k : ℕ). CanPass k s.system.kernel.disk) (sym (add-one n)) passing in
    ap next (after_moves n s p seg below on (λ k less. each k (omega (arith, less))) (λ k less. quiet k (omega (arith, less))) (fewer_pass n s.system.kernel.disk more) within)
    ∙ next_view s p seg n view below on (each n (omega arith)) (quiet n (omega arith)) more within
    ∙ ap (λ count. record s { system = with_view s.system p (moved seg view) count }) (add-one n)

pub runs_on : (system : System) (p seg : ℕ) → IsWhole system → system.kernel.dispatcher.running ≡ Some p → first_of (list_at system.kernel.dispatcher.lists ready) ≡ Some p
    → (process_in system.kernel.dispatcher.procs p).seg ≡ Some seg → NoCompletions system → system.abort_deferred ≡ false → RunsOn system p seg
runs_on system p seg w running first home no_completions off =
    record { running = running; first = first; home = home; no_completions = no_completions; none_deferred = off; settled = w.settled off }

-- so many steps in which nothing is due
pub quiet_steps : (n : ℕ) (system : System) → ((step : ℕ) → step ≤ system.steps + n → system.steps < step → due step system.interrupts ≡ None) → Quiet n system
quiet_steps n system none = λ k below. none (system.steps + k + 1) (omega (arith, below)) (omega arith)

-- what becomes of a state in them
pub moved_state : (n p seg : ℕ) (old new : System) (s : State) → IsWhole old → RunsOn old p seg → Moved n p seg old new → Quiet n old → CanPass n old.kernel.disk
    → AreWithin old.kernel.disk.served s.files → s.system ≡ old → after n s ≡ record s { system = new }
moved_state n p seg old new s w on moved quiet passing within is =
    let below : p < length old.kernel.dispatcher.procs.processes =
    omega (arith, w.sound.slots.processes, lives_below old.kernel.dispatcher.procs p w.sound.slots (runner_lives old.kernel p w.sound on.running)) in
    let P : System → Type 0 = λ system. (p < length system.kernel.dispatcher.procs.processes) × RunsOn system p seg
    × ((k : ℕ) → k < n → CanMove (is_inside system.kernel.dispatcher.procs p) seg (moves k seg (view_of system p))) × Quiet n system
    × CanPass n system.kernel.disk × AreWithin system.kernel.disk.served s.files in
    let facts : P s.system = subst P (sym is) (below, on, moved.moves.each, quiet, passing, within) in
    let whole : with_view s.system p (moves n seg (view_of s.system p)) n ≡ new =
    ap (λ system. with_view system p (moves n seg (view_of system p)) n) is ∙ sym (moved.is ∙ ap (λ v. with_view old p v n) moved.moves.is) in
    after_moves n s p seg facts.0 facts.1 facts.2 facts.3 facts.4 facts.5 ∙ ap (λ system. record s { system = system }) whole

-- the disk's steps passed in them
pub moved_disk : (n p seg : ℕ) (old new : System) → Moved n p seg old new → new.kernel.disk ≡ passed_by n old.kernel.disk
unfolding with_view
moved_disk n p seg old new moved = ap (λ (system : System). system.kernel.disk) moved.is

-- nobody's end is due after them
pub moved_settled : (n p seg : ℕ) (old new : System) → IsWhole old → RunsOn old p seg → Moved n p seg old new → NobodyAborted new.kernel
moved_settled n p seg old new w on moved =
    let lives = runner_lives old.kernel p w.sound on.running in
    let below : p < length old.kernel.dispatcher.procs.processes = omega (arith, w.sound.slots.processes, lives_below old.kernel.dispatcher.procs p w.sound.slots lives) in
    subst (λ (system : System). NobodyAborted system.kernel) (sym moved.is) (settled_view old p n moved.view below on.settled)

pub whole_moved : (n p seg : ℕ) (old new : System) → IsWhole old → Lives old.kernel.dispatcher.procs p → Moved n p seg old new → IsWhole new
whole_moved n p seg old new w h on =
    let keeps : KeepsHomes old.memory on.view.memory =
    subst (λ (view : View). KeepsHomes old.memory view.memory) (sym on.moves.is) (keeps_moved n seg (view_of old p)) in
    subst IsWhole (sym on.is) (whole_view old p n on.view w h keeps)

pub steps_moved : (n p seg : ℕ) (old new : System) → Moved n p seg old new → new.steps ≡ old.steps + n
unfolding with_view
steps_moved n p seg old new moved = ap (λ (system : System). system.steps) moved.is

pub no_completions_moved : (n p seg : ℕ) (old new : System) → Moved n p seg old new → NoCompletions old → NoCompletions new
no_completions_moved n p seg old new moved none = subst NoCompletions (sym moved.is) (handed_view old p n moved.view none)

-- the gates stay where they are
page_moves : (n seg : ℕ) (view : View) → last_page (moves n seg view).memory seg ≡ last_page view.memory seg
unfolding moves
page_moves zero seg view = refl
page_moves (suc n) seg view =
    let before = moves n seg view in
    page_stays before.memory _ seg (same_segments_after (actions_of (instruction_in seg before)) seg before.memory) ∙ page_moves n seg view

page_moved : (n p seg : ℕ) (old new : System) → Moved n p seg old new → last_page new.memory seg ≡ last_page old.memory seg
unfolding with_view
page_moved n p seg old new moved =
    ap (λ (s : System). last_page s.memory seg) moved.is ∙ ap (λ (v : View). last_page v.memory seg) moved.moves.is ∙ page_moves n seg (view_of old p)

-- what lies ahead still does after them
pub ahead_moved : (n : ℕ) (ahead : Ahead) (old new : System) → IsWhole old → n ≤ ahead.last - old.steps → Moved n ahead.p ahead.seg old new → RunsAhead ahead old
    → RunsAhead ahead new
unfolding with_view passed_by
ahead_moved n ahead old new w few moved here =
    let p = ahead.p in
    let seg = ahead.seg in
    let on = here.on in
    let below : p < length old.kernel.dispatcher.procs.processes =
    omega (arith, w.sound.slots.processes, lives_below old.kernel.dispatcher.procs p w.sound.slots (runner_lives old.kernel p w.sound on.running)) in
    let count = steps_moved n p seg old new moved in
    let disk = moved_disk n p seg old new moved in
    let left = ahead.last - new.steps in
    record {
      on = record {
        running = ap (λ (s : System). s.kernel.dispatcher.running) moved.is ∙ on.running;
        first = ap (λ (s : System). first_of (list_at s.kernel.dispatcher.lists ready)) moved.is ∙ on.first;
        home = ap (λ (s : System). (process_in s.kernel.dispatcher.procs p).seg) moved.is
            ∙ ap (λ (process : Process). process.seg) (regs_of_view old p n moved.view below) ∙ on.home;
        no_completions = no_completions_moved n p seg old new moved on.no_completions;
        none_deferred = ap (λ (s : System). s.abort_deferred) moved.is ∙ on.none_deferred;
        settled = moved_settled n p seg old new w on moved;
      };
      quiet = λ step within later. ap (λ (s : System). due step s.interrupts) moved.is ∙ here.quiet step within (omega (arith, later, count));
      passing = subst (λ (d : DiskService). CanPass left d) (sym disk)
          (can_pass_on n left old.kernel.disk (fewer_can (n + left) (ahead.last - old.steps) old.kernel.disk (omega (arith, few, count)) here.passing));
      alone = λ told.
          (ap (λ (d : DiskService). d.served) disk ∙ ap (option_map (passed_on n)) (here.alone told).0, ap (λ (d : DiskService). first_of d.waiting) disk ∙ (here.alone told).1);
      gate = here.gate ∙ ap (λ (page : ℕ). 256 * page + call_gate) (sym (page_moved n p seg old new moved));
    }

pub quiet_ahead : (n : ℕ) (ahead : Ahead) (system : System) → n ≤ ahead.last - system.steps → RunsAhead ahead system → Quiet n system
quiet_ahead n ahead system few here = λ k below. here.quiet (system.steps + k + 1) (omega (arith, few, below)) (omega arith)
