-- A replay of a process's core leaves what its machine does, where it runs on alone.
use Rattle.std.proofs.Common.{◌≡◌, ◌∙◌, ℕ, Bool, List, sym, ap, ap₂, subst}
use Rattle.z80_regs.specs.declared.regs.Regs.{Regs}
use Rattle.mpm_base.specs.declared.segment.SegmentSpec.{SegmentSpec}
use Rattle.mpm_banks.specs.Memory.{Memory, segment_of}
use Rattle.mpm_banks.specs.Allocations.{spec_of}
use Rattle.mpm_banks.specs.Sides.{alone}
use Rattle.mpm_system.specs.declared.system.System.{System}
use Rattle.mpm_system.specs.Procedures.{is_inside}
use Rattle.mpm_machine.specs.Moving.{view_of}
use Rattle.mpm_core_file.specs.CoreFiles.{CoreContents}
use Rattle.mpm_core_file.specs.declared.head.Head.{Head}
use Rattle.mpm_replay.specs.declared.replaying.Replayed.{Replayed}
use Rattle.mpm_replay.specs.declared.stopping.Why.{Why}
use Rattle.mpm_replay.specs.Replays.{IsReplay, portless}
use Rattle.mpm_replay.specs.Agreeing.{own_of, Agrees}
use Rattle.mpm_core.specs.Taking.{core_in}
use Rattle.mpm_core.specs.Replaying.{Replays}
use Rattle.mpm_core.specs.Agreement.{with_step, Agree}
use Rattle.mpm_core.proofs.StepViews.{agrees_alone, inside_stays}

abbrev made : ℕ → ℕ → SegmentSpec → Bool → Regs → List ℕ → List ℕ → CoreContents
made step process spec inside regs segment common =
    record { head = record { step = step; process = process; spec = spec; inside = inside; regs = regs }; segment = segment; common = common }

-- the replay is one of what the process reaches of its machine
own : (most p seg : ℕ) (system : System) (old new : CoreContents) (replayed : Replayed) → old ≡ core_in p seg system → Replays most old new replayed
    → IsReplay (is_inside system.kernel.dispatcher.procs p) most (own_of seg (view_of system p)) new.head.regs (alone (spec_of system.memory seg) new.segment new.common) replayed
own most p seg system old new replayed is r =
    subst (λ (core : CoreContents). IsReplay core.head.inside most (portless core.head.spec core.head.regs core.segment core.common)
    new.head.regs (alone core.head.spec new.segment new.common) replayed) is r.replay

-- what it leaves is the core of the last system
left : (most p seg : ℕ) (first last : System) (old new : CoreContents) (replayed : Replayed) → old ≡ core_in p seg first → Replays most old new replayed
    → is_inside last.kernel.dispatcher.procs p ≡ is_inside first.kernel.dispatcher.procs p
    → Agrees seg most (view_of last p) new.head.regs (alone (spec_of first.memory seg) new.segment new.common) replayed
    → new ≡ with_step old.head.step (core_in p seg last)
left most p seg first last old new replayed is r inside all =
    let procs = last.kernel.dispatcher.procs in
    let regs = new.head.regs in
    let spec : spec_of first.memory seg ≡ spec_of last.memory seg = ap (λ (m : Memory). spec_of m 0) all.reached in
    let bytes : new.segment ≡ (segment_of last.memory seg).bytes = ap (λ (m : Memory). (segment_of m 0).bytes) all.reached in
    let common : new.common ≡ last.memory.common = ap (λ (m : Memory). m.common) all.reached in
    ap (λ (head : Head). made head.step head.process head.spec head.inside head.regs new.segment new.common) r.head
    ∙ ap (λ (core : CoreContents). made old.head.step core.head.process core.head.spec core.head.inside regs new.segment new.common) is
    ∙ ap (λ s. made old.head.step p s (is_inside first.kernel.dispatcher.procs p) regs new.segment new.common) spec
    ∙ ap (λ b. made old.head.step p (spec_of last.memory seg) b regs new.segment new.common) (sym inside)
    ∙ ap (λ r. made old.head.step p (spec_of last.memory seg) (is_inside procs p) r new.segment new.common) all.registers
    ∙ ap (λ s. made old.head.step p (spec_of last.memory seg) (is_inside procs p) (view_of last p).regs s new.common) bytes
    ∙ ap (λ c. made old.head.step p (spec_of last.memory seg) (is_inside procs p) (view_of last p).regs (segment_of last.memory seg).bytes c) common

pub agree : (most : ℕ) (old new : CoreContents) (replayed : Replayed) → Replays most old new replayed → Agree most old new replayed
agree most old new replayed r = λ p seg systems is runs.
    let first = systems 0 in
    let all = agrees_alone most p seg systems new.head.regs (alone (spec_of first.memory seg) new.segment new.common) replayed runs
    (own most p seg first old new replayed is r) in
    record {
      all = ap₂ (λ (done : ℕ) (why : Why). record { done = done; why = why }) all.done all.why;
      core = left most p seg first (systems most) old new replayed is r (inside_stays most p seg systems runs) all;
    }
