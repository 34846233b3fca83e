-- Instructions of a process in what it reaches, its segment alone and common memory, are those in memory as a whole.
use Rattle.std.proofs.Common.{◌≡◌, ◌∙◌, ℕ, zero, suc, ◌+◌, ◌-◌, Bool, Option, is_some, refl, ap, sym, subst}
use Rattle.z80_regs.specs.declared.regs.Regs.{Regs}
use Rattle.z80_regs.specs.Outcome.{StepOutcome}
use Rattle.z80_ext.specs.Instruction.{instruction, registers_after, actions_of}
use Rattle.mpm_banks.specs.declared.segment.Segment.{Segment}
use Rattle.mpm_banks.specs.Memory.{Memory, HasSegment, segment_of, byte_at}
use Rattle.mpm_banks.specs.Allocations.{spec_of}
use Rattle.mpm_banks.specs.Sides.{with_sides, reach_of}
use Rattle.mpm_banks.specs.Ports.{port_byte}
use Rattle.mpm_banks.specs.Actions.{memory_after, devices_after}
use Rattle.mpm_banks.proofs.SideLaws.{Alike, acted_alike, reads_same, reach_alike, whole_of, side_of}
use Rattle.mpm_gate.specs.Gates.{gate_in, gate_of}
use Rattle.mpm_processor.specs.Moving.{View, instruction_in, moved, moves, CanMove, Moves}
use Rattle.mpm_processor.proofs.MovingLaws.{view_is}

-- two views of the same registers and devices, one of memory as a whole, one of what a process reaches of it
record AlikeViews (memory : Memory) (seg : ℕ) (whole own : View) : Type 0 where
  regs : whole.regs ≡ own.regs
  bytes : Alike memory seg (spec_of memory seg) whole.memory own.memory
  devices : whole.devices ≡ own.devices

-- the same instruction stands there
same_instruction : (memory : Memory) (seg : ℕ) (whole own : View) → HasSegment memory seg → AlikeViews memory seg whole own
    → instruction_in seg whole ≡ instruction_in 0 own
same_instruction memory seg whole own there alike =
    ap (λ r. instruction r (byte_at whole.memory seg) (port_byte whole.devices)) alike.regs
    ∙ ap (λ bytes. instruction own.regs bytes (port_byte whole.devices)) (reads_same memory seg (spec_of memory seg) whole.memory own.memory there refl alike.bytes)
    ∙ ap (λ d. instruction own.regs (byte_at own.memory 0) (port_byte d)) alike.devices

-- and it makes alike ones of them
moved_alike : (memory : Memory) (seg : ℕ) (whole own : View) → HasSegment memory seg → AlikeViews memory seg whole own
    → AlikeViews memory seg (moved seg whole) (moved 0 own)
moved_alike memory seg whole own there alike =
    let same = same_instruction memory seg whole own there alike in
    let acted = acted_alike (actions_of (instruction_in 0 own)) memory seg (spec_of memory seg) whole.memory own.memory there refl alike.bytes in
    let P : Option StepOutcome → Type 0 = λ outcome. Alike memory seg (spec_of memory seg) (memory_after (actions_of outcome) seg whole.memory) (memory_after (actions_of (instruction_in 0 own)) 0 own.memory) in
    record {
      regs = ap (λ outcome. registers_after outcome whole.regs) same ∙ ap (registers_after (instruction_in 0 own)) alike.regs;
      bytes = subst P (sym same) acted;
      devices = ap (λ outcome. devices_after (actions_of outcome) whole.devices) same ∙ ap (devices_after (actions_of (instruction_in 0 own))) alike.devices;
    }

moves_alike : (n : ℕ) (memory : Memory) (seg : ℕ) (whole own : View) → HasSegment memory seg → AlikeViews memory seg whole own
    → AlikeViews memory seg (moves n seg whole) (moves n 0 own)
unfolding moves
moves_alike zero memory seg whole own there alike = alike
moves_alike (suc n) memory seg whole own there alike =
    moved_alike memory seg (moves n seg whole) (moves n 0 own) there (moves_alike n memory seg whole own there alike)

-- the same gate stands there
same_gate : (inside : Bool) (memory : Memory) (seg : ℕ) (whole own : View) → HasSegment memory seg → AlikeViews memory seg whole own
    → gate_of inside whole.memory seg whole.regs.pc ≡ gate_of inside own.memory 0 own.regs.pc
same_gate inside memory seg whole own there alike =
    let spec = spec_of memory seg in
    ap (λ (r : Regs). gate_of inside whole.memory seg r.pc) alike.regs
    ∙ ap (λ (m : Memory). gate_of inside m seg own.regs.pc) alike.bytes.whole_is
    ∙ ap (λ (s : Segment). gate_in inside (s.base + s.pages - 1) own.regs.pc) (side_of memory seg alike.bytes.bytes alike.bytes.common there)
    ∙ ap (λ (m : Memory). gate_of inside m 0 own.regs.pc) (sym alike.bytes.own_is)

can_whole : (inside : Bool) (memory : Memory) (seg : ℕ) (whole own : View) → HasSegment memory seg → AlikeViews memory seg whole own
    → CanMove inside 0 own → CanMove inside seg whole
can_whole inside memory seg whole own there alike can = record {
  no_gate = same_gate inside memory seg whole own there alike ∙ can.no_gate;
  listed = ap (λ outcome. is_some outcome) (same_instruction memory seg whole own there alike) ∙ can.listed;
}

can_own : (inside : Bool) (memory : Memory) (seg : ℕ) (whole own : View) → HasSegment memory seg → AlikeViews memory seg whole own
    → CanMove inside seg whole → CanMove inside 0 own
can_own inside memory seg whole own there alike can = record {
  no_gate = sym (same_gate inside memory seg whole own there alike) ∙ can.no_gate;
  listed = ap (λ outcome. is_some outcome) (sym (same_instruction memory seg whole own there alike)) ∙ can.listed;
}

-- what a process reaches of a view
abbrev pub own_view : ℕ → View → View
own_view seg view = record view { memory = reach_of view.memory seg }

own_alike : (seg : ℕ) (view : View) → AlikeViews view.memory seg view (own_view seg view)
own_alike seg view = record { regs = refl; bytes = reach_alike view.memory seg; devices = refl }

-- the view after a burst, of what it left of memory
new_alike : (inside : Bool) (n seg : ℕ) (old new : View) → HasSegment old.memory seg → Moves inside n 0 (own_view seg old) (own_view seg new)
    → new.memory ≡ with_sides old.memory seg (segment_of new.memory seg).bytes new.memory.common → new ≡ moves n seg old
new_alike inside n seg old new there m others =
    let alike = moves_alike n old.memory seg old (own_view seg old) there (own_alike seg old) in
    let P : Memory → Type 0 = λ own. Alike old.memory seg (spec_of old.memory seg) (moves n seg old).memory own in
    let reached = subst P (sym (ap (λ (v : View). v.memory) m.is)) alike.bytes in
    view_is new (moves n seg old)
    (ap (λ (v : View). v.regs) m.is ∙ sym alike.regs)
    (whole_of old.memory seg (spec_of old.memory seg) (moves n seg old).memory new.memory there reached others)
    (ap (λ (v : View). v.devices) m.is ∙ sym alike.devices)

pub whole_moves : (inside : Bool) (n seg : ℕ) (old new : View) → HasSegment old.memory seg → Moves inside n 0 (own_view seg old) (own_view seg new)
    → new.memory ≡ with_sides old.memory seg (segment_of new.memory seg).bytes new.memory.common → Moves inside n seg old new
whole_moves inside n seg old new there m others = record {
  is = new_alike inside n seg old new there m others;
  each = λ k below.
      can_whole inside old.memory seg (moves k seg old) (moves k 0 (own_view seg old)) there (moves_alike k old.memory seg old (own_view seg old) there (own_alike seg old)) (m.each k below);
}

-- where it can't go on, its process can't
pub whole_stopped : (inside : Bool) (n seg : ℕ) (old new : View) → HasSegment old.memory seg → Moves inside n 0 (own_view seg old) (own_view seg new)
    → new.memory ≡ with_sides old.memory seg (segment_of new.memory seg).bytes new.memory.common
    → (CanMove inside 0 (own_view seg new) → ⊥) → CanMove inside seg new → ⊥
whole_stopped inside n seg old new there m others stopped can =
    let at = new_alike inside n seg old new there m others in
    let P : View → Type 0 = λ v. CanMove inside seg v in
    let Q : View → Type 0 = λ v. CanMove inside 0 v in
    stopped (subst Q (sym m.is)
    (can_own inside old.memory seg (moves n seg old) (moves n 0 (own_view seg old)) there (moves_alike n old.memory seg old (own_view seg old) there (own_alike seg old)) (subst P at can)))
