-- Plain instructions in a row, whose beginnings are put off.
use Rattle.std.proofs.Common.{◌≡◌, ◌∙◌, ℕ, ◌+◌, ◌<◌, Bool, true, false, Option, Some, None, is_some, is_none, refl, ap, sym, subst, rules, arith}
use Rattle.std.specs.Prelude.{◌↔◌, IsNone, IfSome, option_map}
use Rattle.mpm_base.proofs.Options.{none_there}
use Rattle.z80_regs.specs.declared.regs.Regs.{Regs}
use Rattle.z80_ext.specs.Instruction.{begun_times, is_plain_at, unbegun, registers_after, actions_of, IsRareAt}
use Rattle.z80_ext.proofs.Begun.{begun_none, unbegun_is}
use Rattle.mpm_banks.specs.Memory.{byte_at}
use Rattle.mpm_banks.specs.Ports.{port_byte}
use Rattle.mpm_banks.specs.Actions.{memory_after, devices_after}
use Rattle.z80_ext.specs.declared.stepped.Stepped.{Stepped}
use Rattle.z80_ext.specs.declared.stepped.Stepped.TheVariants.{Ran, Illegal}
use Rattle.mpm_gate.specs.declared.gate.Gate.{Gate}
use Rattle.mpm_gate.specs.Gates.{gate_of}
use Rattle.mpm_processor.specs.Moving.{View, instruction_in, moved, Moves, IsPaused}
use Rattle.mpm_processor.proofs.MovingLaws.{view_is, moves_none, moves_more, moves_to, unmoved, some_unless, ran_or_not}

-- a view whose registers have so many beginnings after them
abbrev pub begun_view : ℕ → View → View
begun_view n view = record view { regs = begun_times n view.regs }

pub plain_none : (inside : Bool) (view : View) → Moves inside 0 0 view (begun_view 0 view)
plain_none inside view =
    moves_to inside 0 0 view view (begun_view 0 view) (moves_none inside 0 view) (ap (λ regs. record view { regs = regs }) (begun_none 0 view.regs refl))

pub plain_more : (inside : Bool) (n : ℕ) (old view new : View) → Moves inside n 0 old (begun_view n view)
    → gate_of inside view.memory 0 view.regs.pc ≡ None
    → view.regs.halted ≡ false
    → is_plain_at view.regs (byte_at view.memory 0) ≡ true
    → new.regs ≡ (unbegun view.regs (byte_at view.memory 0) (port_byte view.devices)).registers
    → new.memory ≡ memory_after (unbegun view.regs (byte_at view.memory 0) (port_byte view.devices)).actions 0 view.memory
    → new.devices ≡ devices_after (unbegun view.regs (byte_at view.memory 0) (port_byte view.devices)).actions view.devices
    → Moves inside (n + 1) 0 old (begun_view (n + 1) new)
plain_more inside n old view new before gate runs plain regs memory devices =
    let is = unbegun_is n view.regs (byte_at view.memory 0) (port_byte view.devices) runs plain in
    let now : View = begun_view n view in
    moves_more inside n 0 old now (begun_view (n + 1) new) before
    (record { no_gate = gate; listed = ap is_some is })
    (view_is (begun_view (n + 1) new) (moved 0 now)
    (ap (begun_times (n + 1)) regs ∙ sym (ap (λ outcome. registers_after outcome now.regs) is))
    (memory ∙ sym (ap (λ outcome. memory_after (actions_of outcome) 0 view.memory) is))
    (devices ∙ sym (ap (λ outcome. devices_after (actions_of outcome) view.devices) is)))

-- one by itself, and an opcode that isn't listed

pub ran_once : (inside : Bool) (stepped : Stepped) (view new : View) → gate_of inside view.memory 0 view.regs.pc ≡ None → stepped ≡ Ran
    → ((stepped ≡ Illegal) ↔ IsNone (instruction_in 0 view)) → new ≡ moved 0 view → Moves inside 1 0 view new
ran_once inside stepped view new gate ran illegal is =
    moves_more inside 0 0 view view new (moves_none inside 0 view)
    (record { no_gate = gate; listed = some_unless (instruction_in 0 view) (λ none. ran_or_not stepped ran (illegal.1 none)) }) is

pub ran_none : (inside : Bool) (view new : View) → IsNone (instruction_in 0 view) → new ≡ moved 0 view → Moves inside 0 0 view new
ran_none inside view new none is = moves_to inside 0 0 view view new (moves_none inside 0 view) (is ∙ unmoved 0 view none)

-- in a HALT none is plain

pub rare_halted : (opcode : ℕ) (regs : Regs) (memory : ℕ → ℕ) → regs.halted ≡ true → opcode ≡ memory regs.pc → IsRareAt opcode regs memory
rare_halted opcode regs memory halted here = record { here = here; rare = λ runs. absurd (cc (sym halted ∙ runs)) }

gate_stands : (gate : Option Gate) → is_some gate ≡ true → gate ≡ None → ⊥
gate_stands None some none = absurd (cc some)
gate_stands (Some gate) some none = absurd (cc none)

pub paused_halted : {Fetched : Type 0} (Is : Fetched → Type 0) (opcode_of : Fetched → ℕ) (inside : Bool) (most : ℕ) (here : Option Fetched) (old new : View)
    → ((fetched : Fetched) → Is fetched → opcode_of fetched ≡ byte_at old.memory 0 old.regs.pc)
    → 0 < most → new ≡ old → old.regs.halted ≡ true → IfSome here Is
    → is_none here ≡ is_some (gate_of inside old.memory 0 old.regs.pc)
    → IsPaused inside most old new (record { done = 0; opcode = option_map opcode_of here })
paused_halted Is opcode_of inside most None old new byte some is halted fetched gate =
    let P : View → Type 0 = λ view. IsPaused inside most old view (record { done = 0; opcode = None }) in
    subst P (sym is) (record {
      count = omega arith;
      moved = moves_none inside 0 old;
      stopped = λ none less can. gate_stands (gate_of inside old.memory 0 old.regs.pc) (sym gate) can.no_gate;
      below = λ one. absurd (cc one);
      gate = λ one. absurd (cc one);
      rare = search rules;
    })
paused_halted Is opcode_of inside most (Some here) old new byte some is halted fetched gate =
    let P : View → Type 0 = λ view. IsPaused inside most old view (record { done = 0; opcode = Some (opcode_of here) }) in
    subst P (sym is) (record {
      count = omega arith;
      moved = moves_none inside 0 old;
      stopped = λ none. absurd (cc none);
      below = λ one. some;
      gate = λ one. none_there (gate_of inside old.memory 0 old.regs.pc) (sym gate);
      rare = rare_halted (opcode_of here) old.regs (byte_at old.memory 0) halted (byte here fetched);
    })

-- the opcode that was answered
pub rare_in : (answered : Option ℕ) (opcode : ℕ) (regs : Regs) (memory : ℕ → ℕ) → answered ≡ Some opcode
    → IfSome answered (λ rare. IsRareAt rare regs memory) → IsRareAt opcode regs memory
rare_in answered opcode regs memory is rare =
    let P : Option ℕ → Type 0 = λ answered. IfSome answered (λ rare. IsRareAt rare regs memory) in
    subst P is rare
