-- Worked examples: where a replay stops.
use Rattle.std.proofs.Common.{◌≡◌, ◌∙◌, Bool, true, false, [], ◌∷◌, ◌++◌, Option, Some, None, rules, refl, ap}
use Rattle.std.specs.Prelude.{replicate}
use Rattle.std.proofs.lemmas.Grind.{common_steps}
use Rattle.z80_regs.specs.Words.{onward}
use Rattle.z80_regs.specs.declared.regs.Regs.{Regs}
use Rattle.z80_decode.specs.Opcodes.{form_of, high_quarter}
use Rattle.z80_decode.specs.PageOpcodes.{third_quarter, transfer_of, extended_form_of}
use Rattle.z80_decode.specs.Decoding.{prefixed_instr_of, main_instr_of, instr_of}
use Rattle.z80_exec.specs.Performing.{performed, main_outcome}
use Rattle.z80_ext.specs.Instruction.{instruction}
use Rattle.mpm_banks.specs.Memory.{byte_at, with_byte, place_of}
use Rattle.mpm_banks.specs.Actions.{memory_after, devices_after}
use Rattle.mpm_gate.specs.Gates.{gate_in, gate_of}
use Rattle.mpm_gate.specs.declared.gate.Gate.{Gate as GateThere}
use Rattle.mpm_processor.specs.Moving.{View, moves}
use Rattle.mpm_replay.specs.declared.stopping.Why.TheVariants.{Gate, Illegal, Input}
use Rattle.mpm_replay.specs.Replays.{portless, bytes_at, stop_unless, stop_by, stop_at}

-- a gate comes before all else
pub stops_at_gate : (inside : Bool) (view : View) (gate : GateThere) → gate_of inside view.memory 0 view.regs.pc ≡ Some gate → stop_at inside view ≡ Some Gate
unfolding stop_at
stops_at_gate inside view gate there = ap (λ (g : Option GateThere). stop_by g (stop_unless view.regs.halted (bytes_at view))) there

-- IN A,(n)
pub stops_at_input : (inside : Bool) (view : View) → gate_of inside view.memory 0 view.regs.pc ≡ None → view.regs.halted ≡ false
    → byte_at view.memory 0 view.regs.pc ≡ 219 → stop_at inside view ≡ Some Input
unfolding stop_at instr_of main_instr_of form_of high_quarter
stops_at_input inside view gate runs opcode = search (rules, common_steps)

-- INIR
pub stops_at_block_input : (inside : Bool) (view : View) → gate_of inside view.memory 0 view.regs.pc ≡ None → view.regs.halted ≡ false
    → byte_at view.memory 0 view.regs.pc ≡ 237 → byte_at view.memory 0 (onward view.regs.pc 1) ≡ 178 → stop_at inside view ≡ Some Input
unfolding stop_at instr_of main_instr_of prefixed_instr_of form_of high_quarter extended_form_of third_quarter transfer_of
stops_at_block_input inside view gate runs prefix opcode = search (rules, common_steps)

-- ED 00 isn't listed
pub stops_at_unlisted : (inside : Bool) (view : View) → gate_of inside view.memory 0 view.regs.pc ≡ None → view.regs.halted ≡ false
    → byte_at view.memory 0 view.regs.pc ≡ 237 → byte_at view.memory 0 (onward view.regs.pc 1) ≡ 0 → stop_at inside view ≡ Some Illegal
unfolding stop_at instr_of main_instr_of prefixed_instr_of form_of high_quarter extended_form_of
stops_at_unlisted inside view gate runs prefix opcode = search (rules, common_steps)

-- in a HALT it goes on, whatever is at PC
pub goes_in_halt : (inside : Bool) (view : View) → gate_of inside view.memory 0 view.regs.pc ≡ None → view.regs.halted ≡ true → stop_at inside view ≡ None
unfolding stop_at
goes_in_halt inside view gate halted =
    ap (λ (g : Option GateThere). stop_by g (stop_unless view.regs.halted (bytes_at view))) gate ∙ ap (λ b. stop_unless b (bytes_at view)) halted

-- a program after its first two instructions, at CALL 0005h, where JP BF06h stands: it does two more, and is at the gate of calls
abbrev called_regs : Regs
called_regs = record {
  a = 0;
  f = 0;
  b = 0;
  c = 9;
  d = 1;
  e = 13;
  h = 0;
  l = 0;
  a2 = 0;
  f2 = 0;
  b2 = 0;
  c2 = 0;
  d2 = 0;
  e2 = 0;
  h2 = 0;
  l2 = 0;
  ix = 0;
  iy = 0;
  sp = 48894;
  pc = 261;
  i = 0;
  r = 2;
  iff1 = true;
  iff2 = true;
  mode = 0;
  halted = false;
  shadow = false;
}

abbrev calling : View
calling = portless (record { base = 0; pages = 192 }) called_regs (0 ∷ 0 ∷ 0 ∷ 0 ∷ 0 ∷ 195 ∷ 6 ∷ 191 ∷ (replicate 253 0 ++ (205 ∷ 5 ∷ 0 ∷ []))) []

pub call_goes_on : stop_at false calling ≡ None
unfolding stop_at gate_in byte_at place_of instr_of main_instr_of form_of high_quarter
call_goes_on = refl

pub call_comes_to_gate : stop_at false (moves 2 0 calling) ≡ Some Gate
unfolding stop_at gate_in byte_at with_byte place_of moves memory_after devices_after instruction instr_of main_instr_of form_of high_quarter main_outcome performed
call_comes_to_gate = refl

pub call_leaves : ((moves 2 0 calling).regs.pc ≡ 0xbf06)
unfolding byte_at with_byte place_of moves memory_after devices_after instruction instr_of main_instr_of form_of high_quarter main_outcome performed
call_leaves = refl

pub call_leaves_stack : ((moves 2 0 calling).regs.sp ≡ 0xbefc)
unfolding byte_at with_byte place_of moves memory_after devices_after instruction instr_of main_instr_of form_of high_quarter main_outcome performed
call_leaves_stack = refl
