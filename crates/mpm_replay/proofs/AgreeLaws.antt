-- A replay of the steps of a machine in which one process does listed instructions that read no port.
use Rattle.std.proofs.Common.{◌≡◌, ◌∙◌, ℕ, zero, suc, ◌+◌, ◌≤◌, Bool, true, false, List, Option, Some, None, IsSome, if◌then◌else◌, inl, inr, refl, sym, ap, subst, arith, add-one}
use Rattle.z80_regs.specs.declared.regs.Regs.{Regs}
use Rattle.z80_regs.specs.Outcome.{StepOutcome, Action}
use Rattle.z80_decode.specs.declared.instr.Instr.{Instr}
use Rattle.z80_decode.specs.Decoding.{instr_of}
use Rattle.z80_ext.specs.Instruction.{four_from, outcome_of, instruction, registers_after, actions_of}
use Rattle.mpm_banks.specs.declared.segment.Segment.{Segment}
use Rattle.mpm_banks.specs.Memory.{Memory, HasSegment, byte_at}
use Rattle.mpm_banks.specs.Allocations.{spec_of}
use Rattle.mpm_banks.specs.Sides.{alone, with_sides, reach_of}
use Rattle.mpm_banks.specs.Ports.{port_byte}
use Rattle.mpm_replay.specs.Ports.{reads_of, reads_unless}
use Rattle.mpm_banks.specs.Actions.{memory_after}
use Rattle.mpm_banks.proofs.SideLaws.{acted_alike, reads_same, reach_alike, side_of}
use Rattle.mpm_gate.specs.Gates.{gate_of}
use Rattle.mpm_gate.specs.declared.gate.Gate.{Gate as GateThere}
use Rattle.mpm_processor.specs.Moving.{View, instruction_in, moved, moves, CanMove}
use Rattle.mpm_replay.specs.declared.stopping.Why.{Why}
use Rattle.mpm_replay.specs.declared.stopping.Why.TheVariants.{Steps, Input}
use Rattle.mpm_replay.specs.declared.replaying.Replayed.{Replayed}
use Rattle.mpm_replay.specs.Replays.{bytes_at, stop_of, stop_unless, stop_by, stop_at, IsReplay}
use Rattle.mpm_replay.specs.Agreeing.{reads_in, own_of, FollowsByOne, FollowEach, Agrees}
use Rattle.mpm_replay.proofs.PortLaws.{same_ports}

-- what a process reaches of memory after an instruction of its own
reach_is : (memory : Memory) (seg : ℕ) (bytes common : List ℕ) → HasSegment memory seg
    → reach_of (with_sides memory seg bytes common) seg ≡ alone (spec_of memory seg) bytes common
reach_is memory seg bytes common there =
    ap (λ (s : Segment). alone (record { base = s.base; pages = s.pages }) s.bytes common) (side_of memory seg bytes common there)

reach_after : (actions : List Action) (seg : ℕ) (memory : Memory) → HasSegment memory seg
    → reach_of (memory_after actions seg memory) seg ≡ memory_after actions 0 (reach_of memory seg)
reach_after actions seg memory there =
    let alike = acted_alike actions memory seg (spec_of memory seg) memory (reach_of memory seg) there refl (reach_alike memory seg) in
    ap (λ (m : Memory). reach_of m seg) alike.whole_is ∙ reach_is memory seg alike.bytes alike.common there ∙ sym alike.own_is

-- a view of what a process reaches has the registers of another and what it reaches of that one's memory
record Like (seg : ℕ) (whole own : View) : Type 0 where
  regs : own.regs ≡ whole.regs
  memory : own.memory ≡ reach_of whole.memory seg

bytes_own : (seg : ℕ) (whole own : View) → HasSegment whole.memory seg → Like seg whole own → byte_at own.memory 0 ≡ byte_at whole.memory seg
bytes_own seg whole own there like =
    ap (λ (m : Memory). byte_at m 0) like.memory
    ∙ sym (reads_same whole.memory seg (spec_of whole.memory seg) whole.memory (reach_of whole.memory seg) there refl (reach_alike whole.memory seg))

-- the same instruction stands there
same_instruction : (seg : ℕ) (whole own : View) → HasSegment whole.memory seg → Like seg whole own → reads_in seg whole ≡ false
    → instruction_in 0 own ≡ instruction_in seg whole
same_instruction seg whole own there like none =
    ap (λ r. instruction r (byte_at own.memory 0) (port_byte own.devices)) like.regs
    ∙ ap (λ bytes. instruction whole.regs bytes (port_byte own.devices)) (bytes_own seg whole own there like)
    ∙ same_ports whole.regs (byte_at whole.memory seg) (port_byte own.devices) (port_byte whole.devices) none

moved_like : (seg : ℕ) (whole own : View) → HasSegment whole.memory seg → Like seg whole own → reads_in seg whole ≡ false
    → Like seg (moved seg whole) (moved 0 own)
moved_like seg whole own there like none =
    let same = same_instruction seg whole own there like none in
    let outcome = instruction_in seg whole in
    record {
      regs = ap (λ o. registers_after o own.regs) same ∙ ap (registers_after outcome) like.regs;
      memory = ap (λ o. memory_after (actions_of o) 0 own.memory) same ∙ ap (memory_after (actions_of outcome) 0) like.memory
          ∙ sym (reach_after (actions_of outcome) seg whole.memory there);
    }

like_on : (inside : Bool) (seg : ℕ) (old new own : View) → FollowsByOne inside seg old new → Like seg (moved seg old) own → Like seg new own
like_on inside seg old new own f like = record { regs = like.regs ∙ sym f.regs; memory = like.memory ∙ sym f.memory }

likes : (k : ℕ) (inside : Bool) (seg count : ℕ) (views : ℕ → View) → FollowEach inside seg count views → k ≤ count
    → Like seg (views k) (moves k 0 (own_of seg (views 0)))
unfolding moves
likes zero inside seg count views each below = record { regs = refl; memory = refl }
likes (suc k) inside seg count views each below =
    let own = moves k 0 (own_of seg (views 0)) in
    let f = each k (omega (arith, below)) in
    let before = likes k inside seg count views each (omega (arith, below)) in
    subst (λ (n : ℕ). Like seg (views n) (moved 0 own)) (add-one k)
    (like_on inside seg (views k) (views (k + 1)) (moved 0 own) f (moved_like seg (views k) own f.there before f.portless))

-- and there is no reason to stop

by_instr : (instr : Option Instr) (regs : Regs) (memory ports : ℕ → ℕ) → reads_of instr ≡ false → IsSome (outcome_of instr regs memory ports) → stop_of instr ≡ None
by_instr None regs memory ports none some = absurd (cc)
by_instr (Some instr) regs memory ports none some = ap (λ b. if b then Some Input else None) none

by_halt : (halted : Bool) (bytes : List ℕ) (rest : Option StepOutcome) (regs : Regs) (memory ports : ℕ → ℕ) → reads_unless halted (instr_of bytes) ≡ false
    → IsSome (if halted then rest else (outcome_of (instr_of bytes) regs memory ports)) → stop_unless halted bytes ≡ None
by_halt true bytes rest regs memory ports none some = refl
by_halt false bytes rest regs memory ports none some = by_instr (instr_of bytes) regs memory ports none some

goes_on : (seg : ℕ) (view : View) → reads_in seg view ≡ false → IsSome (instruction_in seg view)
    → stop_unless view.regs.halted (four_from (byte_at view.memory seg) view.regs.pc) ≡ None
unfolding instruction
goes_on seg view none some =
    by_halt view.regs.halted (four_from (byte_at view.memory seg) view.regs.pc) _ view.regs (byte_at view.memory seg) (port_byte view.devices) none some

no_stop : (inside : Bool) (seg : ℕ) (whole own : View) → HasSegment whole.memory seg → Like seg whole own → CanMove inside seg whole → reads_in seg whole ≡ false
    → stop_at inside own ≡ None
unfolding stop_at
no_stop inside seg whole own there like can none =
    let gate : gate_of inside own.memory 0 own.regs.pc ≡ None =
    ap (λ (r : Regs). gate_of inside own.memory 0 r.pc) like.regs ∙ ap (λ (m : Memory). gate_of inside m 0 whole.regs.pc) like.memory ∙ can.no_gate in
    ap (λ (g : Option GateThere). stop_by g (stop_unless own.regs.halted (bytes_at own))) gate
    ∙ ap (λ (r : Regs). stop_unless r.halted (four_from (byte_at own.memory 0) r.pc)) like.regs
    ∙ ap (λ bytes. stop_unless whole.regs.halted (four_from bytes whole.regs.pc)) (bytes_own seg whole own there like)
    ∙ goes_on seg whole none can.listed

some_not_none : (why : Option Why) (w : Why) → why ≡ Some w → why ≡ None → ⊥
some_not_none None w some none = absurd (cc some)
some_not_none (Some v) w some none = absurd (cc none)

-- so a replay does all of them, and leaves what the machine has
agreed : (inside : Bool) (seg count : ℕ) (views : ℕ → View) (regs : Regs) (memory : Memory) (replayed : Replayed) → FollowEach inside seg count views
    → IsReplay inside count (own_of seg (views 0)) regs memory replayed → Agrees seg count (views count) regs memory replayed
agreed inside seg count views regs memory replayed each replay =
    let own = own_of seg (views 0) in
    let here = likes count inside seg count views each (omega arith) in
    let ended : (replayed.done ≡ count) × (replayed.why ≡ Steps) = elim replay.ends [
      | inl early ↦
          let k = replayed.done in
          let f = each k early.0 in
          absurd (some_not_none (stop_at inside (moves k 0 own)) replayed.why early.1
          (no_stop inside seg (views k) (moves k 0 own) f.there (likes k inside seg count views each (omega (arith, early.0))) f.can f.portless))
      | inr all ↦ all
    ] in
    record {
      done = ended.0;
      why = ended.1;
      registers = replay.registers ∙ ap (λ n. (moves n 0 own).regs) ended.0 ∙ here.regs;
      reached = replay.reached ∙ ap (λ n. (moves n 0 own).memory) ended.0 ∙ here.memory;
    }

pub agreed_from : (inside : Bool) (seg count : ℕ) (views : ℕ → View) (old : View) (regs : Regs) (memory : Memory) (replayed : Replayed)
    → IsReplay inside count old regs memory replayed → old ≡ own_of seg (views 0) → FollowEach inside seg count views
    → Agrees seg count (views count) regs memory replayed
agreed_from inside seg count views old regs memory replayed replay is each =
    agreed inside seg count views regs memory replayed each (subst (λ (v : View). IsReplay inside count v regs memory replayed) is replay)
