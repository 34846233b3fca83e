-- A replay, instruction by instruction.
use Rattle.std.proofs.Common.{◌≡◌, ◌∙◌, ℕ, ◌+◌, ◌<◌, Bool, List, Option, Some, None, true, false, inl, inr, refl, sym, ap, arith, add-one}
use Rattle.std.specs.Prelude.{IsNone, IsSome, replicate}
use Rattle.std.proofs.lemmas.Bool.{cases_eq, false≢true}
use Rattle.z80_decode.specs.declared.instr.Instr.{Instr}
use Rattle.z80_decode.specs.Decoding.{instr_of}
use Rattle.z80_ext.specs.declared.stepped.Stepped.{Stepped}
use Rattle.z80_ext.specs.declared.stepped.Stepped.TheVariants.{Ran, Illegal as Unlisted}
use Rattle.z80_ext.proofs.Next.{unlisted_exactly}
use Rattle.mpm_base.specs.declared.devices.Devices.{Devices}
use Rattle.mpm_banks.specs.Memory.{byte_at}
use Rattle.mpm_banks.specs.Ports.{port_byte}
use Rattle.mpm_gate.specs.Gates.{gate_of}
use Rattle.mpm_gate.specs.declared.gate.Gate.{Gate as GateThere}
use Rattle.mpm_processor.specs.Moving.{View, instruction_in, moved, moves}
use Rattle.mpm_processor.proofs.MovingLaws.{unmoved, ran_or_not}
use Rattle.mpm_replay.specs.declared.stopping.Why.{Why}
use Rattle.mpm_replay.specs.declared.stopping.Why.TheVariants.{Steps, Illegal}
use Rattle.mpm_replay.specs.Ports.{reads_of, reads_unless}
use Rattle.mpm_replay.specs.Replays.{no_devices, bytes_at, stop_of, stop_by, stop_unless, stop_at, input_if, held_by, held_at, left_by, ReplaysInstruction, AdvancesView, IsReplay}

pub no_devices_yet : (devices : Devices) → devices.ready ≡ replicate 16 false → devices.last ≡ replicate 16 0 → devices ≡ no_devices
no_devices_yet devices ready last = ap (λ r. record devices { ready = r }) ready ∙ ap (λ l. record no_devices { last = l }) last

-- what holds a process stops it, and where nothing does its instruction is done, or isn't listed

held_instr : (instr : Option Instr) (why : Why) → input_if (reads_of instr) ≡ Some why → stop_of instr ≡ Some why
held_instr None why held = absurd (cc held)
held_instr (Some instr) why held = held

held_stops : (gate : Option GateThere) (halted : Bool) (bytes : List ℕ) (why : Why) → held_by gate (reads_unless halted (instr_of bytes)) ≡ Some why
    → stop_by gate (stop_unless halted bytes) ≡ Some why
held_stops (Some gate) halted bytes why held = held
held_stops None true bytes why held = absurd (cc held)
held_stops None false bytes why held = held_instr (instr_of bytes) why held

free_instr : (instr : Option Instr) → input_if (reads_of instr) ≡ None → (IsNone instr → ⊥) → stop_of instr ≡ None
free_instr None free listed = absurd (listed refl)
free_instr (Some instr) free listed = free

free_goes : (gate : Option GateThere) (halted : Bool) (bytes : List ℕ) → held_by gate (reads_unless halted (instr_of bytes)) ≡ None
    → (halted ≡ false → IsNone (instr_of bytes) → ⊥) → stop_by gate (stop_unless halted bytes) ≡ None
free_goes (Some gate) halted bytes free listed = absurd (cc free)
free_goes None true bytes free listed = refl
free_goes None false bytes free listed = free_instr (instr_of bytes) free (listed refl)

unlisted_instr : (instr : Option Instr) → IsNone instr → stop_of instr ≡ Some Illegal
unlisted_instr None none = refl
unlisted_instr (Some instr) none = absurd (cc none)

unlisted_stops : (gate : Option GateThere) (halted : Bool) (bytes : List ℕ) → held_by gate (reads_unless halted (instr_of bytes)) ≡ None → halted ≡ false
    → IsNone (instr_of bytes) → stop_by gate (stop_unless halted bytes) ≡ Some Illegal
unlisted_stops (Some gate) halted bytes free runs none = absurd (cc free)
unlisted_stops None true bytes free runs none = absurd (false≢true (sym runs))
unlisted_stops None false bytes free runs none = unlisted_instr (instr_of bytes) none

pub holds : (inside : Bool) (old new : View) (held : Option Why) (why : Why) → held ≡ held_at inside old → new ≡ old → held ≡ Some why
    → AdvancesView inside old new (Some why)
unfolding held_at stop_at
holds inside old new held why is same some = record {
  stop = sym (held_stops (gate_of inside old.memory 0 old.regs.pc) old.regs.halted (bytes_at old) why (sym is ∙ some));
  left = same;
}

-- a transfer of LDIR is an instruction
pub loaded : (old new : View) → IsSome (instruction_in 0 old) → new ≡ moved 0 old → ReplaysInstruction old new Ran
loaded old new listed is = record {
  illegal = ((λ unlisted. absurd (ran_or_not Ran refl unlisted)), (λ none. absurd (false≢true (sym none ∙ listed))));
  unlisted = (
    (λ unlisted. absurd (ran_or_not Ran refl unlisted)),
    (λ none. absurd (false≢true (sym ((unlisted_exactly old.regs (byte_at old.memory 0) (port_byte old.devices)).1 none) ∙ listed))),
  );
  moves = is;
}

pub ran_on : (inside : Bool) (now new : View) (stepped : Stepped) → held_at inside now ≡ None → ReplaysInstruction now new stepped → stepped ≡ Ran
    → AdvancesView inside now new None
unfolding held_at stop_at
ran_on inside now new stepped free executes ran = record {
  stop = sym (free_goes (gate_of inside now.memory 0 now.regs.pc) now.regs.halted (bytes_at now) free (λ runs none. ran_or_not stepped ran (executes.unlisted.1 (runs, none))));
  left = executes.moves;
}

pub ran_none : (inside : Bool) (now new : View) (stepped : Stepped) → held_at inside now ≡ None → ReplaysInstruction now new stepped → stepped ≡ Unlisted
    → AdvancesView inside now new (Some Illegal)
unfolding held_at stop_at
ran_none inside now new stepped free executes unlisted =
    let none = executes.unlisted.0 unlisted in
    record {
      stop = sym (unlisted_stops (gate_of inside now.memory 0 now.regs.pc) now.regs.halted (bytes_at now) free none.0 none.1);
      left = executes.moves ∙ unmoved 0 now (executes.illegal.0 unlisted);
    }

-- so many were done, and there was no reason to stop before any of them
pub record Goes (inside : Bool) (done : ℕ) (old now : View) : Type 0 where
  pub goes : (k : ℕ) → k < done → stop_at inside (moves k 0 old) ≡ None
  pub is : now ≡ moves done 0 old

pub goes_none : (inside : Bool) (old now : View) → now ≡ old → Goes inside 0 old now
unfolding moves
goes_none inside old now is = record { goes = λ k below. absurd (omega (arith, below)); is = is }

pub goes_more : (inside : Bool) (done : ℕ) (old now new : View) (stopped : Option Why) → Goes inside done old now → AdvancesView inside now new stopped
    → stopped ≡ None → Goes inside (done + 1) old new
unfolding moves
goes_more inside done old now new stopped before advances none =
    let more : moves (done + 1) 0 old ≡ moved 0 (moves done 0 old) = ap (λ k. moves k 0 old) (add-one done) in
    record {
      goes = λ k below. elim (cases_eq k done) [
        | inl same ↦ ap (λ j. stop_at inside (moves j 0 old)) same ∙ ap (stop_at inside) (sym before.is) ∙ sym advances.stop ∙ none
        | inr other ↦ before.goes k (omega (arith, below, other))
      ];
      is = advances.left ∙ ap (λ s. left_by s now) none ∙ ap (moved 0) before.is ∙ sym more;
    }

-- it stops
pub replay_stops : (inside : Bool) (most done : ℕ) (why : Why) (old now new : View) (stopped : Option Why) → done < most → Goes inside done old now
    → AdvancesView inside now new stopped → stopped ≡ Some why → IsReplay inside most old new.regs new.memory (record { done = done; why = why })
replay_stops inside most done why old now new stopped less before advances some =
    let is : new ≡ moves done 0 old = advances.left ∙ ap (λ s. left_by s now) some ∙ before.is in
    record {
      goes = before.goes;
      ends = inl (less, ap (stop_at inside) (sym before.is) ∙ sym advances.stop ∙ some);
      registers = ap (λ (v : View). v.regs) is;
      reached = ap (λ (v : View). v.memory) is;
    }

-- or all are done
pub replay_ends : (inside : Bool) (most done : ℕ) (old now : View) → done ≡ most → Goes inside done old now
    → IsReplay inside most old now.regs now.memory (record { done = most; why = Steps })
replay_ends inside most done old now all before =
    let is : now ≡ moves most 0 old = before.is ∙ ap (λ k. moves k 0 old) all in
    record {
      goes = λ k below. before.goes k (omega (arith, below, all));
      ends = inr (refl, refl);
      registers = ap (λ (v : View). v.regs) is;
      reached = ap (λ (v : View). v.memory) is;
    }
