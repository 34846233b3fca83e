-- What the parts of a burst of instructions ask, and what they leave and answer.
use Rattle.std.specs.Prelude.{◌≡◌, ℕ, ◌+◌, ◌-◌, ◌*◌, ◌<◌, ◌≤◌, Bool, true, List, Option, None, IsSome, IfSome, is_none, is_some}
use Rattle.z80_regs.specs.declared.regs.Regs.{Regs}
use Rattle.z80_ext.specs.Instruction.{IsLoadUpAt, registers_after, actions_of}
use Rattle.z80_ext.specs.Steps.{IsFetched}
use Rattle.z80_exec.specs.declared.source.Fetched.{Fetched}
use Rattle.mpm_base.specs.declared.devices.Devices.{Devices}
use Rattle.mpm_base.specs.declared.segment.SegmentSpec.{SegmentSpec}
use Rattle.mpm_banks.specs.Allocations.{FitsBelowCommon}
use Rattle.mpm_banks.specs.Memory.{byte_at}
use Rattle.mpm_banks.specs.Sides.{alone}
use Rattle.mpm_banks.specs.Actions.{memory_after, devices_after}
use Rattle.mpm_gate.specs.Gates.{IsHome, gate_in, gate_of}
use Rattle.mpm_processor.specs.Moving.{View, Moves, CanMove, instruction_in}

-- an address is below the last page of a segment, in which the gates are
abbrev pub IsBelowGates : SegmentSpec → ℕ → Type 0
IsBelowGates spec address = address < 256 * (spec.base + spec.pages - 1)

-- the byte at an address, which is below the gates, if there is one
pub record ReadsBelowGates (spec : SegmentSpec) (address : ℕ) (segment : List ℕ) (result : Option ℕ) : Type 0 where
  pub byte : (common : List ℕ) → IfSome result (λ opcode. opcode ≡ byte_at (alone spec segment common) 0 address)
  pub below : IsSome result → IsBelowGates spec address

-- and the two bytes after it
pub record FetchesBelowGates (spec : SegmentSpec) (address : ℕ) (segment : List ℕ) (result : Option Fetched) : Type 0 where
  pub fetched : (common : List ℕ) → IfSome result (λ fetched. IsFetched (byte_at (alone spec segment common) 0) address fetched)
  pub below : IsSome result → IsBelowGates spec address

-- the three bytes from an address on are fetched, unless a gate is there, and nothing changes
pub record FetchesUnlessGate (inside : Bool) (spec : SegmentSpec) (address : ℕ) (bytes new_bytes shared new_shared : List ℕ) (old new : Devices) (result : Option Fetched) : Type 0 where
  pub fetched : IfSome result (λ fetched. IsFetched (byte_at (alone spec bytes shared) 0) address fetched)
  pub gate : is_none result ≡ is_some (gate_in inside (spec.base + spec.pages - 1) address)
  pub segment : new_bytes ≡ bytes
  pub common : new_shared ≡ shared
  pub devices : new ≡ old

-- LDIR is at PC, below the gates
pub record TellsLoadUp (spec : SegmentSpec) (regs : Regs) (segment : List ℕ) (result : Bool) : Type 0 where
  pub load : (common : List ℕ) → result ≡ true → IsLoadUpAt regs (byte_at (alone spec segment common) 0)
  pub below : result ≡ true → IsBelowGates spec regs.pc

-- an instruction is listed, and is executed
pub record ExecutesListed (old new : View) : Type 0 where
  pub listed : IsSome (instruction_in 0 old)
  pub registers : new.regs ≡ registers_after (instruction_in 0 old) old.regs
  pub memory : new.memory ≡ memory_after (actions_of (instruction_in 0 old)) 0 old.memory
  pub devices : new.devices ≡ devices_after (actions_of (instruction_in 0 old)) old.devices

-- an instruction of a segment is executed, if one is listed, and the answer says whether one is
pub record ExecutesIfListed (seg : ℕ) (old new : View) (result : Bool) : Type 0 where
  pub listed : result ≡ is_some (instruction_in seg old)
  pub registers : new.regs ≡ registers_after (instruction_in seg old) old.regs
  pub memory : new.memory ≡ memory_after (actions_of (instruction_in seg old)) seg old.memory
  pub devices : new.devices ≡ devices_after (actions_of (instruction_in seg old)) old.devices

-- a process has a segment, and stands at no gate
pub record MayExecuteAt (inside : Bool) (seg : ℕ) (view : View) : Type 0 where
  pub home : IsHome view.memory seg
  pub gate : gate_of inside view.memory seg view.regs.pc ≡ None

-- so many instructions, of at most so many, at none of which a gate is, whether the process is in a resident procedure or not
pub record MovesAtMost (most n : ℕ) (old new : View) : Type 0 where
  pub count : n ≤ most
  pub moved : (inside : Bool) → Moves inside n 0 old new

-- so many instructions, of at most so many, and none only where none can be done
pub record MovesUnlessStopped (inside : Bool) (most n : ℕ) (old new : View) : Type 0 where
  pub count : n ≤ most
  pub moved : Moves inside n 0 old new
  pub stopped : n ≡ 0 → CanMove inside 0 new → ⊥

-- one instruction or more may be done
pub record MayExecutePlain (most : ℕ) (spec : SegmentSpec) : Type 0 where
  pub fits : FitsBelowCommon spec
  pub some : 0 < most

-- the processor stands in a HALT
pub record MayPauseInHalt (spec : SegmentSpec) (regs : Regs) : Type 0 where
  pub fits : FitsBelowCommon spec
  pub halted : regs.halted ≡ true
