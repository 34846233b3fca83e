-- What a process's view of memory and devices is after the changes of an instruction.
use Rattle.std.proofs.Common.{◌≡◌, ◌≢◌, ℕ, ◌<◌, Bool, false, List, [], ◌∷◌, ◌||◌, ◌==◌, Option, None, Some, ap, refl, ◌∙◌, arith}
use Rattle.std.proofs.lemmas.Bool.Decides.{nat_tests}
use Rattle.std.specs.List.{list_any}
use Rattle.std.specs.Prelude.{MatchOption}
use Rattle.mpm_base.proofs.Choices.{either}
use Rattle.mpm_base.specs.declared.devices.Devices.{Devices}
use Rattle.z80_regs.specs.Outcome.{Action, Write, Input, LeavesBus}
use Rattle.mpm_banks.specs.Memory.{Memory, byte_at, with_byte, SameSegments}
use Rattle.mpm_banks.specs.MemoryLaws.{byte_at_other_segment, byte_at_other_address, same_segments_with_byte, same_segments_both}
use Rattle.mpm_banks.specs.Ports.{port_read}
use Rattle.mpm_banks.specs.Actions.{memory_after, devices_after, writes_to}
use Rattle.mpm_banks.specs.SliceBus.{reached, SameSlices, WroteSlice, TookSliceInput, Acted}
use Rattle.mpm_banks.specs.declared.slice_bus.SliceBus.{SliceBus}

same_sides : (old middle new : SliceBus) → SameSlices old middle → SameSlices middle new → SameSlices old new
same_sides old middle new first second = record {
  spec = second.spec ∙ first.spec;
  segment = second.segment ∙ first.segment;
  common = second.common ∙ first.common;
  devices = second.devices ∙ first.devices;
}

-- what the two relations of the bus leave is what the changes make of memory and devices
pub leaves_acted : (actions : List Action) (old new : SliceBus) → LeavesBus WroteSlice TookSliceInput actions old new → Acted actions old new
unfolding LeavesBus memory_after devices_after
leaves_acted [] old new same = record {
  sides = record {
    spec = ap (λ (b : SliceBus). b.spec) same;
    segment = ap (λ (b : SliceBus). b.segment.ghost_name) same;
    common = ap (λ (b : SliceBus). b.common.ghost_name) same;
    devices = ap (λ (b : SliceBus). b.devices.ghost_name) same;
  };
  memory = ap reached same;
  devices = ap (λ (b : SliceBus). b.devices.now) same;
}
leaves_acted (Write address byte ∷ rest) old new left =
    let wrote = left.1 in
    let later = leaves_acted rest left.0 new left.2 in
    record {
      sides = same_sides old left.0 new wrote.sides later.sides;
      memory = later.memory ∙ ap (memory_after rest 0) wrote.memory;
      devices = later.devices ∙ ap (devices_after rest) wrote.devices;
    }
leaves_acted (Input port ∷ rest) old new left =
    let took = left.1 in
    let later = leaves_acted rest left.0 new left.2 in
    record {
      sides = same_sides old left.0 new took.sides later.sides;
      memory = later.memory ∙ ap (memory_after rest 0) took.memory;
      devices = later.devices ∙ ap (devices_after rest) took.devices;
    }

-- the same where an answer tells whether the changes were made, or all stayed
pub record ActedUnless (answer : Option ℕ) (actions : List Action) (old new : SliceBus) : Type 0 where
  pub sides : SameSlices old new
  pub memory : MatchOption answer (reached new ≡ memory_after actions 0 (reached old)) (λ _. reached new ≡ reached old)
  pub devices : MatchOption answer (new.devices.now ≡ devices_after actions old.devices.now) (λ _. new.devices.now ≡ old.devices.now)

pub leaves_acted_unless : (answer : Option ℕ) (actions : List Action) (old new : SliceBus)
    → MatchOption answer (LeavesBus WroteSlice TookSliceInput actions old new) (λ _. new ≡ old) → ActedUnless answer actions old new
leaves_acted_unless None actions old new left =
    let acted = leaves_acted actions old new left in
    record { sides = acted.sides; memory = acted.memory; devices = acted.devices }
leaves_acted_unless (Some other) actions old new same = record {
  sides = record {
    spec = ap (λ (b : SliceBus). b.spec) same;
    segment = ap (λ (b : SliceBus). b.segment.ghost_name) same;
    common = ap (λ (b : SliceBus). b.common.ghost_name) same;
    devices = ap (λ (b : SliceBus). b.devices.ghost_name) same;
  };
  memory = ap reached same;
  devices = ap (λ (b : SliceBus). b.devices.now) same;
}

-- whatever an instruction of one process does, the segment of another stays
pub memory_after_other_segment : (actions : List Action) (seg other at : ℕ) (memory : Memory) → other ≢ seg → at < 49152
    → byte_at (memory_after actions seg memory) other at ≡ byte_at memory other at
unfolding memory_after
memory_after_other_segment [] seg other at memory apart below = refl
memory_after_other_segment (Write address byte ∷ rest) seg other at memory apart below =
    memory_after_other_segment rest seg other at (with_byte memory seg address byte) apart below
    ∙ byte_at_other_segment memory seg address byte other at apart below
memory_after_other_segment (Input port ∷ rest) seg other at memory apart below =
    memory_after_other_segment rest seg other at memory apart below

not_written : (address at : ℕ) (others : Bool) → (address == at || others) ≡ false → (at ≢ address) × (others ≡ false)
not_written address at others is = (grind (arith, nat_tests), grind (arith, nat_tests))

-- an address that it doesn't write to reads as before
pub memory_after_unwritten : (actions : List Action) (seg at : ℕ) (memory : Memory) → list_any (writes_to at) actions ≡ false
    → byte_at (memory_after actions seg memory) seg at ≡ byte_at memory seg at
unfolding memory_after
memory_after_unwritten [] seg at memory none = refl
memory_after_unwritten (Write address byte ∷ rest) seg at memory none =
    let apart = not_written address at _ none in
    memory_after_unwritten rest seg at (with_byte memory seg address byte) apart.1
    ∙ byte_at_other_address memory seg address byte at apart.0
memory_after_unwritten (Input port ∷ rest) seg at memory none = memory_after_unwritten rest seg at memory none

-- it changes nothing of the segments but bytes
pub same_segments_after : (actions : List Action) (seg : ℕ) (memory : Memory) → SameSegments memory (memory_after actions seg memory)
unfolding memory_after
same_segments_after [] seg memory = record { count = refl; base = λ s. refl; pages = λ s. refl; allocation = λ s. refl }
same_segments_after (Write address byte ∷ rest) seg memory =
    same_segments_both _ _ _ (same_segments_with_byte memory seg address byte) (same_segments_after rest seg (with_byte memory seg address byte))
same_segments_after (Input port ∷ rest) seg memory = same_segments_after rest seg memory

last_stays : (devices : Devices) (port : ℕ) → (port_read devices port).last ≡ devices.last
unfolding port_read
last_stays devices port = either (λ (d : Devices). d.last ≡ devices.last) _ _ _ (λ _. refl) (λ _. refl)

-- no device sends a byte by it
pub last_bytes_stay : (actions : List Action) (devices : Devices) → (devices_after actions devices).last ≡ devices.last
unfolding devices_after
last_bytes_stay [] devices = refl
last_bytes_stay (Write address byte ∷ rest) devices = last_bytes_stay rest devices
last_bytes_stay (Input port ∷ rest) devices = last_bytes_stay rest (port_read devices port) ∙ last_stays devices port
