-- A bus over two slices, the bytes of a process's segment and those of common memory.
use Rattle.std.specs.Prelude.{◌≡◌, ℕ, List}
use Rattle.z80_regs.specs.Outcome.{Action}
use Rattle.mpm_banks.specs.Memory.{Memory, with_byte}
use Rattle.mpm_banks.specs.Sides.{alone}
use Rattle.mpm_banks.specs.Ports.{port_read}
use Rattle.mpm_banks.specs.Actions.{memory_after, devices_after}
use Rattle.mpm_banks.specs.declared.slice_bus.SliceBus.{SliceBus}

-- the memory that it reaches, of one segment
abbrev pub reached : SliceBus → Memory
reached bus = alone bus.spec bus.segment.now bus.common.now

-- it is still the same memory and the same devices
pub record SameSlices (old new : SliceBus) : Type 0 where
  pub spec : new.spec ≡ old.spec
  pub segment : new.segment.ghost_name ≡ old.segment.ghost_name
  pub common : new.common.ghost_name ≡ old.common.ghost_name
  pub devices : new.devices.ghost_name ≡ old.devices.ghost_name

-- what a write leaves
pub record WroteSlice (old : SliceBus) (address value : ℕ) (new : SliceBus) : Type 0 where
  pub sides : SameSlices old new
  pub memory : reached new ≡ with_byte (reached old) 0 address value
  pub devices : new.devices.now ≡ old.devices.now

-- what reading a port leaves
pub record TookSliceInput (old : SliceBus) (port : ℕ) (new : SliceBus) : Type 0 where
  pub sides : SameSlices old new
  pub memory : reached new ≡ reached old
  pub devices : new.devices.now ≡ port_read old.devices.now port

-- what the changes of an instruction leave
pub record Acted (actions : List Action) (old new : SliceBus) : Type 0 where
  pub sides : SameSlices old new
  pub memory : reached new ≡ memory_after actions 0 (reached old)
  pub devices : new.devices.now ≡ devices_after actions old.devices.now
