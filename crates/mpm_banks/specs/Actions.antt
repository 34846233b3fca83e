-- What the changes of an instruction leave of memory and of the devices.
use Rattle.std.specs.Prelude.{ℕ, Bool, false, List, [], ◌∷◌, ◌==◌}
use Rattle.mpm_base.specs.declared.devices.Devices.{Devices}
use Rattle.z80_regs.specs.Outcome.{Action, Write, Input}
use Rattle.mpm_banks.specs.Memory.{Memory, with_byte}
use Rattle.mpm_banks.specs.Ports.{port_read}

-- memory after the changes of an instruction of the process of a segment
unfoldable pub memory_after : List Action → ℕ → Memory → Memory
memory_after [] seg memory = memory
memory_after (Write address byte ∷ rest) seg memory = memory_after rest seg (with_byte memory seg address byte)
memory_after (Input port ∷ rest) seg memory = memory_after rest seg memory

-- the devices after them
unfoldable pub devices_after : List Action → Devices → Devices
devices_after [] devices = devices
devices_after (Write address byte ∷ rest) devices = devices_after rest devices
devices_after (Input port ∷ rest) devices = devices_after rest (port_read devices port)

-- whether an action writes to an address
abbrev pub writes_to : ℕ → Action → Bool
writes_to at (Write address byte) = address == at
writes_to at (Input port) = false
