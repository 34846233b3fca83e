-- The sixteen polled devices as ports: 80h to 8Fh read their last bytes.
use Rattle.std.specs.Prelude.{ℕ, ◌-◌, false, ◌&&◌, nat_le, slice_index, slice_set, if◌then◌else◌}
use Rattle.mpm_base.specs.declared.devices.Devices.{Devices}

-- the byte that a port reads: the last byte of its device, or FFh where it has none
unfoldable pub port_byte : Devices → ℕ → ℕ
port_byte devices port =
    if nat_le 128 port && nat_le port 143 then slice_index devices.last (port - 128) else 255

-- what reading a port leaves: its device is no longer ready
unfoldable pub port_read : Devices → ℕ → Devices
port_read devices port =
    if nat_le 128 port && nat_le port 143
    then record devices { ready = slice_set devices.ready (port - 128) false } else devices
