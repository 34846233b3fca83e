-- A process's view of memory and devices as a bus.
use Rattle.std.specs.Prelude.{◌≡◌, ℕ}
use Rattle.mpm_banks.specs.Memory.{with_byte}
use Rattle.mpm_banks.specs.Ports.{port_read}
use Rattle.mpm_banks.specs.declared.bus.BankBus.{BankBus}

-- it is still the same memory, the same devices and the same segment
pub record SameSides (old new : BankBus) : Type 0 where
  pub banks : new.banks.ghost_name ≡ old.banks.ghost_name
  pub devices : new.devices.ghost_name ≡ old.devices.ghost_name
  pub seg : new.seg ≡ old.seg

-- what a write leaves
pub record WroteBank (old : BankBus) (address value : ℕ) (new : BankBus) : Type 0 where
  pub sides : SameSides old new
  pub memory : new.banks.now ≡ with_byte old.banks.now old.seg address value
  pub devices : new.devices.now ≡ old.devices.now

-- what reading a port leaves
pub record TookInput (old : BankBus) (port : ℕ) (new : BankBus) : Type 0 where
  pub sides : SameSides old new
  pub memory : new.banks.now ≡ old.banks.now
  pub devices : new.devices.now ≡ port_read old.devices.now port
