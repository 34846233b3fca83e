-- The laws of a bus, for the one over two slices.
use Rattle.std.proofs.Common.{◌≡◌, ◌≢◌, ℕ, ◌<◌, ◌^◌, ◌↔◌, ap, sym, subst, ◌∙◌}
use Rattle.mpm_banks.specs.Memory.{Memory, byte_at, IsWritable}
use Rattle.mpm_banks.specs.MemoryLaws.{byte_at_with_byte, byte_at_other_address, writable_with_byte}
use Rattle.mpm_banks.specs.BusLaws.{trans_iff}
use Rattle.mpm_banks.specs.Ports.{port_byte}
use Rattle.mpm_banks.specs.SliceBus.{reached, WroteSlice, TookSliceInput}
use Rattle.mpm_banks.specs.declared.slice_bus.SliceBus.{SliceBus}

-- two views of the same bytes
same_byte : (m n : Memory) (address : ℕ) → m ≡ n → byte_at m 0 address ≡ byte_at n 0 address
same_byte m n address p = ap (λ x. byte_at x 0 address) p

same_writable : (m n : Memory) (address : ℕ) → m ≡ n → IsWritable m 0 address ↔ IsWritable n 0 address
same_writable m n address p = (
  λ is. subst (λ x. IsWritable x 0 address) p is,
  λ is. subst (λ x. IsWritable x 0 address) (sym p) is,
)

pub reads_back_law : (old new : SliceBus) (address value : ℕ) → address < 2 ^ 16 → value < 2 ^ 8
    → WroteSlice old address value new → IsWritable (reached old) 0 address → byte_at (reached new) 0 address ≡ value
reads_back_law old new address value a b wrote is =
    same_byte _ _ address wrote.memory ∙ byte_at_with_byte (reached old) 0 address value is

pub write_keeps_bytes_law : (old new : SliceBus) (address value other : ℕ) → address < 2 ^ 16 → value < 2 ^ 8
    → WroteSlice old address value new → other ≢ address → byte_at (reached new) 0 other ≡ byte_at (reached old) 0 other
write_keeps_bytes_law old new address value other a b wrote is =
    same_byte _ _ other wrote.memory ∙ byte_at_other_address (reached old) 0 address value other is

pub write_keeps_ports_law : (old new : SliceBus) (address value port : ℕ) → address < 2 ^ 16 → value < 2 ^ 8
    → WroteSlice old address value new → port_byte new.devices.now port ≡ port_byte old.devices.now port
write_keeps_ports_law old new address value port a b wrote = ap (λ d. port_byte d port) wrote.devices

pub write_keeps_writable_law : (old new : SliceBus) (address value other : ℕ) → address < 2 ^ 16 → value < 2 ^ 8
    → WroteSlice old address value new → IsWritable (reached new) 0 other ↔ IsWritable (reached old) 0 other
write_keeps_writable_law old new address value other a b wrote =
    trans_iff (same_writable _ _ other wrote.memory) (writable_with_byte (reached old) 0 address value 0 other)

pub input_keeps_bytes_law : (old new : SliceBus) (port address : ℕ) → port < 2 ^ 8
    → TookSliceInput old port new → byte_at (reached new) 0 address ≡ byte_at (reached old) 0 address
input_keeps_bytes_law old new port address a took = same_byte _ _ address took.memory

pub input_keeps_writable_law : (old new : SliceBus) (port address : ℕ) → port < 2 ^ 8
    → TookSliceInput old port new → IsWritable (reached new) 0 address ↔ IsWritable (reached old) 0 address
input_keeps_writable_law old new port address a took = same_writable _ _ address took.memory
