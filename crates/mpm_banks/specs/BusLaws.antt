-- The laws of a bus, for a process's view of memory and devices.
use Rattle.std.proofs.Common.{◌≡◌, ◌≢◌, ℕ, ◌<◌, ◌^◌, ◌↔◌, ap, sym, subst, ◌∙◌}
use Rattle.mpm_banks.specs.Memory.{Memory, byte_at, IsWritable}
use Rattle.mpm_banks.specs.MemoryLaws.{byte_at_with_byte, byte_at_other_address, writable_with_byte}
use Rattle.mpm_banks.specs.Ports.{port_byte}
use Rattle.mpm_banks.specs.Bus.{WroteBank, TookInput}
use Rattle.mpm_banks.specs.declared.bus.BankBus.{BankBus}

-- two views of the same bytes
same_byte : (m n : Memory) (s t address : ℕ) → m ≡ n → s ≡ t → byte_at m s address ≡ byte_at n t address
same_byte m n s t address p q = ap (λ x. byte_at x s address) p ∙ ap (λ x. byte_at n x address) q

same_writable : (m n : Memory) (s t address : ℕ) → m ≡ n → s ≡ t → IsWritable m s address ↔ IsWritable n t address
same_writable m n s t address p q = (
  λ is. subst (λ x. IsWritable n x address) q (subst (λ x. IsWritable x s address) p is),
  λ is. subst (λ x. IsWritable x s address) (sym p) (subst (λ x. IsWritable n x address) (sym q) is),
)

pub trans_iff : {A B C : Type 0} → A ↔ B → B ↔ C → A ↔ C
trans_iff f g = (λ a. g.0 (f.0 a), λ c. f.1 (g.1 c))

pub reads_back_law : (old new : BankBus) (address value : ℕ) → address < 2 ^ 16 → value < 2 ^ 8
    → WroteBank old address value new → IsWritable old.banks.now old.seg address → byte_at new.banks.now new.seg address ≡ value
reads_back_law old new address value a b wrote is =
    same_byte _ _ _ _ address wrote.memory wrote.sides.seg ∙ byte_at_with_byte old.banks.now old.seg address value is

pub write_keeps_bytes_law : (old new : BankBus) (address value other : ℕ) → address < 2 ^ 16 → value < 2 ^ 8
    → WroteBank old address value new → other ≢ address → byte_at new.banks.now new.seg other ≡ byte_at old.banks.now old.seg other
write_keeps_bytes_law old new address value other a b wrote is =
    same_byte _ _ _ _ other wrote.memory wrote.sides.seg ∙ byte_at_other_address old.banks.now old.seg address value other is

pub write_keeps_ports_law : (old new : BankBus) (address value port : ℕ) → address < 2 ^ 16 → value < 2 ^ 8
    → WroteBank old address value new → port_byte new.devices.now port ≡ port_byte old.devices.now port
write_keeps_ports_law old new address value port a b wrote = ap (λ d. port_byte d port) wrote.devices

pub write_keeps_writable_law : (old new : BankBus) (address value other : ℕ) → address < 2 ^ 16 → value < 2 ^ 8
    → WroteBank old address value new → IsWritable new.banks.now new.seg other ↔ IsWritable old.banks.now old.seg other
write_keeps_writable_law old new address value other a b wrote =
    trans_iff (same_writable _ _ _ _ other wrote.memory wrote.sides.seg) (writable_with_byte old.banks.now old.seg address value old.seg other)

pub input_keeps_bytes_law : (old new : BankBus) (port address : ℕ) → port < 2 ^ 8
    → TookInput old port new → byte_at new.banks.now new.seg address ≡ byte_at old.banks.now old.seg address
input_keeps_bytes_law old new port address a took = same_byte _ _ _ _ address took.memory took.sides.seg

pub input_keeps_writable_law : (old new : BankBus) (port address : ℕ) → port < 2 ^ 8
    → TookInput old port new → IsWritable new.banks.now new.seg address ↔ IsWritable old.banks.now old.seg address
input_keeps_writable_law old new port address a took = same_writable _ _ _ _ address took.memory took.sides.seg
