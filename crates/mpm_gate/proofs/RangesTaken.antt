-- Bytes that lie in one range of memory are read, and written, as one.
use Rattle.std.proofs.Common.{◌≡◌, ℕ, List, Option, Some, None, length, Bor, IfSome, refl, ap, ◌∙◌}
use Rattle.std.specs.Option.{option_copied, option_map}
use Rattle.mpm_banks.specs.Memory.{Memory, byte_at}
use Rattle.mpm_banks.specs.Ranges.{range_of, range_bytes}
use Rattle.mpm_banks.specs.declared.range.Range.{Range}
use Rattle.mpm_banks.proofs.RangeBytes.{range_bytes_is}
use Rattle.mpm_gate.specs.Bytes.{bytes_from}
use Rattle.mpm_gate.proofs.BytesLaws.{length_bytes}

found_viewed : (memory : Memory) (seg address n : ℕ) (bytes : List ℕ) (found : Option Range) → range_of memory seg address n ≡ found
    → Some bytes ≡ option_map (range_bytes memory) found → bytes ≡ bytes_from (byte_at memory seg) address n
unfolding bytes_from
found_viewed memory seg address n bytes None is viewed = absurd (let none : Some bytes ≡ None = viewed in cc)
found_viewed memory seg address n bytes (Some range) is viewed =
    let same : bytes ≡ range_bytes memory range = cc in
    same ∙ range_bytes_is memory seg address n range is

-- and as one range that is lent
pub bytes_lent : (memory : Memory) (seg address n : ℕ) (lent : Option (Bor (List ℕ)))
    → option_copied lent ≡ option_map (range_bytes memory) (range_of memory seg address n)
    → IfSome lent (λ bytes. bytes.now ≡ bytes_from (byte_at memory seg) address n)
bytes_lent memory seg address n None is = tt
bytes_lent memory seg address n (Some bytes) is =
    found_viewed memory seg address n bytes.now (range_of memory seg address n) refl is

pub length_lent : (memory : ℕ → ℕ) (address n : ℕ) (lent : Option (Bor (List ℕ))) → IfSome lent (λ bytes. bytes.now ≡ bytes_from memory address n)
    → IfSome lent (λ bytes. length bytes.now ≡ n)
length_lent memory address n None is = tt
length_lent memory address n (Some bytes) is = ap length is ∙ length_bytes memory address n
