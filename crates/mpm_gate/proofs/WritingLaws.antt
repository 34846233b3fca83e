-- Bytes that are written from an address on, as a walk through them writes them, or as one range.
use Rattle.std.proofs.Common.{◌≡◌, ℕ, ◌+◌, ◌<◌, ◌≤◌, List, [], ◌∷◌, length, get_or, drop, refl, ap, sym, ◌∙◌, arith}
use Rattle.std.proofs.lemmas.List.{at_drop_more, at_drop_all}
use Rattle.z80_regs.specs.Words.{onward}
use Rattle.mpm_banks.specs.Memory.{Memory, with_byte, with_bytes}

-- one byte more
pub written_more : (memory next : Memory) (seg address index : ℕ) (bytes : List ℕ) → index < length bytes → next ≡ with_byte memory seg address (get_or bytes index 0) → with_bytes next seg (onward address 1) (drop (index + 1) bytes) ≡ with_bytes memory seg address (drop index bytes)
unfolding with_bytes
written_more memory next seg address index bytes inside put =
    ap (λ m. with_bytes m seg (onward address 1) (drop (index + 1) bytes)) put
    ∙ sym (at_drop_more (with_bytes memory seg address) bytes index 0 inside)

-- all of them
pub written_all : (memory : Memory) (seg address index : ℕ) (bytes : List ℕ) → length bytes ≤ index → memory ≡ with_bytes memory seg address (drop index bytes)
unfolding with_bytes
written_all memory seg address index bytes all = sym (at_drop_all (with_bytes memory seg address) bytes index all)

-- none
pub written_none : (memory : Memory) (seg address : ℕ) (bytes : List ℕ) → length bytes ≡ 0 → memory ≡ with_bytes memory seg address bytes
unfolding with_bytes
written_none memory seg address [] none = refl
written_none memory seg address (byte ∷ bytes) none = absurd (omega arith)
