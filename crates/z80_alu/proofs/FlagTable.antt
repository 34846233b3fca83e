-- S, Z and parity of each byte, at once.
use Rattle.std.proofs.Common.{◌≡◌, ◌∙◌, ℕ, ◌<◌, ◌+◌, ◌*◌, ◌==◌, List, slice_index, get_or, map, refl, ap, arith}
use Rattle.std.specs.List.{range_with_len}
use Rattle.std.proofs.lemmas.List.FromFn.{get_or-map-range_with_len}
use Rattle.z80_alu.specs.declared.flags.TheConstants.{SIGN_ZERO_PARITY}
use Rattle.z80_alu.specs.Flags.{bit, is_negative, has_even_parity}

abbrev byte_at : ℕ → ℕ
byte_at value = 128 * bit (is_negative value) + 64 * bit (value == 0) + 4 * bit (has_even_parity value)

table : SIGN_ZERO_PARITY ≡ map byte_at (range_with_len 0 256)
unfolding lib.Count.ones
table = refl

pub flags_at : (value : ℕ) → value < 256 → slice_index SIGN_ZERO_PARITY value ≡ 128 * bit (is_negative value) + 64 * bit (value == 0) + 4 * bit (has_even_parity value)
flags_at value small =
    ap (λ (bytes : List ℕ). get_or bytes value 0) table ∙ get_or-map-range_with_len byte_at 0 256 value value 0 small (omega arith)
