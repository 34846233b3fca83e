-- The bytes of records that were read stand at the front of their job's.
use Rattle.std.proofs.Common.{◌≡◌, ◌∙◌, ap, ℕ, ◌+◌, ◌-◌, ◌*◌, ◌≤◌, List, ◌++◌, length, take, drop, arith}
use Rattle.std.specs.List.{flat_map}
use Rattle.std.proofs.Math.Seq.{take-append_seam}
use Rattle.std.proofs.lemmas.List.{length-append, length-drop}

-- they fill their part of the room, as it has 4,096 bytes before and after
pub records_taken : (records : List (List ℕ)) (bytes before : List ℕ) (moved : ℕ) → length bytes ≡ 4096 → length before ≡ 4096
    → length records ≡ moved → moved ≤ 16 → bytes ≡ flat_map (λ record_bytes. record_bytes) records ++ drop (128 * length records) before
    → take (128 * moved) bytes ≡ flat_map (λ record_bytes. record_bytes) records
records_taken records bytes before moved size size_before count few e =
    let read : List ℕ = flat_map (λ record_bytes. record_bytes) records in
    let n : ℕ = 128 * length records in
    let rest : length (drop n before) ≡ 4096 - n = length-drop n before ∙ ap (λ m. m - n) size_before in
    let whole : length bytes ≡ length read + length (drop n before) = ap length e ∙ length-append read (drop n before) in
    let exact : 128 * moved ≡ length read = omega (arith, whole, rest, size, few, count) in
    ap (take (128 * moved)) e ∙ ap (λ m. take m (read ++ drop n before)) exact ∙ take-append_seam read (drop n before)
