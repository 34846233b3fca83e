-- A call that takes the bytes from an address on, one by one.
use Rattle.std.proofs.Common.{◌≡◌, ℕ, ◌+◌, ◌<◌, ◌≤◌, List, [], ◌∷◌, ◌++◌, length, ap, sym, ◌∙◌, arith}
use Rattle.std.proofs.lemmas.List.{append-nil, append_assoc, length-append}
use Rattle.z80_regs.specs.Words.{onward}
use Rattle.mpm_base.specs.Calls.{Taken}
use Rattle.mpm_gate.specs.Bytes.{bytes_from}
use Rattle.mpm_gate.specs.Calls.{with_more}
use Rattle.mpm_gate.proofs.BytesLaws.{bytes_none, bytes_more, length_bytes}

pub taken_none : (call : Taken) (memory : ℕ → ℕ) (address n : ℕ) → n ≡ 0 → call ≡ with_more call (bytes_from memory address n)
taken_none call memory address n none =
    ap (λ bytes. record call { bytes = bytes })
    (sym (append-nil call.bytes) ∙ ap (λ more. call.bytes ++ more) (sym (bytes_none memory address) ∙ ap (bytes_from memory address) (sym none)))

pub taken_one_more : (memory : ℕ → ℕ) (address k byte : ℕ) (before now after : Taken) → now ≡ with_more before (bytes_from memory address k) → byte ≡ memory (onward address k) → after ≡ with_more now (byte ∷ []) → after ≡ with_more before (bytes_from memory address (k + 1))
taken_one_more memory address k byte before now after so_far here pushed =
    pushed
    ∙ ap (λ call. with_more call (byte ∷ [])) so_far
    ∙ ap (λ bytes. record before { bytes = bytes })
    (append_assoc before.bytes (bytes_from memory address k) (byte ∷ [])
    ∙ ap (λ more. before.bytes ++ more)
    (ap (λ b. bytes_from memory address k ++ b ∷ []) here ∙ sym (bytes_more memory address k)))

pub length_taken : (before now : Taken) (more : List ℕ) → now ≡ with_more before more → length now.bytes ≡ length before.bytes + length more
length_taken before now more is = ap (λ call. length call.bytes) is ∙ length-append before.bytes more

pub taken_room : (memory : ℕ → ℕ) (address k n : ℕ) (before now : Taken) → now ≡ with_more before (bytes_from memory address k) → length before.bytes + n ≤ 4096 → k < n → length now.bytes < 4096
taken_room memory address k n before now so_far room inside =
    let size = length_taken before now (bytes_from memory address k) so_far in
    let count = length_bytes memory address k in
    omega arith
