-- What of a piece of a file stands between two places of it.
use Rattle.std.proofs.Common.{◌≡◌, ℕ, ◌+◌, ◌-◌, ◌*◌, ◌<◌, ◌≤◌, List, length, take, get_or, arith, length-take, length-drop, ap, ◌∙◌}
use Rattle.std.proofs.lemmas.List.{get_or-take}
use Rattle.mpm_prl.specs.Relocation.{word_at}
use Rattle.mpm_loader.specs.Plans.{code_end}
use Rattle.mpm_loader.specs.Pieces.{Loading, part, marks_in, marked_length}

-- a part that has bytes ends by the second place
pub within_part : (before low count : ℕ) (piece : List ℕ) → 0 < length (part before low (low + count) piece) → (before - low) + length (part before low (low + count) piece) ≤ count
unfolding part
within_part before low count piece some = omega (arith, length-drop (low - before) (take (low + count - before) piece), length-take (low + count - before) piece)

-- a word near the front of a list is one of the list
pub word_of_front : (bytes : List ℕ) (count place : ℕ) → place + 1 < count → word_at (take count bytes) place ≡ word_at bytes place
word_of_front bytes count place near =
    ap (λ (byte : ℕ). byte + 256 * get_or (take count bytes) (place + 1) 0) (get_or-take count bytes place 0 (omega arith))
    ∙ ap (λ (byte : ℕ). get_or bytes place 0 + 256 * byte) (get_or-take count bytes (place + 1) 0 near)

-- where a piece has marks, some bytes of code are marked by them
pub some_marked : (l : Loading) → 8 * l.plan.bits < l.plan.length + 8 → 0 < length (marks_in l) → 0 < marked_length l
some_marked l few some = omega (arith, within_part l.before (code_end l.plan) l.plan.bits l.piece some, few, some)
