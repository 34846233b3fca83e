-- The sectors of an image in which one was written.
use Rattle.std.proofs.Common.{◌≡◌, ◌≢◌, ℕ, ◌+◌, ◌-◌, ◌*◌, ◌<◌, ◌≤◌, List, ◌++◌, take, drop, length, sym, ap, ◌∙◌, arith, inl, inr}
use Rattle.std.proofs.lemmas.Bool.{cases_lt}
use Rattle.std.proofs.lemmas.List.{append_assoc, length-append, length-take-le, take-take, take_at, take-append-le, drop-drop, drop_at}
use Rattle.std.proofs.lemmas.Slice.{between_is}
use Rattle.mpm_port.specs.Disks.{sector_of, with_sector}

pub sector_written : (image : List ℕ) (sector : ℕ) (bytes : List ℕ) → 128 * sector + 128 ≤ length image → length bytes ≡ 128 → sector_of (with_sector image sector bytes) sector ≡ bytes
sector_written image sector bytes inside long =
    let front : length (take (128 * sector) image) ≡ 128 * sector = length-take-le (128 * sector) image (omega arith) in
    ap (λ (xs : List ℕ). take (128 * sector + 128 - 128 * sector) xs) (drop_at (take (128 * sector) image) (bytes ++ drop (128 * sector + 128) image) (128 * sector) front)
    ∙ take_at bytes (drop (128 * sector + 128) image) (128 * sector + 128 - 128 * sector) (omega arith)

before : (image : List ℕ) (sector other : ℕ) (bytes : List ℕ) → 128 * sector + 128 ≤ length image → other < sector → sector_of (with_sector image sector bytes) other ≡ sector_of image other
before image sector other bytes inside less =
    let front : length (take (128 * sector) image) ≡ 128 * sector = length-take-le (128 * sector) image (omega arith) in
    let end = 128 * other + 128 in
    between_is (with_sector image sector bytes) (128 * other) end
    ∙ ap (λ (xs : List ℕ). drop (128 * other) xs)
    (take-append-le end (take (128 * sector) image) (bytes ++ drop (128 * sector + 128) image) (omega arith) ∙ take-take end (128 * sector) image (omega arith))
    ∙ sym (between_is image (128 * other) end)

drop_past : (image : List ℕ) (sector : ℕ) (bytes : List ℕ) (k : ℕ) → 128 * sector + 128 ≤ length image → length bytes ≡ 128
    → drop (128 * sector + 128 + k) (with_sector image sector bytes) ≡ drop (128 * sector + 128 + k) image
drop_past image sector bytes k inside long =
    let front : length (take (128 * sector) image) ≡ 128 * sector = length-take-le (128 * sector) image (omega arith) in
    let both : length (take (128 * sector) image ++ bytes) ≡ 128 * sector + 128 = omega (arith, length-append (take (128 * sector) image) bytes) in
    sym (drop-drop k (128 * sector + 128) (with_sector image sector bytes))
    ∙ ap (λ (xs : List ℕ). drop k xs)
    (ap (λ (xs : List ℕ). drop (128 * sector + 128) xs) (sym (append_assoc (take (128 * sector) image) bytes (drop (128 * sector + 128) image)))
    ∙ drop_at (take (128 * sector) image ++ bytes) (drop (128 * sector + 128) image) (128 * sector + 128) both)
    ∙ drop-drop k (128 * sector + 128) image

behind : (image : List ℕ) (sector other : ℕ) (bytes : List ℕ) → 128 * sector + 128 ≤ length image → length bytes ≡ 128 → sector < other
    → sector_of (with_sector image sector bytes) other ≡ sector_of image other
behind image sector other bytes inside long more =
    let k = 128 * other - (128 * sector + 128) in
    let at : 128 * sector + 128 + k ≡ 128 * other = omega arith in
    ap (λ (xs : List ℕ). take (128 * other + 128 - 128 * other) xs)
    (ap (λ (n : ℕ). drop n (with_sector image sector bytes)) (sym at) ∙ drop_past image sector bytes k inside long ∙ ap (λ (n : ℕ). drop n image) at)

pub sector_kept : (image : List ℕ) (sector other : ℕ) (bytes : List ℕ) → 128 * sector + 128 ≤ length image → length bytes ≡ 128 → sector ≢ other
    → sector_of (with_sector image sector bytes) other ≡ sector_of image other
sector_kept image sector other bytes inside long apart = elim (cases_lt other sector) [
  | inl less ↦ before image sector other bytes inside less
  | inr more ↦ behind image sector other bytes inside long (omega (arith, apart))
]
