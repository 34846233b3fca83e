-- A sector of an image that is written: it has the new bytes, and every other sector is as it was.
use Rattle.std.proofs.Common.{◌≡◌, ◌≢◌, ℕ, ◌+◌, ◌-◌, ◌*◌, ◌%◌, ◌<◌, ◌≤◌, ◌⊎◌, inl, inr, min, List, ◌++◌, length, get_or, take, drop, sym, ap, ◌∙◌, arith}
use Rattle.std.proofs.lemmas.Bool.{cases_order}
use Rattle.std.proofs.lemmas.List.{append_assoc, length-append, length-take, length-take-le, length-drop, get_or_append_left, get_or-append_right, get_or-take, get_or-drop, drop_at, take_at, ext_get_or}
use Rattle.mpm_base.specs.declared.kind.Kind.{Kind}
use Rattle.mpm_base.specs.declared.kind.Kind.TheVariants.{Ibm3740, Hd4, Hd8}
use Rattle.mpm_blocks.specs.Geometries.{geometry_of, logical_sectors, place_of}
use Rattle.mpm_blocks.proofs.Skew.{skew_low, skew_high, place_injective}
use Rattle.mpm_port.specs.Disks.{with_sector}
use Rattle.mpm_blocks.specs.Sectors.{sectors_of, SectorWritten}

-- a list with other bytes in the place of some
abbrev pub spliced : List ℕ → List ℕ → ℕ → ℕ → List ℕ
spliced xs ys a n = take a xs ++ (ys ++ drop (a + n) xs)

pub spliced_size : (xs ys : List ℕ) (a n : ℕ) → length ys ≡ n → a + n ≤ length xs → length (spliced xs ys a n) ≡ length xs
spliced_size xs ys a n size h =
    omega (arith, length-append (take a xs) (ys ++ drop (a + n) xs), length-append ys (drop (a + n) xs), length-take-le a xs (omega arith), length-drop (a + n) xs)

pub spliced_here : (xs ys : List ℕ) (a n : ℕ) → length ys ≡ n → a + n ≤ length xs → take n (drop a (spliced xs ys a n)) ≡ ys
spliced_here xs ys a n size h =
    ap (take n) (drop_at (take a xs) (ys ++ drop (a + n) xs) a (length-take-le a xs (omega arith))) ∙ take_at ys (drop (a + n) xs) n size

pub spliced_again : (xs ys zs : List ℕ) (a n : ℕ) → length ys ≡ n → a + n ≤ length xs → spliced (spliced xs ys a n) zs a n ≡ spliced xs zs a n
spliced_again xs ys zs a n size h =
    let front : List ℕ = take a xs in
    let rest : List ℕ = drop (a + n) xs in
    let long : length front ≡ a = length-take-le a xs (omega arith) in
    let whole : length (front ++ ys) ≡ a + n = omega (arith, length-append front ys) in
    ap (λ ws. ws ++ (zs ++ drop (a + n) (spliced xs ys a n))) (take_at front (ys ++ rest) a long)
    ∙ ap (λ ws. front ++ (zs ++ ws)) (ap (drop (a + n)) (sym (append_assoc front ys rest)) ∙ drop_at (front ++ ys) rest (a + n) whole)

byte_before : (xs ys : List ℕ) (a n m : ℕ) → a + n ≤ length xs → m < a → get_or (spliced xs ys a n) m 0 ≡ get_or xs m 0
byte_before xs ys a n m h less =
    get_or_append_left (take a xs) (ys ++ drop (a + n) xs) 0 m (omega (arith, length-take-le a xs (omega arith))) ∙ get_or-take a xs m 0 less

byte_behind : (xs ys : List ℕ) (a n m : ℕ) → length ys ≡ n → a + n ≤ length xs → a + n ≤ m → get_or (spliced xs ys a n) m 0 ≡ get_or xs m 0
byte_behind xs ys a n m size h more =
    let same : a + n + (m - a - n) ≡ m = omega arith in
    get_or-append_right (take a xs) (ys ++ drop (a + n) xs) a m 0 (length-take-le a xs (omega arith)) (omega arith)
    ∙ get_or-append_right ys (drop (a + n) xs) n (m - a) 0 size (omega arith)
    ∙ get_or-drop (a + n) xs (m - a - n) 0
    ∙ ap (λ k. get_or xs k 0) same

byte_kept : (xs ys : List ℕ) (a n m : ℕ) → length ys ≡ n → a + n ≤ length xs → (m < a) ⊎ (a + n ≤ m) → get_or (spliced xs ys a n) m 0 ≡ get_or xs m 0
byte_kept xs ys a n m size h (inl less) = byte_before xs ys a n m h less
byte_kept xs ys a n m size h (inr more) = byte_behind xs ys a n m size h more

inner : (a n c k i : ℕ) → (c + k ≤ a) ⊎ (a + n ≤ c) → i < k → (c + i < a) ⊎ (a + n ≤ c + i)
inner a n c k i (inl before) h = inl (omega arith)
inner a n c k i (inr behind) h = inr (omega arith)

within_part : (xs : List ℕ) (c k i : ℕ) → i < length (take k (drop c xs)) → i < k
within_part xs c k i h = omega (arith, length-take k (drop c xs))

byte_of_part : (xs : List ℕ) (c k i : ℕ) → i < k → get_or (take k (drop c xs)) i 0 ≡ get_or xs (c + i) 0
byte_of_part xs c k i h = get_or-take k (drop c xs) i 0 h ∙ get_or-drop c xs i 0

part_size : (xs ys : List ℕ) (c k : ℕ) → length xs ≡ length ys → length (take k (drop c xs)) ≡ length (take k (drop c ys))
part_size xs ys c k same =
    length-take k (drop c xs) ∙ ap (min k) (length-drop c xs ∙ ap (λ n. n - c) same ∙ sym (length-drop c ys)) ∙ sym (length-take k (drop c ys))

pub spliced_kept : (xs ys : List ℕ) (a n c k : ℕ) → length ys ≡ n → a + n ≤ length xs → (c + k ≤ a) ⊎ (a + n ≤ c)
    → take k (drop c (spliced xs ys a n)) ≡ take k (drop c xs)
spliced_kept xs ys a n c k size h apart =
    ext_get_or 0 (take k (drop c (spliced xs ys a n))) (take k (drop c xs)) (part_size (spliced xs ys a n) xs c k (spliced_size xs ys a n size h)) (λ i less.
    let small : i < k = within_part (spliced xs ys a n) c k i less in
    byte_of_part (spliced xs ys a n) c k i small ∙ byte_kept xs ys a n (c + i) size h (inner a n c k i apart small) ∙ sym (byte_of_part xs c k i small))

-- each place is inside the image
pub place_inside : (kind : Kind) (s : ℕ) → s < logical_sectors kind → 128 * place_of kind s + 128 ≤ (geometry_of kind).bytes
place_inside Ibm3740 s h = omega (arith, skew_low (s % 26) (omega arith), skew_high (s % 26) (omega arith))
place_inside Hd4 s h = omega arith
place_inside Hd8 s h = omega arith

-- two places that differ have no byte in common
places_apart : (p q : ℕ) → p ≢ q → (128 * q + 128 ≤ 128 * p) ⊎ (128 * p + 128 ≤ 128 * q)
places_apart p q apart = elim (cases_order p q) [
  | inl same ↦ absurd (apart same)
  | inr other ↦ elim other [ inl less ↦ inr (omega arith) | inr more ↦ inl (omega arith) ]
]

pub from_to : (a : ℕ) → a + 128 - a ≡ 128
from_to a = omega arith

pub written_size : (kind : Kind) (image bytes : List ℕ) (s : ℕ) → length image ≡ (geometry_of kind).bytes → length bytes ≡ 128 → s < logical_sectors kind
    → length (with_sector image (place_of kind s) bytes) ≡ length image
written_size kind image bytes s whole size h =
    spliced_size image bytes (128 * place_of kind s) 128 size (omega (arith, place_inside kind s h))

-- a sector that is written twice has the later bytes
pub written_again : (kind : Kind) (image bytes more : List ℕ) (s : ℕ) → length image ≡ (geometry_of kind).bytes → length bytes ≡ 128 → s < logical_sectors kind
    → with_sector (with_sector image (place_of kind s) bytes) (place_of kind s) more ≡ with_sector image (place_of kind s) more
written_again kind image bytes more s whole size h = spliced_again image bytes more (128 * place_of kind s) 128 size (omega (arith, place_inside kind s h))

pub sectors_written : (kind : Kind) (image bytes : List ℕ) (s : ℕ) → length image ≡ (geometry_of kind).bytes → length bytes ≡ 128 → s < logical_sectors kind
    → SectorWritten s bytes (sectors_of image kind) (sectors_of (with_sector image (place_of kind s) bytes) kind)
unfolding sectors_of
sectors_written kind image bytes s whole size h =
    let p : ℕ = place_of kind s in
    let inside : 128 * p + 128 ≤ length image = omega (arith, place_inside kind s h) in
    record {
      here = ap (λ n. take n (drop (128 * p) (with_sector image p bytes))) (from_to (128 * p)) ∙ spliced_here image bytes (128 * p) 128 size inside;
      others = λ t apart.
          let q : ℕ = place_of kind t in
          ap (λ n. take n (drop (128 * q) (with_sector image p bytes))) (from_to (128 * q))
          ∙ spliced_kept image bytes (128 * p) 128 (128 * q) 128 size inside (places_apart p q (λ same. apart (sym (place_injective kind s t same))))
          ∙ sym (ap (λ n. take n (drop (128 * q) image)) (from_to (128 * q)));
    }

-- a sector has 128 bytes
pub sector_size : (kind : Kind) (image : List ℕ) (s : ℕ) → length image ≡ (geometry_of kind).bytes → s < logical_sectors kind → length (sectors_of image kind s) ≡ 128
unfolding sectors_of
sector_size kind image s whole h =
    let a : ℕ = 128 * place_of kind s in
    ap (λ n. length (take n (drop a image))) (from_to a)
    ∙ length-take-le 128 (drop a image) (omega (arith, length-drop a image, place_inside kind s h))
