-- The walk over typed keys.
use Rattle.std.proofs.Common.{◌≡◌, ℕ, zero, suc, ◌-◌, ◌+◌, ◌*◌, ◌<◌, List, [], ◌∷◌, ◌++◌, length, Option, Some, None, option_map, refl, ap, arith}
use Rattle.std.specs.Prelude.{slice_index}
use Rattle.std.proofs.lemmas.List.{append-nil, get_or_past}
use Rattle.mpm_script.specs.declared.event.Event.TheVariants.{Key}
use Rattle.mpm_script.specs.declared.event.Timed.{Timed}
use Rattle.mpm_script.specs.Numbers.{◌>>=◌, hex_digit, hex_byte}
use Rattle.mpm_script.specs.Keys.{key_of, keys_of}
use Rattle.mpm_script.specs.Events.{keys_at}
use Rattle.mpm_script.proofs.Finds.{onto, onto_more}

-- the keys that are left, as events after those before them
abbrev pub keys_onto : List Timed → ℕ → ℕ → ℕ → List ℕ → Option (List Timed)
keys_onto front step console most text = onto front (option_map (keys_at step console) (keys_of most text))

pub keys_end : (front : List Timed) (step console most : ℕ) (text : List ℕ) → length text ≡ 0 → keys_onto front step console most text ≡ Some front
unfolding keys_of
keys_end front step console most [] e = ap Some (append-nil front)
keys_end front step console most (byte ∷ rest) e = absurd (omega arith)

pub keys_over : (front : List Timed) (step console most : ℕ) (text : List ℕ) → 0 < length text → most ≡ 0 → keys_onto front step console most text ≡ None
unfolding keys_of
keys_over front step console most [] some none = absurd (omega arith)
keys_over front step console zero (byte ∷ rest) some none = refl
keys_over front step console (suc most) (byte ∷ rest) some none = absurd (omega arith)

pub keys_bad : (front : List Timed) (step console most : ℕ) (text : List ℕ) → 0 < length text → key_of text ≡ None → keys_onto front step console most text ≡ None
unfolding keys_of
keys_bad front step console most [] some e = absurd (omega arith)
keys_bad front step console zero (byte ∷ rest) some e = refl
keys_bad front step console (suc most) (byte ∷ rest) some e = rw e

keys_cons : (front : List Timed) (step console key : ℕ) (keys : Option (List ℕ))
    → onto front (option_map (keys_at step console) (option_map (λ others. key ∷ others) keys)) ≡ onto (front ++ record { step = step; event = Key console key } ∷ []) (option_map (keys_at step console) keys)
keys_cons front step console key None = refl
keys_cons front step console key (Some others) = onto_more front (record { step = step; event = Key console key }) (Some (keys_at step console others))

pub keys_more : (front : List Timed) (step console most : ℕ) (text : List ℕ) (key : ℕ) (others : List ℕ) → 0 < length text → 0 < most → key_of text ≡ Some (key, others)
    → keys_onto front step console most text ≡ keys_onto (front ++ record { step = step; event = Key console key } ∷ []) step console (most - 1) others
unfolding keys_of
keys_more front step console most [] key others some left e = absurd (omega arith)
keys_more front step console zero (byte ∷ rest) key others some left e = absurd (omega arith)
keys_more front step console (suc most) (byte ∷ rest) key others some left e =
    let fewer : suc most - 1 ≡ most = omega arith in rw (e, fewer) (keys_cons front step console key (keys_of most others))

no_second : (first : Option ℕ) → (first >>= (λ high. hex_digit 0 >>= (λ low. Some (16 * high + low)))) ≡ None
unfolding hex_digit
no_second None = refl
no_second (Some high) = refl

-- x with fewer than two bytes after it
pub hex_byte_short : (text : List ℕ) → length text < 3 → hex_byte (slice_index text 1) (slice_index text 2) ≡ None
hex_byte_short text short = let past : slice_index text 2 ≡ 0 = get_or_past text 2 0 (omega arith) in rw past (no_second (hex_digit (slice_index text 1)))
