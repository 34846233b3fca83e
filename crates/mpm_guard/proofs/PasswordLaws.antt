-- What was encoded is decoded again; and who is let in, by equal passwords.
use Rattle.std.proofs.Common.{◌≡◌, ◌∙◌, ℕ, true, List, [], ◌∷◌, ◌++◌, map, reverse, sym, refl, ap, inl, inr}
use Rattle.std.specs.Prelude.{bit_xor, bytes_eq, replicate}
use Rattle.std.proofs.lemmas.List.{map-append, reverse-append, reverse-reverse}
use Rattle.std.proofs.lemmas.Slice.Eq.{bytes_eq-Decides}
use Rattle.std.proofs.lemmas.Bool.{or_right, or_cases, or_left}
use lib.Bits.{xor_assoc, xor_self, xor_zero_r}
use Rattle.mpm_dirent.specs.declared.kinds.XfcbEntry.{XfcbEntry}
use Rattle.mpm_dirent.specs.declared.kinds.LabelEntry.{LabelEntry}
use Rattle.mpm_guard.specs.Passwords.{decoded, is_unguarded, has_password, is_admitted, Knows, MayPass, is_label_admitted, MayChange}

xored_back : (byte with : ℕ) → bit_xor (bit_xor byte with) with ≡ byte
xored_back byte with = xor_assoc byte with with ∙ ap (bit_xor byte) (xor_self with) ∙ xor_zero_r byte

each_back : (with : ℕ) (bytes : List ℕ) → map (λ byte. bit_xor byte with) (map (λ byte. bit_xor byte with) bytes) ≡ bytes
each_back with [] = refl
each_back with (byte ∷ bytes) =
    ap (λ first. first ∷ map (λ b. bit_xor b with) (map (λ b. bit_xor b with) bytes)) (xored_back byte with)
    ∙ ap (λ rest. byte ∷ rest) (each_back with bytes)

reverse_map : (f : ℕ → ℕ) (xs : List ℕ) → reverse (map f xs) ≡ map f (reverse xs)
reverse_map f [] = refl
reverse_map f (x ∷ xs) =
    reverse-append (f x ∷ []) (map f xs) ∙ ap (λ front. front ++ f x ∷ []) (reverse_map f xs)
    ∙ sym (map-append f (reverse xs) (x ∷ [])) ∙ ap (map f) (sym (reverse-append (x ∷ []) xs))

-- bytes that are decoded twice
pub decoded_back : (decode : ℕ) (bytes : List ℕ) → decoded decode (decoded decode bytes) ≡ bytes
unfolding decoded
decoded_back decode bytes =
    let f : ℕ → ℕ = λ byte. bit_xor byte decode in
    ap (map f) (reverse_map f (reverse bytes) ∙ ap (map f) (reverse-reverse bytes)) ∙ each_back decode bytes

-- who knows the password that is kept
knows : (decode : ℕ) (stored given default : List ℕ) → has_password decode stored given default ≡ true → Knows decode stored given default
knows decode stored given default e =
    let kept = decoded decode stored in
    elim (or_cases (bytes_eq given kept) (bytes_eq default kept) e) [
      | inl own ↦ inl ((bytes_eq-Decides given kept).0 own)
      | inr by_default ↦ inr ((bytes_eq-Decides default kept).0 by_default)
    ]

has : (decode : ℕ) (stored given default : List ℕ) → Knows decode stored given default → has_password decode stored given default ≡ true
has decode stored given default known =
    let kept = decoded decode stored in
    elim known [
      | inl own ↦ or_left (bytes_eq given kept) (bytes_eq default kept) ((bytes_eq-Decides given kept).1 own)
      | inr by_default ↦ or_right (bytes_eq given kept) (bytes_eq default kept) ((bytes_eq-Decides default kept).1 by_default)
    ]

-- who is admitted to a file
pub passes : (label : ℕ) (xfcb : XfcbEntry) (need : ℕ) (given default : List ℕ) → is_admitted label xfcb need given default ≡ true
    → MayPass label xfcb need given default
unfolding is_admitted
passes label xfcb need given default e =
    elim (or_cases (is_unguarded label xfcb need) (has_password xfcb.decode xfcb.password given default) e) [
      | inl free ↦ inl free
      | inr known ↦ inr (knows xfcb.decode xfcb.password given default known)
    ]

pub is_let_in : (label : ℕ) (xfcb : XfcbEntry) (need : ℕ) (given default : List ℕ) → MayPass label xfcb need given default
    → is_admitted label xfcb need given default ≡ true
unfolding is_admitted
is_let_in label xfcb need given default may =
    let kept = has_password xfcb.decode xfcb.password given default in
    elim may [
      | inl unguarded ↦ or_left (is_unguarded label xfcb need) kept unguarded
      | inr known ↦ or_right (is_unguarded label xfcb need) kept (has xfcb.decode xfcb.password given default known)
    ]

-- who is admitted to the label
pub changes : (label : LabelEntry) (given default : List ℕ) → is_label_admitted label given default ≡ true → MayChange label given default
unfolding is_label_admitted
changes label given default e =
    elim (or_cases (bytes_eq label.password (replicate 8 0)) (has_password label.decode label.password given default) e) [
      | inl blank ↦ inl ((bytes_eq-Decides label.password (replicate 8 0)).0 blank)
      | inr known ↦ inr (knows label.decode label.password given default known)
    ]

pub may_change : (label : LabelEntry) (given default : List ℕ) → MayChange label given default → is_label_admitted label given default ≡ true
unfolding is_label_admitted
may_change label given default may =
    let kept = has_password label.decode label.password given default in
    elim may [
      | inl blank ↦ or_left (bytes_eq label.password (replicate 8 0)) kept ((bytes_eq-Decides label.password (replicate 8 0)).1 blank)
      | inr known ↦ or_right (bytes_eq label.password (replicate 8 0)) kept (has label.decode label.password given default known)
    ]
