-- An entry that is put in the place of another is read back, whatever stays of the other's bytes.
use Rattle.std.proofs.Common.{◌≡◌, ℕ, ◌+◌, ◌<◌, ◌≤◌, Bool, true, false, List, ◌∷◌, ◌++◌, length, get_or, take, drop, refl, sym, ap, subst, ◌∙◌, arith}
use Rattle.std.specs.Prelude.{slice_index, if◌then◌else◌}
use Rattle.mpm_dirent.specs.declared.kinds.Entry.{Entry}
use Rattle.mpm_dirent.specs.declared.kinds.Entry.TheVariants.{Free, File, Xfcb, Label, Kept}
use Rattle.mpm_dirent.specs.Entries.{part, xfcb_of, label_of, entry_of, bytes_of}
use Rattle.mpm_dirent.specs.Proper.{IsProper}
use Rattle.mpm_dirent.proofs.Numbers.{spread, spread_is}
use Rattle.mpm_dirent.proofs.Sorts.{is_xfcb, is_label, is_free}
use Rattle.mpm_sectors.specs.Slots.{is_extended, with_reserved, bytes_over}

-- bytes 14 and 15 of others
abbrev kept_two : List ℕ → List ℕ → List ℕ
kept_two old bytes = take 14 bytes ++ (part 14 2 old ++ drop 16 bytes)

-- XFCBs and labels are read without them
xfcb_unread : (old bytes : List ℕ) → length old ≡ 32 → length bytes ≡ 32 → xfcb_of (kept_two old bytes) ≡ xfcb_of bytes
unfolding xfcb_of
xfcb_unread old bytes h k =
    let P : List ℕ → List ℕ → Type 0 = λ o b. xfcb_of (kept_two o b) ≡ xfcb_of b in
    subst (λ o. P o bytes) (spread_is old 32 h) (subst (λ b. P (spread old 32) b) (spread_is bytes 32 k) refl)

label_unread : (old bytes : List ℕ) → length old ≡ 32 → length bytes ≡ 32 → label_of (kept_two old bytes) ≡ label_of bytes
unfolding label_of
label_unread old bytes h k =
    let P : List ℕ → List ℕ → Type 0 = λ o b. label_of (kept_two o b) ≡ label_of b in
    subst (λ o. P o bytes) (spread_is old 32 h) (subst (λ b. P (spread old 32) b) (spread_is bytes 32 k) refl)

first_same : (old bytes : List ℕ) → length old ≡ 32 → length bytes ≡ 32 → get_or (kept_two old bytes) 0 0 ≡ get_or bytes 0 0
first_same old bytes h k =
    let P : List ℕ → List ℕ → Type 0 = λ o b. get_or (kept_two o b) 0 0 ≡ get_or b 0 0 in
    subst (λ o. P o bytes) (spread_is old 32 h) (subst (λ b. P (spread old 32) b) (spread_is bytes 32 k) refl)

xfcb_kept : (wide b : Bool) (old bytes : List ℕ) → length old ≡ 32 → length bytes ≡ 32 → 16 ≤ get_or bytes 0 0 → get_or bytes 0 0 < 32
    → entry_of (if b then kept_two old bytes else bytes) wide ≡ entry_of bytes wide
xfcb_kept wide true old bytes h k low high =
    is_xfcb (kept_two old bytes) wide (omega (arith, first_same old bytes h k)) (omega (arith, first_same old bytes h k))
    ∙ ap Xfcb (xfcb_unread old bytes h k) ∙ sym (is_xfcb bytes wide low high)
xfcb_kept wide false old bytes h k low high = refl

label_kept : (wide b : Bool) (old bytes : List ℕ) → length old ≡ 32 → length bytes ≡ 32 → get_or bytes 0 0 ≡ 32 → entry_of (if b then kept_two old bytes else bytes) wide ≡ entry_of bytes wide
label_kept wide true old bytes h k sort =
    is_label (kept_two old bytes) wide (omega (arith, first_same old bytes h k, sort)) ∙ ap Label (label_unread old bytes h k) ∙ sym (is_label bytes wide sort)
label_kept wide false old bytes h k sort = refl

pub over_back : (wide : Bool) (old bytes : List ℕ) (entry : Entry) → length old ≡ 32 → length bytes ≡ 32 → bytes ≡ bytes_of entry wide → entry_of bytes wide ≡ entry → IsProper wide entry
    → entry_of (bytes_over wide old entry) wide ≡ entry
unfolding bytes_over bytes_of
over_back wide old bytes Free h k is back proper = is_free (229 ∷ drop 1 old) wide refl
over_back wide old bytes (File f) h k is back proper = ap (λ b. entry_of b wide) (sym is) ∙ back
over_back wide old bytes (Kept kept) h k is back proper = ap (λ b. entry_of b wide) (sym is) ∙ back
over_back wide old bytes (Xfcb x) h k is back proper =
    let sort : get_or bytes 0 0 ≡ 16 + x.user = ap (λ b. get_or b 0 0) is in
    ap (λ b. entry_of (with_reserved old b) wide) (sym is)
    ∙ xfcb_kept wide (is_extended (slice_index old 0)) old bytes h k (omega (arith, sort)) (omega (arith, sort, proper)) ∙ back
over_back wide old bytes (Label l) h k is back proper =
    let sort : get_or bytes 0 0 ≡ 32 = ap (λ b. get_or b 0 0) is in
    ap (λ b. entry_of (with_reserved old b) wide) (sym is) ∙ label_kept wide (is_extended (slice_index old 0)) old bytes h k sort ∙ back

-- and it has as many bytes
two_long : (old bytes : List ℕ) → length old ≡ 32 → length bytes ≡ 32 → length (kept_two old bytes) ≡ 32
two_long old bytes h k =
    let P : List ℕ → List ℕ → Type 0 = λ o b. length (kept_two o b) ≡ 32 in
    subst (λ o. P o bytes) (spread_is old 32 h) (subst (λ b. P (spread old 32) b) (spread_is bytes 32 k) refl)

freed_long : (old : List ℕ) → length old ≡ 32 → length (229 ∷ drop 1 old) ≡ 32
freed_long old h = subst (λ o. length (229 ∷ drop 1 o) ≡ 32) (spread_is old 32 h) refl

reserved_long : (b : Bool) (old bytes : List ℕ) → length old ≡ 32 → length bytes ≡ 32 → length (if b then kept_two old bytes else bytes) ≡ 32
reserved_long true old bytes h k = two_long old bytes h k
reserved_long false old bytes h k = k

pub over_long : (wide : Bool) (old bytes : List ℕ) (entry : Entry) → length old ≡ 32 → length bytes ≡ 32 → bytes ≡ bytes_of entry wide → length (bytes_over wide old entry) ≡ 32
unfolding bytes_over
over_long wide old bytes Free h k is = freed_long old h
over_long wide old bytes (File f) h k is = ap length (sym is) ∙ k
over_long wide old bytes (Kept kept) h k is = ap length (sym is) ∙ k
over_long wide old bytes (Xfcb x) h k is = reserved_long (is_extended (slice_index old 0)) old (bytes_of (Xfcb x) wide) h (ap length (sym is) ∙ k)
over_long wide old bytes (Label l) h k is = reserved_long (is_extended (slice_index old 0)) old (bytes_of (Label l) wide) h (ap length (sym is) ∙ k)
