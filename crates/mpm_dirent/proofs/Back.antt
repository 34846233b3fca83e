-- A proper entry is read back from the bytes that are written of it.
use Rattle.std.proofs.Common.{◌≡◌, ℕ, ◌+◌, ◌-◌, Bool, List, ◌∷◌, ◌++◌, length, take, refl, sym, ap, subst, ◌∙◌, arith}
use Rattle.mpm_dirent.specs.declared.kinds.Entry.{Entry}
use Rattle.mpm_dirent.specs.declared.kinds.Entry.TheVariants.{Free, File, Xfcb, Label, Kept}
use Rattle.mpm_dirent.specs.Entries.{blocks_of, map_of, file_of, xfcb_of, label_of, entry_of, with_stamps, bytes_of}
use Rattle.mpm_dirent.specs.Proper.{IsProper, HasSizes}
use Rattle.mpm_dirent.proofs.Numbers.{spread, spread_is, blocks_back}
use Rattle.mpm_dirent.proofs.Sorts.{is_file, is_xfcb, is_label, is_free, is_kept}

file_read : (user ex s1 s2 rc : ℕ) (name rest : List ℕ) (wide : Bool) → length name ≡ 11 → file_of (user ∷ (name ++ (ex ∷ s1 ∷ s2 ∷ rc ∷ rest))) wide ≡ record { user = user; name = name; ex = ex; s1 = s1; s2 = s2; rc = rc; blocks = blocks_of (take 16 rest) wide }
unfolding file_of
file_read user ex s1 s2 rc name rest wide h =
    let P : List ℕ → Type 0 = λ n. file_of (user ∷ (n ++ (ex ∷ s1 ∷ s2 ∷ rc ∷ rest))) wide ≡ record { user = user; name = n; ex = ex; s1 = s1; s2 = s2; rc = rc; blocks = blocks_of (take 16 rest) wide } in
    subst P (spread_is name 11 h) refl

abbrev XfcbRead : ℕ → ℕ → ℕ → List ℕ → List ℕ → List ℕ → List ℕ → Type 0
XfcbRead sort mode decode n p f s = xfcb_of (with_stamps sort n mode decode p f s) ≡ record { user = sort - 16; name = n; mode = mode; decode = decode; password = p; first = f; second = s }

xfcb_read : (sort mode decode : ℕ) (n p f s : List ℕ) → length n ≡ 11 → length p ≡ 8 → length f ≡ 4 → length s ≡ 4 → XfcbRead sort mode decode n p f s
unfolding xfcb_of
xfcb_read sort mode decode n p f s hn hp hf hs =
    subst (λ x. XfcbRead sort mode decode x p f s) (spread_is n 11 hn)
    (subst (λ x. XfcbRead sort mode decode (spread n 11) x f s) (spread_is p 8 hp)
    (subst (λ x. XfcbRead sort mode decode (spread n 11) (spread p 8) x s) (spread_is f 4 hf)
    (subst (λ x. XfcbRead sort mode decode (spread n 11) (spread p 8) (spread f 4) x) (spread_is s 4 hs) refl)))

abbrev LabelRead : ℕ → ℕ → ℕ → List ℕ → List ℕ → List ℕ → List ℕ → Type 0
LabelRead sort mode decode n p f s = label_of (with_stamps sort n mode decode p f s) ≡ record { name = n; mode = mode; decode = decode; password = p; first = f; second = s }

label_read : (sort mode decode : ℕ) (n p f s : List ℕ) → length n ≡ 11 → length p ≡ 8 → length f ≡ 4 → length s ≡ 4 → LabelRead sort mode decode n p f s
unfolding label_of
label_read sort mode decode n p f s hn hp hf hs =
    subst (λ x. LabelRead sort mode decode x p f s) (spread_is n 11 hn)
    (subst (λ x. LabelRead sort mode decode (spread n 11) x f s) (spread_is p 8 hp)
    (subst (λ x. LabelRead sort mode decode (spread n 11) (spread p 8) x s) (spread_is f 4 hf)
    (subst (λ x. LabelRead sort mode decode (spread n 11) (spread p 8) (spread f 4) x) (spread_is s 4 hs) refl)))

-- the bytes of a proper entry mean that entry
pub read_back : (entry : Entry) (wide : Bool) → HasSizes entry → IsProper wide entry → entry_of (bytes_of entry wide) wide ≡ entry
unfolding bytes_of
read_back Free wide sizes proper = is_free (bytes_of Free wide) wide refl
read_back (File f) wide sizes proper =
    is_file (bytes_of (File f) wide) wide proper.0
    ∙ ap File (file_read f.user f.ex f.s1 f.s2 f.rc f.name (map_of f.blocks wide) wide sizes.0 ∙ ap (λ b. record f { blocks = b }) (blocks_back wide f.blocks sizes.1 proper.1))
read_back (Xfcb x) wide sizes proper =
    is_xfcb (bytes_of (Xfcb x) wide) wide (omega arith) (omega arith)
    ∙ ap Xfcb (xfcb_read (16 + x.user) x.mode x.decode x.name x.password x.first x.second sizes.0 sizes.1 sizes.2 sizes.3 ∙ ap (λ u. record x { user = u }) (omega arith))
read_back (Label l) wide sizes proper =
    is_label (bytes_of (Label l) wide) wide refl
    ∙ ap Label (label_read 32 l.mode l.decode l.name l.password l.first l.second sizes.0 sizes.1 sizes.2 sizes.3)
read_back (Kept bytes) wide sizes proper = is_kept bytes wide proper.other proper.used

pub written_back : (bytes : List ℕ) (entry same : Entry) (wide : Bool) → entry ≡ same → bytes ≡ bytes_of same wide → HasSizes same → IsProper wide entry → entry_of bytes wide ≡ entry
written_back bytes entry same wide is written sizes proper =
    ap (λ b. entry_of b wide) written ∙ read_back same wide sizes (subst (IsProper wide) is proper) ∙ sym is
