-- A head that is read is what was written, and one that is written is read.
use Rattle.std.proofs.Common.{◌≡◌, ◌∙◌, ℕ, zero, suc, ◌+◌, ◌*◌, ◌^◌, ◌<◌, ◌≤◌, ◌==◌, not, Bool, true, false, List, [], ◌∷◌, ◌++◌, map, Option, Some, None, length, get_or, take, drop, codes, nat_lt, if◌then◌else◌, refl, sym, ap, subst, arith, take-append-drop, length-take-le, get_or-take, w64, le-leb, lt-ltb, eqb-true, ltb-true, eq-eqb, length-append, min}
use Rattle.std.specs.List.{range_with_len, list_all}
use Rattle.std.specs.Int.{to_le_bytes}
use Rattle.std.proofs.lemmas.Bool.{false≢true, and_from}
use Rattle.std.proofs.lemmas.List.FromFn.{fill_by_all, get_or-range_with_len, length-range_with_len}
use Rattle.std.proofs.lemmas.List.Elements.{All-get_or}
use Rattle.std.proofs.lemmas.List.Quantifiers.{position-Some}
use Rattle.std.proofs.lemmas.List.Sums.{AllPass-from_list_all}
use Rattle.std.proofs.lemmas.Nat.{le_bytes_8, from_le_bytes-to_le_bytes_8}
use Rattle.z80_regs.specs.Words.{low, high, word_of}
use Rattle.mpm_core_file.specs.declared.head.Head.{Head}
use Rattle.mpm_core_file.specs.CoreFiles.{CoreContents, IsHead, IsCore, flag_byte, word_bytes, fields_of, head_bytes, core_bytes, stands, may_stand, turned, first_bad, size_of, fault_by, fault_of, step_at, head_at}
use Rattle.mpm_core_file.proofs.ReadLaws.{each_stands, may, turn_below}

-- the first so many elements, one by one
spread_is : (text : List ℕ) (n : ℕ) → n ≤ length text → map (λ k. get_or text k 0) (range_with_len 0 n) ≡ take n text
spread_is text n long =
    sym (fill_by_all (λ k. get_or text k 0) (take n text) n 0 (length-take-le n text long) (λ k below. get_or-take n text k 0 below))

cons : (a b : ℕ) (xs ys : List ℕ) → a ≡ b → xs ≡ ys → a ∷ xs ≡ b ∷ ys
cons a b xs ys same rest = ap (λ (c : ℕ). c ∷ xs) same ∙ ap (λ zs. b ∷ zs) rest

-- what was written: of bytes that stand

flag_back : (byte : ℕ) (xs ys : List ℕ) → nat_lt byte 2 ≡ true → xs ≡ ys → flag_byte (byte == 1) ∷ xs ≡ byte ∷ ys
flag_back zero xs ys small rest = ap (λ zs. 0 ∷ zs) rest
flag_back (suc zero) xs ys small rest = ap (λ zs. 1 ∷ zs) rest
flag_back (suc (suc n)) xs ys small rest = absurd (omega (arith, ltb-true (suc (suc n)) 2 small))

word_back : (a b : ℕ) (xs ys : List ℕ) → a < 256 → xs ≡ ys → word_bytes (word_of a b) xs ≡ a ∷ b ∷ ys
word_back a b xs ys small rest =
    let first : low (word_of a b) ≡ a = omega (arith, small) in
    let last : high (word_of a b) ≡ b = omega (arith, small) in
    cons _ _ _ _ first (cons _ _ _ _ last rest)

magic_back : (text : List ℕ) → first_bad text ≡ None → codes "MPMCORE1" ≡ map (λ k. get_or text k 0) (range_with_len 0 8)
unfolding may_stand
magic_back text none =
    let is : (k : ℕ) → k < 51 → may_stand (get_or text 18 0) (turned k) (get_or text (turned k) 0) ≡ true =
    λ k below. may text (turned k) (each_stands text k none below) in
    cons _ _ _ _ (sym (eqb-true _ _ (is 0 (omega arith)))) (cons _ _ _ _ (sym (eqb-true _ _ (is 1 (omega arith))))
    (cons _ _ _ _ (sym (eqb-true _ _ (is 2 (omega arith)))) (cons _ _ _ _ (sym (eqb-true _ _ (is 3 (omega arith))))
    (cons _ _ _ _ (sym (eqb-true _ _ (is 4 (omega arith)))) (cons _ _ _ _ (sym (eqb-true _ _ (is 5 (omega arith))))
    (cons _ _ _ _ (sym (eqb-true _ _ (is 6 (omega arith)))) (cons _ _ _ _ (sym (eqb-true _ _ (is 7 (omega arith)))) refl)))))))

small_step : (text : List ℕ) → ((k : ℕ) → get_or text k 0 < 256) → (i : ℕ) → get_or (map (λ k. get_or text k 0) (range_with_len 8 8)) i 0 < 256
small_step text small zero = small 8
small_step text small (suc zero) = small 9
small_step text small (suc (suc zero)) = small 10
small_step text small (suc (suc (suc zero))) = small 11
small_step text small (suc (suc (suc (suc zero)))) = small 12
small_step text small (suc (suc (suc (suc (suc zero))))) = small 13
small_step text small (suc (suc (suc (suc (suc (suc zero)))))) = small 14
small_step text small (suc (suc (suc (suc (suc (suc (suc zero))))))) = small 15
small_step text small (suc (suc (suc (suc (suc (suc (suc (suc i)))))))) = omega arith

step_back : (text : List ℕ) → ((k : ℕ) → get_or text k 0 < 256) → to_le_bytes w64 (step_at text) ≡ map (λ k. get_or text k 0) (range_with_len 8 8)
step_back text small = le_bytes_8 (map (λ k. get_or text k 0) (range_with_len 8 8)) (step_at text) refl (small_step text small) refl

fields_back : (text : List ℕ) → first_bad text ≡ None → ((k : ℕ) → get_or text k 0 < 256)
    → fields_of (head_at text) ≡ map (λ k. get_or text k 0) (range_with_len 16 35)
unfolding fields_of may_stand
fields_back text none small =
    let at : ℕ → ℕ = λ k. get_or text k 0 in
    let is : (k : ℕ) → k < 51 → may_stand (get_or text 18 0) (turned k) (get_or text (turned k) 0) ≡ true =
    λ k below. may text (turned k) (each_stands text k none below) in
    let iff1 = is 46 (omega arith) in
    let iff2 = is 47 (omega arith) in
    let flags = flag_back (at 49) _ _ (is 49 (omega arith)) (flag_back (at 50) _ _ (is 50 (omega arith)) refl) in
    let interrupts = flag_back (at 46) _ _ iff1 (flag_back (at 47) _ _ iff2 (ap (λ xs. at 48 ∷ xs) flags)) in
    let words = word_back (at 36) (at 37) _ _ (small 36) (word_back (at 38) (at 39) _ _ (small 38)
    (word_back (at 40) (at 41) _ _ (small 40) (word_back (at 42) (at 43) _ _ (small 42) (ap (λ xs. at 44 ∷ at 45 ∷ xs) interrupts)))) in
    let registers = ap (λ xs. at 20 ∷ at 21 ∷ at 22 ∷ at 23 ∷ at 24 ∷ at 25 ∷ at 26 ∷ at 27 ∷ at 28 ∷ at 29 ∷ at 30 ∷ at 31 ∷ at 32 ∷ at 33 ∷ at 34 ∷ at 35 ∷ xs) words in
    ap (λ xs. at 16 ∷ at 17 ∷ at 18 ∷ xs) (flag_back (at 19) _ _ (is 19 (omega arith)) registers)

head_back : (text : List ℕ) → first_bad text ≡ None → 51 ≤ length text → ((k : ℕ) → get_or text k 0 < 256) → head_bytes (head_at text) ≡ take 51 text
unfolding head_bytes
head_back text none long small =
    let spread : ℕ → ℕ → List ℕ = λ from n. map (λ k. get_or text k 0) (range_with_len from n) in
    ap (λ xs. xs ++ (to_le_bytes w64 (step_at text) ++ fields_of (head_at text))) (magic_back text none)
    ∙ ap (λ xs. spread 0 8 ++ (xs ++ fields_of (head_at text))) (step_back text small)
    ∙ ap (λ xs. spread 0 8 ++ (spread 8 8 ++ xs)) (fields_back text none small)
    ∙ spread_is text 51 long

-- a file whose head stands begins with the bytes of that head
pub begins : (text : List ℕ) → first_bad text ≡ None → 51 ≤ length text → ((k : ℕ) → get_or text k 0 < 256)
    → text ≡ head_bytes (head_at text) ++ drop 51 text
begins text none long small =
    sym (ap (λ xs. xs ++ drop 51 text) (head_back text none long small) ∙ take-append-drop 51 text)

-- what is written: it is read again

flag_is : (flag : Bool) → (flag_byte flag == 1) ≡ flag
flag_is true = refl
flag_is false = refl

flag_small : (flag : Bool) → nat_lt (flag_byte flag) 2 ≡ true
flag_small true = refl
flag_small false = refl

word_is : (word : ℕ) → word_of (low word) (high word) ≡ word
word_is word = omega arith

-- the fields that are read as they are aren't named
abbrev with_read : Head → ℕ → Bool → (ix iy sp pc : ℕ) → (iff1 iff2 halted shadow : Bool) → Head
with_read head step inside ix iy sp pc iff1 iff2 halted shadow = record head {
  step = step;
  inside = inside;
  regs = record head.regs { ix = ix; iy = iy; sp = sp; pc = pc; iff1 = iff1; iff2 = iff2; halted = halted; shadow = shadow };
}

head_again : (head : Head) (rest : List ℕ) → head.step < 2 ^ 64 → head_at (head_bytes head ++ rest) ≡ head
unfolding head_bytes fields_of
head_again head rest fits =
    let r = head.regs in
    let read : Bool → Bool = λ flag. flag_byte flag == 1 in
    let word : ℕ → ℕ = λ w. word_of (low w) (high w) in
    ap (λ s. with_read head s (read head.inside) (word r.ix) (word r.iy) (word r.sp) (word r.pc) (read r.iff1) (read r.iff2) (read r.halted) (read r.shadow)) (from_le_bytes-to_le_bytes_8 head.step fits)
    ∙ ap (λ b. with_read head head.step b (word r.ix) (word r.iy) (word r.sp) (word r.pc) (read r.iff1) (read r.iff2) (read r.halted) (read r.shadow)) (flag_is head.inside)
    ∙ ap (λ w. with_read head head.step head.inside w (word r.iy) (word r.sp) (word r.pc) (read r.iff1) (read r.iff2) (read r.halted) (read r.shadow)) (word_is r.ix)
    ∙ ap (λ w. with_read head head.step head.inside r.ix w (word r.sp) (word r.pc) (read r.iff1) (read r.iff2) (read r.halted) (read r.shadow)) (word_is r.iy)
    ∙ ap (λ w. with_read head head.step head.inside r.ix r.iy w (word r.pc) (read r.iff1) (read r.iff2) (read r.halted) (read r.shadow)) (word_is r.sp)
    ∙ ap (λ w. with_read head head.step head.inside r.ix r.iy r.sp w (read r.iff1) (read r.iff2) (read r.halted) (read r.shadow)) (word_is r.pc)
    ∙ ap (λ b. with_read head head.step head.inside r.ix r.iy r.sp r.pc b (read r.iff2) (read r.halted) (read r.shadow)) (flag_is r.iff1)
    ∙ ap (λ b. with_read head head.step head.inside r.ix r.iy r.sp r.pc r.iff1 b (read r.halted) (read r.shadow)) (flag_is r.iff2)
    ∙ ap (λ b. with_read head head.step head.inside r.ix r.iy r.sp r.pc r.iff1 r.iff2 b (read r.shadow)) (flag_is r.halted)
    ∙ ap (λ b. with_read head head.step head.inside r.ix r.iy r.sp r.pc r.iff1 r.iff2 r.halted b) (flag_is r.shadow)

-- a test that holds of each number below one
holds_below : (test : ℕ → Bool) (n : ℕ) → list_all test (range_with_len 0 n) ≡ true → (k : ℕ) → k < n → test k ≡ true
holds_below test n all k below =
    let P : ℕ → Type 0 = λ m. test m ≡ true in
    let size : k < length (range_with_len 0 n) = omega (arith, below, length-range_with_len 0 n) in
    let at : get_or (range_with_len 0 n) k 0 ≡ k = get_or-range_with_len 0 n k 0 below ∙ omega arith in
    subst P at (All-get_or P (range_with_len 0 n) k 0 size (AllPass-from_list_all test (range_with_len 0 n) all))

turned_below : (turn : ℕ) → turn < 51 → turned turn < 51
turned_below turn below = ltb-true (turned turn) 51 (holds_below (λ k. nat_lt (turned k) 51) 51 refl turn below)

-- and each of its places stands
all_may : (head : Head) (rest : List ℕ) → IsHead head
    → list_all (λ turn. may_stand head.spec.pages (turned turn) (get_or (head_bytes head ++ rest) (turned turn) 0)) (range_with_len 0 51) ≡ true
unfolding head_bytes fields_of may_stand
all_may head rest is =
    let r = head.regs in
    let most : head.spec.pages ≤ 192 = omega (arith, is.end) in
    let pages = and_from _ _ (le-leb 4 head.spec.pages is.some) (le-leb head.spec.pages 192 most) in
    let flags = and_from _ _ (flag_small r.halted) (and_from _ _ (flag_small r.shadow) refl) in
    let interrupts = and_from _ _ (flag_small r.iff1) (and_from _ _ (flag_small r.iff2) (and_from _ _ (lt-ltb head.regs.mode 3 is.mode) flags)) in
    and_from _ _ (lt-ltb head.process 32 is.process) (and_from _ _ pages
    (and_from _ _ (le-leb (head.spec.base + head.spec.pages) 192 is.end) (and_from _ _ (flag_small head.inside) interrupts)))

head_size : (head : Head) → length (head_bytes head) ≡ 51
unfolding head_bytes fields_of
head_size head = refl

pages_again : (head : Head) (rest : List ℕ) → get_or (head_bytes head ++ rest) 18 0 ≡ head.spec.pages
unfolding head_bytes fields_of
pages_again head rest = refl

each_again : (head : Head) (rest : List ℕ) (turn : ℕ) → IsHead head → turn < 51 → stands (head_bytes head ++ rest) (turned turn) ≡ true
unfolding stands
each_again head rest turn is below =
    let text = head_bytes head ++ rest in
    let here : turned turn < length text = omega (arith, turned_below turn below, length-append (head_bytes head) rest, head_size head) in
    and_from _ _ (lt-ltb (turned turn) (length text) here)
    (ap (λ pages. may_stand pages (turned turn) (get_or text (turned turn) 0)) (pages_again head rest)
    ∙ holds_below (λ k. may_stand head.spec.pages (turned k) (get_or text (turned k) 0)) 51 (all_may head rest is) turn below)

none_by : (text : List ℕ) (found : Option ℕ) → first_bad text ≡ found → ((turn : ℕ) → turn < 51 → stands text (turned turn) ≡ true) → first_bad text ≡ None
unfolding first_bad
none_by text None is each = is
none_by text (Some turn) is each =
    let at : get_or (range_with_len 0 51) turn 0 ≡ turn = get_or-range_with_len 0 51 turn 0 (turn_below text turn is) ∙ omega arith in
    let fails = (position-Some (λ t. not (stands text (turned t))) (range_with_len 0 51) turn 0 is).1 in
    absurd (false≢true (sym (ap (λ t. not (stands text (turned t))) at ∙ ap not (each turn (turn_below text turn is))) ∙ fails))

stands_again : (head : Head) (rest : List ℕ) → IsHead head → first_bad (head_bytes head ++ rest) ≡ None
stands_again head rest is = none_by (head_bytes head ++ rest) _ refl (λ turn below. each_again head rest turn is below)

-- the file of a core has no fault, and says the head of that core
pub record Again (core : CoreContents) : Type 0 where
  pub none : fault_of (core_bytes core) ≡ None
  pub head : head_at (core_bytes core) ≡ core.head

pub again : (core : CoreContents) → IsCore core → Again core
unfolding fault_of
again core is =
    let text = core_bytes core in
    let rest = core.segment ++ core.common in
    let long : length text ≡ size_of core.head.spec.pages =
    omega (arith, length-append (head_bytes core.head) rest, head_size core.head, length-append core.segment core.common, is.segment, is.common) in
    let size : length text ≡ size_of (get_or text 18 0) = long ∙ ap size_of (sym (pages_again core.head rest)) in
    record {
      none = ap (λ found. fault_by found text) (stands_again core.head rest is.head)
          ∙ ap (λ (b : Bool). if b then None else (Some (min (length text) (size_of (get_or text 18 0))))) (eq-eqb _ _ size);
      head = head_again core.head rest is.head.step;
    }

-- no other core has the same file

parts_same : (xs ys us vs : List ℕ) → length xs ≡ length us → xs ++ ys ≡ us ++ vs → (xs ≡ us) × (ys ≡ vs)
parts_same [] ys [] vs size same = (refl, same)
parts_same [] ys (u ∷ us) vs size same = absurd (omega (arith, size))
parts_same (x ∷ xs) ys [] vs size same = absurd (omega (arith, size))
parts_same (x ∷ xs) ys (u ∷ us) vs size same =
    let first : x ≡ u = cc same in
    let more : xs ++ ys ≡ us ++ vs = cc same in
    let rest = parts_same xs ys us vs (omega (arith, size)) more in
    (cons x u xs us first rest.0, rest.1)

pub only_core : (a b : CoreContents) → IsCore a → IsCore b → core_bytes a ≡ core_bytes b → a ≡ b
only_core a b is_a is_b same =
    let heads : a.head ≡ b.head =
    sym (head_again a.head (a.segment ++ a.common) is_a.head.step) ∙ ap head_at same ∙ head_again b.head (b.segment ++ b.common) is_b.head.step in
    let after = parts_same (head_bytes a.head) (a.segment ++ a.common) (head_bytes b.head) (b.segment ++ b.common) (head_size a.head ∙ sym (head_size b.head)) same in
    let sizes : length a.segment ≡ length b.segment = is_a.segment ∙ ap (λ (h : Head). 256 * h.spec.pages) heads ∙ sym is_b.segment in
    let parts = parts_same a.segment a.common b.segment b.common sizes after.1 in
    let made : Head → List ℕ → List ℕ → CoreContents = λ head segment common. record { head = head; segment = segment; common = common } in
    ap (λ head. made head a.segment a.common) heads ∙ ap (λ segment. made b.head segment a.common) parts.0 ∙ ap (λ common. made b.head b.segment common) parts.1
