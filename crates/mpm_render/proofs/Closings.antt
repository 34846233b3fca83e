-- Laws on the lines that are closed at the end, one place after another.
use Rattle.std.proofs.Common.{◌≡◌, ℕ, ◌+◌, ◌-◌, ◌<◌, List, [], ◌++◌, Result, Ok, Err, OnErr, flat_map, inl, inr, get_or, set, length, zero, suc, refl, sym, ap, ◌∙◌, subst, append_assoc, add-suc, add-one, add-zero, arith}
use Rattle.std.proofs.lemmas.Bool.{cases_eq}
use Rattle.std.proofs.lemmas.List.{append-nil, get_or-set_same, get_or-set_other}
use Rattle.mpm_port.specs.Texts.{Begins, AppendsPart}
use Rattle.mpm_render.specs.Lines.{places}
use Rattle.mpm_render.specs.Outputs.{Output, pending, rendered, closing, closed}
use Rattle.mpm_render.specs.Shown.{KeptLines, line_of, Shows, EndsBetween}
use Rattle.mpm_render.proofs.Grows.{begins_refl, begins_more, begins_trans, begins_behind, ends_within, widened}

-- the text of the first places' lines, closed
unfoldable pub closings : (ℕ → List ℕ) → ℕ → List ℕ
closings line zero = []
closings line (suc n) = closings line n ++ closing n (line n)

pub closings_none : (line : ℕ → List ℕ) → closings line 0 ≡ []
unfolding closings
closings_none line = refl

pub closings_more : (line : ℕ → List ℕ) (n : ℕ) → closings line (n + 1) ≡ closings line n ++ closing n (line n)
unfolding closings
closings_more line n = rw add-one refl

-- the text goes by the lines of those places alone
closings_same : (line other : ℕ → List ℕ) (n : ℕ) → ((place : ℕ) → place < n → line place ≡ other place) → closings line n ≡ closings other n
unfolding closings
closings_same line other zero same = refl
closings_same line other (suc n) same =
    ap (λ text. text ++ closing n (line n)) (closings_same line other n (λ place h. same place (omega arith)))
    ∙ ap (λ bytes. closings other n ++ closing n bytes) (same n (omega arith))

closings_begin : (line : ℕ → List ℕ) (n more : ℕ) → Begins (closings line n) (closings line (n + more))
unfolding closings
closings_begin line n zero = rw add-zero (begins_refl (closings line n))
closings_begin line n (suc more) = rw add-suc (begins_trans _ (closings line (n + more)) _ (closings_begin line n more) (begins_more _ _))

closings_all : (line : ℕ → List ℕ) → closings line 12 ≡ flat_map (λ place. closing place (line place)) places
unfolding closings
closings_all line = simp (append_assoc, append-nil)

-- all the lines that stand for outputs, closed
closed_is : (kept : KeptLines) (written first : List ℕ) (os : List Output) → Shows kept written os first → rendered kept.trace os ++ closings (line_of kept) 12 ≡ closed kept.trace os
unfolding closed
closed_is kept written first os s =
    ap (λ text. rendered kept.trace os ++ text) (closings_same (line_of kept) (λ place. pending place os) 12 s.lines ∙ closings_all (λ place. pending place os))

-- once each line is closed, all is written
pub written_closed : (kept : KeptLines) (written now first : List ℕ) (os : List Output) → now ≡ written ++ closings (line_of kept) 12 → Shows kept written os first → now ≡ first ++ closed kept.trace os
written_closed kept written now first os writes s =
    writes ∙ ap (λ t. t ++ closings (line_of kept) 12) s.written_is
    ∙ append_assoc first (rendered kept.trace os) (closings (line_of kept) 12)
    ∙ ap (λ t. first ++ t) (closed_is kept written first os s)

-- a failed write of a line stops before all is closed
pub ends_closed : (kept : KeptLines) (written before now first : List ℕ) (place : ℕ) (os : List Output) → place < 12 → before ≡ written ++ closings (line_of kept) place → AppendsPart before (closing place (line_of kept place)) now → 0 < length (closing place (line_of kept place)) → Shows kept written os first → EndsBetween now first (rendered kept.trace os) (closed kept.trace os)
ends_closed kept written before now first place os small writes part some s =
    let line = line_of kept in
    let shown = rendered kept.trace os in
    let text = shown ++ closings line place in
    let next = closing place (line place) in
    let e : before ≡ first ++ text = writes ∙ ap (λ t. t ++ closings line place) s.written_is ∙ append_assoc first shown (closings line place) in
    let joined : text ++ next ≡ shown ++ closings line (place + 1) = append_assoc shown (closings line place) next ∙ ap (λ x. shown ++ x) (sym (closings_more line place)) in
    let all : place + 1 + (11 - place) ≡ 12 = omega arith in
    let P : ℕ → Type 0 = λ n. Begins (shown ++ closings line (place + 1)) (shown ++ closings line n) in
    let Q : List ℕ → Type 0 = λ x. Begins (text ++ next) x in
    let R : List ℕ → Type 0 = λ x. Begins x (shown ++ closings line 12) in
    widened now first shown text (text ++ next) (closed kept.trace os)
    (begins_more shown (closings line place))
    (subst Q (closed_is kept written first os s) (subst R (sym joined) (subst P all (begins_behind shown _ _ (closings_begin line (place + 1) (11 - place))))))
    (ends_within before now first text next e part some)

-- the same, as a line answers that has been picked by its place
pub err_closed : {A E : Type 0} (result : Result A E) (kept : KeptLines) (written before now first : List ℕ) (place : ℕ) (line : List ℕ) (os : List Output) → place < 12 → line ≡ line_of kept place → before ≡ written ++ closings (line_of kept) place → AppendsPart before (closing place line) now → 0 < length (closing place line) → Shows kept written os first → OnErr result (EndsBetween now first (rendered kept.trace os) (closed kept.trace os))
err_closed (Ok x) kept written before now first place line os small same writes part some s = tt
err_closed (Err e) kept written before now first place line os small same writes part some s =
    let P : List ℕ → Type 0 = λ l. AppendsPart before (closing place l) now in
    let Q : List ℕ → Type 0 = λ l. 0 < length (closing place l) in
    ends_closed kept written before now first place os small writes (subst P same part) (subst Q same some) s

-- one more line is closed
pub written_more : (kept : KeptLines) (written before now : List ℕ) (place : ℕ) (line : List ℕ) → line ≡ line_of kept place → before ≡ written ++ closings (line_of kept) place → now ≡ before ++ closing place line → now ≡ written ++ closings (line_of kept) (place + 1)
written_more kept written before now place line same writes more =
    more ∙ ap (λ t. t ++ closing place line) writes ∙ append_assoc written _ _
    ∙ ap (λ l. written ++ (closings (line_of kept) place ++ closing place l)) same
    ∙ ap (λ t. written ++ t) (sym (closings_more (line_of kept) place))

-- with a line that stays as it is, so do all
pub all_stay : (lines : List (List ℕ)) (n : ℕ) (line : List ℕ) → n < length lines → line ≡ get_or lines n [] → (place : ℕ) → get_or (set lines n line) place [] ≡ get_or lines place []
all_stay lines n line inside same place = elim (cases_eq place n) [
  | inl equal ↦ ap (λ p. get_or (set lines n line) p []) equal ∙ get_or-set_same lines n line [] inside ∙ same ∙ ap (λ p. get_or lines p []) (sym equal)
  | inr other ↦ get_or-set_other lines n place line [] other
]

-- with one more line emptied, the first lines are empty
pub none_below : (lines : List (List ℕ)) (n : ℕ) (line : List ℕ) → n < length lines → line ≡ [] → ((place : ℕ) → place < n → get_or lines place [] ≡ []) → (place : ℕ) → place < n + 1 → get_or (set lines n line) place [] ≡ []
none_below lines n line inside empty below place h = elim (cases_eq place n) [
  | inl same ↦ ap (λ p. get_or (set lines n line) p []) same ∙ get_or-set_same lines n line [] inside ∙ empty
  | inr other ↦ get_or-set_other lines n place line [] other ∙ below place (omega arith)
]
