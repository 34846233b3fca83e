-- The items of a text, part by part, and the list that is built of them.
use Rattle.std.proofs.Common.{◌≡◌, ◌∙◌, ℕ, suc, ◌+◌, ◌-◌, ◌<◌, ◌≤◌, List, [], ◌∷◌, ◌++◌, length, take, drop, replicate, Option, Some, None, inl, inr, refl, sym, ap, ap₂, subst, arith, length-drop, length-append, append_assoc, append-nil, take_all, take_at, drop-drop}
use Rattle.std.specs.Prelude.{option_map, slice_set, nat_le}
use Rattle.std.specs.List.{slice_split, position_or_len}
use Rattle.std.proofs.lemmas.Bool.{cases_lt}
use Rattle.std.proofs.lemmas.Bool.Decides.{nat_tests}
use Rattle.std.proofs.lemmas.Option.{same_Some}
use Rattle.std.proofs.lemmas.List.Splits.{slice_split_first, slice_split_none, length-slice_split}
use Rattle.std.proofs.lemmas.List.Sums.{fails_before_first}
use Rattle.mpm_base.proofs.Choices.{either}
use Rattle.mpm_spool.specs.SpoolLists.{is_comma, item_of, before, items_of, parts_of, listed, no_item, list_with}
use Rattle.mpm_spool.specs.declared.list.SpoolItem.{SpoolItem}
use Rattle.mpm_spool.specs.declared.list.SpoolList.{SpoolList}

-- the first part ends where a comma stands, and without one the text is the one part
pub first_part : (text : List ℕ) (comma : ℕ) → comma ≡ position_or_len is_comma text → comma < length text → parts_of text ≡ take comma text ∷ parts_of (drop (comma + 1) text)
unfolding parts_of
first_part text comma is within =
    slice_split_first is_comma text 0 (omega (arith, is, within)) ∙ ap (λ n. take n text ∷ slice_split is_comma (drop (n + 1) text)) (sym is)

pub only_part : (text : List ℕ) (comma : ℕ) → comma ≡ position_or_len is_comma text → comma ≡ length text → parts_of text ≡ take comma text ∷ []
unfolding parts_of
only_part text comma is end =
    slice_split_none is_comma text (λ k e m. fails_before_first is_comma text k e (omega (arith, is, end, m)))
    ∙ ap (λ (part : List ℕ). part ∷ []) (sym (take_all comma text (omega (arith, end))))

some_parts : (text : List ℕ) → 1 ≤ length (parts_of text)
unfolding parts_of
some_parts text = omega (arith, length-slice_split is_comma text)

-- the items of a text, where those before them are had already
abbrev joined : List SpoolItem → Option (List SpoolItem) → Option (List SpoolItem)
joined had others = option_map (λ (items : List SpoolItem). had ++ items) others

none_had : (others : Option (List SpoolItem)) → joined [] others ≡ others
none_had None = refl
none_had (Some items) = refl

-- a part that is an item joins those that were had, and one that is none leaves nothing
joined_before : (had : List SpoolItem) (item : SpoolItem) (others : Option (List SpoolItem)) → joined had (before (Some item) others) ≡ joined (had ++ item ∷ []) others
joined_before had item None = refl
joined_before had item (Some items) = ap (λ (all : List SpoolItem). Some all) (sym (append_assoc had (item ∷ []) items))

item_joins : (had : List SpoolItem) (item : SpoolItem) (part : List ℕ) (parts : List (List ℕ)) → item_of part ≡ Some item
    → joined had (items_of (part ∷ parts)) ≡ joined (had ++ item ∷ []) (items_of parts)
unfolding items_of
item_joins had item part parts is = ap (λ (o : Option SpoolItem). joined had (before o (items_of parts))) is ∙ joined_before had item (items_of parts)

no_item_comes : (had : List SpoolItem) (part : List ℕ) (parts : List (List ℕ)) → item_of part ≡ None → joined had (items_of (part ∷ parts)) ≡ None
unfolding items_of
no_item_comes had part parts is = ap (λ (o : Option SpoolItem). joined had (before o (items_of parts))) is

last_item : (had : List SpoolItem) → joined had (items_of []) ≡ Some had
unfolding items_of
last_item had = ap (λ (all : List SpoolItem). Some all) (append-nil had)

-- at most eight are a list, and more are none
few_listed : (parts : List (List ℕ)) → length parts ≤ 8 → listed parts ≡ items_of parts
few_listed parts few = either (λ (o : Option (List SpoolItem)). o ≡ items_of parts) (nat_le (length parts) 8) (items_of parts) None (λ _. refl) (λ e. absurd (grind (arith, nat_tests, e, few)))

many_listed : (parts : List (List ℕ)) → 8 < length parts → listed parts ≡ None
many_listed parts many = either (λ (o : Option (List SpoolItem)). o ≡ None) (nat_le (length parts) 8) (items_of parts) None (λ e. absurd (grind (arith, nat_tests, e, many))) (λ _. refl)

none_listed : (parts : List (List ℕ)) → items_of parts ≡ None → listed parts ≡ None
none_listed parts none = either (λ (o : Option (List SpoolItem)). o ≡ None) (nat_le (length parts) 8) (items_of parts) None (λ _. none) (λ _. refl)

-- the list of items, as it is kept

counts : (items : List SpoolItem) (list : SpoolList) → list ≡ list_with items → list.count ≡ length items
unfolding list_with
counts items list is = ap (λ (l : SpoolList). l.count) is

set_next : (items : List SpoolItem) (n : ℕ) (item other : SpoolItem)
    → slice_set (items ++ replicate (suc n) other) (length items) item ≡ (items ++ item ∷ []) ++ replicate n other
set_next [] n item other = refl
set_next (first ∷ items) n item other = ap (λ (all : List SpoolItem). first ∷ all) (set_next items n item other)

abbrev pub list_of_parts : ℕ → List SpoolItem → SpoolList
list_of_parts count items = record { count = count; items = items }

one_more_of : (items : List SpoolItem) (item : SpoolItem) (n : ℕ) → 8 - length items ≡ suc n → 8 - length (items ++ item ∷ []) ≡ n
    → list_of_parts (length items + 1) (slice_set (items ++ replicate (8 - length items) no_item) (length items) item) ≡ list_with (items ++ item ∷ [])
unfolding list_with
one_more_of items item n before after =
    ap₂ list_of_parts (sym (length-append items (item ∷ [])))
    (ap (λ m. slice_set (items ++ replicate m no_item) (length items) item) before ∙ set_next items n item no_item ∙ ap (λ m. (items ++ item ∷ []) ++ replicate m no_item) (sym after))

pub one_more : (items : List SpoolItem) (list : SpoolList) (item : SpoolItem) → list ≡ list_with items → list.count < 8
    → list_of_parts (list.count + 1) (slice_set list.items list.count item) ≡ list_with (items ++ item ∷ [])
unfolding list_with
one_more items list item is room =
    subst (λ (l : SpoolList). l.count < 8 → list_of_parts (l.count + 1) (slice_set l.items l.count item) ≡ list_with (items ++ item ∷ [])) (sym is) (λ within. one_more_of items item (7 - length items) (omega (arith, within)) (omega (arith, within, length-append items (item ∷ [])))) room

pub items_kept : (o : Option (List SpoolItem)) (list : SpoolList) → option_map list_with o ≡ Some list → o ≡ Some (take list.count list.items)
unfolding list_with
items_kept None list is = absurd (cc)
items_kept (Some items) list is =
    ap (λ (l : List SpoolItem). Some l) (sym (take_at items (replicate (8 - length items) no_item) (length items) refl))
    ∙ ap (λ (l : SpoolList). Some (take l.count l.items)) (same_Some (list_with items) list is)

-- what is read of a text: its items so far, and what is left of it
pub record IsRead (text rest : List ℕ) (list : SpoolList) : Type 0 where
  pub had : List SpoolItem
  pub kept : list ≡ list_with had
  pub few : length rest ≤ 128
  pub parts : length (parts_of text) ≡ length had + length (parts_of rest)
  pub items : items_of (parts_of text) ≡ joined had (items_of (parts_of rest))

pub begins : (text : List ℕ) (list : SpoolList) → list ≡ list_with [] → length text ≤ 128 → IsRead text text list
begins text list is few = record { had = []; kept = is; few = few; parts = omega arith; items = sym (none_had (items_of (parts_of text))) }

-- the next part is an item, and another part comes after it
pub goes_on : (text rest : List ℕ) (old new : SpoolList) (comma : ℕ) (item : SpoolItem) → IsRead text rest old → comma ≡ position_or_len is_comma rest → comma < length rest
    → item_of (take comma rest) ≡ Some item → ((items : List SpoolItem) → old ≡ list_with items → new ≡ list_with (items ++ item ∷ [])) → IsRead text (drop (comma + 1) rest) new
goes_on text rest old new comma item r is within there more =
    let parts = first_part rest comma is within in
    record {
      had = r.had ++ item ∷ [];
      kept = more r.had r.kept;
      few = omega (arith, length-drop (comma + 1) rest, r.few);
      parts = omega (arith, r.parts, ap (λ (p : List (List ℕ)). length p) parts, length-append r.had (item ∷ []));
      items = r.items ∙ ap (λ (p : List (List ℕ)). joined r.had (items_of p)) parts ∙ item_joins r.had item (take comma rest) (parts_of (drop (comma + 1) rest)) there;
    }

-- it is the last one
pub ends_in : (text rest : List ℕ) (old new : SpoolList) (comma : ℕ) (item : SpoolItem) → IsRead text rest old → old.count < 8 → comma ≡ position_or_len is_comma rest → comma ≡ length rest
    → item_of (take comma rest) ≡ Some item → ((items : List SpoolItem) → old ≡ list_with items → new ≡ list_with (items ++ item ∷ [])) → option_map list_with (listed (parts_of text)) ≡ Some new
ends_in text rest old new comma item r room is end there more =
    let only = only_part rest comma is end in
    let all : items_of (parts_of text) ≡ Some (r.had ++ item ∷ []) =
    r.items ∙ ap (λ (p : List (List ℕ)). joined r.had (items_of p)) only ∙ item_joins r.had item (take comma rest) [] there ∙ last_item (r.had ++ item ∷ []) in
    let few : length (parts_of text) ≤ 8 = omega (arith, r.parts, ap (λ (p : List (List ℕ)). length p) only, counts r.had old r.kept, room) in
    ap (λ (o : Option (List SpoolItem)). option_map list_with o) (few_listed (parts_of text) few ∙ all) ∙ ap (λ (l : SpoolList). Some l) (sym (more r.had r.kept))

-- it is none
pub fails : (text rest : List ℕ) (list : SpoolList) (comma : ℕ) → IsRead text rest list → comma ≡ position_or_len is_comma rest → comma ≤ length rest → item_of (take comma rest) ≡ None
    → listed (parts_of text) ≡ None
fails text rest list comma r is within none =
    none_listed (parts_of text) (elim (cases_lt comma (length rest)) [
      | inl inside ↦
          r.items ∙ ap (λ (p : List (List ℕ)). joined r.had (items_of p)) (first_part rest comma is inside)
          ∙ no_item_comes r.had (take comma rest) (parts_of (drop (comma + 1) rest)) none
      | inr past ↦
          r.items ∙ ap (λ (p : List (List ℕ)). joined r.had (items_of p)) (only_part rest comma is (omega (arith, within, past)))
          ∙ no_item_comes r.had (take comma rest) [] none
    ])

-- eight parts were read, and there is another
pub too_many : (text rest : List ℕ) (list : SpoolList) → IsRead text rest list → 8 ≤ list.count → listed (parts_of text) ≡ None
too_many text rest list r full = many_listed (parts_of text) (omega (arith, full, counts r.had list r.kept, r.parts, some_parts rest))

-- the rest of what stands at a place and after
pub rest_of : (items : List SpoolItem) (n : ℕ) → drop (n + 1) items ≡ drop 1 (drop n items)
rest_of items n = sym (drop-drop 1 n items)
