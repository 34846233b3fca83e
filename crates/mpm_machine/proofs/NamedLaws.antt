-- The name of each item of a list has eleven bytes.
use Rattle.std.proofs.Common.{◌≡◌, ◌∙◌, ℕ, ◌==◌, ◌&&◌, not, Bool, List, [], ◌∷◌, length, Option, Some, None, IfSome, refl, sym, ap, subst, arith}
use Rattle.std.specs.Prelude.{nat_le, slice_get, drop, ⊤}
use Rattle.std.proofs.lemmas.List.{length-append, length-map}
use Rattle.std.proofs.lemmas.List.FromFn.{length-range_with_len}
use Rattle.std.specs.List.{range_with_len}
use Rattle.mpm_base.proofs.Choices.{either}
use Rattle.mpm_base.specs.Calls.{Answer}
use Rattle.mpm_base.specs.Lists.{in_width, zeros}
use Rattle.mpm_names.specs.Spellings.{spelling, is_form, kept_at, filled, full_name, star_of, parsed}
use Rattle.mpm_names.specs.declared.file_name.Parsed.{Parsed}
use Rattle.mpm_spool.specs.SpoolLists.{is_item, item_or_none, item_of, before, items_of, listed, parts_of, list_of, asks_deletion, name_part}
use Rattle.mpm_spool.specs.Spoolers.{Spooler, opening, took, took_at, after, begun_with, begun_next, with_list}
use Rattle.mpm_spool.specs.declared.list.SpoolItem.{SpoolItem}
use Rattle.mpm_spool.specs.declared.table.Row.{Row}
use Rattle.mpm_spool.specs.declared.table.Row.TheVariants.{ReadList, Open, Attach, AskStop, Read, Print, Detach, Close, Delete}

abbrev IsNamed : SpoolItem → Type 0
IsNamed item = length item.name ≡ 11

abbrev AreNamed : List SpoolItem → Type 0
AreNamed [] = ⊤
AreNamed (item ∷ items) = IsNamed item × AreNamed items

-- as they are parsed

filled_size : (width star : ℕ) (field : List ℕ) → length (filled width star field) ≡ width
unfolding filled
filled_size width star field = length-map (range_with_len 0 width) (kept_at field star) ∙ length-range_with_len 0 width

full_size : (name kind : List ℕ) → length (full_name name kind) ≡ 11
full_size name kind =
    omega (arith, length-append (filled 8 (star_of name) name) (filled 3 (star_of kind) kind), filled_size 8 (star_of name) name, filled_size 3 (star_of kind) kind)

item_by : (delete : Bool) (name : Option Parsed) → IfSome name (λ n. length n.name ≡ 11) → IfSome (item_or_none delete name) IsNamed
item_by delete None is = tt
item_by delete (Some name) is = either (λ (o : Option SpoolItem). IfSome o IsNamed) (is_item name) _ _ (λ _. is) (λ _. tt)

parsed_size : (text : List ℕ) → IfSome (parsed text) (λ n. length n.name ≡ 11)
unfolding parsed
parsed_size text =
    let s = spelling text in
    either (λ (o : Option Parsed). IfSome o (λ n. length n.name ≡ 11)) (is_form s) _ _ (λ _. full_size s.name s.kind) (λ _. tt)

item_size : (text : List ℕ) → IfSome (item_of text) IsNamed
unfolding item_of
item_size text = item_by (asks_deletion text) (parsed (name_part text)) (parsed_size (name_part text))

before_size : (item : Option SpoolItem) (items : Option (List SpoolItem)) → IfSome item IsNamed → IfSome items AreNamed → IfSome (before item items) AreNamed
before_size None items one all = tt
before_size (Some item) None one all = tt
before_size (Some item) (Some items) one all = (one, all)

items_size : (texts : List (List ℕ)) → IfSome (items_of texts) AreNamed
unfolding items_of
items_size [] = tt
items_size (text ∷ texts) = before_size (item_of text) (items_of texts) (item_size text) (items_size texts)

list_size : (message : List ℕ) → IfSome (list_of message) AreNamed
unfolding list_of
list_size message = by_parts (parts_of _) where
  by_parts : (parts : List (List ℕ)) → IfSome (listed parts) AreNamed
  by_parts parts = either (λ (o : Option (List SpoolItem)). IfSome o AreNamed) (nat_le (length parts) 8) _ _ (λ _. items_size parts) (λ _. tt)

-- so is the one that the spooler prints

record HasNamed (s : Spooler) : Type 0 where
  item : IsNamed s.item
  left : AreNamed s.left

drop_named : (items : List SpoolItem) → AreNamed items → AreNamed (drop 1 items)
drop_named [] all = tt
drop_named (item ∷ items) all = all.1

first_named : (items : List SpoolItem) → AreNamed items → IfSome (slice_get items 0) IsNamed
first_named [] all = tt
first_named (item ∷ items) all = all.0

begun_named_by : (next : Option SpoolItem) (s : Spooler) → IfSome next IsNamed → HasNamed s → HasNamed (begun_with next s)
begun_named_by None s one h = record { item = h.item; left = h.left }
begun_named_by (Some item) s one h = record { item = one; left = h.left }

begun_named : (s : Spooler) → HasNamed s → HasNamed (begun_next s)
unfolding begun_next
begun_named s h =
    begun_named_by (slice_get s.left 0) (record s { left = drop 1 s.left }) (first_named s.left h.left) (record { item = h.item; left = drop_named s.left h.left })

listed_named : (list : Option (List SpoolItem)) (s : Spooler) → IfSome list AreNamed → HasNamed s → HasNamed (with_list list s)
listed_named None s all h = h
listed_named (Some items) s all h = begun_named (record s { left = items }) (record { item = h.item; left = all })

again : (s t : Spooler) → t.item ≡ s.item → t.left ≡ s.left → HasNamed s → HasNamed t
again s t item left h = record { item = ap (λ (i : SpoolItem). length i.name) item ∙ h.item; left = subst AreNamed (sym left) h.left }

named_at : (row : Row) (s : Spooler) (reply : Answer) → HasNamed s → HasNamed (took_at row s reply)
named_at ReadList s reply h = listed_named (list_of (in_width 128 reply.bytes)) s (list_size (in_width 128 reply.bytes)) h
named_at Open s reply h = either HasNamed (reply.hl == 0) _ _ (λ _. again s _ refl refl h) (λ _. begun_named s h)
named_at Attach s reply h = either HasNamed (reply.hl == 0) _ _ (λ _. again s _ refl refl h) (λ _. again s _ refl refl h)
named_at AskStop s reply h = either HasNamed (reply.hl == 0) _ _ (λ _. record { item = h.item; left = tt }) (λ _. again s _ refl refl h)
named_at Read s reply h =
    either HasNamed (reply.hl == 0) _ _ (λ _. again s _ refl refl h) (λ _. either HasNamed (reply.hl == 1) _ _ (λ _. again s _ refl refl h) (λ _. again s _ refl refl h))
named_at Print s reply h = again s _ refl refl h
named_at Detach s reply h = again s _ refl refl h
named_at Close s reply h = either HasNamed (s.item.delete && not s.is_unprinted) _ _ (λ _. again s _ refl refl h) (λ _. begun_named s h)
named_at Delete s reply h = begun_named s h

all_named : (answers : List Answer) → HasNamed (after answers)
unfolding after took opening zeros
all_named [] = record { item = refl; left = tt }
all_named (reply ∷ earlier) = named_at (after earlier).row (after earlier) reply (all_named earlier)

pub named_in_full : (answers : List Answer) → length (after answers).item.name ≡ 11
named_in_full answers = (all_named answers).item
