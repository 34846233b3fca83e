-- From opening a file to asking for its deletion the spooler's item is the one whose file it opened.
use Rattle.std.proofs.Common.{◌≡◌, ◌∙◌, ◌==◌, ◌&&◌, not, Bool, true, false, List, [], ◌∷◌, Option, Some, None, refl, sym, ap}
use Rattle.std.specs.Prelude.{slice_get, drop}
use Rattle.std.proofs.lemmas.Bool.{false≢true}
use Rattle.mpm_base.proofs.Choices.{either}
use Rattle.mpm_base.specs.Calls.{Answer}
use Rattle.mpm_base.specs.Lists.{in_width}
use Rattle.mpm_spool.specs.SpoolLists.{list_of}
use Rattle.mpm_spool.specs.Spoolers.{Spooler, opening, took, took_at, after, begun_with, begun_next, with_list}
use Rattle.mpm_spool.specs.declared.list.SpoolItem.{SpoolItem}
use Rattle.mpm_spool.specs.declared.table.Row.{Row}
use Rattle.mpm_spool.specs.declared.table.Row.TheVariants.{ReadList, Open, Attach, AskStop, Read, Print, Detach, Close, Delete}
use Rattle.mpm_spool.specs.Printed.{item_by, item_in}

abbrev pub has_item : Row → Bool
has_item ReadList = false
has_item Open = false
has_item _ = true

abbrev HasItem : Spooler → SpoolItem → Type 0
HasItem s item = has_item s.row ≡ true → s.item ≡ item

begun_by : (next : Option SpoolItem) (s : Spooler) (item : SpoolItem) → HasItem (begun_with next s) item
begun_by None s item has = absurd (false≢true has)
begun_by (Some next) s item has = absurd (false≢true has)

begun_item : (s : Spooler) (item : SpoolItem) → HasItem (begun_next s) item
unfolding begun_next
begun_item s item = begun_by (slice_get s.left 0) (record s { left = drop 1 s.left }) item

listed_item : (list : Option (List SpoolItem)) (s : Spooler) (item : SpoolItem) → s.row ≡ ReadList → HasItem (with_list list s) item
listed_item None s item is has = absurd (false≢true (sym (ap has_item is) ∙ has))
listed_item (Some items) s item is has = begun_item (record s { left = items }) item has

item_at : (row : Row) (s : Spooler) (reply : Answer) (item : SpoolItem) → s.row ≡ row → (has_item row ≡ true → s.item ≡ item) → HasItem (took_at row s reply) (item_by row s.item item)
item_at ReadList s reply item is h = listed_item (list_of (in_width 128 reply.bytes)) s item is
item_at Open s reply item is h = either (λ (t : Spooler). HasItem t s.item) (reply.hl == 0) _ _ (λ _ _. refl) (λ _. begun_item s s.item)
item_at Attach s reply item is h = either (λ (t : Spooler). HasItem t item) (reply.hl == 0) _ _ (λ _ _. h refl) (λ _ _. h refl)
item_at AskStop s reply item is h = either (λ (t : Spooler). HasItem t item) (reply.hl == 0) _ _ (λ _ _. h refl) (λ _ _. h refl)
item_at Read s reply item is h =
    either (λ (t : Spooler). HasItem t item) (reply.hl == 0) _ _ (λ _ _. h refl) (λ _. either (λ (t : Spooler). HasItem t item) (reply.hl == 1) _ _ (λ _ _. h refl) (λ _ _. h refl))
item_at Print s reply item is h = λ _. h refl
item_at Detach s reply item is h = λ _. h refl
item_at Close s reply item is h = either (λ (t : Spooler). HasItem t item) (s.item.delete && not s.is_unprinted) _ _ (λ _ _. h refl) (λ _. begun_item s item)
item_at Delete s reply item is h = begun_item s item

pub its_item : (answers : List Answer) → has_item (after answers).row ≡ true → (after answers).item ≡ item_in answers
unfolding after took opening item_in
its_item [] = λ has. absurd (false≢true has)
its_item (reply ∷ earlier) = item_at (after earlier).row (after earlier) reply (item_in earlier) refl (its_item earlier)
