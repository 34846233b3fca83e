-- In which rows of its table the spooler calls functions 5 and 19, and by which answer it comes to ask for a deletion.
use Rattle.std.proofs.Common.{◌≡◌, ◌∙◌, ℕ, ◌+◌, ◌==◌, ◌&&◌, not, Bool, true, false, if◌then◌else◌, List, drop, Option, Some, None, refl, sym, ap, subst, arith}
use Rattle.std.specs.Prelude.{nat_lt, slice_get}
use Rattle.std.proofs.lemmas.Bool.{false≢true}
use Rattle.mpm_base.proofs.Choices.{either}
use Rattle.mpm_base.specs.Calls.{Answer}
use Rattle.mpm_base.specs.Lists.{in_width}
use Rattle.mpm_base.specs.declared.functions.TheConstants.{LIST_OUTPUT, CLOSE_FILE, DELETE_FILE}
use Rattle.mpm_spool.specs.Printed.{has_printer}
use Rattle.mpm_spool.specs.SpoolLists.{list_of}
use Rattle.mpm_spool.specs.Spoolers.{Spooler, call_at, next_call, begun_next, begun_with, with_list, with_block, record_in, row_at, with_record, took, took_at}
use Rattle.mpm_spool.specs.declared.list.SpoolItem.{SpoolItem}
use Rattle.mpm_spool.specs.declared.table.Row.{Row}
use Rattle.mpm_spool.specs.declared.table.Row.TheVariants.{ReadList, Open, Attach, AskStop, Read, Print, Detach, Close, Delete}

-- it calls function 5 only in rows in which the printer is its own

prints_at : (row : Row) (s : Spooler) → (call_at row s).function ≡ LIST_OUTPUT → has_printer row ≡ true
prints_at ReadList s is = absurd (omega (arith, is))
prints_at Open s is = absurd (omega (arith, is))
prints_at Attach s is = absurd (omega (arith, is))
prints_at AskStop s is = refl
prints_at Read s is = refl
prints_at Print s is = refl
prints_at Detach s is = refl
prints_at Close s is = absurd (omega (arith, is))
prints_at Delete s is = absurd (omega (arith, is))

pub prints_with_printer : (s : Spooler) → (next_call s).function ≡ LIST_OUTPUT → has_printer s.row ≡ true
unfolding next_call
prints_with_printer s is = prints_at s.row s is

-- it calls function 19 in its last row alone

deletes_at : (row : Row) (s : Spooler) → (call_at row s).function ≡ DELETE_FILE → row ≡ Delete
deletes_at ReadList s is = absurd (omega (arith, is))
deletes_at Open s is = absurd (omega (arith, is))
deletes_at Attach s is = absurd (omega (arith, is))
deletes_at AskStop s is = absurd (omega (arith, is))
deletes_at Read s is = absurd (omega (arith, is))
deletes_at Print s is = absurd (omega (arith, is))
deletes_at Detach s is = absurd (omega (arith, is))
deletes_at Close s is = absurd (omega (arith, is))
deletes_at Delete s is = refl

pub deletes_alone : (s : Spooler) → (next_call s).function ≡ DELETE_FILE → s.row ≡ Delete
unfolding next_call
deletes_alone s is = deletes_at s.row s is

-- by its table: an answer has it ask for a deletion only in the row in which it closes its file

pub record ClosesWhole (row : Row) (s new : Spooler) : Type 0 where
  pub closes : row ≡ Close
  pub printed : s.is_unprinted ≡ false
  pub same : new ≡ record s { row = Delete }

begun_by_item : (next : Option SpoolItem) (s : Spooler) → (begun_with next s).row ≡ Delete → ⊥
begun_by_item None s is = absurd (cc)
begun_by_item (Some item) s is = absurd (cc)

begun_never : (s : Spooler) → (begun_next s).row ≡ Delete → ⊥
unfolding begun_next
begun_never s is = begun_by_item (slice_get s.left 0) (record s { left = drop 1 s.left }) is

listed_never : (list : Option (List SpoolItem)) (s : Spooler) → s.row ≡ ReadList → (with_list list s).row ≡ Delete → ⊥
listed_never None s at is = absurd (cc)
listed_never (Some items) s at is = begun_never (record s { left = items }) is

row_never : (bytes : List ℕ) (place : ℕ) → row_at bytes place ≡ Delete → ⊥
row_never bytes place =
    either (λ (row : Row). row ≡ Delete → ⊥) (nat_lt place 128) _ AskStop
    (λ _. either (λ (row : Row). row ≡ Delete → ⊥) _ Detach Print (λ _ e. absurd (cc)) (λ _ e. absurd (cc))) (λ _ e. absurd (cc))

record_never : (reply : Answer) (s : Spooler) → (with_record reply s).row ≡ Delete → ⊥
record_never reply s = by_tests (reply.hl == 0) (reply.hl == 1)
  where
    by_tests : (came over : Bool)
        → (if came then record s { row = row_at (record_in reply) 0; bytes = record_in reply; place = 0 }
        else (if over then record s { row = Detach } else record s { row = Detach; is_unprinted = true })).row ≡ Delete → ⊥
    by_tests true over is = row_never (record_in reply) 0 is
    by_tests false true is = absurd (cc)
    by_tests false false is = absurd (cc)

kept_printed : (deletes unprinted : Bool) → (deletes && not unprinted) ≡ true → unprinted ≡ false
kept_printed true true both = absurd (false≢true both)
kept_printed true false both = refl
kept_printed false unprinted both = absurd (false≢true both)

pub asks_at : (row : Row) (s : Spooler) (reply : Answer) → s.row ≡ row → (took_at row s reply).row ≡ Delete → ClosesWhole row s (took_at row s reply)
asks_at ReadList s reply at is = absurd (listed_never (list_of (in_width 128 reply.bytes)) s at is)
asks_at Open s reply at is = absurd (either (λ (t : Spooler). t.row ≡ Delete → ⊥) (reply.hl == 0) _ _ (λ _ e. absurd (cc)) (λ _. begun_never s) is)
asks_at Attach s reply at is = absurd (either (λ (t : Spooler). t.row ≡ Delete → ⊥) (reply.hl == 0) _ _ (λ _ e. absurd (cc)) (λ _ e. absurd (cc)) is)
asks_at AskStop s reply at is = absurd (either (λ (t : Spooler). t.row ≡ Delete → ⊥) (reply.hl == 0) _ _ (λ _ e. absurd (cc)) (λ _ e. absurd (cc)) is)
asks_at Read s reply at is = absurd (record_never reply (with_block reply s) is)
asks_at Print s reply at is = absurd (row_never s.bytes (s.place + 1) is)
asks_at Detach s reply at is = absurd (cc)
asks_at Close s reply at is =
    either (λ (t : Spooler). t.row ≡ Delete → ClosesWhole Close s t) (s.item.delete && not s.is_unprinted) _ _
    (λ both _. record { closes = refl; printed = kept_printed s.item.delete s.is_unprinted both; same = refl }) (λ _ e. absurd (begun_never s e)) is
asks_at Delete s reply at is = absurd (begun_never s is)

-- so it comes to ask for one only by the answer to a closing
closing_call : (s : Spooler) → s.row ≡ Close → (next_call s).function ≡ CLOSE_FILE
unfolding next_call
closing_call s is = ap (λ (row : Row). (call_at row s).function) is

pub deletes_closed : (old new : Spooler) (reply : Answer) → new ≡ took old reply → (next_call new).function ≡ DELETE_FILE → (next_call old).function ≡ CLOSE_FILE
unfolding took
deletes_closed old new reply is asks =
    closing_call old (asks_at old.row old reply refl (ap (λ (s : Spooler). s.row) (sym is) ∙ deletes_alone new asks)).closes
