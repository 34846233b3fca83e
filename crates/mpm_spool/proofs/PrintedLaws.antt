-- Over any answers the spooler prints a first part of the text that it reads, and all of it before it asks for a deletion.
use Rattle.std.proofs.Common.{◌≡◌, ◌∙◌, ℕ, suc, ◌+◌, ◌<◌, ◌≤◌, ◌%◌, ◌^◌, ◌==◌, ◌&&◌, not, Bool, true, false, if◌then◌else◌, List, [], ◌∷◌, ◌++◌, length, take, drop, Option, Some, None, refl, sym, ap, subst, arith}
use Rattle.std.specs.Prelude.{nat_lt, slice_index, slice_get}
use Rattle.std.specs.List.{position_or_len}
use Rattle.std.proofs.lemmas.Bool.{false≢true}
use Rattle.std.proofs.lemmas.Bool.Decides.{nat_tests}
use Rattle.std.proofs.lemmas.List.{append_assoc, append-nil, drop_more, length-append, map-append, drop_all}
use Rattle.mpm_base.proofs.Choices.{either}
use Rattle.mpm_base.specs.Lists.{in_width}
use Rattle.mpm_base.proofs.Widths.{length_in_width}
use Rattle.mpm_base.specs.Calls.{Answer}
use Rattle.mpm_port.specs.Texts.{Begins}
use Rattle.mpm_spool.proofs.CallingRows.{prints_with_printer, deletes_alone, deletes_closed}
use Rattle.mpm_spool.specs.Spoolers.{Spooler, opening, call_at, next_call, took, took_at, after, record_in, row_at, begun_with, begun_next, with_list, with_block, counted}
use Rattle.mpm_spool.specs.SpoolLists.{list_of}
use Rattle.mpm_spool.specs.declared.list.SpoolItem.{SpoolItem}
use Rattle.mpm_spool.specs.declared.table.Row.{Row}
use Rattle.mpm_spool.specs.declared.table.Row.TheVariants.{ReadList, Open, Attach, AskStop, Read, Print, Detach, Close, Delete}
use Rattle.mpm_spool.specs.Printed.{text_of, to_printer, read_by, read_in, ended_by, ended_in, printed_by, printed_in, has_file, has_ended, PrintsText, GoesOnPrinting}

-- the text of bytes

pub text_end : (b : ℕ) (bytes : List ℕ) → (b == 26) ≡ true → text_of (b ∷ bytes) ≡ []
unfolding text_of
text_end b bytes is = ap (λ (t : Bool). take (if not t then 1 + position_or_len (λ byte. byte == 26) bytes else 0) (b ∷ bytes)) is

pub text_more : (b : ℕ) (bytes : List ℕ) → (b == 26) ≡ false → text_of (b ∷ bytes) ≡ b ∷ text_of bytes
unfolding text_of
text_more b bytes not_it =
    let n = position_or_len (λ byte. byte == 26) bytes in
    let next : 1 + n ≡ suc n = omega arith in
    ap (λ (t : Bool). take (if not t then 1 + n else 0) (b ∷ bytes)) not_it ∙ ap (λ k. take k (b ∷ bytes)) next

some_first : (b : ℕ) (bytes : List ℕ) → [] ≡ b ∷ bytes → ⊥
some_first b bytes e = absurd (cc)

first_goes : (b : ℕ) (bytes : List ℕ) → text_of (b ∷ bytes) ≡ b ∷ bytes → (t : Bool) → (b == 26) ≡ t → t ≡ false
first_goes b bytes e true is = absurd (some_first b bytes (sym (text_end b bytes is) ∙ e))
first_goes b bytes e false is = refl

rest_of_cons : (a b : ℕ) (xs ys : List ℕ) → (a ∷ xs) ≡ (b ∷ ys) → xs ≡ ys
rest_of_cons a b xs ys e = cc

pub text_behind : (done more : List ℕ) → text_of done ≡ done → text_of (done ++ more) ≡ done ++ text_of more
text_behind [] more e = refl
text_behind (b ∷ bytes) more e =
    let goes : (b == 26) ≡ false = first_goes b bytes e (b == 26) refl in
    let rest : text_of bytes ≡ bytes = rest_of_cons b b (text_of bytes) bytes (sym (text_more b bytes goes) ∙ e) in
    text_more b (bytes ++ more) goes ∙ ap (λ (xs : List ℕ). b ∷ xs) (text_behind bytes more rest)

-- what it has read so far of a file that it prints: what it has printed, which has no 1Ah, and the rest
pub record HasPrinted (done left : List ℕ) (read printed : List ℕ) : Type 0 where
  pub read_is : read ≡ done ++ left
  pub printed_is : printed ≡ to_printer done
  pub text : text_of done ≡ done

begins_with : (done left read printed : List ℕ) → HasPrinted done left read printed → Begins printed (to_printer (text_of read))
unfolding to_printer
begins_with done left read printed h = record {
  rest = to_printer (text_of left);
  whole_is = ap (λ (xs : List ℕ). to_printer (text_of xs)) h.read_is ∙ ap to_printer (text_behind done left h.text)
      ∙ map-append (λ byte. byte % 256) done (text_of left) ∙ ap (λ (xs : List ℕ). xs ++ to_printer (text_of left)) (sym h.printed_is);
}

all_with : (done left read printed : List ℕ) → HasPrinted done left read printed → text_of left ≡ [] → printed ≡ to_printer (text_of read)
all_with done left read printed h none =
    h.printed_is
    ∙ sym (ap (λ (xs : List ℕ). to_printer (text_of xs)) h.read_is ∙ ap to_printer (text_behind done left h.text ∙ ap (λ (xs : List ℕ). done ++ xs) none ∙ append-nil done))

-- as it prints a record: what is left of the record stands behind what was printed, and its next byte isn't 1Ah
record IsWithin (s : Spooler) (read printed : List ℕ) : Type 0 where
  done : List ℕ
  has : HasPrinted done (drop s.place s.bytes) read printed
  long : length s.bytes ≡ 128
  within : s.place < 128
  goes : (slice_index s.bytes s.place == 26) ≡ false

-- a 1Ah stands in it, so that more of the file isn't of its text
abbrev pub EndsText : List ℕ → Type 0
EndsText read = (more : List ℕ) → text_of (read ++ more) ≡ text_of read

ends_at : (done left read : List ℕ) → read ≡ done ++ left → text_of done ≡ done → ((more : List ℕ) → text_of (left ++ more) ≡ []) → EndsText read
ends_at done left read is text none more =
    ap (λ (xs : List ℕ). text_of (xs ++ more)) is ∙ ap text_of (append_assoc done left more) ∙ text_behind done (left ++ more) text
    ∙ ap (λ (xs : List ℕ). done ++ xs) (none more ∙ sym (ap text_of (sym (append-nil left)) ∙ none [])) ∙ sym (text_behind done left text) ∙ ap text_of (sym is)

-- as it has come to the end
record IsOver (s : Spooler) (read printed : List ℕ) (ended : Bool) : Type 0 where
  begins : Begins printed (to_printer (text_of read))
  whole : s.is_unprinted ≡ false → printed ≡ to_printer (text_of read)
  ends : s.is_unprinted ≡ false → ended ≡ false → EndsText read

-- what is so in each row
abbrev Goes : Row → Spooler → List ℕ → List ℕ → Bool → Type 0
Goes ReadList s read printed ended = Unit {0}
Goes Open s read printed ended = s.printed ≡ 0
Goes Attach s read printed ended = (read ≡ []) × (printed ≡ []) × (s.printed ≡ 0)
Goes AskStop s read printed ended = HasPrinted read [] read printed
Goes Read s read printed ended = HasPrinted read [] read printed
Goes Print s read printed ended = IsWithin s read printed
Goes Detach s read printed ended = IsOver s read printed ended
Goes Close s read printed ended = IsOver s read printed ended
Goes Delete s read printed ended = IsOver s read printed ended × (s.is_unprinted ≡ false)

abbrev Counts : Spooler → List ℕ → Type 0
Counts s printed = length printed < 2 ^ 64 → s.printed ≡ length printed

record IsPrinting (s : Spooler) (read printed : List ℕ) (ended : Bool) : Type 0 where
  goes : Goes s.row s read printed ended
  count : has_file s.row ≡ true → Counts s printed

-- a new file, or a new list
begun_by : (next : Option SpoolItem) (s : Spooler) (read printed : List ℕ) (ended : Bool) → IsPrinting (begun_with next s) read printed ended
begun_by None s read printed ended = record { goes = tt; count = λ e. absurd (false≢true e) }
begun_by (Some item) s read printed ended = record { goes = refl; count = λ e. absurd (false≢true e) }

begun_any : (s : Spooler) (read printed : List ℕ) (ended : Bool) → IsPrinting (begun_next s) read printed ended
unfolding begun_next
begun_any s read printed ended = begun_by (slice_get s.left 0) (record s { left = drop 1 s.left }) read printed ended

listed_any : (list : Option (List SpoolItem)) (s : Spooler) (read printed : List ℕ) (ended : Bool) → s.row ≡ ReadList → IsPrinting (with_list list s) read printed ended
listed_any None s read printed ended is = record { goes = subst (λ (row : Row). Goes row s read printed ended) (sym is) tt; count = λ e. absurd (false≢true (sym (ap has_file is) ∙ e)) }
listed_any (Some items) s read printed ended is = begun_any (record s { left = items }) read printed ended

-- nothing is printed yet
nothing_yet : (read printed : List ℕ) → read ≡ [] → printed ≡ [] → HasPrinted read [] read printed
unfolding to_printer text_of
nothing_yet read printed none nothing = record {
  read_is = sym (append-nil read);
  printed_is = nothing ∙ ap to_printer (sym none);
  text = subst (λ (xs : List ℕ). text_of xs ≡ xs) (sym none) refl;
}

-- all that was read is
over_all : (s : Spooler) (read printed : List ℕ) (ended : Bool) → HasPrinted read [] read printed → (s.is_unprinted ≡ false → ended ≡ false → ⊥) → IsOver s read printed ended
unfolding text_of
over_all s read printed ended h never = record {
  begins = begins_with read [] read printed h;
  whole = λ _. all_with read [] read printed h refl;
  ends = λ printed_all more. absurd (never printed_all more);
}

-- it comes to a place of a record
lands_by : (below ends : Bool) (s : Spooler) (done bytes : List ℕ) (place : ℕ) (read printed : List ℕ) (ended : Bool) → nat_lt place 128 ≡ below → (slice_index bytes place == 26) ≡ ends
    → length bytes ≡ 128 → HasPrinted done (drop place bytes) read printed → Counts s printed
    → IsPrinting (record s { row = if below then (if ends then Detach else Print) else AskStop; bytes = bytes; place = place }) read printed ended
lands_by true true s done bytes place read printed ended below ends long h count =
    let within : place < 128 = grind (arith, nat_tests, below) in
    let next = drop_more bytes place 0 (omega (arith, within, long)) in
    record {
      goes = record {
        begins = begins_with done (drop place bytes) read printed h;
        whole = λ _. all_with done (drop place bytes) read printed h (ap text_of next ∙ text_end (slice_index bytes place) (drop (place + 1) bytes) ends);
        ends = λ _ _. ends_at done (drop place bytes) read h.read_is h.text
            (λ more. ap (λ (xs : List ℕ). text_of (xs ++ more)) next ∙ text_end (slice_index bytes place) (drop (place + 1) bytes ++ more) ends);
      };
      count = λ _. count;
    }
lands_by true false s done bytes place read printed ended below ends long h count =
    record { goes = record { done = done; has = h; long = long; within = grind (arith, nat_tests, below); goes = ends }; count = λ _. count }
lands_by false ends s done bytes place read printed ended below is long h count =
    let past : 128 ≤ place = grind (arith, nat_tests, below) in
    let none : drop place bytes ≡ [] = drop_all place bytes (omega (arith, past, long)) in
    let all : read ≡ done = h.read_is ∙ ap (λ (xs : List ℕ). done ++ xs) none ∙ append-nil done in
    record {
      goes = record { read_is = sym (append-nil read); printed_is = h.printed_is ∙ ap to_printer (sym all); text = subst (λ (xs : List ℕ). text_of xs ≡ xs) (sym all) h.text };
      count = λ _. count;
    }

lands : (s : Spooler) (done bytes : List ℕ) (place : ℕ) (read printed : List ℕ) (ended : Bool) → length bytes ≡ 128 → HasPrinted done (drop place bytes) read printed → Counts s printed
    → IsPrinting (record s { row = row_at bytes place; bytes = bytes; place = place }) read printed ended
lands s done bytes place read printed ended long h count =
    lands_by (nat_lt place 128) (slice_index bytes place == 26) s done bytes place read printed ended refl refl long h count

-- a record came, or an answer that isn't one

read_with : (came ended : Bool) (s : Spooler) (reply : Answer) (read printed : List ℕ) → HasPrinted read [] read printed → Counts s printed
    → IsPrinting (if came then record s { row = row_at (record_in reply) 0; bytes = record_in reply; place = 0 }
    else (if ended then record s { row = Detach } else record s { row = Detach; is_unprinted = true })) (if came then read ++ record_in reply else read) printed ended
read_with true ended s reply read printed h count =
    lands s read (record_in reply) 0 (read ++ record_in reply) printed ended (length_in_width 128 reply.bytes) (record { read_is = refl; printed_is = h.printed_is; text = h.text }) count
read_with false true s reply read printed h count = record { goes = over_all (record s { row = Detach }) read printed true h (λ _ not_it. false≢true (sym not_it)); count = λ _. count }
read_with false false s reply read printed h count = record { goes = over_all (record s { row = Detach; is_unprinted = true }) read printed false h (λ left_it _. false≢true (sym left_it)); count = λ _. count }

-- a byte was printed

one_more : (s : Spooler) (read printed : List ℕ) (w : IsWithin s read printed)
    → HasPrinted (w.done ++ slice_index s.bytes s.place ∷ []) (drop (s.place + 1) s.bytes) read (printed ++ slice_index s.bytes s.place % 256 ∷ [])
unfolding to_printer text_of
one_more s read printed w =
    let byte = slice_index s.bytes s.place in
    let next : drop s.place s.bytes ≡ byte ∷ drop (s.place + 1) s.bytes = drop_more s.bytes s.place 0 (omega (arith, w.within, w.long)) in
    record {
      read_is = w.has.read_is ∙ ap (λ (xs : List ℕ). w.done ++ xs) next ∙ sym (append_assoc w.done (byte ∷ []) (drop (s.place + 1) s.bytes));
      printed_is = ap (λ (xs : List ℕ). xs ++ byte % 256 ∷ []) w.has.printed_is ∙ sym (map-append (λ b. b % 256) w.done (byte ∷ []));
      text = text_behind w.done (byte ∷ []) w.has.text ∙ ap (λ (xs : List ℕ). w.done ++ xs) (text_more byte [] w.goes);
    }

counts_more : (s : Spooler) (printed : List ℕ) (byte : ℕ) → Counts s printed → length (printed ++ byte ∷ []) < 2 ^ 64 → counted s.printed ≡ length (printed ++ byte ∷ [])
counts_more s printed byte count few =
    let long = length-append printed (byte ∷ []) in
    let same : s.printed ≡ length printed = count (omega (arith, few, long)) in
    omega (arith, few, long, same)

-- each row

abbrev printed_at : Row → ℕ → List ℕ → List ℕ
printed_at Open byte bytes = []
printed_at Print byte bytes = bytes ++ byte % 256 ∷ []
printed_at _ byte bytes = bytes

went : (row : Row) (s : Spooler) (reply : Answer) (read printed : List ℕ) (ended : Bool) → s.row ≡ row → Goes row s read printed ended → (has_file row ≡ true → Counts s printed)
    → IsPrinting (took_at row s reply) (read_by row reply read) (printed_at row (slice_index s.bytes s.place) printed) (ended_by row reply ended)
went ReadList s reply read printed ended is g c = listed_any (list_of (in_width 128 reply.bytes)) s read printed ended is
went Open s reply read printed ended is g c =
    either (λ (t : Spooler). IsPrinting t [] [] false) (reply.hl == 0) _ _ (λ _. record { goes = (refl, refl, g); count = λ _ _. g }) (λ _. begun_any s [] [] false)
went Attach s reply read printed ended is g c =
    let h = nothing_yet read printed g.0 g.1 in
    either (λ (t : Spooler). IsPrinting t read printed ended) (reply.hl == 0) _ _ (λ _. record { goes = h; count = λ _. c refl })
    (λ _. record { goes = over_all (record s { row = Close; is_unprinted = true }) read printed ended h (λ left_it _. false≢true (sym left_it)); count = λ _. c refl })
went AskStop s reply read printed ended is g c =
    either (λ (t : Spooler). IsPrinting t read printed ended) (reply.hl == 0) _ _
    (λ _. record { goes = over_all (record s { row = Detach; left = []; is_unprinted = true }) read printed ended g (λ left_it _. false≢true (sym left_it)); count = λ _. c refl })
    (λ _. record { goes = g; count = λ _. c refl })
went Read s reply read printed ended is g c = read_with (reply.hl == 0) (reply.hl == 1) (with_block reply s) reply read printed g (c refl)
went Print s reply read printed ended is g c =
    lands (record s { printed = counted s.printed }) (g.done ++ slice_index s.bytes s.place ∷ []) s.bytes (s.place + 1) read
    (printed ++ slice_index s.bytes s.place % 256 ∷ []) ended g.long (one_more s read printed g) (counts_more s printed (slice_index s.bytes s.place % 256) (c refl))
went Detach s reply read printed ended is g c = record { goes = record { begins = g.begins; whole = g.whole; ends = g.ends }; count = λ _. c refl }
went Close s reply read printed ended is g c =
    either (λ (t : Spooler). IsPrinting t read printed ended) (s.item.delete && not s.is_unprinted) _ _
    (λ both. record { goes = (record { begins = g.begins; whole = g.whole; ends = g.ends }, kept_printed s.item.delete s.is_unprinted both); count = λ e. absurd (false≢true e) })
    (λ _. begun_any s read printed ended)
  where
    kept_printed : (a b : Bool) → (a && not b) ≡ true → b ≡ false
    kept_printed true true both = absurd (false≢true both)
    kept_printed true false both = refl
    kept_printed false b both = absurd (false≢true both)
went Delete s reply read printed ended is g c = begun_any s read printed ended

-- after any answers

word_at_print : (row : Row) (s : Spooler) (printed : List ℕ) → printed_at row (slice_index s.bytes s.place) printed ≡ printed_by row (call_at row s) printed
word_at_print ReadList s printed = refl
word_at_print Open s printed = refl
word_at_print Attach s printed = refl
word_at_print AskStop s printed = refl
word_at_print Read s printed = refl
word_at_print Print s printed = refl
word_at_print Detach s printed = refl
word_at_print Close s printed = refl
word_at_print Delete s printed = refl

always : (answers : List Answer) → IsPrinting (after answers) (read_in answers) (printed_in answers) (ended_in answers)
unfolding after read_in printed_in ended_in opening took next_call
always [] = record { goes = tt; count = λ e. absurd (false≢true e) }
always (reply ∷ earlier) =
    let s = after earlier in
    let so = always earlier in
    subst (λ (printed : List ℕ). IsPrinting (took_at s.row s reply) (read_by s.row reply (read_in earlier)) printed (ended_by s.row reply (ended_in earlier)))
    (word_at_print s.row s (printed_in earlier)) (went s.row s reply (read_in earlier) (printed_in earlier) (ended_in earlier) refl so.goes so.count)

begins_at : (row : Row) (s : Spooler) (read printed : List ℕ) (ended : Bool) → Goes row s read printed ended → has_file row ≡ true → Begins printed (to_printer (text_of read))
begins_at ReadList s read printed ended g e = absurd (false≢true e)
begins_at Open s read printed ended g e = absurd (false≢true e)
begins_at Attach s read printed ended g e = begins_with read [] read printed (nothing_yet read printed g.0 g.1)
begins_at AskStop s read printed ended g e = begins_with read [] read printed g
begins_at Read s read printed ended g e = begins_with read [] read printed g
begins_at Print s read printed ended g e = begins_with g.done (drop s.place s.bytes) read printed g.has
begins_at Detach s read printed ended g e = g.begins
begins_at Close s read printed ended g e = g.begins
begins_at Delete s read printed ended g e = absurd (false≢true e)

whole_at : (row : Row) (s : Spooler) (read printed : List ℕ) (ended : Bool) → Goes row s read printed ended → has_ended row ≡ true → s.is_unprinted ≡ false → printed ≡ to_printer (text_of read)
whole_at ReadList s read printed ended g e = absurd (false≢true e)
whole_at Open s read printed ended g e = absurd (false≢true e)
whole_at Attach s read printed ended g e = absurd (false≢true e)
whole_at AskStop s read printed ended g e = absurd (false≢true e)
whole_at Read s read printed ended g e = absurd (false≢true e)
whole_at Print s read printed ended g e = absurd (false≢true e)
whole_at Detach s read printed ended g e = g.whole
whole_at Close s read printed ended g e = g.whole
whole_at Delete s read printed ended g e = g.0.whole

pub prints_text : (answers : List Answer) → PrintsText (after answers) (read_in answers) (printed_in answers)
prints_text answers =
    let s = after answers in
    let so = always answers in
    record {
      begins = begins_at s.row s (read_in answers) (printed_in answers) (ended_in answers) so.goes;
      count = so.count;
      whole = whole_at s.row s (read_in answers) (printed_in answers) (ended_in answers) so.goes;
      deletes = λ asks. deleted (deletes_alone s asks);
      prints = prints_with_printer s;
    } where
      deleted : (after answers).row ≡ Delete → ((after answers).is_unprinted ≡ false) × (printed_in answers ≡ to_printer (text_of (read_in answers)))
      deleted is =
          let at : Goes Delete (after answers) (read_in answers) (printed_in answers) (ended_in answers) =
          subst (λ (row : Row). Goes row (after answers) (read_in answers) (printed_in answers) (ended_in answers)) is (always answers).goes in
          (at.1, at.0.whole at.1)

pub goes_on_printing : (old new : Spooler) (reply : Answer) → new ≡ took old reply → GoesOnPrinting old new reply
unfolding after
goes_on_printing old new reply is = record {
  prints = λ earlier so.
      subst (λ (s : Spooler). PrintsText s (read_in (reply ∷ earlier)) (printed_in (reply ∷ earlier))) (sym (is ∙ ap (λ (s : Spooler). took s reply) so)) (prints_text (reply ∷ earlier));
  deletes = deletes_closed old new reply is;
}

-- as it attaches the printer nothing is printed
pub nothing_at_attach : (answers : List Answer) → (after answers).row ≡ Attach → printed_in answers ≡ []
nothing_at_attach answers is =
    let at : Goes Attach (after answers) (read_in answers) (printed_in answers) (ended_in answers) = subst (λ (row : Row). Goes row (after answers) (read_in answers) (printed_in answers) (ended_in answers)) is (always answers).goes in
    at.1

-- where it has come to the end and answer 1 didn't come, a 1Ah stands in what it has read

ends_in_row : (row : Row) (s : Spooler) (read printed : List ℕ) (ended : Bool) → Goes row s read printed ended → has_ended row ≡ true → s.is_unprinted ≡ false → ended ≡ false → EndsText read
ends_in_row ReadList s read printed ended g e = absurd (false≢true e)
ends_in_row Open s read printed ended g e = absurd (false≢true e)
ends_in_row Attach s read printed ended g e = absurd (false≢true e)
ends_in_row AskStop s read printed ended g e = absurd (false≢true e)
ends_in_row Read s read printed ended g e = absurd (false≢true e)
ends_in_row Print s read printed ended g e = absurd (false≢true e)
ends_in_row Detach s read printed ended g e = g.ends
ends_in_row Close s read printed ended g e = g.ends
ends_in_row Delete s read printed ended g e = g.0.ends

pub ends_text : (answers : List Answer) → has_ended (after answers).row ≡ true → (after answers).is_unprinted ≡ false → ended_in answers ≡ false → EndsText (read_in answers)
ends_text answers = ends_in_row (after answers).row (after answers) (read_in answers) (printed_in answers) (ended_in answers) (always answers).goes
