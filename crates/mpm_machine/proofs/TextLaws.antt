-- Where the spooler has read a file's records from the first on, what it has printed is a first part of the file's text, and all of it where it
-- has come to the end.
use Rattle.std.proofs.Common.{◌≡◌, ◌∙◌, ℕ, zero, suc, ◌+◌, ◌*◌, ◌^◌, ◌<◌, ◌≤◌, ◌==◌, ◌-◌, ◌%◌, Bool, true, false, if◌then◌else◌, List, [], ◌∷◌, ◌++◌, length, Option, Some, None, inl, inr, refl, sym, ap, subst, arith}
use Rattle.std.specs.Prelude.{◌⊎◌, is_some, unwrap_or, option_and_then, nat_le}
use Rattle.std.specs.FinMap.{get}
use Rattle.std.proofs.lemmas.Bool.Decides.{nat_tests}
use Rattle.std.proofs.lemmas.Bool.{false≢true, cases_lt}
use Rattle.std.proofs.lemmas.List.{append_assoc, append-nil, map-append, length-append, length-map}
use Rattle.mpm_base.proofs.Widths.{length_in_width}
use Rattle.mpm_base.specs.Calls.{Taken, Answer}
use Rattle.mpm_base.specs.Lists.{in_width}
use Rattle.mpm_bdos.specs.Ending.{IsSoundDrive}
use Rattle.mpm_mount.specs.Drives.{FileName, Drive, PhysicalExtent, entry_name, entry_number, with_extent_there, extent_at, visible_in, visible_of}
use Rattle.mpm_port.specs.Texts.{Begins}
use Rattle.mpm_refusals.specs.Filing.{Filing}
use Rattle.mpm_spool.specs.Spoolers.{file_block, call_at, next_call, after}
use Rattle.mpm_spool.specs.declared.list.SpoolItem.{SpoolItem}
use Rattle.mpm_spool.specs.declared.table.Row.{Row}
use Rattle.mpm_spool.specs.declared.table.Row.TheVariants.{ReadList, Open, Attach, AskStop, Read, Print, Detach, Close, Delete}
use Rattle.mpm_spool.proofs.PrintedLaws.{text_end, text_more, prints_text, EndsText, ends_text}
use Rattle.mpm_spool.proofs.CallingRows.{deletes_alone}
use Rattle.mpm_machine.proofs.NamedLaws.{named_in_full}
use Rattle.mpm_machine.proofs.OpeningLaws.{deleting_names}
use Rattle.mpm_machine.proofs.PrintedItems.{has_item, its_item}
use Rattle.mpm_machine.proofs.ReadingLaws.{same_bytes}
use Rattle.mpm_spool.specs.Printed.{text_of, to_printer, read_in, ended_in, printed_in, item_in, has_file, has_ended}
use Rattle.mpm_machine.specs.Printing.{first_bytes, HasText, NamesFile, key_of_spool_item, seen_in, ReadsFile, has_closing, PrintsFile}

-- first parts

begins_so : (part whole other : List ℕ) → Begins part whole → Begins whole other → Begins part other
begins_so part whole other a b = record {
  rest = a.rest ++ b.rest;
  whole_is = b.whole_is ∙ ap (λ (xs : List ℕ). xs ++ b.rest) a.whole_is ∙ append_assoc part a.rest b.rest;
}

printed_so : (part whole : List ℕ) → Begins part whole → Begins (to_printer part) (to_printer whole)
unfolding to_printer
printed_so part whole b = record { rest = to_printer b.rest; whole_is = ap to_printer b.whole_is ∙ map-append (λ byte. byte % 256) part b.rest }

begins_nothing : (whole : List ℕ) → Begins [] whole
begins_nothing whole = record { rest = whole; whole_is = refl }

text_begins_by : (ends : Bool) (byte : ℕ) (bytes more : List ℕ) → (byte == 26) ≡ ends → Begins (text_of bytes) (text_of (bytes ++ more)) → Begins (text_of (byte ∷ bytes)) (text_of (byte ∷ (bytes ++ more)))
text_begins_by true byte bytes more is b =
    subst (λ (part : List ℕ). Begins part (text_of (byte ∷ (bytes ++ more)))) (sym (text_end byte bytes is)) (begins_nothing (text_of (byte ∷ (bytes ++ more))))
text_begins_by false byte bytes more is b = record {
  rest = b.rest;
  whole_is = text_more byte (bytes ++ more) is ∙ ap (λ (xs : List ℕ). byte ∷ xs) b.whole_is ∙ ap (λ (xs : List ℕ). xs ++ b.rest) (sym (text_more byte bytes is));
}

text_begins : (bytes more : List ℕ) → Begins (text_of bytes) (text_of (bytes ++ more))
unfolding text_of
text_begins [] more = begins_nothing (text_of more)
text_begins (byte ∷ bytes) more = text_begins_by (byte == 26) byte bytes more refl (text_begins bytes more)

-- the bytes of some records begin with those of fewer

more_bytes : (seen : ℕ → Option (List ℕ)) (k d : ℕ) → (more : List ℕ) × (first_bytes seen (k + d) ≡ first_bytes seen k ++ more)
unfolding first_bytes
more_bytes seen k zero = (let same : k + 0 ≡ k = omega arith in ([], ap (first_bytes seen) same ∙ sym (append-nil (first_bytes seen k))))
more_bytes seen k (suc d) =
    let next : k + suc d ≡ suc (k + d) = omega arith in
    let earlier = more_bytes seen k d in
    let last = in_width 128 (unwrap_or (seen (k + d)) []) in
    (earlier.0 ++ last, ap (first_bytes seen) next ∙ ap (λ (xs : List ℕ). xs ++ last) earlier.1 ∙ append_assoc (first_bytes seen k) earlier.0 last)

bytes_up_to : (seen : ℕ → Option (List ℕ)) (k m : ℕ) → k ≤ m → (more : List ℕ) × (first_bytes seen m ≡ first_bytes seen k ++ more)
bytes_up_to seen k m few =
    let d = m - k in
    let is : m ≡ k + d = omega (arith, few) in
    let more = more_bytes seen k d in
    (more.0, ap (first_bytes seen) is ∙ more.1)

-- the text of a file, of which so many records were read

some_none : (o : Option (List ℕ)) → is_some o ≡ true → o ≡ None → ⊥
some_none o some none = false≢true (sym (ap is_some none) ∙ some)

module _ (seen : ℕ → Option (List ℕ)) (k : ℕ) (visible : (n : ℕ) → n < k → is_some (seen n) ≡ true) (text : List ℕ) (has : HasText seen text) where
  all_within : k ≤ has.count
  all_within = elim (cases_lt has.count k) [
    | inl less ↦ absurd (some_none (seen has.count) (visible has.count less) has.last)
    | inr within ↦ within
  ]

  first_text : Begins (text_of (first_bytes seen k)) text
  first_text =
      let more = bytes_up_to seen k has.count all_within in
      subst (Begins (text_of (first_bytes seen k))) (sym (has.text_is ∙ ap text_of more.1)) (text_begins (first_bytes seen k) more.0)

  -- where the next one isn't visible, it is the text of these
  ended_text : seen k ≡ None → text_of (first_bytes seen k) ≡ text
  ended_text none = elim (cases_lt k has.count) [
    | inl less ↦ absurd (some_none (seen k) (has.visible k less) none)
    | inr past ↦ (let same : k ≡ has.count = omega (arith, past, all_within) in ap (λ n. text_of (first_bytes seen n)) same ∙ sym has.text_is)
  ]

  -- and where a 1Ah stands in them
  closed_text : EndsText (first_bytes seen k) → text_of (first_bytes seen k) ≡ text
  closed_text ends = (let more = bytes_up_to seen k has.count all_within in sym (ends more.0) ∙ ap text_of (sym more.1) ∙ sym has.text_is)

-- so it is with what was printed

closing_has_file : (row : Row) → has_closing row ≡ true → has_file row ≡ true
closing_has_file Detach has = refl
closing_has_file Close has = refl
closing_has_file ReadList has = absurd (false≢true has)
closing_has_file Open has = absurd (false≢true has)
closing_has_file Attach has = absurd (false≢true has)
closing_has_file AskStop has = absurd (false≢true has)
closing_has_file Read has = absurd (false≢true has)
closing_has_file Print has = absurd (false≢true has)
closing_has_file Delete has = absurd (false≢true has)

closing_has_ended : (row : Row) → has_closing row ≡ true → has_ended row ≡ true
closing_has_ended Detach has = refl
closing_has_ended Close has = refl
closing_has_ended ReadList has = absurd (false≢true has)
closing_has_ended Open has = absurd (false≢true has)
closing_has_ended Attach has = absurd (false≢true has)
closing_has_ended AskStop has = absurd (false≢true has)
closing_has_ended Read has = absurd (false≢true has)
closing_has_ended Print has = absurd (false≢true has)
closing_has_ended Delete has = absurd (false≢true has)

whole_by : (q : ℕ) (answers : List Answer) (filing : Filing) (ended : Bool) → ended_in answers ≡ ended → has_ended (after answers).row ≡ true → (after answers).is_unprinted ≡ false
    → (reads : ReadsFile q (after answers) (read_in answers) ended filing) (text : List ℕ) → HasText (seen_in filing (key_of_spool_item (after answers).item)) text → text_of (read_in answers) ≡ text
whole_by q answers filing true is end all reads text has = ap text_of reads.read_is ∙ ended_text (seen_in filing (key_of_spool_item (after answers).item)) _ reads.visible text has (reads.none refl)
whole_by q answers filing false is end all reads text has =
    ap text_of reads.read_is ∙ closed_text (seen_in filing (key_of_spool_item (after answers).item)) _ reads.visible text has (subst EndsText reads.read_is (ends_text answers end all is))

file_has_item : (row : Row) → has_file row ≡ true → has_item row ≡ true
file_has_item Attach has = refl
file_has_item AskStop has = refl
file_has_item Read has = refl
file_has_item Print has = refl
file_has_item Detach has = refl
file_has_item Close has = refl
file_has_item ReadList has = absurd (false≢true has)
file_has_item Open has = absurd (false≢true has)
file_has_item Delete has = absurd (false≢true has)

printer_length : (text : List ℕ) → length (to_printer text) ≡ length text
unfolding to_printer
printer_length text = length-map text (λ byte. byte % 256)

-- what was printed of a text isn't longer
pub printed_size : (answers : List Answer) (text : List ℕ) → Begins (printed_in answers) (to_printer text) → length (printed_in answers) ≤ length text
printed_size answers text b =
    let both : length (to_printer text) ≡ length (printed_in answers) + length b.rest = ap length b.whole_is ∙ length-append (printed_in answers) b.rest in
    omega (arith, both, printer_length text)

deleting_call : (answers : List Answer) → (after answers).row ≡ Delete → next_call (after answers) ≡ call_at Delete (after answers)
unfolding next_call
deleting_call answers is = ap (λ (row : Row). call_at row (after answers)) is

pub prints_file : (q : ℕ) (answers : List Answer) (filing : Filing) → (has_file (after answers).row ≡ true → ReadsFile q (after answers) (read_in answers) (ended_in answers) filing) → PrintsFile answers filing
prints_file q answers filing reads =
    let p = prints_text answers in
    record {
      read = p;
      item = λ has. its_item answers (file_has_item (after answers).row has);
      count = λ has text t few.
          p.count has (omega (arith, printed_size answers text (begins_in has text t), few));
      deletes = λ asks.
          let is = deletes_alone (after answers) asks in
          subst (λ (s : Taken). NamesFile s.fcb (key_of_spool_item (item_in answers))) (sym (deleting_call answers is))
          (subst (λ (item : SpoolItem). NamesFile (file_block (after answers).item) (key_of_spool_item item)) (its_item answers (ap has_item is)) (deleting_names (after answers).item (named_in_full answers)));
      begins = begins_in;
      whole = λ closing all text t.
          let row = (after answers).row in
          p.whole (closing_has_ended row closing) all
          ∙ ap to_printer (whole_by q answers filing (ended_in answers) refl (closing_has_ended row closing) all (reads (closing_has_file row closing)) text t);
    } where
      begins_in : has_file (after answers).row ≡ true → (text : List ℕ) → HasText (seen_in filing (key_of_spool_item (after answers).item)) text → Begins (printed_in answers) (to_printer text)
      begins_in has text t =
          let r = reads has in
          begins_so (printed_in answers) (to_printer (text_of (read_in answers))) (to_printer text) ((prints_text answers).begins has)
          (printed_so (text_of (read_in answers)) text
          (subst (λ (read : List ℕ). Begins (text_of read) text) (sym r.read_is) (first_text (seen_in filing (key_of_spool_item (after answers).item)) _ r.visible text t)))

-- so long as its records are, a text is

text_size_by : (ends : Bool) (byte : ℕ) (bytes : List ℕ) → (byte == 26) ≡ ends → length (text_of bytes) ≤ length bytes → length (text_of (byte ∷ bytes)) ≤ suc (length bytes)
text_size_by true byte bytes is few = subst (λ (xs : List ℕ). length xs ≤ suc (length bytes)) (sym (text_end byte bytes is)) (omega arith)
text_size_by false byte bytes is few = subst (λ (xs : List ℕ). length xs ≤ suc (length bytes)) (sym (text_more byte bytes is)) (omega (arith, few))

text_size : (bytes : List ℕ) → length (text_of bytes) ≤ length bytes
unfolding text_of
text_size [] = omega arith
text_size (byte ∷ bytes) = text_size_by (byte == 26) byte bytes refl (text_size bytes)

records_size : (seen : ℕ → Option (List ℕ)) (n : ℕ) → length (first_bytes seen n) ≡ 128 * n
unfolding first_bytes
records_size seen zero = refl
records_size seen (suc n) =
    let last = in_width 128 (unwrap_or (seen n) []) in
    let size : length last ≡ 128 = length_in_width 128 (unwrap_or (seen n) []) in
    omega (arith, size, records_size seen n, length-append (first_bytes seen n) last)

-- each file of a drive has a text, as no directory entry goes beyond a file's last extent

record IsGap (seen : ℕ → Option (List ℕ)) (m : ℕ) : Type 0 where
  place : ℕ
  below : place < m
  before : (n : ℕ) → n < place → is_some (seen n) ≡ true
  none : seen place ≡ None

gap_below : (seen : ℕ → Option (List ℕ)) (m : ℕ) → ((n : ℕ) → n < m → is_some (seen n) ≡ true) ⊎ IsGap seen m
gap_below seen zero = inl (λ n less. absurd (omega (arith, less)))
gap_below seen (suc m) = elim (gap_below seen m) [
  | inl all ↦ by_next (seen m) refl all
  | inr gap ↦ inr (record { place = gap.place; below = omega (arith, gap.below); before = gap.before; none = gap.none })
] where
  by_next : (o : Option (List ℕ)) → seen m ≡ o → ((n : ℕ) → n < m → is_some (seen n) ≡ true) → ((n : ℕ) → n < suc m → is_some (seen n) ≡ true) ⊎ IsGap seen (suc m)
  by_next None is all = inr (record { place = m; below = omega arith; before = all; none = is })
  by_next (Some bytes) is all = inl (λ n less. elim (cases_lt n m) [
    | inl below ↦ all n below
    | inr past ↦ (let same : n ≡ m = omega (arith, less, past) in ap (λ k. is_some (seen k)) same ∙ ap is_some is)
  ])

text_before : (seen : ℕ → Option (List ℕ)) (m : ℕ) → seen m ≡ None → (text : List ℕ) × HasText seen text × (length text ≤ 128 * m)
text_before seen m none = elim (gap_below seen (suc m)) [
  | inl all ↦ (let below : m < suc m = omega arith in absurd (some_none (seen m) (all m below) none))
  | inr gap ↦
      let bytes = first_bytes seen gap.place in (
        text_of bytes,
        record { count = gap.place; visible = gap.before; last = gap.none; text_is = refl },
        omega (arith, text_size bytes, records_size seen gap.place, gap.below),
      )
]

past_by : (drive : Drive) (file : FileName) (o : Option PhysicalExtent) → get drive.extents (entry_name drive.kind file 2048) ≡ o → IsSoundDrive drive
    → option_and_then (with_extent_there 2048) o ≡ None
past_by drive file None is sound = refl
past_by drive file (Some entry) is sound =
    let last = (sound.each file (entry_number drive.kind 2048) entry is).last in
    let past : nat_le 2048 entry.last ≡ false = grind (arith, nat_tests, last) in
    ap (λ (b : Bool). if b then Some entry else None) past

-- which has at most 262,144 records
pub file_has_text : (drive : Drive) (file : FileName) → IsSoundDrive drive → (text : List ℕ) × HasText (visible_of drive file) text × (length text ≤ 2 ^ 25)
unfolding visible_of extent_at
file_has_text drive file sound =
    text_before (visible_of drive file) 262144
    (ap (option_and_then (visible_in drive.kind 262144)) (past_by drive file (get drive.extents (entry_name drive.kind file 2048)) refl sound))

-- where its records are the same, so is its text
pub same_text : (seen other : ℕ → Option (List ℕ)) (text : List ℕ) → ((n : ℕ) → other n ≡ seen n) → HasText seen text → HasText other text
same_text seen other text same has = record {
  count = has.count;
  visible = λ n less. ap is_some (same n) ∙ has.visible n less;
  last = same has.count ∙ has.last;
  text_is = has.text_is ∙ ap text_of (same_bytes seen other (λ n. sym (same n)) has.count);
}
