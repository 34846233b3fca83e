-- A text that is read as an entry is in the form, and one in the form is read so.
use Rattle.std.proofs.Common.{◌≡◌, ◌∙◌, ℕ, zero, suc, ◌+◌, ◌-◌, ◌*◌, ◌/◌, ◌%◌, ◌<◌, ◌≤◌, ◌==◌, ◌&&◌, Bool, true, false, List, [], ◌∷◌, ◌++◌, length, take, drop, Option, Some, None, refl, sym, ap, ap₂, subst, arith, take-append-drop, length-drop, eqb-true, drop_at, if◌then◌else◌}
use Rattle.std.specs.Prelude.{nat_le, nat_lt, slice_index}
use Rattle.std.specs.List.{prefix_len}
use Rattle.std.proofs.lemmas.Bool.{false≢true, and_parts, and_from}
use Rattle.std.proofs.lemmas.Bool.Decides.{nat_tests}
use Rattle.std.proofs.lemmas.Option.{same_Some}
use Rattle.mpm_messages.specs.Texts.{text_in, is_space, without_front}
use Rattle.mpm_names.proofs.Runs.{run_before, taken_passes}
use Rattle.mpm_sched.specs.Dates.{year_of, is_date, date_number, date_of}
use Rattle.mpm_sched.specs.Entries.{Written, spelled, HasEntryForm, is_time, is_moment, date_written, entry_of_parts, meaning, has_two, two_at, has_date, has_time, has_console, is_form, written, entry_in, entry_of, SpellsEntry, HasNoEntryForm}
use Rattle.mpm_sched.specs.declared.entry.SchedEntry.{SchedEntry}
use Rattle.mpm_sched.proofs.Numbers.{number_below, tens_of, ones_of, are_digits, number_of_digits}

and_false : (b c : Bool) → c ≡ false → (b && c) ≡ false
and_false true c e = e
and_false false c e = refl

false_and : (b c : Bool) → b ≡ false → (b && c) ≡ false
false_and true c e = absurd (cc)
false_and false c e = refl

-- what is so of a text that is read: each digit and each mark is at its place

pub record IsRead (t : List ℕ) : Type 0 where
  pub month : has_two t 0 ≡ true
  pub day : has_two t 3 ≡ true
  pub year : has_two t 6 ≡ true
  pub hour : has_two t 9 ≡ true
  pub minute : has_two t 12 ≡ true
  pub slash : slice_index t 2 ≡ 47
  pub second_slash : slice_index t 5 ≡ 47
  pub space : slice_index t 8 ≡ 32
  pub colon : slice_index t 11 ≡ 58
  pub second_space : slice_index t 14 ≡ 32
  pub third_space : slice_index t 16 ≡ 32
  pub low : 48 ≤ slice_index t 15
  pub high : slice_index t 15 ≤ 55
  pub long : 17 < length t

pub reads : (t : List ℕ) → is_form t ≡ true → IsRead t
reads t is =
    let parts = and_parts (has_date t) (has_time t && (has_console t && nat_lt 17 (length t))) is in
    let others = and_parts (has_time t) (has_console t && nat_lt 17 (length t)) parts.1 in
    let last = and_parts (has_console t) (nat_lt 17 (length t)) others.1 in
    let d = and_parts (has_two t 0) (slice_index t 2 == 47 && (has_two t 3 && (slice_index t 5 == 47 && has_two t 6))) parts.0 in
    let d₂ = and_parts (slice_index t 2 == 47) (has_two t 3 && (slice_index t 5 == 47 && has_two t 6)) d.1 in
    let d₃ = and_parts (has_two t 3) (slice_index t 5 == 47 && has_two t 6) d₂.1 in
    let d₄ = and_parts (slice_index t 5 == 47) (has_two t 6) d₃.1 in
    let h = and_parts (slice_index t 8 == 32) (has_two t 9 && (slice_index t 11 == 58 && has_two t 12)) others.0 in
    let h₂ = and_parts (has_two t 9) (slice_index t 11 == 58 && has_two t 12) h.1 in
    let h₃ = and_parts (slice_index t 11 == 58) (has_two t 12) h₂.1 in
    let c = and_parts (slice_index t 14 == 32) (nat_le 48 (slice_index t 15) && (nat_le (slice_index t 15) 55 && slice_index t 16 == 32)) last.0 in
    let c₂ = and_parts (nat_le 48 (slice_index t 15)) (nat_le (slice_index t 15) 55 && slice_index t 16 == 32) c.1 in
    let c₃ = and_parts (nat_le (slice_index t 15) 55) (slice_index t 16 == 32) c₂.1 in
    record {
      month = d.0;
      day = d₃.0;
      year = d₄.1;
      hour = h₂.0;
      minute = h₃.1;
      slash = eqb-true (slice_index t 2) 47 d₂.0;
      second_slash = eqb-true (slice_index t 5) 47 d₄.0;
      space = eqb-true (slice_index t 8) 32 h.0;
      colon = eqb-true (slice_index t 11) 58 h₃.0;
      second_space = eqb-true (slice_index t 14) 32 c.0;
      third_space = eqb-true (slice_index t 16) 32 c₃.1;
      low = at_least 48 (slice_index t 15) c₂.0;
      high = at_least (slice_index t 15) 55 c₃.0;
      long = less 17 (length t) last.1;
    }
  where
    at_least : (m n : ℕ) → nat_le m n ≡ true → m ≤ n
    at_least m n e = grind (arith, nat_tests, e)

    less : (m n : ℕ) → nat_lt m n ≡ true → m < n
    less m n e = grind (arith, nat_tests, e)

-- the first of a list that is long enough, and the rest
next : (t : List ℕ) (n : ℕ) → n < length t → drop n t ≡ slice_index t n ∷ drop (suc n) t
next [] n h = absurd (omega (arith, h))
next (x ∷ t) zero h = refl
next (x ∷ t) (suc n) h = next t n (omega (arith, h))

same_next : (t : List ℕ) (n : ℕ) (byte : ℕ) (rest : List ℕ) → n < length t → slice_index t n ≡ byte → drop (suc n) t ≡ rest → drop n t ≡ byte ∷ rest
same_next t n byte rest within here after = next t n within ∙ ap₂ (λ (b : ℕ) (r : List ℕ). b ∷ r) here after

spells_itself : (t : List ℕ) → IsRead t → t ≡ spelled (written t)
spells_itself t r =
    let w = written t in
    let at₁₆ = same_next t 16 32 w.command (omega (arith, r.long)) r.third_space refl in
    let at₁₅ = same_next t 15 (48 + w.console) _ (omega (arith, r.long)) (omega (arith, r.low)) at₁₆ in
    let at₁₄ = same_next t 14 32 _ (omega (arith, r.long)) r.second_space at₁₅ in
    let at₁₃ = same_next t 13 (48 + w.minute % 10) _ (omega (arith, r.long)) (sym (ones_of (slice_index t 12) (slice_index t 13) r.minute)) at₁₄ in
    let at₁₂ = same_next t 12 (48 + w.minute / 10) _ (omega (arith, r.long)) (sym (tens_of (slice_index t 12) (slice_index t 13) r.minute)) at₁₃ in
    let at₁₁ = same_next t 11 58 _ (omega (arith, r.long)) r.colon at₁₂ in
    let at₁₀ = same_next t 10 (48 + w.hour % 10) _ (omega (arith, r.long)) (sym (ones_of (slice_index t 9) (slice_index t 10) r.hour)) at₁₁ in
    let at₉ = same_next t 9 (48 + w.hour / 10) _ (omega (arith, r.long)) (sym (tens_of (slice_index t 9) (slice_index t 10) r.hour)) at₁₀ in
    let at₈ = same_next t 8 32 _ (omega (arith, r.long)) r.space at₉ in
    let at₇ = same_next t 7 (48 + w.year % 10) _ (omega (arith, r.long)) (sym (ones_of (slice_index t 6) (slice_index t 7) r.year)) at₈ in
    let at₆ = same_next t 6 (48 + w.year / 10) _ (omega (arith, r.long)) (sym (tens_of (slice_index t 6) (slice_index t 7) r.year)) at₇ in
    let at₅ = same_next t 5 47 _ (omega (arith, r.long)) r.second_slash at₆ in
    let at₄ = same_next t 4 (48 + w.day % 10) _ (omega (arith, r.long)) (sym (ones_of (slice_index t 3) (slice_index t 4) r.day)) at₅ in
    let at₃ = same_next t 3 (48 + w.day / 10) _ (omega (arith, r.long)) (sym (tens_of (slice_index t 3) (slice_index t 4) r.day)) at₄ in
    let at₂ = same_next t 2 47 _ (omega (arith, r.long)) r.slash at₃ in
    let at₁ = same_next t 1 (48 + w.month % 10) _ (omega (arith, r.long)) (sym (ones_of (slice_index t 0) (slice_index t 1) r.month)) at₂ in
    same_next t 0 (48 + w.month / 10) _ (omega (arith, r.long)) (sym (tens_of (slice_index t 0) (slice_index t 1) r.month)) at₁

has_form : (text : List ℕ) → is_form (without_front text) ≡ true → HasEntryForm text (written (without_front text))
has_form text is =
    let t = without_front text in
    let r = reads t is in
    record {
      spaces = take (prefix_len is_space text) text;
      parts = sym (take-append-drop (prefix_len is_space text) text) ∙ ap (λ (rest : List ℕ). take (prefix_len is_space text) text ++ rest) (spells_itself t r);
      before = taken_passes is_space text;
      month = number_below (slice_index t 0) (slice_index t 1) r.month;
      day = number_below (slice_index t 3) (slice_index t 4) r.day;
      year = number_below (slice_index t 6) (slice_index t 7) r.year;
      hour = number_below (slice_index t 9) (slice_index t 10) r.hour;
      minute = number_below (slice_index t 12) (slice_index t 13) r.minute;
      console = omega (arith, r.low, r.high);
      some = omega (arith, r.long, length-drop 17 t);
    }

-- back: an entry in the form is read as it is written

both : {b c : Bool} → b ≡ true → c ≡ true → (b && c) ≡ true
both {b} {c} one other = and_from b c one other

reads_form : (w : Written) → w.month < 100 → w.day < 100 → w.year < 100 → w.hour < 100 → w.minute < 100 → w.console < 8 → 0 < length w.command → is_form (spelled w) ≡ true
reads_form w month day year hour minute console some =
    let date : has_date (spelled w) ≡ true =
    both (are_digits w.month month) (both refl (both (are_digits w.day day) (both refl (are_digits w.year year)))) in
    let time : has_time (spelled w) ≡ true = both refl (both (are_digits w.hour hour) (both refl (are_digits w.minute minute))) in
    let digit : has_console (spelled w) ≡ true = both refl (both (from w.console) (both (to w.console console) refl)) in
    both date (both time (both digit (enough w some)))
  where
    from : (n : ℕ) → nat_le 48 (48 + n) ≡ true
    from n = grind (arith, nat_tests)

    to : (n : ℕ) → n < 8 → nat_le (48 + n) 55 ≡ true
    to n h = grind (arith, nat_tests, h)

    enough : (w : Written) → 0 < length w.command → nat_lt 17 (length (spelled w)) ≡ true
    enough w h = grind (arith, nat_tests, h)

abbrev with_numbers : ℕ → ℕ → ℕ → ℕ → ℕ → ℕ → List ℕ → Written
with_numbers month day year hour minute console command =
    record { month = month; day = day; year = year; hour = hour; minute = minute; console = console; command = command }

reads_numbers : (w : Written) → w.month < 100 → w.day < 100 → w.year < 100 → w.hour < 100 → w.minute < 100 → written (spelled w) ≡ w
reads_numbers w month day year hour minute =
    let two_of : ℕ → ℕ = λ n. 10 * (48 + n / 10 - 48) + (48 + n % 10 - 48) in
    let digit : 48 + w.console - 48 ≡ w.console = omega arith in
    ap₂ (λ m d. with_numbers m d (two_of w.year) (two_of w.hour) (two_of w.minute) (48 + w.console - 48) w.command) (number_of_digits w.month month) (number_of_digits w.day day)
    ∙ ap₂ (λ y h. with_numbers w.month w.day y h (two_of w.minute) (48 + w.console - 48) w.command) (number_of_digits w.year year) (number_of_digits w.hour hour)
    ∙ ap₂ (λ m c. with_numbers w.month w.day w.year w.hour m c w.command) (number_of_digits w.minute minute) digit

no_space : (n : ℕ) → is_space (48 + n) ≡ false
no_space n = grind (arith, nat_tests)

front_of_form : (text : List ℕ) (w : Written) → HasEntryForm text w → without_front text ≡ spelled w
front_of_form text w f =
    ap without_front f.parts ∙ ap (λ n. drop n (f.spaces ++ spelled w)) (run_before is_space f.spaces (spelled w) f.before (no_space (w.month / 10)))
    ∙ drop_at f.spaces (spelled w) (length f.spaces) refl

reads_entry : (text : List ℕ) (w : Written) → HasEntryForm text w → is_moment w ≡ true → (is_form (without_front text) && is_moment (written (without_front text))) ≡ true
reads_entry text w f moment =
    subst (λ t. (is_form t && is_moment (written t)) ≡ true) (sym (front_of_form text w f))
    (and_from (is_form (spelled w)) (is_moment (written (spelled w))) (reads_form w f.month f.day f.year f.hour f.minute f.console f.some)
    (ap is_moment (reads_numbers w f.month f.day f.year f.hour f.minute) ∙ moment))

-- what is read of a text in the form, by its date and its time

abbrev read_if : Bool → List ℕ → Option SchedEntry
read_if b t = if b then Some (meaning (written t)) else None

pub no_time : (t : List ℕ) (hour minute : ℕ) → hour ≡ two_at t 9 → minute ≡ two_at t 12 → is_time hour minute ≡ false → entry_in t ≡ None
no_time t hour minute h m none = ap (λ b. read_if b t) (and_false (is_form t) (is_moment (written t)) (and_false (is_date (year_of (two_at t 6)) (two_at t 0) (two_at t 3)) (is_time (two_at t 9) (two_at t 12)) (ap₂ is_time (sym h) (sym m) ∙ none)))

dated : (b : Bool) (number : ℕ) → (if b then Some number else None) ≡ None → b ≡ false
dated true number e = absurd (cc)
dated false number e = refl

dated_so : (b : Bool) (number date : ℕ) → (if b then Some number else None) ≡ Some date → (b ≡ true) × (number ≡ date)
dated_so true number date e = (refl, same_Some number date e)
dated_so false number date e = absurd (cc)

pub no_date : (t : List ℕ) → date_written (written t) ≡ None → entry_in t ≡ None
unfolding date_of
no_date t none =
    let w = written t in
    ap (λ b. read_if b t) (and_false (is_form t) (is_moment w) (false_and (is_date (year_of w.year) w.month w.day) (is_time w.hour w.minute) (dated (is_date (year_of w.year) w.month w.day) (date_number (year_of w.year) w.month w.day) none)))

pub entry_read : (t : List ℕ) (date hour minute : ℕ) → is_form t ≡ true → hour ≡ two_at t 9 → minute ≡ two_at t 12 → is_time hour minute ≡ true → date_written (written t) ≡ Some date
    → entry_in t ≡ Some (entry_of_parts date hour minute (written t))
unfolding date_of
entry_read t date hour minute form h m time there =
    let w = written t in
    let so = dated_so (is_date (year_of w.year) w.month w.day) (date_number (year_of w.year) w.month w.day) date there in
    ap (λ b. read_if b t) (and_from (is_form t) (is_moment w) form (and_from (is_date (year_of w.year) w.month w.day) (is_time w.hour w.minute) so.0 (ap₂ is_time (sym h) (sym m) ∙ time)))
    ∙ ap (λ d. Some (entry_of_parts d w.hour w.minute w)) so.1 ∙ ap₂ (λ a b. Some (entry_of_parts date a b w)) (sym h) (sym m)

-- an entry that is read is spelled by its message, and where none is read no parts of the message are one

abbrev chosen : Bool → Written → Option SchedEntry
chosen b w = if b then Some (meaning w) else None

spelled_by : (text : List ℕ) (entry : SchedEntry) (b : Bool) → (is_form (without_front text) && is_moment (written (without_front text))) ≡ b → chosen b (written (without_front text)) ≡ Some entry
    → (w : Written) × HasEntryForm text w × (is_moment w ≡ true) × (entry ≡ meaning w)
spelled_by text entry false e is = absurd (cc)
spelled_by text entry true e is =
    let t = without_front text in
    let parts = and_parts (is_form t) (is_moment (written t)) e in
    (written t, has_form text parts.0, parts.1, sym (same_Some (meaning (written t)) entry is))

pub entry_spelled : (message : List ℕ) (entry : SchedEntry) → entry_of message ≡ Some entry → SpellsEntry message entry
unfolding entry_of SpellsEntry
entry_spelled message entry is = spelled_by (text_in message) entry _ refl is

none_chosen : (b : Bool) (w : Written) → b ≡ true → chosen b w ≡ None → ⊥
none_chosen false w e is = false≢true e
none_chosen true w e is = absurd (cc)

pub none_spelled : (message : List ℕ) → entry_of message ≡ None → HasNoEntryForm message
unfolding entry_of HasNoEntryForm
none_spelled message is = λ w f moment.
    let t = without_front (text_in message) in
    none_chosen (is_form t && is_moment (written t)) (written t) (reads_entry (text_in message) w f moment) is
