-- Dates of the years 1978 to 2077 lie after 31 December 1977, and their numbers fit into a word.
use Rattle.std.specs.Prelude.{nat_le, int_div}
use lib.Signed.{non_neg}
use mir.Syntax.{w16, w64}
use Rattle.std.proofs.lemmas.Bool.{and_from}
use Rattle.std.proofs.lemmas.Bool.Decides.{nat_tests}
use Rattle.std.proofs.Common.{true, Some, None, if◌then◌else◌, ap₂, subst, T, Fits, nat_abs, to_z, of_z, ◌≡◌, ◌∙◌, ℕ, ◌+◌, ◌-◌, ◌*◌, ◌/◌, ◌<◌, ◌≤◌, refl, sym, ap, arith, ℤ, pos, ◌-ℤ◌, ◌*ℤ◌, ◌≤ℤ◌}
use Rattle.jiff_core.specs.Calendar.{day_count, days_in_month, IsCivilDate}
use Rattle.jiff_core.specs.Date.{epoch_day}
use Rattle.mpm_sched.specs.Dates.{is_date, date_number, date_of}
use Rattle.jiff_core.specs.declared.civil.date.Date.{Date}
use Rattle.jiff_core.proofs.SignedLemmas.{signed_arith, back_small}
use Rattle.jiff_core.proofs.CalendarLemmas.{day_count-lt_year, days_from_civil-day_count}
use Rattle.jiff_core.proofs.DateLemmas.{civil}
use Rattle.jiff_core.proofs.MarchLemmas.{day_count-early, day_count-late}

-- 31 December 1977, which is counted as 0, and 1 January 2078
pub day_zero : day_count (pos 1977) 12 31 ≡ 4374874
day_zero = day_count-late (pos 1977) 11977 12 31 refl (omega arith) (omega arith) (omega arith)

pub day_past : day_count (pos 2078) 1 1 ≡ 4411400
day_past = day_count-early (pos 2078) 12077 1 1 refl (omega arith) (omega arith) (omega arith)

zero_is_date : IsCivilDate (pos 1977) 12 31
zero_is_date = ((omega (arith, signed_arith), omega (arith, signed_arith)), (omega arith, omega arith), (omega arith, omega arith))

pub is_later : (d : Date) → pos 1978 ≤ℤ d.year → day_count (pos 1977) 12 31 < day_count d.year d.month d.day
is_later d first = day_count-lt_year (pos 1977) 12 31 d.year d.month d.day zero_is_date (civil d).2.0 (omega (arith, signed_arith, first))

pub is_earlier : (d : Date) → d.year ≤ℤ pos 2077 → day_count d.year d.month d.day < day_count (pos 2078) 1 1
is_earlier d last = day_count-lt_year d.year d.month d.day (pos 2078) 1 1 (civil d) (omega arith) (omega (arith, signed_arith, last))

-- the days between two dates
pub days_between : (a b : Date) (n : ℕ) → n + day_count b.year b.month b.day ≡ day_count a.year a.month a.day → epoch_day a -ℤ epoch_day b ≡ pos n
days_between a b n e = omega (arith, signed_arith, e, days_from_civil-day_count a.year a.month a.day, days_from_civil-day_count b.year b.month b.day)

-- a date that the calendar has, by its year, month and day

at_least : (m n : ℕ) → m ≤ n → nat_le m n ≡ true
at_least m n h = grind (arith, nat_tests, h)

is_date_of : (y : ℤ) (year m d : ℕ) → y ≡ pos year → IsCivilDate y m d → is_date year m d ≡ true
is_date_of y year m d is c =
    let P : ℤ → Type 0 = λ z. IsCivilDate z m d in
    let so = subst P is c in
    and_from (nat_le 1 m) _ (at_least 1 m so.1.0)
    (and_from (nat_le m 12) _ (at_least m 12 so.1.1)
    (and_from (nat_le 1 d) _ (at_least 1 d so.2.0) (at_least d (days_in_month (pos year) m) so.2.1)))

same_pos : (m n : ℕ) → pos m ≡ pos n → m ≡ n
same_pos m n e = cc

pub date_is : (d : Date) (year month day n : ℕ) → d.year ≡ pos year → pos d.month ≡ pos month → pos d.day ≡ pos day
    → n + day_count (pos 1977) 12 31 ≡ day_count d.year d.month d.day → Some n ≡ date_of year month day
unfolding date_of date_number
date_is d year month day n y m e number =
    let months : d.month ≡ month = same_pos d.month month m in
    let days : d.day ≡ day = same_pos d.day day e in
    let there : is_date year d.month d.day ≡ true = is_date_of d.year year d.month d.day y (civil d) in
    let counted : n ≡ day_count (pos year) d.month d.day - day_count (pos 1977) 12 31 = omega (arith, number, ap (λ z. day_count z d.month d.day) y) in
    ap (λ k. Some k) counted ∙ sym (ap (λ b. if b then Some (day_count (pos year) d.month d.day - day_count (pos 1977) 12 31) else None) there)
    ∙ ap₂ (λ a b. if is_date year a b then Some (day_count (pos year) a b - day_count (pos 1977) 12 31) else None) months days

-- the hours between a date and 31 December 1977 are 24 for each day, and fit

hours_of : (n : ℕ) (nanos hours : ℤ) → nanos ≡ pos n *ℤ pos 86400000000000 → hours ≡ int_div nanos (pos 3600000000000) → hours ≡ pos (24 * n)
hours_of n nanos hours are is =
    let whole : n * 86400000000000 / 3600000000000 ≡ 24 * n = omega arith in
    is ∙ ap (λ z. int_div z (pos 3600000000000)) are ∙ ap pos whole

days_of : (n : ℕ) → n ≤ 40000 → to_z w64 (of_z w64 (int_div (to_z w64 (of_z w64 (pos (24 * n)))) (pos 24))) ≡ pos n
days_of n few =
    let whole : 24 * n / 24 ≡ n = omega arith in
    ap (λ z. to_z w64 (of_z w64 (int_div z (pos 24)))) (back_small w64 (pos (24 * n)) (omega (arith, few)))
    ∙ ap (λ k. to_z w64 (of_z w64 (pos k))) whole ∙ back_small w64 (pos n) (omega (arith, few))

pub record Numbered (d : Date) (hours : ℤ) : Type 0 where
  pub number : ℕ
  pub few : number ≤ 40000
  pub days : to_z w64 (of_z w64 (int_div (to_z w64 (of_z w64 hours)) (pos 24))) ≡ pos number
  pub counted : number + day_count (pos 1977) 12 31 ≡ day_count d.year d.month d.day

pub numbered : (d first : Date) (nanos hours : ℤ) → pos 1978 ≤ℤ d.year → d.year ≤ℤ pos 2077 → first.year ≡ pos 1977 → pos first.month ≡ pos 12 → pos first.day ≡ pos 31
    → nanos ≡ (epoch_day d -ℤ epoch_day first) *ℤ pos 86400000000000 → hours ≡ int_div nanos (pos 3600000000000) → Numbered d hours
numbered d first nanos hours low high y m e are is =
    let n = day_count d.year d.month d.day - day_count (pos 1977) 12 31 in
    let later = is_later d low in
    let few : n ≤ 40000 = omega (arith, is_earlier d high, later, day_zero, day_past) in
    let begins : day_count first.year first.month first.day ≡ day_count (pos 1977) 12 31 =
    ap (λ z. day_count z first.month first.day) y ∙ ap₂ (λ a b. day_count (pos 1977) a b) (same_pos first.month 12 m) (same_pos first.day 31 e) in
    let between : epoch_day d -ℤ epoch_day first ≡ pos n = days_between d first n (omega (arith, begins, later)) in
    record {
      number = n;
      few = few;
      days = ap (λ z. to_z w64 (of_z w64 (int_div (to_z w64 (of_z w64 z)) (pos 24)))) (hours_of n nanos hours (are ∙ ap (λ z. z *ℤ pos 86400000000000) between) is) ∙ days_of n few;
      counted = omega (arith, later);
    }

-- the number of a date, as it is cast, fits into a word
pub fits_word : (d : Date) (hours : ℤ) → Numbered d hours → T (non_neg (to_z w64 (of_z w64 (int_div (to_z w64 (of_z w64 hours)) (pos 24))))) × Fits w16 (nat_abs (to_z w64 (of_z w64 (int_div (to_z w64 (of_z w64 hours)) (pos 24)))))
fits_word d hours n =
    let P : ℤ → Type 0 = λ z. T (non_neg z) × Fits w16 (nat_abs z) in
    subst P (sym n.days) (tt, record { fits = omega (arith, n.few) })

pub is_number : (d : Date) (hours : ℤ) → Numbered d hours → nat_abs (to_z w64 (of_z w64 (int_div (to_z w64 (of_z w64 hours)) (pos 24)))) + day_count (pos 1977) 12 31 ≡ day_count d.year d.month d.day
is_number d hours n = ap (λ z. nat_abs z + day_count (pos 1977) 12 31) n.days ∙ n.counted
