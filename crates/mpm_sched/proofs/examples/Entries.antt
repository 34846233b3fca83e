-- Worked examples of dates and of entries.
use Rattle.std.proofs.Common.{◌≡◌, true, false, List, ℕ, ◌∷◌, ◌++◌, Some, None, refl, arith}
use Rattle.std.specs.Prelude.{pos, codes, ⊤}
use Rattle.mpm_base.specs.Lists.{in_width, zeros}
use Rattle.jiff_core.specs.Calendar.{day_count}
use Rattle.jiff_core.proofs.MarchLemmas.{day_count-early, day_count-late}
use Rattle.mpm_sched.proofs.DateLaws.{day_zero}
use Rattle.mpm_sched.specs.Dates.{date_number, is_date}
use Rattle.mpm_sched.specs.Entries.{entry_of}
use Rattle.mpm_sched.specs.declared.entry.SchedEntry.{SchedEntry}

leap_day_1980 : day_count (pos 1980) 2 29 ≡ 4375664
leap_day_1980 = day_count-early (pos 1980) 11979 2 29 refl (omega arith) (omega arith) (omega arith)

-- 29 February 1980
pub date_of_leap_day : date_number 1980 2 29 ≡ 790
unfolding date_number
date_of_leap_day = omega (arith, leap_day_1980, day_zero)

last_day : day_count (pos 2077) 12 31 ≡ 4411399
last_day = day_count-late (pos 2077) 12077 12 31 refl (omega arith) (omega arith) (omega arith)

-- 31 December 2077
pub date_of_last_day : date_number 2077 12 31 ≡ 36525
unfolding date_number
date_of_last_day = omega (arith, last_day, day_zero)

-- 29 February of 1981 isn't there, and that of 2000 is
pub no_leap_day : is_date 1981 2 29 ≡ false
no_leap_day = refl

pub leap_day : is_date 2000 2 29 ≡ true
leap_day = refl

-- an entry of that day, as it comes in a message: with the space before it, and zeros after it; a text after CR doesn't count
unfoldable pub entries : ⊤
unfolding entry_of in_width zeros
entries = tt

abbrev message : List ℕ → List ℕ
message text = in_width 128 text

abbrev keep : SchedEntry
keep = record { date = date_number 1980 2 29; hour = 14; minute = 30; console = 0; length = 4; command = in_width 128 (codes "KEEP") }

pub leap_day_entry : entry_of (message (codes " 02/29/80 14:30 0 KEEP")) ≡ Some keep
unfolding entries
leap_day_entry = refl

pub before_return : entry_of (message (codes "02/29/80 14:30 0 KEEP" ++ 13 ∷ codes "X")) ≡ Some keep
unfolding entries
before_return = refl

-- a day that the calendar lacks, an hour 24, a minute 60, a month 0, a month of 30 days
pub no_such_day : entry_of (message (codes "02/29/81 14:30 0 KEEP")) ≡ None
unfolding entries
no_such_day = refl

pub no_such_hour : entry_of (message (codes "02/29/80 24:00 0 KEEP")) ≡ None
unfolding entries
no_such_hour = refl

pub no_such_minute : entry_of (message (codes "02/29/80 23:60 0 KEEP")) ≡ None
unfolding entries
no_such_minute = refl

pub no_such_month : entry_of (message (codes "00/10/80 14:30 0 KEEP")) ≡ None
unfolding entries
no_such_month = refl

pub short_month : entry_of (message (codes "04/31/80 14:30 0 KEEP")) ≡ None
unfolding entries
short_month = refl

-- one digit, two spaces between parts, a tab before it, console 8, and no command
pub one_digit : entry_of (message (codes "2/29/80 14:30 0 KEEP")) ≡ None
unfolding entries
one_digit = refl

pub two_spaces : entry_of (message (codes "02/29/80  14:30 0 KEEP")) ≡ None
unfolding entries
two_spaces = refl

pub tab_before : entry_of (message (9 ∷ codes "02/29/80 14:30 0 KEEP")) ≡ None
unfolding entries
tab_before = refl

pub ninth_console : entry_of (message (codes "02/29/80 14:30 8 KEEP")) ≡ None
unfolding entries
ninth_console = refl

pub no_command : entry_of (message (codes "02/29/80 14:30 0 ")) ≡ None
unfolding entries
no_command = refl
