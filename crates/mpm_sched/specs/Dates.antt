-- Dates of the calendar, and the numbers by which the system counts them: 1 is 1 January 1978. (MP/M II Programmer's Guide,
-- "Function 105: Get Date and Time".)
use Rattle.std.specs.Prelude.{ℕ, ◌+◌, ◌-◌, Bool, ◌&&◌, nat_le, if◌then◌else◌, pos, Option, Some, None}
use Rattle.jiff_core.specs.Calendar.{days_in_month, day_count}

-- a year of two digits: 1978 to 2077
abbrev pub year_of : ℕ → ℕ
year_of year = if nat_le 78 year then 1900 + year else (2000 + year)

-- the calendar has the day
abbrev pub is_date : ℕ → ℕ → ℕ → Bool
is_date year month day = nat_le 1 month && (nat_le month 12 && (nat_le 1 day && nat_le day (days_in_month (pos year) month)))

-- the days from 31 December 1977 on
unfoldable pub date_number : ℕ → ℕ → ℕ → ℕ
date_number year month day = day_count (pos year) month day - day_count (pos 1977) 12 31

unfoldable pub date_of : ℕ → ℕ → ℕ → Option ℕ
date_of year month day = if is_date year month day then Some (date_number year month day) else None
