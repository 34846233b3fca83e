-- What is so of the parts of an entry in the form.
use Rattle.std.specs.Prelude.{◌≡◌, ◌≤◌, ◌<◌, ℕ, List, length, true}
use Rattle.mpm_sched.specs.Dates.{year_of}
use Rattle.mpm_sched.specs.Entries.{is_form}

-- a text in the form, as long as a message at most
pub record IsEntryText (text : List ℕ) : Type 0 where
  pub form : is_form text ≡ true
  pub few : length text ≤ 128

-- the numbers of a date in the form: its year is one of a hundred, and month and day have two digits
pub record AreOfForm (y m d : ℕ) : Type 0 where
  pub first : 1978 ≤ y
  pub last : y ≤ 2077
  pub month : m < 100
  pub day : d < 100

-- the year of two digits
pub record IsYearOf (digits year : ℕ) : Type 0 where
  pub is : year ≡ year_of digits
  pub first : 1978 ≤ year
  pub last : year ≤ 2077
