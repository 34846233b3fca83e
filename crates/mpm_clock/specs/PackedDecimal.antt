-- Numbers in packed decimal, two digits in a byte, and the moments that are written with them. (MP/M II Programmer's Guide,
-- "Function 104: Set Date and Time", "Function 155: Get Date and Time".)
use Rattle.std.specs.Prelude.{ℕ, ◌+◌, ◌*◌, ◌/◌, ◌%◌, Bool, List, [], ◌∷◌, ◌&&◌, nat_lt}
use Rattle.mpm_base.specs.Calls.{Taken, byte_in, word_at}
use Rattle.mpm_clock.specs.declared.moment.Moment.{Moment}

-- a number below 100 in packed decimal
abbrev pub packed : ℕ → ℕ
packed n = 16 * (n / 10) + n % 10

-- a byte of two digits, and their number
abbrev pub is_packed : ℕ → Bool
is_packed byte = nat_lt (byte / 16) 10 && nat_lt (byte % 16) 10

abbrev pub unpacked : ℕ → ℕ
unpacked byte = 10 * (byte / 16) + byte % 16

-- a byte is a number below a limit in packed decimal
abbrev pub is_packed_below : ℕ → ℕ → Bool
is_packed_below limit byte = is_packed byte && nat_lt (unpacked byte) limit

-- the moment that a call names by date, hour and minute
unfoldable pub named_moment : Taken → Moment
named_moment call = record { date = word_at call 0; hour = unpacked (byte_in call 2); minute = unpacked (byte_in call 3); second = 0 }

-- whether it names an hour and a minute of the day; there is each date
unfoldable pub names_time : Taken → Bool
names_time call = is_packed_below 24 (byte_in call 2) && is_packed_below 60 (byte_in call 3)

-- a date, an hour and a minute in four bytes
abbrev pub stamp : Moment → List ℕ
stamp moment = moment.date % 256 ∷ moment.date / 256 ∷ packed moment.hour ∷ packed moment.minute ∷ []
