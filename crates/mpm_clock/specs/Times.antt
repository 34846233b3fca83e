-- The date and the time of day, and the clock that counts them. (MP/M II Programmer's Guide, "Function 104: Set Date and
-- Time", "Function 155: Get Date and Time"; System Guide, "Tick".)
use Rattle.std.specs.Prelude.{ℕ, ◌+◌, ◌*◌, ◌<◌, ◌≤◌, List, [], ◌++◌, ◌∷◌, nat_lt, min, if◌then◌else◌}
use Rattle.mpm_clock.specs.declared.moment.Moment.{Moment}
use Rattle.mpm_clock.specs.declared.delays.Delay.{Delay}
use Rattle.mpm_clock.specs.Delays.{delays_of, left_by_tick, without_delay}

-- a clock: the date and the time, the ticks of the second, and the delays in the order in which they began
pub record Clock : Type 0 where
  pub date : ℕ
  pub hour : ℕ
  pub minute : ℕ
  pub second : ℕ
  pub ticks : ℕ
  pub delays : List Delay

-- a time of day
pub record IsTime (moment : Moment) : Type 0 where
  pub hour : moment.hour < 24
  pub minute : moment.minute < 60
  pub second : moment.second < 60

-- the moment that a clock tells
abbrev pub moment_of : Clock → Moment
moment_of clock = record { date = clock.date; hour = clock.hour; minute = clock.minute; second = clock.second }

-- a clock at a moment
abbrev pub at_moment : Clock → Moment → Clock
at_moment clock moment =
    record clock { date = moment.date; hour = moment.hour; minute = moment.minute; second = moment.second }

-- a clock that was set: the second begins
unfoldable pub set_to : Clock → Moment → Clock
set_to clock moment = record (at_moment clock moment) { ticks = 0 }

-- a clock that begins at a moment, for which nobody waits
unfoldable pub new_clock : Moment → Clock
new_clock moment = record {
  date = moment.date;
  hour = moment.hour;
  minute = moment.minute;
  second = moment.second;
  ticks = 0;
  delays = [];
}

-- one second later; midnight raises the date up to its last, 65,535
unfoldable pub second_later : Moment → Moment
second_later moment =
    if nat_lt moment.second 59 then record moment { second = moment.second + 1 }
    else (if nat_lt moment.minute 59 then record moment { minute = moment.minute + 1; second = 0 }
    else (if nat_lt moment.hour 23 then record moment { hour = moment.hour + 1; minute = 0; second = 0 }
    else (record { date = min (moment.date + 1) 65535; hour = 0; minute = 0; second = 0 })))

-- the time goes on by a tick: 60 ticks are a second
unfoldable pub tick_later : Clock → Clock
tick_later clock =
    if nat_lt clock.ticks 59 then record clock { ticks = clock.ticks + 1 }
    else (set_to clock (second_later (moment_of clock)))

-- a tick: the time goes on, and each delay is lowered
unfoldable pub ticked : Clock → Clock
ticked clock = record (tick_later clock) { delays = left_by_tick clock.delays }

-- a process waits for so many ticks from now on
unfoldable pub delayed : Clock → ℕ → ℕ → Clock
delayed clock p ticks = record clock { delays = clock.delays ++ record { slot = p; ticks = ticks } ∷ [] }

-- a process waits no more
unfoldable pub clock_without_delay : Clock → ℕ → Clock
clock_without_delay clock p = record clock { delays = without_delay clock.delays p }

-- what is so of a clock at any time: it tells a time of day, and each of 32 processes waits at most once
pub record IsClock (clock : Clock) : Type 0 where
  pub time : IsTime (moment_of clock)
  pub ticks : clock.ticks < 60
  pub once : (p : ℕ) → delays_of clock.delays p ≤ 1
  pub below : (p : ℕ) → 0 < delays_of clock.delays p → p < 32

-- the seconds of the day, and the ticks of the day
abbrev pub seconds_of : Moment → ℕ
seconds_of moment = 3600 * moment.hour + 60 * moment.minute + moment.second

abbrev pub ticks_of : Clock → ℕ
ticks_of clock = 60 * seconds_of (moment_of clock) + clock.ticks
