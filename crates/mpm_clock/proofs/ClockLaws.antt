-- Laws of the clock: what it stays through, and what a tick is to the time of day.
use Rattle.std.proofs.Common.{◌≡◌, ◌≢◌, ◌∙◌, ℕ, ◌+◌, ◌%◌, ◌<◌, ◌≤◌, ◌==◌, if◌then◌else◌, List, [], ◌∷◌, ◌++◌, length, min, length-append, inl, inr, refl, sym, ap, arith}
use Rattle.std.specs.Prelude.{nat_lt}
use Rattle.std.proofs.lemmas.Bool.{cases_eq}
use Rattle.std.proofs.lemmas.Bool.Decides.{nat_tests}
use Rattle.mpm_base.proofs.Choices.{either}
use Rattle.mpm_clock.specs.declared.moment.Moment.{Moment}
use Rattle.mpm_clock.specs.declared.delays.Delay.{Delay}
use Rattle.mpm_clock.specs.Delays.{delays_of, left_by_tick, without_delay}
use Rattle.mpm_clock.specs.Times.{Clock, IsTime, IsClock, moment_of, set_to, new_clock, second_later, tick_later, delayed, clock_without_delay, seconds_of, ticks_of}
use Rattle.mpm_clock.proofs.DelayLaws.{delays_none, delays_ticked, delays_without_own, delays_without_other, delays_more_own, delays_more_other, few_delays}

pub clock_new : (moment : Moment) → IsTime moment → IsClock (new_clock moment)
unfolding new_clock
clock_new moment time = record {
  time = record { hour = time.hour; minute = time.minute; second = time.second };
  ticks = omega arith;
  once = λ p. omega (arith, delays_none p);
  below = λ p some. absurd (omega (arith, delays_none p));
}

pub clock_set : (clock : Clock) (moment : Moment) → IsClock clock → IsTime moment → IsClock (set_to clock moment)
unfolding set_to
clock_set clock moment is time = record {
  time = record { hour = time.hour; minute = time.minute; second = time.second };
  ticks = omega arith;
  once = is.once;
  below = is.below;
}

-- a process's delays after one more
delayed_by : (clock : Clock) (p ticks q : ℕ) → IsClock clock → delays_of clock.delays p ≡ 0
    → (delays_of (delayed clock p ticks).delays q ≤ 1) × (0 < delays_of (delayed clock p ticks).delays q → p < 32 → q < 32)
unfolding delayed
delayed_by clock p ticks q is none =
    let delay : Delay = record { slot = p; ticks = ticks } in
    elim (cases_eq q p) [
      | inl same ↦
          let here : delays_of clock.delays q ≡ 0 = ap (delays_of clock.delays) same ∙ none in
          ((omega (arith, here, delays_more_own clock.delays delay q (sym same))), (λ some below. omega (arith, same, below)))
      | inr other ↦
          let there = delays_more_other clock.delays delay q (λ e. other (sym e)) in
          ((omega (arith, there, is.once q)), (λ some below. is.below q (omega (arith, there, some))))
    ]

pub clock_delayed : (clock : Clock) (p ticks : ℕ) → IsClock clock → p < 32 → delays_of clock.delays p ≡ 0 → IsClock (delayed clock p ticks)
unfolding delayed
clock_delayed clock p ticks is below none = record {
  time = is.time;
  ticks = is.ticks;
  once = λ q. (delayed_by clock p ticks q is none).0;
  below = λ q some. (delayed_by clock p ticks q is none).1 some below;
}

-- there is room for one more
pub room_for_delay : (clock : Clock) (p : ℕ) → IsClock clock → p < 32 → delays_of clock.delays p ≡ 0 → length clock.delays < 32
unfolding delayed
room_for_delay clock p is below none =
    let more = clock.delays ++ record { slot = p; ticks = 0 } ∷ [] in
    let is_more = clock_delayed clock p 0 is below none in
    omega (arith, few_delays more is_more.once is_more.below, length-append clock.delays (record { slot = p; ticks = 0 } ∷ []))

left_at_most : (ds : List Delay) (p q : ℕ) → delays_of (without_delay ds p) q ≤ delays_of ds q
left_at_most ds p q = elim (cases_eq q p) [
  | inl same ↦ omega (arith, ap (delays_of (without_delay ds p)) same, delays_without_own ds p)
  | inr other ↦ omega (arith, delays_without_other ds p q other)
]

pub is_clock_without_delay : (clock : Clock) (p : ℕ) → IsClock clock → IsClock (clock_without_delay clock p)
unfolding clock_without_delay
is_clock_without_delay clock p is = record {
  time = is.time;
  ticks = is.ticks;
  once = λ q. omega (arith, left_at_most clock.delays p q, is.once q);
  below = λ q some. is.below q (omega (arith, left_at_most clock.delays p q, some));
}

-- the time goes on

pub time_later : (m : Moment) → IsTime m → IsTime (second_later m)
unfolding second_later
time_later m is =
    either IsTime (nat_lt m.second 59) _ _ (λ e. record { hour = is.hour; minute = is.minute; second = grind (arith, nat_tests, e) })
    (λ _. either IsTime (nat_lt m.minute 59) _ _ (λ e. record { hour = is.hour; minute = grind (arith, nat_tests, e); second = omega arith })
    (λ _. either IsTime (nat_lt m.hour 23) _ _ (λ e. record { hour = grind (arith, nat_tests, e); minute = omega arith; second = omega arith })
    (λ _. record { hour = omega arith; minute = omega arith; second = omega arith })))

pub clock_later : (clock : Clock) → IsClock clock → IsClock (tick_later clock)
unfolding tick_later
clock_later clock is =
    either IsClock (nat_lt clock.ticks 59) _ _
    (λ e. record { time = is.time; ticks = grind (arith, nat_tests, e); once = is.once; below = is.below })
    (λ _. clock_set clock (second_later (moment_of clock)) is (time_later (moment_of clock) is.time))

-- the delays after a tick
pub clock_delays_ticked : (clock : Clock) → IsClock clock → IsClock (record clock { delays = left_by_tick clock.delays })
clock_delays_ticked clock is = record {
  time = is.time;
  ticks = is.ticks;
  once = λ q. omega (arith, delays_ticked clock.delays q, is.once q);
  below = λ q some. is.below q (omega (arith, delays_ticked clock.delays q, some));
}

pub delays_later : (clock : Clock) → (tick_later clock).delays ≡ clock.delays
unfolding tick_later set_to
delays_later clock = either (λ (c : Clock). c.delays ≡ clock.delays) (nat_lt clock.ticks 59) _ _ (λ _. refl) (λ _. refl)

-- a second is one more second of the day, of which there are 86,400; the date rises after the last, up to 65,535
pub seconds_later : (m : Moment) → IsTime m → seconds_of (second_later m) ≡ (seconds_of m + 1) % 86400
unfolding second_later
seconds_later m is =
    let P : Moment → Type 0 = λ later. seconds_of later ≡ (seconds_of m + 1) % 86400 in
    either P (nat_lt m.second 59) _ _ (λ a. grind (arith, nat_tests, is.hour, is.minute, is.second, a))
    (λ a. either P (nat_lt m.minute 59) _ _ (λ b. grind (arith, nat_tests, is.hour, is.minute, is.second, a, b))
    (λ b. either P (nat_lt m.hour 23) _ _ (λ d. grind (arith, nat_tests, is.hour, is.minute, is.second, a, b, d))
    (λ d. grind (arith, nat_tests, is.hour, is.minute, is.second, a, b, d))))

-- a tick is one more tick of the day, of which there are 5,184,000
pub ticks_later : (clock : Clock) → IsClock clock → ticks_of (tick_later clock) ≡ (ticks_of clock + 1) % 5184000
unfolding tick_later set_to
ticks_later clock is =
    let time = is.time in
    let P : Clock → Type 0 = λ later. ticks_of later ≡ (ticks_of clock + 1) % 5184000 in
    either P (nat_lt clock.ticks 59) _ _
    (λ a. grind (arith, nat_tests, time.hour, time.minute, time.second, a))
    (λ a. let last : clock.ticks ≡ 59 = grind (arith, nat_tests, is.ticks, a) in
    omega (arith, last, time.hour, time.minute, time.second, seconds_later (moment_of clock) time))

-- the date rises exactly after the day's last second, up to 65,535
pub date_later : (m : Moment) → IsTime m → (second_later m).date ≡ (if seconds_of m == 86399 then min (m.date + 1) 65535 else m.date)
unfolding second_later
date_later m is =
    let n = if seconds_of m == 86399 then min (m.date + 1) 65535 else m.date in
    let stays : seconds_of m ≢ 86399 → m.date ≡ n = λ other. grind (arith, nat_tests, other) in
    let rises : seconds_of m ≡ 86399 → min (m.date + 1) 65535 ≡ n = λ last. grind (arith, nat_tests, last) in
    let P : Moment → Type 0 = λ later. later.date ≡ n in
    either P (nat_lt m.second 59) _ _ (λ a. stays (grind (arith, nat_tests, is.hour, is.minute, is.second, a)))
    (λ a. either P (nat_lt m.minute 59) _ _ (λ b. stays (grind (arith, nat_tests, is.hour, is.minute, is.second, a, b)))
    (λ b. either P (nat_lt m.hour 23) _ _ (λ d. stays (grind (arith, nat_tests, is.hour, is.minute, is.second, a, b, d)))
    (λ d. rises (grind (arith, nat_tests, is.hour, is.minute, is.second, a, b, d)))))
