-- Worked examples, by computation.
use Rattle.std.proofs.Common.{◌≡◌, [], ◌∷◌, refl}
use Rattle.mpm_clock.specs.Delays.{woken_by_tick, left_by_tick}
use Rattle.mpm_clock.specs.Times.{second_later}

-- midnight of the last date
pub last_midnight : second_later (record { date = 65535; hour = 23; minute = 59; second = 59 }) ≡ record { date = 65535; hour = 0; minute = 0; second = 0 }
unfolding second_later
last_midnight = refl

-- two delays that end in one tick end in the order in which they began, and a third goes on
pub woken_in_order : woken_by_tick (record { slot = 9; ticks = 1 } ∷ record { slot = 2; ticks = 1 } ∷ record { slot = 4; ticks = 2 } ∷ []) ≡ 9 ∷ 2 ∷ []
unfolding woken_by_tick
woken_in_order = refl

pub left_of_three : left_by_tick (record { slot = 9; ticks = 1 } ∷ record { slot = 2; ticks = 1 } ∷ record { slot = 4; ticks = 2 } ∷ []) ≡ record { slot = 4; ticks = 1 } ∷ []
unfolding left_by_tick
left_of_three = refl
