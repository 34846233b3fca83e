-- The processes that wait for ticks of the clock, in the order in which they began. (MP/M II Programmer's Guide,
-- "Function 141: Delay"; System Guide, "Tick".)
use Rattle.std.specs.Prelude.{ℕ, ◌-◌, Bool, not, List, ◌==◌, count_by, filter, map}
use Rattle.mpm_clock.specs.declared.delays.Delay.{Delay}

-- how many of the delays are a process's
unfoldable pub delays_of : List Delay → ℕ → ℕ
delays_of delays p = count_by (λ d. d.slot == p) delays

-- a delay after a tick
abbrev pub lowered : Delay → Delay
lowered d = record d { ticks = d.ticks - 1 }

-- no ticks are left of a delay
abbrev pub has_ended : Delay → Bool
has_ended d = d.ticks == 0

-- who is woken by a tick: those whose delays end
unfoldable pub woken_by_tick : List Delay → List ℕ
woken_by_tick delays = map (λ d. d.slot) (filter has_ended (map lowered delays))

-- the other delays after it
unfoldable pub left_by_tick : List Delay → List Delay
left_by_tick delays = filter (λ d. not (has_ended d)) (map lowered delays)

-- the delays without a process's
unfoldable pub without_delay : List Delay → ℕ → List Delay
without_delay delays p = filter (λ d. not (d.slot == p)) delays
