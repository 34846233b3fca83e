use Rattle.std.proofs.Common.{sym, subst, List}
use Rattle.mpm_clock.specs.declared.delays.Delay.{Delay}
use Rattle.mpm_clock.specs.Times.{IsClock, new_clock}
use Rattle.mpm_clock.proofs.ClockLaws.{clock_new}
use Rattle.mpm_clock.proofs.clock.Clock.new.Goals as goal

pub invariant_of-result : goal.invariant_of-result
unfolding new_clock
invariant_of-result c =
    let P : List Delay → Type 0 =
    λ ds. IsClock (record { date = c.args.date; hour = c.args.hour; minute = c.args.minute; second = c.args.second; ticks = 0; delays = ds }) in
    subst P (sym c.new.ensures) (clock_new (record { date = c.args.date; hour = c.args.hour; minute = c.args.minute; second = c.args.second }) c.requires)
