use Rattle.std.proofs.Common.{sym, subst, List}
use Rattle.mpm_clock.specs.declared.delays.Delay.{Delay}
use Rattle.mpm_clock.specs.Times.{Clock, IsClock, clock_without_delay}
use Rattle.mpm_clock.proofs.ClockLaws.{is_clock_without_delay}
use Rattle.mpm_clock.proofs.clock.Clock.leave.Goals as goal

pub invariant_of-self : goal.invariant_of-self
unfolding clock_without_delay
invariant_of-self c =
    let m = c.self.inside.moment in
    let clock : Clock = record { date = m.date; hour = m.hour; minute = m.minute; second = m.second; ticks = c.self.inside.ticks; delays = c.self.inside.delays } in
    let P : List Delay → Type 0 = λ ds. IsClock (record clock { delays = ds }) in
    subst P (sym c.leave.ensures) (is_clock_without_delay clock c.args.p c.self.invariant)
