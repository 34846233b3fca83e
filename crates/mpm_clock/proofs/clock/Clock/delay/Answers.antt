use Rattle.std.proofs.Common.{◌∙◌, sym, subst, ap, List, arith}
use Rattle.mpm_clock.specs.declared.delays.Delay.{Delay}
use Rattle.mpm_clock.specs.Delays.{delays_of}
use Rattle.mpm_clock.specs.Times.{Clock, IsClock, delayed}
use Rattle.mpm_clock.proofs.ClockLaws.{clock_delayed}
use Rattle.mpm_clock.proofs.clock.Clock.delay.Goals as goal

pub invariant_of-self : goal.invariant_of-self
unfolding delayed
invariant_of-self c =
    let m = c.self.inside.moment in
    let clock : Clock = record { date = m.date; hour = m.hour; minute = m.minute; second = m.second; ticks = c.self.inside.ticks; delays = c.self.inside.delays } in
    let P : List Delay → Type 0 = λ ds. IsClock (record clock { delays = ds }) in
    subst P (sym c.push.ensures)
    (clock_delayed clock c.args.p c.args.ticks c.self.invariant (omega arith) (ap (λ s. delays_of s.delays c.args.p) c.self.view_is ∙ c.requires.once))
