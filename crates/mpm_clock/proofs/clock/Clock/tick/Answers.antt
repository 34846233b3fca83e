use Rattle.std.proofs.Common.{◌≡◌, ◌∙◌, sym, ap, subst, List}
use Rattle.mpm_clock.specs.declared.delays.Delay.{Delay}
use Rattle.mpm_clock.specs.Delays.{left_by_tick, woken_by_tick}
use Rattle.mpm_clock.specs.Times.{Clock, IsClock, tick_later, ticked}
use Rattle.mpm_clock.proofs.ClockLaws.{clock_delays_ticked, delays_later}
use Rattle.mpm_clock.proofs.clock.Clock.tick.Goals as goal

pub invariant_of-self : goal.invariant_of-self
invariant_of-self c =
    let m = c.self.inside.moment in
    let clock : Clock = record { date = m.date; hour = m.hour; minute = m.minute; second = m.second; ticks = c.self.inside.ticks; delays = c.self.inside.delays } in
    let P : List Delay → Type 0 = λ ds. IsClock (record clock { delays = ds }) in
    subst P (sym c.tick.ensures.delays) (clock_delays_ticked clock c.self.invariant)

pub returns-clause-clock : goal.returns-clause-clock
unfolding ticked
returns-clause-clock c =
    let m = c.self.inside.moment in
    let clock : Clock = record { date = m.date; hour = m.hour; minute = m.minute; second = m.second; ticks = c.self.inside.ticks; delays = c.self.inside.delays } in
    let is : clock ≡ tick_later c.args.self.now = c.self.view_is ∙ c.pass.ensures in
    let with_delays : List Delay → Clock = λ ds. record clock { delays = ds } in
    let behind : Clock → Clock = λ k. record k { delays = left_by_tick c.args.self.now.delays } in
    ap with_delays (c.tick.ensures.delays ∙ ap left_by_tick (ap (λ k. k.delays) is ∙ delays_later c.args.self.now))
    ∙ ap behind is

pub returns-clause-woken : goal.returns-clause-woken
returns-clause-woken c =
    c.tick.ensures.woken ∙ ap woken_by_tick (ap (λ k. k.delays) (c.self.view_is ∙ c.pass.ensures) ∙ delays_later c.args.self.now)
