use Rattle.std.proofs.Common.{◌+◌, arith}
use Rattle.std.proofs.lemmas.Bool.Decides.{nat_tests}
use Rattle.std.proofs.lemmas.Nat.{mul-le}
use Rattle.mpm_interrupts.proofs.InterruptLaws.{no_tick_before}
use Rattle.mpm_interrupts.proofs.interrupts.Interrupts.next_tick.Goals as goal

pub returns : goal.returns
returns c step before =
    let every = c.args.self.now.tick_every in
    let next = c.saturating_add.result in
    let ticks = c.args.self.now.ticks in
    let times = mul-le next every (ticks + 1) every (grind (arith, nat_tests)) (grind (arith, nat_tests)) in
    no_tick_before step _ c.args.self.now (grind (arith, nat_tests)) (grind (arith, nat_tests, times)) before
