use Rattle.z80_ext.proofs.Next.{unlisted_exactly}
use Rattle.z80_ext.proofs.step.Goals as goal

pub returns-clause-unlisted : goal.returns-clause-unlisted
returns-clause-unlisted g c =
    let exactly = unlisted_exactly c.args.regs.now (g.B.Bus.byte c.args.bus.now) (g.B.Bus.port_byte c.args.bus.now) in
    (λ illegal. exactly.0 (c.step_fetched.ensures.illegal.0 illegal), λ both. c.step_fetched.ensures.illegal.1 (exactly.1 both))
