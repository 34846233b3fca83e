use Rattle.mpm_residents.proofs.StandingLaws.{stands_after}
use Rattle.mpm_residents.proofs.cli.Cli.took.Goals as goal

pub returns-clause-stands : goal.returns-clause-stands
returns-clause-stands c = λ s. stands_after c.args.self.now c.take.new.self c.args.reply.now c.take.ensures s
