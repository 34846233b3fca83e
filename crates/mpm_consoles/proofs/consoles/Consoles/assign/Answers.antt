use Rattle.std.proofs.Common.{sym, subst, Some}
use Rattle.mpm_consoles.specs.Consoles.{Consoles, HasUnit, waiters_of, MayWait}
use Rattle.mpm_base.specs.declared.unit.Unit.TheVariants.{Console as ConsoleUnit}
use Rattle.mpm_consoles.proofs.SoundLaws.{for_called_off}
use Rattle.mpm_consoles.proofs.WaitLaws.{has_called_off}
use Rattle.mpm_consoles.proofs.consoles.Consoles.assign.Goals as goal

pub give-requires-clause-unit : goal.give-requires-clause-unit
give-requires-clause-unit c =
    subst (λ (t : Consoles). HasUnit t (ConsoleUnit c.args.console)) (sym c.call_off.ensures) (has_called_off _ c.args.to (ConsoleUnit c.args.console) c.requires)

pub give-requires-clause-waiters : goal.give-requires-clause-waiters
give-requires-clause-waiters c =
    subst (λ (t : Consoles). MayWait (Some c.args.to) (waiters_of t (ConsoleUnit c.args.console))) (sym c.call_off.ensures) (for_called_off _ (ConsoleUnit c.args.console) c.args.to)
