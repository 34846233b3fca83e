use Rattle.std.proofs.Common.{sym, subst}
use Rattle.mpm_consoles.specs.Console.{passed_to}
use Rattle.mpm_consoles.specs.Consoles.{Consoles, HasUnit, waiters_of, MayWait}
use Rattle.mpm_consoles.specs.Handling.{given}
use Rattle.mpm_base.specs.declared.unit.Unit.{Unit}
use Rattle.mpm_base.specs.declared.unit.Unit.TheVariants.{Console as ConsoleUnit}
use Rattle.mpm_consoles.proofs.SoundLaws.{sound_set, sound_given}
use Rattle.mpm_consoles.proofs.consoles.Consoles.give.Goals as goal

pub invariant_of-self : goal.invariant_of-self
unfolding given
invariant_of-self c =
    let t : Consoles = record { consoles = c.self.inside.consoles.items; printers = c.self.inside.printers.items; waiters = c.self.inside.waiters } in
    let has = subst (λ (u : Unit). HasUnit t u) c.in-Console.is (subst (λ (t : Consoles). HasUnit t c.args.unit) (sym c.self.view_is) c.requires.unit) in
    let waited = subst (λ (u : Unit). MayWait c.args.owner (waiters_of t u)) c.in-Console.is (subst (λ (t : Consoles). MayWait c.args.owner (waiters_of t c.args.unit)) (sym c.self.view_is) c.requires.waiters) in
    sound_set t c.in-Console.n c.from.result c.index_mut.result.now c.pass_to.new.self (passed_to c.args.owner) c.from.ensures c.index_mut.ensures.value c.pass_to.ensures has
    (sound_given t (ConsoleUnit c.in-Console.n) c.args.owner c.self.invariant has waited)
