use Rattle.std.proofs.Common.{sym, subst}
use Rattle.mpm_consoles.specs.Console.{written}
use Rattle.mpm_consoles.specs.Consoles.{Consoles, HasUnit}
use Rattle.mpm_consoles.specs.Handling.{put_out}
use Rattle.mpm_base.specs.declared.unit.Unit.{Unit}
use Rattle.mpm_base.specs.declared.unit.Unit.TheVariants.{Console as ConsoleUnit}
use Rattle.mpm_consoles.proofs.SoundLaws.{sound_set, sound_output}
use Rattle.mpm_consoles.proofs.consoles.Consoles.write.Goals as goal

pub invariant_of-self : goal.invariant_of-self
unfolding put_out
invariant_of-self c =
    let t : Consoles = record { consoles = c.self.inside.consoles.items; printers = c.self.inside.printers.items; waiters = c.self.inside.waiters } in
    let has = subst (λ (u : Unit). HasUnit t u) c.in-Console.is (subst (λ (t : Consoles). HasUnit t c.args.unit) (sym c.self.view_is) c.requires) in
    sound_set t c.in-Console.n c.from.result c.index_mut.result.now c.write.new.self (written c.args.byte c.args.tabs) c.from.ensures c.index_mut.ensures.value c.write.ensures.made has
    (sound_output t (ConsoleUnit c.in-Console.n) c.args.byte c.args.tabs c.self.invariant has)
