use Rattle.std.proofs.Common.{sym, subst}
use Rattle.mpm_consoles.specs.Console.{typed}
use Rattle.mpm_consoles.specs.Consoles.{Consoles, HasConsole}
use Rattle.mpm_consoles.proofs.SoundLaws.{sound_set, sound_typed}
use Rattle.mpm_consoles.proofs.consoles.Consoles.type_key.Goals as goal

pub invariant_of-self : goal.invariant_of-self
invariant_of-self c =
    let t : Consoles = record { consoles = c.self.inside.consoles.items; printers = c.self.inside.printers.items; waiters = c.self.inside.waiters } in
    let has = subst (λ (t : Consoles). HasConsole t c.args.console) (sym c.self.view_is) c.requires in
    sound_set t c.args.console c.from.result c.index_mut.result.now c.type_key.new.self (typed c.args.byte) c.from.ensures c.index_mut.ensures.value c.type_key.ensures.made has
    (sound_typed t c.args.console c.args.byte c.self.invariant has)
