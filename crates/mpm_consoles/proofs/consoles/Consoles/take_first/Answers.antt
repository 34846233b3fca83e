use Rattle.std.proofs.Common.{sym, subst}
use Rattle.mpm_consoles.specs.Console.{without_first}
use Rattle.mpm_consoles.specs.Consoles.{Consoles, HasConsole}
use Rattle.mpm_consoles.specs.Handling.{first_taken}
use Rattle.mpm_consoles.proofs.SoundLaws.{sound_set, sound_take}
use Rattle.mpm_consoles.proofs.consoles.Consoles.take_first.Goals as goal

pub invariant_of-self : goal.invariant_of-self
unfolding first_taken
invariant_of-self c =
    let t : Consoles = record { consoles = c.self.inside.consoles.items; printers = c.self.inside.printers.items; waiters = c.self.inside.waiters } in
    let has = subst (λ (t : Consoles). HasConsole t c.args.console) (sym c.self.view_is) c.requires in
    sound_set t c.args.console c.from.result c.index_mut.result.now c.take.new.self without_first c.from.ensures c.index_mut.ensures.value c.take.ensures.made has
    (sound_take t c.args.console c.self.invariant has)
