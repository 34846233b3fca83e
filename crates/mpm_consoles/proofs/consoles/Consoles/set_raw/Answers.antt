use Rattle.std.proofs.Common.{sym, subst}
use Rattle.mpm_consoles.specs.Console.{with_raw}
use Rattle.mpm_consoles.specs.Consoles.{Consoles, HasConsole}
use Rattle.mpm_consoles.specs.Handling.{raw_set}
use Rattle.mpm_consoles.proofs.SoundLaws.{sound_set, sound_raw}
use Rattle.mpm_consoles.proofs.consoles.Consoles.set_raw.Goals as goal

pub invariant_of-self : goal.invariant_of-self
unfolding raw_set
invariant_of-self c =
    let t : Consoles = record { consoles = c.self.inside.consoles.items; printers = c.self.inside.printers.items; waiters = c.self.inside.waiters } in
    let has = subst (λ (t : Consoles). HasConsole t c.args.console) (sym c.self.view_is) c.requires in
    sound_set t c.args.console c.from.result c.index_mut.result.now c.set_raw.new.self (with_raw c.args.raw) c.from.ensures c.index_mut.ensures.value c.set_raw.ensures has
    (sound_raw t c.args.console c.args.raw c.self.invariant has)
