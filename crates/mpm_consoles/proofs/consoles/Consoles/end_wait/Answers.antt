use Rattle.std.proofs.Common.{sym, subst, List}
use Rattle.mpm_ready.specs.Order.{Member}
use Rattle.mpm_consoles.specs.Consoles.{Consoles, AreSoundConsoles}
use Rattle.mpm_consoles.specs.Handling.{unlisted}
use Rattle.mpm_consoles.proofs.SoundLaws.{sound_unlisted}
use Rattle.mpm_consoles.proofs.consoles.Consoles.end_wait.Goals as goal

pub invariant_of-self : goal.invariant_of-self
unfolding unlisted
invariant_of-self c =
    let t : Consoles = record { consoles = c.self.inside.consoles.items; printers = c.self.inside.printers.items; waiters = c.self.inside.waiters } in
    subst (λ (ws : List (List Member)). AreSoundConsoles (record t { waiters = ws })) (sym c.remove.ensures.lists) (sound_unlisted t c.args.p c.self.invariant)
