use Rattle.std.proofs.Common.{◌≡◌, ◌≢◌, ◌∙◌, ap, sym, subst, ℕ, List, None, false}
use Rattle.mpm_ready.specs.Order.{Member}
use Rattle.mpm_ready.specs.Tables.{inserted}
use Rattle.mpm_consoles.specs.Consoles.{Consoles, HasUnit, WaitsForNoUnit, owner_of, owns, AreSoundConsoles}
use Rattle.mpm_consoles.specs.Handling.{listed}
use Rattle.mpm_consoles.proofs.SoundLaws.{sound_listed}
use Rattle.mpm_consoles.proofs.consoles.Consoles.enlist.Goals as goal

pub invariant_of-self : goal.invariant_of-self
unfolding listed
invariant_of-self c =
    let t : Consoles = record { consoles = c.self.inside.consoles.items; printers = c.self.inside.printers.items; waiters = c.self.inside.waiters } in
    let has = subst (λ (t : Consoles). HasUnit t c.args.unit) (sym c.self.view_is) c.requires.there in
    let nowhere = subst (λ (t : Consoles). WaitsForNoUnit t c.args.p) (sym c.self.view_is) c.requires.nowhere in
    let owned = subst (λ (t : Consoles). owner_of t c.args.unit ≢ None) (sym c.self.view_is) c.requires.owned in
    let other = subst (λ (t : Consoles). owns t c.args.p c.args.unit ≡ false) (sym c.self.view_is) c.requires.other in
    let put = c.insert.ensures.lists ∙ ap (λ (k : ℕ). inserted c.self.inside.waiters k (record { slot = c.args.p; priority = c.args.priority })) c.place.ensures.place in
    subst (λ (ws : List (List Member)). AreSoundConsoles (record t { waiters = ws })) (sym put)
    (sound_listed t c.args.p c.args.priority c.args.unit c.self.invariant has c.insert.ensures.slot nowhere owned other)
