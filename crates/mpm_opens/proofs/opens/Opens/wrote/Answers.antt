use Rattle.std.proofs.Common.{◌≡◌, ◌∙◌, not, ap, sym, subst}
use Rattle.std.specs.Prelude.{IsSome}
use Rattle.mpm_opens.specs.declared.kinds.Item.{Item}
use Rattle.mpm_opens.specs.Items.{place_at}
use Rattle.mpm_opens.specs.Opens.{OpenFiles, IsLive, AreOpen, HasNoted, item_of, written_at}
use Rattle.mpm_opens.proofs.OpenLaws.{with_written}
use Rattle.mpm_opens.proofs.FindingLaws.{written_is}
use Rattle.mpm_opens.proofs.SoundLaws.{sound_written, live_written, notes}
use Rattle.mpm_opens.proofs.opens.Opens.wrote.Goals as goal

pub invariant_of-self : goal.invariant_of-self
invariant_of-self c =
    let P : OpenFiles → Type 0 = λ opens. IsSome (place_at opens.items c.args.item) in
    let live : IsSome (place_at c.self.inside.items c.args.item) = subst P (sym c.self.view_is) c.requires in
    rw c.note_written.ensures (with_written c.self.inside.items c.self.inside.locks c.args.item live c.self.invariant)

pub returns : goal.returns
unfolding written_at
returns c =
    let item = c.args.item in
    let old = c.args.self.now in
    let new : OpenFiles = record { items = c.note_written.new.self; locks = c.self.inside.locks } in
    let is : new ≡ written_at old item = rw c.note_written.ensures (ap (λ (o : OpenFiles). written_at o item) c.self.view_is) in
    let sound : AreOpen old = subst AreOpen c.self.view_is c.self.invariant in
    let P : OpenFiles → Type 0 = λ opens. HasNoted item old opens in
    let L : OpenFiles → Type 0 = λ opens. IsLive opens item in
    record {
      opens = is ∙ written_is old item sound c.requires;
      first = ap (λ (found : Item). not found.has_written) c.get-found.ensures.item ∙ ap (λ (o : OpenFiles). not (item_of o item).has_written) c.self.view_is;
      noted = subst P (sym is) (notes old item c.requires);
      live = subst L (sym is) (live_written old item c.requires);
      sound = subst AreOpen (sym is) (sound_written old item sound c.requires);
    }
