use Rattle.std.proofs.Common.{◌≡◌, ap, sym, subst}
use Rattle.mpm_opens.specs.Locks.{is_lock_on}
use Rattle.mpm_opens.specs.Opens.{OpenFiles, IsLive, process_of, file_of, unlocked, AreOpen, HasUnlocked}
use Rattle.mpm_opens.proofs.OpenLaws.{locks_freed}
use Rattle.mpm_opens.proofs.LeavingLaws.{unlocks}
use Rattle.mpm_opens.proofs.SoundLaws.{sound_unlocked, live_unlocked}
use Rattle.mpm_opens.proofs.opens.Opens.unlock.Goals as goal

pub invariant_of-self : goal.invariant_of-self
invariant_of-self c =
    let found = c.get-found.result in
    rw c.give_back.ensures (locks_freed c.self.inside.items c.self.inside.locks found.process (is_lock_on found.file c.args.number) c.self.invariant)

pub returns : goal.returns
unfolding unlocked
returns c =
    let item = c.args.item in
    let number = c.args.number in
    let old = c.args.self.now in
    let p = process_of old item in
    let file = file_of old item in
    let new : OpenFiles = record { items = c.self.inside.items; locks = c.give_back.new.self } in
    let is : new ≡ unlocked old p file number =
    rw (c.give_back.ensures, c.get-found.ensures.item) (ap (λ (o : OpenFiles). unlocked o (process_of o item) (file_of o item) number) c.self.view_is) in
    let sound : AreOpen old = subst AreOpen c.self.view_is c.self.invariant in
    let P : OpenFiles → Type 0 = λ opens. HasUnlocked p file number old opens in
    let L : OpenFiles → Type 0 = λ opens. IsLive opens item in
    record {
      opens = is;
      unlocked = subst P (sym is) (unlocks old p file number sound);
      live = subst L (sym is) (live_unlocked old item p file number c.requires);
      sound = subst AreOpen (sym is) (sound_unlocked old p file number sound);
    }
