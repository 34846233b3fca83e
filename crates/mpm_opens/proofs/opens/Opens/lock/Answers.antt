use Rattle.std.proofs.Common.{◌≡◌, ◌∙◌, ap, sym, subst}
use Rattle.std.specs.Prelude.{IsSome}
use Rattle.mpm_opens.specs.Items.{place_at}
use Rattle.mpm_opens.specs.Locks.{lock_answer}
use Rattle.mpm_opens.specs.Opens.{OpenFiles, IsLive, process_of, file_of, locked, AreOpen, HasLocked, IfLocked, UnlessLocked}
use Rattle.mpm_opens.proofs.OpenLaws.{open_locked}
use Rattle.mpm_opens.proofs.LockLaws.{granted_lock, refused_lock}
use Rattle.mpm_opens.proofs.SoundLaws.{sound_locked, live_locked}
use Rattle.mpm_opens.proofs.opens.Opens.lock.Goals as goal

pub invariant_of-self : goal.invariant_of-self
invariant_of-self c =
    let P : OpenFiles → Type 0 = λ opens. IsSome (place_at opens.items c.args.item) in
    let live : IsSome (place_at c.self.inside.items c.args.item) = subst P (sym c.self.view_is) c.requires in
    rw (c.lock.ensures.locks, c.get-found.ensures.item) (open_locked c.self.inside.items c.self.inside.locks c.args.item c.args.number live c.self.invariant)

pub returns : goal.returns
unfolding locked
returns c =
    let item = c.args.item in
    let number = c.args.number in
    let old = c.args.self.now in
    let p = process_of old item in
    let file = file_of old item in
    let done = c.lock.result in
    let new : OpenFiles = record { items = c.self.inside.items; locks = c.lock.new.self } in
    let is : new ≡ locked old p file number =
    rw (c.lock.ensures.locks, c.get-found.ensures.item) (ap (λ (o : OpenFiles). locked o (process_of o item) (file_of o item) number) c.self.view_is) in
    let answer : done ≡ lock_answer old.locks p file number =
    c.lock.ensures.answer ∙ rw c.get-found.ensures.item (ap (λ (o : OpenFiles). lock_answer o.locks (process_of o item) (file_of o item) number) c.self.view_is) in
    let P : OpenFiles → Type 0 = λ opens. IfLocked done (HasLocked p file number old opens) in
    let R : OpenFiles → Type 0 = λ opens. UnlessLocked done (opens ≡ old) in
    let L : OpenFiles → Type 0 = λ opens. IsLive opens item in
    record {
      opens = is;
      answer = answer;
      locked = subst P (sym is) (granted_lock old p file number done answer);
      refused = subst R (sym is) (refused_lock old p file number done answer);
      live = subst L (sym is) (live_locked old item p file number c.requires);
      sound = subst AreOpen (sym is) (sound_locked old item number (subst AreOpen c.self.view_is c.self.invariant) c.requires);
    }
