use Rattle.std.proofs.Common.{refl, sym, subst, rules, arith}
use Rattle.mpm_bdos.specs.Serving.{Kept, Serves}
use Rattle.mpm_bdos.specs.Turns.{FitsDrives, images_of}
use Rattle.mpm_bdos.specs.Asking.{HasTurnHeld}
use Rattle.mpm_bdos.proofs.AskingLaws.{turn_left}
use Rattle.mpm_bdos.proofs.HeldLaws.{held_again}
use Rattle.mpm_bdos.proofs.NextTurns.{next_served, next_stopped, next_progress}
use Rattle.std.proofs.lemmas.Grind.{common_steps}
use Rattle.mpm_bdos.proofs.bdos.Bdos.turn.Goals as goal

pub turn_service-requires : goal.turn_service-requires
turn_service-requires g c =
    let disks = g.D.Drives.disks in
    record {
      fits = subst (λ (kept : Kept). FitsDrives disks kept.mounted kept.cached c.args.drives.now) (sym c.self.view_is) c.requires.fits;
      left = subst (λ (kept : Kept). HasTurnHeld (disks c.args.drives.now) kept.mounted kept.service) (sym c.self.view_is)
          (turn_left disks c.args.self.now c.args.drives.now c.requires);
    }

pub invariant_of-self : goal.invariant_of-self
invariant_of-self g c =
    held_again c.self.inside.mounted c.turn_service.new.mounted c.self.inside.opens c.self.inside.service c.turn_service.new.service c.turn_service.ensures.kept c.turn_service.ensures.left.labels
    c.self.invariant

pub returns : goal.returns
returns g c = record {
  ok = let inside = c.self.inside in
      let now = c.turn_service.new in
      let does = c.turn_service.ensures in
      let disks = g.D.Drives.disks in
      let old : Kept = record { mounted = inside.mounted; cached = inside.cache; protected = inside.protected; opens = inside.opens; marks = inside.marks; searches = inside.searches; service = inside.service } in
      let new : Kept = record old { mounted = now.mounted; cached = now.cache; service = now.service } in
      λ s j serves turn. next_served disks old new c.args.drives.now now.drives s j c.args.steps.now now.steps c.turn_service.result does.ok does.idle
      (record { rest = refl; service = does.kept; places = does.left.places; labels = does.left.labels }) does.left.images
      (subst (λ one. Serves (images_of (disks c.args.drives.now)) one s j) (sym c.self.view_is) serves) turn;
  err = let disks = g.D.Drives.disks in
      let does = c.turn_service.ensures in
      λ s j serves turn. next_stopped (disks c.args.drives.now) (disks c.turn_service.new.drives) _ s j c.turn_service.result does.err does.done
      (subst (λ one. Serves (images_of (disks c.args.drives.now)) one s j) (sym c.self.view_is) serves) turn;
  progress = let disks = g.D.Drives.disks in
      let does = c.turn_service.ensures in
      λ s j serves. next_progress (disks c.args.drives.now) _ s j c.turn_service.result does.progress does.done
      (subst (λ one. Serves (images_of (disks c.args.drives.now)) one s j) (sym c.self.view_is) serves);
  idle = first_of (search rules, grind (arith, common_steps));
  done = first_of (search rules, grind (arith, common_steps));
  still = first_of (search rules, grind (arith, common_steps));
  left = first_of (search rules, grind (arith, common_steps));
  takes = first_of (search rules, grind (arith, common_steps));
  cause = first_of (search rules, grind (arith, common_steps));
}
