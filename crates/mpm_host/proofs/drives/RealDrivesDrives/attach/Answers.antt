use Rattle.std.proofs.Common.{◌≡◌, ◌<◌, ◌∙◌, length, ap, arith, rules}
use Rattle.std.proofs.lemmas.Grind.{common_steps}
use Rattle.mpm_host.specs.Attached.{RealDisks, after_attach}
use Rattle.mpm_host.proofs.Holding.{attaches}
use Rattle.mpm_host.proofs.drives.RealDrivesDrives.attach.Goals as goal

pub returns-in-Ok : goal.returns-in-Ok
returns-in-Ok c =
    let same = ap (λ (disks : RealDisks). length disks.held) c.self.view_is in
    let within : c.args.drive < length c.args.self.now.held = omega (arith, c.self.invariant, same, c.if-place-ge16.false, c.from-place.ensures) in
    let named : c.in-Ok.image.name ≡ c.args.name.now = search rules in
    record {
      ok = attaches c.args.self.now c.hold.new.self c.args.drive c.args.name.now c.in-Ok.image within named
          (c.hold.ensures ∙ ap (λ place. after_attach c.args.self.now place c.in-Ok.image) c.from-place.ensures);
      err = tt;
      told = first_of (search rules, grind (arith, common_steps));
      names = first_of (search rules, grind (arith, common_steps));
      count = first_of (search rules, grind (arith, common_steps));
      fresh = first_of (search rules, grind (arith, common_steps));
      unsynced = tt;
      beside = first_of (search rules, grind (arith, common_steps));
    }
