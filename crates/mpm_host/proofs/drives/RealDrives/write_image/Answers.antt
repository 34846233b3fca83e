use Rattle.std.proofs.Common.{length, ap, arith}
use Rattle.mpm_host.specs.Attached.{RealDisks}
use Rattle.mpm_host.proofs.Holding.{is_there}
use Rattle.mpm_host.proofs.drives.RealDrives.write_image.Goals as goal

pub bounds-self-inside-place : goal.bounds-self-inside-place
bounds-self-inside-place c =
    let same = ap (λ (disks : RealDisks). length disks.held) c.self.view_is in
    omega (arith, is_there c.args.self.now.held c.args.drive c.args.sector c.requires, c.self.invariant, same, c.from-place.ensures)
