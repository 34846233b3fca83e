use Rattle.std.proofs.Common.{arith}
use Rattle.mpm_marks.proofs.Freed.{all_drives_freed}
use Rattle.mpm_marks.proofs.driving.free_drives.Goals as goal

pub returns : goal.returns
returns c =
    all_drives_freed c.args.opens.now c.loop-drive.opens c.args.p c.args.mask c.loop-drive.drive c.ranges.mask.fits c.loop-drive.invariant
    (omega (arith, c.loop-drive-test.false, c.loop-drive.auto.drive-end))
