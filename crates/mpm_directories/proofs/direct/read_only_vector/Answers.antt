use Rattle.std.proofs.Common.{arith}
use Rattle.mpm_directories.proofs.Masks.{all_masked}
use Rattle.mpm_directories.proofs.direct.read_only_vector.Goals as goal

pub returns : goal.returns
returns c = all_masked _ c.loop-drive.mask c.loop-drive.drive (omega (arith, c.loop-drive-test.false, c.loop-drive.auto.drive-end)) c.loop-drive.invariant
