use Rattle.std.proofs.Common.{◌≡◌}
use Rattle.mpm_opens.specs.Opens.{given_back}
use Rattle.mpm_marks.proofs.Freed.{freed}
use Rattle.mpm_marks.proofs.driving.free_drives.Given as goal

abbrev pub invariant-loop-drive : goal.invariant-loop-drive
invariant-loop-drive l = l.opens ≡ given_back l.initial.opens l.p (freed l.mask l.drive)
