use Rattle.std.proofs.Common.{◌≡◌, ◌&&◌, is_some}
use Rattle.mpm_directories.specs.Places.{kind_at}
use Rattle.mpm_directories.specs.Direct.{is_protected}
use Rattle.mpm_directories.proofs.Masks.{mask_below}
use Rattle.mpm_directories.proofs.direct.read_only_vector.Given as goal

-- the mask of the drives so far
abbrev pub invariant-loop-drive : goal.invariant-loop-drive
invariant-loop-drive l = l.mask ≡ mask_below (λ number. is_some (kind_at l.mounted number) && is_protected l.protected number) l.drive
