use Rattle.std.proofs.Common.{◌≡◌, ◌*◌, vec_len}
use Rattle.mpm_disk_trials.proofs.caches.sectors.Given as goal

abbrev pub invariant-loop-sector : goal.invariant-loop-sector
invariant-loop-sector l = vec_len l.image ≡ 128 * l.sector
