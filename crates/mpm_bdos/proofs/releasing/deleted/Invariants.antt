use Rattle.std.proofs.Common.{◌≡◌, ℕ, ◌<◌, List, None, get_or, length}
use Rattle.mpm_mount.specs.Drives.{Drive}
use Rattle.mpm_mount.specs.Directories.{Stands}
use Rattle.mpm_opens.specs.Items.{place_at, file_where, is_given_back}
use Rattle.mpm_bdos.specs.Changes.{is_deleted_in}
use Rattle.mpm_bdos.proofs.releasing.deleted.Given as goal

abbrev pub invariant-loop-number : goal.invariant-loop-number
invariant-loop-number l = record {
  size : length l.deleted ≡ 64;
  done : (image : List ℕ) (drive : Drive) → Stands image l.mounted drive
      → (k : ℕ) → k < l.number → get_or l.deleted k None ≡ file_where (is_given_back l.p (is_deleted_in drive l.deletion)) (place_at l.opens.items k);
}
