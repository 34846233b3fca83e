use Rattle.std.proofs.Common.{◌≡◌, ◌*◌, ◌≤◌, ℕ, List, Some, take}
use Rattle.std.specs.Prelude.{sum_by}
use Rattle.std.specs.List.{range_with_len}
use Rattle.mpm_port.specs.Disks.{size_of}
use Rattle.mpm_port.specs.MemoryDisks.{disks_of}
use Rattle.mpm_mount.specs.Drives.{Drive}
use Rattle.mpm_mount.specs.Directories.{Stands}
use Rattle.mpm_top.specs.Data.{weighed}
use Rattle.mpm_top.proofs.data.sum_of.Given as goal

abbrev pub invariant-loop-place : goal.invariant-loop-place
invariant-loop-place l = record {
  size : size_of (disks_of l.drives) 0 ≡ Some 4194304;
  same : disks_of l.drives ≡ disks_of l.initial.drives;
  small : l.sum ≤ 8160 * l.place;
  sum : (image : List ℕ) (files : Drive) → (disks_of l.initial.drives).image 0 ≡ Some image → Stands image l.mounted files
      → l.sum ≡ sum_by (weighed files) (take l.place (range_with_len 0 32));
}
