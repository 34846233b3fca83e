use Rattle.std.proofs.Common.{ℕ, Option, sym, subst, arith}
use Rattle.mpm_port.specs.Disks.{IsInsideDrive}
use Rattle.mpm_port.specs.MemoryDisks.{disks_of}
use Rattle.mpm_sectors.proofs.WriteLaws.{put_elsewhere}
use Rattle.mpm_disk_trials.proofs.caches.is_read_by_the_other.Goals as goal

pub read-requires : goal.read-requires
read-requires g c =
    let elsewhere = put_elsewhere 0 7 _ (disks_of c.args.drives.now) (disks_of c.write.new.drives) c.write.result c.write.ensures.ok c.write.ensures.err in
    record {
      inside = subst (λ (s : Option ℕ). IsInsideDrive s 7) (sym (elsewhere.sizes 1)) (c.requires.alias 7 (omega arith));
      coherent = c.write.ensures.coherent;
    }
