use Rattle.std.proofs.Common.{ℕ, Option, sym, subst}
use Rattle.mpm_port.specs.Disks.{IsInsideDrive}
use Rattle.mpm_port.specs.MemoryDisks.{disks_of}
use Rattle.mpm_sectors.proofs.WriteLaws.{put_elsewhere}
use Rattle.mpm_disk_trials.proofs.caches.write.Goals as goal

pub returns-clause-inside : goal.returns-clause-inside
returns-clause-inside g c = λ sector less.
    let elsewhere = put_elsewhere 0 c.args.sector _ (disks_of c.args.drives.now) (disks_of c.write.new.drives) c.write.result c.write.ensures.ok c.write.ensures.err in
    subst (λ (s : Option ℕ). IsInsideDrive s sector) (sym (elsewhere.sizes 0)) (c.requires.inside sector less)
