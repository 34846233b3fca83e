use Rattle.std.proofs.Common.{sym, subst}
use Rattle.mpm_port.specs.Disks.{Disks, IsInsideDrive, size_of}
use Rattle.mpm_disk_trials.proofs.caches.read.Goals as goal

pub returns-in-Ok-clause-inside : goal.returns-in-Ok-clause-inside
returns-in-Ok-clause-inside g c = λ sector less. subst (λ (d : Disks). IsInsideDrive (size_of d 0) sector) (sym c.read.ensures.same.drives.images) (c.requires.inside sector less)

pub returns-in-Err-clause-inside : goal.returns-in-Err-clause-inside
returns-in-Err-clause-inside g c = λ sector less. subst (λ (d : Disks). IsInsideDrive (size_of d 0) sector) (sym c.read.ensures.same.drives.images) (c.requires.inside sector less)
