use Rattle.std.proofs.Common.{◌∙◌, ap}
use Rattle.mpm_kernel.specs.Kernel.{Kernel}
use Rattle.mpm_kernel.proofs.DiskStays.{disk_happened}
use Rattle.mpm_kernel_scenes.proofs.ServingLaws.{serves_same}
use Rattle.mpm_kernel_scenes.proofs.disk.tick.Goals as goal

pub event-requires : goal.event-requires
event-requires c = record { sound = c.requires.sound; comes = tt }

pub returns : goal.returns
returns c =
    serves_same c.args.kernel.now _ c.requires c.event.ensures.sound
    (ap (λ (k : Kernel). k.disk) c.event.ensures.kernel ∙ disk_happened _ c.args.kernel.now)
