use Rattle.std.proofs.Common.{ap}
use Rattle.mpm_kernel.specs.Kernel.{Kernel}
use Rattle.mpm_kernel_scenes.proofs.ServingLaws.{serves_same, serves_unserved}
use Rattle.mpm_kernel_scenes.proofs.disk.finish.Goals as goal

pub returns : goal.returns
returns c =
    let middle = c.finish_disk_call-left.new.self in
    let finished = serves_unserved c.args.kernel.now middle c.requires c.finish_disk_call-left.ensures.sound c.finish_disk_call-left.ensures.kernel c.finish_disk_call-left.ensures.begun in
    serves_same middle _ finished c.end_disk_call.ensures.sound (ap (λ (k : Kernel). k.disk) c.end_disk_call.ensures.kernel)
