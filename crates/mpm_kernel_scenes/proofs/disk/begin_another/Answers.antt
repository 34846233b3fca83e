use Rattle.mpm_kernel_scenes.proofs.ServingLaws.{serves_same}
use Rattle.mpm_kernel_scenes.proofs.disk.begin_another.Goals as goal

pub begin-requires : goal.begin-requires
begin-requires c = c.requires.sound

pub returns : goal.returns
returns c = serves_same c.args.kernel.now _ c.requires c.begin.ensures.sound c.begin.ensures.disk
