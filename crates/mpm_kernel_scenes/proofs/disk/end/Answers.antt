use Rattle.std.proofs.Common.{◌∙◌, sym}
use Rattle.mpm_kernel_scenes.proofs.ServingLaws.{serves_discharged}
use Rattle.mpm_kernel_scenes.proofs.disk.end.Goals as goal

pub discharge-requires : goal.discharge-requires
discharge-requires c = record { sound = c.requires.sound; lives = sym c.lives.ensures ∙ c.if-not-lives.false }

pub returns : goal.returns
returns c = serves_discharged _ c.args.kernel.now _ c.requires c.discharge.ensures.sound c.discharge.ensures.kernel
