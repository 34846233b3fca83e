use Rattle.std.proofs.Common.{◌∙◌, refl, sym}
use Rattle.mpm_kernel.proofs.SoundLaws.{runner_lives, sound_process}
use Rattle.mpm_kernel_scenes.proofs.scene.set_interrupts.Goals as goal

pub regs_mut-regs-requires : goal.regs_mut-regs-requires
regs_mut-regs-requires c = runner_lives c.args.kernel.now _ c.requires (sym c.running.ensures ∙ c.in-Some.is)

pub returns : goal.returns
returns c =
    let runs = sym c.running.ensures ∙ c.in-Some.is in
    let lives = runner_lives c.args.kernel.now _ c.requires runs in
    sound_process c.args.kernel.now _ _ c.requires lives refl refl refl refl
