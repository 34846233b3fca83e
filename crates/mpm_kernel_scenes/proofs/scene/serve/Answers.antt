use Rattle.std.proofs.Common.{◌∙◌, sym, subst}
use Rattle.mpm_procs.proofs.MapLaws.{lives_after}
use Rattle.mpm_kernel.specs.Kernel.{IsSoundKernel, CompletedLive}
use Rattle.mpm_kernel.proofs.SoundLaws.{runner_lives, sound_call, sound_called, live_called}
use Rattle.mpm_kernel_scenes.proofs.scene.serve.Goals as goal

pub call_mut-call-requires : goal.call_mut-call-requires
call_mut-call-requires c = runner_lives c.args.kernel.now _ c.requires.sound (sym c.running.ensures ∙ c.in-Some.is)

pub call-requires : goal.call-requires
call-requires c =
    let runs = sym c.running.ensures ∙ c.in-Some.is in
    record {
      sound = sound_call c.args.kernel.now _ _ c.requires.sound;
      lives = lives_after _ _ _ _ ∙ runner_lives c.args.kernel.now _ c.requires.sound runs;
      ready = c.requires.sound.runs _ runs;
    }

pub returns-clause-sound : goal.returns-clause-sound
returns-clause-sound c =
    let runs = sym c.running.ensures ∙ c.in-Some.is in
    subst IsSoundKernel (sym c.call.ensures.yields.kernel)
    (sound_called _ _ (sound_call c.args.kernel.now _ _ c.requires.sound) (lives_after _ _ _ _ ∙ runner_lives c.args.kernel.now _ c.requires.sound runs)
    (c.requires.sound.runs _ runs))

pub returns-clause-live : goal.returns-clause-live
returns-clause-live c =
    let runs = sym c.running.ensures ∙ c.in-Some.is in
    subst CompletedLive (sym c.call.ensures.yields.kernel)
    (live_called _ _ (sound_call c.args.kernel.now _ _ c.requires.sound) (lives_after _ _ _ _ ∙ runner_lives c.args.kernel.now _ c.requires.sound runs)
    (c.requires.sound.runs _ runs))
