use Rattle.std.proofs.Common.{◌∙◌, sym}
use Rattle.mpm_kernel.proofs.SoundLaws.{runner_lives}
use Rattle.mpm_kernel_scenes.proofs.ServingLaws.{serves_waiting}
use Rattle.mpm_kernel_scenes.proofs.disk.wait.Goals as goal

pub wait_for_disk-requires : goal.wait_for_disk-requires
wait_for_disk-requires c =
    let runs = sym c.running.ensures ∙ c.in-Some.is in
    record {
      caller = record { sound = c.requires.sound; lives = runner_lives c.args.kernel.now _ c.requires.sound runs; ready = c.requires.sound.runs _ runs };
      steps = c.requires.steps;
    }

pub returns : goal.returns
returns c = serves_waiting _ c.args.kernel.now _ c.requires c.wait_for_disk.ensures.sound c.wait_for_disk.ensures.kernel
