use Rattle.std.proofs.Common.{arith}
use Rattle.mpm_kernel_scenes.proofs.ServingLaws.{serves_in_turns}
use Rattle.mpm_kernel_scenes.proofs.disk.play.Goals as goal

pub play_on-requires : goal.play_on-requires
play_on-requires c = serves_in_turns 20 c.in_ok-kernel.kernel _ (omega arith) (c.set_disk_turn.ensures.sound c.in_ok-kernel.ensures) c.set_disk_turn.ensures.kernel
