use Rattle.std.proofs.Common.{sym, subst, arith}
use Rattle.mpm_kernel.specs.contracts.kernel.Kernel.{the_view}
use Rattle.mpm_kernel.specs.Kernel.{poll_list, IsSoundKernel}
use Rattle.mpm_kernel.proofs.SoundLaws.{listed}
use Rattle.mpm_kernel.proofs.kernel.Kernel.device_ready.Goals as goal

pub empty-woken-requires : goal.empty-woken-requires
empty-woken-requires c =
    let sound = subst IsSoundKernel (sym c.self.view_is) c.requires.sound in
    let below = c.requires.below in
    record {
      below = omega arith;
      other = omega arith;
      table = sound.table;
      live = λ p is. listed (the_view c.self.inside) p (poll_list c.args.device) sound is;
    }
