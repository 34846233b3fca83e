use Rattle.std.proofs.Common.{◌∙◌, sym, ap, subst}
use Rattle.mpm_kernel.specs.contracts.kernel.Kernel.{the_view}
use Rattle.mpm_kernel.specs.Kernel.{Kernel, IsSoundKernel}
use Rattle.mpm_kernel.specs.Queueing.{OnlySystems, with_system_queue}
use Rattle.mpm_kernel.proofs.SystemQueues.{system_made, sound_system_queue}
use Rattle.mpm_kernel.proofs.kernel.Kernel.system_queue.Goals as goal

pub returns : goal.returns
returns c =
    let before = the_view c.self.inside in
    let sound = subst IsSoundKernel (sym c.self.view_is) c.requires.sound in
    let only = subst OnlySystems (sym c.self.view_is) c.requires.boot in
    let made = c.in-Ok.ensures in
    let is = system_made before c.args.name c.args.message_length c.args.count c.in-Ok.number c.make.new.self sound only made.number made.more in
    record {
      kernel = is ∙ ap (λ (k : Kernel). with_system_queue k c.args.name c.args.message_length c.args.count) c.self.view_is;
      sound = subst IsSoundKernel (sym is) (sound_system_queue before c.args.name c.args.message_length c.args.count sound only made.accepted);
    }
