use Rattle.std.proofs.Common.{◌∙◌, sym, ap, subst}
use Rattle.mpm_procs.specs.declared.process.Process.{Process}
use Rattle.mpm_procs.specs.Table.{Lives}
use Rattle.mpm_service.specs.Disk.{entered}
use Rattle.mpm_dispatcher.specs.Dispatch.{IsReady, at_rest}
use Rattle.mpm_kernel.specs.contracts.kernel.Kernel.{the_view}
use Rattle.mpm_kernel.specs.Kernel.{Kernel, IsSoundKernel}
use Rattle.mpm_kernel.specs.Disk.{waiting_for_disk}
use Rattle.mpm_kernel.proofs.DiskLaws.{waits_for_disk, sound_waiting_for_disk}
use Rattle.mpm_kernel.proofs.kernel.Kernel.wait_for_disk.Goals as goal

pub returns : goal.returns
returns c =
    let before = the_view c.self.inside in
    let p = c.args.p in
    let is = waits_for_disk before p c.rest.new.self c.enter.new.self (c.rest.ensures ∙ ap (at_rest p) c.unlist.ensures)
    (c.enter.ensures.service ∙ ap (λ (x : Process). entered before.disk p x.priority) c.get.ensures) in
    record {
      kernel = is ∙ ap (waiting_for_disk p) c.self.view_is;
      sound = subst IsSoundKernel (sym is)
          (sound_waiting_for_disk before p (subst IsSoundKernel (sym c.self.view_is) c.requires.caller.sound) (subst (λ (k : Kernel). Lives k.dispatcher.procs p) (sym c.self.view_is) c.requires.caller.lives)
          (subst (λ (k : Kernel). IsReady k.dispatcher p) (sym c.self.view_is) c.requires.caller.ready));
    }
