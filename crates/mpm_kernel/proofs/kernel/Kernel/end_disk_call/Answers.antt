use Rattle.std.proofs.Common.{sym, subst, rules, arith}
use Rattle.std.proofs.lemmas.Grind.{common_steps}
use Rattle.mpm_dispatcher.specs.Dispatch.{IsReady}
use Rattle.mpm_dispatcher.specs.declared.dispatcher.Dispatcher.{Dispatcher}
use Rattle.mpm_kernel.specs.contracts.kernel.Kernel.{the_view}
use Rattle.mpm_kernel.specs.Kernel.{IsSoundKernel}
use Rattle.mpm_kernel.specs.Disk.{IsOver}
use Rattle.mpm_kernel.proofs.DiskLaws.{sound_ready_again, ready_ready_again}
use Rattle.mpm_kernel.proofs.kernel.Kernel.end_disk_call.Goals as goal

pub returns : goal.returns
returns c =
    let before = the_view c.self.inside in
    let p = c.args.p in
    let P : Dispatcher → Type 0 = λ d. IsSoundKernel (record before { dispatcher = d }) in
    let sound = subst IsSoundKernel (sym c.self.view_is) c.requires.sound in
    let over = subst (IsOver p) (sym c.self.view_is) c.requires.over in
    record {
      kernel = first_of (search rules, grind (arith, common_steps));
      sound = subst P (sym c.make_one_ready.ensures) (sound_ready_again before p sound over);
      ready = subst (λ d. IsReady d p) (sym c.make_one_ready.ensures) (ready_ready_again before p sound over);
    }
