use Rattle.std.proofs.Common.{◌≡◌, ◌∙◌, ap, sym, subst}
use Rattle.mpm_banks.specs.Sides.{reach_of}
use Rattle.mpm_procs.specs.Table.{Lives, process_in, with_process}
use Rattle.mpm_procs.specs.declared.process.Process.{Process}
use Rattle.mpm_kernel.specs.contracts.kernel.Kernel.{the_view}
use Rattle.mpm_kernel.specs.Kernel.{Kernel, IsSoundKernel, with_changed}
use Rattle.mpm_kernel.proofs.BurstLaws.{process_put, at_equal, burst_left, sound_burst}
use Rattle.mpm_kernel.proofs.kernel.Kernel.run_burst.Goals as goal

pub returns : goal.returns
returns g c =
    let p = c.args.p in
    let before = the_view c.self.inside in
    let lent = c.get_mut-process.result.now in
    let new = c.run.new in
    let after : Process = process_in (with_process before.dispatcher.procs p (record lent { regs = new.regs })) p in
    let put : after ≡ record lent { regs = new.regs } =
    process_put before p (record lent { regs = new.regs }) (subst IsSoundKernel (sym c.self.view_is) c.requires.process.sound)
    (subst (λ (k : Kernel). Lives k.dispatcher.procs p) (sym c.self.view_is) c.requires.process.lives) in
    let left : new.regs ≡ after.regs = ap (λ (x : Process). x.regs) (sym put) in
    let kernel =
    burst_left before p lent new.devices new.regs after.regs c.get_mut-process.ensures.value left
    ∙ ap (λ (k : Kernel). with_changed (record k { devices = new.devices }) p (record (process_in k.dispatcher.procs p) { regs = after.regs })) c.self.view_is in
    record {
      ran = at_equal
          (λ regs devices now. g.B.Burst.ran c.args.burst.now regs (reach_of c.args.banks.now c.args.seg) devices c.run.result now (reach_of new.self c.args.seg) new.devices)
          lent.regs _ before.devices _ new.regs _
          (ap (λ (x : Process). x.regs) c.get_mut-process.ensures.value ∙ ap (λ (k : Kernel). (process_in k.dispatcher.procs p).regs) c.self.view_is)
          (ap (λ (k : Kernel). k.devices) c.self.view_is) left c.run.ensures.ran;
      others = c.run.ensures.others;
      kernel = kernel;
      sound = subst IsSoundKernel (sym kernel) (sound_burst c.args.self.now new.devices p after.regs c.requires.process.sound c.requires.process.lives);
    }
