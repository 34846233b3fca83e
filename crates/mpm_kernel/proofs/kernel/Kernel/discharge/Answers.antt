use Rattle.std.proofs.Common.{◌∙◌, length, sym, ap, subst, arith}
use Rattle.mpm_queues.specs.Queues.{holds}
use Rattle.mpm_procs.specs.Table.{Table}
use Rattle.mpm_kernel.specs.contracts.kernel.Kernel.{the_view}
use Rattle.mpm_kernel.specs.Kernel.{Kernel, IsSoundKernel, LivesInKernel, CompletedLive}
use Rattle.mpm_kernel.specs.Procedures.{given_back}
use Rattle.mpm_kernel.specs.Ending.{vacated, IsLeaving}
use Rattle.mpm_kernel.proofs.LeavingLaws.{sound_consoles_left}
use Rattle.mpm_kernel.proofs.EndingLaws.{sound_dropped, lives_dropped, leaves_given_back, few_given_back, leaves_messages_back, units_by, discharged_by, sound_discharged, live_discharged}
use Rattle.mpm_kernel.proofs.HoldingLaws.{nothing_held}
use Rattle.mpm_kernel.proofs.kernel.Kernel.discharge.Goals as goal

pub put_back-requires : goal.put_back-requires
put_back-requires c =
    subst (LivesInKernel c.args.p) (sym c.drop_out.ensures) (record {
      sound = sound_dropped c.args.p c.args.self.now c.requires.sound c.requires.lives;
      lives = lives_dropped c.args.p c.args.p c.args.self.now c.requires.lives;
    })

pub return_held-requires : goal.return_held-requires
return_held-requires c = record {
  leaves = subst (IsLeaving c.args.p) (sym (c.put_back.ensures.kernel ∙ ap (given_back c.args.p) c.drop_out.ensures))
      (leaves_given_back c.args.p c.args.self.now c.requires.sound c.requires.lives);
  few = omega (arith, ap (λ (k : Kernel). length k.dispatcher.completed) c.put_back.ensures.kernel, few_given_back c.args.p c.drop_out.new.self);
}

pub leave_consoles-requires : goal.leave_consoles-requires
leave_consoles-requires c =
    (leaves_messages_back c.args.p c.args.self.now c.drop_out.new.self c.put_back.new.self c.return_held.new.self c.requires.sound c.requires.lives
    c.drop_out.ensures c.put_back.ensures.kernel c.return_held.ensures).sound

pub leave_printers-requires : goal.leave_printers-requires
leave_printers-requires c =
    let afterwards = c.return_held.new.self in
    let leaves =
    leaves_messages_back c.args.p c.args.self.now c.drop_out.new.self c.put_back.new.self afterwards c.requires.sound c.requires.lives
    c.drop_out.ensures c.put_back.ensures.kernel c.return_held.ensures in
    subst IsSoundKernel (sym c.leave_consoles.ensures) (sound_consoles_left c.args.p (length afterwards.units.consoles) afterwards leaves.sound (omega arith))

pub returns : goal.returns
returns c =
    let p = c.args.p in
    let before = the_view c.self.inside in
    let left : Table → Kernel = λ procs. record before { dispatcher = record before.dispatcher { procs = procs } } in
    let is =
    discharged_by p c.args.self.now c.drop_out.new.self c.put_back.new.self c.return_held.new.self c.leave_printers.new.self _
    c.drop_out.ensures c.put_back.ensures.kernel c.return_held.ensures
    (units_by p c.return_held.new.self c.leave_consoles.new.self c.leave_printers.new.self c.leave_consoles.ensures c.leave_printers.ensures)
    (ap left c.end.ensures ∙ ap (vacated p) c.self.view_is) in
    record {
      kernel = is;
      sound = subst IsSoundKernel (sym is) (sound_discharged c.args.self.now p c.requires.sound c.requires.lives);
      live = subst CompletedLive (sym is) (live_discharged c.args.self.now p c.requires.sound c.requires.lives);
      nothing = λ q. ap (λ (kernel : Kernel). holds kernel.queues p q) is ∙ nothing_held c.args.self.now p q c.requires.sound c.requires.lives;
    }
