use Rattle.std.proofs.Common.{◌∙◌, true, false, sym, ap, arith}
use Rattle.mpm_queues.specs.Queues.{holds}
use Rattle.mpm_kernel.specs.Kernel.{Kernel}
use Rattle.mpm_kernel.proofs.EndingLaws.{returned_nothing, returned_by, returned_more, returned_all}
use Rattle.mpm_kernel.proofs.kernel.Kernel.return_held.Goals.{then-holds, else-holds}
use Rattle.mpm_kernel.proofs.kernel.Kernel.return_held.Goals as goal

pub loop-q-init : goal.loop-q-init
loop-q-init c = returned_nothing c.args.p c.args.self.now c.requires.leaves c.requires.few

pub loop-q-preserved : goal.loop-q-preserved
loop-q-preserved c =
    let p = c.args.p in
    let q = c.loop-q.q in
    let now = c.loop-q.self in
    let held = c.holds.ensures ∙ ap (λ (k : Kernel). holds k.queues p q) c.self.view_is in
    returned_more p c.args.self.now now c.if-holds.self q c.loop-q.invariant (elim c.if-holds.branch [
      | then-holds w ↦ returned_by p q true now c.if-holds.self (sym w.if-holds.true ∙ held) (w.self-is ∙ w.write_back.ensures)
      | else-holds w ↦ returned_by p q false now c.if-holds.self (sym w.if-holds.false ∙ held) w.self-is
    ])

pub returns : goal.returns
returns c = returned_all c.args.p c.args.self.now c.loop-q.self c.loop-q.q (omega arith) c.loop-q.invariant
