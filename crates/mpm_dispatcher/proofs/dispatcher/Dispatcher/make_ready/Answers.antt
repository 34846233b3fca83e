use Rattle.std.proofs.Common.{◌∙◌, ◌++◌, ◌∷◌, [], take, sym, ap, arith}
use Rattle.std.proofs.lemmas.List.{take_more}
use Rattle.mpm_procs.specs.Table.{lives}
use Rattle.mpm_dispatcher.specs.Dispatch.{ready, all_ready, moved}
use Rattle.mpm_dispatcher.proofs.ReadyLaws.{all_ready_none, all_ready_more, live_at}
use Rattle.mpm_dispatcher.proofs.dispatcher.Dispatcher.make_ready.Goals as goal

pub loop-p-init : goal.loop-p-init
loop-p-init c = sym (all_ready_none c.args.self.now)

pub move_to-requires : goal.move_to-requires
move_to-requires c =
    let p = c.p-item.result in
    record {
      lives = ap (λ d. lives d.procs p) c.loop-p.invariant
          ∙ ap (lives c.args.self.now.procs) c.p-item.is
          ∙ live_at c.args.self.now.procs c.args.ps.now c.loop-p.p-index p c.requires c.loop-p-test.true;
      list = omega arith;
    }

pub loop-p-preserved : goal.loop-p-preserved
loop-p-preserved c =
    let ps = c.args.ps.now in
    let i = c.loop-p.p-index in
    let p = c.p-item.result in
    c.move_to.ensures
    ∙ ap (λ d. moved ready p d) c.loop-p.invariant
    ∙ sym (all_ready_more (take i ps) p c.args.self.now)
    ∙ ap (λ more. all_ready (take i ps ++ more ∷ []) c.args.self.now) c.p-item.is
    ∙ ap (λ all. all_ready all c.args.self.now) (sym (take_more ps i p c.loop-p-test.true))
