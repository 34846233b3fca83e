use Rattle.std.proofs.Common.{◌≡◌, ◌∙◌, ◌++◌, ◌∷◌, [], length, append_assoc, length-append, sym, ap, subst, arith}
use Rattle.std.proofs.lemmas.List.{append-nil}
use Rattle.mpm_ready.specs.Tables.{IsTable}
use Rattle.mpm_dispatcher.specs.Dispatch.{ready, moved, all_ready, slots_in}
use Rattle.mpm_dispatcher.specs.declared.dispatcher.Dispatcher.{Dispatcher}
use Rattle.mpm_dispatcher.proofs.ReadyLaws.{all_ready_none, all_ready_more}
use Rattle.mpm_dispatcher.proofs.WalkLaws.{AllLive, walks, nobody_left, few_in}
use Rattle.mpm_dispatcher.proofs.dispatcher.Dispatcher.empty.Goals as goal

pub loop-p-init : goal.loop-p-init
loop-p-init c = record {
  table = c.requires.table;
  live = c.requires.live;
  dispatcher = sym (ap (λ ps. all_ready ps c.args.self.now) c.new-woken.ensures ∙ all_ready_none c.args.self.now);
  rest = ap (λ ps. ps ++ slots_in c.args.self.now.lists c.args.list) c.new-woken.ensures;
}

pub move_to-requires : goal.move_to-requires
move_to-requires c = record {
  lives = (walks c.args.list c.in-Some.p c.loop-p.self c.loop-p.invariant.table c.loop-p.invariant.live c.requires.other (sym c.first.ensures.first ∙ c.in-Some.is)).lives;
  list = omega arith;
}

pub push-requires : goal.push-requires
push-requires c =
    let before = c.loop-p.self in
    let p = c.in-Some.p in
    let step = walks c.args.list p before c.loop-p.invariant.table c.loop-p.invariant.live c.requires.other (sym c.first.ensures.first ∙ c.in-Some.is) in
    let rest = slots_in (moved ready p before).lists c.args.list in
    let whole : c.loop-p.woken ++ p ∷ rest ≡ slots_in c.args.self.now.lists c.args.list =
    ap (λ ps. c.loop-p.woken ++ ps) (sym step.rest) ∙ c.loop-p.invariant.rest in
    omega (arith, ap length whole, length-append c.loop-p.woken (p ∷ rest), few_in c.args.self.now.lists c.args.list c.requires.table)

pub loop-p-smaller : goal.loop-p-smaller
loop-p-smaller c =
    let step = walks c.args.list c.in-Some.p c.loop-p.self c.loop-p.invariant.table c.loop-p.invariant.live c.requires.other (sym c.first.ensures.first ∙ c.in-Some.is) in
    omega (arith, ap length step.rest, ap (λ d. length (slots_in d.lists c.args.list)) c.move_to.ensures)

pub loop-p-preserved : goal.loop-p-preserved
loop-p-preserved c =
    let before = c.loop-p.self in
    let p = c.in-Some.p in
    let list = c.args.list in
    let step = walks list p before c.loop-p.invariant.table c.loop-p.invariant.live c.requires.other (sym c.first.ensures.first ∙ c.in-Some.is) in
    let P : Dispatcher → Type 0 = λ d. IsTable d.lists in
    let Q : Dispatcher → Type 0 = λ d. AllLive d list in
    record {
      table = subst P (sym c.move_to.ensures) step.table;
      live = subst Q (sym c.move_to.ensures) step.live;
      dispatcher = c.move_to.ensures
          ∙ ap (λ d. moved ready p d) c.loop-p.invariant.dispatcher
          ∙ sym (all_ready_more c.loop-p.woken p c.args.self.now)
          ∙ ap (λ ps. all_ready ps c.args.self.now) (sym c.push.ensures);
      rest = ap (λ ps. ps ++ slots_in c.move_to.new.self.lists list) c.push.ensures
          ∙ ap (λ d. (c.loop-p.woken ++ p ∷ []) ++ slots_in d.lists list) c.move_to.ensures
          ∙ append_assoc c.loop-p.woken (p ∷ []) (slots_in (moved ready p before).lists list)
          ∙ ap (λ ps. c.loop-p.woken ++ ps) (sym step.rest)
          ∙ c.loop-p.invariant.rest;
    }

pub returns : goal.returns
returns c =
    let none = nobody_left c.args.list c.loop-p.self (sym c.first.ensures.first ∙ c.in_default.is) in
    let woken = sym (append-nil c.loop-p.woken) ∙ ap (λ ps. c.loop-p.woken ++ ps) (sym none) ∙ c.loop-p.invariant.rest in
    record {
      dispatcher = c.loop-p.invariant.dispatcher ∙ ap (λ ps. all_ready ps c.args.self.now) woken;
      woken = woken;
    }
