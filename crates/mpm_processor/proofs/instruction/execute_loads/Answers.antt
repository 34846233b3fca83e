use Rattle.std.proofs.Common.{◌≡◌, ℕ, refl, subst, arith}
use Rattle.mpm_processor.specs.Moving.{View, Moves, view_of, moved}
use Rattle.mpm_gate.proofs.GateLaws.{none_below}
use Rattle.mpm_processor.proofs.MovingLaws.{moves_none, moves_more, view_is}
use Rattle.mpm_processor.proofs.instruction.execute_loads.Goals as goal

pub loop-done-init : goal.loop-done-init
loop-done-init c = record { moved = λ inside. moves_none inside 0 _ }

pub execute_load-requires : goal.execute_load-requires
execute_load-requires c = c.if-not-is_load_up.ensures.load c.loop-done.common refl

pub loop-done-preserved : goal.loop-done-preserved
loop-done-preserved c =
    let now : View = view_of c.args.spec c.loop-done.regs c.loop-done.segment c.loop-done.common c.loop-done.devices in
    let new : View = view_of c.args.spec c.execute_load.new.regs c.execute_load.new.segment c.execute_load.new.common c.execute_load.new.devices in
    record {
      moved = λ inside. moves_more inside c.loop-done.done 0 _ now new (c.loop-done.invariant.moved inside)
          (record {
            no_gate = none_below inside _ c.loop-done.regs.pc (c.if-not-is_load_up.ensures.below refl);
            listed = c.execute_load.ensures.listed;
          })
          (view_is new (moved 0 now) c.execute_load.ensures.registers c.execute_load.ensures.memory c.execute_load.ensures.devices);
    }

pub returns : goal.returns
returns c =
    let all : c.loop-done.done ≡ c.args.most = omega (arith, c.loop-done-test.false, c.loop-done.auto.done-end) in
    let before : View = view_of c.args.spec c.args.regs.now c.args.segment.now c.args.common.now c.args.devices.now in
    let now : View = view_of c.args.spec c.loop-done.regs c.loop-done.segment c.loop-done.common c.loop-done.devices in
    record { count = omega arith; moved = λ inside. subst (λ (n : ℕ). Moves inside n 0 before now) all (c.loop-done.invariant.moved inside) }
