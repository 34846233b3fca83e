use Rattle.std.proofs.Common.{ap, arith}
use Rattle.mpm_base.specs.declared.devices.Devices.{Devices}
use Rattle.mpm_processor.specs.Moving.{View, view_of}
use Rattle.mpm_replay.proofs.ReplayLaws.{no_devices_yet, goes_none, goes_more, replay_stops, replay_ends}
use Rattle.mpm_replay.proofs.replaying.advance_on.Goals as goal

pub loop-done-init : goal.loop-done-init
loop-done-init c =
    goes_none c.args.inside _ _ (ap (λ (d : Devices). view_of c.args.spec c.args.regs.now c.args.segment.now c.args.common.now d)
    (no_devices_yet c.new-devices.result c.new-devices.ensures.ready c.new-devices.ensures.last))

pub loop-done-preserved : goal.loop-done-preserved
loop-done-preserved c =
    let now : View = view_of c.args.spec c.loop-done.regs c.loop-done.segment c.loop-done.common c.loop-done.devices in
    let new : View = view_of c.args.spec c.advance.new.regs c.advance.new.segment c.advance.new.common c.advance.new.devices in
    goes_more c.args.inside c.loop-done.done _ now new c.advance.result c.loop-done.invariant c.advance.ensures c.in-None.is

pub returns-in-Some : goal.returns-in-Some
returns-in-Some c =
    let now : View = view_of c.args.spec c.loop-done.regs c.loop-done.segment c.loop-done.common c.loop-done.devices in
    let new : View = view_of c.args.spec c.advance.new.regs c.advance.new.segment c.advance.new.common c.advance.new.devices in
    replay_stops c.args.inside c.args.most c.loop-done.done c.in-Some.why _ now new c.advance.result (omega (arith, c.loop-done-test.true)) c.loop-done.invariant
    c.advance.ensures c.in-Some.is

pub returns : goal.returns
returns c =
    let now : View = view_of c.args.spec c.loop-done.regs c.loop-done.segment c.loop-done.common c.loop-done.devices in
    replay_ends c.args.inside c.args.most c.loop-done.done _ now (omega (arith, c.loop-done-test.false, c.loop-done.auto.done-end)) c.loop-done.invariant
